-- Where each limit may be exceeded anywhere, all are kept.
use Rattle.std.proofs.Common.{◌-◌, ℕ, List, [], ◌∷◌}
use Rattle.chor_base.specs.declared.rule.Place.{Place}
use Rattle.chor_base.specs.declared.rule.Rule.{Rule}
use Rattle.chor_base.specs.declared.rule.Rule.TheVariants.{P2, P3}
use Rattle.chor_base.specs.declared.value.Sort.{Sort}
use Rattle.chor_lexer.specs.declared.token.Token.{Token}
use Rattle.source_grammar.specs.Symbols.{AllowsFirst, Room}
use Rattle.chor_tree.specs.declared.header.Header.{Header}
use Rattle.chor_tree.specs.declared.file.Named.{Named}
use Rattle.chor_tree.specs.declared.file.Service.{Service}
use Rattle.chor_tree.specs.declared.file.ProcParam.{ProcParam}
use Rattle.chor_tree.specs.declared.file.SessionParam.{SessionParam}
use Rattle.chor_tree.specs.Protocols.{Protocol}
use Rattle.chor_tree.specs.declared.protocol.State.{State}
use Rattle.chor_tree.specs.declared.protocol.ProtoStep.{ProtoStep}
use Rattle.chor_tree.specs.Source.{Statement, Block, Procedure, Items, Source}
use Rattle.source_grammar.specs.Grammar.{MoreAre, no_more, one_more, ListIs, a_list, AnyNamesAre, no_names, some_names, StepIs, end_step, value_step, choice_step, StateIs, a_state, MoreStatesAre, no_state, one_state, StatesAre, some_states, ProtocolIs, a_protocol, ServedAre, none_served, some_served, ServiceIs, a_service, VariablesAre, no_variables, some_variables, ProcParamIs, a_param, SessionsAre, no_sessions, some_sessions, ParamsAre, no_params, some_params, StatementIs, a_start, a_value, a_label, a_delegation, a_set, a_host_call, a_show, BlockIs, a_block, LinesAre, a_line, a_tail, TailIs, an_end, a_call, a_conditional, ProcedureIs, a_procedure, HeaderIs, without_header, a_header, no_capacity, a_capacity, ItemsAre, no_item, protocol_first, service_first, procedure_first, FileIs, a_file}
use Rattle.source_grammar.specs.Expressions.{KeepsLength}
use Rattle.source_grammar.specs.Limits.{KeepsMore, KeepsList, KeepsAnyNames, KeepsStep, KeepsState, KeepsMoreStates, KeepsStates, KeepsProtocol, KeepsServed, KeepsService, KeepsVariables, KeepsParam, KeepsSessions, KeepsParams, KeepsStatement, KeepsBlock, KeepsLines, KeepsTail, KeepsProcedure, KeepsItems, KeepsHeader, Keeps}

-- by both rules
pub record IsFree (Q : Rule → Place → Type 0) : Type 0 where
  pub blocks : (p : Place) → Q P2 p
  pub items : (p : Place) → Q P3 p

first_free : (Q : Rule → Place → Type 0) (rule : Rule) (ts : List Token) → ((p : Place) → Q rule p) → AllowsFirst Q rule ts
first_free Q rule [] f = tt
first_free Q rule (t ∷ ts) f = f t.place

room_free : {Q : Rule → Place → Type 0} (n : ℕ) (ts : List Token) → IsFree Q → Room Q P3 n ts
room_free {Q} n ts f = λ e. first_free Q P3 ts f.items

length_free : {Q : Rule → Place → Type 0} (ts rest : List Token) → IsFree Q → KeepsLength Q ts rest
length_free ts rest f = λ t l e. f.blocks t.place

more_free : {A : Type 0} {Item : List Token → A → List Token → Type 0} {Q : Rule → Place → Type 0} {K : (ts : List Token) (x : A) (rest : List Token) → Item ts x rest → Type 0} {ts : List Token} {xs : List A} {rest : List Token} (n : ℕ) → IsFree Q → ((ts : List Token) (x : A) (rest : List Token) (i : Item ts x rest) → K ts x rest i) → (d : MoreAre Item ts xs rest) → KeepsMore Q K n d
more_free n f k no_more = tt
more_free {K = K} n f k (one_more {t1 = t1} c i m) = (room_free n t1 f, k _ _ _ i, more_free {K = K} (n - 1) f k m)

list_free : {A : Type 0} {Item : List Token → A → List Token → Type 0} {Q : Rule → Place → Type 0} {K : (ts : List Token) (x : A) (rest : List Token) → Item ts x rest → Type 0} {ts : List Token} {xs : List A} {rest : List Token} (n : ℕ) → IsFree Q → ((ts : List Token) (x : A) (rest : List Token) (i : Item ts x rest) → K ts x rest i) → (d : ListIs Item ts xs rest) → KeepsList Q K n d
list_free {K = K} n f k (a_list {t0 = t0} i m) = (room_free n t0 f, k _ _ _ i, more_free {K = K} (n - 1) f k m)

-- a list whose items have no limits
plain_free : {A : Type 0} {Item : List Token → A → List Token → Type 0} {Q : Rule → Place → Type 0} {ts : List Token} {xs : List A} {rest : List Token} (n : ℕ) → IsFree Q → (d : ListIs Item ts xs rest) → KeepsList Q (λ ts x rest i. Unit {0}) n d
plain_free n f d = list_free {K = λ ts x rest i. Unit {0}} n f (λ ts x rest i. tt) d

pub names_free : {Q : Rule → Place → Type 0} {names : List (List ℕ)} {ts : List Token} {xs : List Named} {rest : List Token} (n : ℕ) → IsFree Q → (d : AnyNamesAre names ts xs rest) → KeepsAnyNames Q n d
names_free n f no_names = tt
names_free n f (some_names d) = plain_free n f d

step_free : {Q : Rule → Place → Type 0} {names : List (List ℕ)} {ts : List Token} {s : ProtoStep} {rest : List Token} → IsFree Q → (d : StepIs names ts s rest) → KeepsStep Q d
step_free f (end_step e) = tt
step_free f (value_step a r b c p t n) = tt
step_free f (choice_step a r b o arms c) = plain_free 64 f arms

state_free : {Q : Rule → Place → Type 0} {names : List (List ℕ)} {ts : List Token} {s : State} {rest : List Token} → IsFree Q → (d : StateIs names ts s rest) → KeepsState Q d
state_free f (a_state n e s m) = step_free f s

more_states_free : {Q : Rule → Place → Type 0} {names : List (List ℕ)} {ts : List Token} {ss : List State} {rest : List Token} (n : ℕ) → IsFree Q → (d : MoreStatesAre names ts ss rest) → KeepsMoreStates Q n d
more_states_free n f no_state = tt
more_states_free n f (one_state {t0 = t0} s m) = (room_free n t0 f, state_free f s, more_states_free (n - 1) f m)

states_free : {Q : Rule → Place → Type 0} {names : List (List ℕ)} {ts : List Token} {ss : List State} {rest : List Token} → IsFree Q → (d : StatesAre names ts ss rest) → KeepsStates Q d
states_free f (some_states s m) = (state_free f s, more_states_free 255 f m)

pub protocol_free : {Q : Rule → Place → Type 0} {names : List (List ℕ)} {ts : List Token} {p : Protocol} {rest : List Token} → IsFree Q → (d : ProtocolIs names ts p rest) → KeepsProtocol Q d
protocol_free f (a_protocol w n o roles c b states e) = (plain_free 16 f roles, states_free f states)

served_free : {Q : Rule → Place → Type 0} {names : List (List ℕ)} {ts : List Token} {ns : List Named} {rest : List Token} (n : ℕ) → IsFree Q → (d : ServedAre names ts ns rest) → KeepsServed Q n d
served_free n f none_served = tt
served_free n f (some_served b ns) = plain_free n f ns

pub service_free : {Q : Rule → Place → Type 0} {names : List (List ℕ)} {ts : List Token} {s : Service} {rest : List Token} → IsFree Q → (d : ServiceIs names ts s rest) → KeepsService Q d
service_free f (a_service w n c p o roles served e m) = (plain_free 16 f roles, served_free _ f served)

variables_free : {Q : Rule → Place → Type 0} {names : List (List ℕ)} {ts : List Token} {vs : List (Named × Sort)} {rest : List Token} → IsFree Q → (d : VariablesAre names ts vs rest) → KeepsVariables Q d
variables_free f no_variables = tt
variables_free f (some_variables o vs c) = plain_free 16 f vs

param_free : {Q : Rule → Place → Type 0} {names : List (List ℕ)} (ts : List Token) (p : ProcParam) (rest : List Token) → IsFree Q → (d : ProcParamIs names ts p rest) → KeepsParam Q ts p rest d
param_free ts p rest f (a_param n vs) = variables_free f vs

sessions_free : {Q : Rule → Place → Type 0} {names : List (List ℕ)} {ts : List Token} {ss : List SessionParam} {rest : List Token} → IsFree Q → (d : SessionsAre names ts ss rest) → KeepsSessions Q d
sessions_free f no_sessions = tt
sessions_free f (some_sessions m ss) = plain_free 8 f ss

pub params_free : {Q : Rule → Place → Type 0} {names : List (List ℕ)} {ts : List Token} {ps : List ProcParam} {ss : List SessionParam} {rest : List Token} → IsFree Q → (d : ParamsAre names ts ps ss rest) → KeepsParams Q d
params_free f no_params = tt
params_free {Q} f (some_params ps ss) = (list_free {K = KeepsParam Q} 8 f (λ ts x rest i. param_free ts x rest f i) ps, sessions_free f ss)

pub statement_free : {Q : Rule → Place → Type 0} {names : List (List ℕ)} {ts : List Token} {s : Statement} {rest : List Token} → IsFree Q → (d : StatementIs names ts s rest) → KeepsStatement Q d
statement_free f (a_start w c o k e m active serve) = tt
statement_free f (a_value {t2 = t2} {t3 = t3} a d e r b g x m k) = length_free t2 t3 f
statement_free f (a_label a r b c k d l) = tt
statement_free f (a_delegation a r b c k o h e) = tt
statement_free f (a_set {t4 = t4} {t5 = t5} p d x b e) = length_free t4 t5 f
statement_free f (a_host_call {t7 = t7} {t8 = t8} {t9 = t9} {t10 = t10} p d x b w g o l c r e) = (length_free t7 t8 f, length_free t9 t10 f)
statement_free f (a_show {t2 = t2} {t3 = t3} p w e) = length_free t2 t3 f

mutual
  pub block_free : {Q : Rule → Place → Type 0} {names : List (List ℕ)} {ts : List Token} {b : Block} {rest : List Token} (blocks path : ℕ) → IsFree Q → (d : BlockIs names ts b rest) → KeepsBlock Q blocks path d
  block_free {Q} blocks path f (a_block {t0 = t0} o lines c) = ((λ e. first_free Q P2 t0 f.blocks), lines_free (blocks - 1) path f lines)

  lines_free : {Q : Rule → Place → Type 0} {names : List (List ℕ)} {ts : List Token} {b : Block} {rest : List Token} (blocks path : ℕ) → IsFree Q → (d : LinesAre names ts b rest) → KeepsLines Q blocks path d
  lines_free blocks path f (a_line {t0 = t0} at s m more) = (room_free path t0 f, statement_free f s, lines_free blocks (path - 1) f more)
  lines_free blocks path f (a_tail {t0 = t0} t) = (room_free path t0 f, tail_free blocks (path - 1) f t)

  tail_free : {Q : Rule → Place → Type 0} {names : List (List ℕ)} {ts : List Token} {b : Block} {rest : List Token} (blocks path : ℕ) → IsFree Q → (d : TailIs names ts b rest) → KeepsTail Q blocks path d
  tail_free blocks path f (an_end at w) = tt
  tail_free blocks path f (a_call at w g o passed c) = tt
  tail_free blocks path f (a_conditional {t3 = t3} {t4 = t4} at w q d e first v second) = (length_free t3 t4 f, block_free blocks path f first, block_free blocks path f second)

pub procedure_free : {Q : Rule → Place → Type 0} {names : List (List ℕ)} {ts : List Token} {p : Procedure} {rest : List Token} → IsFree Q → (d : ProcedureIs names ts p rest) → KeepsProcedure Q d
procedure_free f (a_procedure w n o params c body) = (params_free f params, block_free 64 1024 f body)

pub items_free : {Q : Rule → Place → Type 0} {names : List (List ℕ)} {ts : List Token} {is : Items} {rest : List Token} → IsFree Q → (d : ItemsAre names ts is rest) → KeepsItems Q d
items_free f no_item = tt
items_free f (protocol_first p is) = (protocol_free f p, items_free f is)
items_free f (service_first s is) = (service_free f s, items_free f is)
items_free f (procedure_first p is) = (procedure_free f p, items_free f is)

pub header_free : {Q : Rule → Place → Type 0} {names : List (List ℕ)} {ts : List Token} {h : Header} {rest : List Token} → IsFree Q → (d : HeaderIs names ts h rest) → KeepsHeader Q d
header_free f without_header = tt
header_free f (a_header w n m no_capacity) = tt
header_free {Q} f (a_header w n m (a_capacity {t1 = t1} at v i s)) = λ e. first_free Q P3 t1 f.items

pub file_free : {Q : Rule → Place → Type 0} {names : List (List ℕ)} {ts : List Token} {s : Source} → IsFree Q → (d : FileIs names ts s) → Keeps Q d
file_free f (a_file h is w o processes c body e) = (header_free f h, items_free f is, names_free 64 f processes, block_free 64 1024 f body)
