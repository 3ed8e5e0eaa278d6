-- The limits of a source (this project's own), judged on how its tokens derive it. `Q` says by which rule, and at which place, a
-- limit may be exceeded: where it allows none, all limits are kept.
use Rattle.std.specs.Prelude.{◌≡◌, ◌-◌, ℕ, false, List, Option, length}
use Rattle.chor_base.specs.declared.rule.Place.{Place}
use Rattle.chor_base.specs.declared.rule.Rule.{Rule}
use Rattle.chor_base.specs.declared.rule.Rule.TheVariants.{P2, P3}
use Rattle.chor_base.specs.declared.value.Sort.{Sort}
use Rattle.chor_lexer.specs.declared.token.Token.{Token}
use Rattle.source_grammar.specs.Symbols.{AllowsFirst, Room}
use Rattle.source_grammar.specs.Expressions.{KeepsLength}
use Rattle.chor_tree.specs.declared.header.Header.{Header}
use Rattle.chor_tree.specs.Headers.{is_capacity}
use Rattle.chor_tree.specs.declared.file.Named.{Named}
use Rattle.chor_tree.specs.declared.file.Service.{Service}
use Rattle.chor_tree.specs.declared.file.ProcParam.{ProcParam}
use Rattle.chor_tree.specs.declared.file.SessionParam.{SessionParam}
use Rattle.chor_tree.specs.Protocols.{Protocol}
use Rattle.chor_tree.specs.declared.protocol.State.{State}
use Rattle.chor_tree.specs.declared.protocol.ProtoStep.{ProtoStep}
use Rattle.chor_tree.specs.Source.{Statement, Block, Procedure, Items, Source}
use Rattle.source_grammar.specs.Grammar.{MoreAre, no_more, one_more, ListIs, a_list, NamesAre, AnyNamesAre, no_names, some_names, StepIs, end_step, value_step, choice_step, StateIs, a_state, MoreStatesAre, no_state, one_state, StatesAre, some_states, ProtocolIs, a_protocol, ServedAre, none_served, some_served, ServiceIs, a_service, VariablesAre, no_variables, some_variables, ProcParamIs, a_param, SessionsAre, no_sessions, some_sessions, ParamsAre, no_params, some_params, StatementIs, a_start, a_value, a_label, a_delegation, a_set, a_host_call, a_show, BlockIs, a_block, LinesAre, a_line, a_tail, TailIs, an_end, a_call, a_conditional, ProcedureIs, a_procedure, CapacityIs, no_capacity, a_capacity, HeaderIs, without_header, a_header, ItemsAre, no_item, protocol_first, service_first, procedure_first, FileIs, a_file}

-- ---- lists of which each item keeps its own limits, as K says

-- { "," item }, n more of them
abbrev pub KeepsMore : {A : Type 0} {Item : List Token → A → List Token → Type 0} → (Rule → Place → Type 0) → ((ts : List Token) (x : A) (rest : List Token) → Item ts x rest → Type 0) → ℕ → {ts : List Token} {xs : List A} {rest : List Token} → MoreAre Item ts xs rest → Type 0
KeepsMore Q K n no_more = Unit {0}
KeepsMore Q K n (one_more {t1 = t1} c i m) = Room Q P3 n t1 × K _ _ _ i × KeepsMore Q K (n - 1) m

-- item { "," item }, n of them
abbrev pub KeepsList : {A : Type 0} {Item : List Token → A → List Token → Type 0} → (Rule → Place → Type 0) → ((ts : List Token) (x : A) (rest : List Token) → Item ts x rest → Type 0) → ℕ → {ts : List Token} {xs : List A} {rest : List Token} → ListIs Item ts xs rest → Type 0
KeepsList Q K n (a_list {t0 = t0} i m) = Room Q P3 n t0 × K _ _ _ i × KeepsMore Q K (n - 1) m

-- at most so many names
abbrev pub KeepsNames : (Rule → Place → Type 0) → ℕ → {names : List (List ℕ)} {ts : List Token} {xs : List Named} {rest : List Token} → NamesAre names ts xs rest → Type 0
KeepsNames Q n d = KeepsList Q (λ ts x rest i. Unit {0}) n d

-- at most so many names, if any
abbrev pub KeepsAnyNames : (Rule → Place → Type 0) → ℕ → {names : List (List ℕ)} {ts : List Token} {xs : List Named} {rest : List Token} → AnyNamesAre names ts xs rest → Type 0
KeepsAnyNames Q n no_names = Unit {0}
KeepsAnyNames Q n (some_names d) = KeepsNames Q n d

-- ---- protocols: 16 roles, 256 states, 64 labels of a choice

-- a choice has at most 64 labels
abbrev pub KeepsStep : (Rule → Place → Type 0) → {names : List (List ℕ)} {ts : List Token} {s : ProtoStep} {rest : List Token} → StepIs names ts s rest → Type 0
KeepsStep Q (end_step e) = Unit {0}
KeepsStep Q (value_step a r b c p t n) = Unit {0}
KeepsStep Q (choice_step a r b o arms c) = KeepsList Q (λ ts x rest i. Unit {0}) 64 arms

-- the step of a state keeps the limits
abbrev pub KeepsState : (Rule → Place → Type 0) → {names : List (List ℕ)} {ts : List Token} {s : State} {rest : List Token} → StateIs names ts s rest → Type 0
KeepsState Q (a_state n e s m) = KeepsStep Q s

-- at most so many states more, each of which keeps the limits
abbrev pub KeepsMoreStates : {names : List (List ℕ)} → (Rule → Place → Type 0) → ℕ → {ts : List Token} {ss : List State} {rest : List Token} → MoreStatesAre names ts ss rest → Type 0
KeepsMoreStates Q n no_state = Unit {0}
KeepsMoreStates Q n (one_state {t0 = t0} s m) = Room Q P3 n t0 × KeepsState Q s × KeepsMoreStates Q (n - 1) m

-- a protocol has at most 256 states, each of which keeps the limits
abbrev pub KeepsStates : (Rule → Place → Type 0) → {names : List (List ℕ)} {ts : List Token} {ss : List State} {rest : List Token} → StatesAre names ts ss rest → Type 0
KeepsStates Q (some_states s m) = KeepsState Q s × KeepsMoreStates Q 255 m

-- a protocol has at most 16 roles, and its states keep the limits
abbrev pub KeepsProtocol : (Rule → Place → Type 0) → {names : List (List ℕ)} {ts : List Token} {p : Protocol} {rest : List Token} → ProtocolIs names ts p rest → Type 0
KeepsProtocol Q (a_protocol w n o roles c b states e) = KeepsNames Q 16 roles × KeepsStates Q states

-- ---- services: 16 roles in both lists together

-- at most so many service roles
abbrev pub KeepsServed : (Rule → Place → Type 0) → ℕ → {names : List (List ℕ)} {ts : List Token} {ns : List Named} {rest : List Token} → ServedAre names ts ns rest → Type 0
KeepsServed Q n none_served = Unit {0}
KeepsServed Q n (some_served b ns) = KeepsNames Q n ns

-- a service has at most 16 roles, over both its lists
abbrev pub KeepsService : (Rule → Place → Type 0) → {names : List (List ℕ)} {ts : List Token} {s : Service} {rest : List Token} → ServiceIs names ts s rest → Type 0
KeepsService Q (a_service {active = active} w n c p o roles served e m) = KeepsNames Q 16 roles × KeepsServed Q (16 - length active) served

-- ---- heads of procedures: 8 process parameters of 16 variables, 8 session parameters

-- a process parameter has at most 16 variables
abbrev pub KeepsVariables : (Rule → Place → Type 0) → {names : List (List ℕ)} {ts : List Token} {vs : List (Named × Sort)} {rest : List Token} → VariablesAre names ts vs rest → Type 0
KeepsVariables Q no_variables = Unit {0}
KeepsVariables Q (some_variables o vs c) = KeepsList Q (λ ts x rest i. Unit {0}) 16 vs

-- the variables of a process parameter keep the limit
abbrev pub KeepsParam : (Rule → Place → Type 0) → {names : List (List ℕ)} (ts : List Token) (p : ProcParam) (rest : List Token) → ProcParamIs names ts p rest → Type 0
KeepsParam Q ts p rest (a_param n vs) = KeepsVariables Q vs

-- a procedure has at most 8 session parameters
abbrev pub KeepsSessions : (Rule → Place → Type 0) → {names : List (List ℕ)} {ts : List Token} {ss : List SessionParam} {rest : List Token} → SessionsAre names ts ss rest → Type 0
KeepsSessions Q no_sessions = Unit {0}
KeepsSessions Q (some_sessions m ss) = KeepsList Q (λ ts x rest i. Unit {0}) 8 ss

-- a procedure has at most 8 process parameters, which keep the limits, as its session parameters do
abbrev pub KeepsParams : (Rule → Place → Type 0) → {names : List (List ℕ)} {ts : List Token} {ps : List ProcParam} {ss : List SessionParam} {rest : List Token} → ParamsAre names ts ps ss rest → Type 0
KeepsParams Q no_params = Unit {0}
KeepsParams Q (some_params ps ss) = KeepsList Q (KeepsParam Q) 8 ps × KeepsSessions Q ss

-- ---- statements

-- the expressions of a statement have at most 255 tokens
abbrev pub KeepsStatement : (Rule → Place → Type 0) → {names : List (List ℕ)} {ts : List Token} {s : Statement} {rest : List Token} → StatementIs names ts s rest → Type 0
KeepsStatement Q (a_start w c o k e m active serve) = Unit {0}
KeepsStatement Q (a_value {t2 = t2} {t3 = t3} a d e r b f x m k) = KeepsLength Q t2 t3
KeepsStatement Q (a_label a r b c k d l) = Unit {0}
KeepsStatement Q (a_delegation a r b c k o h e) = Unit {0}
KeepsStatement Q (a_set {t4 = t4} {t5 = t5} p d x b e) = KeepsLength Q t4 t5
KeepsStatement Q (a_host_call {t7 = t7} {t8 = t8} {t9 = t9} {t10 = t10} p d x b w f o l c r e) = KeepsLength Q t7 t8 × KeepsLength Q t9 t10
KeepsStatement Q (a_show {t2 = t2} {t3 = t3} p w e) = KeepsLength Q t2 t3

-- ---- blocks: so many may be open, and so many statements, the tail among them, may stand on each path

abbrev mutual
  -- a block is one of at most so many that are open, and keeps the limits, with at most so many statements on a path
  pub KeepsBlock : {names : List (List ℕ)} → (Rule → Place → Type 0) → ℕ → ℕ → {ts : List Token} {b : Block} {rest : List Token} → BlockIs names ts b rest → Type 0
  KeepsBlock Q blocks path (a_block {t0 = t0} o lines c) = Room Q P2 blocks t0 × KeepsLines Q (blocks - 1) path lines

  -- the statements of a block, and what ends it, keep the limits
  pub KeepsLines : {names : List (List ℕ)} → (Rule → Place → Type 0) → ℕ → ℕ → {ts : List Token} {b : Block} {rest : List Token} → LinesAre names ts b rest → Type 0
  KeepsLines Q blocks path (a_line {t0 = t0} at s m more) = Room Q P3 path t0 × KeepsStatement Q s × KeepsLines Q blocks (path - 1) more
  KeepsLines Q blocks path (a_tail {t0 = t0} t) = Room Q P3 path t0 × KeepsTail Q blocks (path - 1) t

  -- what ends a block keeps the limits: the condition and both branches of a conditional
  pub KeepsTail : {names : List (List ℕ)} → (Rule → Place → Type 0) → ℕ → ℕ → {ts : List Token} {b : Block} {rest : List Token} → TailIs names ts b rest → Type 0
  KeepsTail Q blocks path (an_end at w) = Unit {0}
  KeepsTail Q blocks path (a_call at w f o passed c) = Unit {0}
  KeepsTail Q blocks path (a_conditional {t3 = t3} {t4 = t4} at w q d e first v second) = KeepsLength Q t3 t4 × KeepsBlock Q blocks path first × KeepsBlock Q blocks path second

-- ---- headers: a capacity is from 1 to 1000000

-- a capacity is from 1 to 1,000,000
abbrev pub KeepsCapacity : (Rule → Place → Type 0) → {names : List (List ℕ)} {ts : List Token} {c : Option ℕ} {p : Place} {rest : List Token} → CapacityIs names ts c p rest → Type 0
KeepsCapacity Q no_capacity = Unit {0}
KeepsCapacity Q (a_capacity {t1 = t1} {n = n} at w i m) = is_capacity n ≡ false → AllowsFirst Q P3 t1

-- a header keeps the limits, but for where Q allows to exceed them
abbrev pub KeepsHeader : (Rule → Place → Type 0) → {names : List (List ℕ)} {ts : List Token} {h : Header} {rest : List Token} → HeaderIs names ts h rest → Type 0
KeepsHeader Q without_header = Unit {0}
KeepsHeader Q (a_header w n m c) = KeepsCapacity Q c

-- ---- files: 64 processes of main, 64 blocks, 1,024 statements

-- the parameters of a procedure keep the limits, and its body has at most 64 open blocks and 1,024 statements on a path
abbrev pub KeepsProcedure : (Rule → Place → Type 0) → {names : List (List ℕ)} {ts : List Token} {p : Procedure} {rest : List Token} → ProcedureIs names ts p rest → Type 0
KeepsProcedure Q (a_procedure w n o params c body) = KeepsParams Q params × KeepsBlock Q 64 1024 body

-- the protocols, services and procedures of a source keep the limits
abbrev pub KeepsItems : (Rule → Place → Type 0) → {names : List (List ℕ)} {ts : List Token} {is : Items} {rest : List Token} → ItemsAre names ts is rest → Type 0
KeepsItems Q no_item = Unit {0}
KeepsItems Q (protocol_first p is) = KeepsProtocol Q p × KeepsItems Q is
KeepsItems Q (service_first s is) = KeepsService Q s × KeepsItems Q is
KeepsItems Q (procedure_first p is) = KeepsProcedure Q p × KeepsItems Q is

-- a whole source exceeds no limit but where Q allows it
abbrev pub Keeps : (Rule → Place → Type 0) → {names : List (List ℕ)} {ts : List Token} {s : Source} → FileIs names ts s → Type 0
Keeps Q (a_file h is w o processes c body e) = KeepsHeader Q h × KeepsItems Q is × KeepsAnyNames Q 64 processes × KeepsBlock Q 64 1024 body

-- it exceeds no limit
abbrev pub KeepsAll : {names : List (List ℕ)} {ts : List Token} {s : Source} → FileIs names ts s → Type 0
KeepsAll d = Keeps (λ rule p. ⊥) d
