-- After each nonterminal fewer tokens are left.
use Rattle.std.proofs.Common.{◌<◌, ◌≤◌, ℕ, List, length, ap, arith}
use Rattle.chor_base.specs.Expr.{Term}
use Rattle.chor_lexer.specs.declared.mark.Mark.{Mark}
use Rattle.chor_lexer.specs.declared.token.Token.{Token}
use Rattle.chor_lexer.specs.Grammar.{OrIs, OrGoes, AndIs, AndGoes, CmpIs, CmpGoes, SumIs, SumGoes, ProdIs, ProdGoes, UnIs, a_disjunction, or_done, or_more, a_conjunction, and_done, and_more, a_comparison, cmp_done, cmp_once, a_sum, sum_done, sum_more, a_product, prod_done, prod_more, a_unary, a_number, a_text, a_truth, a_name, in_parens}
use Rattle.chor_tree.specs.declared.file.Named.{Named}
use Rattle.chor_tree.specs.declared.file.Service.{Service}
use Rattle.chor_tree.specs.declared.file.ProcParam.{ProcParam}
use Rattle.chor_tree.specs.declared.file.SessionParam.{SessionParam}
use Rattle.chor_tree.specs.Protocols.{Protocol}
use Rattle.chor_tree.specs.declared.protocol.State.{State}
use Rattle.chor_tree.specs.declared.protocol.ProtoStep.{ProtoStep}
use Rattle.chor_tree.specs.declared.protocol.ProtoArm.{ProtoArm}
use Rattle.chor_tree.specs.declared.protocol.Payload.{Payload}
use Rattle.chor_tree.specs.declared.tree.Part.{Part}
use Rattle.chor_base.specs.declared.value.Sort.{Sort}
use Rattle.chor_tree.specs.Source.{Statement, Block, Procedure}
use Rattle.source_grammar.specs.Grammar as g
use Rattle.source_grammar.specs.Grammar.{MarkIs, WordIs, NameIs, ListIs, MoreAre, NamesAre, PartIs, SortIs, PayloadIs, ArmIs, StepIs, StateIs, MoreStatesAre, StatesAre, ProtocolIs, ServedAre, ServiceIs, VariableIs, VariablesAre, ProcParamIs, HolderIs, SessionParamIs, SessionsAre, ParamsAre, NewPartsAre, StatementIs, PassedSessionsAre, PassedAre, BlockIs, LinesAre, TailIs, ProcedureIs}

pub mark_shorter : {m : Mark} {ts rest : List Token} → MarkIs m ts rest → length rest < length ts
mark_shorter h = let e = ap length h.parts in omega arith

pub word_shorter : {names : List (List ℕ)} {w : List ℕ} {ts rest : List Token} → WordIs names w ts rest → length rest < length ts
word_shorter h = let e = ap length h.parts in omega arith

pub name_shorter : {names : List (List ℕ)} {n : Named} {ts rest : List Token} → NameIs names ts n rest → length rest < length ts
name_shorter h = let e = ap length h.parts in omega arith

-- ---- expressions

mutual
  pub or_shorter : {names : List (List ℕ)} {x : Term} {ts rest : List Token} → OrIs names ts x rest → length rest < length ts
  or_shorter (a_disjunction a m) = omega (arith, and_shorter a, or_goes_on m)

  or_goes_on : {names : List (List ℕ)} {a x : Term} {ts rest : List Token} → OrGoes names a ts x rest → length rest ≤ length ts
  or_goes_on or_done = omega arith
  or_goes_on (or_more s h b m) = omega (arith, and_shorter b, or_goes_on m)

  and_shorter : {names : List (List ℕ)} {x : Term} {ts rest : List Token} → AndIs names ts x rest → length rest < length ts
  and_shorter (a_conjunction a m) = omega (arith, cmp_shorter a, and_goes_on m)

  and_goes_on : {names : List (List ℕ)} {a x : Term} {ts rest : List Token} → AndGoes names a ts x rest → length rest ≤ length ts
  and_goes_on and_done = omega arith
  and_goes_on (and_more s h b m) = omega (arith, cmp_shorter b, and_goes_on m)

  cmp_shorter : {names : List (List ℕ)} {x : Term} {ts rest : List Token} → CmpIs names ts x rest → length rest < length ts
  cmp_shorter (a_comparison a m) = omega (arith, sum_shorter a, cmp_goes_on m)

  cmp_goes_on : {names : List (List ℕ)} {a x : Term} {ts rest : List Token} → CmpGoes names a ts x rest → length rest ≤ length ts
  cmp_goes_on cmp_done = omega arith
  cmp_goes_on (cmp_once s h b) = omega (arith, sum_shorter b)

  sum_shorter : {names : List (List ℕ)} {x : Term} {ts rest : List Token} → SumIs names ts x rest → length rest < length ts
  sum_shorter (a_sum a m) = omega (arith, prod_shorter a, sum_goes_on m)

  sum_goes_on : {names : List (List ℕ)} {a x : Term} {ts rest : List Token} → SumGoes names a ts x rest → length rest ≤ length ts
  sum_goes_on sum_done = omega arith
  sum_goes_on (sum_more s h b m) = omega (arith, prod_shorter b, sum_goes_on m)

  prod_shorter : {names : List (List ℕ)} {x : Term} {ts rest : List Token} → ProdIs names ts x rest → length rest < length ts
  prod_shorter (a_product a m) = omega (arith, un_shorter a, prod_goes_on m)

  prod_goes_on : {names : List (List ℕ)} {a x : Term} {ts rest : List Token} → ProdGoes names a ts x rest → length rest ≤ length ts
  prod_goes_on prod_done = omega arith
  prod_goes_on (prod_more s h b m) = omega (arith, un_shorter b, prod_goes_on m)

  un_shorter : {names : List (List ℕ)} {x : Term} {ts rest : List Token} → UnIs names ts x rest → length rest < length ts
  un_shorter (a_unary h u) = omega (arith, un_shorter u)
  un_shorter (a_number h) = omega arith
  un_shorter (a_text h) = omega arith
  un_shorter (a_truth h) = omega arith
  un_shorter (a_name h) = omega arith
  un_shorter (in_parens h e k) = omega (arith, or_shorter e)

-- ---- lists

more_no_longer : {A : Type 0} {Item : List Token → A → List Token → Type 0} {ts rest : List Token} {xs : List A} → ((t0 t1 : List Token) (x : A) → Item t0 x t1 → length t1 < length t0) → MoreAre Item ts xs rest → length rest ≤ length ts
more_no_longer f g.no_more = omega arith
more_no_longer f (g.one_more c i m) = omega (arith, mark_shorter c, f _ _ _ i, more_no_longer f m)

pub list_shorter : {A : Type 0} {Item : List Token → A → List Token → Type 0} {ts rest : List Token} {xs : List A} → ((t0 t1 : List Token) (x : A) → Item t0 x t1 → length t1 < length t0) → ListIs Item ts xs rest → length rest < length ts
list_shorter f (g.a_list i m) = omega (arith, f _ _ _ i, more_no_longer f m)

pub names_shorter : {names : List (List ℕ)} {ts rest : List Token} {ns : List Named} → NamesAre names ts ns rest → length rest < length ts
names_shorter h = list_shorter (λ _ _ _ n. name_shorter n) h

pub part_shorter : {names : List (List ℕ)} {ts rest : List Token} {p : Part} → PartIs names ts p rest → length rest < length ts
part_shorter (g.a_part n o r c) = omega (arith, name_shorter n, mark_shorter o, name_shorter r, mark_shorter c)

parts_shorter : {names : List (List ℕ)} {ts rest : List Token} {ps : List Part} → ListIs (PartIs names) ts ps rest → length rest < length ts
parts_shorter h = list_shorter (λ _ _ _ p. part_shorter p) h

-- ---- protocols and services

pub sort_shorter : {names : List (List ℕ)} {ts rest : List Token} {s : Sort} → SortIs names ts s rest → length rest < length ts
sort_shorter (g.int w) = word_shorter w
sort_shorter (g.bool w) = word_shorter w
sort_shorter (g.text w) = word_shorter w

pub payload_shorter : {names : List (List ℕ)} {ts rest : List Token} {p : Payload} → PayloadIs names ts p rest → length rest < length ts
payload_shorter (g.plain s) = sort_shorter s
payload_shorter (g.endpoint p d s a r) = omega (arith, name_shorter p, mark_shorter d, name_shorter s, mark_shorter a, name_shorter r)

pub arm_shorter : {names : List (List ℕ)} {ts rest : List Token} {a : ProtoArm} → ArmIs names ts a rest → length rest < length ts
arm_shorter (g.an_arm l w n) = omega (arith, name_shorter l, word_shorter w, name_shorter n)

pub step_shorter : {names : List (List ℕ)} {ts rest : List Token} {s : ProtoStep} → StepIs names ts s rest → length rest < length ts
step_shorter (g.end_step w) = word_shorter w
step_shorter (g.value_step a r b c p w n) = omega (arith, name_shorter a, mark_shorter r, name_shorter b, mark_shorter c, payload_shorter p, word_shorter w, name_shorter n)
step_shorter (g.choice_step a r b o xs c) = omega (arith, name_shorter a, mark_shorter r, name_shorter b, mark_shorter o, list_shorter (λ _ _ _ i. arm_shorter i) xs, mark_shorter c)

pub state_shorter : {names : List (List ℕ)} {ts rest : List Token} {s : State} → StateIs names ts s rest → length rest < length ts
state_shorter (g.a_state n a s c) = omega (arith, name_shorter n, mark_shorter a, step_shorter s, mark_shorter c)

more_states_no_longer : {names : List (List ℕ)} {ts rest : List Token} {ss : List State} → MoreStatesAre names ts ss rest → length rest ≤ length ts
more_states_no_longer g.no_state = omega arith
more_states_no_longer (g.one_state s m) = omega (arith, state_shorter s, more_states_no_longer m)

pub states_shorter : {names : List (List ℕ)} {ts rest : List Token} {ss : List State} → StatesAre names ts ss rest → length rest < length ts
states_shorter (g.some_states s m) = omega (arith, state_shorter s, more_states_no_longer m)

pub protocol_shorter : {names : List (List ℕ)} {ts rest : List Token} {p : Protocol} → ProtocolIs names ts p rest → length rest < length ts
protocol_shorter (g.a_protocol w n o r c b s d) = omega (arith, word_shorter w, name_shorter n, mark_shorter o, names_shorter r, mark_shorter c, mark_shorter b, states_shorter s, mark_shorter d)

served_no_longer : {names : List (List ℕ)} {ts rest : List Token} {ns : List Named} → ServedAre names ts ns rest → length rest ≤ length ts
served_no_longer g.none_served = omega arith
served_no_longer (g.some_served b n) = omega (arith, mark_shorter b, names_shorter n)

pub service_shorter : {names : List (List ℕ)} {ts rest : List Token} {s : Service} → ServiceIs names ts s rest → length rest < length ts
service_shorter (g.a_service w n c p o a s d e) = omega (arith, word_shorter w, name_shorter n, mark_shorter c, name_shorter p, mark_shorter o, names_shorter a, served_no_longer s, mark_shorter d, mark_shorter e)

-- ---- heads of procedures

pub variable_shorter : {names : List (List ℕ)} {ts rest : List Token} {v : Named × Sort} → VariableIs names ts v rest → length rest < length ts
variable_shorter (g.a_variable n c s) = omega (arith, name_shorter n, mark_shorter c, sort_shorter s)

variables_no_longer : {names : List (List ℕ)} {ts rest : List Token} {vs : List (Named × Sort)} → VariablesAre names ts vs rest → length rest ≤ length ts
variables_no_longer g.no_variables = omega arith
variables_no_longer (g.some_variables o v c) = omega (arith, mark_shorter o, list_shorter (λ _ _ _ i. variable_shorter i) v, mark_shorter c)

pub param_shorter : {names : List (List ℕ)} {ts rest : List Token} {p : ProcParam} → ProcParamIs names ts p rest → length rest < length ts
param_shorter (g.a_param n v) = omega (arith, name_shorter n, variables_no_longer v)

pub holder_shorter : {names : List (List ℕ)} {ts rest : List Token} {h : Named × Named} → HolderIs names ts h rest → length rest < length ts
holder_shorter (g.a_holder r a p) = omega (arith, name_shorter r, mark_shorter a, name_shorter p)

pub session_shorter : {names : List (List ℕ)} {ts rest : List Token} {s : SessionParam} → SessionParamIs names ts s rest → length rest < length ts
session_shorter (g.a_session n c p d s o h e) = omega (arith, name_shorter n, mark_shorter c, name_shorter p, mark_shorter d, name_shorter s, mark_shorter o, list_shorter (λ _ _ _ i. holder_shorter i) h, mark_shorter e)

sessions_no_longer : {names : List (List ℕ)} {ts rest : List Token} {ss : List SessionParam} → SessionsAre names ts ss rest → length rest ≤ length ts
sessions_no_longer g.no_sessions = omega arith
sessions_no_longer (g.some_sessions m s) = omega (arith, mark_shorter m, list_shorter (λ _ _ _ i. session_shorter i) s)

pub params_no_longer : {names : List (List ℕ)} {ts rest : List Token} {ps : List ProcParam} {ss : List SessionParam} → ParamsAre names ts ps ss rest → length rest ≤ length ts
params_no_longer g.no_params = omega arith
params_no_longer (g.some_params p s) = omega (arith, list_shorter (λ _ _ _ i. param_shorter i) p, sessions_no_longer s)

-- ---- statements and blocks

new_no_longer : {names : List (List ℕ)} {ts rest : List Token} {ps : List Part} → NewPartsAre names ts ps rest → length rest ≤ length ts
new_no_longer g.no_new = omega arith
new_no_longer (g.some_new w p) = omega (arith, word_shorter w, parts_shorter p)

pub statement_shorter : {names : List (List ℕ)} {ts rest : List Token} {s : Statement} → StatementIs names ts s rest → length rest < length ts
statement_shorter (g.a_start w c o k d e a n) = omega (arith, word_shorter w, name_shorter c, mark_shorter o, name_shorter k, mark_shorter d, mark_shorter e, parts_shorter a, new_no_longer n)
statement_shorter (g.a_value a d e r b f x c k) = omega (arith, part_shorter a, mark_shorter d, or_shorter e, mark_shorter r, part_shorter b, mark_shorter f, name_shorter x, mark_shorter c, name_shorter k)
statement_shorter (g.a_label a r b c k d l) = omega (arith, part_shorter a, mark_shorter r, part_shorter b, mark_shorter c, name_shorter k, mark_shorter d, name_shorter l)
statement_shorter (g.a_delegation a r b c k o h d) = omega (arith, part_shorter a, mark_shorter r, part_shorter b, mark_shorter c, name_shorter k, mark_shorter o, part_shorter h, mark_shorter d)
statement_shorter (g.a_set p d x b e) = omega (arith, name_shorter p, mark_shorter d, name_shorter x, mark_shorter b, or_shorter e)
statement_shorter (g.a_host_call p d x b w f o l c r e) = omega (arith, name_shorter p, mark_shorter d, name_shorter x, mark_shorter b, word_shorter w, name_shorter f, mark_shorter o, or_shorter l, mark_shorter c, or_shorter r, mark_shorter e)
statement_shorter (g.a_show p w e) = omega (arith, name_shorter p, word_shorter w, or_shorter e)

passed_sessions_no_longer : {names : List (List ℕ)} {ts rest : List Token} {ss : List Named} → PassedSessionsAre names ts ss rest → length rest ≤ length ts
passed_sessions_no_longer g.no_session_passed = omega arith
passed_sessions_no_longer (g.sessions_passed m n) = omega (arith, mark_shorter m, names_shorter n)

passed_no_longer : {names : List (List ℕ)} {ts rest : List Token} {ps ss : List Named} → PassedAre names ts ps ss rest → length rest ≤ length ts
passed_no_longer g.nothing_passed = omega arith
passed_no_longer (g.processes_passed p s) = omega (arith, names_shorter p, passed_sessions_no_longer s)

mutual
  pub block_shorter : {names : List (List ℕ)} {ts rest : List Token} {b : Block} → BlockIs names ts b rest → length rest < length ts
  block_shorter (g.a_block o l c) = omega (arith, mark_shorter o, lines_shorter l, mark_shorter c)

  pub lines_shorter : {names : List (List ℕ)} {ts rest : List Token} {b : Block} → LinesAre names ts b rest → length rest < length ts
  lines_shorter (g.a_line p s m l) = omega (arith, statement_shorter s, mark_shorter m, lines_shorter l)
  lines_shorter (g.a_tail t) = tail_shorter t

  pub tail_shorter : {names : List (List ℕ)} {ts rest : List Token} {b : Block} → TailIs names ts b rest → length rest < length ts
  tail_shorter (g.an_end p w) = word_shorter w
  tail_shorter (g.a_call p w f o a c) = omega (arith, word_shorter w, name_shorter f, mark_shorter o, passed_no_longer a, mark_shorter c)
  tail_shorter (g.a_conditional p w q d e a l b) = omega (arith, word_shorter w, name_shorter q, mark_shorter d, or_shorter e, block_shorter a, word_shorter l, block_shorter b)

pub procedure_shorter : {names : List (List ℕ)} {ts rest : List Token} {p : Procedure} → ProcedureIs names ts p rest → length rest < length ts
procedure_shorter (g.a_procedure w n o p c b) = omega (arith, word_shorter w, name_shorter n, mark_shorter o, params_no_longer p, mark_shorter c, block_shorter b)
