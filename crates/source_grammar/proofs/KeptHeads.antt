-- What names, lists, protocols, services and heads of procedures keep that are derived.
use Rattle.std.proofs.Common.{◌≡◌, ◌&&◌, ◌||◌, not, ℕ, Bool, true, List, ◌∷◌, ap, refl, arith}
use Rattle.std.specs.List.{list_all}
use Rattle.std.proofs.lemmas.Bool.{and_from}
use Rattle.std.proofs.lemmas.Bool.Decides.{nat_tests}
use Rattle.chor_base.specs.declared.value.Sort.{Sort}
use Rattle.chor_lexer.specs.declared.token.Token.{Token}
use Rattle.chor_tree.specs.declared.file.Named.{Named}
use Rattle.chor_tree.specs.declared.file.Service.{Service}
use Rattle.chor_tree.specs.declared.file.ProcParam.{ProcParam}
use Rattle.chor_tree.specs.declared.file.SessionParam.{SessionParam}
use Rattle.chor_tree.specs.declared.protocol.Payload.{Payload}
use Rattle.chor_tree.specs.declared.protocol.ProtoArm.{ProtoArm}
use Rattle.chor_tree.specs.declared.protocol.ProtoStep.{ProtoStep}
use Rattle.chor_tree.specs.declared.protocol.State.{State}
use Rattle.chor_tree.specs.Protocols.{Protocol, has_items, step_filled, are_filled}
use Rattle.chor_tree.specs.declared.tree.Part.{Part}
use Rattle.chor_tree.specs.Kept.{named_there, names_there, part_there, payload_there, arm_there, step_there, protocol_there, service_there, process_param_there, session_param_there, comes_after_items, has_name}
use Rattle.source_grammar.specs.Grammar as g
use Rattle.source_grammar.specs.Grammar.{NameIs, MoreAre, ListIs, NamesAre, AnyNamesAre, PartIs, PayloadIs, ArmIs, StepIs, StateIs, MoreStatesAre, StatesAre, ProtocolIs, ServedAre, ServiceIs, VariableIs, VariablesAre, ProcParamIs, HolderIs, SessionParamIs, SessionsAre, ParamsAre, NewPartsAre, PassedSessionsAre, PassedAre}
use Rattle.source_grammar.proofs.KnownTexts.{name_there}

pub two : {a b : Bool} → a ≡ true → b ≡ true → (a && b) ≡ true
two {a} {b} e f = and_from a b e f

pub three : {a b c : Bool} → a ≡ true → b ≡ true → c ≡ true → (a && b && c) ≡ true
three e f h = two (two e f) h

pub four : {a b c d : Bool} → a ≡ true → b ≡ true → c ≡ true → d ≡ true → (a && b && c && d) ≡ true
four e f h k = two (three e f h) k

pub five : {a b c d e : Bool} → a ≡ true → b ≡ true → c ≡ true → d ≡ true → e ≡ true → (a && b && c && d && e) ≡ true
five e f h k l = two (four e f h k) l

-- ---- names and lists

pub named : {names : List (List ℕ)} {ts : List Token} {n : Named} {rest : List Token} → NameIs names ts n rest → named_there (has_name names) n ≡ true
named {names} {n = n} h = name_there names n.name h.token h.is

more_pass : {A : Type 0} {Item : List Token → A → List Token → Type 0} (p : A → Bool) → ((ts : List Token) (x : A) (rest : List Token) → Item ts x rest → p x ≡ true) → {ts : List Token} {xs : List A} {rest : List Token} → MoreAre Item ts xs rest → list_all p xs ≡ true
more_pass p f g.no_more = refl
more_pass p f (g.one_more c i m) = two (f _ _ _ i) (more_pass p f m)

pub list_pass : {A : Type 0} {Item : List Token → A → List Token → Type 0} (p : A → Bool) → ((ts : List Token) (x : A) (rest : List Token) → Item ts x rest → p x ≡ true) → {ts : List Token} {xs : List A} {rest : List Token} → ListIs Item ts xs rest → list_all p xs ≡ true
list_pass p f (g.a_list i m) = two (f _ _ _ i) (more_pass p f m)

pub first_is_one : {A : Type 0} (x : A) (xs : List A) → has_items (x ∷ xs) ≡ true
first_is_one x xs = grind (arith, nat_tests)

-- a list of at least one item has one
pub list_filled : {A : Type 0} {Item : List Token → A → List Token → Type 0} {ts : List Token} {xs : List A} {rest : List Token} → ListIs Item ts xs rest → has_items xs ≡ true
list_filled (g.a_list {x = x} {xs = xs} i m) = first_is_one x xs

pub names_kept : {names : List (List ℕ)} {ts : List Token} {ns : List Named} {rest : List Token} → NamesAre names ts ns rest → names_there (has_name names) ns ≡ true
names_kept {names} d = list_pass (named_there (has_name names)) (λ ts x rest i. named i) d

pub any_names_kept : {names : List (List ℕ)} {ts : List Token} {ns : List Named} {rest : List Token} → AnyNamesAre names ts ns rest → names_there (has_name names) ns ≡ true
any_names_kept g.no_names = refl
any_names_kept (g.some_names d) = names_kept d

pub part_kept : {names : List (List ℕ)} {ts : List Token} {p : Part} {rest : List Token} → PartIs names ts p rest → part_there (has_name names) p ≡ true
part_kept (g.a_part p o r c) = two (named p) (named r)

pub parts_kept : {names : List (List ℕ)} {ts : List Token} {ps : List Part} {rest : List Token} → ListIs (PartIs names) ts ps rest → list_all (part_there (has_name names)) ps ≡ true
parts_kept {names} d = list_pass (part_there (has_name names)) (λ ts x rest i. part_kept i) d

pub new_parts_kept : {names : List (List ℕ)} {ts : List Token} {ps : List Part} {rest : List Token} → NewPartsAre names ts ps rest → list_all (part_there (has_name names)) ps ≡ true
new_parts_kept g.no_new = refl
new_parts_kept (g.some_new w ps) = parts_kept ps

-- ---- protocols and services

payload_kept : {names : List (List ℕ)} {ts : List Token} {p : Payload} {rest : List Token} → PayloadIs names ts p rest → payload_there (has_name names) p ≡ true
payload_kept (g.plain s) = refl
payload_kept (g.endpoint p d s a r) = three (named p) (named s) (named r)

arm_kept : {names : List (List ℕ)} {ts : List Token} {a : ProtoArm} {rest : List Token} → ArmIs names ts a rest → arm_there (has_name names) a ≡ true
arm_kept (g.an_arm l w n) = two (named l) (named n)

step_kept : {names : List (List ℕ)} {ts : List Token} {s : ProtoStep} {rest : List Token} → StepIs names ts s rest → (step_there (has_name names) s ≡ true) × (step_filled s ≡ true)
step_kept (g.end_step w) = (refl, refl)
step_kept (g.value_step a r b c p t n) = (four (named a) (named b) (payload_kept p) (named n), refl)
step_kept {names} (g.choice_step a r b o arms c) = (three (named a) (named b) (list_pass (arm_there (has_name names)) (λ ts x rest i. arm_kept i) arms), list_filled arms)

-- the names of a state, and its step
abbrev state_there : List (List ℕ) → State → Bool
state_there names s = named_there (has_name names) s.name && step_there (has_name names) s.step

state_kept : {names : List (List ℕ)} {ts : List Token} {s : State} {rest : List Token} → StateIs names ts s rest → (state_there names s ≡ true) × (step_filled s.step ≡ true)
state_kept (g.a_state n e s m) = let k = step_kept s in (two (named n) k.0, k.1)

abbrev AreKept : List (List ℕ) → List State → Type 0
AreKept names ss = (list_all (state_there names) ss ≡ true) × (list_all (λ (s : State). step_filled s.step) ss ≡ true)

more_states_kept : {names : List (List ℕ)} {ts : List Token} {ss : List State} {rest : List Token} → MoreStatesAre names ts ss rest → AreKept names ss
more_states_kept g.no_state = (refl, refl)
more_states_kept (g.one_state s m) = let k = state_kept s in let l = more_states_kept m in (two k.0 l.0, two k.1 l.1)

pub protocol_kept : {names : List (List ℕ)} {ts : List Token} {p : Protocol} {rest : List Token} → ProtocolIs names ts p rest → protocol_there (has_name names) p ≡ true
protocol_kept (g.a_protocol w n o roles c b (g.some_states s m) e) = three (named n) (names_kept roles) (two (state_kept s).0 (more_states_kept m).0)

-- what is read as the roles and the states of a protocol is filled
pub protocol_filled : {names : List (List ℕ)} {ts us more rest : List Token} {rs : List Named} {ss : List State} → NamesAre names ts rs more → StatesAre names us ss rest → are_filled rs ss ≡ true
protocol_filled roles (g.some_states {s = first} {ss = others} s m) = three (list_filled roles) (first_is_one first others) (two (state_kept s).1 (more_states_kept m).1)

served_kept : {names : List (List ℕ)} {ts : List Token} {ns : List Named} {rest : List Token} → ServedAre names ts ns rest → names_there (has_name names) ns ≡ true
served_kept g.none_served = refl
served_kept (g.some_served b ns) = names_kept ns

pub service_kept : {names : List (List ℕ)} {ts : List Token} {s : Service} {rest : List Token} → ServiceIs names ts s rest → (service_there (has_name names) s ≡ true) × (has_items s.active ≡ true)
service_kept (g.a_service w n c p o active served e m) = (four (named n) (named p) (names_kept active) (served_kept served), list_filled active)

-- ---- heads of procedures

abbrev variable_there : List (List ℕ) → Named × Sort → Bool
variable_there names v = named_there (has_name names) v.0

variable_kept : {names : List (List ℕ)} {ts : List Token} {v : Named × Sort} {rest : List Token} → VariableIs names ts v rest → variable_there names v ≡ true
variable_kept (g.a_variable n c s) = named n

variables_kept : {names : List (List ℕ)} {ts : List Token} {vs : List (Named × Sort)} {rest : List Token} → VariablesAre names ts vs rest → list_all (variable_there names) vs ≡ true
variables_kept g.no_variables = refl
variables_kept {names} (g.some_variables o vs c) = list_pass (variable_there names) (λ ts x rest i. variable_kept i) vs

param_kept : {names : List (List ℕ)} {ts : List Token} {p : ProcParam} {rest : List Token} → ProcParamIs names ts p rest → process_param_there (has_name names) p ≡ true
param_kept (g.a_param n vs) = two (named n) (variables_kept vs)

abbrev holder_there : List (List ℕ) → Named × Named → Bool
holder_there names h = named_there (has_name names) h.0 && named_there (has_name names) h.1

holder_kept : {names : List (List ℕ)} {ts : List Token} {h : Named × Named} {rest : List Token} → HolderIs names ts h rest → holder_there names h ≡ true
holder_kept (g.a_holder r a p) = two (named r) (named p)

session_kept : {names : List (List ℕ)} {ts : List Token} {s : SessionParam} {rest : List Token} → SessionParamIs names ts s rest → session_param_there (has_name names) s ≡ true
session_kept {names} (g.a_session n c p d s o hs e) = four (named n) (named p) (named s) (list_pass (holder_there names) (λ ts x rest i. holder_kept i) hs)

session_filled : {names : List (List ℕ)} {ts : List Token} {s : SessionParam} {rest : List Token} → SessionParamIs names ts s rest → has_items s.holders ≡ true
session_filled (g.a_session n c p d s o hs e) = list_filled hs

abbrev SessionsKept : List (List ℕ) → List SessionParam → Type 0
SessionsKept names ss = (list_all (session_param_there (has_name names)) ss ≡ true) × (list_all (λ (s : SessionParam). has_items s.holders) ss ≡ true)

sessions_kept : {names : List (List ℕ)} {ts : List Token} {ss : List SessionParam} {rest : List Token} → SessionsAre names ts ss rest → SessionsKept names ss
sessions_kept g.no_sessions = (refl, refl)
sessions_kept {names} (g.some_sessions m ss) = (
  list_pass (session_param_there (has_name names)) (λ ts x rest i. session_kept i) ss,
  list_pass (λ (s : SessionParam). has_items s.holders) (λ ts x rest i. session_filled i) ss,
)

-- the parameters of a procedure
pub record ParamsKept (names : List (List ℕ)) (ps : List ProcParam) (ss : List SessionParam) : Type 0 where
  pub params : list_all (process_param_there (has_name names)) ps ≡ true
  pub sessions : list_all (session_param_there (has_name names)) ss ≡ true
  pub filled : (comes_after_items ps ss && list_all (λ (k : SessionParam). has_items k.holders) ss) ≡ true

-- what stands after a list that has items
pub comes_after : {A B : Type 0} {Item : List Token → A → List Token → Type 0} {ts : List Token} {xs : List A} {rest : List Token} (ys : List B) → ListIs Item ts xs rest → comes_after_items xs ys ≡ true
comes_after ys d = ap (λ (b : Bool). b || not (has_items ys)) (list_filled d)

pub params_kept : {names : List (List ℕ)} {ts : List Token} {ps : List ProcParam} {ss : List SessionParam} {rest : List Token} → ParamsAre names ts ps ss rest → ParamsKept names ps ss
params_kept g.no_params = record { params = refl; sessions = refl; filled = refl }
params_kept {names} {ss = ss} (g.some_params ps d) =
    let k = sessions_kept d in
    record {
      params = list_pass (process_param_there (has_name names)) (λ ts x rest i. param_kept i) ps;
      sessions = k.0;
      filled = two (comes_after ss ps) k.1;
    }

-- ---- what a call passes

passed_sessions_kept : {names : List (List ℕ)} {ts : List Token} {ss : List Named} {rest : List Token} → PassedSessionsAre names ts ss rest → names_there (has_name names) ss ≡ true
passed_sessions_kept g.no_session_passed = refl
passed_sessions_kept (g.sessions_passed m ss) = names_kept ss

pub record PassedKept (names : List (List ℕ)) (ps ss : List Named) : Type 0 where
  pub processes : names_there (has_name names) ps ≡ true
  pub sessions : names_there (has_name names) ss ≡ true
  pub filled : comes_after_items ps ss ≡ true

pub passed_kept : {names : List (List ℕ)} {ts : List Token} {ps ss : List Named} {rest : List Token} → PassedAre names ts ps ss rest → PassedKept names ps ss
passed_kept g.nothing_passed = record { processes = refl; sessions = refl; filled = refl }
passed_kept {ss = ss} (g.processes_passed ps d) = record { processes = names_kept ps; sessions = passed_sessions_kept d; filled = comes_after ss ps }
