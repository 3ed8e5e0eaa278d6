-- Protocols, services and parameters that tokens derive are derived by alike tokens, in their own tables.
use Rattle.std.proofs.Common.{◌≡◌, ◌-◌, ◌&&◌, ℕ, true, List, [], ◌∷◌, length, suc, refl, subst, ap}
use Rattle.std.proofs.lemmas.Bool.{and_parts}
use Rattle.chor_base.specs.declared.rule.Rule.TheVariants.{P3}
use Rattle.chor_base.specs.declared.value.Sort.{Sort}
use Rattle.chor_base.specs.declared.value.Sort.TheVariants as sort
use Rattle.chor_lexer.specs.declared.token.Token.{Token}
use Rattle.source_grammar.specs.Symbols.{nowhere}
use Rattle.chor_tree.specs.declared.file.Named.{Named}
use Rattle.chor_tree.specs.declared.file.Service.{Service}
use Rattle.chor_tree.specs.declared.file.ProcParam.{ProcParam}
use Rattle.chor_tree.specs.declared.file.SessionParam.{SessionParam}
use Rattle.chor_tree.specs.Protocols.{Protocol}
use Rattle.chor_tree.specs.declared.protocol.State.{State}
use Rattle.chor_tree.specs.declared.protocol.ProtoStep.{ProtoStep}
use Rattle.chor_tree.specs.declared.protocol.ProtoStep.TheVariants as step
use Rattle.chor_tree.specs.declared.protocol.ProtoArm.{ProtoArm}
use Rattle.chor_tree.specs.declared.protocol.Payload.{Payload}
use Rattle.chor_tree.specs.declared.protocol.Payload.TheVariants as payload
use Rattle.chor_tree.specs.declared.tree.Part.{Part}
use Rattle.chor_tree.specs.Same.{Same, all_same, same_named, same_part, same_sort, same_payload, same_arm, same_step, same_state, same_protocol, same_service, same_variable, same_process_param, same_holder, same_session_param}
use Rattle.source_grammar.specs.Grammar.{NamesAre, AnyNamesAre, no_names, some_names, PartIs, a_part, SortIs, int, bool, text, PayloadIs, plain, endpoint, ArmIs, an_arm, StepIs, end_step, value_step, choice_step, StateIs, a_state, MoreStatesAre, no_state, one_state, StatesAre, some_states, ProtocolIs, a_protocol, ServedAre, none_served, some_served, ServiceIs, a_service, VariableIs, a_variable, VariablesAre, no_variables, some_variables, ProcParamIs, a_param, HolderIs, a_holder, SessionParamIs, a_session, SessionsAre, no_sessions, some_sessions, ParamsAre, no_params, some_params}
use Rattle.source_grammar.specs.Limits.{KeepsNames, KeepsAnyNames, KeepsStep, KeepsState, KeepsMoreStates, KeepsStates, KeepsProtocol, KeepsServed, KeepsService, KeepsVariables, KeepsParam, KeepsSessions, KeepsParams}
use Rattle.canonical_laws.proofs.Alike.{Tables, alike_words, Alike, Renewed, Read, mark_passes, word_passes, name_renewed, room_kept, list_renewed}

-- lists that are the same are of one length
same_count : {A : Type 0} (same : Same A) (xs ys : List A) → all_same same xs ys ≡ true → length xs ≡ length ys
same_count same [] [] h = refl
same_count same [] (y ∷ ys) h = absurd cc
same_count same (x ∷ xs) [] h = absurd cc
same_count same (x ∷ xs) (y ∷ ys) h = ap suc (same_count same xs ys (and_parts (same x y) (all_same same xs ys) h).1)

module _ {T : Tables} where
  -- ---- lists of names and parts

  pub names_renewed : {ns : List Named} {ts rest us : List Token} (d : NamesAre T.names ts ns rest) → Alike T ts us
      → Renewed T (NamesAre T.other_names) (λ vs ms left e. (n : ℕ) → KeepsNames nowhere n d → KeepsNames nowhere n e) (all_same (same_named (alike_words T)) ns) rest us
  names_renewed d h = list_renewed (λ ts rest us x e g. name_renewed e g) d h

  pub any_names_renewed : {ns : List Named} {ts rest us : List Token} (d : AnyNamesAre T.names ts ns rest) → Alike T ts us
      → Renewed T (AnyNamesAre T.other_names) (λ vs ms left e. (n : ℕ) → KeepsAnyNames nowhere n d → KeepsAnyNames nowhere n e) (all_same (same_named (alike_words T)) ns) rest us
  any_names_renewed {us = us} no_names h = record { read = []; left = us; is = no_names; keeps = λ n k. tt; same = refl; others = h }
  any_names_renewed (some_names d) h =
      let a = names_renewed d h in
      record { read = a.read; left = a.left; is = some_names a.is; keeps = a.keeps; same = a.same; others = a.others }

  pub part_renewed : {p : Part} {ts rest us : List Token} → PartIs T.names ts p rest → Alike T ts us → Read T (PartIs T.other_names) (same_part (alike_words T) p) rest us
  part_renewed (a_part d1 d2 d3 d4) h =
      let a = name_renewed d1 h in
      let b = mark_passes d2 a.others in
      let c = name_renewed d3 b.others in
      let d = mark_passes d4 c.others in
      record { read = record { process = a.read; role = c.read }; left = d.left; is = a_part a.is b.is c.is d.is; keeps = λ k. tt; same = λ i. a.same i && c.same i; others = d.others }

  -- ---- protocols

  sort_renewed : {s : Sort} {ts rest us : List Token} → SortIs T.names ts s rest → Alike T ts us → Read T (SortIs T.other_names) (same_sort s) rest us
  sort_renewed (int d) h = let a = word_passes d h in record { read = sort.Int; left = a.left; is = int a.is; keeps = λ k. tt; same = refl; others = a.others }
  sort_renewed (bool d) h = let a = word_passes d h in record { read = sort.Bool; left = a.left; is = bool a.is; keeps = λ k. tt; same = refl; others = a.others }
  sort_renewed (text d) h = let a = word_passes d h in record { read = sort.Text; left = a.left; is = text a.is; keeps = λ k. tt; same = refl; others = a.others }

  payload_renewed : {p : Payload} {ts rest us : List Token} → PayloadIs T.names ts p rest → Alike T ts us → Read T (PayloadIs T.other_names) (same_payload (alike_words T) p) rest us
  payload_renewed (plain d) h =
      let a = sort_renewed d h in
      record { read = payload.Plain a.read; left = a.left; is = plain a.is; keeps = λ k. tt; same = a.same; others = a.others }
  payload_renewed (endpoint d1 d2 d3 d4 d5) h =
      let a = name_renewed d1 h in
      let b = mark_passes d2 a.others in
      let c = name_renewed d3 b.others in
      let d = mark_passes d4 c.others in
      let e = name_renewed d5 d.others in
      record { read = payload.Endpoint a.read c.read e.read; left = e.left; is = endpoint a.is b.is c.is d.is e.is; keeps = λ k. tt; same = λ i. a.same i && c.same i && e.same i; others = e.others }

  arm_renewed : {m : ProtoArm} {ts rest us : List Token} → ArmIs T.names ts m rest → Alike T ts us → Read T (ArmIs T.other_names) (same_arm (alike_words T) m) rest us
  arm_renewed (an_arm d1 d2 d3) h =
      let a = name_renewed d1 h in
      let b = word_passes d2 a.others in
      let c = name_renewed d3 b.others in
      record { read = record { label = a.read; next = c.read }; left = c.left; is = an_arm a.is b.is c.is; keeps = λ k. tt; same = λ i. a.same i && c.same i; others = c.others }

  step_renewed : {s : ProtoStep} {ts rest us : List Token} (d : StepIs T.names ts s rest) → Alike T ts us
      → Renewed T (StepIs T.other_names) (λ vs r left e. KeepsStep nowhere d → KeepsStep nowhere e) (same_step (alike_words T) s) rest us
  step_renewed (end_step d) h = let a = word_passes d h in record { read = step.End; left = a.left; is = end_step a.is; keeps = λ k. tt; same = refl; others = a.others }
  step_renewed (value_step d1 d2 d3 d4 d5 d6 d7) h =
      let a = name_renewed d1 h in
      let b = mark_passes d2 a.others in
      let c = name_renewed d3 b.others in
      let d = mark_passes d4 c.others in
      let e = payload_renewed d5 d.others in
      let f = word_passes d6 e.others in
      let g = name_renewed d7 f.others in
      record {
        read = step.Value a.read c.read e.read g.read;
        left = g.left;
        is = value_step a.is b.is c.is d.is e.is f.is g.is;
        keeps = λ k. tt;
        same = λ i. a.same i && c.same i && e.same i && g.same i;
        others = g.others;
      }
  step_renewed (choice_step d1 d2 d3 d4 d5 d6) h =
      let a = name_renewed d1 h in
      let b = mark_passes d2 a.others in
      let c = name_renewed d3 b.others in
      let d = mark_passes d4 c.others in
      let e = list_renewed (λ ts rest us x m g. arm_renewed m g) d5 d.others in
      let f = mark_passes d6 e.others in
      record {
        read = step.Choice a.read c.read e.read;
        left = f.left;
        is = choice_step a.is b.is c.is d.is e.is f.is;
        keeps = e.keeps 64;
        same = λ i. a.same i && c.same i && e.same i;
        others = f.others;
      }

  state_renewed : {s : State} {ts rest us : List Token} (d : StateIs T.names ts s rest) → Alike T ts us
      → Renewed T (StateIs T.other_names) (λ vs r left e. KeepsState nowhere d → KeepsState nowhere e) (same_state (alike_words T) s) rest us
  state_renewed (a_state d1 d2 d3 d4) h =
      let a = name_renewed d1 h in
      let b = mark_passes d2 a.others in
      let c = step_renewed d3 b.others in
      let d = mark_passes d4 c.others in
      record { read = record { name = a.read; step = c.read }; left = d.left; is = a_state a.is b.is c.is d.is; keeps = c.keeps; same = λ i. a.same i && c.same i; others = d.others }

  more_states_renewed : {ss : List State} {ts rest us : List Token} (d : MoreStatesAre T.names ts ss rest) → Alike T ts us
      → Renewed T (MoreStatesAre T.other_names) (λ vs rs left e. (n : ℕ) → KeepsMoreStates nowhere n d → KeepsMoreStates nowhere n e) (all_same (same_state (alike_words T)) ss) rest us
  more_states_renewed {us = us} no_state h = record { read = []; left = us; is = no_state; keeps = λ n k. tt; same = refl; others = h }
  more_states_renewed (one_state d r) h =
      let a = state_renewed d h in
      let b = more_states_renewed r a.others in
      record { read = a.read ∷ b.read; left = b.left; is = one_state a.is b.is; keeps = λ n k. (room_kept P3 n h k.0, a.keeps k.1, b.keeps (n - 1) k.2); same = λ i. a.same i && b.same i; others = b.others }

  states_renewed : {ss : List State} {ts rest us : List Token} (d : StatesAre T.names ts ss rest) → Alike T ts us
      → Renewed T (StatesAre T.other_names) (λ vs rs left e. KeepsStates nowhere d → KeepsStates nowhere e) (all_same (same_state (alike_words T)) ss) rest us
  states_renewed (some_states d r) h =
      let a = state_renewed d h in
      let b = more_states_renewed r a.others in
      record { read = a.read ∷ b.read; left = b.left; is = some_states a.is b.is; keeps = λ k. (a.keeps k.0, b.keeps 255 k.1); same = λ i. a.same i && b.same i; others = b.others }

  pub protocol_renewed : {p : Protocol} {ts rest us : List Token} (d : ProtocolIs T.names ts p rest) → Alike T ts us
      → Renewed T (ProtocolIs T.other_names) (λ vs q left e. KeepsProtocol nowhere d → KeepsProtocol nowhere e) (same_protocol (alike_words T) p) rest us
  protocol_renewed (a_protocol d1 d2 d3 d4 d5 d6 d7 d8) l =
      let a = word_passes d1 l in
      let b = name_renewed d2 a.others in
      let c = mark_passes d3 b.others in
      let d = names_renewed d4 c.others in
      let e = mark_passes d5 d.others in
      let f = mark_passes d6 e.others in
      let g = states_renewed d7 f.others in
      let h = mark_passes d8 g.others in
      record {
        read = record { name = b.read; roles = d.read; states = g.read };
        left = h.left;
        is = a_protocol a.is b.is c.is d.is e.is f.is g.is h.is;
        keeps = λ k. (d.keeps 16 k.0, g.keeps k.1);
        same = λ i. b.same i && d.same i && g.same i;
        others = h.others;
      }

  -- ---- services

  served_renewed : {ns : List Named} {ts rest us : List Token} (d : ServedAre T.names ts ns rest) → Alike T ts us
      → Renewed T (ServedAre T.other_names) (λ vs ms left e. (n : ℕ) → KeepsServed nowhere n d → KeepsServed nowhere n e) (all_same (same_named (alike_words T)) ns) rest us
  served_renewed {us = us} none_served h = record { read = []; left = us; is = none_served; keeps = λ n k. tt; same = refl; others = h }
  served_renewed (some_served d1 d2) h =
      let a = mark_passes d1 h in
      let b = names_renewed d2 a.others in
      record { read = b.read; left = b.left; is = some_served a.is b.is; keeps = b.keeps; same = b.same; others = b.others }

  pub service_renewed : {s : Service} {ts rest us : List Token} (d : ServiceIs T.names ts s rest) → Alike T ts us
      → Renewed T (ServiceIs T.other_names) (λ vs r left e. KeepsService nowhere d → KeepsService nowhere e) (same_service (alike_words T) s) rest us
  service_renewed (a_service {active = active} d1 d2 d3 d4 d5 d6 d7 d8 d9) l =
      let a = word_passes d1 l in
      let b = name_renewed d2 a.others in
      let c = mark_passes d3 b.others in
      let d = name_renewed d4 c.others in
      let e = mark_passes d5 d.others in
      let f = names_renewed d6 e.others in
      let g = served_renewed d7 f.others in
      let h = mark_passes d8 g.others in
      let j = mark_passes d9 h.others in
      let count : length active ≡ length f.read = same_count (same_named (alike_words T)) active f.read f.same in
      record {
        read = record { name = b.read; protocol = d.read; active = f.read; serve = g.read };
        left = j.left;
        is = a_service a.is b.is c.is d.is e.is f.is g.is h.is j.is;
        keeps = λ k. (f.keeps 16 k.0, subst (λ (n : ℕ). KeepsServed nowhere (16 - n) g.is) count (g.keeps (16 - length active) k.1));
        same = λ i. b.same i && d.same i && f.same i && g.same i;
        others = j.others;
      }

  -- ---- parameters

  variable_renewed : {v : Named × Sort} {ts rest us : List Token} → VariableIs T.names ts v rest → Alike T ts us → Read T (VariableIs T.other_names) (same_variable (alike_words T) v) rest us
  variable_renewed (a_variable d1 d2 d3) h =
      let a = name_renewed d1 h in
      let b = mark_passes d2 a.others in
      let c = sort_renewed d3 b.others in
      record { read = (a.read, c.read); left = c.left; is = a_variable a.is b.is c.is; keeps = λ k. tt; same = λ i. a.same i && c.same i; others = c.others }

  variables_renewed : {xs : List (Named × Sort)} {ts rest us : List Token} (d : VariablesAre T.names ts xs rest) → Alike T ts us
      → Renewed T (VariablesAre T.other_names) (λ vs ys left e. KeepsVariables nowhere d → KeepsVariables nowhere e) (all_same (same_variable (alike_words T)) xs) rest us
  variables_renewed {us = us} no_variables h = record { read = []; left = us; is = no_variables; keeps = λ k. tt; same = refl; others = h }
  variables_renewed (some_variables d1 d2 d3) h =
      let a = mark_passes d1 h in
      let b = list_renewed (λ ts rest us x m g. variable_renewed m g) d2 a.others in
      let c = mark_passes d3 b.others in
      record { read = b.read; left = c.left; is = some_variables a.is b.is c.is; keeps = b.keeps 16; same = b.same; others = c.others }

  process_param_renewed : {p : ProcParam} {ts rest us : List Token} (d : ProcParamIs T.names ts p rest) → Alike T ts us
      → Renewed T (ProcParamIs T.other_names) (λ vs q left e. KeepsParam nowhere ts p rest d → KeepsParam nowhere vs q left e) (same_process_param (alike_words T) p) rest us
  process_param_renewed (a_param d1 d2) h =
      let a = name_renewed d1 h in
      let b = variables_renewed d2 a.others in
      record { read = record { name = a.read; vars = b.read }; left = b.left; is = a_param a.is b.is; keeps = b.keeps; same = λ i. a.same i && b.same i; others = b.others }

  holder_renewed : {x : Named × Named} {ts rest us : List Token} → HolderIs T.names ts x rest → Alike T ts us → Read T (HolderIs T.other_names) (same_holder (alike_words T) x) rest us
  holder_renewed (a_holder d1 d2 d3) h =
      let a = name_renewed d1 h in
      let b = mark_passes d2 a.others in
      let c = name_renewed d3 b.others in
      record { read = (a.read, c.read); left = c.left; is = a_holder a.is b.is c.is; keeps = λ k. tt; same = λ i. a.same i && c.same i; others = c.others }

  session_param_renewed : {x : SessionParam} {ts rest us : List Token} → SessionParamIs T.names ts x rest → Alike T ts us
      → Read T (SessionParamIs T.other_names) (same_session_param (alike_words T) x) rest us
  session_param_renewed (a_session d1 d2 d3 d4 d5 d6 d7 d8) l =
      let a = name_renewed d1 l in
      let b = mark_passes d2 a.others in
      let c = name_renewed d3 b.others in
      let d = mark_passes d4 c.others in
      let e = name_renewed d5 d.others in
      let f = mark_passes d6 e.others in
      let g = list_renewed (λ ts rest us x m g. holder_renewed m g) d7 f.others in
      let h = mark_passes d8 g.others in
      record {
        read = record { name = a.read; protocol = c.read; state = e.read; holders = g.read };
        left = h.left;
        is = a_session a.is b.is c.is d.is e.is f.is g.is h.is;
        keeps = λ k. tt;
        same = λ i. a.same i && c.same i && e.same i && g.same i;
        others = h.others;
      }

  sessions_renewed : {ks : List SessionParam} {ts rest us : List Token} (d : SessionsAre T.names ts ks rest) → Alike T ts us
      → Renewed T (SessionsAre T.other_names) (λ vs ls left e. KeepsSessions nowhere d → KeepsSessions nowhere e) (all_same (same_session_param (alike_words T)) ks) rest us
  sessions_renewed {us = us} no_sessions h = record { read = []; left = us; is = no_sessions; keeps = λ k. tt; same = refl; others = h }
  sessions_renewed (some_sessions d1 d2) h =
      let a = mark_passes d1 h in
      let b = list_renewed (λ ts rest us x m g. session_param_renewed m g) d2 a.others in
      record { read = b.read; left = b.left; is = some_sessions a.is b.is; keeps = b.keeps 8; same = b.same; others = b.others }

-- both lists of parameters are the same
abbrev pub same_params : Tables → Same (List ProcParam × List SessionParam)
same_params T x y = all_same (same_process_param (alike_words T)) x.0 y.0 && all_same (same_session_param (alike_words T)) x.1 y.1

pub params_renewed : {T : Tables} {ps : List ProcParam} {ks : List SessionParam} {ts rest us : List Token} (d : ParamsAre T.names ts ps ks rest) → Alike T ts us
    → Renewed T (λ vs x left. ParamsAre T.other_names vs x.0 x.1 left) (λ vs x left e. KeepsParams nowhere d → KeepsParams nowhere e) (same_params T (ps, ks)) rest us
params_renewed {us = us} no_params h = record { read = ([], []); left = us; is = no_params; keeps = λ k. tt; same = refl; others = h }
params_renewed (some_params d1 d2) h =
    let a = list_renewed (λ ts rest us x m g. process_param_renewed m g) d1 h in
    let b = sessions_renewed d2 a.others in
    record { read = (a.read, b.read); left = b.left; is = some_params a.is b.is; keeps = λ k. (a.keeps 8 k.0, b.keeps k.1); same = λ i. a.same i && b.same i; others = b.others }
