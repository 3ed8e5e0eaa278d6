-- The expressions of a source that the tokens of a file derive are expressions of a source.
use Rattle.std.proofs.Common.{◌≡◌, ℕ, List, ◌∷◌, subst}
use Rattle.std.specs.List.{AllByRecursion}
use Rattle.chor_base.specs.Expr.{Term}
use Rattle.chor_base.specs.declared.value.Sort.{Sort}
use Rattle.chor_lexer.specs.declared.mark.Mark.{Mark}
use Rattle.chor_lexer.specs.declared.token.Token.{Token}
use Rattle.chor_lexer.specs.Grammar.{ExprIs}
use Rattle.chor_lexer.specs.Spelling.{IsSource}
use Rattle.chor_lexer.proofs.Sources.{AreOfFile, Sourced, or_sourced}
use Rattle.chor_tree.specs.declared.header.Header.{Header}
use Rattle.chor_tree.specs.declared.file.Named.{Named}
use Rattle.chor_tree.specs.declared.file.Service.{Service}
use Rattle.chor_tree.specs.declared.file.ProcParam.{ProcParam}
use Rattle.chor_tree.specs.declared.file.SessionParam.{SessionParam}
use Rattle.chor_tree.specs.Protocols.{Protocol}
use Rattle.chor_tree.specs.declared.protocol.State.{State}
use Rattle.chor_tree.specs.declared.protocol.ProtoStep.{ProtoStep}
use Rattle.chor_tree.specs.declared.protocol.ProtoArm.{ProtoArm}
use Rattle.chor_tree.specs.declared.protocol.Payload.{Payload}
use Rattle.chor_tree.specs.declared.tree.Part.{Part}
use Rattle.chor_tree.specs.Source.{Statement, Block, Procedure, Items, Source}
use Rattle.source_grammar.specs.Grammar.{MarkIs, WordIs, NumberIs, NameIs, MoreAre, no_more, one_more, ListIs, a_list, NamesAre, AnyNamesAre, no_names, some_names, PartIs, a_part, SortIs, int, bool, text, PayloadIs, plain, endpoint, ArmIs, an_arm, StepIs, end_step, value_step, choice_step, StateIs, a_state, MoreStatesAre, no_state, one_state, StatesAre, some_states, ProtocolIs, a_protocol, ServedAre, none_served, some_served, ServiceIs, a_service, VariableIs, a_variable, VariablesAre, no_variables, some_variables, ProcParamIs, a_param, HolderIs, a_holder, SessionParamIs, a_session, SessionsAre, no_sessions, some_sessions, ParamsAre, no_params, some_params, NewPartsAre, no_new, some_new, StatementIs, a_start, a_value, a_label, a_delegation, a_set, a_host_call, a_show, PassedSessionsAre, no_session_passed, sessions_passed, PassedAre, nothing_passed, processes_passed, BlockIs, a_block, LinesAre, a_line, a_tail, TailIs, an_end, a_call, a_conditional, ProcedureIs, a_procedure, HeaderIs, without_header, a_header, no_capacity, a_capacity, ItemsAre, no_item, protocol_first, service_first, procedure_first, FileIs, a_file}
use Rattle.canonical_laws.specs.Terms.{AllInStatement, AllInBlock, AllTerms}

-- the tokens are tokens of a file
pub record Known (names texts : List (List ℕ)) (ts : List Token) : Type 0 where
  pub all : AreOfFile names texts ts

module _ {names texts : List (List ℕ)} where
  past : {us : List Token} (t : Token) (vs : List Token) → us ≡ t ∷ vs → Known names texts us → Known names texts vs
  past t vs e h = let k = subst (AreOfFile names texts) e h.all in record { all = k.1 }

  mark_on : {m : Mark} {us vs : List Token} → MarkIs m us vs → Known names texts us → Known names texts vs
  mark_on {vs = vs} d h = past d.token vs d.parts h

  word_on : {w : List ℕ} {us vs : List Token} → WordIs names w us vs → Known names texts us → Known names texts vs
  word_on {vs = vs} d h = past d.token vs d.parts h

  number_on : {n : ℕ} {us vs : List Token} → NumberIs n us vs → Known names texts us → Known names texts vs
  number_on {vs = vs} d h = past d.token vs d.parts h

  name_on : {n : Named} {us vs : List Token} → NameIs names us n vs → Known names texts us → Known names texts vs
  name_on {vs = vs} d h = past d.token vs d.parts h

  term_on : {e : Term} {us vs : List Token} → ExprIs names us e vs → Known names texts us → Sourced names texts e vs
  term_on {e} {us} {vs} d h = or_sourced names texts us e vs d h.all

  after_term : {e : Term} {vs : List Token} → Sourced names texts e vs → Known names texts vs
  after_term s = record { all = s.others }

  -- ---- what has no expressions

  more_on : {A : Type 0} {Item : List Token → A → List Token → Type 0} → ((us vs : List Token) (x : A) → Item us x vs → Known names texts us → Known names texts vs)
      → {us vs : List Token} {xs : List A} → MoreAre Item us xs vs → Known names texts us → Known names texts vs
  more_on item no_more h = h
  more_on item (one_more m d r) h = more_on item r (item _ _ _ d (mark_on m h))

  list_on : {A : Type 0} {Item : List Token → A → List Token → Type 0} → ((us vs : List Token) (x : A) → Item us x vs → Known names texts us → Known names texts vs)
      → {us vs : List Token} {xs : List A} → ListIs Item us xs vs → Known names texts us → Known names texts vs
  list_on item (a_list d r) h = more_on item r (item _ _ _ d h)

  names_on : {us vs : List Token} {ns : List Named} → NamesAre names us ns vs → Known names texts us → Known names texts vs
  names_on d h = list_on (λ us vs x d. name_on d) d h

  any_names_on : {us vs : List Token} {ns : List Named} → AnyNamesAre names us ns vs → Known names texts us → Known names texts vs
  any_names_on no_names h = h
  any_names_on (some_names d1) h = names_on d1 h

  part_on : {us vs : List Token} {p : Part} → PartIs names us p vs → Known names texts us → Known names texts vs
  part_on (a_part d1 d2 d3 d4) h = mark_on d4 (name_on d3 (mark_on d2 (name_on d1 h)))

  parts_on : {us vs : List Token} {ps : List Part} → ListIs (PartIs names) us ps vs → Known names texts us → Known names texts vs
  parts_on d h = list_on (λ us vs x d. part_on d) d h

  sort_on : {us vs : List Token} {s : Sort} → SortIs names us s vs → Known names texts us → Known names texts vs
  sort_on (int d1) h = word_on d1 h
  sort_on (bool d1) h = word_on d1 h
  sort_on (text d1) h = word_on d1 h

  payload_on : {us vs : List Token} {p : Payload} → PayloadIs names us p vs → Known names texts us → Known names texts vs
  payload_on (plain d1) h = sort_on d1 h
  payload_on (endpoint d1 d2 d3 d4 d5) h = name_on d5 (mark_on d4 (name_on d3 (mark_on d2 (name_on d1 h))))

  arm_on : {us vs : List Token} {a : ProtoArm} → ArmIs names us a vs → Known names texts us → Known names texts vs
  arm_on (an_arm d1 d2 d3) h = name_on d3 (word_on d2 (name_on d1 h))

  step_on : {us vs : List Token} {s : ProtoStep} → StepIs names us s vs → Known names texts us → Known names texts vs
  step_on (end_step d1) h = word_on d1 h
  step_on (value_step d1 d2 d3 d4 d5 d6 d7) h = name_on d7 (word_on d6 (payload_on d5 (mark_on d4 (name_on d3 (mark_on d2 (name_on d1 h))))))
  step_on (choice_step d1 d2 d3 d4 d5 d6) h = mark_on d6 (list_on (λ us vs x d. arm_on d) d5 (mark_on d4 (name_on d3 (mark_on d2 (name_on d1 h)))))

  state_on : {us vs : List Token} {s : State} → StateIs names us s vs → Known names texts us → Known names texts vs
  state_on (a_state d1 d2 d3 d4) h = mark_on d4 (step_on d3 (mark_on d2 (name_on d1 h)))

  more_states_on : {us vs : List Token} {ss : List State} → MoreStatesAre names us ss vs → Known names texts us → Known names texts vs
  more_states_on no_state h = h
  more_states_on (one_state d1 d2) h = more_states_on d2 (state_on d1 h)

  states_on : {us vs : List Token} {ss : List State} → StatesAre names us ss vs → Known names texts us → Known names texts vs
  states_on (some_states d1 d2) h = more_states_on d2 (state_on d1 h)

  protocol_on : {us vs : List Token} {p : Protocol} → ProtocolIs names us p vs → Known names texts us → Known names texts vs
  protocol_on (a_protocol d1 d2 d3 d4 d5 d6 d7 d8) h = mark_on d8 (states_on d7 (mark_on d6 (mark_on d5 (names_on d4 (mark_on d3 (name_on d2 (word_on d1 h)))))))

  served_on : {us vs : List Token} {ns : List Named} → ServedAre names us ns vs → Known names texts us → Known names texts vs
  served_on none_served h = h
  served_on (some_served d1 d2) h = names_on d2 (mark_on d1 h)

  service_on : {us vs : List Token} {s : Service} → ServiceIs names us s vs → Known names texts us → Known names texts vs
  service_on (a_service d1 d2 d3 d4 d5 d6 d7 d8 d9) h = mark_on d9 (mark_on d8 (served_on d7 (names_on d6 (mark_on d5 (name_on d4 (mark_on d3 (name_on d2 (word_on d1 h))))))))

  variable_on : {us vs : List Token} {v : Named × Sort} → VariableIs names us v vs → Known names texts us → Known names texts vs
  variable_on (a_variable d1 d2 d3) h = sort_on d3 (mark_on d2 (name_on d1 h))

  variables_on : {us vs : List Token} {xs : List (Named × Sort)} → VariablesAre names us xs vs → Known names texts us → Known names texts vs
  variables_on no_variables h = h
  variables_on (some_variables d1 d2 d3) h = mark_on d3 (list_on (λ us vs x d. variable_on d) d2 (mark_on d1 h))

  process_param_on : {us vs : List Token} {p : ProcParam} → ProcParamIs names us p vs → Known names texts us → Known names texts vs
  process_param_on (a_param d1 d2) h = variables_on d2 (name_on d1 h)

  holder_on : {us vs : List Token} {x : Named × Named} → HolderIs names us x vs → Known names texts us → Known names texts vs
  holder_on (a_holder d1 d2 d3) h = name_on d3 (mark_on d2 (name_on d1 h))

  session_param_on : {us vs : List Token} {k : SessionParam} → SessionParamIs names us k vs → Known names texts us → Known names texts vs
  session_param_on (a_session d1 d2 d3 d4 d5 d6 d7 d8) h = mark_on d8 (list_on (λ us vs x d. holder_on d) d7 (mark_on d6 (name_on d5 (mark_on d4 (name_on d3 (mark_on d2 (name_on d1 h)))))))

  sessions_on : {us vs : List Token} {ks : List SessionParam} → SessionsAre names us ks vs → Known names texts us → Known names texts vs
  sessions_on no_sessions h = h
  sessions_on (some_sessions d1 d2) h = list_on (λ us vs x d. session_param_on d) d2 (mark_on d1 h)

  params_on : {us vs : List Token} {ps : List ProcParam} {ks : List SessionParam} → ParamsAre names us ps ks vs → Known names texts us → Known names texts vs
  params_on no_params h = h
  params_on (some_params d1 d2) h = sessions_on d2 (list_on (λ us vs x d. process_param_on d) d1 h)

  new_parts_on : {us vs : List Token} {ps : List Part} → NewPartsAre names us ps vs → Known names texts us → Known names texts vs
  new_parts_on no_new h = h
  new_parts_on (some_new d1 d2) h = parts_on d2 (word_on d1 h)

  passed_sessions_on : {us vs : List Token} {ns : List Named} → PassedSessionsAre names us ns vs → Known names texts us → Known names texts vs
  passed_sessions_on no_session_passed h = h
  passed_sessions_on (sessions_passed d1 d2) h = names_on d2 (mark_on d1 h)

  passed_on : {us vs : List Token} {ps : List Named} {ks : List Named} → PassedAre names us ps ks vs → Known names texts us → Known names texts vs
  passed_on nothing_passed h = h
  passed_on (processes_passed d1 d2) h = passed_sessions_on d2 (names_on d1 h)

-- the expressions of what was read are expressions of a source, and the other tokens are of the file
record Sound (names texts : List (List ℕ)) (All : Type 0) (vs : List Token) : Type 0 where
  terms : All
  others : Known names texts vs

module _ {names texts : List (List ℕ)} where
  statement_sound : (s : Statement) {us vs : List Token} → StatementIs names us s vs → Known names texts us → Sound names texts (AllInStatement (IsSource names texts) s) vs
  statement_sound x (a_start d1 d2 d3 d4 d5 d6 d7 d8) h = record { terms = tt; others = new_parts_on d8 (parts_on d7 (mark_on d6 (mark_on d5 (name_on d4 (mark_on d3 (name_on d2 (word_on d1 h))))))) }
  statement_sound x (a_value d1 d2 d3 d4 d5 d6 d7 d8 d9) h =
      let e = term_on d3 (mark_on d2 (part_on d1 h)) in
      record { terms = e.source; others = name_on d9 (mark_on d8 (name_on d7 (mark_on d6 (part_on d5 (mark_on d4 (after_term e)))))) }
  statement_sound x (a_label d1 d2 d3 d4 d5 d6 d7) h = record { terms = tt; others = name_on d7 (mark_on d6 (name_on d5 (mark_on d4 (part_on d3 (mark_on d2 (part_on d1 h)))))) }
  statement_sound x (a_delegation d1 d2 d3 d4 d5 d6 d7 d8) h = record { terms = tt; others = mark_on d8 (part_on d7 (mark_on d6 (name_on d5 (mark_on d4 (part_on d3 (mark_on d2 (part_on d1 h))))))) }
  statement_sound x (a_set d1 d2 d3 d4 d5) h =
      let e = term_on d5 (mark_on d4 (name_on d3 (mark_on d2 (name_on d1 h)))) in record { terms = e.source; others = after_term e }
  statement_sound x (a_host_call d1 d2 d3 d4 d5 d6 d7 d8 d9 d10 d11) h =
      let a = term_on d8 (mark_on d7 (name_on d6 (word_on d5 (mark_on d4 (name_on d3 (mark_on d2 (name_on d1 h))))))) in
      let b = term_on d10 (mark_on d9 (after_term a)) in
      record { terms = (a.source, b.source); others = mark_on d11 (after_term b) }
  statement_sound x (a_show d1 d2 d3) h = let e = term_on d3 (word_on d2 (name_on d1 h)) in record { terms = e.source; others = after_term e }

  mutual
    block_sound : (b : Block) {us vs : List Token} → BlockIs names us b vs → Known names texts us → Sound names texts (AllInBlock (IsSource names texts) b) vs
    block_sound x (a_block {b = b} d1 d2 d3) h = let a = lines_sound b d2 (mark_on d1 h) in record { terms = a.terms; others = mark_on d3 a.others }

    lines_sound : (b : Block) {us vs : List Token} → LinesAre names us b vs → Known names texts us → Sound names texts (AllInBlock (IsSource names texts) b) vs
    lines_sound x (a_line {s = s} {b = b} d1 d2 d3 d4) h =
        let a = statement_sound s d2 h in
        let r = lines_sound b d4 (mark_on d3 a.others) in
        record { terms = (a.terms, r.terms); others = r.others }
    lines_sound x (a_tail d1) h = tail_sound x d1 h

    tail_sound : (b : Block) {us vs : List Token} → TailIs names us b vs → Known names texts us → Sound names texts (AllInBlock (IsSource names texts) b) vs
    tail_sound x (an_end d1 d2) h = record { terms = tt; others = word_on d2 h }
    tail_sound x (a_call d1 d2 d3 d4 d5 d6) h = record { terms = tt; others = mark_on d6 (passed_on d5 (mark_on d4 (name_on d3 (word_on d2 h)))) }
    tail_sound x (a_conditional {a = a} {b = b} d1 d2 d3 d4 d5 d6 d7 d8) h =
        let e = term_on d5 (mark_on d4 (name_on d3 (word_on d2 h))) in
        let f = block_sound a d6 (after_term e) in
        let g = block_sound b d8 (word_on d7 f.others) in
        record { terms = (e.source, f.terms, g.terms); others = g.others }

  procedure_sound : (p : Procedure) {us vs : List Token} → ProcedureIs names us p vs → Known names texts us → Sound names texts (AllInBlock (IsSource names texts) p.body) vs
  procedure_sound x (a_procedure {b = b} d1 d2 d3 d4 d5 d6) h = block_sound b d6 (mark_on d5 (params_on d4 (mark_on d3 (name_on d2 (word_on d1 h)))))

  items_sound : (is : Items) {us vs : List Token} → ItemsAre names us is vs → Known names texts us → Sound names texts (AllByRecursion (λ p. AllInBlock (IsSource names texts) p.body) is.procedures) vs
  items_sound x no_item h = record { terms = tt; others = h }
  items_sound x (protocol_first {is = is} d r) h = items_sound is r (protocol_on d h)
  items_sound x (service_first {is = is} d r) h = items_sound is r (service_on d h)
  items_sound x (procedure_first {p = p} {is = is} d r) h =
      let a = procedure_sound p d h in
      let b = items_sound is r a.others in
      record { terms = (a.terms, b.terms); others = b.others }

  header_on : {us vs : List Token} {h : Header} → HeaderIs names us h vs → Known names texts us → Known names texts vs
  header_on without_header h = h
  header_on (a_header d1 d2 d3 no_capacity) h = mark_on d3 (number_on d2 (word_on d1 h))
  header_on (a_header d1 d2 d3 (a_capacity d4 d5 d6 d7)) h = mark_on d7 (number_on d6 (word_on d5 (mark_on d3 (number_on d2 (word_on d1 h)))))

  pub file_sound : (s : Source) {us : List Token} → FileIs names us s → Known names texts us → AllTerms (IsSource names texts) s
  file_sound x (a_file {is = is} {b = b} d0 d1 d2 d3 d4 d5 d6 d7) h =
      let a = items_sound is d1 (header_on d0 h) in
      let c = block_sound b d6 (mark_on d5 (any_names_on d4 (mark_on d3 (word_on d2 a.others)))) in
      (a.terms, c.terms)
