-- The symbols of a source that some tokens derive have numbers in its tables of names and texts.
use Rattle.std.specs.Prelude.{pos}
use Rattle.std.proofs.Common.{ℕ, List, [], ◌∷◌, ◌++◌, sym, ap, ◌∙◌, Some, refl, codes}
use Rattle.std.specs.List.{AllByRecursion}
use Rattle.chor_base.specs.Expr.{Term}
use Rattle.chor_base.specs.declared.value.Sort.{Sort}
use Rattle.chor_lexer.specs.declared.mark.Mark.{Mark}
use Rattle.chor_lexer.specs.declared.mark.Mark.TheVariants.{Semicolon, Bar}
use Rattle.chor_lexer.specs.declared.token.Token.{Token}
use Rattle.chor_lexer.specs.declared.token.Kind.TheVariants as kind
use Rattle.chor_lexer.specs.Lexeme.{Symbol, word, number, mark, last}
use Rattle.chor_lexer.specs.Spelling.{IsSource, expr_symbols}
use Rattle.chor_lexer.proofs.Each.{each_append}
use Rattle.chor_lexer.proofs.ReadBack.{HasKind, HaveKinds, expr_kinds}
use Rattle.chor_lexer.proofs.Spelling.{name_of}
use Rattle.source_grammar.specs.Symbols.{nowhere}
use Rattle.chor_tree.specs.declared.header.Header.{Header}
use Rattle.chor_tree.specs.declared.file.Named.{Named}
use Rattle.chor_tree.specs.declared.file.Service.{Service}
use Rattle.chor_tree.specs.declared.file.ProcParam.{ProcParam}
use Rattle.chor_tree.specs.declared.file.SessionParam.{SessionParam}
use Rattle.chor_tree.specs.Protocols.{Protocol}
use Rattle.chor_tree.specs.declared.protocol.State.{State}
use Rattle.chor_tree.specs.declared.protocol.ProtoStep.{ProtoStep}
use Rattle.chor_tree.specs.declared.protocol.ProtoArm.{ProtoArm}
use Rattle.chor_tree.specs.declared.protocol.Payload.{Payload}
use Rattle.chor_tree.specs.declared.tree.Part.{Part}
use Rattle.chor_tree.specs.Source.{Statement, Block, Procedure, Source}
use Rattle.source_grammar.specs.Grammar.{WordIs, NameIs, MoreAre, no_more, one_more, ListIs, a_list, AnyNamesAre, no_names, some_names, PartIs, a_part, SortIs, int, bool, text, PayloadIs, plain, endpoint, ArmIs, an_arm, StepIs, end_step, value_step, choice_step, StateIs, a_state, MoreStatesAre, no_state, one_state, StatesAre, some_states, ProtocolIs, a_protocol, ServedAre, none_served, some_served, ServiceIs, a_service, VariableIs, a_variable, VariablesAre, no_variables, some_variables, ProcParamIs, a_param, HolderIs, a_holder, SessionParamIs, a_session, SessionsAre, no_sessions, some_sessions, ParamsAre, no_params, some_params, NewPartsAre, no_new, some_new, StatementIs, a_start, a_value, a_label, a_delegation, a_set, a_host_call, a_show, PassedSessionsAre, no_session_passed, sessions_passed, PassedAre, nothing_passed, processes_passed, BlockIs, a_block, LinesAre, a_line, a_tail, TailIs, an_end, a_call, a_conditional, HeaderIs, without_header, a_header, no_capacity, a_capacity, ProcedureIs, a_procedure, FileIs, a_file}
use Rattle.source_grammar.specs.Limits.{KeepsAll}
use Rattle.source_grammar.specs.Parts.{ProtocolPart, ServicePart}
use Rattle.source_grammar.specs.Files.{ProcedurePart}
use Rattle.canonical_laws.specs.Terms.{AllInStatement, AllInBlock, AllTerms}
use Rattle.canonical_laws.specs.Symbols.{name_symbols, each, after_commas, listed, listed_after, part_symbols, sort_symbols, payload_symbols, arm_symbols, step_symbols, state_symbols, protocol_symbols, service_symbols, variable_symbols, variables_symbols, process_param_symbols, holder_symbols, session_param_symbols, statement_symbols, lines_symbols, block_symbols, header_symbols, procedure_symbols, source_symbols}
use Rattle.canonical_laws.proofs.Derived.{Derived, gathered}

-- each symbol has a number, where it is a word or a text
pub record Kinds (names texts : List (List ℕ)) (ss : List Symbol) : Type 0 where
  pub all : HaveKinds names texts ss

module _ {names texts : List (List ℕ)} where
  mark_there : {m : Mark} {more : List Symbol} → Kinds names texts more → Kinds names texts (mark m ∷ more)
  mark_there {m} k = record { all = ((kind.Mark m, refl), k.all) }

  word_there : {w : List ℕ} {us vs : List Token} → WordIs names w us vs → {more : List Symbol} → Kinds names texts more → Kinds names texts (word w ∷ more)
  word_there d k = record { all = ((kind.Word d.is.number, d.is.word), k.all) }

  number_there : (n : ℕ) {more : List Symbol} → Kinds names texts more → Kinds names texts (number n ∷ more)
  number_there n k = record { all = ((kind.Number (pos n), refl), k.all) }

  name_there : {n : Named} {us vs : List Token} → NameIs names us n vs → {more : List Symbol} → Kinds names texts more → Kinds names texts (name_symbols names n more)
  name_there {n} d k =
      let known = name_of names n.name d.is.word d.is.is in
      record { all = ((kind.Word n.name, d.is.is ∙ ap Some (sym known)), k.all) }

  term_there : (e : Term) → IsSource names texts e → {more : List Symbol} → Kinds names texts more → Kinds names texts (expr_symbols names texts e ++ more)
  term_there e ok {more} k = record { all = each_append (HasKind names texts) (expr_symbols names texts e) more (expr_kinds names texts e ok) k.all }

  -- ---- lists

  more_there : {A : Type 0} {Item : List Token → A → List Token → Type 0} {symbols : A → List Symbol → List Symbol}
      → ((us vs : List Token) (x : A) → Item us x vs → (more : List Symbol) → Kinds names texts more → Kinds names texts (symbols x more))
      → (xs : List A) {us vs : List Token} → MoreAre Item us xs vs → {more : List Symbol} → Kinds names texts more → Kinds names texts (after_commas symbols xs more)
  more_there item ys no_more k = k
  more_there item ys (one_more {xs = xs} m d r) k = mark_there (item _ _ _ d _ (more_there item xs r k))

  list_there : {A : Type 0} {Item : List Token → A → List Token → Type 0} {symbols : A → List Symbol → List Symbol}
      → ((us vs : List Token) (x : A) → Item us x vs → (more : List Symbol) → Kinds names texts more → Kinds names texts (symbols x more))
      → (xs : List A) {us vs : List Token} → ListIs Item us xs vs → {more : List Symbol} → Kinds names texts more → Kinds names texts (listed symbols xs more)
  list_there item ys (a_list {xs = xs} d r) k = item _ _ _ d _ (more_there item xs r k)

  each_there : {A : Type 0} {P : A → Type 0} {symbols : A → List Symbol → List Symbol}
      → ((x : A) → P x → (more : List Symbol) → Kinds names texts more → Kinds names texts (symbols x more))
      → (xs : List A) → AllByRecursion P xs → {more : List Symbol} → Kinds names texts more → Kinds names texts (each symbols xs more)
  each_there item [] h k = k
  each_there item (x ∷ xs) h k = item x h.0 _ (each_there item xs h.1 k)

  -- ---- pieces

  part_there : (x : Part) {us vs : List Token} → PartIs names us x vs → {more : List Symbol} → Kinds names texts more → Kinds names texts (part_symbols names x more)
  part_there x (a_part d1 d2 d3 d4) k = name_there d1 (mark_there (name_there d3 (mark_there k)))

  sort_there : (x : Sort) {us vs : List Token} → SortIs names us x vs → {more : List Symbol} → Kinds names texts more → Kinds names texts (sort_symbols x more)
  sort_there x (int d1) k = word_there d1 k
  sort_there x (bool d1) k = word_there d1 k
  sort_there x (text d1) k = word_there d1 k

  payload_there : (x : Payload) {us vs : List Token} → PayloadIs names us x vs → {more : List Symbol} → Kinds names texts more → Kinds names texts (payload_symbols names x more)
  payload_there x (plain d1) k = sort_there _ d1 k
  payload_there x (endpoint d1 d2 d3 d4 d5) k = name_there d1 (mark_there (name_there d3 (mark_there (name_there d5 k))))

  arm_there : (x : ProtoArm) {us vs : List Token} → ArmIs names us x vs → {more : List Symbol} → Kinds names texts more → Kinds names texts (arm_symbols names x more)
  arm_there x (an_arm d1 d2 d3) k = name_there d1 (word_there d2 (name_there d3 k))

  step_there : (x : ProtoStep) {us vs : List Token} → StepIs names us x vs → {more : List Symbol} → Kinds names texts more → Kinds names texts (step_symbols names x more)
  step_there x (end_step d1) k = word_there d1 k
  step_there x (value_step {p = p} d1 d2 d3 d4 d5 d6 d7) k = name_there d1 (mark_there (name_there d3 (mark_there (payload_there p d5 (word_there d6 (name_there d7 k))))))
  step_there x (choice_step {arms = arms} d1 d2 d3 d4 d5 d6) k = name_there d1 (mark_there (name_there d3 (mark_there (list_there (λ us vs y e more l. arm_there y e l) arms d5 (mark_there k)))))

  state_there : (x : State) {us vs : List Token} → StateIs names us x vs → {more : List Symbol} → Kinds names texts more → Kinds names texts (state_symbols names x more)
  state_there x (a_state {s = s} d1 d2 d3 d4) k = name_there d1 (mark_there (step_there s d3 (mark_there k)))

  more_states_there : (x : List State) {us vs : List Token} → MoreStatesAre names us x vs → {more : List Symbol} → Kinds names texts more → Kinds names texts (each (state_symbols names) x more)
  more_states_there x no_state k = k
  more_states_there x (one_state {s = s} {ss = ss} d r) k = state_there s d (more_states_there ss r k)

  states_there : (x : List State) {us vs : List Token} → StatesAre names us x vs → {more : List Symbol} → Kinds names texts more → Kinds names texts (each (state_symbols names) x more)
  states_there x (some_states {s = s} {ss = ss} d r) k = state_there s d (more_states_there ss r k)

  protocol_there : (x : Protocol) {us vs : List Token} → ProtocolIs names us x vs → {more : List Symbol} → Kinds names texts more → Kinds names texts (protocol_symbols names x more)
  protocol_there x (a_protocol {roles = roles} {states = states} d1 d2 d3 d4 d5 d6 d7 d8) k = word_there d1 (name_there d2 (mark_there (list_there (λ us vs y e more l. name_there e l) roles d4 (mark_there (mark_there (states_there states d7 (mark_there k)))))))

  served_there : (x : List Named) {us vs : List Token} → ServedAre names us x vs → {more : List Symbol} → Kinds names texts more → Kinds names texts (listed_after (mark Bar) (name_symbols names) x more)
  served_there x none_served k = k
  served_there x (some_served d1 (a_list {xs = xs} e r)) k = mark_there (name_there e (more_there (λ us vs y e more l. name_there e l) xs r k))

  service_there : (x : Service) {us vs : List Token} → ServiceIs names us x vs → {more : List Symbol} → Kinds names texts more → Kinds names texts (service_symbols names x more)
  service_there x (a_service {active = active} {serve = serve} d1 d2 d3 d4 d5 d6 d7 d8 d9) k = word_there d1 (name_there d2 (mark_there (name_there d4 (mark_there (list_there (λ us vs y e more l. name_there e l) active d6 (served_there serve d7 (mark_there (mark_there k))))))))

  variable_there : (x : Named × Sort) {us vs : List Token} → VariableIs names us x vs → {more : List Symbol} → Kinds names texts more → Kinds names texts (variable_symbols names x more)
  variable_there x (a_variable {s = s} d1 d2 d3) k = name_there d1 (mark_there (sort_there s d3 k))

  variables_there : (x : List (Named × Sort)) {us vs : List Token} → VariablesAre names us x vs → {more : List Symbol} → Kinds names texts more → Kinds names texts (variables_symbols names x more)
  variables_there x no_variables k = k
  variables_there x (some_variables d1 (a_list {x = v} {xs = xs} e r) d3) k = mark_there (variable_there v e (more_there (λ us vs y e more l. variable_there y e l) xs r (mark_there k)))

  process_param_there : (x : ProcParam) {us vs : List Token} → ProcParamIs names us x vs → {more : List Symbol} → Kinds names texts more → Kinds names texts (process_param_symbols names x more)
  process_param_there x (a_param {vs = vars} d1 d2) k = name_there d1 (variables_there vars d2 k)

  holder_there : (x : Named × Named) {us vs : List Token} → HolderIs names us x vs → {more : List Symbol} → Kinds names texts more → Kinds names texts (holder_symbols names x more)
  holder_there x (a_holder d1 d2 d3) k = name_there d1 (mark_there (name_there d3 k))

  session_param_there : (x : SessionParam) {us vs : List Token} → SessionParamIs names us x vs → {more : List Symbol} → Kinds names texts more → Kinds names texts (session_param_symbols names x more)
  session_param_there x (a_session {hs = hs} d1 d2 d3 d4 d5 d6 d7 d8) k = name_there d1 (mark_there (name_there d3 (mark_there (name_there d5 (mark_there (list_there (λ us vs y e more l. holder_there y e l) hs d7 (mark_there k)))))))

  sessions_there : (x : List SessionParam) {us vs : List Token} → SessionsAre names us x vs → {more : List Symbol} → Kinds names texts more → Kinds names texts (listed_after (mark Semicolon) (session_param_symbols names) x more)
  sessions_there x no_sessions k = k
  sessions_there x (some_sessions d1 (a_list {x = v} {xs = xs} e r)) k = mark_there (session_param_there v e (more_there (λ us vs y e more l. session_param_there y e l) xs r k))

  params_there : (ps : List ProcParam) (ks : List SessionParam) {us vs : List Token} → ParamsAre names us ps ks vs → {more : List Symbol} → Kinds names texts more
      → Kinds names texts (listed (process_param_symbols names) ps (listed_after (mark Semicolon) (session_param_symbols names) ks more))
  params_there ps ks no_params k = k
  params_there ps ks (some_params d1 d2) k = list_there (λ us vs y e more l. process_param_there y e l) ps d1 (sessions_there ks d2 k)

  any_names_there : (x : List Named) {us vs : List Token} → AnyNamesAre names us x vs → {more : List Symbol} → Kinds names texts more → Kinds names texts (listed (name_symbols names) x more)
  any_names_there x no_names k = k
  any_names_there x (some_names d) k = list_there (λ us vs y e more l. name_there e l) x d k

  parts_there : (x : List Part) {us vs : List Token} → ListIs (PartIs names) us x vs → {more : List Symbol} → Kinds names texts more → Kinds names texts (listed (part_symbols names) x more)
  parts_there x d k = list_there (λ us vs y e more l. part_there y e l) x d k

  new_parts_there : (x : List Part) {us vs : List Token} → NewPartsAre names us x vs → {more : List Symbol} → Kinds names texts more → Kinds names texts (listed_after (word (codes "new")) (part_symbols names) x more)
  new_parts_there x no_new k = k
  new_parts_there x (some_new d1 (a_list {x = p} {xs = xs} e r)) k = word_there d1 (part_there p e (more_there (λ us vs y e more l. part_there y e l) xs r k))

  passed_sessions_there : (x : List Named) {us vs : List Token} → PassedSessionsAre names us x vs → {more : List Symbol} → Kinds names texts more → Kinds names texts (listed_after (mark Semicolon) (name_symbols names) x more)
  passed_sessions_there x no_session_passed k = k
  passed_sessions_there x (sessions_passed d1 (a_list {xs = xs} e r)) k = mark_there (name_there e (more_there (λ us vs y e more l. name_there e l) xs r k))

  passed_there : (ps ks : List Named) {us vs : List Token} → PassedAre names us ps ks vs → {more : List Symbol} → Kinds names texts more
      → Kinds names texts (listed (name_symbols names) ps (listed_after (mark Semicolon) (name_symbols names) ks more))
  passed_there ps ks nothing_passed k = k
  passed_there ps ks (processes_passed d1 d2) k = list_there (λ us vs y e more l. name_there e l) ps d1 (passed_sessions_there ks d2 k)

  -- ---- statements and blocks

  statement_there : (s : Statement) {us vs : List Token} → StatementIs names us s vs → AllInStatement (IsSource names texts) s → {more : List Symbol} → Kinds names texts more → Kinds names texts (statement_symbols names texts s more)
  statement_there x (a_start {active = active} {serve = serve} d1 d2 d3 d4 d5 d6 d7 d8) ok k =
      word_there d1 (name_there d2 (mark_there (name_there d4 (mark_there (mark_there (parts_there active d7 (new_parts_there serve d8 k)))))))
  statement_there x (a_value {a = a} {b = b} {e = e} d1 d2 d3 d4 d5 d6 d7 d8 d9) ok k =
      part_there a d1 (mark_there (term_there e ok (mark_there (part_there b d5 (mark_there (name_there d7 (mark_there (name_there d9 k))))))))
  statement_there x (a_label {a = a} {b = b} d1 d2 d3 d4 d5 d6 d7) ok k = part_there a d1 (mark_there (part_there b d3 (mark_there (name_there d5 (mark_there (name_there d7 k))))))
  statement_there x (a_delegation {a = a} {b = b} {h = h} d1 d2 d3 d4 d5 d6 d7 d8) ok k =
      part_there a d1 (mark_there (part_there b d3 (mark_there (name_there d5 (mark_there (part_there h d7 (mark_there k)))))))
  statement_there x (a_set {e = e} d1 d2 d3 d4 d5) ok k = name_there d1 (mark_there (name_there d3 (mark_there (term_there e ok k))))
  statement_there x (a_host_call {a = a} {b = b} d1 d2 d3 d4 d5 d6 d7 d8 d9 d10 d11) ok k =
      name_there d1 (mark_there (name_there d3 (mark_there (word_there d5 (name_there d6 (mark_there (term_there a ok.0 (mark_there (term_there b ok.1 (mark_there k))))))))))
  statement_there x (a_show {e = e} d1 d2 d3) ok k = name_there d1 (word_there d2 (term_there e ok k))

  mutual
    block_there : (b : Block) {us vs : List Token} → BlockIs names us b vs → AllInBlock (IsSource names texts) b → {more : List Symbol} → Kinds names texts more → Kinds names texts (block_symbols names texts b more)
    block_there x (a_block {b = b} d1 d2 d3) ok k = mark_there (lines_there b d2 ok (mark_there k))

    lines_there : (b : Block) {us vs : List Token} → LinesAre names us b vs → AllInBlock (IsSource names texts) b → {more : List Symbol} → Kinds names texts more → Kinds names texts (lines_symbols names texts b more)
    lines_there x (a_line {s = s} {b = b} d1 d2 d3 d4) ok k = statement_there s d2 ok.0 (mark_there (lines_there b d4 ok.1 k))
    lines_there x (a_tail d1) ok k = tail_there x d1 ok k

    tail_there : (b : Block) {us vs : List Token} → TailIs names us b vs → AllInBlock (IsSource names texts) b → {more : List Symbol} → Kinds names texts more → Kinds names texts (lines_symbols names texts b more)
    tail_there x (an_end d1 d2) ok k = word_there d2 k
    tail_there x (a_call {ps = ps} {ss = ss} d1 d2 d3 d4 d5 d6) ok k = word_there d2 (name_there d3 (mark_there (passed_there ps ss d5 (mark_there k))))
    tail_there x (a_conditional {e = e} {a = a} {b = b} d1 d2 d3 d4 d5 d6 d7 d8) ok k =
        word_there d2 (name_there d3 (mark_there (term_there e ok.0 (block_there a d6 ok.1 (word_there d7 (block_there b d8 ok.2 k))))))

  -- ---- files

  header_there : (h : Header) {us vs : List Token} → HeaderIs names us h vs → {more : List Symbol} → Kinds names texts more → Kinds names texts (header_symbols h more)
  header_there x without_header k = k
  header_there x (a_header d1 d2 d3 no_capacity) k = word_there d1 (number_there 2 (mark_there k))
  header_there x (a_header d1 d2 d3 (a_capacity {n = n} d4 d5 d6 d7)) k = word_there d1 (number_there 2 (mark_there (word_there d5 (number_there n (mark_there k)))))

  procedure_there : (p : Procedure) {us vs : List Token} → ProcedureIs names us p vs → AllInBlock (IsSource names texts) p.body → {more : List Symbol} → Kinds names texts more → Kinds names texts (procedure_symbols names texts p more)
  procedure_there x (a_procedure {ps = ps} {ss = ss} {b = b} d1 d2 d3 d4 d5 d6) ok k =
      word_there d1 (name_there d2 (mark_there (params_there ps ss d4 (mark_there (block_there b d6 ok k)))))

  procedures_there : (qs : List Procedure) → AllByRecursion (Derived (ProcedurePart nowhere names)) qs → AllByRecursion (λ p. AllInBlock (IsSource names texts) p.body) qs
      → {more : List Symbol} → Kinds names texts more → Kinds names texts (each (procedure_symbols names texts) qs more)
  procedures_there [] d ok k = k
  procedures_there (q ∷ qs) d ok k = procedure_there q d.0.is.0 ok.0 (procedures_there qs d.1 ok.1 k)

  pub source_there : (s : Source) {us : List Token} (d : FileIs names us s) → KeepsAll d → AllTerms (IsSource names texts) s → Kinds names texts (source_symbols names texts s)
  source_there x (a_file {h = h} {is = is} {ps = ps} {b = b} d0 d1 d2 d3 d4 d5 d6 d7) keeps ok =
      let g = gathered is d1 keeps.1 in
      let end : Kinds names texts (last ∷ []) = record { all = ((kind.Last, tt), tt) } in
      header_there h d0
      (each_there {P = Derived (ProtocolPart nowhere names)} (λ p h more l. protocol_there p h.is.0 l) is.protocols g.protocols
      (each_there {P = Derived (ServicePart nowhere names)} (λ p h more l. service_there p h.is.0 l) is.services g.services
      (procedures_there is.procedures g.procedures ok.0
      (word_there d2 (mark_there (any_names_there ps d4 (mark_there (block_there b d6 ok.1 end))))))))
