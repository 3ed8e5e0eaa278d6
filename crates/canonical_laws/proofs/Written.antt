-- The text of protocols, services and parameters is cut into the tokens of their symbols.
use Rattle.std.proofs.Common.{ℕ, List, [], ◌∷◌, ◌++◌, map, refl, sym, subst, codes}
use Rattle.std.specs.List.{AllByRecursion}
use Rattle.chor_base.specs.declared.value.Sort.{Sort}
use Rattle.chor_base.specs.declared.value.Sort.TheVariants as sort
use Rattle.chor_lexer.specs.declared.mark.Mark.TheVariants.{Semicolon, Colon, Assign, Arrow, Bar}
use Rattle.chor_lexer.specs.declared.token.Token.{Token}
use Rattle.chor_lexer.specs.Lexeme.{Symbol, word, mark}
use Rattle.chor_lexer.proofs.Spelling.{name_of}
use Rattle.chor_tree.specs.declared.file.Named.{Named}
use Rattle.chor_tree.specs.declared.file.Service.{Service}
use Rattle.chor_tree.specs.declared.file.ProcParam.{ProcParam}
use Rattle.chor_tree.specs.declared.file.SessionParam.{SessionParam}
use Rattle.chor_tree.specs.Protocols.{Protocol}
use Rattle.chor_tree.specs.declared.protocol.State.{State}
use Rattle.chor_tree.specs.declared.protocol.ProtoStep.{ProtoStep}
use Rattle.chor_tree.specs.declared.protocol.ProtoArm.{ProtoArm}
use Rattle.chor_tree.specs.declared.protocol.Payload.{Payload}
use Rattle.chor_tree.specs.declared.tree.Part.{Part}
use Rattle.source_grammar.specs.Grammar.{NameIs, ListIs, NamesAre, AnyNamesAre, some_names, PartIs, a_part, PayloadIs, plain, endpoint, ArmIs, an_arm, StepIs, end_step, value_step, choice_step, StateIs, a_state, ProtocolIs, a_protocol, ServedAre, some_served, ServiceIs, a_service, VariableIs, a_variable, VariablesAre, some_variables, ProcParamIs, a_param, HolderIs, a_holder, SessionParamIs, a_session, SessionsAre, some_sessions, ParamsAre, no_params, some_params}
use Rattle.chor_print.specs.Pieces.{named_text, part_text, sort_text, payload_text, arm_text, variable_text, variables_text, process_param_text, holder_text, session_param_text, listed, listed_after}
use Rattle.chor_print.specs.Text.{step_text, state_line}
use Rattle.chor_print.specs.Parts.{lines_at, protocol_text, service_text}
use Rattle.canonical_laws.specs.Symbols.{name_symbols, each, part_symbols, sort_symbols, payload_symbols, arm_symbols, step_symbols, state_symbols, protocol_symbols, service_symbols, variable_symbols, variables_symbols, process_param_symbols, holder_symbols, session_param_symbols}
use Rattle.canonical_laws.specs.Symbols as symbols
use Rattle.canonical_laws.proofs.Derived.{Derived, list_derived, states_derived}
use Rattle.canonical_laws.proofs.Cutting.{AreWords, Free, Bound, Opens, opens_by, opens_none, free_free, free_bound, bound_bound, bound_free, bound_of, free_none, space, a_word, keyword, open_brace, close_brace, open_paren, close_paren, open_bracket, close_bracket, semicolon, dot, at_mark, colon, assign, bar, arrow, list_cut, list_after_cut, list_after_opens, line_cut}

-- ---- what stands between names

pub arrow_text : Free (codes " -> ") (λ ss. mark Arrow ∷ ss)
arrow_text = free_free space (free_free arrow space)

pub colon_text : Free (codes " : ") (λ ss. mark Colon ∷ ss)
colon_text = free_free space colon

assign_text : Free (codes " = ") (λ ss. mark Assign ∷ ss)
assign_text = free_free space assign

then_text : Free (codes " then ") (λ ss. word (codes "then") ∷ ss)
then_text = free_free space (bound_free (keyword (codes "then") refl) space refl)

-- ---- names and lists

module _ (names : List (List ℕ)) (words : AreWords names) where
  pub name_cut : (n : Named) {us vs : List Token} → NameIs names us n vs → Bound (named_text names n) (name_symbols names n)
  name_cut n d =
      let w = d.is.word in
      let is = words n.name.0 w d.is.is in
      subst (λ (v : List ℕ). Bound v (λ ss. word v ∷ ss)) (sym (name_of names n.name w d.is.is)) (a_word is.0 is.1)

  pub names_cut : (ns : List Named) {us vs : List Token} → NamesAre names us ns vs → Bound (listed (named_text names) ns) (symbols.listed (name_symbols names) ns)
  names_cut ns d = list_cut {P = Derived (NameIs names)} (λ n h. name_cut n h.is) ns (list_derived ns d)

  pub any_names_cut : (ns : List Named) {us vs : List Token} → AnyNamesAre names us ns vs → Bound (listed (named_text names) ns) (symbols.listed (name_symbols names) ns)
  any_names_cut [] d = bound_of free_none
  any_names_cut (n ∷ ns) (some_names d) = names_cut (n ∷ ns) d

  pub part_cut : (p : Part) {us vs : List Token} → PartIs names us p vs → Free (part_text names p) (part_symbols names p)
  part_cut x (a_part {p = p} {r = r} d1 d2 d3 d4) = bound_free (free_bound (bound_free (name_cut p d1) open_bracket refl) (name_cut r d3)) close_bracket refl

  pub parts_cut : (ps : List Part) {us vs : List Token} → ListIs (PartIs names) us ps vs → Bound (listed (part_text names) ps) (symbols.listed (part_symbols names) ps)
  parts_cut ps d = list_cut {P = Derived (PartIs names)} (λ p h. bound_of (part_cut p h.is)) ps (list_derived ps d)

  -- ---- protocols

  sort_cut : (s : Sort) → Bound (sort_text s) (sort_symbols s)
  sort_cut sort.Int = keyword (codes "int") refl
  sort_cut sort.Bool = keyword (codes "bool") refl
  sort_cut sort.Text = keyword (codes "text") refl

  payload_cut : (p : Payload) {us vs : List Token} → PayloadIs names us p vs → Bound (payload_text names p) (payload_symbols names p)
  payload_cut x (plain {s = s} d) = sort_cut s
  payload_cut x (endpoint {p = p} {s = s} {r = r} d1 d2 d3 d4 d5) =
      free_bound (bound_free (free_bound (bound_free (name_cut p d1) dot refl) (name_cut s d3)) at_mark refl) (name_cut r d5)

  arm_cut : (a : ProtoArm) {us vs : List Token} → ArmIs names us a vs → Bound (arm_text names a) (arm_symbols names a)
  arm_cut x (an_arm {l = l} {n = n} d1 d2 d3) = free_bound (bound_free (name_cut l d1) then_text refl) (name_cut n d3)

  step_cut : (s : ProtoStep) {us vs : List Token} → StepIs names us s vs → Bound (step_text names s) (step_symbols names s)
  step_cut x (end_step d) = keyword (codes "end") refl
  step_cut x (value_step {a = a} {b = b} {n = n} {p = p} d1 d2 d3 d4 d5 d6 d7) =
      free_bound (bound_free (free_bound (bound_free (free_bound (bound_free (name_cut a d1) arrow_text refl) (name_cut b d3)) colon_text refl) (payload_cut p d5)) then_text refl) (name_cut n d7)
  step_cut x (choice_step {a = a} {b = b} {arms = arms} d1 d2 d3 d4 d5 d6) =
      let items = list_cut {P = Derived (ArmIs names)} (λ m h. arm_cut m h.is) arms (list_derived arms d5) in
      bound_of (bound_free (free_bound (bound_free (free_bound (bound_free (name_cut a d1) arrow_text refl) (name_cut b d3)) (free_free space open_brace) refl) items) close_brace refl)

  state_cut : (s : State) {us vs : List Token} → StateIs names us s vs → Free (state_line names s) (state_symbols names s)
  state_cut x (a_state {n = n} {s = s} d1 d2 d3 d4) = bound_free (free_bound (bound_free (name_cut n d1) assign_text refl) (step_cut s d3)) semicolon refl

  states_cut : (ss : List State) → AllByRecursion (Derived (StateIs names)) ss → Free (lines_at 1 (map (state_line names) ss)) (each (state_symbols names) ss)
  states_cut [] h = free_none
  states_cut (s ∷ ss) h = free_free (line_cut 1 (bound_of (state_cut s h.0.is))) (states_cut ss h.1)

  pub protocol_cut : (p : Protocol) {us vs : List Token} → ProtocolIs names us p vs → Free (protocol_text names p) (protocol_symbols names p)
  protocol_cut x (a_protocol {n = n} {roles = roles} {states = states} d1 d2 d3 d4 d5 d6 d7 d8) =
      let begin = bound_free (keyword (codes "protocol") refl) space refl in
      let head = bound_free (free_bound (bound_free (free_bound begin (name_cut n d2)) (free_free space open_paren) refl) (names_cut roles d4)) (free_free close_paren (free_free space open_brace)) refl in
      free_free (line_cut 0 (bound_of head)) (free_free (states_cut states (states_derived states d7)) (line_cut 0 (bound_of close_brace)))

  -- ---- services

  served_cut : (ns : List Named) {us vs : List Token} → ServedAre names us ns vs → Bound (listed_after (codes " | ") (named_text names) ns) (symbols.listed_after (mark Bar) (name_symbols names) ns)
  served_cut [] d = bound_of free_none
  served_cut (n ∷ ns) (some_served d1 d2) = free_bound (free_free space bar) (names_cut (n ∷ ns) d2)

  pub service_cut : (s : Service) {us vs : List Token} → ServiceIs names us s vs → Free (service_text names s) (service_symbols names s)
  service_cut x (a_service {n = n} {p = p} {active = active} {serve = serve} d1 d2 d3 d4 d5 d6 d7 d8 d9) =
      let begin = bound_free (keyword (codes "service") refl) space refl in
      let roles = bound_free (bound_bound (free_bound open_paren (names_cut active d6)) (served_cut serve d7) (list_after_opens (named_text names) 32 (124 ∷ 32 ∷ []) refl serve)) close_paren refl in
      let line = free_free (free_free (bound_free (free_bound (bound_free (free_bound begin (name_cut n d2)) colon_text refl) (name_cut p d4)) space refl) roles) semicolon in
      line_cut 0 (bound_of line)

  -- ---- parameters

  variable_cut : (v : Named × Sort) {us vs : List Token} → VariableIs names us v vs → Bound (variable_text names v) (variable_symbols names v)
  variable_cut x (a_variable {n = n} {s = s} d1 d2 d3) = free_bound (bound_free (name_cut n d1) colon_text refl) (sort_cut s)

  variables_cut : (xs : List (Named × Sort)) {us vs : List Token} → VariablesAre names us xs vs → Bound (variables_text names xs) (variables_symbols names xs)
  variables_cut [] d = bound_of free_none
  variables_cut (x ∷ xs) (some_variables d1 d2 d3) =
      bound_of (bound_free (free_bound open_paren (list_cut {P = Derived (VariableIs names)} (λ v h. variable_cut v h.is) (x ∷ xs) (list_derived (x ∷ xs) d2))) close_paren refl)

  variables_open : (xs : List (Named × Sort)) → Opens (variables_text names xs)
  variables_open [] = opens_none
  variables_open (x ∷ xs) = opens_by refl

  process_param_cut : (p : ProcParam) {us vs : List Token} → ProcParamIs names us p vs → Bound (process_param_text names p) (process_param_symbols names p)
  process_param_cut x (a_param {n = n} {vs = vars} d1 d2) = bound_bound (name_cut n d1) (variables_cut vars d2) (variables_open vars)

  holder_cut : (x : Named × Named) {us vs : List Token} → HolderIs names us x vs → Bound (holder_text names x) (holder_symbols names x)
  holder_cut x (a_holder {r = r} {p = p} d1 d2 d3) = free_bound (bound_free (name_cut r d1) assign_text refl) (name_cut p d3)

  session_param_cut : (x : SessionParam) {us vs : List Token} → SessionParamIs names us x vs → Free (session_param_text names x) (session_param_symbols names x)
  session_param_cut x (a_session {n = n} {p = p} {s = s} {hs = hs} d1 d2 d3 d4 d5 d6 d7 d8) =
      let holders = list_cut {P = Derived (HolderIs names)} (λ v h. holder_cut v h.is) hs (list_derived hs d7) in
      bound_free (free_bound (bound_free (free_bound (bound_free (free_bound (bound_free (name_cut n d1) colon_text refl) (name_cut p d3)) dot refl) (name_cut s d5)) (free_free space open_brace) refl) holders) close_brace refl

  sessions_cut : (ks : List SessionParam) {us vs : List Token} → SessionsAre names us ks vs → Bound (listed_after (codes "; ") (session_param_text names) ks) (symbols.listed_after (mark Semicolon) (session_param_symbols names) ks)
  sessions_cut [] d = bound_of free_none
  sessions_cut (k ∷ ks) (some_sessions d1 d2) =
      list_after_cut {P = Derived (SessionParamIs names)} (λ v h. bound_of (session_param_cut v h.is)) (free_free semicolon space) (k ∷ ks) (list_derived (k ∷ ks) d2)

  -- all parameters, after the text t
  pub params_cut : {t : List ℕ} {g : List Symbol → List Symbol} → Free t g → (ps : List ProcParam) (ks : List SessionParam) {us vs : List Token} → ParamsAre names us ps ks vs
      → Bound (t ++ listed (process_param_text names) ps ++ listed_after (codes "; ") (session_param_text names) ks)
      (λ more. g (symbols.listed (process_param_symbols names) ps (symbols.listed_after (mark Semicolon) (session_param_symbols names) ks more)))
  params_cut head ps ks no_params = bound_bound (free_bound head (bound_of free_none)) (bound_of free_none) opens_none
  params_cut head ps ks (some_params d1 d2) =
      let params = list_cut {P = Derived (ProcParamIs names)} (λ v h. process_param_cut v h.is) ps (list_derived ps d1) in
      bound_bound (free_bound head params) (sessions_cut ks d2) (list_after_opens (session_param_text names) 59 (32 ∷ []) refl ks)
