-- Where two files say the same as a third, they say the same.
use Rattle.std.proofs.Common.{◌≡◌, ℕ, true, List, refl}
use Rattle.std.specs.Prelude.{slice_get}
use Rattle.std.proofs.lemmas.Bool.{eqb-true, false≢true}
use Rattle.chor_base.specs.declared.names.NameId.{NameId}
use Rattle.chor_base.specs.declared.value.Value.TheVariants.{Int, Bool as Truth, Text, Part as Endpoint}
use Rattle.chor_base.specs.Expr.{Constant, Variable, Unary, Binary}
use Rattle.chor_base.specs.Writing.{name_in}
use Rattle.chor_tree.specs.declared.file.File.{File}
use Rattle.chor_tree.specs.declared.protocol.Payload.TheVariants as payload
use Rattle.chor_tree.specs.declared.protocol.ProtoStep.TheVariants as step
use Rattle.chor_tree.specs.Source.{Starts, Sends, Selects, Gives, Sets, Asks, Shows, Then, Either, Calls, Ends, source_of}
use Rattle.chor_tree.specs.Same.{Same, same_named, same_part, same_payload, same_arm, same_step, same_state, same_protocol, same_service, same_variable, same_process_param, same_holder, same_session_param, same_value, same_term, same_statement, same_block, same_procedure, same_source, same_words, same_texts, same_files}
use Rattle.chor_tree.proofs.SameLaws.{two, three, four, five, six, all_two, all_three, all_four, all_five, all_six, same_bytes, found_tells, int_tells, bool_tells, sort_tells, unary_tells, binary_tells, Turned, Joined, all_joined, equal_turned, equal_joined, bytes_own, found_own, number_own, header_joined, int_own, bool_own, sort_own, unary_own, binary_own, source_own}
use Rattle.chor_tree.proofs.SameTurned.{source_turned}

-- ---- joined

module _ {n m l : Same NameId} {t u w : Same ℕ} (name_joined : Joined n m l) (text_joined : Joined t u w) where
  named_joined : Joined (same_named n) (same_named m) (same_named l)
  named_joined x y z h j = name_joined x.name y.name z.name h j

  part_joined : Joined (same_part n) (same_part m) (same_part l)
  part_joined x y z h j =
      let a = two h in
      let b = two j in
      all_two (named_joined x.process y.process z.process a.0 b.0) (named_joined x.role y.role z.role a.1 b.1)

  payload_joined : Joined (same_payload n) (same_payload m) (same_payload l)
  payload_joined (payload.Plain s) (payload.Plain s') (payload.Plain s'') h j = equal_joined sort_own sort_tells s s' s'' h j
  payload_joined (payload.Endpoint p s r) (payload.Endpoint p' s' r') (payload.Endpoint p'' s'' r'') h j =
      let a = three h in
      let b = three j in
      all_three (named_joined p p' p'' a.0 b.0) (named_joined s s' s'' a.1 b.1) (named_joined r r' r'' a.2 b.2)
  payload_joined (payload.Plain s) (payload.Plain s') _ h j = absurd (false≢true j)
  payload_joined (payload.Endpoint p s r) (payload.Endpoint p' s' r') _ h j = absurd (false≢true j)
  payload_joined _ _ _ h j = absurd (false≢true h)

  arm_joined : Joined (same_arm n) (same_arm m) (same_arm l)
  arm_joined x y z h j =
      let a = two h in
      let b = two j in
      all_two (named_joined x.label y.label z.label a.0 b.0) (named_joined x.next y.next z.next a.1 b.1)

  step_joined : Joined (same_step n) (same_step m) (same_step l)
  step_joined step.End step.End step.End h j = refl
  step_joined (step.Value p q v s) (step.Value p' q' v' s') (step.Value p'' q'' v'' s'') h j =
      let a = four h in
      let b = four j in
      all_four (named_joined p p' p'' a.0 b.0) (named_joined q q' q'' a.1 b.1) (payload_joined v v' v'' a.2 b.2) (named_joined s s' s'' a.3 b.3)
  step_joined (step.Choice p q ms) (step.Choice p' q' ms') (step.Choice p'' q'' ms'') h j =
      let a = three h in
      let b = three j in
      all_three (named_joined p p' p'' a.0 b.0) (named_joined q q' q'' a.1 b.1) (all_joined arm_joined ms ms' ms'' a.2 b.2)
  step_joined step.End step.End _ h j = absurd (false≢true j)
  step_joined (step.Value p q v s) (step.Value p' q' v' s') _ h j = absurd (false≢true j)
  step_joined (step.Choice p q ms) (step.Choice p' q' ms') _ h j = absurd (false≢true j)
  step_joined _ _ _ h j = absurd (false≢true h)

  state_joined : Joined (same_state n) (same_state m) (same_state l)
  state_joined x y z h j =
      let a = two h in
      let b = two j in
      all_two (named_joined x.name y.name z.name a.0 b.0) (step_joined x.step y.step z.step a.1 b.1)

  protocol_joined : Joined (same_protocol n) (same_protocol m) (same_protocol l)
  protocol_joined x y z h j =
      let a = three h in
      let b = three j in
      all_three (named_joined x.name y.name z.name a.0 b.0) (all_joined named_joined x.roles y.roles z.roles a.1 b.1) (all_joined state_joined x.states y.states z.states a.2 b.2)

  service_joined : Joined (same_service n) (same_service m) (same_service l)
  service_joined x y z h j =
      let a = four h in
      let b = four j in
      all_four
      (named_joined x.name y.name z.name a.0 b.0)
      (named_joined x.protocol y.protocol z.protocol a.1 b.1)
      (all_joined named_joined x.active y.active z.active a.2 b.2)
      (all_joined named_joined x.serve y.serve z.serve a.3 b.3)

  variable_joined : Joined (same_variable n) (same_variable m) (same_variable l)
  variable_joined x y z h j =
      let a = two h in
      let b = two j in
      all_two (named_joined x.0 y.0 z.0 a.0 b.0) (equal_joined sort_own sort_tells x.1 y.1 z.1 a.1 b.1)

  process_param_joined : Joined (same_process_param n) (same_process_param m) (same_process_param l)
  process_param_joined x y z h j =
      let a = two h in
      let b = two j in
      all_two (named_joined x.name y.name z.name a.0 b.0) (all_joined variable_joined x.vars y.vars z.vars a.1 b.1)

  holder_joined : Joined (same_holder n) (same_holder m) (same_holder l)
  holder_joined x y z h j =
      let a = two h in
      let b = two j in
      all_two (named_joined x.0 y.0 z.0 a.0 b.0) (named_joined x.1 y.1 z.1 a.1 b.1)

  session_param_joined : Joined (same_session_param n) (same_session_param m) (same_session_param l)
  session_param_joined x y z h j =
      let a = four h in
      let b = four j in
      all_four
      (named_joined x.name y.name z.name a.0 b.0)
      (named_joined x.protocol y.protocol z.protocol a.1 b.1)
      (named_joined x.state y.state z.state a.2 b.2)
      (all_joined holder_joined x.holders y.holders z.holders a.3 b.3)

  value_joined : Joined (same_value n t) (same_value m u) (same_value l w)
  value_joined (Int z) (Int z') (Int z'') h j = equal_joined int_own int_tells z z' z'' h j
  value_joined (Truth b) (Truth b') (Truth b'') h j = equal_joined bool_own bool_tells b b' b'' h j
  value_joined (Text x) (Text x') (Text x'') h j = text_joined x x' x'' h j
  value_joined (Endpoint s r) (Endpoint s' r') (Endpoint s'' r'') h j =
      let a = two h in
      let b = two j in
      all_two (equal_joined number_own eqb-true s s' s'' a.0 b.0) (name_joined r r' r'' a.1 b.1)
  value_joined (Int z) (Int z') _ h j = absurd (false≢true j)
  value_joined (Truth b) (Truth b') _ h j = absurd (false≢true j)
  value_joined (Text x) (Text x') _ h j = absurd (false≢true j)
  value_joined (Endpoint s r) (Endpoint s' r') _ h j = absurd (false≢true j)
  value_joined _ _ _ h j = absurd (false≢true h)

  term_joined : Joined (same_term n t) (same_term m u) (same_term l w)
  term_joined (Constant v) (Constant v') (Constant v'') h j = value_joined v v' v'' h j
  term_joined (Variable x) (Variable x') (Variable x'') h j = name_joined x x' x'' h j
  term_joined (Unary o e) (Unary o' e') (Unary o'' e'') h j =
      let a = two h in
      let b = two j in
      all_two (equal_joined unary_own unary_tells o o' o'' a.0 b.0) (term_joined e e' e'' a.1 b.1)
  term_joined (Binary o e d) (Binary o' e' d') (Binary o'' e'' d'') h j =
      let a = three h in
      let b = three j in
      all_three (equal_joined binary_own binary_tells o o' o'' a.0 b.0) (term_joined e e' e'' a.1 b.1) (term_joined d d' d'' a.2 b.2)
  term_joined (Constant v) (Constant v') _ h j = absurd (false≢true j)
  term_joined (Variable x) (Variable x') _ h j = absurd (false≢true j)
  term_joined (Unary o e) (Unary o' e') _ h j = absurd (false≢true j)
  term_joined (Binary o e d) (Binary o' e' d') _ h j = absurd (false≢true j)
  term_joined _ _ _ h j = absurd (false≢true h)

  statement_joined : Joined (same_statement n t) (same_statement m u) (same_statement l w)
  statement_joined (Starts c k ps qs) (Starts c' k' ps' qs') (Starts c'' k'' ps'' qs'') h j =
      let a = four h in
      let b = four j in
      all_four (named_joined c c' c'' a.0 b.0) (named_joined k k' k'' a.1 b.1) (all_joined part_joined ps ps' ps'' a.2 b.2) (all_joined part_joined qs qs' qs'' a.3 b.3)
  statement_joined (Sends p e q x k) (Sends p' e' q' x' k') (Sends p'' e'' q'' x'' k'') h j =
      let a = five h in
      let b = five j in
      all_five (part_joined p p' p'' a.0 b.0) (term_joined e e' e'' a.1 b.1) (part_joined q q' q'' a.2 b.2) (name_joined x x' x'' a.3 b.3) (named_joined k k' k'' a.4 b.4)
  statement_joined (Selects p q k x) (Selects p' q' k' x') (Selects p'' q'' k'' x'') h j =
      let a = four h in
      let b = four j in
      all_four (part_joined p p' p'' a.0 b.0) (part_joined q q' q'' a.1 b.1) (named_joined k k' k'' a.2 b.2) (name_joined x x' x'' a.3 b.3)
  statement_joined (Gives p q k r) (Gives p' q' k' r') (Gives p'' q'' k'' r'') h j =
      let a = four h in
      let b = four j in
      all_four (part_joined p p' p'' a.0 b.0) (part_joined q q' q'' a.1 b.1) (named_joined k k' k'' a.2 b.2) (part_joined r r' r'' a.3 b.3)
  statement_joined (Sets p x e) (Sets p' x' e') (Sets p'' x'' e'') h j =
      let a = three h in
      let b = three j in
      all_three (named_joined p p' p'' a.0 b.0) (name_joined x x' x'' a.1 b.1) (term_joined e e' e'' a.2 b.2)
  statement_joined (Asks p x g d e) (Asks p' x' g' d' e') (Asks p'' x'' g'' d'' e'') h j =
      let a = five h in
      let b = five j in
      all_five (named_joined p p' p'' a.0 b.0) (name_joined x x' x'' a.1 b.1) (named_joined g g' g'' a.2 b.2) (term_joined d d' d'' a.3 b.3) (term_joined e e' e'' a.4 b.4)
  statement_joined (Shows p e) (Shows p' e') (Shows p'' e'') h j =
      let a = two h in
      let b = two j in
      all_two (named_joined p p' p'' a.0 b.0) (term_joined e e' e'' a.1 b.1)
  statement_joined (Starts c k ps qs) (Starts c' k' ps' qs') _ h j = absurd (false≢true j)
  statement_joined (Sends p e q x k) (Sends p' e' q' x' k') _ h j = absurd (false≢true j)
  statement_joined (Selects p q k x) (Selects p' q' k' x') _ h j = absurd (false≢true j)
  statement_joined (Gives p q k r) (Gives p' q' k' r') _ h j = absurd (false≢true j)
  statement_joined (Sets p x e) (Sets p' x' e') _ h j = absurd (false≢true j)
  statement_joined (Asks p x g d e) (Asks p' x' g' d' e') _ h j = absurd (false≢true j)
  statement_joined (Shows p e) (Shows p' e') _ h j = absurd (false≢true j)
  statement_joined _ _ _ h j = absurd (false≢true h)

  block_joined : Joined (same_block n t) (same_block m u) (same_block l w)
  block_joined (Then p s c) (Then p' s' c') (Then p'' s'' c'') h j =
      let a = two h in
      let b = two j in
      all_two (statement_joined s s' s'' a.0 b.0) (block_joined c c' c'' a.1 b.1)
  block_joined (Either p x e c d) (Either p' x' e' c' d') (Either p'' x'' e'' c'' d'') h j =
      let a = four h in
      let b = four j in
      all_four (named_joined x x' x'' a.0 b.0) (term_joined e e' e'' a.1 b.1) (block_joined c c' c'' a.2 b.2) (block_joined d d' d'' a.3 b.3)
  block_joined (Calls p g ps ks) (Calls p' g' ps' ks') (Calls p'' g'' ps'' ks'') h j =
      let a = three h in
      let b = three j in
      all_three (named_joined g g' g'' a.0 b.0) (all_joined named_joined ps ps' ps'' a.1 b.1) (all_joined named_joined ks ks' ks'' a.2 b.2)
  block_joined (Ends p) (Ends p') (Ends p'') h j = refl
  block_joined (Then p s c) (Then p' s' c') _ h j = absurd (false≢true j)
  block_joined (Either p x e c d) (Either p' x' e' c' d') _ h j = absurd (false≢true j)
  block_joined (Calls p g ps ks) (Calls p' g' ps' ks') _ h j = absurd (false≢true j)
  block_joined (Ends p) (Ends p') _ h j = absurd (false≢true j)
  block_joined _ _ _ h j = absurd (false≢true h)

  procedure_joined : Joined (same_procedure n t) (same_procedure m u) (same_procedure l w)
  procedure_joined x y z h j =
      let a = four h in
      let b = four j in
      all_four
      (named_joined x.name y.name z.name a.0 b.0)
      (all_joined process_param_joined x.params y.params z.params a.1 b.1)
      (all_joined session_param_joined x.sessions y.sessions z.sessions a.2 b.2)
      (block_joined x.body y.body z.body a.3 b.3)

  pub source_joined : Joined (same_source n t) (same_source m u) (same_source l w)
  source_joined x y z h j =
      let a = six h in
      let b = six j in
      all_six
      (header_joined x.header y.header z.header a.0 b.0)
      (all_joined protocol_joined x.items.protocols y.items.protocols z.items.protocols a.1 b.1)
      (all_joined service_joined x.items.services y.items.services z.items.services a.2 b.2)
      (all_joined procedure_joined x.items.procedures y.items.procedures z.items.procedures a.3 b.3)
      (all_joined named_joined x.processes y.processes z.processes a.4 b.4)
      (block_joined x.body y.body z.body a.5 b.5)

-- ---- files

words_turned : (names names' : List (List ℕ)) → Turned (same_words names names') (same_words names' names)
words_turned names names' x y h = equal_turned bytes_own same_bytes (name_in names x) (name_in names' y) h

pub words_joined : (names names' names'' : List (List ℕ)) → Joined (same_words names names') (same_words names' names'') (same_words names names'')
words_joined names names' names'' x y z h j = equal_joined bytes_own same_bytes (name_in names x) (name_in names' y) (name_in names'' z) h j

texts_turned : (texts texts' : List (List ℕ)) → Turned (same_texts texts texts') (same_texts texts' texts)
texts_turned texts texts' x y h = equal_turned found_own found_tells (slice_get texts x) (slice_get texts' y) h

pub texts_joined : (texts texts' texts'' : List (List ℕ)) → Joined (same_texts texts texts') (same_texts texts' texts'') (same_texts texts texts'')
texts_joined texts texts' texts'' x y z h j = equal_joined found_own found_tells (slice_get texts x) (slice_get texts' y) (slice_get texts'' z) h j

-- each file says the same as itself
pub same_files_reflexive : (f : File) → same_files f f ≡ true
same_files_reflexive f = source_own (same_words f.names f.names) (same_texts f.texts f.texts) (λ x. bytes_own (name_in f.names x)) (λ x. found_own (slice_get f.texts x)) (source_of f)

pub same_files_symmetric : (f g : File) → same_files f g ≡ true → same_files g f ≡ true
same_files_symmetric f g h = source_turned (words_turned f.names g.names) (texts_turned f.texts g.texts) (source_of f) (source_of g) h

pub same_files_transitive : (f g e : File) → same_files f g ≡ true → same_files g e ≡ true → same_files f e ≡ true
same_files_transitive f g e h j =
    source_joined (words_joined f.names g.names e.names) (texts_joined f.texts g.texts e.texts) (source_of f) (source_of g) (source_of e) h j
