-- What says the same as another, that says the same as it.
use Rattle.std.proofs.Common.{ℕ, refl}
use Rattle.std.proofs.lemmas.Bool.{eqb-true, false≢true}
use Rattle.chor_base.specs.declared.names.NameId.{NameId}
use Rattle.chor_base.specs.declared.value.Value.TheVariants.{Int, Bool as Truth, Text, Part as Endpoint}
use Rattle.chor_base.specs.Expr.{Constant, Variable, Unary, Binary}
use Rattle.chor_tree.specs.declared.protocol.Payload.TheVariants as payload
use Rattle.chor_tree.specs.declared.protocol.ProtoStep.TheVariants as step
use Rattle.chor_tree.specs.Source.{Starts, Sends, Selects, Gives, Sets, Asks, Shows, Then, Either, Calls, Ends}
use Rattle.chor_tree.specs.Same.{Same, same_named, same_part, same_payload, same_arm, same_step, same_state, same_protocol, same_service, same_variable, same_process_param, same_holder, same_session_param, same_value, same_term, same_statement, same_block, same_procedure, same_source}
use Rattle.chor_tree.proofs.SameLaws.{two, three, four, five, six, all_two, all_three, all_four, all_five, all_six, int_tells, bool_tells, sort_tells, unary_tells, binary_tells, Turned, all_turned, equal_turned, number_own, header_turned, int_own, bool_own, sort_own, unary_own, binary_own}

-- ---- turned round

module _ {n m : Same NameId} {t u : Same ℕ} (name_turned : Turned n m) (text_turned : Turned t u) where
  named_turned : Turned (same_named n) (same_named m)
  named_turned x y h = name_turned x.name y.name h

  part_turned : Turned (same_part n) (same_part m)
  part_turned x y h =
      let a = two h in
      all_two (named_turned x.process y.process a.0) (named_turned x.role y.role a.1)

  payload_turned : Turned (same_payload n) (same_payload m)
  payload_turned (payload.Plain s) (payload.Plain s') h = equal_turned sort_own sort_tells s s' h
  payload_turned (payload.Endpoint p s r) (payload.Endpoint p' s' r') h =
      let a = three h in
      all_three (named_turned p p' a.0) (named_turned s s' a.1) (named_turned r r' a.2)
  payload_turned _ _ h = absurd (false≢true h)

  arm_turned : Turned (same_arm n) (same_arm m)
  arm_turned x y h =
      let a = two h in
      all_two (named_turned x.label y.label a.0) (named_turned x.next y.next a.1)

  step_turned : Turned (same_step n) (same_step m)
  step_turned step.End step.End h = refl
  step_turned (step.Value p q v s) (step.Value p' q' v' s') h =
      let a = four h in
      all_four (named_turned p p' a.0) (named_turned q q' a.1) (payload_turned v v' a.2) (named_turned s s' a.3)
  step_turned (step.Choice p q ms) (step.Choice p' q' ms') h =
      let a = three h in
      all_three (named_turned p p' a.0) (named_turned q q' a.1) (all_turned arm_turned ms ms' a.2)
  step_turned _ _ h = absurd (false≢true h)

  state_turned : Turned (same_state n) (same_state m)
  state_turned x y h =
      let a = two h in
      all_two (named_turned x.name y.name a.0) (step_turned x.step y.step a.1)

  protocol_turned : Turned (same_protocol n) (same_protocol m)
  protocol_turned x y h =
      let a = three h in
      all_three (named_turned x.name y.name a.0) (all_turned named_turned x.roles y.roles a.1) (all_turned state_turned x.states y.states a.2)

  service_turned : Turned (same_service n) (same_service m)
  service_turned x y h =
      let a = four h in
      all_four (named_turned x.name y.name a.0) (named_turned x.protocol y.protocol a.1) (all_turned named_turned x.active y.active a.2) (all_turned named_turned x.serve y.serve a.3)

  variable_turned : Turned (same_variable n) (same_variable m)
  variable_turned x y h =
      let a = two h in
      all_two (named_turned x.0 y.0 a.0) (equal_turned sort_own sort_tells x.1 y.1 a.1)

  process_param_turned : Turned (same_process_param n) (same_process_param m)
  process_param_turned x y h =
      let a = two h in
      all_two (named_turned x.name y.name a.0) (all_turned variable_turned x.vars y.vars a.1)

  holder_turned : Turned (same_holder n) (same_holder m)
  holder_turned x y h =
      let a = two h in
      all_two (named_turned x.0 y.0 a.0) (named_turned x.1 y.1 a.1)

  session_param_turned : Turned (same_session_param n) (same_session_param m)
  session_param_turned x y h =
      let a = four h in
      all_four (named_turned x.name y.name a.0) (named_turned x.protocol y.protocol a.1) (named_turned x.state y.state a.2) (all_turned holder_turned x.holders y.holders a.3)

  value_turned : Turned (same_value n t) (same_value m u)
  value_turned (Int z) (Int z') h = equal_turned int_own int_tells z z' h
  value_turned (Truth b) (Truth b') h = equal_turned bool_own bool_tells b b' h
  value_turned (Text x) (Text x') h = text_turned x x' h
  value_turned (Endpoint s r) (Endpoint s' r') h =
      let a = two h in
      all_two (equal_turned number_own eqb-true s s' a.0) (name_turned r r' a.1)
  value_turned _ _ h = absurd (false≢true h)

  term_turned : Turned (same_term n t) (same_term m u)
  term_turned (Constant v) (Constant v') h = value_turned v v' h
  term_turned (Variable x) (Variable x') h = name_turned x x' h
  term_turned (Unary o e) (Unary o' e') h =
      let a = two h in
      all_two (equal_turned unary_own unary_tells o o' a.0) (term_turned e e' a.1)
  term_turned (Binary o e d) (Binary o' e' d') h =
      let a = three h in
      all_three (equal_turned binary_own binary_tells o o' a.0) (term_turned e e' a.1) (term_turned d d' a.2)
  term_turned _ _ h = absurd (false≢true h)

  statement_turned : Turned (same_statement n t) (same_statement m u)
  statement_turned (Starts c k ps qs) (Starts c' k' ps' qs') h =
      let a = four h in
      all_four (named_turned c c' a.0) (named_turned k k' a.1) (all_turned part_turned ps ps' a.2) (all_turned part_turned qs qs' a.3)
  statement_turned (Sends p e q x k) (Sends p' e' q' x' k') h =
      let a = five h in
      all_five (part_turned p p' a.0) (term_turned e e' a.1) (part_turned q q' a.2) (name_turned x x' a.3) (named_turned k k' a.4)
  statement_turned (Selects p q k x) (Selects p' q' k' x') h =
      let a = four h in
      all_four (part_turned p p' a.0) (part_turned q q' a.1) (named_turned k k' a.2) (name_turned x x' a.3)
  statement_turned (Gives p q k r) (Gives p' q' k' r') h =
      let a = four h in
      all_four (part_turned p p' a.0) (part_turned q q' a.1) (named_turned k k' a.2) (part_turned r r' a.3)
  statement_turned (Sets p x e) (Sets p' x' e') h =
      let a = three h in
      all_three (named_turned p p' a.0) (name_turned x x' a.1) (term_turned e e' a.2)
  statement_turned (Asks p x g d e) (Asks p' x' g' d' e') h =
      let a = five h in
      all_five (named_turned p p' a.0) (name_turned x x' a.1) (named_turned g g' a.2) (term_turned d d' a.3) (term_turned e e' a.4)
  statement_turned (Shows p e) (Shows p' e') h =
      let a = two h in
      all_two (named_turned p p' a.0) (term_turned e e' a.1)
  statement_turned _ _ h = absurd (false≢true h)

  block_turned : Turned (same_block n t) (same_block m u)
  block_turned (Then p s c) (Then p' s' c') h =
      let a = two h in
      all_two (statement_turned s s' a.0) (block_turned c c' a.1)
  block_turned (Either p x e c d) (Either p' x' e' c' d') h =
      let a = four h in
      all_four (named_turned x x' a.0) (term_turned e e' a.1) (block_turned c c' a.2) (block_turned d d' a.3)
  block_turned (Calls p g ps ks) (Calls p' g' ps' ks') h =
      let a = three h in
      all_three (named_turned g g' a.0) (all_turned named_turned ps ps' a.1) (all_turned named_turned ks ks' a.2)
  block_turned (Ends p) (Ends p') h = refl
  block_turned _ _ h = absurd (false≢true h)

  procedure_turned : Turned (same_procedure n t) (same_procedure m u)
  procedure_turned x y h =
      let a = four h in
      all_four
      (named_turned x.name y.name a.0)
      (all_turned process_param_turned x.params y.params a.1)
      (all_turned session_param_turned x.sessions y.sessions a.2)
      (block_turned x.body y.body a.3)

  pub source_turned : Turned (same_source n t) (same_source m u)
  source_turned x y h =
      let a = six h in
      all_six
      (header_turned x.header y.header a.0)
      (all_turned protocol_turned x.items.protocols y.items.protocols a.1)
      (all_turned service_turned x.items.services y.items.services a.2)
      (all_turned procedure_turned x.items.procedures y.items.procedures a.3)
      (all_turned named_turned x.processes y.processes a.4)
      (block_turned x.body y.body a.5)
