-- What a source says doesn't depend on its places.
use Rattle.std.proofs.Common.{◌≡◌, ◌&&◌, ℕ, true, List, [], ◌∷◌, map, refl, sym, ap, ◌∙◌}
use Rattle.chor_base.specs.declared.names.NameId.{NameId}
use Rattle.chor_tree.specs.declared.file.Named.{Named}
use Rattle.chor_tree.specs.declared.file.Service.{Service}
use Rattle.chor_tree.specs.declared.file.ProcParam.{ProcParam}
use Rattle.chor_tree.specs.declared.file.SessionParam.{SessionParam}
use Rattle.chor_tree.specs.Protocols.{Protocol}
use Rattle.chor_tree.specs.declared.protocol.State.{State}
use Rattle.chor_tree.specs.declared.protocol.ProtoStep.{ProtoStep}
use Rattle.chor_tree.specs.declared.protocol.ProtoStep.TheVariants as step
use Rattle.chor_tree.specs.declared.protocol.Payload.{Payload}
use Rattle.chor_tree.specs.declared.protocol.Payload.TheVariants as payload
use Rattle.chor_tree.specs.declared.tree.Part.{Part}
use Rattle.chor_tree.specs.Source.{Statement, Starts, Sends, Selects, Gives, Sets, Asks, Shows, Block, Then, Either, Calls, Ends, Procedure, Source}
use Rattle.chor_tree.specs.Same.{Same, all_same, same_named, same_part, same_payload, same_arm, same_step, same_state, same_protocol, same_service, same_variable, same_process_param, same_holder, same_session_param, same_term, same_statement, same_block, same_procedure, same_header, same_source}
use Rattle.canonical_laws.specs.Places.{bare_name, bare_part, bare_payload, bare_arm, bare_step, bare_state, bare_protocol, bare_service, bare_variable, bare_process_param, bare_holder, bare_session_param, bare_statement, bare_block, bare_procedure, bare, IsSame}

-- lists of items of which each says the same without its places
all_bare : {A : Type 0} (p : Same A) (b : A → A) → ((x y : A) → p x y ≡ p (b x) y) → (xs ys : List A) → all_same p xs ys ≡ all_same p (map b xs) ys
all_bare p b e [] [] = refl
all_bare p b e [] (y ∷ ys) = refl
all_bare p b e (x ∷ xs) [] = refl
all_bare p b e (x ∷ xs) (y ∷ ys) = λ i. e x y i && all_bare p b e xs ys i

module _ (n : Same NameId) where
  names_bare : (xs ys : List Named) → all_same (same_named n) xs ys ≡ all_same (same_named n) (map bare_name xs) ys
  names_bare xs ys = all_bare (same_named n) bare_name (λ x y. refl) xs ys

  parts_bare : (xs ys : List Part) → all_same (same_part n) xs ys ≡ all_same (same_part n) (map bare_part xs) ys
  parts_bare xs ys = all_bare (same_part n) bare_part (λ x y. refl) xs ys

  -- ---- protocols and services

  payload_bare : (p q : Payload) → same_payload n p q ≡ same_payload n (bare_payload p) q
  payload_bare (payload.Plain s) q = refl
  payload_bare (payload.Endpoint p s r) (payload.Endpoint q u v) = refl
  payload_bare (payload.Endpoint p s r) (payload.Plain u) = refl

  step_bare : (s r : ProtoStep) → same_step n s r ≡ same_step n (bare_step s) r
  step_bare step.End r = refl
  step_bare (step.Value a b p next) (step.Value c d q next') = λ i. same_named n a c && same_named n b d && payload_bare p q i && same_named n next next'
  step_bare (step.Choice a b arms) (step.Choice c d arms') = λ i. same_named n a c && same_named n b d && all_bare (same_arm n) bare_arm (λ x y. refl) arms arms' i
  step_bare (step.Value a b p next) _ = refl
  step_bare (step.Choice a b arms) _ = refl

  state_bare : (s r : State) → same_state n s r ≡ same_state n (bare_state s) r
  state_bare s r = λ i. same_named n s.name r.name && step_bare s.step r.step i

  protocol_bare : (p q : Protocol) → same_protocol n p q ≡ same_protocol n (bare_protocol p) q
  protocol_bare p q = λ i. same_named n p.name q.name && names_bare p.roles q.roles i && all_bare (same_state n) bare_state state_bare p.states q.states i

  service_bare : (s r : Service) → same_service n s r ≡ same_service n (bare_service s) r
  service_bare s r = λ i. same_named n s.name r.name && same_named n s.protocol r.protocol && names_bare s.active r.active i && names_bare s.serve r.serve i

  -- ---- parameters

  process_param_bare : (p q : ProcParam) → same_process_param n p q ≡ same_process_param n (bare_process_param p) q
  process_param_bare p q = λ i. same_named n p.name q.name && all_bare (same_variable n) bare_variable (λ x y. refl) p.vars q.vars i

  session_param_bare : (k l : SessionParam) → same_session_param n k l ≡ same_session_param n (bare_session_param k) l
  session_param_bare k l = λ i.
      same_named n k.name l.name && same_named n k.protocol l.protocol && same_named n k.state l.state && all_bare (same_holder n) bare_holder (λ x y. refl) k.holders l.holders i

module _ (n : Same NameId) (t : Same ℕ) where
  -- ---- statements, blocks and sources

  statement_bare : (s r : Statement) → same_statement n t s r ≡ same_statement n t (bare_statement s) r
  statement_bare (Starts c k active serve) (Starts d l active' serve') = λ i. same_named n c d && same_named n k l && parts_bare n active active' i && parts_bare n serve serve' i
  statement_bare (Starts c k active serve) _ = refl
  statement_bare (Sends a e b x k) _ = refl
  statement_bare (Selects a b k x) _ = refl
  statement_bare (Gives a b k h) _ = refl
  statement_bare (Sets p x e) _ = refl
  statement_bare (Asks p x h a b) _ = refl
  statement_bare (Shows p e) _ = refl

  block_bare : (b c : Block) → same_block n t b c ≡ same_block n t (bare_block b) c
  block_bare (Then p s b) (Then q r c) = λ i. statement_bare s r i && block_bare b c i
  block_bare (Either p x e a b) (Either q y f c d) = λ i. same_named n x y && same_term n t e f && block_bare a c i && block_bare b d i
  block_bare (Calls p g ps ks) (Calls q h rs ls) = λ i. same_named n g h && names_bare n ps rs i && names_bare n ks ls i
  block_bare (Then p s b) _ = refl
  block_bare (Either p x e a b) _ = refl
  block_bare (Calls p g ps ks) _ = refl
  block_bare (Ends p) _ = refl

  procedure_bare : (p q : Procedure) → same_procedure n t p q ≡ same_procedure n t (bare_procedure p) q
  procedure_bare p q = λ i.
      same_named n p.name q.name && all_bare (same_process_param n) bare_process_param (process_param_bare n) p.params q.params i
      && all_bare (same_session_param n) bare_session_param (session_param_bare n) p.sessions q.sessions i && block_bare p.body q.body i

  source_bare : (s r : Source) → same_source n t s r ≡ same_source n t (bare s) r
  source_bare s r = λ i.
      same_header s.header r.header
      && all_bare (same_protocol n) bare_protocol (protocol_bare n) s.items.protocols r.items.protocols i
      && all_bare (same_service n) bare_service (service_bare n) s.items.services r.items.services i
      && all_bare (same_procedure n t) bare_procedure procedure_bare s.items.procedures r.items.procedures i
      && names_bare n s.processes r.processes i && block_bare s.body r.body i

  pub says_the_same : (s s' r : Source) → IsSame s s' → same_source n t s r ≡ true → same_source n t s' r ≡ true
  says_the_same s s' r e h = source_bare s' r ∙ ap (λ (x : Source). same_source n t x r) (sym e) ∙ sym (source_bare s r) ∙ h
