-- What a check that finds nothing says.
use Rattle.std.proofs.Common.{◌≡◌, List, [], ◌∷◌, map, refl, sym, ap, ◌∙◌, subst, Some, None, Option, Bool, true, false, ◌==◌, inl, inr, if◌then◌else◌}
use Rattle.std.specs.Prelude.{Result, Ok, Err}
use Rattle.std.proofs.lemmas.Bool.{and_parts}
use Rattle.chor_base.specs.declared.names.NameId.{NameId}
use Rattle.chor_base.specs.declared.rule.Rule.{Rule}
use Rattle.chor_base.specs.declared.value.Sort.{Sort}
use Rattle.chor_base.specs.Sorts.{same_sort}
use Rattle.chor_base.specs.declared.value.Sort.TheVariants as sort
use Rattle.chor_tree.specs.declared.file.Named.{Named}
use Rattle.chor_tree.specs.declared.file.File.{File}
use Rattle.chor_tree.specs.declared.protocol.Payload.TheVariants.{Plain, Endpoint}
use Rattle.chor_tree.specs.declared.protocol.State.{State}
use Rattle.chor_tree.specs.declared.protocol.ProtoArm.{ProtoArm}
use Rattle.chor_tree.specs.declared.protocol.ProtoStep.{ProtoStep}
use Rattle.chor_tree.specs.declared.protocol.ProtoStep.TheVariants.{End as Last, Value as Exchange, Choice}
use Rattle.chor_tree.specs.Names.{first_named}
use Rattle.global_types.specs.Moves.{Exchange as Move, IsIn, plain, endpoint, passes, chooses, exchanges_of}
use Rattle.well_formed.proofs.References.{same_name}
use Rattle.delegation.specs.declared.held.Held.{Held}
use Rattle.delegation.specs.Owners.{holder_of, holds, is_process}
use Rattle.delegation.specs.Checks.{Check, ask, first_failed}
use Rattle.typing_rules.specs.declared.standings.Standing.{Standing}
use Rattle.typing_rules.specs.Environment.{Environment, standing_of, step_of, step_in, step_at}
use Rattle.typing_rules.specs.Checks.{has_sort, is_sort}
use Rattle.typing_rules.specs.Allowed.{is_between, value_sent, labels_sent, endpoint_sent, arm_of}
use Rattle.typing_rules.specs.declared.allowed.EndpointType.{EndpointType}
use Rattle.typed_sources.specs.Stands.{states_in}

pub first_passes : (c : Check) (cs : List Check) → first_failed (c ∷ cs) ≡ None → (c ≡ None) × (first_failed cs ≡ None)
first_passes None cs h = (refl, h)
first_passes (Some r) cs h = absurd cc

pub asked : (b : Bool) (r : Rule) → ask b r ≡ None → b ≡ true
asked true r h = refl
asked false r h = absurd cc

pub has_it : (t : Result Sort Rule) → has_sort t ≡ None → (s : Sort) × (t ≡ Ok s)
has_it (Ok s) h = (s, refl)
has_it (Err r) h = absurd cc

pub sorts_same : (s t : Sort) → same_sort s t ≡ true → s ≡ t
sorts_same sort.Int sort.Int h = refl
sorts_same sort.Int sort.Bool h = absurd cc
sorts_same sort.Int sort.Text h = absurd cc
sorts_same sort.Bool sort.Int h = absurd cc
sorts_same sort.Bool sort.Bool h = refl
sorts_same sort.Bool sort.Text h = absurd cc
sorts_same sort.Text sort.Int h = absurd cc
sorts_same sort.Text sort.Bool h = absurd cc
sorts_same sort.Text sort.Text h = refl

pub is_it : (s : Sort) (t : Result Sort Rule) → is_sort s t ≡ true → t ≡ Ok s
is_it s (Ok u) h = ap Ok (sym (sorts_same s u h))
is_it s (Err r) h = absurd cc

pub holder_is : (hs : List Held) (k r p : NameId) → holds hs k r p ≡ true → holder_of hs k r ≡ Some p
holder_is hs k r p h = go (holder_of hs k r) refl h
  where
    go : (o : Option NameId) → holder_of hs k r ≡ o → is_process p o ≡ true → holder_of hs k r ≡ Some p
    go None i j = absurd cc
    go (Some q) i j = i ∙ ap Some (sym (same_name p q j))

-- ---- the step of a session's state

pub record HasStep (f : File) (e : Environment) (k : NameId) (step : ProtoStep) : Type 0 where
  pub standing : Standing
  pub is : standing_of e.standings k ≡ Some standing
  pub state : State
  pub here : first_named (λ s. s.name) (states_in f standing.protocol) standing.state ≡ Some state
  pub step_is : state.step ≡ step

pub has_step : (f : File) (e : Environment) (k : NameId) (step : ProtoStep) → step_at f e k ≡ Some step → HasStep f e k step
has_step f e k step h = go (standing_of e.standings k) refl h
  where
    go : (o : Option Standing) → standing_of e.standings k ≡ o → step_in f o ≡ Some step → HasStep f e k step
    go None i j = absurd cc
    go (Some s) i j = at (first_named (λ x. x.name) (states_in f s.protocol) s.state) refl j
      where
        at : (o : Option State) → first_named (λ x. x.name) (states_in f s.protocol) s.state ≡ o → step_of o ≡ Some step → HasStep f e k step
        at None l m = absurd cc
        at (Some st) l m = record { standing = s; is = i; state = st; here = l; step_is = cc }

-- ---- what a step sends

pub some_is : {A : Type 0} (a b : A) → Some a ≡ Some b → a ≡ b
some_is a b h = cc

pub record Sends (a b : NameId) (s : Sort) (m : NameId) (step : ProtoStep) : Type 0 where
  pub allowed : IsIn (passes a b (plain s), m) (exchanges_of step)

between : (a b : NameId) (from to : Named) → is_between a b from to ≡ true → (from.name ≡ a) × (to.name ≡ b)
between a b from to h = let w = and_parts _ _ h in (same_name from.name a w.0, same_name to.name b w.1)

pub record Allows (X : Type 0) (P : ProtoStep → X → Type 0) (o : Option ProtoStep) (x : X) : Type 0 where
  pub step : ProtoStep
  pub is : o ≡ Some step
  pub allowed : P step x

pub value_allowed : (a b : NameId) (o : Option ProtoStep) (s : Sort) (m : NameId) → value_sent a b o ≡ Some (s, m) → (step : ProtoStep) × (o ≡ Some step) × IsIn (passes a b (plain s), m) (exchanges_of step)
value_allowed a b (Some (Exchange from to (Plain t) next)) s m h = go (is_between a b from to) refl h
  where
    go : (x : Bool) → is_between a b from to ≡ x → (if x then Some (let w : Sort × NameId = (t, next.name) in w) else None) ≡ Some (s, m) → (step : ProtoStep) × (Some (Exchange from to (Plain t) next) ≡ Some step) × IsIn (passes a b (plain s), m) (exchanges_of step)
    go false i j = absurd cc
    go true i j =
        let w = between a b from to i in
        let pair : ◌≡◌ {A = Sort × NameId} (t, next.name) (s, m) = some_is _ _ j in
        let same : t ≡ s = ap (λ z. z.0) pair in
        let there : next.name ≡ m = ap (λ z. z.1) pair in
        (Exchange from to (Plain t) next, refl, inl (cc (w.0, w.1, same, there)))
value_allowed a b (Some (Exchange from to (Endpoint p t r) next)) s m h = absurd cc
value_allowed a b (Some (Choice from to arms)) s m h = absurd cc
value_allowed a b (Some Last) s m h = absurd cc
value_allowed a b None s m h = absurd cc

pub endpoint_allowed : (a b : NameId) (o : Option ProtoStep) (t : EndpointType) (m : NameId) → endpoint_sent a b o ≡ Some (t, m) → (step : ProtoStep) × (o ≡ Some step) × IsIn (passes a b (endpoint t.protocol t.state t.role), m) (exchanges_of step)
endpoint_allowed a b (Some (Exchange from to (Endpoint p s r) next)) t m h = go (is_between a b from to) refl h
  where
    go : (x : Bool) → is_between a b from to ≡ x → (if x then Some (let w : EndpointType × NameId = (record { protocol = p.name; state = s.name; role = r.name }, next.name) in w) else None) ≡ Some (t, m)
        → (step : ProtoStep) × (Some (Exchange from to (Endpoint p s r) next) ≡ Some step) × IsIn (passes a b (endpoint t.protocol t.state t.role), m) (exchanges_of step)
    go false i j = absurd cc
    go true i j =
        let w = between a b from to i in
        let pair : ◌≡◌ {A = EndpointType × NameId} (record { protocol = p.name; state = s.name; role = r.name }, next.name) (t, m) = some_is _ _ j in
        let same : ◌≡◌ {A = EndpointType} (record { protocol = p.name; state = s.name; role = r.name }) t = ap (λ z. z.0) pair in
        let there : next.name ≡ m = ap (λ z. z.1) pair in
        let content : endpoint p.name s.name r.name ≡ endpoint t.protocol t.state t.role = ap (λ z. endpoint z.protocol z.state z.role) same in
        (Exchange from to (Endpoint p s r) next, refl, inl (cc (w.0, w.1, content, there)))
endpoint_allowed a b (Some (Exchange from to (Plain s) next)) t m h = absurd cc
endpoint_allowed a b (Some (Choice from to arms)) t m h = absurd cc
endpoint_allowed a b (Some Last) t m h = absurd cc
endpoint_allowed a b None t m h = absurd cc

arm_allowed : (from to : Named) (arms : List ProtoArm) (l m : NameId) → arm_of arms l ≡ Some m → IsIn {A = Move × NameId} (chooses from.name to.name l, m) (map (λ arm. (chooses from.name to.name arm.label.name, arm.next.name)) arms)
arm_allowed from to [] l m h = absurd cc
arm_allowed from to (x ∷ xs) l m h = go (x.label.name.0 == l.0) refl h (arm_allowed from to xs l m)
  where
    go : (b : Bool) → (x.label.name.0 == l.0) ≡ b → (if b then Some x.next.name else arm_of xs l) ≡ Some m → (arm_of xs l ≡ Some m → IsIn {A = Move × NameId} (chooses from.name to.name l, m) (map (λ arm. (chooses from.name to.name arm.label.name, arm.next.name)) xs))
        → IsIn {A = Move × NameId} (chooses from.name to.name l, m) (map (λ arm. (chooses from.name to.name arm.label.name, arm.next.name)) (x ∷ xs))
    go false i j ih = inr (ih j)
    go true i j ih = let same = same_name x.label.name l i in let there : x.next.name ≡ m = cc in inl (cc (same, there))

pub label_allowed : (a b : NameId) (o : Option ProtoStep) (arms : List ProtoArm) (l m : NameId) → labels_sent a b o ≡ Some arms → arm_of arms l ≡ Some m → (step : ProtoStep) × (o ≡ Some step) × IsIn (chooses a b l, m) (exchanges_of step)
label_allowed a b (Some (Choice from to xs)) arms l m h k = go (is_between a b from to) refl h
  where
    go : (x : Bool) → is_between a b from to ≡ x → (if x then Some xs else None) ≡ Some arms → (step : ProtoStep) × (Some (Choice from to xs) ≡ Some step) × IsIn (chooses a b l, m) (exchanges_of step)
    go false i j = absurd cc
    go true i j =
        let w = between a b from to i in
        let same : xs ≡ arms = cc in
        (Choice from to xs, refl, subst (λ t. IsIn (chooses t b l, m) (exchanges_of (Choice from to xs))) w.0 (subst (λ t. IsIn (chooses from.name t l, m) (exchanges_of (Choice from to xs))) w.1 (arm_allowed from to xs l m (ap (λ y. arm_of y l) same ∙ k))))
label_allowed a b (Some (Exchange from to p next)) arms l m h k = absurd cc
label_allowed a b (Some Last) arms l m h k = absurd cc
label_allowed a b None arms l m h k = absurd cc
