-- In a complete run each role has done all that it has to do.
use Rattle.std.proofs.Common.{◌≡◌, ◌==◌, ◌||◌, Bool, true, false, List, [], ◌∷◌, ◌++◌, Some, refl, sym, ap, ◌∙◌, subst, inl, inr, if◌then◌else◌}
use Rattle.std.specs.Prelude.{map}
use Rattle.std.proofs.lemmas.List.{append-nil}
use Rattle.chor_base.specs.declared.names.NameId.{NameId}
use Rattle.chor_base.specs.declared.event.Event.{Event}
use Rattle.chor_tree.specs.declared.file.File.{File}
use Rattle.chor_tree.specs.Protocols.{Protocol}
use Rattle.chor_tree.specs.declared.protocol.ProtoArm.{ProtoArm}
use Rattle.chor_tree.specs.declared.protocol.ProtoStep.{ProtoStep}
use Rattle.chor_tree.specs.declared.protocol.ProtoStep.TheVariants.{End, Value, Choice}
use Rattle.chor_tree.specs.declared.protocol.State.{State}
use Rattle.chor_tree.specs.Names.{first_named}
use Rattle.global_types.specs.Moves.{IsIn, Exchange, passes, chooses, content_of, exchanges_of, is_named}
use Rattle.global_types.specs.Paths.{Action, action_in, actions_of}
use Rattle.global_types.specs.Views.{HasNoViewFault}
use Rattle.state_sets.proofs.Walks.{view_is_reached, at_before}
use Rattle.typing_rules.specs.Environment.{states_of}
use Rattle.typed_sources.specs.Told.{Act}
use Rattle.typed_sources.specs.Typing.{HasEnded}
use Rattle.typed_sources.specs.History.{SessionsEnd}
use Rattle.typed_sources.specs.Stands.{kind_in, states_in}
use Rattle.conform.specs.ByRole.{HasDoneAll, HasEndedByRole}
use Rattle.local_types.specs.Reading.{HasFineRoles}

-- a step by which the role acts names it
one_of : {A : Type 0} (b c : Bool) (s t a : A) → (if b then s ∷ [] else (if c then t ∷ [] else [])) ≡ a ∷ [] → (b || c) ≡ true
one_of true c s t a h = refl
one_of false true s t a h = refl
one_of false false s t a h = absurd cc

step_named : (r : NameId) (a : Action) (s : ProtoStep) (x : Exchange) (next : NameId) → IsIn {A = Exchange × NameId} (x, next) (exchanges_of s) → action_in r x ≡ a ∷ [] → is_named r s ≡ true
step_named r a End x next inside does = absurd inside
step_named r a (Value p q c n) x next (inl same) does =
    let is : passes p.name q.name (content_of c) ≡ x = ap (λ (y : Exchange × NameId). y.0) same in
    one_of (p.name.0 == r.0) (q.name.0 == r.0) _ _ a (ap (action_in r) is ∙ does)
step_named r a (Value p q c n) x next (inr none) does = absurd none
step_named r a (Choice p q arms) x next inside does = go arms inside
  where
    go : (arms : List ProtoArm) → IsIn {A = Exchange × NameId} (x, next) (map (λ arm. (chooses p.name q.name arm.label.name, arm.next.name)) arms) → ((p.name.0 == r.0) || (q.name.0 == r.0)) ≡ true
    go [] none = absurd none
    go (arm ∷ arms) (inl same) =
        let is : chooses p.name q.name arm.label.name ≡ x = ap (λ (y : Exchange × NameId). y.0) same in
        one_of (p.name.0 == r.0) (q.name.0 == r.0) _ _ a (ap (action_in r) is ∙ does)
    go (arm ∷ arms) (inr more) = go arms more

all_done : (ss : List State) (r : NameId) (done : NameId → List Act) → HasNoViewFault ss r → HasEnded ss done → HasDoneAll ss r (done r)
all_done ss r done fine over = record {
  actions = actions_of r over.reaches.path;
  view = record { path = over.reaches.path; last = over.last; rest = []; is_path = over.reaches.is_path; begins = sym (append-nil (actions_of r over.reaches.path)) };
  told = sym (over.reaches.acts r);
  no_more = λ a more.
      let w = view_is_reached ss r (actions_of r over.reaches.path ++ a ∷ []) more in
      let b = at_before ss r (actions_of r over.reaches.path) a w.state w.is_at in
      fine.clear (record {
        actions = actions_of r over.reaches.path;
        first = b.from;
        second = over.last;
        one = b.leads.state;
        other = over.state;
        is_still = b.still;
        also_still = record { path = over.reaches.path; is_path = over.reaches.is_path; actions = refl };
        is_one = b.leads.here;
        is_other = over.here;
        is_apart = (step_named r a b.leads.state.step b.exchange b.leads.next b.leads.allowed b.does, inl over.is_end);
      });
}

-- a protocol that is found is one of the file
found_in : (ps : List Protocol) (n : NameId) (p : Protocol) → first_named (λ p. p.name) ps n ≡ Some p → IsIn p ps
found_in [] n p h = absurd cc
found_in (q ∷ qs) n p h = go (q.name.name.0 == n.0) refl (found_in qs n p)
  where
    go : (b : Bool) → (q.name.name.0 == n.0) ≡ b → (first_named (λ p. p.name) qs n ≡ Some p → IsIn p qs) → IsIn p (q ∷ qs)
    go true i more = let same : Some q ≡ Some p = sym (ap (λ (b : Bool). if b then Some q else first_named (λ p. p.name) qs n) i) ∙ h in let is : q ≡ p = cc in inl is
    go false i more = inr (more (sym (ap (λ (b : Bool). if b then Some q else first_named (λ p. p.name) qs n) i) ∙ h))

pub run_ends : (f : File) → ((p : Protocol) → IsIn p f.protocols → HasFineRoles p p.roles) → (h : List Event) → SessionsEnd (kind_in f) (states_in f) h → HasEndedByRole f h
run_ends f fine h ends s p started r (q, found, (role, inside, is)) =
    let same : states_in f p ≡ q.states = ap states_of found in
    let clear : HasNoViewFault q.states r = subst (HasNoViewFault q.states) is (fine q (found_in f.protocols p q found) role inside) in
    all_done (states_in f p) r _ (subst (λ (ss : List State). HasNoViewFault ss r) (sym same) clear) (ends s p started)
