-- Roles and protocols, one after the other.
use Rattle.std.proofs.Common.{ℕ, ◌≡◌, ◌+◌, ◌<◌, ◌≤◌, List, [], ◌∷◌, Bool, true, false, refl, ap, sym, subst, ◌∙◌, arith, inl, inr, length, take}
use Rattle.std.specs.Prelude.{◌⊎◌, ◌==◌, Some, IsSome, slice_get, slice_index_or, if◌then◌else◌}
use Rattle.std.proofs.lemmas.List.{take_all}
use Rattle.std.proofs.lemmas.Option.{slice_get-get_or}
use Rattle.std.proofs.lemmas.Bool.Decides.{nat_tests}
use Rattle.chor_base.specs.declared.rule.Rule.{Rule}
use Rattle.chor_base.specs.declared.rule.Denied.{Denied}
use Rattle.chor_base.specs.declared.rule.Denied.TheVariants.{Refused, Memory}
use Rattle.chor_base.specs.declared.names.NameId.{NameId}
use Rattle.chor_tree.specs.declared.file.Named.{Named}
use Rattle.chor_tree.specs.Protocols.{Protocol}
use Rattle.global_types.specs.Moves.{IsIn}
use Rattle.global_types.specs.Views.{IsViewFault, HasNoViewFault}
use Rattle.local_types.specs.Reading.{role_place, IsRefusalBy, IsRefusal, HasFineRoles, IsFirstRole, IsFirstRefusal}
use Rattle.state_sets.proofs.Lists.{in_more}

-- a refusal by a fault of the role's view
pub refusal_by : (rule : Rule) (p : Protocol) (r : NameId) (d : Denied) → IsRefusalBy rule p r d → IsViewFault p.states r rule → IsRefusal p r d
refusal_by rule p r (Refused f) h fault = (subst (λ v. IsViewFault p.states r v) (sym h.0) fault, h.1, h.2)
refusal_by rule p r Memory h fault = absurd h

pub place_there : (roles : List Named) (n : Named) → IsIn n roles → IsSome (role_place roles n.name)
place_there [] n h = absurd h
place_there (m ∷ ms) n (inl e) = go (m.name.0 == n.name.0) refl where
  go : (b : Bool) → (m.name.0 == n.name.0) ≡ b → IsSome (if m.name.0 == n.name.0 then Some m.place else role_place ms n.name)
  go true f = rw f refl
  go false f = absurd (let g : m.name.0 ≡ n.name.0 = ap (λ (v : Named). v.name.0) e in grind (arith, nat_tests))
place_there (m ∷ ms) n (inr h) = go (m.name.0 == n.name.0) (place_there ms n h) where
  go : (b : Bool) → IsSome (role_place ms n.name) → IsSome (if b then Some m.place else role_place ms n.name)
  go true k = refl
  go false k = k

pub role_at : (roles seen : List Named) (i : ℕ) (d : Named) → seen ≡ roles → i < length seen → slice_get roles i ≡ Some (slice_index_or seen i d)
role_at roles seen i d e h = subst (λ l. slice_get l i ≡ Some (slice_index_or seen i d)) e (slice_get-get_or seen i d h)

pub first_role : (p : Protocol) (seen : List Named) (i : ℕ) (d : Named) (denied : Denied) → seen ≡ p.roles → i < length seen → HasFineRoles p (take i p.roles) → IsRefusal p (slice_index_or seen i d).name denied → IsFirstRole p denied
first_role p seen i d (Refused f) e h fine r = (i, slice_index_or seen i d, role_at p.roles seen i d e h, fine, r)
first_role p seen i d Memory e h fine r = tt

pub roles_more : (p : Protocol) (seen : List Named) (i : ℕ) (d : Named) → seen ≡ p.roles → i < length seen → HasFineRoles p (take i p.roles) → HasNoViewFault p.states (slice_index_or seen i d).name → HasFineRoles p (take (i + 1) p.roles)
roles_more p seen i d e h fine one role among = go (in_more role p.roles i d (subst (λ l. i < length l) e h) among) where
  go : IsIn role (take i p.roles) ⊎ (slice_index_or p.roles i d ≡ role) → HasNoViewFault p.states role.name
  go (inl m) = fine role m
  go (inr s) = subst (λ (v : Named). HasNoViewFault p.states v.name) (ap (λ l. slice_index_or l i d) e ∙ s) one

pub roles_whole : (p : Protocol) (seen : List Named) (i : ℕ) → seen ≡ p.roles → length seen ≤ i → HasFineRoles p (take i p.roles) → HasFineRoles p p.roles
roles_whole p seen i e h fine = subst (λ l. HasFineRoles p l) (take_all i p.roles (subst (λ (l : List Named). length l ≤ i) e h)) fine

pub first_refusal : (ps seen : List Protocol) (i : ℕ) (p : Protocol) (denied : Denied) → seen ≡ ps → i < length seen → p ≡ slice_index_or seen i p → ((q : Protocol) → IsIn q (take i ps) → HasFineRoles q q.roles) → IsFirstRole p denied → IsFirstRefusal ps denied
first_refusal ps seen i p (Refused f) e h is fine r = (i, p, subst (λ l. slice_get l i ≡ Some p) e (slice_get-get_or seen i p h ∙ ap (λ (v : Protocol). Some v) (sym is)), fine, r)
first_refusal ps seen i p Memory e h is fine r = tt

pub protocols_more : (ps seen : List Protocol) (i : ℕ) (p : Protocol) → seen ≡ ps → i < length seen → p ≡ slice_index_or seen i p → ((q : Protocol) → IsIn q (take i ps) → HasFineRoles q q.roles) → HasFineRoles p p.roles → (q : Protocol) → IsIn q (take (i + 1) ps) → HasFineRoles q q.roles
protocols_more ps seen i p e h is fine one q among = go (in_more q ps i p (subst (λ (l : List Protocol). i < length l) e h) among) where
  go : IsIn q (take i ps) ⊎ (slice_index_or ps i p ≡ q) → HasFineRoles q q.roles
  go (inl m) = fine q m
  go (inr s) = subst (λ (v : Protocol). HasFineRoles v v.roles) (is ∙ ap (λ l. slice_index_or l i p) e ∙ s) one

pub protocols_whole : (ps seen : List Protocol) (i : ℕ) → seen ≡ ps → length seen ≤ i → ((q : Protocol) → IsIn q (take i ps) → HasFineRoles q q.roles) → (q : Protocol) → IsIn q ps → HasFineRoles q q.roles
protocols_whole ps seen i e h fine q among = fine q (subst (λ l. IsIn q l) (sym (take_all i ps (subst (λ (l : List Protocol). length l ≤ i) e h))) among)
