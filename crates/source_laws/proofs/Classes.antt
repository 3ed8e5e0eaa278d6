-- It can't be that a file has neither no fault of a class of rules nor a first one.
use Rattle.std.proofs.Common.{◌≡◌, ◌==◌, ℕ, Bool, true, false, List, [], ◌∷◌, Some, None, refl, ap, ◌∙◌, arith, inl, inr}
use Rattle.std.specs.Prelude.{Contains, if◌then◌else◌}
use Rattle.std.proofs.lemmas.Bool.Decides.{nat_tests}
use Rattle.chor_base.specs.declared.fault.Fault.{Fault}
use Rattle.chor_base.specs.declared.names.NameId.{NameId}
use Rattle.chor_base.specs.declared.rule.Place.{Place}
use Rattle.chor_base.specs.declared.rule.Refusal.{Refusal}
use Rattle.chor_base.specs.declared.rule.Rule.{Rule}
use Rattle.chor_base.specs.declared.rule.Rule.TheVariants.{V1, V2, V3, M1, M2}
use Rattle.chor_base.specs.declared.rule.Denied.TheVariants.{Refused}
use Rattle.chor_base.specs.Writing.{name_in}
use Rattle.chor_base.proofs.Members.{at_head}
use Rattle.chor_tree.specs.declared.file.File.{File}
use Rattle.chor_tree.specs.declared.file.Named.{Named}
use Rattle.chor_tree.specs.declared.protocol.State.{State}
use Rattle.chor_tree.specs.Names.{IsNameFault}
use Rattle.chor_tree.specs.Protocols.{Protocol}
use Rattle.global_types.specs.Faults.{faults_of}
use Rattle.global_types.specs.Moves.{IsIn}
use Rattle.global_types.specs.Views.{HasTooMany, LeavesBehind, IsViewFault, HasNoViewFault}
use Rattle.local_types.specs.Reading.{role_place, HasFineRoles, IsFirstRole, IsFirstRefusal}
use Rattle.typing_rules.specs.TypeFaults.{IsTypeFault}
use Rattle.linear_check.specs.Class.{IsLinearityFault}
use Rattle.projection.specs.MergeFaults.{sites_of, HasClash, services_of, HasServiceClash, branches, starts, IsMergeDenial}
use Rattle.source_check.specs.declared.rules.Class.{Class}
use Rattle.source_check.specs.declared.rules.Class.TheVariants.{Names, Protocols, Views, Types, Linearity, Merging}
use Rattle.source_check.specs.Classes.{HasNoMergeFault, HasNone, HasFirst, IsFaultless, Breaks}
use Rattle.source_check.proofs.ViewRules.{among_all}
use Rattle.source_laws.proofs.FirstFaults.{no_fault, none_of_all, fine_or_first}

empty : (xs : List Fault) → ((x : Fault) → Contains xs x → ⊥) → xs ≡ []
empty [] none = refl
empty (x ∷ xs) none = absurd (none x (at_head x xs x refl))

-- ---- views

abbrev IsAnyFault : List State → NameId → Type 0
IsAnyFault ss r = (rule : Rule) × IsViewFault ss r rule

view_judged : (ss : List State) (r : NameId) → (HasNoViewFault ss r → ⊥) → (IsAnyFault ss r → ⊥) → ⊥
view_judged ss r faulty none =
    let few : HasTooMany ss r → ⊥ = λ h. none (V3, h) in
    let kept : LeavesBehind ss r → ⊥ = λ h. none (V2, (few, h)) in
    faulty (record { few = few; kept = kept; clear = λ h. none (V1, (few, kept, h)) })

role_there : (roles : List Named) (role : Named) → IsIn role roles → (place : Place) × (role_place roles role.name ≡ Some place)
role_there [] role m = absurd m
role_there (n ∷ ns) role m = go (n.name.0 == role.name.0) refl m (role_there ns role)
  where
    go : (b : Bool) → (n.name.0 == role.name.0) ≡ b → IsIn role (n ∷ ns) → (IsIn role ns → (place : Place) × (role_place ns role.name ≡ Some place))
        → (place : Place) × ((if b then Some n.place else role_place ns role.name) ≡ Some place)
    go true e k others = (n.place, refl)
    go false e (inl same) others = let f : (n.name.0 == n.name.0) ≡ false = ap (λ (x : Named). n.name.0 == x.name.0) same ∙ e in absurd (grind (arith, nat_tests))
    go false e (inr k) others = others k

-- some role of the protocol is the first that is refused
abbrev IsBad : Protocol → Type 0
IsBad p = (r : Refusal) × IsFirstRole p (Refused r)

roles_judged : (p : Protocol) → (HasFineRoles p p.roles → ⊥) → (IsBad p → ⊥) → ⊥
roles_judged p faulty unrefused =
    fine_or_first (λ role. HasNoViewFault p.states role.name) (λ role. IsAnyFault p.states role.name) p.roles
    (λ role m. view_judged p.states role.name) faulty
    (λ i role at before bad.
    let place = role_there p.roles role (among_all p.roles i role at) in
    unrefused (record { rule = bad.0; place = place.0; who = None }, (i, role, at, before, (bad.1, place.1, refl))))

views_judged : (ps : List Protocol) → (((p : Protocol) → IsIn p ps → HasFineRoles p p.roles) → ⊥) → ((r : Refusal) → IsFirstRefusal ps (Refused r) → ⊥) → ⊥
views_judged ps faulty unrefused =
    fine_or_first (λ p. HasFineRoles p p.roles) IsBad ps (λ p m. roles_judged p) faulty
    (λ i p at before bad. unrefused bad.0 (i, p, at, before, bad.1))

-- ---- merging

module _ (f : File) where
  merging_judged : (HasNoMergeFault f → ⊥) → ((r : Refusal) → IsMergeDenial f (Refused r) → ⊥) → ⊥
  merging_judged faulty unrefused =
      let fine = none_of_all (HasClash f) (sites_of f) (λ s h.
      unrefused (record { rule = M1; place = s.place; who = Some (name_in f.names s.process) })
      (s.process, branches refl (record { site = s; first = h; place_is = refl; who_is = refl }), refl)) in
      let fit = none_of_all (HasServiceClash f) (services_of f) (λ x h.
      unrefused (record { rule = M2; place = x.0.place; who = Some (name_in f.names x.1.name) })
      (x.1.name, starts refl (record { branches = fine; service = x; first = h; place_is = refl; who_is = refl }), refl)) in
      faulty (record { branches = fine; starts = fit })

-- ---- each class, and all of them

module _ (hosts : List (List ℕ)) (f : File) where
  class_judged : (c : Class) → (HasNone hosts f c → ⊥) → ((r : Refusal) → HasFirst hosts f r c → ⊥) → ⊥
  class_judged Names faulty unrefused = faulty (no_fault (IsNameFault f hosts) unrefused)
  class_judged Protocols faulty unrefused = faulty (empty (faults_of f) (no_fault (Contains (faults_of f)) unrefused))
  class_judged Views faulty unrefused = views_judged f.protocols faulty unrefused
  class_judged Types faulty unrefused = faulty (no_fault (IsTypeFault f) unrefused)
  class_judged Linearity faulty unrefused = faulty (no_fault (IsLinearityFault f) unrefused)
  class_judged Merging faulty unrefused = merging_judged f faulty unrefused

  pub judged : (cs : List Class) → (IsFaultless hosts f cs → ⊥) → ((r : Refusal) → Breaks hosts f r cs → ⊥) → ⊥
  judged [] faulty unrefused = faulty tt
  judged (c ∷ cs) faulty unrefused =
      class_judged c
      (λ first. judged cs (λ fine. faulty (first, fine)) (λ r h. unrefused r (inr (first, h))))
      (λ r h. unrefused r (inl h))
