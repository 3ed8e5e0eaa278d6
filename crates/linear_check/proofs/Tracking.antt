-- A start and a message, for those who have heard and for the members of the definition.
use Rattle.std.proofs.Common.{◌≡◌, ℕ, ◌==◌, ◌||◌, ◌&&◌, Bool, true, false, List, [], ◌∷◌, refl, ap, sym, ◌∙◌, subst, arith}
use Rattle.std.specs.Prelude.{not, IsTrue, ◌↔◌, if◌then◌else◌}
use Rattle.std.specs.List.{list_any, list_all}
use Rattle.std.proofs.lemmas.Bool.Decides.{nat_tests}
use Rattle.chor_base.specs.declared.names.NameId.{NameId}
use Rattle.chor_tree.specs.declared.file.Named.{Named as Written}
use Rattle.chor_tree.specs.declared.tree.NodeId.{NodeId}
use Rattle.chor_tree.specs.declared.tree.Form.{Form}
use Rattle.chor_tree.specs.declared.tree.Form.TheVariants.{Start}
use Rattle.chor_tree.specs.declared.tree.Part.{Part}
use Rattle.chor_tree.specs.Forms.{head_of}
use Rattle.chor_semantics.specs.Choreography.{Named, among}
use Rattle.chor_semantics.specs.Sources.{parts_of, served_of}
use Rattle.well_formed.specs.Linear.{Members, after_start, any_in, all_in}
use Rattle.well_formed.specs.WellFormed.{firsts, service_refs}
use Rattle.linear_check.specs.declared.heard.Heard.{Heard}
use Rattle.linear_check.specs.Heard.{hears}
use Rattle.linear_check.specs.Tracks.{channel_at, Tracks, all_members_by, Misses}
use Rattle.linear_check.specs.Starts.{IsMissed}

turned : (a b : ℕ) → ((a == b) && true) ≡ (b == a)
turned a b = grind (arith, nat_tests)

among_active : (ps : List Part) (x : ℕ) → among (Named x 0) (firsts (parts_of ps)) ≡ list_any (λ q. q.process.name.0 == x) ps
among_active [] x = refl
among_active (p ∷ ps) x = ap (λ b. b || among (Named x 0) (firsts (parts_of ps))) (turned x p.process.name.0) ∙ ap (λ b. (p.process.name.0 == x) || b) (among_active ps x)

among_served : (ps : List Part) (x : ℕ) → among (Named x 0) (service_refs 0 (served_of ps)) ≡ list_any (λ q. q.process.name.0 == x) ps
among_served [] x = refl
among_served (p ∷ ps) x = ap (λ b. b || among (Named x 0) (service_refs 0 (served_of ps))) (turned x p.process.name.0) ∙ ap (λ b. (p.process.name.0 == x) || b) (among_served ps x)

pub distributed : (a b k : Bool) → ((a && k) || (b && k)) ≡ ((a || b) && k)
distributed true b true = refl
distributed true true false = refl
distributed true false false = refl
distributed false b k = refl

module _ (m : Members) (heard : ℕ → Bool) (same : (x : ℕ) → m (Named x 0) ≡ heard x) where
  pub any_tracked : (ps : List Part) → any_in m (firsts (parts_of ps)) ≡ list_any (λ q. heard q.process.name.0) ps
  any_tracked [] = refl
  any_tracked (p ∷ ps) = (λ i. same p.process.name.0 i || any_tracked ps i)

  pub all_tracked : (ps : List Part) → all_in m (firsts (parts_of ps)) ≡ list_all (λ q. heard q.process.name.0) ps
  all_tracked [] = refl
  all_tracked (p ∷ ps) = (λ i. same p.process.name.0 i && all_tracked ps i)

  own : (old a s any : Bool) → (a || s) ≡ (((old && false) || (a && (any || true))) || (s && (any || true)))
  own true true true true = refl
  own true true true false = refl
  own true true false true = refl
  own true true false false = refl
  own true false true true = refl
  own true false true false = refl
  own true false false true = refl
  own true false false false = refl
  own false true true true = refl
  own false true true false = refl
  own false true false true = refl
  own false true false false = refl
  own false false true true = refl
  own false false true false = refl
  own false false false true = refl
  own false false false false = refl

  other : (old a s any : Bool) → (old || (any && (a || s))) ≡ (((old && true) || (a && (any || false))) || (s && (any || false)))
  other true true true true = refl
  other true true true false = refl
  other true true false true = refl
  other true true false false = refl
  other true false true true = refl
  other true false true false = refl
  other true false false true = refl
  other true false false false = refl
  other false true true true = refl
  other false true true false = refl
  other false true false true = refl
  other false true false false = refl
  other false false true true = refl
  other false false true false = refl
  other false false false true = refl
  other false false false false = refl

  any_own : (active serve : List Part) (x : ℕ) (old any : Bool)
      → (among (Named x 0) (firsts (parts_of active)) || among (Named x 0) (service_refs 0 (served_of serve)))
      ≡ (((old && false) || (list_any (λ q. q.process.name.0 == x) active && (any || true))) || (list_any (λ q. q.process.name.0 == x) serve && (any || true)))
  any_own active serve x old any =
      (λ i. among_active active x i || among_served serve x i) ∙ own old (list_any (λ q. q.process.name.0 == x) active) (list_any (λ q. q.process.name.0 == x) serve) any

  pub start_tracked : (active serve : List Part) (t new : Bool) (x : ℕ)
      → new ≡ (((heard x && not t) || (list_any (λ q. q.process.name.0 == x) active && (list_any (λ q. heard q.process.name.0) active || t))) || (list_any (λ q. q.process.name.0 == x) serve && (list_any (λ q. heard q.process.name.0) active || t)))
      → after_start t m (firsts (parts_of active)) (service_refs 0 (served_of serve)) (Named x 0) ≡ new
  start_tracked active serve true new x e = any_own active serve x (heard x) (list_any (λ q. heard q.process.name.0) active) ∙ sym e
  start_tracked active serve false new x e =
      (λ i. same x i || (any_tracked active i && (among_active active x i || among_served serve x i)))
      ∙ other (heard x) (list_any (λ q. q.process.name.0 == x) active) (list_any (λ q. q.process.name.0 == x) serve) (list_any (λ q. heard q.process.name.0) active) ∙ sym e

-- ---- a start of one of several channels that isn't by members alone

module _ (cs : List NameId) (h : Heard) (m : ℕ → Members) (tracks : Tracks cs h m) where
  start_there : (k s : Written) (active serve : List Part) (next : NodeId) → IsMissed cs h k.name active → Misses cs m (head_of (Start k s active serve next))
  start_there k s active serve next (c, lt, e, f) = (c, lt, go (k.name.0 == (channel_at cs c).0) e (all_tracked (m c) (hears h c) (tracks c lt) active ∙ f)) where
    go : (b : Bool) → b ≡ true → all_in (m c) (firsts (parts_of active)) ≡ false → (if b then all_in (m c) (firsts (parts_of active)) else true) ≡ false
    go true e g = g
    go false e g = absurd cc

  start_back : (k s : Written) (active serve : List Part) (next : NodeId) → Misses cs m (head_of (Start k s active serve next)) → IsMissed cs h k.name active
  start_back k s active serve next (c, lt, e) = let both = go (k.name.0 == (channel_at cs c).0) e in (c, lt, both.0, sym (all_tracked (m c) (hears h c) (tracks c lt) active) ∙ both.1) where
    go : (b : Bool) → (if b then all_in (m c) (firsts (parts_of active)) else true) ≡ false → (b ≡ true) × (all_in (m c) (firsts (parts_of active)) ≡ false)
    go true g = (refl, g)
    go false g = absurd cc

  pub start_misses : (f : Form) (k s : Written) (active serve slice : List Part) (next : NodeId) (b : Bool) → f ≡ Start k s active serve next → slice ≡ active
      → IsTrue b ↔ IsMissed cs h k.name slice → IsTrue b ↔ Misses cs m (head_of f)
  start_misses f k s active serve slice next b is same found =
      let on : IsTrue b ↔ IsMissed cs h k.name active = subst (λ l. IsTrue b ↔ IsMissed cs h k.name l) same found in
      subst (λ g. IsTrue b ↔ Misses cs m (head_of g)) (sym is) (λ t. start_there k s active serve next (on.0 t), λ w. on.1 (start_back k s active serve next w))

  pub start_after : (new : Heard) (f : Form) (k s : Written) (active serve slice others : List Part) (next : NodeId) → f ≡ Start k s active serve next → slice ≡ active → others ≡ serve
      → Tracks cs new (λ c. after_start (k.name.0 == (channel_at cs c).0) (m c) (firsts (parts_of slice)) (service_refs 0 (served_of others)))
      → Tracks cs new (all_members_by cs m (head_of f))
  start_after new f k s active serve slice others next is same also found =
      let of_lists : Tracks cs new (all_members_by cs m (head_of (Start k s active serve next))) =
      subst (λ l. Tracks cs new (λ c. after_start (k.name.0 == (channel_at cs c).0) (m c) (firsts (parts_of active)) (service_refs 0 (served_of l)))) also
      (subst (λ l. Tracks cs new (λ c. after_start (k.name.0 == (channel_at cs c).0) (m c) (firsts (parts_of l)) (service_refs 0 (served_of others)))) same found) in
      subst (λ g. Tracks cs new (all_members_by cs m (head_of g))) (sym is) of_lists
