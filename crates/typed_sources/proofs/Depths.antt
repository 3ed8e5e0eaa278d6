-- Names at other depths than those that a start binds.
use Rattle.std.proofs.Common.{◌≡◌, ℕ, ◌<◌, List, [], ◌∷◌, refl, ap, ◌∙◌, Bool, true, false, ◌==◌, ◌&&◌, ◌||◌, arith}
use Rattle.std.proofs.lemmas.Bool.{eqb-true}
use Rattle.chor_base.specs.declared.names.NameId.{NameId}
use Rattle.chor_semantics.specs.Choreography.{Named, among}
use Rattle.well_formed.specs.WellFormed.{service_refs}

pub among_deep : (k c : ℕ) (serve : List (ℕ × NameId)) (x : ℕ) → (c == k) ≡ false → among (Named x c) (service_refs k serve) ≡ false
among_deep k c [] x h = refl
among_deep k c (s ∷ ss) x h = ap (λ b. ((x == s.0) && b) || among (Named x c) (service_refs k ss)) h ∙ go (x == s.0) ∙ among_deep k c ss x h
  where
    go : (b : Bool) → ((b && false) || among (Named x c) (service_refs k ss)) ≡ among (Named x c) (service_refs k ss)
    go true = refl
    go false = refl

pub less_not : (a b : ℕ) → a < b → (b == a) ≡ false
less_not a b h = go (b == a) refl
  where
    go : (x : Bool) → (b == a) ≡ x → (b == a) ≡ false
    go false i = i
    go true i = let e = eqb-true b a i in absurd (omega (arith, h, e))
