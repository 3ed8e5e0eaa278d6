-- Lists of loads by their triples.
use Rattle.std.proofs.Common.{◌≡◌, Bool, true, false, List, [], ◌∷◌, refl, ap, arith, if◌then◌else◌}
use Rattle.std.proofs.lemmas.Bool.Decides.{nat_tests}
use Rattle.chor_base.specs.declared.value.Load.{Load}
use Rattle.chor_base.specs.Events.{Triple, triple_eq}
use Rattle.endpoint_code.specs.Network.{loads_for, with_loads}

pub triple_same : (t : Triple) → triple_eq t t ≡ true
triple_same t = grind (arith, nat_tests)

pub loads-same : (qs : List (Triple × List Load)) (t : Triple) (ls : List Load) → loads_for (with_loads qs t ls) t ≡ ls
loads-same [] t ls = rw triple_same refl
loads-same (q ∷ qs) t ls = go (triple_eq q.0 t) refl (loads-same qs t ls)
  where
    go : (b : Bool) → triple_eq q.0 t ≡ b → loads_for (with_loads qs t ls) t ≡ ls → loads_for (with_loads (q ∷ qs) t ls) t ≡ ls
    go true e ih = rw e (rw triple_same refl)
    go false e ih = rw e (rw e ih)

triple_apart : (q t u : Triple) → triple_eq q t ≡ true → triple_eq t u ≡ false → triple_eq q u ≡ false
triple_apart q t u h k = grind (arith, nat_tests)

pub loads-other : (qs : List (Triple × List Load)) (t u : Triple) (ls : List Load) → triple_eq t u ≡ false → loads_for (with_loads qs t ls) u ≡ loads_for qs u
loads-other [] t u ls h = rw h refl
loads-other (q ∷ qs) t u ls h = go (triple_eq q.0 t) refl (loads-other qs t u ls h)
  where
    go : (b : Bool) → triple_eq q.0 t ≡ b → loads_for (with_loads qs t ls) u ≡ loads_for qs u → loads_for (with_loads (q ∷ qs) t ls) u ≡ loads_for (q ∷ qs) u
    go true e ih = let apart = triple_apart q.0 t u e h in rw e (rw (h, apart) refl)
    go false e ih = rw e (ap (λ r. if triple_eq q.0 u then q.1 else r) ih)
