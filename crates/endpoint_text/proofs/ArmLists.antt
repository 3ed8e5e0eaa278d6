-- Lists of arms: their codes stand below a number, in whatever order they are.
use Rattle.std.proofs.Common.{ℕ, zero, suc, ◌<◌, ◌≤◌, List, [], ◌∷◌, length, get_or, max, arith}
use Rattle.std.specs.Prelude.{All}
use Rattle.std.proofs.lemmas.List.Elements.{All-head, All-tail}
use Rattle.chor_base.specs.declared.names.NameId.{NameId}
use Rattle.endpoint_code.specs.declared.code.CodeId.{CodeId}

-- the least number above those of all arms
abbrev pub above : List (NameId × CodeId) → ℕ
above [] = 0
above (arm ∷ arms) = max (suc arm.1.0) (above arms)

pub above_here : (arms : List (NameId × CodeId)) (i : ℕ) (d : NameId × CodeId) → i < length arms → (get_or arms i d).1.0 < above arms
above_here [] i d lt = absurd (omega arith)
above_here (arm ∷ arms) zero d lt = omega arith
above_here (arm ∷ arms) (suc i) d lt = let h = above_here arms i d (omega arith) in omega arith

pub above_least : (n : ℕ) (arms : List (NameId × CodeId)) → All (λ arm. arm.1.0 < n) arms → above arms ≤ n
above_least n [] a = omega arith
above_least n (arm ∷ arms) a =
    let here : arm.1.0 < n = All-head (λ b. b.1.0 < n) arm arms a in
    let rest = above_least n arms (All-tail (λ b. b.1.0 < n) arm arms a) in omega arith
