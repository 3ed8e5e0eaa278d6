-- What writes add up to.
use Rattle.std.proofs.Common.{◌≡◌, ◌∙◌, ℕ, List, ◌++◌, ◌≤◌, ◌-◌, Option, None, Some, ap, sym, length, take, drop}
use Rattle.std.proofs.lemmas.List.{append_assoc, take-append-drop, take_rest}
use Rattle.std.specs.Io.KnownBytes.{Appends}

pub appends_more : (first middle last : Option (List ℕ)) (front more : List ℕ) → Appends first middle front → Appends middle last more → Appends first last (front ++ more)
appends_more None middle last front more a b = tt
appends_more (Some xs) None last front more a b = absurd a
appends_more (Some xs) (Some ys) None front more a b = absurd b
appends_more (Some xs) (Some ys) (Some zs) front more a b = b ∙ ap (λ (l : List ℕ). l ++ more) a ∙ append_assoc xs front more

-- a write that took some bytes of what was left
pub wrote_more : (piece front rest : List ℕ) (count : ℕ) (first middle last : Option (List ℕ)) → piece ≡ front ++ rest → count ≤ length rest → Appends first middle front → Appends middle last (take count rest) → (longer : List ℕ) × (piece ≡ longer ++ take (length rest - count) (drop count rest)) × Appends first last longer
wrote_more piece front rest count first middle last e bound a b = (
  front ++ take count rest,
  e ∙ ap (λ (l : List ℕ). front ++ l) (sym (take-append-drop count rest)) ∙ sym (append_assoc front (take count rest) (drop count rest)) ∙ ap (λ (l : List ℕ). (front ++ take count rest) ++ l) (sym (take_rest rest count)),
  appends_more first middle last front (take count rest) a b,
)
