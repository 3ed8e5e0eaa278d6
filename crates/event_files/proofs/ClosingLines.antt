-- Whether a line closes a run.
use Rattle.std.proofs.Common.{◌≡◌, ◌<◌, ◌^◌, ◌==◌, ℕ, Bool, true, false, List, [], ◌∷◌, length, refl, sym, ap, ◌∙◌, subst, nat_eq, eq-eqb, arith}
use Rattle.std.specs.Prelude.{◌↔◌, IsTrue, if◌then◌else◌}
use Rattle.std.specs.Fmt.{decimal}
use Rattle.std.proofs.lemmas.Fmt.{decimal_injective}
use Rattle.std.proofs.lemmas.Bool.Decides.{Decides-eqb}
use Rattle.replay.specs.declared.answer.Replayed.{Replayed}
use Rattle.transcript_lines.specs.declared.last.Last.{Last}
use Rattle.transcript_lines.specs.declared.last.Last.TheVariants.{End, Limit}
use Rattle.transcript_lines.specs.Lines.{with_byte, lines_of}
use Rattle.transcript_lines.specs.Last.{HasCount, last_text}
use Rattle.event_files.specs.Fronts.{IsClosing, at_end, at_limit, AreClosing}

-- two last lines with one text are the same
same_end : (m n : ℕ) → m < 2 ^ 64 → n < 2 ^ 64 → last_text (End m) ≡ last_text (End n) → m ≡ n
same_end m n a b e = let q : decimal m ≡ decimal n = cc in decimal_injective m n a b q

same_limit : (m n : ℕ) → m < 2 ^ 64 → n < 2 ^ 64 → last_text (Limit m) ≡ last_text (Limit n) → m ≡ n
same_limit m n a b e = let q : decimal m ≡ decimal n = cc in decimal_injective m n a b q

head_of : (x y : ℕ) (xs ys : List ℕ) → x ∷ xs ≡ y ∷ ys → x ≡ y
head_of x y xs ys e = cc

apart : (a b : ℕ) → a ≡ 101 → b ≡ 108 → a ≡ b → ⊥
apart a b p q e = omega arith

other_last : (m n : ℕ) → last_text (End m) ≡ last_text (Limit n) → ⊥
other_last m n e = apart 101 108 refl refl (head_of _ _ _ _ e)

module _ (r : Replayed) (line : List ℕ) (n : ℕ) (few : r.count < 2 ^ 64) (small : n < 2 ^ 64) where
  pub end_closes : r.ended ≡ true → line ≡ last_text (End n) → IsTrue (nat_eq n r.count) ↔ IsClosing r line
  end_closes over text = (
    λ t. at_end (text ∙ ap (λ (k : ℕ). last_text (End k)) ((Decides-eqb n r.count).0 t)) over,
    λ c. eq-eqb n r.count (back c),
  )
    where
      back : IsClosing r line → n ≡ r.count
      back (at_end q o) = same_end n r.count small few (sym text ∙ q)
      back (at_limit q) = absurd (other_last n r.count (sym text ∙ q))

  pub limit_closes : line ≡ last_text (Limit n) → IsTrue (nat_eq n r.count) ↔ IsClosing r line
  limit_closes text = (
    λ t. at_limit (text ∙ ap (λ (k : ℕ). last_text (Limit k)) ((Decides-eqb n r.count).0 t)),
    λ c. eq-eqb n r.count (back c),
  )
    where
      back : IsClosing r line → n ≡ r.count
      back (at_end q o) = absurd (other_last r.count n (sym q ∙ text))
      back (at_limit q) = same_limit n r.count small few (sym text ∙ q)

pub nothing_closes : (r : Replayed) (line : List ℕ) → r.count < 2 ^ 64 → ((l : Last) → HasCount l → line ≡ last_text l → ⊥) → IsTrue false ↔ IsClosing r line
nothing_closes r line few none = (λ t. absurd cc, λ c. absurd (back c))
  where
    back : IsClosing r line → ⊥
    back (at_end q o) = none (End r.count) few q
    back (at_limit q) = none (Limit r.count) few q

-- ---- what follows a run

open_line : (r : Replayed) (line : List ℕ) (b : Bool) → IsTrue b ↔ IsClosing r line → b ≡ false → IsClosing r line → ⊥
open_line r line true s q c = cc
open_line r line false s q c = let t : false ≡ true = s.1 c in cc

pub never_closing : (r : Replayed) (line : List ℕ) (b : Bool) (lines rest : List (List ℕ)) → lines ≡ line ∷ rest → IsTrue b ↔ IsClosing r line → b ≡ false → AreClosing r lines → ⊥
never_closing r line b lines [] is s q c = open_line r line b s q (subst (AreClosing r) is c)
never_closing r line b lines (l ∷ ls) is s q c = subst (AreClosing r) is c

line_there : (b : ℕ) (bs : List ℕ) → lines_of (b ∷ bs) ≡ [] → ⊥
line_there b bs e = go (b == 10) (lines_of bs) e
  where
    go : (t : Bool) (ls : List (List ℕ)) → (if t then [] ∷ ls else with_byte b ls) ≡ [] → ⊥
    go true ls e = cc
    go false [] e = cc
    go false (l ∷ ls) e = cc

pub never_two : (r : Replayed) (line after : List ℕ) (lines : List (List ℕ)) → lines ≡ line ∷ lines_of after → (length after == 0) ≡ false → AreClosing r lines → ⊥
never_two r line [] lines is some c = cc
never_two r line (b ∷ bs) lines is some c = go (lines_of (b ∷ bs)) refl (subst (AreClosing r) is c)
  where
    go : (ls : List (List ℕ)) → lines_of (b ∷ bs) ≡ ls → AreClosing r (line ∷ ls) → ⊥
    go [] e c = line_there b bs e
    go (l ∷ ls) e c = c
