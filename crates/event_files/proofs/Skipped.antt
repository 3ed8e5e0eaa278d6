-- Lines that are passed one by one.
use Rattle.std.proofs.Common.{◌≡◌, ◌≤◌, ◌+◌, ℕ, true, List, [], ◌∷◌, ◌++◌, length, length-append, Result, Ok, Err, refl, sym, ap, ◌∙◌, subst, append_assoc, arith}
use Rattle.std.specs.Prelude.{◌↔◌, IsTrue, is_ok}
use Rattle.replay.specs.declared.answer.Replayed.{Replayed}
use Rattle.replay.specs.declared.answer.ReplayFault.{ReplayFault}
use Rattle.replay.specs.declared.answer.ReplayFault.TheVariants.{Unmatched, Memory}
use Rattle.transcript_lines.specs.Lines.{lines_of}
use Rattle.event_files.specs.FewLines.{AreFewLines}
use Rattle.event_files.specs.Fronts.{AreClosing, Judges}

-- so many lines stand before what is left
pub record Skipped (lines : List (List ℕ)) (count : ℕ) (left : List ℕ) : Type 0 where
  pub front : List (List ℕ)
  pub parts : lines ≡ front ++ lines_of left
  pub counted : length front ≡ count

pub none_skipped : (bytes : List ℕ) → Skipped (lines_of bytes) 0 bytes
none_skipped bytes = record { front = []; parts = refl; counted = refl }

pub one_skipped : (lines : List (List ℕ)) (count : ℕ) (line left after : List ℕ) → Skipped lines count left → lines_of left ≡ line ∷ lines_of after → Skipped lines (count + 1) after
one_skipped lines count line left after s first = record {
  front = s.front ++ line ∷ [];
  parts = s.parts ∙ ap (λ (ls : List (List ℕ)). s.front ++ ls) first ∙ sym (append_assoc s.front (line ∷ []) (lines_of after));
  counted = length-append s.front (line ∷ []) ∙ ap (λ (n : ℕ). n + 1) s.counted;
}

-- no line is left
pub all_skipped : (lines : List (List ℕ)) (count most : ℕ) (left : List ℕ) → Skipped lines count left → lines_of left ≡ [] → count ≤ most → IsTrue true ↔ AreFewLines most lines
all_skipped lines count most left s none le = (
  λ t. record { counted = s.front; closing = []; lines_are = s.parts ∙ ap (λ (ls : List (List ℕ)). s.front ++ ls) none; few = omega (arith, s.counted, le); closed = tt },
  λ few. refl,
)

-- what closes a run where it stands after some lines does so after more of them
later : (r : Replayed) (front rest : List (List ℕ)) → AreClosing r (front ++ rest) → AreClosing r rest
later r [] rest c = c
later r (l ∷ []) [] c = tt
later r (l ∷ []) (m ∷ rest) c = absurd c
later r (l ∷ m ∷ front) rest c = absurd c

head_off : (x y : List ℕ) (xs ys : List (List ℕ)) → x ∷ xs ≡ y ∷ ys → xs ≡ ys
head_off x y xs ys e = cc

closes_later : (r : Replayed) (front rest counted closing : List (List ℕ)) → front ++ rest ≡ counted ++ closing → length counted ≤ length front → AreClosing r closing → AreClosing r rest
closes_later r front rest [] closing e le c = later r front rest (subst (AreClosing r) (sym e) c)
closes_later r [] rest (m ∷ counted) closing e le c = absurd (omega (arith, le))
closes_later r (l ∷ front) rest (m ∷ counted) closing e le c = closes_later r front rest counted closing (head_off l m _ _ e) (omega (arith, le)) c

-- what is left is judged
pub judged_few : (lines : List (List ℕ)) (most : ℕ) (left : List ℕ) (result : Result Replayed ReplayFault) → Skipped lines most left → Judges (record { count = most; ended = true }) (lines_of left) result → IsTrue (is_ok result) ↔ AreFewLines most lines
judged_few lines most left (Ok r) s j = (
  λ t. record { counted = s.front; closing = lines_of left; lines_are = s.parts; few = omega (arith, s.counted); closed = j.1 },
  λ few. refl,
)
judged_few lines most left (Err (Unmatched i)) s j = (
  λ t. absurd cc,
  λ few. absurd (j.1 (closes_later (record { count = most; ended = true }) s.front (lines_of left) few.counted few.closing (sym s.parts ∙ few.lines_are) (let n = few.few in omega (arith, s.counted, n)) few.closed)),
)
judged_few lines most left (Err Memory) s j = absurd j
