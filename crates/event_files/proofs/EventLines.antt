-- Lines of events, one after another.
use Rattle.std.proofs.Common.{◌≡◌, ◌≤◌, ◌<◌, ◌+◌, ◌^◌, ◌==◌, ℕ, suc, Bool, true, false, List, [], ◌∷◌, ◌++◌, length, refl, ap, ◌∙◌, arith, length-append}
use Rattle.std.specs.Prelude.{if◌then◌else◌}
use Rattle.std.specs.Fmt.{decimal}
use Rattle.std.proofs.lemmas.Fmt.{decimal_nonempty}
use Rattle.chor_base.specs.declared.event.Event.{Event}
use Rattle.transcript.specs.Text.{Words, said, event_text}
use Rattle.event_reader.proofs.Numerals.{first_digit}
use Rattle.transcript_lines.specs.declared.last.Last.{Last}
use Rattle.transcript_lines.specs.declared.last.Last.TheVariants.{End, Limit}
use Rattle.transcript_lines.specs.Lines.{with_byte, lines_of}
use Rattle.transcript_lines.specs.Last.{last_text}
use Rattle.transcript_lines.specs.Split.{event_lines}

-- the lines of events after others
pub lines_append : (w : Words) (i : ℕ) (h g : List Event) → event_lines w i (h ++ g) ≡ event_lines w i h ++ event_lines w (length h + i) g
lines_append w i [] g = let same : i ≡ 0 + i = omega arith in ap (λ (k : ℕ). event_lines w k g) same
lines_append w i (e ∷ h) g =
    let same : length h + suc i ≡ suc (length h) + i = omega arith in
    ap (λ (ls : List (List ℕ)). event_text w i e ∷ ls) (lines_append w (suc i) h g ∙ ap (λ (k : ℕ). event_lines w (suc i) h ++ event_lines w k g) same)

-- each event has a line
pub as_many : (w : Words) (i : ℕ) (h : List Event) → length (event_lines w i h) ≡ length h
as_many w i [] = refl
as_many w i (e ∷ h) = ap suc (as_many w (suc i) h)

-- there are no more lines than bytes
pub few_lines : (bs : List ℕ) → length (lines_of bs) ≤ length bs
few_lines [] = omega arith
few_lines (b ∷ bs) = go (b == 10) (lines_of bs) (few_lines bs)
  where
    go : (t : Bool) (ls : List (List ℕ)) → length ls ≤ length bs → length (if t then [] ∷ ls else with_byte b ls) ≤ suc (length bs)
    go true ls h = omega (arith, h)
    go false [] h = omega arith
    go false (l ∷ ls) h = omega (arith, h)

-- so there are no more events than bytes
pub few_events : (w : Words) (h : List Event) (bs : List ℕ) (rest : List (List ℕ)) → lines_of bs ≡ event_lines w 1 h ++ rest → length h + length rest ≤ length bs
few_events w h bs rest e =
    let all : length (lines_of bs) ≡ length (event_lines w 1 h) + length rest = ap length e ∙ length-append (event_lines w 1 h) rest in
    omega (arith, all, as_many w 1 h, few_lines bs)

-- a last line is no event's text, which begins with a digit
pub not_last : (w : Words) (i : ℕ) (e : Event) (l : Last) → i < 2 ^ 64 → last_text l ≡ event_text w i e → ⊥
not_last w i e l small q = go (decimal i) refl l q
  where
    go : (ds : List ℕ) → ds ≡ decimal i → (l : Last) → last_text l ≡ ds ++ said w e → ⊥
    go [] p l q = let n = decimal_nonempty i small in absurd (omega (arith, ap length p))
    go (b ∷ bs) p (End n) q = let d = first_digit i b bs small p in let same : 101 ≡ b = cc in absurd (omega arith)
    go (b ∷ bs) p (Limit n) q = let d = first_digit i b bs small p in let same : 108 ≡ b = cc in absurd (omega arith)
