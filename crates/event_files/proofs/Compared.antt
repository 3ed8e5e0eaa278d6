-- Two ways to see the same lines as those of events and others.
use Rattle.std.proofs.Common.{◌≡◌, ◌<◌, ◌≤◌, ◌+◌, ◌^◌, ℕ, suc, List, [], ◌∷◌, ◌++◌, length, refl, sym, ap, ◌∙◌, arith}
use Rattle.std.specs.List.{AllByRecursion}
use Rattle.chor_base.specs.declared.event.Event.{Event}
use Rattle.transcript.specs.Text.{Words, event_text}
use Rattle.event_reader.specs.Known.{IsBook, HasEvent}
use Rattle.event_reader.proofs.Spellings.{one_spelling}
use Rattle.transcript_lines.specs.Split.{event_lines}

-- the same events and the same lines after them; or the events of one go on where the other has other lines
pub data Compared (w : Words) (i : ℕ) (h g : List Event) (t u : List (List ℕ)) : Type 0 where
  same : h ≡ g → t ≡ u → Compared w i h g t u
  longer : (e : Event) (rest : List Event) → g ≡ h ++ e ∷ rest → HasEvent w e → t ≡ event_text w (length h + i) e ∷ (event_lines w (suc (length h + i)) rest ++ u) → Compared w i h g t u
  shorter : (e : Event) (rest : List Event) → h ≡ g ++ e ∷ rest → HasEvent w e → u ≡ event_text w (length g + i) e ∷ (event_lines w (suc (length g + i)) rest ++ t) → Compared w i h g t u

head_of : (x y : List ℕ) (xs ys : List (List ℕ)) → x ∷ xs ≡ y ∷ ys → x ≡ y
head_of x y xs ys e = cc

tail_of : (x y : List ℕ) (xs ys : List (List ℕ)) → x ∷ xs ≡ y ∷ ys → xs ≡ ys
tail_of x y xs ys e = cc

further : (w : Words) (i : ℕ) (a b : Event) (h g : List Event) (t u : List (List ℕ)) → a ≡ b → Compared w (suc i) h g t u → Compared w i (a ∷ h) (b ∷ g) t u
further w i a b h g t u p (same q r) = same (λ j. p j ∷ q j) r
further w i a b h g t u p (longer e rest q has r) =
    let n : length h + suc i ≡ suc (length h) + i = omega arith in
    longer e rest (λ j. sym p j ∷ q j) has (r ∙ ap (λ (k : ℕ). event_text w k e ∷ (event_lines w (suc k) rest ++ u)) n)
further w i a b h g t u p (shorter e rest q has r) =
    let n : length g + suc i ≡ suc (length g) + i = omega arith in
    shorter e rest (λ j. p j ∷ q j) has (r ∙ ap (λ (k : ℕ). event_text w k e ∷ (event_lines w (suc k) rest ++ t)) n)

pub compared : (w : Words) (i : ℕ) (h g : List Event) (t u : List (List ℕ)) → IsBook w → AllByRecursion (HasEvent w) h → AllByRecursion (HasEvent w) g → length h + i ≤ 2 ^ 64 → event_lines w i h ++ t ≡ event_lines w i g ++ u → Compared w i h g t u
compared w i [] [] t u book has have few e = same refl e
compared w i [] (b ∷ g) t u book has have few e =
    let n : i ≡ 0 + i = omega arith in
    longer b g refl have.0 (e ∙ ap (λ (k : ℕ). event_text w k b ∷ (event_lines w (suc k) g ++ u)) n)
compared w i (a ∷ h) [] t u book has have few e =
    let n : i ≡ 0 + i = omega arith in
    shorter a h refl has.0 (sym e ∙ ap (λ (k : ℕ). event_text w k a ∷ (event_lines w (suc k) h ++ t)) n)
compared w i (a ∷ h) (b ∷ g) t u book has have few e =
    let small : i < 2 ^ 64 = omega (arith, few) in
    let first : a ≡ b = (one_spelling w i i a b book small small has.0 have.0 (head_of _ _ _ _ e)).1 in
    further w i a b h g t u first (compared w (suc i) h g t u book has.1 have.1 (omega (arith, few)) (tail_of _ _ _ _ e))
