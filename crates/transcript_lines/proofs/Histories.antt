-- A transcript tells its events.
use Rattle.std.proofs.Common.{◌≡◌, ◌<◌, ◌+◌, ◌^◌, ℕ, suc, List, [], ◌∷◌, ◌++◌, length, refl, sym, ap, ◌∙◌, arith}
use Rattle.std.specs.List.{AllByRecursion}
use Rattle.std.specs.Fmt.{decimal}
use Rattle.std.proofs.lemmas.Fmt.{decimal_nonempty}
use Rattle.chor_base.specs.declared.event.Event.{Event}
use Rattle.transcript.specs.Text.{Words, said, event_text, transcript}
use Rattle.event_reader.specs.Fields.{IsFree}
use Rattle.event_reader.specs.Known.{IsBook, HasEvent}
use Rattle.event_reader.proofs.Frees.{decimal_free}
use Rattle.event_reader.proofs.Numerals.{first_digit}
use Rattle.event_reader.proofs.Spellings.{one_spelling}
use Rattle.transcript_lines.specs.declared.last.Last.{Last}
use Rattle.transcript_lines.specs.declared.last.Last.TheVariants.{End, Limit}
use Rattle.transcript_lines.specs.Lines.{lines_of}
use Rattle.transcript_lines.specs.Last.{HasCount, last_text}
use Rattle.transcript_lines.specs.Split.{HasHistory, event_lines}
use Rattle.transcript_lines.proofs.FeedFree.{transcript_splits}

pub last_free : (l : Last) → HasCount l → IsFree 10 (last_text l)
last_free (End n) h = (refl, (refl, (refl, (refl, decimal_free 10 n refl h))))
last_free (Limit n) h = (refl, (refl, (refl, (refl, (refl, (refl, decimal_free 10 n refl h))))))

-- a last line is no event's text, which begins with a digit
not_last : (w : Words) (i : ℕ) (e : Event) (l : Last) → i < 2 ^ 64 → last_text l ≡ event_text w i e → ⊥
not_last w i e l small q = go (decimal i) refl l q
  where
    go : (ds : List ℕ) → ds ≡ decimal i → (l : Last) → last_text l ≡ ds ++ said w e → ⊥
    go [] p l q = let n = decimal_nonempty i small in absurd (omega (arith, ap length p))
    go (b ∷ bs) p (End n) q = let d = first_digit i b bs small p in let same : 101 ≡ b = cc in absurd (omega arith)
    go (b ∷ bs) p (Limit n) q = let d = first_digit i b bs small p in let same : 108 ≡ b = cc in absurd (omega arith)

head_of : (x y : List ℕ) (xs ys : List (List ℕ)) → x ∷ xs ≡ y ∷ ys → x ≡ y
head_of x y xs ys e = cc

tail_of : (x y : List ℕ) (xs ys : List (List ℕ)) → x ∷ xs ≡ y ∷ ys → xs ≡ ys
tail_of x y xs ys e = cc

same_events : (w : Words) (i : ℕ) (h g : List Event) (l m : Last) → IsBook w → AllByRecursion (HasEvent w) h → AllByRecursion (HasEvent w) g → length h + i < 2 ^ 64 → length g + i < 2 ^ 64 → event_lines w i h ++ last_text l ∷ [] ≡ event_lines w i g ++ last_text m ∷ [] → h ≡ g
same_events w i [] [] l m book has have fits few e = refl
same_events w i [] (f ∷ fs) l m book has have fits few e = absurd (not_last w i f l (omega arith) (head_of _ _ _ _ e))
same_events w i (f ∷ fs) [] l m book has have fits few e = absurd (not_last w i f m (omega arith) (sym (head_of _ _ _ _ e)))
same_events w i (e ∷ es) (f ∷ fs) l m book has have fits few q =
    let first : e ≡ f = (one_spelling w i i e f book (omega arith) (omega arith) has.0 have.0 (head_of _ _ _ _ q)).1 in
    let rest : es ≡ fs = same_events w (suc i) es fs l m book has.1 have.1 (omega arith) (omega arith) (tail_of _ _ _ _ q) in
    λ j. first j ∷ rest j

pub one_history : (w : Words) (h g : List Event) (l m : Last) → IsBook w → HasHistory w h → HasHistory w g → HasCount l → HasCount m → transcript w h (last_text l) ≡ transcript w g (last_text m) → h ≡ g
one_history w h g l m book has have c d q =
    same_events w 1 h g l m book has.0 have.0 has.1 have.1
    (sym (transcript_splits w h (last_text l) book.words has.0 has.1 (last_free l c)) ∙ ap lines_of q ∙ transcript_splits w g (last_text m) book.words have.0 have.1 (last_free m d))
