-- A file with few lines has few events.
use Rattle.std.proofs.Common.{◌≡◌, ◌≤◌, ◌<◌, ◌+◌, ◌^◌, ℕ, suc, true, List, [], ◌∷◌, ◌++◌, length, length-append, refl, sym, ap, ◌∙◌, subst, arith}
use Rattle.std.proofs.lemmas.List.{append-nil}
use Rattle.chor_base.specs.declared.event.Event.{Event}
use Rattle.transcript.specs.Text.{Words, event_text}
use Rattle.transcript_lines.specs.declared.last.Last.{Last}
use Rattle.transcript_lines.specs.declared.last.Last.TheVariants.{End, Limit}
use Rattle.transcript_lines.specs.Last.{last_text}
use Rattle.transcript_lines.specs.Lines.{lines_of}
use Rattle.transcript_lines.specs.Split.{event_lines}
use Rattle.replay.specs.declared.answer.Replayed.{Replayed}
use Rattle.event_files.specs.FewLines.{AreFewLines}
use Rattle.event_files.specs.Fronts.{AreClosing, IsClosing, at_end, at_limit}
use Rattle.event_files.proofs.EventLines.{as_many, few_events, not_last}

tail_of : (x y : List ℕ) (xs ys : List (List ℕ)) → x ∷ xs ≡ y ∷ ys → xs ≡ ys
tail_of x y xs ys e = cc

head_of : (x y : List ℕ) (xs ys : List (List ℕ)) → x ∷ xs ≡ y ∷ ys → x ≡ y
head_of x y xs ys e = cc

not_closing : (w : Words) (i : ℕ) (e : Event) (r : Replayed) (l : List ℕ) → i < 2 ^ 64 → event_text w i e ≡ l → IsClosing r l → ⊥
not_closing w i e r l small q (at_end p over) = not_last w i e (End r.count) small (sym p ∙ sym q)
not_closing w i e r l small q (at_limit p) = not_last w i e (Limit r.count) small (sym p ∙ sym q)

-- the last line of events closes nothing
last_is_event : (w : Words) (i : ℕ) (h : List Event) (front : List (List ℕ)) (r : Replayed) (l : List ℕ) → length h + i < 2 ^ 64 → event_lines w i h ≡ front ++ l ∷ [] → IsClosing r l → ⊥
last_is_event w i [] [] r l small e c = absurd cc
last_is_event w i [] (x ∷ front) r l small e c = absurd cc
last_is_event w i (y ∷ h) [] r l small e c = not_closing w i y r l (omega (arith, small)) (head_of _ _ _ _ e) c
last_is_event w i (y ∷ h) (x ∷ front) r l small e c = last_is_event w (suc i) h front r l (omega (arith, small)) (tail_of _ _ _ _ e) c

pub few_given : (w : Words) (bytes : List ℕ) (h : List Event) (rest : List (List ℕ)) (most : ℕ) → lines_of bytes ≡ event_lines w 1 h ++ rest → length bytes ≤ 2 ^ 26 → AreFewLines most (lines_of bytes) → length h ≤ most
few_given w bytes h rest most lines small f = go rest refl f.closing refl f.closed
  where
    there : length (lines_of bytes) ≡ length h + length rest
    there = ap length lines ∙ length-append (event_lines w 1 h) rest ∙ ap (λ (n : ℕ). n + length rest) (as_many w 1 h)

    counted : length (lines_of bytes) ≡ length f.counted + length f.closing
    counted = ap length f.lines_are ∙ length-append f.counted f.closing

    go : (ls : List (List ℕ)) → ls ≡ rest → (ks : List (List ℕ)) → ks ≡ f.closing → AreClosing (record { count = most; ended = true }) ks → length h ≤ most
    go ls p [] q c = let none : 0 ≡ length f.closing = ap length q in let few = f.few in let a = there in let b = counted in omega (arith, none, few, a, b)
    go (m ∷ ls) p (k ∷ []) q c =
        let one : 1 ≡ length f.closing = ap length q in
        let some : suc (length ls) ≡ length rest = ap length p in
        let few = f.few in let a = there in let b = counted in
        omega (arith, one, some, few, a, b)
    go [] p (k ∷ []) q c =
        let all = few_events w h bytes rest lines in
        let whole : event_lines w 1 h ≡ f.counted ++ k ∷ [] =
        sym (append-nil (event_lines w 1 h)) ∙ ap (λ (x : List (List ℕ)). event_lines w 1 h ++ x) p ∙ sym lines ∙ f.lines_are ∙ ap (λ (x : List (List ℕ)). f.counted ++ x) (sym q) in
        absurd (last_is_event w 1 h f.counted (record { count = most; ended = true }) k (omega (arith, all, small)) whole c)
    go ls p (k ∷ l ∷ ks) q c = absurd c
