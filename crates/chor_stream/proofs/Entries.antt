-- Entries in parts, and their lines.
use Rattle.std.proofs.Common.{◌≡◌, ℕ, ◌+◌, ◌<◌, List, [], ◌∷◌, ◌++◌, map, length, get_or, take, drop, sym, refl, ap, ◌∙◌, subst, arith, length-append, append_assoc}
use Rattle.std.proofs.lemmas.List.{take-append-drop, length-map}
use mathlib.Core.List.{IsPrefix, map-append}
use Rattle.chor_base.specs.declared.event.Entry.{Entry}
use Rattle.chor_base.specs.declared.event.Event.{Event}
use Rattle.transcript.specs.Text.{Words, lines_from}
use Rattle.transcript.proofs.Parts.{lines_then}
use Rattle.chor_stream.specs.Lines.{entry_lines}

item_at : {X : Type 0} (xs : List X) (x : X) (ys : List X) (d : X) → get_or (xs ++ x ∷ ys) (length xs) d ≡ x
item_at [] x ys d = refl
item_at (y ∷ ts) x ys d = item_at ts x ys d

prefix_at : {X : Type 0} (xs ts list : List X) (k : ℕ) (d : X) → xs ++ ts ≡ list → k ≡ length xs → k < length list → IsPrefix (xs ++ get_or list k d ∷ []) list
prefix_at xs [] list k d e is lt = let n : length list ≡ length xs + 0 = ap length (sym e) ∙ length-append xs [] in absurd (omega arith)
prefix_at xs (y ∷ ts) list k d e is lt =
    let here : get_or list k d ≡ y = ap (λ (l : List _). get_or l k d) (sym e) ∙ (ap (λ (j : ℕ). get_or (xs ++ y ∷ ts) j d) is ∙ item_at xs y ts d) in
    (ts, ap (λ (z : _). (xs ++ z ∷ []) ++ ts) here ∙ (append_assoc xs (y ∷ []) ts ∙ e))

-- a prefix of a list, with the item at its end, is a prefix of it
pub prefix_next : {X : Type 0} (xs list new : List X) (k : ℕ) (x : X) → IsPrefix xs list → k ≡ length xs → k < length list → x ≡ get_or list k x → new ≡ xs ++ x ∷ [] → IsPrefix new list
prefix_next xs list new k x p is lt here e =
    subst (λ (l : List _). IsPrefix l list) (sym e) (subst (λ (z : _). IsPrefix (xs ++ z ∷ []) list) (sym here) (prefix_at xs p.0 list k x p.1 is lt))

-- the lines of a part, and of those after it
pub lines_split : (w : Words) (n m : ℕ) (list part more : List Entry) → part ++ more ≡ list → n + length part ≡ m
    → entry_lines w (n + 1) list ≡ entry_lines w (n + 1) part ++ entry_lines w (m + 1) more
lines_split w n m list part more whole next =
    let events_of : List Entry → List Event = map (λ (e : Entry). e.event) in
    let at : n + 1 + length (events_of part) ≡ m + 1 = omega (arith, length-map part (λ (e : Entry). e.event)) in
    ap (entry_lines w (n + 1)) (sym whole)
    ∙ (ap (lines_from w (n + 1)) (map-append (λ (e : Entry). e.event) part more)
    ∙ (lines_then w (n + 1) (events_of part) (events_of more) ∙ ap (λ (j : ℕ). entry_lines w (n + 1) part ++ entry_lines w j more) at))

-- a list that is cut in two
pub cut_whole : {X : Type 0} (list part more : List X) (n : ℕ) → part ≡ take n list → more ≡ drop n list → part ++ more ≡ list
cut_whole list part more n front back = ap (λ (l : List _). l ++ more) front ∙ (ap (λ (l : List _). take n list ++ l) back ∙ take-append-drop n list)
