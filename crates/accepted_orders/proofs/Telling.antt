-- What is told of the order of a run's events.
use Rattle.std.proofs.Common.{◌≡◌, ◌<◌, ◌+◌, ℕ, suc, List, [], ◌∷◌, ◌++◌, ◌↔◌, inl, inr, length, drop, get_or, Option, Some, Vec, Result, Ok, Err, IfOk, IfErr, Contains, refl, sym, ap, ◌∙◌, subst, arith, append_assoc}
use Rattle.std.specs.Prelude.{slice_get}
use Rattle.std.specs.declared.alloc.Global.{Global}
use Rattle.std.proofs.lemmas.List.{drop_more, get_or_default}
use Rattle.std.proofs.lemmas.Option.{slice_get_read}
use Rattle.chor_base.specs.declared.event.Event.{Event}
use Rattle.chor_base.specs.Meaning.{Hosts}
use Rattle.chor_tree.specs.declared.file.File.{File}
use Rattle.command_words.specs.declared.order_form.OrderForm.{OrderForm}
use Rattle.transcript.specs.Text.{Words, event_text, lines_from}
use Rattle.program_runs.specs.Books.{book_of}
use Rattle.event_orders.specs.Orders.{permuted}
use Rattle.event_orders.proofs.Counting.{permuted_at}
use Rattle.causal_order.specs.Orders.{AreCauses, AreEarlier, IsInPast}
use Rattle.causal_order.proofs.Reaching.{ancestor_less}
use Rattle.accepted_replays.specs.Events.{HasSourceEvents}
use Rattle.accepted_orders.specs.declared.fault.OrderFault.{OrderFault}
use Rattle.accepted_orders.specs.declared.fault.OrderFault.TheVariants.{Unmatched, Beyond, Memory}
use Rattle.accepted_orders.specs.Numbers.{IsNumberFault}
use Rattle.accepted_orders.specs.Sources.{TellsBy, OrdersSource}

-- one line more of the events at some places
pub line_more : (w : Words) (h : List Event) (past : List ℕ) (i : ℕ) (x : Event) (text new whole : List ℕ) → i < length past → get_or past i 0 < length h → x ≡ get_or h (get_or past i 0) x
    → text ++ lines_from w (i + 1) (permuted h (drop i past)) ≡ whole → new ≡ (text ++ event_text w (i + 1) x) ++ 10 ∷ []
    → new ++ lines_from w (i + 1 + 1) (permuted h (drop (i + 1) past)) ≡ whole
line_more w h past i x text new whole lt there at so is =
    let later = drop (i + 1) past in
    let k = get_or past i 0 in
    let read : slice_get h k ≡ Some x = slice_get_read h (length h) k x refl there at in
    let first : permuted h (drop i past) ≡ x ∷ permuted h later = ap (permuted h) (drop_more past i 0 lt) ∙ permuted_at h k later x read in
    let line = event_text w (i + 1) x in
    let next : i + 1 + 1 ≡ suc (i + 1) = omega arith in
    let rest = lines_from w (suc (i + 1)) (permuted h later) in
    ap (λ (t : List ℕ). t ++ lines_from w (i + 1 + 1) (permuted h later)) is
    ∙ ap (λ (n : ℕ). ((text ++ line) ++ 10 ∷ []) ++ lines_from w n (permuted h later)) next
    ∙ ap (λ (t : List ℕ). t ++ rest) (append_assoc text line (10 ∷ []))
    ∙ append_assoc text (line ++ 10 ∷ []) rest
    ∙ ap (λ (es : List Event). text ++ lines_from w (i + 1) es) (sym first)
    ∙ so

-- each event of a causal past is there
pub past_there : (causes : List (List ℕ)) → AreEarlier causes → (j count : ℕ) → j < count → (past list : List ℕ) → list ≡ past → ((i : ℕ) → Contains past i ↔ IsInPast causes j i) → (k d : ℕ) → k < length list → get_or list k d < count
past_there causes early j count within past list is holds k d lt = go (get_or past k d) (ap (λ (l : List ℕ). get_or l k d) is) ((holds (get_or past k d)).0 (k, inside, get_or_default past k (get_or past k d) d inside))
  where
    inside : k < length past
    inside = subst (λ (l : List ℕ). k < length l) is lt

    go : (i : ℕ) → get_or list k d ≡ i → IsInPast causes j i → get_or list k d < count
    go i at (inl same) = omega (arith, at, same, within)
    go i at (inr earlier) = let less = ancestor_less causes early i j earlier in omega (arith, at, less, within)

-- what is told of the events of a file is what is answered for it
pub told_of : (f g : File) (hosts : Hosts) (cap : Option ℕ) (form : OrderForm) (bytes : List ℕ) (h xs ys : List Event) (causes : List (List ℕ)) (result : Result (Vec ℕ Global) OrderFault)
    → g ≡ f → xs ≡ h → ys ≡ h → HasSourceEvents f hosts cap bytes h → AreCauses xs cap causes
    → IfOk result (λ text. TellsBy causes (book_of g) form ys text.items) → IfErr result (IsNumberFault form (length ys)) → OrdersSource f hosts cap form bytes result
told_of f g hosts cap form bytes h xs ys causes (Ok text) file run same has are told fault =
    (h, has, subst (λ (b : File). TellsBy causes (book_of b) form h text.items) file (subst (λ (l : List Event). TellsBy causes (book_of g) form l text.items) same told) cap (subst (λ (l : List Event). AreCauses l cap causes) run are))
told_of f g hosts cap form bytes h xs ys causes (Err (Unmatched line)) file run same has are told fault = absurd fault
told_of f g hosts cap form bytes h xs ys causes (Err (Beyond number)) file run same has are told fault = (h, has, subst (λ (l : List Event). IsNumberFault form (length l) (Beyond number)) same fault)
told_of f g hosts cap form bytes h xs ys causes (Err Memory) file run same has are told fault = tt
