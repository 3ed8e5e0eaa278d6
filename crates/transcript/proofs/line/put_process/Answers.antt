use Rattle.std.proofs.Common.{◌≡◌, ℕ, List, [], ◌∷◌, ◌++◌, None, append_assoc, sym, ap, ◌∙◌, arith}
use Rattle.std.specs.Prelude.{slice_get}
use Rattle.std.specs.Fmt.{decimal}
use Rattle.std.proofs.lemmas.Bool.Decides.{nat_tests}
use Rattle.std.proofs.lemmas.Option.{slice_get_past}
use Rattle.std.proofs.lemmas.Result.{on_ok_weaker}
use Rattle.transcript.specs.Text.{Words, process_named, process_text}
use Rattle.transcript.specs.Books.{words}
use Rattle.transcript.proofs.line.put_process.Goals as goal

-- a process that isn't one of the beginning is written by its number
numbered : (w : Words) (p n : ℕ) (line marked out : List ℕ) → slice_get w.processes p ≡ None → n ≡ p → marked ≡ line ++ 37 ∷ [] → out ≡ marked ++ decimal n → out ≡ line ++ process_text w p
numbered w p n line marked out none same mark number =
    number ∙ ap (λ (xs : List ℕ). xs ++ decimal n) mark ∙ append_assoc line (37 ∷ []) (decimal n) ∙ ap (λ (m : ℕ). line ++ 37 ∷ decimal m) same
    ∙ ap (λ o. line ++ process_named w p o) (sym none)

pub returns-in_ok-push-in-None : goal.returns-in_ok-push-in-None
returns-in_ok-push-in-None c =
    let ps = c.args.book.now.processes.now in
    let none : slice_get ps c.args.pid ≡ None = slice_get_past ps c.args.pid (grind (arith, nat_tests, c.in-None.ensures, c.as_slice.ensures)) in
    on_ok_weaker c.put_number.result (numbered (words c.args.book.now) c.args.pid _ _ _ _ none c.from.ensures c.in_ok-push-in-None.ensures.items) c.put_number.ensures.ok
