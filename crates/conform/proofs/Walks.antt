-- Events that are judged, one after the other.
use Rattle.std.proofs.Common.{◌≡◌, ℕ, suc, ◌+◌, ◌<◌, Bool, true, false, List, [], ◌∷◌, ◌++◌, length, take, get_or, sym, ap, ◌∙◌, subst, arith}
use Rattle.std.specs.Prelude.{Result, Ok}
use Rattle.std.proofs.lemmas.List.{take_more}
use Rattle.chor_base.specs.declared.memory.Memory.{Memory}
use Rattle.chor_base.specs.declared.event.Event.{Event}
use Rattle.chor_tree.specs.declared.file.File.{File}
use Rattle.conform.specs.declared.progress.Progress.{Progress}
use Rattle.conform.specs.Judged.{IsAstray}
use Rattle.conform.specs.Progress.{IsAfter}
use Rattle.conform.specs.Steps.{Follows}

-- the events up to an item, and the item
longer : (xs : List Event) (i : ℕ) (x : Event) → i < length xs → x ≡ get_or xs i x → take (i + 1) xs ≡ take i xs ++ x ∷ []
longer xs i x within is = take_more xs i x within ∙ ap (λ (z : Event). take i xs ++ z ∷ []) (sym is)

pub one_further : (f : File) (xs : List Event) (i : ℕ) (x : Event) (p new : Progress) (r : Result Bool Memory) (b : Bool) → i < length xs → x ≡ get_or xs i x → IsAfter f (take i xs) p → ((h : List Event) → IsAfter f h p → Follows f h x r new) → r ≡ Ok b → b ≡ true
    → IsAfter f (take (i + 1) xs) new
one_further f xs i x p new r b within is a follows ok on =
    let now : Follows f (take i xs) x (Ok true) new = subst (λ (o : Result Bool Memory). Follows f (take i xs) x o new) (ok ∙ ap (λ (c : Bool). Ok c) on) (follows (take i xs) a) in
    subst (λ (l : List Event). IsAfter f l new) (sym (longer xs i x within is)) now.1

pub astray_there : (f : File) (xs : List Event) (i : ℕ) (x : Event) (p new : Progress) (r : Result Bool Memory) (b : Bool) → i < length xs → x ≡ get_or xs i x → IsAfter f (take i xs) p → ((h : List Event) → IsAfter f h p → Follows f h x r new) → r ≡ Ok b → b ≡ false
    → IsAstray f xs (i + 1)
astray_there f xs i x p new r b within is a follows ok off =
    let now : Follows f (take i xs) x (Ok false) new = subst (λ (o : Result Bool Memory). Follows f (take i xs) x o new) (ok ∙ ap (λ (c : Bool). Ok c) off) (follows (take i xs) a) in
    record {
      before = i;
      number = omega arith;
      within = within;
      conforms = a.conforms;
      astray = λ c. now (c (take i xs) x [] (ap (λ (k : ℕ). take k xs) (let k : suc i ≡ i + 1 = omega arith in k) ∙ longer xs i x within is));
    }
