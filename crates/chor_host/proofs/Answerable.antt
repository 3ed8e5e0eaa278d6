-- The functions of a table have answers, and their sizes.
use Rattle.std.proofs.Common.{◌≡◌, ◌||◌, ℕ, ℤ, Bool, true, false, List, [], ◌∷◌, map, refl, sym, subst, Option, Some, if◌then◌else◌}
use Rattle.std.specs.Prelude.{slice_get, bytes_eq}
use Rattle.std.specs.Int.Signed.{≤ℤ_refl}
use Rattle.std.proofs.lemmas.List.Elements.{All-nil, All-cons, All-head, All-tail}
use denote.Param.Members.{Mut}
use Rattle.chor_base.specs.declared.names.NameId.{NameId}
use Rattle.chor_base.specs.declared.meaning.Meaning.{Meaning}
use Rattle.chor_base.specs.declared.meaning.Meaning.TheVariants.{Exact, Within}
use Rattle.chor_base.specs.Meaning.{meaning_named, IsAllowed, MayAnswer}
use Rattle.chor_base.specs.Words.{AllDistinct}
use Rattle.chor_host.specs.declared.function.HostFn.{HostFn}
use Rattle.chor_host.specs.declared.table.HostTable.{HostTable}
use Rattle.chor_host.specs.Answers.{IsAnswerable, IsSized}
use Rattle.chor_host.specs.Functions.{Function, function_of, is_named, meaning_of, hosts_in, AreAnswerable, AreSized}
use Rattle.chor_host.specs.Tables.{functions_of}
use Rattle.chor_host.proofs.Meanings.{by_number}

-- a meaning that has answers has one to any two numbers
has_answers : (m : Meaning) → IsAnswerable m → (a b : ℤ) → (v : ℤ) × IsAllowed m a b v
has_answers (Exact op) h a b = (_, refl)
has_answers (Within low high) h a b = (low, (≤ℤ_refl low, h))

module _ {X : Type 0} {g : Mut X (ℤ × (ℤ × Unit {0})) ℤ} where
  all_answerable : (items : List (HostFn X g)) → AreAnswerable (map function_of items)
  all_answerable [] = All-nil (λ (f : Function). (a b : ℤ) → (v : ℤ) × IsAllowed f.1 a b v)
  all_answerable (i ∷ items) =
      All-cons (λ (f : Function). (a b : ℤ) → (v : ℤ) × IsAllowed f.1 a b v) (function_of i) (map function_of items) (has_answers i.meaning i.answerable) (all_answerable items)

  -- each function of a table has an answer to any two numbers
  pub table_answerable : (t : HostTable X g) → AreAnswerable (functions_of t)
  table_answerable t = all_answerable t.functions.items

  all_fit : (items : List (HostFn X g)) → AreSized (map function_of items)
  all_fit [] = All-nil (λ (f : Function). IsSized f.1)
  all_fit (i ∷ items) = All-cons (λ (f : Function). IsSized f.1) (function_of i) (map function_of items) i.sized (all_fit items)

  -- the ranges of a table are of numbers of 64 bits with sign
  pub table_fits : (t : HostTable X g) → AreSized (functions_of t)
  table_fits t = all_fit t.functions.items

-- a function of this name has an answer
named_answers : (fs : List Function) (w : List ℕ) → AreAnswerable fs → is_named fs w ≡ true → (a b : ℤ) → (v : ℤ) × MayAnswer (meaning_of fs w) a b v
named_answers [] w all h a b = absurd cc
named_answers (f ∷ fs) w all h a b = go (bytes_eq w f.0) h (λ i. named_answers fs w (All-tail Answers f fs all) i a b)
  where
    Answers : Function → Type 0
    Answers g = (a b : ℤ) → (v : ℤ) × IsAllowed g.1 a b v

    go : (t : Bool) → (t || is_named fs w) ≡ true → (is_named fs w ≡ true → (v : ℤ) × MayAnswer (meaning_of fs w) a b v) → (v : ℤ) × MayAnswer (if t then Some f.1 else meaning_of fs w) a b v
    go true i more = All-head Answers f fs all a b
    go false i more = more i

-- so has the function of that name's number
pub has_answer : (names : List (List ℕ)) (n : NameId) (w : List ℕ) → AllDistinct names → slice_get names n.0 ≡ Some w → (fs : List Function) → AreAnswerable fs → is_named fs w ≡ true
    → (a b : ℤ) → (v : ℤ) × MayAnswer (meaning_named (hosts_in names fs) n) a b v
has_answer names n w distinct is fs all named a b =
    let r = named_answers fs w all named a b in
    (r.0, subst (λ (o : Option Meaning). MayAnswer o a b r.0) (sym (by_number names fs n w distinct is)) r.1)
