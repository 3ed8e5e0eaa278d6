-- What came of a fetch, and of two.
use Rattle.std.proofs.Common.{◌≡◌, ◌<◌, ◌≤◌, ℕ, zero, suc, Bool, true, false, List, [], ◌∷◌, Option, Some, None, length, refl, sym, ap, ◌∙◌, subst, arith, bytes_eq}
use Rattle.std.specs.Prelude.{Contains}
use Rattle.std.proofs.lemmas.Slice.Eq.{bytes_eq-Decides}
use Rattle.chor_io.specs.Outside.{FetchTells, FetchFrom, FetchGrows, ShelfState}
use Rattle.chor_io.specs.declared.outside.Fetched.TheVariants as fetched
use Rattle.command_words.specs.declared.words.Words.{Words}
use Rattle.command_words.specs.declared.words.Command.{Command}
use Rattle.command_words.specs.Words.{IsForm}
use Rattle.chor_cmd.specs.Endings.{Told, MayTell, FetchesOnly}
use Rattle.chor_cmd.specs.Stops.{TouchesOnly}

-- ---- the bytes

-- the bytes that were fetched may be those that are told
all_from : (o : Option (List ℕ)) (new : List ℕ) (limit : ℕ) → FetchFrom o limit [] new fetched.All → o ≡ Some new
all_from None new limit h = absurd h
all_from (Some bytes) new limit h = ap Some (sym h.0)

pub told_all : (files : Told) (name new : List ℕ) (limit : ℕ) → FetchTells files name limit [] new fetched.All → MayTell files name new
told_all None name new limit h = tt
told_all (Some files) name new limit h = all_from (files name) new limit h

pub few_read : (new : List ℕ) (limit : ℕ) → FetchGrows limit [] new fetched.All → length new ≤ limit
few_read new limit g = omega (arith, ap length g.1, g.2)

long_from : (o : Option (List ℕ)) (new : List ℕ) (limit : ℕ) → FetchFrom o limit [] new fetched.TooLong → (bytes : List ℕ) × (o ≡ Some bytes) × (limit < length bytes)
long_from None new limit h = absurd h
long_from (Some bytes) new limit h = (bytes, refl, h.1)

-- and so may more bytes than the limit
pub told_long : (files : Told) (name new : List ℕ) (limit : ℕ) → FetchGrows limit [] new fetched.TooLong → FetchTells files name limit [] new fetched.TooLong → (bytes : List ℕ) × MayTell files name bytes × (limit < length bytes)
told_long None name new limit g h = (g.0, tt, omega (arith, g.2))
told_long (Some files) name new limit g h = long_from (files name) new limit h

-- ---- the counts

in_one : (name other : List ℕ) → Contains (name ∷ []) other → name ≡ other
in_one name other (zero, lt, e) = e
in_one name other (suc k, lt, e) = absurd (omega arith)

-- no count falls by a fetch that touches that of its name alone
pub no_fall : (shelf shelf' : ShelfState) (name : List ℕ) → TouchesOnly (name ∷ []) shelf shelf' → shelf.faults name ≤ shelf'.faults name → (other : List ℕ) → shelf.faults other ≤ shelf'.faults other
no_fall shelf shelf' name only rises other = go (bytes_eq other name) refl
  where
    go : (b : Bool) → bytes_eq other name ≡ b → shelf.faults other ≤ shelf'.faults other
    go true e = let same : other ≡ name = (bytes_eq-Decides other name).0 e in subst (λ (n : List ℕ). shelf.faults n ≤ shelf'.faults n) (sym same) rises
    go false e =
        let equal = only other (λ h. let yes : bytes_eq other name ≡ true = (bytes_eq-Decides other name).1 (sym (in_one name other h)) in let no : false ≡ true = sym e ∙ yes in cc) in
        omega (arith, equal)

-- two fetches touch the counts of both names alone
pub touches_both : (a b c : ShelfState) (m n : List ℕ) → TouchesOnly (m ∷ []) a b → TouchesOnly (n ∷ []) b c → TouchesOnly (m ∷ n ∷ []) a c
touches_both a b c m n f g = λ other none. g other (λ h. none (1, omega arith, in_one n other h)) ∙ f other (λ h. none (0, omega arith, in_one m other h))

-- and one of them that of its name alone
pub touches_first : (a b : ShelfState) (m n : List ℕ) → TouchesOnly (m ∷ []) a b → TouchesOnly (m ∷ n ∷ []) a b
touches_first a b m n f = λ other none. f other (λ h. none (0, omega arith, in_one m other h))

-- the files that a form names alone were fetched
pub fetches_only : (words : Words) (command : Command) (names : List (List ℕ)) (a b : ShelfState) → IsForm words command names → TouchesOnly names a b → FetchesOnly words a b
fetches_only words command names a b form only = λ other none. only other (λ h. none (record { command = command; names = names; form = form; among = h }))
