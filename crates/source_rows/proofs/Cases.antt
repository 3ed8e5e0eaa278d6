-- Headers with and without a capacity, by computation.
use Rattle.std.proofs.Common.{◌≡◌, ℕ, List, [], ◌∷◌, refl}
use Rattle.std.specs.Prelude.{codes}
use Rattle.chor_base.specs.declared.rule.Place.{Place}
use Rattle.chor_base.specs.declared.rule.Rule.TheVariants.{P1, P3}
use Rattle.chor_lexer.specs.declared.mark.Mark.TheVariants.{Semicolon}
use Rattle.chor_lexer.specs.Lexeme.{Symbol, word, number, mark, Lexeme}
use Rattle.grammar.specs.Machine.{Stop, stop, on, at}
use Rattle.source_rows.specs.Sources.{file}
use Rattle.source_rows.specs.Values.{rules}

abbrev there : ℕ → Place
there n = record { line = 1; col = n }

abbrev token : Symbol → ℕ → Lexeme
token s n = record { symbol = s; place = there n }

-- where tokens of a source stop, of which no word is in a table
abbrev stopped : List Lexeme → Stop
stopped ls = stop (rules (record { words = []; texts = [] })) file ls

-- chor N;
abbrev of_version : ℕ → List Lexeme → List Lexeme
of_version n ls = token (word (codes "chor")) 1 ∷ token (number n) 6 ∷ token (mark Semicolon) 7 ∷ ls

-- capacity N;
abbrev of_capacity : ℕ → List Lexeme → List Lexeme
of_capacity n ls = token (word (codes "capacity")) 9 ∷ token (number n) 18 ∷ token (mark Semicolon) 20 ∷ ls

-- main
abbrev main_after : ℕ → List Lexeme
main_after n = token (word (codes "main")) n ∷ []

pub no_header : stopped (main_after 1) ≡ on
no_header = refl

pub no_capacity : stopped (of_version 2 (main_after 9)) ≡ on
no_capacity = refl

pub first_version : stopped (of_version 1 []) ≡ at P1 (there 6)
first_version = refl

pub another_version : stopped (of_version 3 []) ≡ at P1 (there 6)
another_version = refl

pub capacity_alone : stopped (of_capacity 8 []) ≡ at P1 (there 9)
capacity_alone = refl

pub least_capacity : stopped (of_version 2 (of_capacity 1 (main_after 22))) ≡ on
least_capacity = refl

pub greatest_capacity : stopped (of_version 2 (of_capacity 1000000 (main_after 22))) ≡ on
greatest_capacity = refl

pub capacity_of_none : stopped (of_version 2 (of_capacity 0 [])) ≡ at P3 (there 18)
capacity_of_none = refl

pub too_great_a_capacity : stopped (of_version 2 (of_capacity 1000001 [])) ≡ at P3 (there 18)
too_great_a_capacity = refl

pub two_capacities : stopped (of_version 2 (of_capacity 8 (of_capacity 8 []))) ≡ at P1 (there 9)
two_capacities = refl
