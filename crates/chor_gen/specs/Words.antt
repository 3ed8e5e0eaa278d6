-- The names of a generated file, and how a name is found by its bytes (this project's own).
use Rattle.std.specs.Prelude.{ℕ, List, [], ◌∷◌, ◌++◌, suc, zero, codes, bytes_eq, Option, Some, None, option_map, unwrap_or, if◌then◌else◌}
use Rattle.std.specs.Fmt.{decimal}
use Rattle.chor_base.specs.declared.names.NameId.{NameId}
use Rattle.chor_base.specs.declared.rule.Place.{Place}
use Rattle.chor_tree.specs.declared.file.Named.{Named}

-- ---- the words

-- the words of the protocols and services, and those of the rounds, in the order in which the text has them
abbrev pub declared_words : List (List ℕ)
declared_words =
    codes "Round" ∷ codes "A" ∷ codes "B" ∷ codes "C" ∷ codes "s" ∷ codes "t" ∷ codes "u" ∷ codes "v"
    ∷ codes "Fork" ∷ codes "more" ∷ codes "less" ∷ codes "a" ∷ codes "b" ∷ []

-- the names of processes, sessions and variables in a generated file
abbrev pub used_words : List (List ℕ)
used_words = codes "p" ∷ codes "q" ∷ codes "k" ∷ codes "r" ∷ codes "x" ∷ codes "y" ∷ codes "z" ∷ []

-- the procedure with this number, as F12
abbrev pub procedure_word : ℕ → List ℕ
procedure_word i = codes "F" ++ decimal i

-- the names of the procedures up to this number
abbrev pub procedure_words : ℕ → List (List ℕ)
procedure_words zero = []
procedure_words (suc i) = procedure_words i ++ procedure_word (suc i) ∷ []

-- The names of the file with so many rounds
abbrev pub generated_names : ℕ → List (List ℕ)
generated_names count = (declared_words ++ used_words) ++ procedure_words count

-- ---- a name by its bytes

-- where a word stands first
abbrev pub found_at : List (List ℕ) → List ℕ → Option ℕ
found_at [] w = None
found_at (v ∷ vs) w = if bytes_eq w v then Some 0 else option_map suc (found_at vs w)

-- the number of a word that is in the table
abbrev pub number_in : List (List ℕ) → List ℕ → NameId
number_in names w = record { 0 = unwrap_or (found_at names w) 0 }

-- no text was read: each item stands where a text begins
abbrev pub beginning : Place
beginning = record { line = 1; col = 1 }

-- a name by its number in a table, at the beginning of a text
abbrev pub named_in : List (List ℕ) → List ℕ → Named
named_in names w = record { name = number_in names w; place = beginning }
