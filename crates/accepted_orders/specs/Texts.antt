-- The texts that tell the order of events (this project's own). Events have places, counted from 0, and are written with
-- their numbers, counted from 1.
use Rattle.std.specs.Prelude.{ℕ, suc, ◌+◌, List, [], ◌∷◌, ◌++◌, length, codes}
use Rattle.std.specs.Fmt.{decimal}
use Rattle.accepted_orders.specs.declared.relation.Relation.{Relation}
use Rattle.accepted_orders.specs.declared.relation.Relation.TheVariants.{Before, After, Same, Beside}

-- the numbers of events, each after a space
abbrev pub numbers_text : List ℕ → List ℕ
numbers_text [] = []
numbers_text (i ∷ places) = codes " " ++ decimal (i + 1) ++ numbers_text places

-- the causes of an event: ` first` where it has none, else as ` after 1 3`
abbrev pub causes_text : List ℕ → List ℕ
causes_text [] = codes " first"
causes_text (i ∷ places) = codes " after" ++ numbers_text (i ∷ places)

-- a line for each event, numbered from n on, as `5 after 1 3`
abbrev pub causes_lines : ℕ → List (List ℕ) → List ℕ
causes_lines n [] = []
causes_lines n (list ∷ causes) = decimal n ++ causes_text list ++ 10 ∷ causes_lines (suc n) causes

-- a line for each event, and `order N`
abbrev pub order_text : List (List ℕ) → List ℕ
order_text causes = causes_lines 1 causes ++ codes "order " ++ decimal (length causes) ++ 10 ∷ []

-- how two events stand to each other
abbrev pub relation_text : Relation → List ℕ
relation_text Before = codes "before"
relation_text After = codes "after"
relation_text Same = codes "same"
relation_text Beside = codes "beside"
