-- Where an item goes in a list that ascends.
use Rattle.std.specs.Prelude.{ℕ, suc, List, [], ◌∷◌, if◌then◌else◌}
use Rattle.chor_base.specs.declared.names.NameId.{NameId}
use Rattle.chor_base.specs.Writing.{name_in}
use Rattle.endpoint_code.specs.declared.code.CodeId.{CodeId}
use Rattle.endpoint_text.specs.Ascending.{is_before}

-- how many items at the front have words before this one
abbrev pub place_in : {A : Type 0} → (A → List ℕ) → List ℕ → List A → ℕ
place_in word w [] = 0
place_in word w (y ∷ ys) = if is_before (word y) w then suc (place_in word w ys) else 0

-- the label of an arm whose code stands at a number
abbrev pub label_in : List (List ℕ) → NameId × CodeId → List ℕ
label_in names arm = name_in names arm.0
