-- The faults of a file, each with its place, and which of them comes first.
use Rattle.std.specs.Prelude.{ℕ, ◌≡◌, ◌==◌, ◌&&◌, ◌||◌, Bool, false, List, [], ◌∷◌, Option, Some, None, nat_lt, slice_index_or, if◌then◌else◌}
use Rattle.chor_base.specs.declared.rule.Rule.{Rule}
use Rattle.chor_base.specs.declared.rule.Place.{Place}
use Rattle.chor_base.specs.declared.rule.Denied.{Denied}
use Rattle.chor_base.specs.declared.rule.Denied.TheVariants.{Refused, Memory}
use Rattle.chor_base.specs.declared.fault.Fault.{Fault}
use Rattle.chor_base.specs.Writing.{rule_name}

-- the fault of this rule at this place
abbrev pub fault : Rule → Place → Fault
fault r p = record { rule = r; place = p }

-- the fault, where the test says so
abbrev pub fault_if : Bool → Rule → Place → List Fault
fault_if b r p = if b then fault r p ∷ [] else []

-- the digit of a rule's name
abbrev pub rank : Rule → ℕ
rank r = slice_index_or (rule_name r) 1 0

-- whether a fault comes before another: at an earlier place, or at the same place by a rule of smaller digit
abbrev pub comes_before : Fault → Fault → Bool
comes_before x y =
    nat_lt x.place.line y.place.line
    || ((x.place.line == y.place.line)
    && (nat_lt x.place.col y.place.col
    || ((x.place.col == y.place.col) && nat_lt (rank x.rule) (rank y.rule))))

-- Of the faults for which P holds, none is there, or this one is and none comes before it
abbrev pub IsFirst : (Fault → Type 0) → Option Fault → Type 0
IsFirst P None = (x : Fault) → P x → ⊥
IsFirst P (Some x) = P x × ((y : Fault) → P y → comes_before y x ≡ false)

-- A refusal tells the first of these faults, with no name beside it; want of memory tells nothing
abbrev pub IsDenial : (Fault → Type 0) → Denied → Type 0
IsDenial P (Refused r) = IsFirst P (Some (fault r.rule r.place)) × (r.who ≡ None)
IsDenial P Memory = Unit {0}

-- ---- the first of several, piece by piece

-- of two faults the one that comes first
abbrev pub earlier : Option Fault → Option Fault → Option Fault
earlier None y = y
earlier (Some x) None = Some x
earlier (Some x) (Some y) = if comes_before y x then Some y else Some x

-- the first of all
abbrev pub first_of_all : List Fault → Option Fault
first_of_all [] = None
first_of_all (x ∷ xs) = earlier (Some x) (first_of_all xs)
