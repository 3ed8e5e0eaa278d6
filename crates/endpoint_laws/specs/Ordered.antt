-- Code with the arms of each branch in ascending order of their labels (this project's own), as they are printed.
use Rattle.std.specs.Prelude.{ℕ, List, if◌then◌else◌}
use Rattle.chor_base.specs.declared.names.NameId.{NameId}
use Rattle.chor_base.specs.Writing.{name_in}
use Rattle.endpoint_code.specs.Trees.{CodeTree, Does, Offers, Tests, Calls, Ends, Arms, NoArms, Arm}
use Rattle.endpoint_text.specs.Ascending.{is_before}

-- the arms with one more, which goes after all those at the front whose labels come before its own
abbrev pub with_arm : List (List ℕ) → NameId → CodeTree → Arms → Arms
with_arm names l c NoArms = Arm l c NoArms
with_arm names l c (Arm m d rest) = if is_before (name_in names m) (name_in names l) then Arm m d (with_arm names l c rest) else Arm l c (Arm m d rest)

-- The same code, where each branch has its arms in ascending order
abbrev mutual
  pub in_order : List (List ℕ) → CodeTree → CodeTree
  in_order names (Does a rest) = Does a (in_order names rest)
  in_order names (Offers k a arms) = Offers k a (arms_in_order names arms)
  in_order names (Tests t first second) = Tests t (in_order names first) (in_order names second)
  in_order names (Calls f p ss) = Calls f p ss
  in_order names Ends = Ends

  pub arms_in_order : List (List ℕ) → Arms → Arms
  arms_in_order names NoArms = NoArms
  arms_in_order names (Arm l c rest) = with_arm names l (in_order names c) (arms_in_order names rest)
