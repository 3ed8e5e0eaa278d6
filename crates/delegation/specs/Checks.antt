-- Checks of rules in order, of which the first that fails decides.
use Rattle.std.specs.Prelude.{◌≡◌, ◌&&◌, Bool, true, false, not, List, [], ◌∷◌, Option, Some, None, Result, Ok, Err}
use Rattle.chor_base.specs.declared.names.NameId.{NameId}
use Rattle.chor_base.specs.declared.rule.Rule.{Rule}
use Rattle.chor_tree.specs.Names.{is_among}
use Rattle.delegation.specs.declared.fault.OwnFault.{OwnFault}
use Rattle.delegation.specs.declared.fault.OwnFault.TheVariants as fault

-- the rule that a check finds violated, if any
abbrev pub Check : Type 0
Check = Option Rule

-- a check that fails by this rule where something isn't so
abbrev pub ask : Bool → Rule → Check
ask true r = None
ask false r = Some r

-- the first check that fails
abbrev pub first_failed : List Check → Check
first_failed [] = None
first_failed (None ∷ cs) = first_failed cs
first_failed (Some r ∷ cs) = Some r

-- no name stands twice
abbrev pub all_differ : List NameId → Bool
all_differ [] = true
all_differ (x ∷ xs) = not (is_among xs x) && all_differ xs

-- A call succeeds only where no rule is violated, and tells the rule that is
abbrev pub IsJudged : {T : Type 0} → Check → Result T OwnFault → Type 0
IsJudged c (Ok x) = c ≡ None
IsJudged c (Err (fault.Rule r)) = c ≡ Some r
IsJudged c (Err fault.Memory) = Unit {0}

-- The answer is the check's: no rule is violated, or this one is
abbrev pub IsRuling : {T : Type 0} → Check → Result T Rule → Type 0
IsRuling c (Ok x) = c ≡ None
IsRuling c (Err r) = c ≡ Some r
