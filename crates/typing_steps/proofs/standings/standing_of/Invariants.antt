use Rattle.std.proofs.Common.{◌≡◌, drop}
use Rattle.typing_rules.specs.Environment.{standing_of}
use Rattle.typing_steps.proofs.standings.standing_of.Given as goal

abbrev pub invariant-loop-standing : goal.invariant-loop-standing
invariant-loop-standing l = standing_of (drop l.standing-index l.standings) l.session ≡ standing_of l.standings l.session
