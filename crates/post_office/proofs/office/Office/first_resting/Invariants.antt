use Rattle.std.proofs.Common.{◌≡◌, drop}
use Rattle.post_office.specs.Standings.{first_resting}
use Rattle.post_office.proofs.office.Office.first_resting.Given as goal

abbrev pub invariant-loop-pid : goal.invariant-loop-pid
invariant-loop-pid l = first_resting l.self 0 l.self.desks ≡ first_resting l.self l.pid (drop l.pid l.self.desks)
