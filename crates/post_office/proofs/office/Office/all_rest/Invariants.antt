use Rattle.std.proofs.Common.{◌≡◌, drop}
use Rattle.post_office.specs.Standings.{all_rest}
use Rattle.post_office.proofs.office.Office.all_rest.Given as goal

abbrev pub invariant-loop-pid : goal.invariant-loop-pid
invariant-loop-pid l = all_rest l.self 0 l.self.desks ≡ all_rest l.self l.pid (drop l.pid l.self.desks)
