use Rattle.std.proofs.Common.{◌≡◌, drop}
use Rattle.post_office.specs.Starts.{least_posted}
use Rattle.post_office.proofs.office.Office.joiner.Given as goal

abbrev pub invariant-loop-pid : goal.invariant-loop-pid
invariant-loop-pid l = least_posted l.pid (drop l.pid l.self.desks) l.channel l.role ≡ least_posted 0 l.self.desks l.channel l.role
