use Rattle.std.proofs.Common.{◌≡◌, drop}
use Rattle.post_office.specs.Starts.{first_absent}
use Rattle.post_office.proofs.office.Office.absent.Given as goal

abbrev pub invariant-loop-role : goal.invariant-loop-role
invariant-loop-role l = first_absent l.self.desks l.channel l.pid l.own (drop l.role-index l.roles) ≡ first_absent l.self.desks l.channel l.pid l.own l.roles
