use Rattle.std.proofs.Common.{◌≡◌, drop, take, None}
use Rattle.post_office.specs.Starts.{first_absent, IsCast}
use Rattle.post_office.proofs.office.Office.cast.Given as goal

abbrev pub invariant-loop-role : goal.invariant-loop-role
invariant-loop-role l = record {
  so_far : IsCast l.self.desks l.channel l.pid l.own (take l.role-index l.roles) l.parts;
  left : first_absent l.self.desks l.channel l.pid l.own (drop l.role-index l.roles) ≡ None;
}
