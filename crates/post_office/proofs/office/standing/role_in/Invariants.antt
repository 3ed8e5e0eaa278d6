use Rattle.std.proofs.Common.{◌≡◌, drop}
use Rattle.post_office.specs.Standings.{role_of}
use Rattle.post_office.proofs.office.standing.role_in.Given as goal

abbrev pub invariant-loop-part : goal.invariant-loop-part
invariant-loop-part l = role_of l.parts l.pid ≡ role_of (drop l.part-index l.parts) l.pid
