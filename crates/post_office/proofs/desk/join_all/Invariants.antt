use Rattle.std.proofs.Common.{◌≡◌, drop}
use Rattle.post_office.specs.Views.{all_joined}
use Rattle.post_office.proofs.desk.join_all.Given as goal

abbrev pub invariant-loop-part : goal.invariant-loop-part
invariant-loop-part l = all_joined l.sid (drop l.part-index l.parts) l.desks.items ≡ all_joined l.sid l.parts l.fn.desks.items
