use Rattle.std.proofs.Common.{◌≡◌, IfSome, true, drop, take, None}
use Rattle.post_office.specs.Starts.{is_joining}
use Rattle.post_office.specs.Views.{post_at}
use Rattle.office_runs.specs.Told.{HasPosted, AreOthers, joined_board}
use Rattle.office_runs.proofs.starting.post_all.Given as goal

abbrev pub invariant-loop-part : goal.invariant-loop-part
invariant-loop-part l =
    HasPosted l.fn.office l.office × IfSome l.last (λ pid. is_joining (post_at l.office.desks pid) ≡ true)
    × (joined_board l.office.desks l.channel l.count (drop l.part-index l.parts) ≡ joined_board l.fn.office.desks l.channel l.count l.parts)
    × (l.last ≡ None → AreOthers l.count (take l.part-index l.parts))
