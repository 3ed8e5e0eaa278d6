use Rattle.std.proofs.Common.{◌≡◌, ◌∙◌, sym, true, false}
use Rattle.office_runs.proofs.Received.{still_room}
use Rattle.office_runs.proofs.making.make_sent.Goals as goal

pub unreachable-requires : goal.unreachable-requires
unreachable-requires c =
    let no : false ≡ true = sym (still_room c.args.office.now c.reserve.new.self c.args.lane c.in_ok-reserve.ensures.same c.requires.room) ∙ c.in-Full.ensures.0 in
    cc
