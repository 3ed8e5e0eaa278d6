use Rattle.std.proofs.Common.{◌∙◌, sym}
use Rattle.waiting_processes.proofs.Entries.{alike}
use Rattle.waiting_processes.proofs.lists.WaitingLists.place_of.Goals as goal

pub returns-in-Some : goal.returns-in-Some
returns-in-Some c =
    let key = c.in-Some.other.now in
    (key, c.in-Some.field-0-1.now, sym c.in-Some.ensures.entry, sym (alike c.args.wait key) ∙ sym c.eq.ensures ∙ c.if-eq.true)
