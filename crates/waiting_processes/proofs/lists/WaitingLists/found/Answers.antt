use Rattle.waiting_processes.proofs.Entries.{found_same}
use Rattle.waiting_processes.proofs.lists.WaitingLists.found.Goals as goal

pub returns-in-Some : goal.returns-in-Some
returns-in-Some c =
    let key = c.in-Some.field-0-1.now in
    (key, c.in-Some.field-0-2.now, c.in-Some.ensures.entry, found_same c.args.self.now.lists.entries c.args.wait key c.in-Some.ensures.key)
