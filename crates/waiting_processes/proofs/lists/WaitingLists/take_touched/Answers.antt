use Rattle.std.proofs.Common.{sym}
use Rattle.waiting_processes.proofs.Taken.{taken_list, taken_none}
use Rattle.waiting_processes.proofs.lists.WaitingLists.take_touched.Goals as goal

pub returns-in-Some : goal.returns-in-Some
returns-in-Some c = taken_list c.args.head c.args.self.now c.take.new.self c.take.result.items c.in-Some.touched (sym c.in-Some.ensures) c.take.ensures.list c.take.ensures.rest

pub returns-in-None : goal.returns-in-None
returns-in-None c = taken_none c.args.head c.args.self.now c.nobody.new.self c.nobody.result.items (sym c.in-None.ensures) c.nobody.ensures.list c.nobody.ensures.same
