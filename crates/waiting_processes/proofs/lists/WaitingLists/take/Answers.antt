use Rattle.std.proofs.Common.{◌∙◌, ap, [], if◌then◌else◌}
use Rattle.std.specs.Map.{lookup}
use Rattle.waiting_processes.specs.Lists.{list_of, same_awaited}
use Rattle.waiting_processes.proofs.Entries.{becomes_at, listed_at}
use Rattle.waiting_processes.proofs.lists.WaitingLists.take.Goals as goal

pub returns-clause-list : goal.returns-clause-list
returns-clause-list c =
    let w = c.args.wait in
    c.take.ensures.taken
    ∙ listed_at c.nobody-memory.new.self.lists w c.in-Some.place c.in-Some-get_index_mut.waiting.now c.get_index_mut.ensures.unique c.in-Some.ensures c.in-Some-get_index_mut.ensures.value
    ∙ ap (λ l. list_of (lookup (same_awaited w) l.entries)) c.nobody-memory.ensures.same

pub returns-clause-rest : goal.returns-clause-rest
returns-clause-rest c v =
    let w = c.args.wait in
    becomes_at c.nobody-memory.new.self.lists w c.in-Some.place c.take.new.self [] c.get_index_mut.ensures.unique c.in-Some.ensures c.take.ensures.rest v
    ∙ ap (λ l. if same_awaited w v then [] else list_of (lookup (same_awaited v) l.entries)) c.nobody-memory.ensures.same
