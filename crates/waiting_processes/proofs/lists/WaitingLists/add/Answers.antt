use Rattle.std.proofs.Common.{◌∙◌, ap, List, ℕ, ◌++◌, ◌∷◌, []}
use Rattle.std.proofs.lemmas.Result.{on_ok_weaker}
use Rattle.waiting_processes.specs.Lists.{waiting_for}
use Rattle.waiting_processes.proofs.Entries.{becomes_at, listed_at}
use Rattle.waiting_processes.proofs.lists.WaitingLists.add.Goals as goal

pub returns : goal.returns
returns c =
    let old = c.args.self.now in
    let w = c.args.wait in
    let unique = c.get_index_mut.ensures.unique in
    let list = listed_at old.lists w c.in-Some.place c.in-Some-get_index_mut.waiting.now unique c.in-Some.ensures c.in-Some-get_index_mut.ensures.value in
    on_ok_weaker c.push.result (λ is.
    becomes_at old.lists w c.in-Some.place c.push.new.self (waiting_for old w ++ c.args.process ∷ []) unique c.in-Some.ensures (is ∙ ap (λ (l : List ℕ). l ++ c.args.process ∷ []) list)) c.push.ensures
