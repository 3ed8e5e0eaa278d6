use Rattle.std.proofs.Common.{◌∙◌, ap, sym, List, ℕ, ◌++◌, ◌∷◌, []}
use Rattle.waiting_processes.specs.Lists.{waiting_for}
use Rattle.waiting_processes.proofs.Entries.{becomes}
use Rattle.waiting_processes.proofs.lists.WaitingLists.open.Goals as goal

pub returns : goal.returns
returns c =
    let old = c.args.self.now in
    let ps = c.push.new.self.items in
    let qs = waiting_for old c.args.wait ++ c.args.process ∷ [] in
    becomes old.lists.entries c.insert.new.self.entries c.args.wait ps qs
    (c.in_ok-push.ensures.items ∙ ap (λ (l : List ℕ). l ++ c.args.process ∷ []) (c.new-processes.ensures.items ∙ sym c.requires))
    c.in_ok-insert.ensures.updates.0
