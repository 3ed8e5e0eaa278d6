use Rattle.std.proofs.Common.{List, ℕ, subst, ap, ◌∙◌}
use Rattle.chor_base.specs.Words.{AllDistinct}
use Rattle.chor_tree.specs.declared.file.File.{File}
use Rattle.type_check.specs.declared.typed.Typed.{Typed}
use Rattle.type_check.specs.Typed.{HasFineNames}
use Rattle.chor_host.specs.Tables.{functions_of}
use Rattle.chor_host.proofs.Answerable.{table_answerable}
use Rattle.simulation.proofs.running.functions_answer.Goals as goal

pub returns : goal.returns
returns g c =
    let typed = c.args.accepted.now.typed in
    let distinct = subst (λ (f : File). AllDistinct f.names) (c.file.ensures.file ∙ ap (λ (t : Typed). t.file) c.typed.ensures) c.len-count.ensures.distinct in
    c.asked_functions_answer.ensures typed.file (functions_of c.args.hosts.now) distinct (table_answerable c.args.hosts.now)
    (subst (λ (words : List (List ℕ)). HasFineNames words typed.file) c.requires typed.fine.names)
