use Rattle.std.proofs.Common.{sym, subst}
use Rattle.accepted_links.specs.Linked.{HasRunsOf}
use Rattle.accepted_links.proofs.linking.link_accepted.Goals as goal

pub returns-in-Ok-clause-runs : goal.returns-in-Ok-clause-runs
returns-in-Ok-clause-runs c = subst (HasRunsOf c.args.accepted.typed.file) (sym c.linked.ensures.endpoints) c.in-Ok.ensures.runs
