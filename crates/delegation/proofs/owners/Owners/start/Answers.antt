use Rattle.std.proofs.Common.{sym, subst, ◌∙◌, ◌++◌}
use Rattle.delegation.specs.Spans.{AreOf}
use Rattle.delegation.proofs.Parts.{own_started}
use Rattle.delegation.proofs.owners.Owners.start.Goals as goal

pub add-requires-clause-own : goal.add-requires-clause-own
add-requires-clause-own c = subst (λ l. AreOf c.args.session l) (sym (c.as_slice.ensures.value ∙ c.in_ok-entries.ensures)) (own_started c.args.session (c.args.active.now ++ c.args.serve.now))
