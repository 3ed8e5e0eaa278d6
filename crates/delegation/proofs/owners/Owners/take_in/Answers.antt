use Rattle.std.proofs.Common.{sym, subst, ◌∙◌}
use Rattle.delegation.specs.Spans.{AreOf}
use Rattle.delegation.proofs.Parts.{own_listed}
use Rattle.delegation.proofs.owners.Owners.take_in.Goals as goal

pub add-requires-clause-own : goal.add-requires-clause-own
add-requires-clause-own c = subst (λ l. AreOf c.args.session l) (sym (c.as_slice.ensures.value ∙ c.in_ok-entries.ensures)) (own_listed c.args.session c.args.holders.now)
