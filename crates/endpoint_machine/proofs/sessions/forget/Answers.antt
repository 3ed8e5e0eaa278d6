use Rattle.std.proofs.Common.{not, ◌==◌, rules}
use Rattle.std.proofs.lemmas.Fn.{filter_same}
use Rattle.endpoint_machine.proofs.sessions.forget.Goals as goal

pub returns-clause-items : goal.returns-clause-items
returns-clause-items c = filter_same _ (λ b. not (b.session.0 == c.args.name.0)) _ (λ x r f' k. search rules) _ _ c.retain.ensures.filtered
