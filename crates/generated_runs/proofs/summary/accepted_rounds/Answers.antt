use Rattle.std.proofs.Common.{◌∙◌, ap, Err}
use Rattle.generated_runs.proofs.Told.{not_refused}
use Rattle.generated_runs.proofs.summary.accepted_rounds.Goals as goal

pub unreachable-requires : goal.unreachable-requires
unreachable-requires g c =
    not_refused _ _ _ c.accept.result _ c.requires c.generated_is_accepted.ensures.denied c.accept.ensures.denied (c.in-Err-Refused.is ∙ ap Err c.in-Err-Refused.field-0-is)
