use Rattle.endpoint_laws.proofs.Whole.{units_are_faultless, text_is_taken}
use Rattle.endpoint_laws.proofs.printed.text_is_taken.Goals as goal

pub returns-clause-units : goal.returns-clause-units
returns-clause-units c = units_are_faultless

pub returns-clause-taken : goal.returns-clause-taken
returns-clause-taken c = text_is_taken
