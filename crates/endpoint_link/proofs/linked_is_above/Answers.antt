use Rattle.endpoint_link.proofs.LinkedUnits.{linked_above}
use Rattle.endpoint_link.proofs.linked_is_above.Goals as goal

pub returns : goal.returns
returns c e g r linked fine differ = linked_above e g r linked fine differ
