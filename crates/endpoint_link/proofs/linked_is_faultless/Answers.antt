use Rattle.endpoint_link.proofs.Faultless.{linked_faultless}
use Rattle.endpoint_link.proofs.linked_is_faultless.Goals as goal

pub returns : goal.returns
returns c e g r linked differ_g differ fine_e fine_g = linked_faultless e g r linked differ_g differ fine_e fine_g
