use Rattle.accepted_links.proofs.Firsts.{none_fails}
use Rattle.accepted_links.proofs.laws.linked_has_no_fault.Goals as goal

pub returns : goal.returns
returns c e g r links rule unit fault = none_fails e g links.suit rule unit fault
