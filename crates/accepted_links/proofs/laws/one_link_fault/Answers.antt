use Rattle.accepted_links.proofs.Firsts.{one_fault}
use Rattle.accepted_links.proofs.laws.one_link_fault.Goals as goal

pub returns : goal.returns
returns c e g a b x y f h = one_fault e g a b x y f h
