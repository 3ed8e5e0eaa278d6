use Rattle.same_programs.proofs.Hosts.{hosts_same}
use Rattle.same_programs.proofs.named_hosts_are_same.Goals as goal

pub returns : goal.returns
returns c e e' functions d d' = hosts_same e e' functions d d'
