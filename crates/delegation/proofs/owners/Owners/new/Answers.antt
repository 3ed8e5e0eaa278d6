use Rattle.delegation.proofs.Parts.{no_spans}
use Rattle.delegation.proofs.owners.Owners.new.Goals as goal

pub invariant_of-result : goal.invariant_of-result
invariant_of-result c k = no_spans k c.new.result.items c.new-2.result.map c.new.ensures.items c.new-2.ensures
