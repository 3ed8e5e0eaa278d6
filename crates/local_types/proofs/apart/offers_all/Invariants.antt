use Rattle.std.proofs.Common.{take}
use Rattle.chor_base.specs.declared.names.NameId.{NameId}
use Rattle.global_types.specs.Moves.{IsIn}
use Rattle.global_types.specs.Views.{labels_of}
use Rattle.local_types.proofs.apart.offers_all.Given as goal

abbrev pub invariant-loop-number : goal.invariant-loop-number
invariant-loop-number l = (n : NameId) → IsIn n (labels_of (take l.number l.arms)) → IsIn n (labels_of l.others)
