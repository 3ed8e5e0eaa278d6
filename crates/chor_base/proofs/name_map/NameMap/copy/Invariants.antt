use Rattle.chor_base.proofs.Copies.{IsCopying}
use Rattle.chor_base.proofs.name_map.NameMap.copy.Given as goal

abbrev pub invariant-loop-name : goal.invariant-loop-name
invariant-loop-name g l = IsCopying (λ v. v) l.self-inside.rest.entries l.rest.entries l.name-iterator
