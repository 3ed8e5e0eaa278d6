use Rattle.std.proofs.Common.{◌≡◌, drop}
use Rattle.chor_tree.specs.Names.{first_named}
use Rattle.typing_steps.proofs.declared.procedure_of.Given as goal

abbrev pub invariant-loop-procedure : goal.invariant-loop-procedure
invariant-loop-procedure l = first_named (λ x. x.name) (drop l.procedure-index l.file.procs) l.name ≡ first_named (λ x. x.name) l.file.procs l.name
