use Rattle.std.proofs.Common.{◌≡◌, ◌&&◌, drop}
use Rattle.std.specs.Prelude.{not}
use Rattle.chor_base.specs.declared.names.NameId.{NameId}
use Rattle.chor_tree.specs.Forms.{head_of}
use Rattle.chor_tree.specs.Names.{is_among}
use Rattle.typing_rules.specs.Guarded.{named_by}
use Rattle.guard_check.proofs.Members.{both_have}
use Rattle.guard_check.proofs.unnamed.unnamed_after.Given as goal

abbrev pub invariant-loop-process : goal.invariant-loop-process
invariant-loop-process l =
    (p : NameId) → both_have (named_by (head_of l.form)) l.list (drop l.process-index l.processes) p ≡ (is_among l.processes p && not (is_among (named_by (head_of l.form)) p))
