use Rattle.std.proofs.Common.{ap, ◌∙◌}
use Rattle.std.specs.Prelude.{slice_get}
use Rattle.name_resolution.proofs.Indexes.{got}
use Rattle.name_resolution.proofs.declared.Declared.node_at.Goals as goal

pub returns : goal.returns
returns c = got c.get.result c.as_slice.result.now c.args.id.0 c.get.ensures.lookup.0 c.get.ensures.lookup.1 ∙ ap (λ l. slice_get l c.args.id.0) c.as_slice.ensures
