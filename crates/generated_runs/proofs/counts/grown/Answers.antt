use Rattle.std.proofs.Common.{◌∙◌, ◌+◌, ap}
use Rattle.std.specs.Prelude.{max}
use Rattle.generated_runs.proofs.Grows.{grown_so}
use Rattle.generated_runs.proofs.counts.grown.Goals as goal

pub loop-part-preserved : goal.loop-part-preserved
loop-part-preserved c =
    let more = grown_so c.args.parts.now c.loop-part.part-index _ c.loop-part-test.true c.args.processes c.loop-part.count c.loop-part.invariant in
    c.max-count.ensures ∙ ap (λ n. max c.loop-part.count (n + 1)) c.from.ensures ∙ more
