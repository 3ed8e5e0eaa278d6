use Rattle.std.proofs.Common.{◌∙◌, arith}
use Rattle.generated_runs.proofs.Grows.{processes_so, sessions_so, one_session}
use Rattle.generated_runs.proofs.counts.counts_of.Goals as goal

pub loop-entry-preserved : goal.loop-entry-preserved
loop-entry-preserved c =
    let x = c.entry-item.result in
    let old = c.loop-entry.invariant in
    let i = c.loop-entry.entry-index in
    let lt = c.loop-entry-test.true in
    let one = one_session x.event in (
      c.after-counts.ensures.processes ∙ processes_so c.args.history.now i x lt c.entry-item.is c.args.processes c.loop-entry.counts.processes old.0,
      c.after-counts.ensures.sessions ∙ sessions_so c.args.history.now i x lt c.entry-item.is c.loop-entry.counts.sessions old.1,
      omega (arith, c.after-counts.ensures.sessions, one, old.2),
    )
