use Rattle.std.proofs.Common.{◌≡◌, ◌≤◌, take}
use Rattle.generated_runs.specs.Counts.{events_of, sessions_in, processes_after}
use Rattle.generated_runs.proofs.counts.counts_of.Given as goal

abbrev pub invariant-loop-entry : goal.invariant-loop-entry
invariant-loop-entry l =
    (l.counts.processes ≡ processes_after l.processes (events_of (take l.entry-index l.history))) × (l.counts.sessions ≡ sessions_in (events_of (take l.entry-index l.history))) × (l.counts.sessions ≤ l.entry-index)
