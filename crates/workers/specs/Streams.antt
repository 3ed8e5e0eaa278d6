-- Runs that workers make, whose lines are written meanwhile (this project's own).
use Rattle.std.specs.Prelude.{ℕ, ◌≤◌, List, length, Option}
use Rattle.chor_base.specs.declared.event.Entry.{Entry}
use Rattle.chor_base.specs.Meaning.{Hosts}
use Rattle.chor_host.specs.Functions.{Function, hosts_in}
use Rattle.chor_io.specs.Outside.{SinkState, Risen, Wrote, WroteFront}
use Rattle.endpoint_code.specs.declared.endpoints.Endpoints.{Endpoints}
use Rattle.endpoint_code.specs.Network.{NetworkState}
use Rattle.endpoint_code.specs.NetworkRuns.{IsNetworkRun}
use Rattle.post_office.specs.Views.{events_of}
use Rattle.transcript.specs.Text.{Words}
use Rattle.chor_stream.specs.Lines.{entry_lines}
use Rattle.workers.specs.declared.streamed.Streamed.{Streamed}
use Rattle.workers.specs.declared.streamed.Streamed.TheVariants.{Done, Failed, Memory}
use Rattle.workers.specs.Runs.{IsReport}

-- The lines of some run of the programs from their first state, of at most so many events, were written, or a prefix of them
pub record WrotePrefixOfRun (w : Words) (hosts : Hosts) (capacity : Option ℕ) (steps : ℕ) (e : Endpoints) (before after : SinkState) : Type 0 where
  pub history : List Entry
  pub last : NetworkState
  pub run : IsNetworkRun e hosts capacity (events_of history) last
  pub within : length history ≤ steps
  pub lines : WroteFront before.written after.written (entry_lines w 1 history)

-- What was written, by the answer: the lines of the run that is told of; else a prefix of those of some run, and a failed write is
-- counted
abbrev pub IsStreamed : Words → List Function → Option ℕ → ℕ → ℕ → Endpoints → SinkState → SinkState → Streamed → Type 0
IsStreamed w functions capacity workers steps e before after (Done told) =
    IsReport functions capacity workers steps e told × Wrote before.written after.written (entry_lines w 1 told.history)
IsStreamed w functions capacity workers steps e before after Failed =
    Risen before.faults after.faults × WrotePrefixOfRun w (hosts_in e.names functions) capacity steps e before after
IsStreamed w functions capacity workers steps e before after Memory = WrotePrefixOfRun w (hosts_in e.names functions) capacity steps e before after
