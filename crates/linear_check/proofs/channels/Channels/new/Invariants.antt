use Rattle.std.proofs.Common.{ℕ, ◌<◌, ◌≤◌}
use Rattle.linear_check.specs.Tracks.{channel_at}
use Rattle.linear_check.proofs.channels.Channels.new.Given as goal

abbrev pub invariant-loop-name : goal.invariant-loop-name
invariant-loop-name l = record {
  above : (c : ℕ) → c < l.name-index → l.least ≤ (channel_at l.names c).0;
  below : (c : ℕ) → c < l.name-index → (channel_at l.names c).0 ≤ l.greatest;
}
