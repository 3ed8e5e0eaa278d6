use Rattle.std.proofs.Common.{◌≡◌, ℕ, ◌<◌, ◌≤◌, ◌==◌, true}
use Rattle.std.specs.Prelude.{not}
use Rattle.linearity.specs.Marks.{is_marked}
use Rattle.linear_check.specs.Tracks.{channel_at}
use Rattle.linear_check.proofs.channels.Channels.not_named.Given as goal

abbrev pub invariant-loop-number : goal.invariant-loop-number
invariant-loop-number l = record {
  below : (c : ℕ) → c < l.number → is_marked l.marks c ≡ not (l.name.0 == (channel_at l.self.names.now c).0);
  above : (c : ℕ) → l.number ≤ c → c < 128 → is_marked l.marks c ≡ true;
}
