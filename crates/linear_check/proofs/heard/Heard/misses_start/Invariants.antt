use Rattle.std.proofs.Common.{◌≡◌, ℕ, ◌<◌, ◌==◌, true}
use Rattle.std.specs.List.{list_all}
use Rattle.linear_check.specs.Heard.{hears}
use Rattle.linear_check.specs.Tracks.{channel_at}
use Rattle.linear_check.proofs.heard.Heard.misses_start.Given as goal

abbrev pub invariant-loop-number : goal.invariant-loop-number
invariant-loop-number l = (c : ℕ) → c < l.number → (l.channel.0 == (channel_at l.channels.names.now c).0) ≡ true → list_all (λ q. hears l.self c q.process.name.0) l.active ≡ true
