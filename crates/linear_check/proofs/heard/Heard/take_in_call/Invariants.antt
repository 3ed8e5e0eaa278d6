use Rattle.std.proofs.Common.{◌≡◌, ℕ, ◌<◌, ◌==◌, ◌&&◌, nat_lt, length, true, false}
use Rattle.std.specs.Prelude.{if◌then◌else◌}
use Rattle.chor_base.specs.declared.names.NameId.{NameId}
use Rattle.linear_check.specs.Sets.{holds}
use Rattle.linear_check.specs.Takes.{is_heard}
use Rattle.linear_check.specs.Weights.{weight_below, IsNoHeavier}
use Rattle.linear_check.proofs.heard.Heard.take_in_call.Given as goal

abbrev pub invariant-loop-place : goal.invariant-loop-place
invariant-loop-place l = record {
  taken : (c : ℕ) (g : NameId) (i : ℕ) → c < 128
      → holds l.sets c g i ≡ (if (l.procedure.0 == g.0) && nat_lt i l.place then holds l.fn.sets c g i && is_heard l.self c l.processes i else holds l.fn.sets c g i);
  same : l.changed ≡ false → l.sets ≡ l.fn.sets;
  lighter : IsNoHeavier l.sets l.fn.sets;
  falls : l.changed ≡ true → weight_below l.sets l.procedure (length l.processes) < weight_below l.fn.sets l.procedure (length l.processes);
}
