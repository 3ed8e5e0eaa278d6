use Rattle.std.proofs.Common.{◌≡◌, ℕ, ◌<◌, ◌||◌, drop}
use Rattle.chor_semantics.specs.Choreography.{Named}
use Rattle.well_formed.specs.Linear.{given}
use Rattle.linear_check.specs.Heard.{hears}
use Rattle.linear_check.specs.Sets.{holds}
use Rattle.linear_check.specs.Greatest.{members_in}
use Rattle.linear_check.proofs.Settled.{refs}
use Rattle.linear_check.proofs.greatest.heard_in.Given as goal

abbrev pub invariant-loop-place : goal.invariant-loop-place
invariant-loop-place l = (c : ℕ) → c < 128 → (x : ℕ) → (hears l.heard c x || given (holds l.sets c l.procedure.name.name) l.place (refs (drop l.place l.procedure.params)) (Named x 0)) ≡ members_in l.sets l.procedure c (Named x 0)
