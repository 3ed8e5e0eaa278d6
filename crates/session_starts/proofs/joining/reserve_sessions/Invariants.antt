use Rattle.std.proofs.Common.{ℕ, ◌≡◌, true, take, map}
use Rattle.std.specs.Prelude.{All}
use Rattle.session_starts.specs.Machines.{standing_of}
use Rattle.session_starts.specs.Machines.{number_of}
use Rattle.session_starts.specs.Starts.{reserved_in}
use Rattle.session_starts.proofs.joining.reserve_sessions.Given as goal

abbrev pub invariant-loop-part : goal.invariant-loop-part
invariant-loop-part l = record {
  standing : map standing_of l.machines ≡ map standing_of l.fn.machines;
  numbers : map number_of l.machines ≡ map number_of l.fn.machines;
  kept : (p : ℕ) → reserved_in l.endpoints l.fn.machines p ≡ true → reserved_in l.endpoints l.machines p ≡ true;
  room : All (λ q. reserved_in l.endpoints l.machines q.1 ≡ true) (take l.part-index l.parts);
}
