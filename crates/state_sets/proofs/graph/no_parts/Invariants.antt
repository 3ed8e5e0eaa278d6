use Rattle.std.proofs.Common.{ℕ, ◌≡◌, [], length}
use Rattle.std.specs.declared.alloc.Global.{Global}
use Rattle.std.specs.Prelude.{Some, Vec, slice_get}
use Rattle.state_sets.specs.declared.moves.Move.{Move}
use Rattle.state_sets.proofs.graph.no_parts.Given as goal

abbrev pub invariant-loop : goal.invariant-loop
invariant-loop l = record {
  size : length l.parts.items ≡ l.counter;
  empty : (n : ℕ) (v : Vec Move Global) → slice_get l.parts.items n ≡ Some v → v.items ≡ [];
}
