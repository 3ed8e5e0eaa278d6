-- The states of a type, in the order in which their numbers are given out.
use Rattle.std.proofs.Common.{ℕ, ◌≡◌, List, [], ◌∷◌, refl, arith, suc, length}
use Rattle.std.specs.Prelude.{Some, slice_get}
use Rattle.std.specs.List.{flat_map}
use Rattle.state_sets.specs.declared.table.Row.{Row}
use Rattle.state_sets.specs.Table.{Counts, nexts, all_nexts}
use Rattle.state_sets.proofs.Counts.{counts_append, counts_split, in_order}
use Rattle.local_types.specs.declared.local_type.LocalState.{LocalState}
use Rattle.local_types.specs.Reading.{nexts_of, IsBreadthFirst}
use Rattle.local_types.specs.States.{IsStateOf, AreStatesOf}

counts_states : (c d : ℕ) (rows : List Row) (ts : List LocalState) → length ts ≡ length rows
    → ((k : ℕ) (row : Row) (t : LocalState) → slice_get rows k ≡ Some row → slice_get ts k ≡ Some t → IsStateOf row.arms.items t)
    → Counts c (all_nexts rows) d → Counts c (flat_map nexts_of ts) d
counts_states c d [] [] len are h = h
counts_states c d [] (t ∷ ts) len are h = absurd (omega (arith, len))
counts_states c d (row ∷ rows) [] len are h = absurd (omega (arith, len))
counts_states c d (row ∷ rows) (t ∷ ts) len are h =
    let p = counts_split c d (nexts row.arms.items) (all_nexts rows) h in
    counts_append c p.0 d (nexts_of t) (flat_map nexts_of ts) ((are 0 row t refl refl).numbered c p.0 p.1) (counts_states p.0 d rows ts (omega (arith, len)) (λ k o u a b. are (suc k) o u a b) p.2)

pub breadth_first : (d : ℕ) (rows : List Row) (ts : List LocalState) → AreStatesOf rows ts → Counts 1 (all_nexts rows) d → IsBreadthFirst ts
breadth_first d rows ts are h = λ i n m at low less. in_order [] (flat_map nexts_of ts) 1 d (λ j a b. absurd (omega (arith, a, b))) (counts_states 1 d rows ts are.size are.state h) i n m at low less
