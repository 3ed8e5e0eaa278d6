-- Types of one role that differ in the numbers of their states alone.
use Rattle.std.specs.Prelude.{ℕ, ◌≡◌, List, Some, slice_get}
use Rattle.global_types.specs.Moves.{IsIn}
use Rattle.global_types.specs.Paths.{Action}
use Rattle.local_types.specs.declared.local_type.LocalState.{LocalState}
use Rattle.local_types.specs.Reading.{acts_of, LeadsTo}

-- some list of actions leads to state n of the one type and to state m of the other
abbrev pub AreMatched : List LocalState → List LocalState → ℕ → ℕ → Type 0
AreMatched ts us n m = (w : List Action) × LeadsTo ts 0 w n × LeadsTo us 0 w m

-- Each state of the one type is matched with one state of the other, which has its actions, and they lead to matched states
pub record IsCarriedOver (ts us : List LocalState) : Type 0 where
  pub every : (n : ℕ) (t : LocalState) → slice_get ts n ≡ Some t → (m : ℕ) × AreMatched ts us n m
  pub one : (n m k : ℕ) → AreMatched ts us n m → AreMatched ts us n k → m ≡ k
  pub goes_on : (n m k : ℕ) (t : LocalState) (a : Action) → AreMatched ts us n m → slice_get ts n ≡ Some t → IsIn (a, k) (acts_of t) → (u : LocalState) × (slice_get us m ≡ Some u) × (l : ℕ) × IsIn (a, l) (acts_of u) × AreMatched ts us k l
