-- Whom an event takes out of the lists (this project's own).
use Rattle.std.specs.Prelude.{ℕ, ◌≡◌, List, [], Some, None, slice_get}
use Rattle.endpoint_machine.specs.declared.head.Head.{Head}
use Rattle.waiting_processes.specs.declared.waits.Awaited.{Awaited}
use Rattle.waiting_processes.specs.declared.lists.WaitingLists.{WaitingLists}
use Rattle.waiting_processes.specs.Waits.{touched_by}
use Rattle.waiting_processes.specs.Lists.{waiting_for}

-- the process is one of these
abbrev pub IsIn : List ℕ → ℕ → Type 0
IsIn ps q = (k : ℕ) × (slice_get ps k ≡ Some q)

-- these are the processes that may wait for what an event at this head changes, and their list is empty after it
pub record TakesWaiting (h : Head) (old : WaitingLists) (ps : List ℕ) (new : WaitingLists) : Type 0 where
  pub waiting : (w : Awaited) → touched_by h ≡ Some w → ps ≡ waiting_for old w
  pub gone : (w : Awaited) → touched_by h ≡ Some w → waiting_for new w ≡ []
  pub none : touched_by h ≡ None → ps ≡ []
  pub others : (w : Awaited) → (touched_by h ≡ Some w → ⊥) → waiting_for new w ≡ waiting_for old w
