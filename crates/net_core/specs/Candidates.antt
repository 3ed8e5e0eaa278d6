-- Which processes the pick rule may take, as it is kept from event to event (this project's own).
use Rattle.std.specs.Prelude.{ℕ, ◌≡◌, ◌<◌, ◌≤◌, length, not, Bool, false, List, Option, Some, None, slice_get}
use Rattle.chor_base.specs.declared.names.NameId.{NameId}
use Rattle.endpoint_code.specs.declared.endpoints.Endpoints.{Endpoints}
use Rattle.endpoint_code.specs.Network.{NetworkState}
use Rattle.endpoint_machine.specs.declared.head.Head.{Head}
use Rattle.endpoint_machine.specs.declared.head.Head.TheVariants as head
use Rattle.waiting_processes.specs.declared.waits.Awaited.{Awaited}
use Rattle.waiting_processes.specs.declared.waits.Awaited.TheVariants.{Channel}
use Rattle.waiting_processes.specs.declared.lists.WaitingLists.{WaitingLists}
use Rattle.waiting_processes.specs.Waits.{awaited_by, touched_by, awaited_at}
use Rattle.waiting_processes.specs.Untouched.{IsAt, LeavesOthers}
use Rattle.waiting_processes.specs.Lists.{waiting_for}
use Rattle.waiting_processes.specs.Taken.{IsIn}
use Rattle.net_core.specs.declared.candidates.Candidates.{Candidates}
use Rattle.net_core.specs.declared.candidates.Past.{Past}
use Rattle.net_core.specs.Heads.{ended_at, is_listed_at}

abbrev pub AreBelow : ℕ → List ℕ → Type 0
AreBelow count ps = (q : ℕ) → IsIn ps q → q < count

-- no others than so many processes are in the lists
abbrev pub AreWithin : ℕ → WaitingLists → Type 0
AreWithin count lists = (w : Awaited) → AreBelow count (waiting_for lists w)

-- there are places for so many processes, and no others are in the lists
pub record HasPlaces (count : ℕ) (c : Candidates) : Type 0 where
  pub listed : length c.listed ≡ count
  pub unended : length c.unended ≡ count
  pub within : AreWithin count c.waiting

-- ---- what is kept of a process

-- a process that may wait is in the list of what it waits for
abbrev pub IsKept : Endpoints → Option ℕ → NetworkState → WaitingLists → ℕ → Type 0
IsKept e cap n lists q = (w : Awaited) → awaited_at e cap n q ≡ Some w → IsIn (waiting_for lists w) q

-- and whether it has ended is known
pub record IsNoted (e : Endpoints) (cap : Option ℕ) (n : NetworkState) (c : Candidates) (q : ℕ) : Type 0 where
  pub unended : slice_get c.unended q ≡ Some (not (ended_at e n q))
  pub kept : IsKept e cap n c.waiting q

-- whether the pick rule may take it is known
abbrev pub IsJudged : Endpoints → Option ℕ → NetworkState → List Bool → ℕ → Type 0
IsJudged e cap n listed q = slice_get listed q ≡ Some (is_listed_at e cap n q)

-- What is kept is true of each process
pub record IsUpToDate (e : Endpoints) (cap : Option ℕ) (n : NetworkState) (c : Candidates) : Type 0 where
  pub places : HasPlaces (length n.machines) c
  pub noted : (q : ℕ) → q < length n.machines → IsNoted e cap n c q
  pub judged : (q : ℕ) → q < length n.machines → IsJudged e cap n c.listed q

-- each process that may wait is in its list, and no others than processes are in the lists
pub record ListsAll (e : Endpoints) (cap : Option ℕ) (n : NetworkState) (lists : WaitingLists) : Type 0 where
  pub kept : (q : ℕ) → q < length n.machines → IsKept e cap n lists q
  pub within : AreWithin (length n.machines) lists

-- there are places for so many processes, and what was kept of processes still is
pub record HasGrownTo (count : ℕ) (old new : Candidates) : Type 0 where
  pub places : HasPlaces count new
  pub listed : (q : ℕ) (b : Bool) → slice_get old.listed q ≡ Some b → slice_get new.listed q ≡ Some b
  pub unended : (q : ℕ) (b : Bool) → slice_get old.unended q ≡ Some b → slice_get new.unended q ≡ Some b
  pub waiting : new.waiting ≡ old.waiting

-- the process joins no channel, and is judged
pub record IsSettled (e : Endpoints) (cap : Option ℕ) (n : NetworkState) (listed : List Bool) (q : ℕ) : Type 0 where
  pub joins_none : (c : NameId) → awaited_at e cap n q ≡ Some (Channel c) → ⊥
  pub judged : IsJudged e cap n listed q

-- these processes are noted anew, and judged if none of them joins
pub record Enters (e : Endpoints) (cap : Option ℕ) (n : NetworkState) (old : Candidates) (ps : List ℕ) (joins : Bool) (new : Candidates) : Type 0 where
  pub places : HasPlaces (length n.machines) new
  pub stays : (q : ℕ) → IsNoted e cap n old q → IsNoted e cap n new q
  pub entered : (q : ℕ) → IsIn ps q → IsNoted e cap n new q
  pub still : (q : ℕ) → IsJudged e cap n old.listed q → IsJudged e cap n new.listed q
  pub settled : joins ≡ false → (q : ℕ) → IsIn ps q → IsSettled e cap n new.listed q

-- these processes are judged anew
pub record Judges (e : Endpoints) (cap : Option ℕ) (n : NetworkState) (old : List Bool) (ps : List ℕ) (new : List Bool) : Type 0 where
  pub count : length new ≡ length old
  pub stays : (q : ℕ) → IsJudged e cap n old q → IsJudged e cap n new q
  pub judged : (q : ℕ) → IsIn ps q → IsJudged e cap n new q

-- all who join a channel are among these
abbrev pub AreJoiners : Endpoints → Option ℕ → NetworkState → NameId → List ℕ → Type 0
AreJoiners e cap n c ps = (q : ℕ) → q < length n.machines → awaited_at e cap n q ≡ Some (Channel c) → IsIn ps q

-- the channel that a process joins at a head
abbrev pub joined_by : Head → Option NameId
joined_by (head.Join c r) = Some c
joined_by (head.Take s a b) = None
joined_by (head.Out s a b) = None
joined_by head.Local = None
joined_by head.Ended = None

-- so are all who join a channel that one of these processes joins, other than this one
pub record Renews (e : Endpoints) (cap : Option ℕ) (n : NetworkState) (done : Option NameId) (old : List Bool) (ps : List ℕ) (new : List Bool) : Type 0 where
  pub judges : Judges e cap n old ps new
  pub came : (p : ℕ) (c : NameId) → IsIn ps p → awaited_at e cap n p ≡ Some (Channel c) → (done ≡ Some c → ⊥) → (q : ℕ) → q < length n.machines → awaited_at e cap n q ≡ Some (Channel c) → IsJudged e cap n new q

-- ---- after an event

-- among these are the processes that an event may have moved, of new ones those below a number, and all that may wait for what it has changed
pub record HasTouched (cap : Option ℕ) (past : Past) (count : ℕ) (old : WaitingLists) (ps : List ℕ) : Type 0 where
  pub waiting : (w : Awaited) (q : ℕ) → touched_by past.head ≡ Some w → IsIn (waiting_for old w) q → IsIn ps q
  pub own : awaited_by cap past.head ≡ None → IsIn ps past.pid
  pub new_ones : (q : ℕ) → (q < past.count → ⊥) → q < count → IsIn ps q

-- such processes are taken out of the lists
pub record TakesTouched (cap : Option ℕ) (past : Past) (count : ℕ) (old : Candidates) (ps : List ℕ) (new : Candidates) : Type 0 where
  pub places : HasPlaces count new
  pub listed : new.listed ≡ old.listed
  pub unended : new.unended ≡ old.unended
  pub below : AreBelow count ps
  pub touched : HasTouched cap past count old.waiting ps
  pub others : (w : Awaited) → (touched_by past.head ≡ Some w → ⊥) → waiting_for new.waiting w ≡ waiting_for old.waiting w

-- the event of a process has led here from a state of which what is kept was true
pub record HasMoved (e : Endpoints) (cap : Option ℕ) (m : NetworkState) (past : Past) (c : Candidates) : Type 0 where
  pub before : NetworkState
  pub count : length before.machines ≡ past.count
  pub more : past.count ≤ length m.machines
  pub there : past.pid < past.count
  pub at : IsAt e before past.pid past.head
  pub left : LeavesOthers e cap before past.pid past.head m
  pub right : IsUpToDate e cap before c
