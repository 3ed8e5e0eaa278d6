-- What the calls of a process do, as its part of the network's steps.
use Rattle.std.specs.Prelude.{ℕ, ◌≡◌, List, ◌∷◌, Option, Some, None, ℤ, if◌then◌else◌, Bool}
use Rattle.std.specs.FinMap as fin
use Rattle.chor_base.specs.declared.names.NameId.{NameId}
use Rattle.chor_base.specs.declared.value.Load.{Load}
use Rattle.chor_base.specs.declared.event.Event.{Event}
use Rattle.chor_base.specs.declared.event.Event.TheVariants as event
use Rattle.chor_base.specs.declared.event.Why.TheVariants.{Wrong}
use Rattle.chor_base.specs.Meaning.{Hosts}
use Rattle.endpoint_code.specs.declared.code.CodeId.{CodeId}
use Rattle.endpoint_code.specs.declared.endpoints.Endpoints.{Endpoints}
use Rattle.endpoint_code.specs.Network.{Machine, NetworkState, Sessions, Makes, machine_makes, put_if, has_room, queue_of, with_queue, moved, joins, MachineAnswers}
use Rattle.endpoint_code.specs.NetworkRuns.{waits_for}
use Rattle.endpoint_machine.specs.declared.sessions.Binding.{Binding}
use Rattle.endpoint_machine.specs.declared.head.Head.TheVariants as head
use Rattle.endpoint_machine.specs.Heads.{head_of}
use Rattle.endpoint_machine.specs.Acts.{load_of}

abbrev pub first_sessions : Option Binding → Sessions
first_sessions None = fin.empty
first_sessions (Some b) = fin.insert fin.empty b.session.0 (b.sid, b.role)

-- a process at its body, with no variable set and at most one session
abbrev pub begins : CodeId → Option Binding → Machine
begins body first = record { at = body; vars = fin.empty; sessions = first_sessions first }

-- In each network where process p is the old machine it sends its load on the queue of its head, where there is room, and
-- becomes the new one
abbrev pub HasSent : Endpoints → ℕ → Machine → Machine → Type 0
HasSent e p old new = (capacity : Option ℕ) (n : NetworkState) (v : ℤ) (s : ℕ) (a b : NameId) (l : Load)
    → head_of e old ≡ Some (head.Out s a b) → load_of e old ≡ Some l
    → machine_makes e capacity n p v (Some old) ≡ put_if (has_room capacity (queue_of n (s, a, b))) (moved n p new.at new.vars new.sessions) p (s, a, b) l

-- where this load is the first of its head's queue, it takes it
abbrev pub HasTaken : Endpoints → ℕ → Load → Machine → Machine → Type 0
HasTaken e p l old new = (capacity : Option ℕ) (n : NetworkState) (v : ℤ) (s : ℕ) (a b : NameId) (rest : List Load)
    → head_of e old ≡ Some (head.Take s a b) → queue_of n (s, a, b) ≡ l ∷ rest
    → machine_makes e capacity n p v (Some old) ≡ Some (Makes (event.Recv p s a b l) (with_queue (moved n p new.at new.vars new.sessions) (s, a, b) rest))

-- where this load is the first of its head's queue, it waits by it unless it fits
abbrev pub Fits : Endpoints → Machine → Load → Bool → Type 0
Fits e m l fits = (capacity : Option ℕ) (n : NetworkState) (s : ℕ) (a b : NameId) (rest : List Load)
    → head_of e m ≡ Some (head.Take s a b) → queue_of n (s, a, b) ≡ l ∷ rest
    → waits_for e capacity n m ≡ (if fits then None else Some (Wrong s a b))

-- it joins session s in its head's channel and role
abbrev pub HasJoined : Endpoints → ℕ → Machine → Machine → Type 0
HasJoined e s old new = (c r : NameId) → head_of e old ≡ Some (head.Join c r) → joins e (Some old) c r s ≡ Some new

-- it makes this event by itself, by an answer that it may get where it asks a host function
pub record HasActed (e : Endpoints) (hosts : Hosts) (p : ℕ) (old : Machine) (x : Event) (new : Machine) : Type 0 where
  pub answer : ℤ
  pub allowed : MachineAnswers hosts e (Some old) answer
  pub made : (capacity : Option ℕ) (n : NetworkState) → machine_makes e capacity n p answer (Some old) ≡ Some (Makes x (moved n p new.at new.vars new.sessions))

-- it can make this event by itself
abbrev pub CanMake : Endpoints → Hosts → ℕ → Machine → Event → Type 0
CanMake e hosts p m x = (new : Machine) × HasActed e hosts p m x new

-- it makes the event of a host call by this answer
pub record HasBeenTold (e : Endpoints) (hosts : Hosts) (p : ℕ) (old : Machine) (v : ℤ) (new : Machine) : Type 0 where
  pub event : Event
  pub acted : HasActed e hosts p old event new
  pub by_it : acted.answer ≡ v
