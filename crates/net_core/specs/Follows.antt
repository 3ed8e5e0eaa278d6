-- Following an event.
use Rattle.std.specs.Prelude.{ℕ, suc, ◌≡◌, ◌≢◌, ◌==◌, ◌&&◌, ◌++◌, length, ℤ, Bool, true, false, List, [], ◌∷◌, Option, Some, None, slice_get}
use Rattle.chor_base.specs.declared.names.NameId.{NameId}
use Rattle.chor_base.specs.declared.event.Event.{Event}
use Rattle.chor_base.specs.declared.event.Event.TheVariants as event
use Rattle.chor_base.specs.Meaning.{Hosts}
use Rattle.endpoint_code.specs.declared.endpoints.Channel.{Channel}
use Rattle.endpoint_code.specs.declared.endpoints.Endpoints.{Endpoints}
use Rattle.endpoint_code.specs.Network.{Machine, NetworkState, Makes, makes, place_at, served_parts, MachineAnswers, NetworkSteps}
use Rattle.endpoint_code.specs.NetworkRuns.{joins_there}
use Rattle.net_core.specs.declared.answer.Followed.{Followed}
use Rattle.net_core.specs.declared.answer.Followed.TheVariants.{Did, Unmatched, Memory}
use Rattle.net_core.specs.Steps.{HasGrown}
use Rattle.net_core.specs.Views.{NetworkView, Becomes, IsSame}

-- the event is a step of the network from here, where queues have a capacity
abbrev pub IsStep : Endpoints → Hosts → Option ℕ → NetworkState → Event → Type 0
IsStep e hosts cap n x = (m : NetworkState) × NetworkSteps e hosts cap n x m

-- the event has been made, and is now the last
pub record HasFollowed (hosts : Hosts) (old : NetworkView) (x : Event) (new : NetworkView) : Type 0 where
  pub state : NetworkState
  pub becomes : Becomes old new x state
  pub steps : NetworkSteps old.endpoints hosts old.capacity old.state x state

-- What following an event answers: it has been made; or it is no step from here; or it is one, and there was no memory.
-- Other answers than Did change no more than room
abbrev pub Follows : Hosts → NetworkView → Event → Followed → NetworkView → Type 0
Follows hosts old x Did new = HasFollowed hosts old x new × HasGrown old new
Follows hosts old x Unmatched new = (IsStep old.endpoints hosts old.capacity old.state x → ⊥) × IsSame old new
Follows hosts old x Memory new = IsStep old.endpoints hosts old.capacity old.state x × IsSame old new

-- ---- the event of one process

-- the process that makes an event by itself; a start is made by several
abbrev pub maker_of : Event → Option ℕ
maker_of (event.Start c s parts) = None
maker_of (event.Send p s a b l) = Some p
maker_of (event.Recv p s a b l) = Some p
maker_of (event.Test p b) = Some p
maker_of (event.Set p x v) = Some p
maker_of (event.Show p v) = Some p
maker_of (event.Host p x f a b v) = Some p

-- process p can make the event by itself, where queues have a capacity
pub record MayMake (e : Endpoints) (hosts : Hosts) (cap : Option ℕ) (n : NetworkState) (p : ℕ) (x : Event) : Type 0 where
  pub answer : ℤ
  pub after : NetworkState
  pub allowed : MachineAnswers hosts e (slice_get n.machines p) answer
  pub made : makes e cap n p answer ≡ Some (Makes x after)

-- ---- a start

-- each of the roles has its part in order, whose process joins channel c in it
abbrev pub joined_by : Endpoints → List Machine → NameId → List NameId → List (NameId × ℕ) → Bool
joined_by e ms c [] [] = true
joined_by e ms c (r ∷ rs) (q ∷ qs) = ((q.0.0 == r.0) && joins_there (place_at e (slice_get ms q.1)) c r) && joined_by e ms c rs qs
joined_by e ms c [] (q ∷ qs) = false
joined_by e ms c (r ∷ rs) [] = false

-- each of the roles has its part in order, whose process has the next number from p on
abbrev pub served_by : List NameId → ℕ → List (NameId × ℕ) → Bool
served_by [] p [] = true
served_by (r ∷ rs) p (q ∷ qs) = ((q.0.0 == r.0) && (q.1 == p)) && served_by rs (suc p) qs
served_by [] p (q ∷ qs) = false
served_by (r ∷ rs) p [] = false

-- A session can start on a channel with these parts: first each active role, of which there is one, with a process that
-- joins in it; then each service role with the next number
pub record IsCasting (e : Endpoints) (ms : List Machine) (k : Channel) (parts : List (NameId × ℕ)) : Type 0 where
  pub joining : List (NameId × ℕ)
  pub whole : parts ≡ joining ++ served_parts k.serve (length ms)
  pub some : k.active ≢ []
  pub joins : joined_by e ms k.name k.active joining ≡ true
