-- The book of endpoint programs, and that it tells the events of a run (this project's own).
use Rattle.std.specs.Prelude.{ℕ, ◌+◌, ◌*◌, ◌≤◌, ◌^◌, List, [], ◌∷◌, map, length, max}
use Rattle.std.specs.List.{AllByRecursion}
use Rattle.chor_base.specs.declared.event.Event.{Event}
use Rattle.endpoint_code.specs.declared.endpoints.Channel.{Channel}
use Rattle.endpoint_code.specs.declared.endpoints.Endpoints.{Endpoints}
use Rattle.endpoint_code.specs.Network.{NetworkState}
use Rattle.transcript.specs.Text.{Words}
use Rattle.event_reader.specs.Known.{HasEvent}

-- the names and texts of endpoint programs, and the processes that they begin with
abbrev pub words_of : Endpoints → Words
words_of e = record { names = e.names; texts = e.texts; processes = map (λ p. p.name) e.processes }

-- how many processes a start makes at most
abbrev pub most_served : List Channel → ℕ
most_served [] = 0
most_served (k ∷ ks) = max (length k.serve) (most_served ks)

-- so many events are few enough that processes and sessions have numbers of 32 bits
abbrev pub IsShort : Endpoints → List Event → Type 0
IsShort e h = (length e.processes + length h * most_served e.channels ≤ 2 ^ 32) × (length h ≤ 2 ^ 32)

-- no process and no session of the state has a number of more than 32 bits
abbrev pub AreNumbersSmall : NetworkState → Type 0
AreNumbersSmall n = (length n.machines ≤ 2 ^ 32) × (n.sid ≤ 2 ^ 32)

-- The programs have a name, a text or a number of its size for all that the events say
abbrev pub AreTold : Endpoints → List Event → Type 0
AreTold e h = AllByRecursion (HasEvent (words_of e)) h
