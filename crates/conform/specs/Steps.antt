-- What is answered where an event is to follow others.
use Rattle.std.specs.Prelude.{ℕ, ◌≡◌, true, false, List, [], ◌∷◌, ◌++◌, length, Option, Some, None, Result, Ok, Err, slice_get, slice_set, Bool, drop}
use Rattle.chor_base.specs.declared.memory.Memory.{Memory}
use Rattle.chor_base.specs.declared.names.NameId.{NameId}
use Rattle.chor_base.specs.declared.value.Load.{Load}
use Rattle.chor_base.specs.declared.event.Event.{Event}
use Rattle.chor_base.specs.Events.{Triple}
use Rattle.chor_tree.specs.declared.file.File.{File}
use Rattle.chor_tree.specs.declared.file.Service.{Service}
use Rattle.chor_tree.specs.Names.{channel_of, names_in}
use Rattle.chor_tree.specs.Protocols.{Protocol}
use Rattle.std.specs.Prelude.{map}
use Rattle.std.proofs.Math.ListN.{replicate}
use Rattle.endpoint_code.specs.Network.{with_loads}
use Rattle.local_types.specs.declared.local_type.LocalState.TheVariants.{End}
use Rattle.local_types.specs.declared.local_type.LocalType.{LocalType}
use Rattle.post_office.specs.Lanes.{loads_in}
use Rattle.post_office.specs.Views.{loads_at}
use Rattle.typed_sources.specs.Told.{Told, Act, puts, gets}
use Rattle.typed_sources.specs.Context.{told_load}
use Rattle.conform.specs.declared.progress.Progress.{Progress}
use Rattle.conform.specs.declared.fault.ConformFault.{ConformFault}
use Rattle.conform.specs.declared.fault.ConformFault.TheVariants.{Astray, Closed, Memory as NoMemory}
use Rattle.conform.specs.ByRole.{MayFollow}
use Rattle.conform.specs.Judged.{IsAstray}
use Rattle.conform.specs.Sessions.{SessionView}
use Rattle.conform.specs.Progress.{protocol_among, protocols_in, IsMove, IsAfter}

-- a start with these parts may come next: of a channel of this protocol, which is at this place in the file
pub record MayOpen (f : File) (p : Progress) (c : NameId) (n : ℕ) (parts : List (NameId × ℕ)) (place : ℕ) : Type 0 where
  pub next : n ≡ length p.sessions.items
  pub service : Service
  pub declared : channel_of f c ≡ Some service
  pub roles : map (λ q. q.0) parts ≡ names_in service.active ++ names_in service.serve
  pub protocol : protocol_among f.protocols service.protocol.name ≡ Some place

-- a new session of this protocol is the last
pub record HasOpened (f : File) (old new : Progress) (place : ℕ) : Type 0 where
  pub protocol : Protocol
  pub here : slice_get f.protocols place ≡ Some protocol
  pub sessions : new.sessions.items ≡ old.sessions.items ++ record { protocol = place; states = replicate (length protocol.roles) 0 } ∷ []
  pub types : new.types ≡ old.types
  pub queues : new.queues ≡ old.queues

-- the role at this place stands at this state
abbrev pub went : SessionView → ℕ → ℕ → SessionView
went k place next = record { protocol = k.protocol; states = slice_set k.states place next }

-- the role at this place of a session stands at this state, and all other roles where they stood
pub record HasGone (old new : Progress) (s place next : ℕ) : Type 0 where
  pub session : SessionView
  pub started : slice_get old.sessions.items s ≡ Some session
  pub sessions : new.sessions.items ≡ slice_set old.sessions.items s (went session place next)
  pub types : new.types ≡ old.types

-- the role does this in the session with such a load, and its triple has these loads then
pub record HasDone (f : File) (old new : Progress) (s : ℕ) (r : NameId) (act : Told → Act) (l : Load) (t : Triple) (left : List Load) : Type 0 where
  pub content : Told
  pub says : told_load (protocols_in f old.sessions.items) l ≡ Some content
  pub place : ℕ
  pub next : ℕ
  pub move : IsMove f old s r (act content) place next
  pub gone : HasGone old new s place next
  pub loads : loads_in new.queues.lanes ≡ with_loads (loads_in old.queues.lanes) t left

-- the role can do this
abbrev pub CanDo : File → Progress → ℕ → NameId → (Told → Act) → Load → Type 0
CanDo f p s r act l = (content : Told) × (told_load (protocols_in f p.sessions.items) l ≡ Some content) × ((place : ℕ) × (next : ℕ) × IsMove f p s r (act content) place next)

-- ---- what is answered; want of memory tells nothing

abbrev pub IsOpening : File → Progress → NameId → ℕ → List (NameId × ℕ) → Option ℕ → Type 0
IsOpening f p c n parts None = (place : ℕ) → ¬ MayOpen f p c n parts place
IsOpening f p c n parts (Some place) = MayOpen f p c n parts place

abbrev pub Opens : File → Progress → NameId → ℕ → List (NameId × ℕ) → Result Bool Memory → Progress → Type 0
Opens f old c n parts (Ok true) new = (place : ℕ) × MayOpen f old c n parts place × HasOpened f old new place
Opens f old c n parts (Ok false) new = (place : ℕ) → ¬ MayOpen f old c n parts place
Opens f old c n parts (Err e) new = Unit {0}

abbrev pub IsMoveOf : File → Progress → ℕ → NameId → Act → Option (ℕ × ℕ) → Type 0
IsMoveOf f p s r act None = (place next : ℕ) → ¬ IsMove f p s r act place next
IsMoveOf f p s r act (Some q) = IsMove f p s r act q.0 q.1

abbrev pub Sends : File → Progress → Triple → Load → Result Bool Memory → Progress → Type 0
Sends f old t l (Ok true) new = HasDone f old new t.0 t.1 (puts t.2) l t (loads_at old.queues t ++ l ∷ [])
Sends f old t l (Ok false) new = ¬ CanDo f old t.0 t.1 (puts t.2) l
Sends f old t l (Err e) new = Unit {0}

abbrev pub Receives : File → Progress → Triple → Load → Bool → Progress → Type 0
Receives f old t l true new = (slice_get (loads_at old.queues t) 0 ≡ Some l) × HasDone f old new t.0 t.2 (gets t.1) l t (drop 1 (loads_at old.queues t))
Receives f old t l false new = ¬ ((slice_get (loads_at old.queues t) 0 ≡ Some l) × CanDo f old t.0 t.2 (gets t.1) l)

-- The event may follow these, and then this is kept of all of them; or it may not
abbrev pub Follows : File → List Event → Event → Result Bool Memory → Progress → Type 0
Follows f h x (Ok true) new = MayFollow f h x × IsAfter f (h ++ x ∷ []) new
Follows f h x (Ok false) new = ¬ MayFollow f h x
Follows f h x (Err e) new = Unit {0}

-- What is kept of events that conform, or the first that goes astray
abbrev pub IsJudged : File → List Event → Result Progress ConformFault → Type 0
IsJudged f xs (Ok p) = IsAfter f xs p
IsJudged f xs (Err (Astray i)) = IsAstray f xs i
IsJudged f xs (Err Closed) = ⊥
IsJudged f xs (Err NoMemory) = Unit {0}

-- ---- ends

-- the type is at its end in a state
abbrev pub StandsAtEnd : LocalType → Option ℕ → Type 0
StandsAtEnd t state = (n : ℕ) × (state ≡ Some n) × (slice_get t.states n ≡ Some End)

-- each of these types is, in the session's state at its place
abbrev pub AreAtEnd : List LocalType → SessionView → Type 0
AreAtEnd row k = (j : ℕ) (t : LocalType) → slice_get row j ≡ Some t → StandsAtEnd t (slice_get k.states j)

-- each role of the session's protocol is
abbrev pub IsOver : List (List LocalType) → SessionView → Type 0
IsOver types k = (row : List LocalType) → slice_get types k.protocol ≡ Some row → AreAtEnd row k
