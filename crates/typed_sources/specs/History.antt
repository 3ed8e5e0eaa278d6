-- What a history tells of its sessions: the protocol of each, and what each role has done.
use Rattle.std.specs.Prelude.{ℕ, ◌≡◌, List, [], ◌∷◌, ◌++◌, Option, Some, None}
use Rattle.chor_base.specs.declared.names.NameId.{NameId}
use Rattle.chor_base.specs.declared.event.Event.{Event}
use Rattle.chor_base.specs.declared.event.Event.TheVariants.{Start, Send, Recv}
use Rattle.chor_tree.specs.declared.protocol.State.{State}
use Rattle.chor_semantics.specs.Choreography.{Ref, Live}
use Rattle.typed_sources.specs.Told.{Told, Act}
use Rattle.typed_sources.specs.Context.{bound_to, told_load}
use Rattle.typed_sources.specs.Typing.{HasEnded, IsOnOnePath}
use Rattle.typed_sources.specs.Changes.{event_acts}

-- the protocol of each session that was started, and what each of its roles has done
pub record Account : Type 0 where
  pub protocol : Ref → Option NameId
  pub done : Ref → NameId → List Act

-- before any event
abbrev pub nothing_told : Account
nothing_told = record { protocol = λ s. None; done = λ s r. [] }

-- what an event adds
abbrev pub told_by : (NameId → Option NameId) → Account → Event → Account
told_by kind s (Start c n parts) = record { protocol = bound_to (Live n) (kind c) s.protocol; done = s.done }
told_by kind s x = record { protocol = s.protocol; done = λ t r. s.done t r ++ event_acts s.protocol x t r }

-- what is told after these events
abbrev pub told_after : (NameId → Option NameId) → Account → List Event → Account
told_after kind s [] = s
told_after kind s (x ∷ xs) = told_after kind (told_by kind s x) xs

-- what an event sends or receives is told, in a session that was started: a value of a sort, a label, or a role of a
-- session that was started
abbrev pub IsTold : (Ref → Option NameId) → Event → Type 0
IsTold pr (Send p s a b l) = ((k : NameId) × (pr (Live s) ≡ Some k)) × ((w : Told) × (told_load pr l ≡ Some w))
IsTold pr (Recv p s a b l) = ((k : NameId) × (pr (Live s) ≡ Some k)) × ((w : Told) × (told_load pr l ≡ Some w))
IsTold pr _ = Unit {0}

-- all of these events are
abbrev pub AllTold : (NameId → Option NameId) → Account → List Event → Type 0
AllTold kind s [] = Unit {0}
AllTold kind s (x ∷ xs) = IsTold s.protocol x × AllTold kind (told_by kind s x) xs

-- The sessions of a history conform: all events are told, and for each there is one path of its protocol such that what each
-- role has done is a front of what it does on the path
abbrev pub SessionsConform : (NameId → Option NameId) → (NameId → List State) → List Event → Type 0
SessionsConform kind states h =
    let s = told_after kind nothing_told h in AllTold kind nothing_told h × ((n : ℕ) (p : NameId) → s.protocol (Live n) ≡ Some p → IsOnOnePath (states p) (s.done (Live n)))

-- In each session its roles have done all of a path of its protocol to a state whose step is `end`
abbrev pub SessionsEnd : (NameId → Option NameId) → (NameId → List State) → List Event → Type 0
SessionsEnd kind states h =
    let s = told_after kind nothing_told h in (n : ℕ) (p : NameId) → s.protocol (Live n) ≡ Some p → HasEnded (states p) (s.done (Live n))
