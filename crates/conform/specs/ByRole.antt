-- When events conform to the protocols of a file, judged role by role, whatever made them (this project's own).
use Rattle.std.specs.Prelude.{ℕ, suc, ◌≡◌, List, [], ◌∷◌, ◌++◌, map, Some}
use Rattle.chor_base.specs.declared.names.NameId.{NameId}
use Rattle.chor_base.specs.declared.value.Load.{Load}
use Rattle.chor_base.specs.declared.event.Event.{Event}
use Rattle.chor_base.specs.declared.event.Event.TheVariants.{Start, Send, Recv}
use Rattle.chor_base.specs.Events.{Triple, sent_on, received_on}
use Rattle.chor_tree.specs.declared.file.File.{File}
use Rattle.chor_tree.specs.declared.file.Named.{Named}
use Rattle.chor_tree.specs.declared.file.Service.{Service}
use Rattle.chor_tree.specs.Protocols.{Protocol}
use Rattle.chor_tree.specs.declared.protocol.State.{State}
use Rattle.chor_tree.specs.Names.{channel_of, protocol_of, names_in}
use Rattle.chor_semantics.specs.Choreography.{Live}
use Rattle.global_types.specs.Moves.{IsIn}
use Rattle.global_types.specs.Paths.{Action, IsView}
use Rattle.typed_sources.specs.Told.{Told, Act, puts, gets, act_of}
use Rattle.typed_sources.specs.Context.{told_load}
use Rattle.typed_sources.specs.History.{Account, nothing_told, told_after}
use Rattle.typed_sources.specs.Stands.{kind_in, states_in}

-- ---- what a role has done

-- what a role has done follows its view: these are its first actions on some path of the protocol, as far as events say them
pub record FollowsView (ss : List State) (r : NameId) (done : List Act) : Type 0 where
  pub actions : List Action
  pub view : IsView ss r actions
  pub told : map act_of actions ≡ done

-- and it has nothing more to do
pub record HasDoneAll (ss : List State) (r : NameId) (done : List Act) : Type 0 where
  pub actions : List Action
  pub view : IsView ss r actions
  pub told : map act_of actions ≡ done
  pub no_more : (a : Action) → ¬ IsView ss r (actions ++ a ∷ [])

-- ---- one event after others

-- how many sessions these events start
abbrev pub start_count : List Event → ℕ
start_count [] = 0
start_count (Start c n parts ∷ xs) = suc (start_count xs)
start_count (x ∷ xs) = start_count xs

-- what events say of their sessions: the protocol of each, and what its roles have done
abbrev pub account_of : File → List Event → Account
account_of f h = told_after (kind_in f) nothing_told h

-- a start may come next: it has the next session number, its channel is one of the file, and it names all of the channel's
-- roles, in order
pub record MayStart (f : File) (h : List Event) (c : NameId) (n : ℕ) (parts : List (NameId × ℕ)) : Type 0 where
  pub next : n ≡ start_count h
  pub service : Service
  pub declared : channel_of f c ≡ Some service
  pub roles : map (λ q. q.0) parts ≡ names_in service.active ++ names_in service.serve

-- role r may do this next in session s: the session was started, what the load says is known, and the role still follows its
-- view. An endpoint is known where its session was started
pub record MayDo (f : File) (h : List Event) (s : ℕ) (r : NameId) (act : Told → Act) (l : Load) : Type 0 where
  pub protocol : NameId
  pub started : (account_of f h).protocol (Live s) ≡ Some protocol
  pub content : Told
  pub says : told_load (account_of f h).protocol l ≡ Some content
  pub follows : FollowsView (states_in f protocol) r ((account_of f h).done (Live s) r ++ act content ∷ [])

-- the load is the first that was sent on the triple and not received
abbrev pub ComesNext : List Event → Triple → Load → Type 0
ComesNext h t l = (more : List Load) × (sent_on t h ≡ received_on t h ++ l ∷ more)

-- the event may follow these. Tests, sets, shows and host calls may follow any
abbrev pub MayFollow : File → List Event → Event → Type 0
MayFollow f h (Start c n parts) = MayStart f h c n parts
MayFollow f h (Send p s a b l) = MayDo f h s a (puts b) l
MayFollow f h (Recv p s a b l) = MayDo f h s b (gets a) l × ComesNext h (s, a, b) l
MayFollow f h _ = Unit {0}

-- ---- events

-- The events conform: each may follow those before it
abbrev pub ConformsByRole : File → List Event → Type 0
ConformsByRole f h = (before : List Event) (x : Event) (rest : List Event) → h ≡ before ++ x ∷ rest → MayFollow f before x

-- r is a role of the protocol p
abbrev pub IsRole : File → NameId → NameId → Type 0
IsRole f p r = (q : Protocol) × (protocol_of f p ≡ Some q) × ((role : Named) × IsIn role q.roles × (role.name ≡ r))

-- They have ended: in each session each role of its protocol has done all that it has to do
abbrev pub HasEndedByRole : File → List Event → Type 0
HasEndedByRole f h =
    (s : ℕ) (p : NameId) → (account_of f h).protocol (Live s) ≡ Some p → (r : NameId) → IsRole f p r → HasDoneAll (states_in f p) r ((account_of f h).done (Live s) r)
