-- How what is known at a statement of a source and what is known at its choreography correspond.
use Rattle.std.specs.Prelude.{ℕ, ◌≡◌, ◌<◌, false, List, Option, Some, None}
use Rattle.chor_base.specs.declared.names.NameId.{NameId}
use Rattle.chor_tree.specs.declared.file.File.{File}
use Rattle.chor_tree.specs.declared.file.Service.{Service}
use Rattle.chor_tree.specs.declared.protocol.State.{State}
use Rattle.chor_tree.specs.Names.{Scope, protocol_of, channel_of, is_among}
use Rattle.chor_semantics.specs.Choreography.{Ref, Named}
use Rattle.global_types.specs.Moves.{state_named}
use Rattle.delegation.specs.Owners.{holder_of}
use Rattle.typing_rules.specs.declared.standings.Standing.{Standing}
use Rattle.typing_rules.specs.Environment.{Environment, standing_of, states_of}
use Rattle.typed_sources.specs.Told.{Act}
use Rattle.typed_sources.specs.Context.{Context}
use Rattle.typed_sources.specs.Typing.{Reaches}

-- the protocol of a channel, if it is declared
abbrev pub protocol_name : Option Service → Option NameId
protocol_name None = None
protocol_name (Some s) = Some s.protocol.name

-- the protocol of a channel
abbrev pub kind_in : File → NameId → Option NameId
kind_in f c = protocol_name (channel_of f c)

-- the states of a protocol
abbrev pub states_in : File → NameId → List State
states_in f p = states_of (protocol_of f p)

-- the roles have done what leads to the state of that name
pub record Reached (ss : List State) (done : NameId → List Act) (state : NameId) : Type 0 where
  pub place : ℕ
  pub named : state_named ss state ≡ Some place
  pub reaches : Reaches ss done place

-- a name of the source
abbrev pub at : NameId → Ref
at x = Named x.0 0

abbrev pub holder_at : Option NameId → Option Ref
holder_at None = None
holder_at (Some p) = Some (at p)

abbrev pub protocol_at : Option Standing → Option NameId
protocol_at None = None
protocol_at (Some s) = Some s.protocol

-- what is in scope, where sessions stand, who holds their roles and which variables are set: the same in both
pub record Stands (f : File) (scope : Scope) (k : Environment) (e : Context) : Type 0 where
  pub known : (x : NameId) → e.known (at x) ≡ is_among scope.processes x
  pub sorts : (x : NameId) → e.sorts (at x) ≡ k.sorts x
  pub protocol : (s : NameId) → e.protocol (at s) ≡ protocol_at (standing_of k.standings s)
  pub reached : (s : NameId) (st : Standing) → standing_of k.standings s ≡ Some st → Reached (states_in f st.protocol) (e.done (at s)) st.state
  pub holder : (s r : NameId) → e.holder (at s) r ≡ holder_at (holder_of k.owners s r)
  pub one_role : (s a b p : NameId) → holder_of k.owners s a ≡ Some p → holder_of k.owners s b ≡ Some p → a ≡ b
  -- a session that isn't in scope has no holders
  pub held : (s r : NameId) → standing_of k.standings s ≡ None → holder_of k.owners s r ≡ None
  pub of_source : (t : Ref) (p : NameId) → e.protocol t ≡ Some p → (s : NameId) × (t ≡ at s)
  pub deeper : (x d : ℕ) → 0 < d → (e.known (Named x d) ≡ false) × (e.protocol (Named x d) ≡ None)
