-- What is known at a statement: where each session stands, who holds its roles, and which variables are set.
use Rattle.std.specs.Prelude.{◌==◌, List, [], ◌∷◌, map, Option, Some, None, if◌then◌else◌}
use Rattle.std.specs.List.{flat_map}
use Rattle.chor_base.specs.declared.names.NameId.{NameId}
use Rattle.chor_base.specs.declared.value.Sort.{Sort}
use Rattle.chor_base.specs.Sorts.{Sorts}
use Rattle.chor_tree.specs.declared.file.Named.{Named}
use Rattle.chor_tree.specs.declared.file.File.{File}
use Rattle.chor_tree.specs.declared.file.Proc.{Proc}
use Rattle.chor_tree.specs.declared.file.Service.{Service}
use Rattle.chor_tree.specs.declared.file.ProcParam.{ProcParam}
use Rattle.chor_tree.specs.Protocols.{Protocol}
use Rattle.chor_tree.specs.declared.protocol.ProtoStep.{ProtoStep}
use Rattle.chor_tree.specs.declared.protocol.State.{State}
use Rattle.chor_tree.specs.Names.{first_named, protocol_of, channel_of, is_among}
use Rattle.delegation.specs.declared.held.Held.{Held}
use Rattle.delegation.specs.Owners.{listed}
use Rattle.typing_rules.specs.declared.standings.Standing.{Standing}

-- what is known at a statement
pub record Environment : Type 0 where
  -- the sessions in scope
  pub standings : List Standing
  -- who holds their roles
  pub owners : List Held
  -- the variables of each process that are set
  pub sorts : NameId → Sorts

-- in which state of its protocol a session is
abbrev pub standing_of : List Standing → NameId → Option Standing
standing_of [] k = None
standing_of (s ∷ ss) k = if s.session.0 == k.0 then Some s else standing_of ss k

-- ---- protocols

-- the states of a protocol, if it is declared
abbrev pub states_of : Option Protocol → List State
states_of None = []
states_of (Some p) = p.states

-- the step of a state, if there is one
abbrev pub step_of : Option State → Option ProtoStep
step_of None = None
step_of (Some s) = Some s.step

-- the step of the state in which a session is
abbrev pub step_in : File → Option Standing → Option ProtoStep
step_in f None = None
step_in f (Some s) = step_of (first_named (λ x. x.name) (states_of (protocol_of f s.protocol)) s.state)

-- the step of the state that a session is in
abbrev pub step_at : File → Environment → NameId → Option ProtoStep
step_at f e k = step_in f (standing_of e.standings k)

-- ---- changes

-- a session that has gone on to a state, or another one as it was
abbrev pub moved_one : NameId → NameId → Standing → Standing
moved_one k state s = if s.session.0 == k.0 then record s { state = state } else s

-- the session is in another state
abbrev pub moved : List Standing → NameId → NameId → List Standing
moved ss k state = map (moved_one k state) ss

-- a variable is set with this sort
abbrev pub sort_set : Sorts → NameId → Sort → Sorts
sort_set m x s = λ y. if y.0 == x.0 then Some s else m y

-- the variable of the process has that sort
abbrev pub set_at : (NameId → Sorts) → NameId → NameId → Sort → NameId → Sorts
set_at m p x s = λ q. if q.0 == p.0 then sort_set (m q) x s else m q

-- these processes have no variable set
abbrev pub unset : (NameId → Sorts) → List NameId → NameId → Sorts
unset m ps = λ q. if is_among ps q then (λ x. None) else m q

-- the first state, if there is one
abbrev pub first_state : List State → List NameId
first_state [] = []
first_state (s ∷ ss) = s.name.name ∷ []

-- a session is in this state of this protocol
abbrev pub stands : NameId → NameId → NameId → Standing
stands k p s = record { session = k; protocol = p; state = s }

-- the session is in the protocol's first state
abbrev pub opened_on : NameId → List State → NameId → List Standing
opened_on k ss p = map (stands k p) (first_state ss)

-- what is known of a session that was started on this channel, if it is declared
abbrev pub opened_by : File → NameId → Option Service → List Standing
opened_by f k None = []
opened_by f k (Some s) = opened_on k (states_of (protocol_of f s.protocol.name)) s.protocol.name

-- a new session of a channel, in the first state of its protocol
abbrev pub opened : File → NameId → NameId → List Standing
opened f c k = opened_by f k (channel_of f c)

-- ---- where bodies begin

-- at the beginning of main nothing is known
abbrev pub at_main : Environment
at_main = record { standings = []; owners = []; sorts = λ p x. None }

-- the sort of a variable that a parameter declares
abbrev pub declared_sort : List (Named × Sort) → Sorts
declared_sort [] x = None
declared_sort (v ∷ vs) x = if v.0.name.0 == x.0 then Some v.1 else declared_sort vs x

-- the variables that parameters declare, process by process
abbrev pub declared_sorts : List ProcParam → NameId → Sorts
declared_sorts [] p x = None
declared_sorts (q ∷ qs) p x = if q.name.name.0 == p.0 then declared_sort q.vars x else declared_sorts qs p x

-- the declared variables, states and holders, and nothing else
abbrev pub at_procedure : Proc → Environment
at_procedure p = record {
  standings = map (λ k. stands k.name.name k.protocol.name k.state.name) p.sessions;
  owners = flat_map (λ k. listed k.name.name k.holders) p.sessions;
  sorts = declared_sorts p.params;
}
