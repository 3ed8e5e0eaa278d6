-- Where a process stands that knows its sessions.
use Rattle.std.proofs.Common.{◌≡◌, ℕ, zero, suc, ◌<◌, ◌^◌, [], ◌∷◌, length, refl, sym, subst, Some, arith}
use Rattle.std.specs.Prelude.{slice_get, All}
use Rattle.std.proofs.lemmas.Option.{same_Some}
use Rattle.std.proofs.lemmas.List.Elements.{All-nil, All-cons}
use Rattle.endpoint_code.specs.declared.code.CodeNode.{CodeNode}
use Rattle.endpoint_code.specs.declared.endpoints.Endpoints.{Endpoints}
use Rattle.endpoint_code.specs.Faults.{IsFaultless}
use Rattle.endpoint_code.specs.Network.{Machine, NetworkState, Sessions}
use Rattle.endpoint_machine.specs.Bound.{IsBound}
use Rattle.endpoint_machine.specs.Places.{StandsAt}
use Rattle.endpoint_machine.specs.Views.{MachineView}
use Rattle.endpoint_machine.proofs.Actings.{all_at}
use Rattle.session_starts.specs.Machines.{AreCounted}
use Rattle.net_core.specs.Heads.{Stands, EachStands}
use Rattle.net_core.specs.Views.{IsSound}
use Rattle.net_core.proofs.Scopes.{stands_at}
use Rattle.net_core.proofs.Turns.{turn}

-- the process as the only one of a network
abbrev alone : Machine → MachineView
alone m = record { number = 0; machine = m; room = record { variables = 0; sessions = 0; beyond = 0 } }

counted : (m : Machine) → AreCounted (alone m ∷ [])
counted m zero n h = let same : 0 ≡ n = same_Some 0 n h in sym same
counted m (suc p) n h = absurd cc

-- it stands at a node of its code, through at most one call
pub record Somewhere (e : Endpoints) (m : Machine) : Type 0 where
  pub node : CodeNode
  pub sessions : Sessions
  pub at_node : StandsAt e m node sessions

module _ (e : Endpoints) (faultless : IsFaultless e) where
  pub somewhere : (m : Machine) → IsBound e m → Somewhere e m
  somewhere m bound =
      let few : length (alone m ∷ []) < 2 ^ 32 = (let one : length (alone m ∷ []) ≡ 1 = refl in omega arith) in
      let sound : IsSound e (alone m ∷ []) = record { faultless = faultless; few = few; bound = All-cons (IsBound e) m [] bound (All-nil (IsBound e)); counted = counted m } in
      let within : 0 < length (alone m ∷ []) = (let one : length (alone m ∷ []) ≡ 1 = refl in omega arith) in
      let s = stands_at e (alone m ∷ []) (record { lanes = []; fresh = 0 }) 0 0 (alone m) sound within refl in
      let same : s.1.machine ≡ m = same_Some s.1.machine m (sym s.1.there) in
      record { node = s.0; sessions = s.1.sessions; at_node = subst (λ (w : Machine). StandsAt e w s.0 s.1.sessions) same s.1.at_node }

  -- so does the process of a network
  pub stands : (n : NetworkState) (p : ℕ) (m : Machine) → All (IsBound e) n.machines → slice_get n.machines p ≡ Some m → (node : CodeNode) × Stands e n p node
  stands n p m all there =
      let bound = all_at (IsBound e) n.machines p m all there in
      let s = somewhere m bound in
      (s.node, record { machine = m; sessions = s.sessions; there = there; at_node = s.at_node; bound = bound })

  pub each_stands : (n : NetworkState) → All (IsBound e) n.machines → EachStands e n
  each_stands n all p lt = let t = turn n.machines p lt in stands n p t.item all t.there
