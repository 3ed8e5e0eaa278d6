-- The exchanges of a protocol as one role takes part in them.
use Rattle.std.specs.Prelude.{ℕ, ◌+◌, ◌≡◌, ◌==◌, List, [], ◌∷◌, ◌++◌, Option, Some, None, if◌then◌else◌}
use Rattle.chor_base.specs.declared.names.NameId.{NameId}
use Rattle.chor_tree.specs.declared.protocol.Payload.{Payload}
use Rattle.chor_tree.specs.declared.protocol.ProtoArm.{ProtoArm}
use Rattle.chor_tree.specs.declared.protocol.ProtoStep.{ProtoStep}
use Rattle.chor_tree.specs.declared.protocol.ProtoStep.TheVariants.{End, Value, Choice}
use Rattle.chor_tree.specs.declared.protocol.State.{State}
use Rattle.global_types.specs.Moves.{IsIn, Exchange, Leads, content_of, state_named}
use Rattle.global_types.specs.Paths.{Action, sends, receives, selects, offers, action_in}
use Rattle.state_sets.specs.declared.act.Act.{Act}
use Rattle.state_sets.specs.declared.act.Act.TheVariants.{Send, Recv, Pick, Branch}
use Rattle.state_sets.specs.declared.moves.Move.{Move}

-- the action that an act stands for, wherever its payload stands in the file
abbrev pub action_of : Act → Action
action_of (Send b c) = sends b (content_of c)
action_of (Recv a c) = receives a (content_of c)
action_of (Pick b l) = selects b l
action_of (Branch a l) = offers a l

abbrev pub actions_in : Option Act → List Action
actions_in None = []
actions_in (Some a) = action_of a ∷ []

-- the moves are the exchanges by which states lead to states, each with what the role does
pub record AreMoves (ss : List State) (r : NameId) (ms : List Move) : Type 0 where
  pub sound : (m : Move) → IsIn m ms → (x : Exchange) × Leads ss m.from x m.to × (action_in r x ≡ actions_in m.act)
  pub complete : (i j : ℕ) (x : Exchange) → Leads ss i x j → (m : Move) × IsIn m ms × (m.from ≡ i) × (m.to ≡ j) × (action_in r x ≡ actions_in m.act)

-- ---- as they are collected

abbrev pub value_act : NameId → NameId → NameId → Payload → Option Act
value_act r a b c = if a.0 == r.0 then Some (Send b c) else (if b.0 == r.0 then Some (Recv a c) else None)

abbrev pub choice_act : NameId → NameId → NameId → NameId → Option Act
choice_act r a b l = if a.0 == r.0 then Some (Pick b l) else (if b.0 == r.0 then Some (Branch a l) else None)

abbrev pub move_to : ℕ → Option Act → Option ℕ → List Move
move_to i act None = []
move_to i act (Some j) = record { from = i; act = act; to = j } ∷ []

-- the moves of a choice, where names stand for these states
abbrev pub arms_by : (NameId → Option ℕ) → NameId → ℕ → NameId → NameId → List ProtoArm → List Move
arms_by place r i a b [] = []
arms_by place r i a b (arm ∷ arms) = move_to i (choice_act r a b arm.label.name) (place arm.next.name) ++ arms_by place r i a b arms

abbrev pub arms_moves : List State → NameId → ℕ → NameId → NameId → List ProtoArm → List Move
arms_moves ss = arms_by (state_named ss)

abbrev pub step_by : (NameId → Option ℕ) → NameId → ℕ → ProtoStep → List Move
step_by place r i End = []
step_by place r i (Value a b c next) = move_to i (value_act r a.name b.name c) (place next.name)
step_by place r i (Choice a b arms) = arms_by place r i a.name b.name arms

abbrev pub step_moves : List State → NameId → ℕ → ProtoStep → List Move
step_moves ss = step_by (state_named ss)

-- the moves from these states, of which the first has the number i
abbrev pub moves_by : (NameId → Option ℕ) → NameId → ℕ → List State → List Move
moves_by place r i [] = []
moves_by place r i (s ∷ rest) = step_by place r i s.step ++ moves_by place r (i + 1) rest

-- where a name stands for the first state that has it
abbrev pub moves_from : List State → NameId → ℕ → List State → List Move
moves_from ss = moves_by (state_named ss)
