-- Protocols, and what each of them keeps (this project's own): a list of which the grammar asks at least one item has one.
use Rattle.std.specs.Prelude.{◌==◌, ◌&&◌, Bool, true, not, List, length}
use Rattle.std.specs.List.{list_all}
use Rattle.chor_tree.specs.declared.file.Named.{Named}
use Rattle.chor_tree.specs.declared.protocol.State.{State}
use Rattle.chor_tree.specs.declared.protocol.ProtoStep.{ProtoStep}
use Rattle.chor_tree.specs.declared.protocol.ProtoStep.TheVariants.{End, Value, Choice}

-- a protocol's name, its roles and its states, the first of which is the one where a session begins
pub record Protocol : Type 0 where
  pub name : Named
  pub roles : List Named
  pub states : List State

abbrev pub has_items : {A : Type 0} → List A → Bool
has_items xs = not (length xs == 0)

abbrev pub step_filled : ProtoStep → Bool
step_filled End = true
step_filled (Value a b p next) = true
step_filled (Choice a b arms) = has_items arms

-- it has a role and a state, and each choice has a label
abbrev pub are_filled : List Named → List State → Bool
are_filled roles states = has_items roles && has_items states && list_all (λ s. step_filled s.step) states

abbrev pub protocol_filled : Protocol → Bool
protocol_filled p = are_filled p.roles p.states
