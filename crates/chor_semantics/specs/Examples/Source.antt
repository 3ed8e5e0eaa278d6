-- Small sources, each as a table of nodes. Places and the spelling of names don't matter to runs:
-- all places are the same here, and names are their numbers in one table.
use Rattle.std.specs.Prelude.{ℕ, ◌-◌, List, [], map, length, None, pos}
use Rattle.chor_base.specs.declared.names.NameId.{NameId}
use Rattle.chor_base.specs.declared.rule.Place.{Place}
use Rattle.chor_base.specs.declared.value.Value.TheVariants.{Int}
use Rattle.chor_base.specs.declared.value.Load.{Load}
use Rattle.chor_base.specs.declared.value.Load.TheVariants.{Value as Carries}
use Rattle.chor_base.specs.declared.event.Event.{Event}
use Rattle.chor_base.specs.declared.expr.Expr.{Expr}
use Rattle.chor_base.specs.declared.expr.Expr.TheVariants.{Lit}
use Rattle.chor_tree.specs.Headers.{no_header}
use Rattle.chor_tree.specs.declared.file.File.{File}
use Rattle.chor_tree.specs.declared.file.Named.{Named as Written}
use Rattle.chor_tree.specs.declared.file.Proc.{Proc}
use Rattle.chor_tree.specs.declared.tree.Part.{Part}
use Rattle.chor_tree.specs.declared.tree.NodeId.{NodeId}
use Rattle.chor_tree.specs.declared.tree.Node.{Node}
use Rattle.chor_tree.specs.declared.tree.Form.{Form}
use Rattle.chor_tree.specs.Children.{IsClosed}
use Rattle.chor_tree.specs.Kept.{Keeps}
use Rattle.chor_base.specs.Meaning.{Hosts}
use Rattle.chor_semantics.specs.Runs.{IsRun, IsEndedRun}
use Rattle.chor_semantics.specs.Examples.Names.{words}

abbrev pub nowhere : Place
nowhere = record { line = 0; col = 0 }

abbrev pub written : NameId → Written
written x = record { name = x; place = nowhere }

-- process p in role a
abbrev pub at : NameId → NameId → Part
at p a = record { process = written p; role = written a }

-- the node with this number
abbrev pub node : ℕ → NodeId
node n = record { 0 = n }

abbrev pub number : ℕ → Expr
number n = Lit (Int (pos n))

-- what is sent for a number
abbrev pub load : ℕ → Load
load n = Carries (Int (pos n))

-- procedures, main's processes, and the forms of all nodes, each after those that follow it; main begins at the last
pub record Source : Type 0 where
  pub procs : List Proc
  pub processes : List NameId
  pub forms : List Form

abbrev pub nodes_of : Source → List Node
nodes_of s = map (λ f. record { place = nowhere; form = f }) s.forms

-- what the table and the file of a source keep
pub record IsMade (s : Source) : Type 0 where
  pub closed : IsClosed (nodes_of s)
  pub kept : Keeps no_header words [] [] [] s.procs (map written s.processes) (nodes_of s) (node (length s.forms - 1))

abbrev pub file_of : (s : Source) → IsMade s → File
file_of s made = record {
  header = no_header;
  names = words;
  texts = [];
  protocols = [];
  services = [];
  procs = s.procs;
  processes = map written s.processes;
  tree = record { nodes = nodes_of s; closed = made.closed };
  body = node (length s.forms - 1);
  kept = made.kept;
}

-- these events are a run of the source after which nothing is left to happen, whatever host functions there are
abbrev pub HasEndedRun : Source → List Event → Type 0
HasEndedRun s h = (made : IsMade s) × ((hosts : Hosts) → IsEndedRun (file_of s made) hosts None h)

-- they are a run after which something is left to happen
abbrev pub HasOpenRun : Source → List Event → Type 0
HasOpenRun s h =
    (made : IsMade s)
    × ((hosts : Hosts) → IsRun (file_of s made) hosts None h × (¬ (IsEndedRun (file_of s made) hosts None h)))

-- they are no run
abbrev pub HasNoRun : Source → List Event → Type 0
HasNoRun s h = (made : IsMade s) (hosts : Hosts) → ¬ (IsRun (file_of s made) hosts None h)
