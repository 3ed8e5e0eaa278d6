-- Events that no host function has a part in.
use Rattle.std.proofs.Common.{◌≡◌, ℤ, pos, Option, Some, None}
use Rattle.chor_base.specs.declared.event.Event.{Event}
use Rattle.chor_base.specs.Meaning.{Hosts}
use Rattle.chor_base.specs.NameMap.{Variables}
use Rattle.endpoint_code.specs.declared.code.CodeNode.{CodeNode}
use Rattle.endpoint_code.specs.declared.code.CodeNode.TheVariants.{Join, Send, Recv, Pick, Branch, Throw, Catch, Set, Show, Host, If, Call, End}
use Rattle.endpoint_code.specs.declared.endpoints.Endpoints.{Endpoints}
use Rattle.endpoint_code.specs.Network.{Machine, Sessions, Place, place_of, PlaceAnswers, MachineAnswers}
use Rattle.endpoint_machine.specs.declared.head.Head.{Head}
use Rattle.endpoint_machine.specs.declared.head.Head.TheVariants as head
use Rattle.endpoint_machine.specs.Acts.{NodeAnswers}
use Rattle.endpoint_machine.specs.Heads.{node_head, place_head, head_of}
use Rattle.endpoint_machine.specs.Views.{MachineView}
use Rattle.endpoint_machine.proofs.Actings.{answers_alike}
use Rattle.post_office.specs.Lanes.{QueuesView}
use Rattle.net_core.specs.Machines.{MovesWith, ActsWith}

free_node : (hosts : Hosts) (vars : Variables) (m : Sessions) (node : CodeNode) (h : Head) (v : ℤ) → node_head m node ≡ Some h → (head.Local ≡ h → ⊥) → NodeAnswers hosts vars node v
free_node hosts vars m (Join c r k next) h v i j = tt
free_node hosts vars m (Send k b x next) h v i j = tt
free_node hosts vars m (Recv k a x next) h v i j = tt
free_node hosts vars m (Pick k b l next) h v i j = tt
free_node hosts vars m (Branch k a arms) h v i j = tt
free_node hosts vars m (Throw k b g next) h v i j = tt
free_node hosts vars m (Catch k a g next) h v i j = tt
free_node hosts vars m (Set x w next) h v i j = tt
free_node hosts vars m (Show w next) h v i j = tt
free_node hosts vars m (Host x f u w next) h v i j = absurd (j cc)
free_node hosts vars m (If w c d) h v i j = tt
free_node hosts vars m (Call f o ns) h v i j = tt
free_node hosts vars m End h v i j = tt

-- a process that doesn't act by itself gets any answer
pub free_answers : (e : Endpoints) (hosts : Hosts) (m : Machine) (h : Head) (v : ℤ) → head_of e m ≡ Some h → (head.Local ≡ h → ⊥) → MachineAnswers hosts e (Some m) v
free_answers e hosts m h v is other = go (place_of e m) is
  where
    go : (o : Option Place) → place_head o ≡ Some h → PlaceAnswers hosts m.vars o v
    go None i = absurd cc
    go (Some q) i = (answers_alike hosts m.vars q.sessions q.node v).0 (free_node hosts m.vars q.sessions q.node h v i other)

-- a process moves with any answer: it acts with one
pub acts_moving : (e : Endpoints) (hosts : Hosts) (q r : QueuesView) (m k : MachineView) (x : Event) (h : Head) → head_of e m.machine ≡ Some h → (head.Local ≡ h → ⊥) → ((v : ℤ) → MovesWith e v q m x r k) → ActsWith e hosts q m x r k
acts_moving e hosts q r m k x h is other moves = record { answer = pos 0; allowed = free_answers e hosts m.machine h (pos 0) is other; moves = moves (pos 0) }
