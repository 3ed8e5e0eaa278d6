-- The network of endpoint programs and its steps: each process runs its own code, and each ordered pair of roles of a
-- session has one queue, first in, first out (this project's own).
use Rattle.std.specs.Prelude.{ℕ, suc, ◌≡◌, ◌==◌, ◌&&◌, Bool, true, false, List, [], ◌∷◌, ◌++◌, length, Option, Some, None, slice_get, slice_set, if◌then◌else◌, nat_lt, ℤ}
use Rattle.std.specs.FinMap as fin
use Rattle.chor_base.specs.declared.names.NameId.{NameId}
use Rattle.chor_base.specs.declared.value.Value.TheVariants.{Int, Bool as Truth, Text, Part as Endpoint}
use Rattle.chor_base.specs.declared.value.Load.{Load}
use Rattle.chor_base.specs.declared.value.Load.TheVariants.{Value as Carries, Label as Picks}
use Rattle.chor_base.specs.declared.event.Event.{Event}
use Rattle.chor_base.specs.declared.event.Event.TheVariants as event
use Rattle.chor_base.specs.Expr.{term_of, value_of, number_of, truth_of}
use Rattle.chor_base.specs.NameMap.{FromNames, Variables}
use Rattle.chor_base.specs.Meaning.{Hosts, meaning_named, MayAnswer}
use Rattle.chor_base.specs.Events.{Triple, triple_eq}
use Rattle.endpoint_code.specs.declared.code.CodeId.{CodeId}
use Rattle.endpoint_code.specs.declared.code.CodeNode.{CodeNode}
use Rattle.endpoint_code.specs.declared.code.CodeNode.TheVariants.{Join, Send, Recv, Pick, Branch, Throw, Catch, Set, Show, Host, If, Call, End}
use Rattle.endpoint_code.specs.declared.endpoints.Channel.{Channel}
use Rattle.endpoint_code.specs.declared.endpoints.Procedure.{Procedure}
use Rattle.endpoint_code.specs.declared.endpoints.ServiceCode.{ServiceCode}
use Rattle.endpoint_code.specs.declared.endpoints.Process.{Process}
use Rattle.endpoint_code.specs.declared.endpoints.Endpoints.{Endpoints}

-- ---- the state

-- what a process's session names stand for: a session, and the role that the process holds in it
abbrev pub Sessions : Type 0
Sessions = FromNames (ℕ × NameId)

-- where a process stands, its variables and its sessions
pub record Machine : Type 0 where
  pub at : CodeId
  pub vars : Variables
  pub sessions : Sessions

-- The state of a network. A process's number is its place among the machines, and the next number is how many there are;
-- a triple's queue is the first that stands for it; sid is the next session's number
pub record NetworkState : Type 0 where
  pub machines : List Machine
  pub queues : List (Triple × List Load)
  pub sid : ℕ

-- the loads of the first queue of a triple, or none
abbrev pub loads_for : List (Triple × List Load) → Triple → List Load
loads_for [] t = []
loads_for (q ∷ qs) t = if triple_eq q.0 t then q.1 else loads_for qs t

-- queues in which that of a triple has these loads
abbrev pub with_loads : List (Triple × List Load) → Triple → List Load → List (Triple × List Load)
with_loads [] t ls = (t, ls) ∷ []
with_loads (q ∷ qs) t ls = if triple_eq q.0 t then (t, ls) ∷ qs else q ∷ with_loads qs t ls

-- the loads in transit on a triple, the first to be received first
abbrev pub queue_of : NetworkState → Triple → List Load
queue_of n t = loads_for n.queues t

-- a process at this node, without variables and sessions
abbrev pub standing : CodeId → Machine
standing at = record { at = at; vars = fin.empty; sessions = fin.empty }

-- each process at its body
abbrev pub standing_all : List Process → List Machine
standing_all [] = []
standing_all (p ∷ ps) = standing p.body ∷ standing_all ps

-- The first state: each process at its body, no variable set, no session, empty queues, sessions numbered from 0
abbrev pub first_state : Endpoints → NetworkState
first_state e = record { machines = standing_all e.processes; queues = []; sid = 0 }

-- ---- where a process stands

-- the node that a process is at, and its sessions there
pub record Place : Type 0 where
  pub node : CodeNode
  pub sessions : Sessions

-- the first procedure of this name for this parameter
abbrev pub procedure_of : List Procedure → NameId → NameId → Option Procedure
procedure_of [] f p = None
procedure_of (q ∷ qs) f p = if (q.name.0 == f.0) && (q.param.0 == p.0) then Some q else procedure_of qs f p

-- one passed session under the name that the procedure has for it
abbrev pub passed_one : Option (ℕ × NameId) → NameId → Sessions → Sessions
passed_one None k rest = rest
passed_one (Some b) k rest = fin.insert rest k.0 b

-- the passed sessions under the procedure's names, and no others
abbrev pub passed : List NameId → List NameId → Sessions → Sessions
passed [] ss m = fin.empty
passed (k ∷ ks) [] m = fin.empty
passed (k ∷ ks) (s ∷ ss) m = passed_one (fin.get m s.0) k (passed ks ss m)

-- the node of a number
abbrev pub node_at : Endpoints → CodeId → Option CodeNode
node_at e id = slice_get e.code.nodes id.0

-- the place at this node, if there is one
abbrev pub at_node : Option CodeNode → Sessions → Option Place
at_node None m = None
at_node (Some n) m = Some (record { node = n; sessions = m })

-- the beginning of a procedure's body, with the sessions that are passed
abbrev pub body_place : Endpoints → Option Procedure → List NameId → Sessions → Option Place
body_place e None ss m = None
body_place e (Some q) ss m = at_node (node_at e q.body) (passed q.sessions ss m)

-- a call stands for its procedure's body with the sessions passed
abbrev pub place_in : Endpoints → Option CodeNode → Sessions → Option Place
place_in e (Some (Call f p ss)) m = body_place e (procedure_of e.procedures f p) ss m
place_in e (Some n) m = Some (record { node = n; sessions = m })
place_in e None m = None

-- where a process is, through a call at most
abbrev pub place_of : Endpoints → Machine → Option Place
place_of e m = place_in e (node_at e m.at) m.sessions

-- ---- what one process makes

-- what a step makes: the event, and the state after it
pub data Made : Type 0 where
  Makes : (e : Event) (n : NetworkState) → Made

-- the state in which a process has gone on
abbrev pub moved : NetworkState → ℕ → CodeId → Variables → Sessions → NetworkState
moved n p at vars sessions = record n { machines = slice_set n.machines p (record { at = at; vars = vars; sessions = sessions }) }

-- the state with these loads in the queue of a triple
abbrev pub with_queue : NetworkState → Triple → List Load → NetworkState
with_queue n t ls = record n { queues = with_loads n.queues t ls }

-- a queue of declared capacity takes no more loads than that
abbrev pub has_room : Option ℕ → List Load → Bool
has_room None q = true
has_room (Some c) q = nat_lt (length q) c

-- the load is put into the queue, where there is room for it
abbrev pub put_if : Bool → NetworkState → ℕ → Triple → Load → Option Made
put_if false n p t l = None
put_if true n p t l = Some (Makes (event.Send p t.0 t.1 t.2 l) (with_queue n t (queue_of n t ++ l ∷ [])))

-- sends a load to role b on the session that a name stands for, once the process has gone on
abbrev pub puts : Option ℕ → NetworkState → ℕ → NameId → Option (ℕ × NameId) → Option Load → Option Made
puts capacity n p b (Some (s, a)) (Some l) = put_if (has_room capacity (queue_of n (s, a, b))) n p (s, a, b) l
puts capacity n p b (Some k) None = None
puts capacity n p b None o = None

-- an endpoint as a load
abbrev pub part_load : Option (ℕ × NameId) → Option Load
part_load None = None
part_load (Some (s, r)) = Some (Carries (Endpoint s r))

-- the arm of a label
abbrev pub arm_at : List (NameId × CodeId) → NameId → Option CodeId
arm_at [] l = None
arm_at (arm ∷ arms) l = if arm.0.0 == l.0 then Some arm.1 else arm_at arms l

-- where a process goes on that takes a load
pub data Taking : Type 0 where
  Goes : (next : CodeId) (vars : Variables) (sessions : Sessions) → Taking

-- a number, a truth value or a text, into a variable
abbrev pub takes_value : CodeId → Variables → Sessions → NameId → Load → Option Taking
takes_value next vars m x (Carries (Int z)) = Some (Goes next (fin.insert vars x.0 (Int z)) m)
takes_value next vars m x (Carries (Truth b)) = Some (Goes next (fin.insert vars x.0 (Truth b)) m)
takes_value next vars m x (Carries (Text t)) = Some (Goes next (fin.insert vars x.0 (Text t)) m)
takes_value next vars m x (Carries (Endpoint s r)) = None
takes_value next vars m x (Picks l) = None

-- the process goes on in this arm, if there is one
abbrev pub in_arm : Option CodeId → Variables → Sessions → Option Taking
in_arm None vars m = None
in_arm (Some next) vars m = Some (Goes next vars m)

-- an offered label
abbrev pub takes_label : List (NameId × CodeId) → Variables → Sessions → Load → Option Taking
takes_label arms vars m (Carries v) = None
takes_label arms vars m (Picks l) = in_arm (arm_at arms l) vars m

-- an endpoint, as a session
abbrev pub takes_part : CodeId → Variables → Sessions → NameId → Load → Option Taking
takes_part next vars m h (Carries (Endpoint s r)) = Some (Goes next vars (fin.insert m h.0 (s, r)))
takes_part next vars m h _ = None

-- the state after the first load was taken, where the process takes such a load
abbrev pub went : NetworkState → ℕ → Triple → Load → List Load → Option Taking → Option Made
went n p t l rest None = None
went n p t l rest (Some (Goes next vars m)) = Some (Makes (event.Recv p t.0 t.1 t.2 l) (with_queue (moved n p next vars m) t rest))

-- takes the first load of a queue
abbrev pub takes_from : NetworkState → ℕ → Triple → (Load → Option Taking) → List Load → Option Made
takes_from n p t f [] = None
takes_from n p t f (l ∷ rest) = went n p t l rest (f l)

-- takes the first load of the queue of a session, if the process has that session
abbrev pub takes : NetworkState → ℕ → NameId → Option (ℕ × NameId) → (Load → Option Taking) → Option Made
takes n p a None f = None
takes n p a (Some (s, b)) f = takes_from n p (s, a, b) f (queue_of n (s, a, b))

-- what process p makes at a node by itself, where v is a host function's answer
abbrev pub node_makes : Option ℕ → NetworkState → ℕ → ℤ → Variables → Sessions → CodeNode → Option Made
node_makes cap n p v vars m (Send k b e next) = puts cap (moved n p next vars m) p b (fin.get m k.0) (Some (Carries (value_of (term_of e) vars)))
node_makes cap n p v vars m (Pick k b l next) = puts cap (moved n p next vars m) p b (fin.get m k.0) (Some (Picks l))
node_makes cap n p v vars m (Throw k b h next) = puts cap (moved n p next vars (fin.remove m h.0)) p b (fin.get m k.0) (part_load (fin.get m h.0))
node_makes cap n p v vars m (Recv k a x next) = takes n p a (fin.get m k.0) (takes_value next vars m x)
node_makes cap n p v vars m (Branch k a arms) = takes n p a (fin.get m k.0) (takes_label arms vars m)
node_makes cap n p v vars m (Catch k a h next) = takes n p a (fin.get m k.0) (takes_part next vars m h)
node_makes cap n p v vars m (Set x e next) =
    let w = value_of (term_of e) vars in Some (Makes (event.Set p x w) (moved n p next (fin.insert vars x.0 w) m))
node_makes cap n p v vars m (Show e next) = Some (Makes (event.Show p (value_of (term_of e) vars)) (moved n p next vars m))
node_makes cap n p v vars m (Host x f a b next) =
    Some (Makes (event.Host p x f (number_of (value_of (term_of a) vars)) (number_of (value_of (term_of b) vars)) v) (moved n p next (fin.insert vars x.0 (Int v)) m))
node_makes cap n p v vars m (If e c d) =
    let b = truth_of (value_of (term_of e) vars) in Some (Makes (event.Test p b) (moved n p (if b then c else d) vars m))
node_makes cap n p v vars m (Join c r k next) = None
node_makes cap n p v vars m (Call f q ss) = None
node_makes cap n p v vars m End = None

-- what a process that is at this place makes by itself
abbrev pub place_makes : Option ℕ → NetworkState → ℕ → ℤ → Variables → Option Place → Option Made
place_makes cap n p v vars None = None
place_makes cap n p v vars (Some q) = node_makes cap n p v vars q.sessions q.node

-- what a process makes by itself, if there is one
abbrev pub machine_makes : Endpoints → Option ℕ → NetworkState → ℕ → ℤ → Option Machine → Option Made
machine_makes e cap n p v None = None
machine_makes e cap n p v (Some m) = place_makes cap n p v m.vars (place_of e m)

-- what process p makes by itself
abbrev pub makes : Endpoints → Option ℕ → NetworkState → ℕ → ℤ → Option Made
makes e cap n p v = machine_makes e cap n p v (slice_get n.machines p)

-- ---- a start

-- the place of a process, if there is such a process
abbrev pub place_at : Endpoints → Option Machine → Option Place
place_at e None = None
place_at e (Some m) = place_of e m

-- the machine of a process after it has joined channel c in role r of session s
abbrev pub node_joins : CodeNode → Variables → Sessions → NameId → NameId → ℕ → Option Machine
node_joins (Join d q k next) vars m c r s =
    if (d.0 == c.0) && (q.0 == r.0) then Some (record { at = next; vars = vars; sessions = fin.insert m k.0 (s, r) }) else None
node_joins _ vars m c r s = None

-- the machine of a process that is at this place after it has joined, if it does join there
abbrev pub place_joins : Option Place → Variables → NameId → NameId → ℕ → Option Machine
place_joins None vars c r s = None
place_joins (Some q) vars c r s = node_joins q.node vars q.sessions c r s

-- the machine of a process after it has joined, if it does join there
abbrev pub joins : Endpoints → Option Machine → NameId → NameId → ℕ → Option Machine
joins e None c r s = None
joins e (Some m) c r s = place_joins (place_of e m) m.vars c r s

-- one joiner before the others, if there are all
abbrev pub one_joiner : ℕ → Option Machine → Option (List (ℕ × Machine)) → Option (List (ℕ × Machine))
one_joiner p (Some m) (Some ms) = Some ((p, m) ∷ ms)
one_joiner p (Some m) None = None
one_joiner p None o = None

-- the machines of all joiners, each read from the state before the start
abbrev pub joiners : Endpoints → NetworkState → NameId → ℕ → List (NameId × ℕ) → Option (List (ℕ × Machine))
joiners e n c s [] = Some []
joiners e n c s (q ∷ qs) = one_joiner q.1 (joins e (slice_get n.machines q.1) c q.0 s) (joiners e n c s qs)

-- these machines in their places
abbrev pub with_machines : List Machine → List (ℕ × Machine) → List Machine
with_machines all [] = all
with_machines all (q ∷ qs) = with_machines (slice_set all q.0 q.1) qs

-- the code of a service role
abbrev pub service_of : List ServiceCode → NameId → NameId → CodeId
service_of [] c r = record { 0 = 0 }
service_of (q ∷ qs) c r = if (q.channel.0 == c.0) && (q.role.0 == r.0) then q.body else service_of qs c r

-- a new process for each service role; there the session has the channel's name
abbrev pub served : Endpoints → NameId → ℕ → List NameId → List Machine
served e c s [] = []
served e c s (r ∷ rs) =
    record { at = service_of e.services c r; vars = fin.empty; sessions = fin.insert fin.empty c.0 (s, r) } ∷ served e c s rs

-- the service roles with the next process numbers, in order
abbrev pub served_parts : List NameId → ℕ → List (NameId × ℕ)
served_parts [] p = []
served_parts (r ∷ rs) p = (r, p) ∷ served_parts rs (suc p)

-- the first channel of a name
abbrev pub channel_of : List Channel → NameId → Option Channel
channel_of [] c = None
channel_of (k ∷ ks) c = if k.name.0 == c.0 then Some k else channel_of ks c

-- the start by these joiners: the event, and the state with the joiners' machines and the new processes
abbrev pub begun : Endpoints → NetworkState → NameId → Channel → List (NameId × ℕ) → Option (List (ℕ × Machine)) → Option Made
begun e n c k ps None = None
begun e n c k ps (Some ms) =
    Some (Makes (event.Start c n.sid (ps ++ served_parts k.serve (length n.machines)))
    (record n { machines = with_machines n.machines ms ++ served e c n.sid k.serve; sid = suc n.sid }))

-- one role with its process before the others
abbrev pub one_pair : NameId → ℕ → Option (List (NameId × ℕ)) → Option (List (NameId × ℕ))
one_pair r p None = None
one_pair r p (Some qs) = Some ((r, p) ∷ qs)

-- each role with its process, if there are as many
abbrev pub paired : List NameId → List ℕ → Option (List (NameId × ℕ))
paired [] [] = Some []
paired (r ∷ rs) (p ∷ ps) = one_pair r p (paired rs ps)
paired [] (p ∷ ps) = None
paired (r ∷ rs) [] = None

-- a start has an active process
abbrev pub starts_with : Endpoints → NetworkState → NameId → Channel → Option (List (NameId × ℕ)) → Option Made
starts_with e n c k None = None
starts_with e n c k (Some []) = None
starts_with e n c k (Some (q ∷ qs)) = begun e n c k (q ∷ qs) (joiners e n c n.sid (q ∷ qs))

-- the start of a session on this channel, if it is declared
abbrev pub channel_starts : Endpoints → NetworkState → NameId → List ℕ → Option Channel → Option Made
channel_starts e n c ps None = None
channel_starts e n c ps (Some k) = starts_with e n c k (paired k.active ps)

-- the start of a session on channel c by these processes, one for each active role in order
abbrev pub starts : Endpoints → NetworkState → NameId → List ℕ → Option Made
starts e n c ps = channel_starts e n c ps (channel_of e.channels c)

-- ---- the step

-- where a process stands at a host call, v is an answer that it may give
abbrev pub PlaceAnswers : Hosts → Variables → Option Place → ℤ → Type 0
PlaceAnswers hosts vars None v = Unit {0}
PlaceAnswers hosts vars (Some q) v = at_head q.node
  where
    at_head : CodeNode → Type 0
    at_head (Host x f a b next) = MayAnswer (meaning_named hosts f) (number_of (value_of (term_of a) vars)) (number_of (value_of (term_of b) vars)) v
    at_head _ = Unit {0}

-- where a process is at a host call, v is an answer that it may give
abbrev pub MachineAnswers : Hosts → Endpoints → Option Machine → ℤ → Type 0
MachineAnswers hosts e None v = Unit {0}
MachineAnswers hosts e (Some m) v = PlaceAnswers hosts m.vars (place_of e m) v

-- One step of a network: a process acts by itself, or processes start a session together
pub data NetworkSteps (e : Endpoints) (hosts : Hosts) (capacity : Option ℕ) : NetworkState → Event → NetworkState → Type 0 where
  acts : {n m : NetworkState} {x : Event} (p : ℕ) (v : ℤ)
      → MachineAnswers hosts e (slice_get n.machines p) v
      → makes e capacity n p v ≡ Some (Makes x m)
      → NetworkSteps e hosts capacity n x m
  begins : {n m : NetworkState} {x : Event} (c : NameId) (ps : List ℕ)
      → starts e n c ps ≡ Some (Makes x m)
      → NetworkSteps e hosts capacity n x m
