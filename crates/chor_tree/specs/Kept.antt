-- What each file keeps (this project's own): its header may be declared, its numbers are in its tables, the lists of which the grammar asks at least one item
-- have one, and no node is reached twice. `n` tells which names are in the table, and `t` which texts.
use Rattle.std.specs.Prelude.{ℕ, ◌≡◌, ◌≤◌, ◌==◌, ◌&&◌, ◌||◌, Bool, true, false, not, List, ◌∷◌, ◌++◌, map, length, nat_lt}
use Rattle.std.specs.List.{flat_map, list_all, count_by}
use Rattle.chor_base.specs.declared.names.NameId.{NameId}
use Rattle.chor_base.specs.declared.value.Value.{Value as Literal}
use Rattle.chor_base.specs.declared.value.Value.TheVariants.{Int, Bool as Truth, Text, Part as Held}
use Rattle.chor_base.specs.Expr.{Term, Constant, Variable, Unary, Binary, term_of}
use Rattle.chor_tree.specs.declared.file.Named.{Named}
use Rattle.chor_tree.specs.declared.file.Service.{Service}
use Rattle.chor_tree.specs.declared.file.ProcParam.{ProcParam}
use Rattle.chor_tree.specs.declared.file.SessionParam.{SessionParam}
use Rattle.chor_tree.specs.declared.file.Proc.{Proc}
use Rattle.chor_tree.specs.declared.protocol.Payload.{Payload}
use Rattle.chor_tree.specs.declared.protocol.Payload.TheVariants.{Plain, Endpoint}
use Rattle.chor_tree.specs.declared.protocol.ProtoArm.{ProtoArm}
use Rattle.chor_tree.specs.declared.protocol.ProtoStep.{ProtoStep}
use Rattle.chor_tree.specs.declared.protocol.ProtoStep.TheVariants.{End as Last, Value as Exchange, Choice}
use Rattle.chor_tree.specs.Protocols.{Protocol, has_items}
use Rattle.chor_tree.specs.declared.tree.NodeId.{NodeId}
use Rattle.chor_tree.specs.declared.tree.Node.{Node}
use Rattle.chor_tree.specs.declared.tree.Part.{Part}
use Rattle.chor_tree.specs.declared.tree.Form.{Form}
use Rattle.chor_tree.specs.declared.tree.Form.TheVariants.{Start, Value, Label, Give, Set, Host, Show, If, Call, End}
use Rattle.chor_tree.specs.Children.{children_of}
use Rattle.chor_tree.specs.declared.header.Header.{Header}
use Rattle.chor_tree.specs.Headers.{header_kept}

-- ---- the names and texts of these are there

abbrev pub named_there : (NameId → Bool) → Named → Bool
named_there n x = n x.name

abbrev pub names_there : (NameId → Bool) → List Named → Bool
names_there n xs = list_all (named_there n) xs

abbrev pub part_there : (NameId → Bool) → Part → Bool
part_there n p = named_there n p.process && named_there n p.role

abbrev pub payload_there : (NameId → Bool) → Payload → Bool
payload_there n (Plain s) = true
payload_there n (Endpoint p s r) = named_there n p && named_there n s && named_there n r

abbrev pub arm_there : (NameId → Bool) → ProtoArm → Bool
arm_there n a = named_there n a.label && named_there n a.next

abbrev pub step_there : (NameId → Bool) → ProtoStep → Bool
step_there n Last = true
step_there n (Exchange a b p next) = named_there n a && named_there n b && payload_there n p && named_there n next
step_there n (Choice a b arms) = named_there n a && named_there n b && list_all (arm_there n) arms

abbrev pub protocol_there : (NameId → Bool) → Protocol → Bool
protocol_there n p = named_there n p.name && names_there n p.roles && list_all (λ s. named_there n s.name && step_there n s.step) p.states

abbrev pub service_there : (NameId → Bool) → Service → Bool
service_there n s = named_there n s.name && named_there n s.protocol && names_there n s.active && names_there n s.serve

abbrev pub process_param_there : (NameId → Bool) → ProcParam → Bool
process_param_there n p = named_there n p.name && list_all (λ v. named_there n v.0) p.vars

abbrev pub session_param_there : (NameId → Bool) → SessionParam → Bool
session_param_there n k =
    named_there n k.name && named_there n k.protocol && named_there n k.state && list_all (λ h. named_there n h.0 && named_there n h.1) k.holders

abbrev pub proc_there : (NameId → Bool) → Proc → Bool
proc_there n p = named_there n p.name && list_all (process_param_there n) p.params && list_all (session_param_there n) p.sessions

-- no endpoint stands as a literal
abbrev pub value_there : (NameId → Bool) → (ℕ → Bool) → Literal → Bool
value_there n t (Int z) = true
value_there n t (Truth b) = true
value_there n t (Text x) = t x
value_there n t (Held s r) = false

abbrev pub term_there : (NameId → Bool) → (ℕ → Bool) → Term → Bool
term_there n t (Constant v) = value_there n t v
term_there n t (Variable x) = n x
term_there n t (Unary o e) = term_there n t e
term_there n t (Binary o e f) = term_there n t e && term_there n t f

abbrev pub form_there : (NameId → Bool) → (ℕ → Bool) → Form → Bool
form_there n t (Start c k active serve next) = named_there n c && named_there n k && list_all (part_there n) active && list_all (part_there n) serve
form_there n t (Value a e b x k next) = part_there n a && term_there n t (term_of e) && part_there n b && n x && named_there n k
form_there n t (Label a b k l next) = part_there n a && part_there n b && named_there n k && n l
form_there n t (Give a b k given next) = part_there n a && part_there n b && named_there n k && part_there n given
form_there n t (Set p x e next) = named_there n p && n x && term_there n t (term_of e)
form_there n t (Host p x f a b next) = named_there n p && n x && named_there n f && term_there n t (term_of a) && term_there n t (term_of b)
form_there n t (Show p e next) = named_there n p && term_there n t (term_of e)
form_there n t (If p e first second) = named_there n p && term_there n t (term_of e)
form_there n t (Call g ps ks) = named_there n g && names_there n ps && names_there n ks
form_there n t End = true

-- ---- the lists that have at least one item

-- items of the second list stand only after some of the first
abbrev pub comes_after_items : {A B : Type 0} → List A → List B → Bool
comes_after_items xs ys = has_items xs || not (has_items ys)

abbrev pub proc_filled : Proc → Bool
proc_filled p = comes_after_items p.params p.sessions && list_all (λ k. has_items k.holders) p.sessions

abbrev pub form_filled : Form → Bool
form_filled (Start c k active serve next) = has_items active
form_filled (Call g ps ks) = comes_after_items ps ks
form_filled _ = true

-- ---- nodes

-- the nodes that follow others
abbrev pub followers_in : List Node → List NodeId
followers_in nodes = flat_map (λ o. children_of o.form) nodes

-- how often a node is among these
abbrev pub times : NodeId → List NodeId → ℕ
times id ids = count_by (λ c. c.0 == id.0) ids

-- ---- a file

-- what a file holds
pub record Contents : Type 0 where
  pub header : Header
  pub names : List (List ℕ)
  pub texts : List (List ℕ)
  pub protocols : List Protocol
  pub services : List Service
  pub procs : List Proc
  pub processes : List Named
  pub nodes : List Node
  pub body : NodeId

abbrev pub has_name : List (List ℕ) → NameId → Bool
has_name names x = nat_lt x.0 (length names)

abbrev pub has_text : List (List ℕ) → ℕ → Bool
has_text texts x = nat_lt x (length texts)

-- each number of a name or a text is in its table
abbrev pub is_numbered : Contents → Bool
is_numbered f =
    list_all (protocol_there (has_name f.names)) f.protocols && list_all (service_there (has_name f.names)) f.services
    && list_all (proc_there (has_name f.names)) f.procs && names_there (has_name f.names) f.processes
    && list_all (λ o. form_there (has_name f.names) (has_text f.texts) o.form) f.nodes

-- no list is empty of which the grammar asks one item; a protocol keeps this by itself
abbrev pub is_filled : Contents → Bool
is_filled f =
    list_all (λ s. has_items s.active) f.services && list_all proc_filled f.procs
    && list_all (λ o. form_filled o.form) f.nodes

-- where bodies begin
abbrev pub bodies_of : Contents → List NodeId
bodies_of f = f.body ∷ map (λ p. p.body) f.procs

-- What a file keeps; that what follows a node is in the table is kept by its tree
pub record IsKept (f : Contents) : Type 0 where
  -- the version is 1 or 2, and a capacity of version 2 is from 1 to 1000000
  pub header : header_kept f.header ≡ true
  pub numbered : is_numbered f ≡ true
  pub filled : is_filled f ≡ true
  -- bodies begin in the table
  pub begin : list_all (λ b. nat_lt b.0 (length f.nodes)) (bodies_of f) ≡ true
  -- a node begins one body or follows one other node, and no more
  pub once : (id : NodeId) → times id (bodies_of f ++ followers_in f.nodes) ≤ 1

abbrev pub Keeps : Header → (names texts : List (List ℕ)) → List Protocol → List Service → List Proc → List Named → List Node → NodeId → Type 0
Keeps header names texts protocols services procs processes nodes body =
    IsKept (record { header = header; names = names; texts = texts; protocols = protocols; services = services; procs = procs; processes = processes; nodes = nodes; body = body })
