-- Endpoint programs are made of whatever is written.
use Rattle.std.proofs.Common.{◌≡◌, ◌<◌, ℕ, zero, suc, Bool, true, List, [], ◌∷◌, ◌++◌, length, map, Some, refl, sym, ap, ◌∙◌, subst}
use Rattle.std.specs.Prelude.{All, slice_get}
use Rattle.std.proofs.lemmas.List.{map-append}
use Rattle.std.proofs.lemmas.List.Elements.{All-nil, All-cons, All-head, All-tail, All-map}
use Rattle.node_table.proofs.Tables.{trees_alike, trees_map}
use Rattle.chor_base.specs.declared.names.NameId.{NameId}
use Rattle.endpoint_reader.specs.declared.node.Action.{Action}
use Rattle.endpoint_reader.specs.declared.node.Action.TheVariants as deed
use Rattle.endpoint_reader.specs.declared.lines.Line.{Line}
use Rattle.endpoint_reader.specs.declared.lines.Line.TheVariants as line
use Rattle.endpoint_reader.specs.declared.written.Written.{Written}
use Rattle.endpoint_reader.specs.Lines.{nexts_of, IsClosed as IsClosedTable}
use Rattle.endpoint_code.specs.declared.code.CodeId.{CodeId}
use Rattle.endpoint_code.specs.declared.code.CodeNode.{CodeNode}
use Rattle.endpoint_code.specs.declared.code.CodeNode.TheVariants.{Join, Send, Recv, Pick, Branch, Throw, Catch, Set, Show, Host, If, Call, End}
use Rattle.endpoint_code.specs.declared.endpoints.Endpoints.{Endpoints}
use Rattle.endpoint_code.specs.Code.{children_of, IsClosed}
use Rattle.endpoint_code.specs.Kept.{has_name, has_text, node_there}
use Rattle.endpoint_code.specs.Trees as tree
use Rattle.endpoint_names.specs.Bodies.{Body, line_body, bodies_of}
use Rattle.endpoint_names.specs.Faults.{names_in}
use Rattle.endpoint_making.specs.Codes.{code_id, action_of, code_of, pairs_of, action_there, line_there}
use Rattle.endpoint_making.specs.Making.{channel_made, procedure_made, service_made, process_made, AreNumbered, IsMadeOf}
use Rattle.endpoint_making.proofs.Codes.{code_in, arms_in_codes, arms_after}
use Rattle.endpoint_making.proofs.Kept.{whole_inside, whole_numbered}

-- ---- the node of a line

action_node : Action → CodeId → CodeNode
action_node (deed.Join c r k) next = Join c.name r.name k.name next
action_node (deed.Send k b e) next = Send k.name b.name e next
action_node (deed.Recv k a x) next = Recv k.name a.name x.name next
action_node (deed.Pick k b l) next = Pick k.name b.name l.name next
action_node (deed.Give k b h) next = Throw k.name b.name h.name next
action_node (deed.Gain k a h) next = Catch k.name a.name h.name next
action_node (deed.Set x e) next = Set x.name e next
action_node (deed.Show e) next = Show e next
action_node (deed.Host x f a b) next = Host x.name f.name a b next

action_tree : (ts : List tree.CodeTree) (a : Action) (next : CodeId) → tree.node_tree ts (action_node a next) ≡ tree.Does (action_of a) (tree.tree_in ts next)
unfolding action_node
action_tree ts (deed.Join c r k) next = refl
action_tree ts (deed.Send k b e) next = refl
action_tree ts (deed.Recv k a x) next = refl
action_tree ts (deed.Pick k b l) next = refl
action_tree ts (deed.Give k b h) next = refl
action_tree ts (deed.Gain k a h) next = refl
action_tree ts (deed.Set x e) next = refl
action_tree ts (deed.Show e) next = refl
action_tree ts (deed.Host x f a b) next = refl

action_next : (a : Action) (next : CodeId) → children_of (action_node a next) ≡ next ∷ []
unfolding action_node
action_next (deed.Join c r k) next = refl
action_next (deed.Send k b e) next = refl
action_next (deed.Recv k a x) next = refl
action_next (deed.Pick k b l) next = refl
action_next (deed.Give k b h) next = refl
action_next (deed.Gain k a h) next = refl
action_next (deed.Set x e) next = refl
action_next (deed.Show e) next = refl
action_next (deed.Host x f a b) next = refl

action_node_there : (n : NameId → Bool) (t : ℕ → Bool) (a : Action) (next : CodeId) → node_there n t (action_node a next) ≡ action_there n t a
unfolding action_node
action_node_there n t (deed.Join c r k) next = refl
action_node_there n t (deed.Send k b e) next = refl
action_node_there n t (deed.Recv k a x) next = refl
action_node_there n t (deed.Pick k b l) next = refl
action_node_there n t (deed.Give k b h) next = refl
action_node_there n t (deed.Gain k a h) next = refl
action_node_there n t (deed.Set x e) next = refl
action_node_there n t (deed.Show e) next = refl
action_node_there n t (deed.Host x f a b) next = refl

abbrev node : Line → CodeNode
node (line.Act a next) = action_node a (code_id next)
node (line.Branch k a arms) = Branch k.name a.name (pairs_of arms)
node (line.If e first second) = If e (code_id first) (code_id second)
node (line.Call p s) = Call s.name.name s.param.name (names_in s.sessions)
node line.End = End

line_tree : (bs : List Body) (l : Line) → tree.node_tree (map code_of bs) (node l) ≡ code_of (line_body bs l)
line_tree bs (line.Act a next) = action_tree (map code_of bs) a (code_id next) ∙ ap (tree.Does (action_of a)) (code_in bs next)
line_tree bs (line.Branch k a arms) = ap (tree.Offers k.name a.name) (arms_in_codes bs arms)
line_tree bs (line.If e first second) = let x = code_in bs first in let y = code_in bs second in cc
line_tree bs (line.Call p s) = refl
line_tree bs line.End = refl

line_next : (l : Line) → children_of (node l) ≡ map code_id (nexts_of l)
line_next (line.Act a next) = action_next a (code_id next)
line_next (line.Branch k a arms) = arms_after arms
line_next (line.If e first second) = refl
line_next (line.Call p s) = refl
line_next line.End = refl

node_is_there : (n : NameId → Bool) (t : ℕ → Bool) (l : Line) → node_there n t (node l) ≡ line_there n t l
node_is_there n t (line.Act a next) = action_node_there n t a (code_id next)
node_is_there n t (line.Branch k a arms) = refl
node_is_there n t (line.If e first second) = refl
node_is_there n t (line.Call p s) = refl
node_is_there n t line.End = refl

-- ---- tables

all_trees : (ls : List Line) → tree.trees_of (map node ls) ≡ map code_of (bodies_of ls)
all_trees ls = trees_map tree.node_tree node ls ∙ trees_alike line_body (λ ts l. tree.node_tree ts (node l)) code_of line_tree ls

count_map : {X Y : Type 0} (f : X → Y) (xs : List X) → length (map f xs) ≡ length xs
count_map f [] = refl
count_map f (x ∷ xs) = ap (λ n. suc n) (count_map f xs)

-- the line of a node
line_of : (ls : List Line) (k : ℕ) (n : CodeNode) → slice_get (map node ls) k ≡ Some n → (l : Line) × (slice_get ls k ≡ Some l) × (node l ≡ n)
line_of [] k n h = absurd cc
line_of (l ∷ ls) zero n h = (l, refl, cc)
line_of (l ∷ ls) (suc k) n h = line_of ls k n h

closed_nodes : (ls : List Line) → IsClosedTable ls → IsClosed (map node ls)
closed_nodes ls closed k n h =
    let l = line_of ls k n h in
    let below : All (λ c. c.0 < k) (map code_id (nexts_of l.0)) = All-map (λ c. c.0 < k) code_id (nexts_of l.0) (closed k l.0 l.1) in
    subst (λ (m : CodeNode). All (λ c. c.0 < k) (children_of m)) l.2 (subst (λ cs. All (λ c. c.0 < k) cs) (sym (line_next l.0)) below)

nodes_there : (n : NameId → Bool) (t : ℕ → Bool) (ls : List Line) → All (λ l. line_there n t l ≡ true) ls → All (λ o. node_there n t o ≡ true) (map node ls)
nodes_there n t [] h = All-nil (λ o. node_there n t o ≡ true)
nodes_there n t (l ∷ ls) h =
    All-cons (λ o. node_there n t o ≡ true) (node l) (map node ls) (node_is_there n t l ∙ All-head (λ m. line_there n t m ≡ true) l ls h)
    (nodes_there n t ls (All-tail (λ m. line_there n t m ≡ true) l ls h))

-- ---- programs

pub made : (w : Written) (names texts : List (List ℕ)) → AreNumbered names texts w → (e : Endpoints) × IsMadeOf w names texts e
made w names texts numbered =
    let ls = w.lines.items in
    let nodes = map node ls in
    let cs = map channel_made w.channels in
    let ps = map procedure_made w.procedures in
    let ss = map service_made w.services in
    let qs = map process_made w.processes in
    let there = nodes_there (has_name names) (has_text texts) ls numbered.lines in
    let e : Endpoints = record {
      names = names;
      texts = texts;
      channels = cs;
      procedures = ps;
      services = ss;
      processes = qs;
      code = record { nodes = nodes; closed = closed_nodes ls w.lines.closed };
      inside = whole_inside w nodes cs ps ss qs refl refl refl refl (count_map node ls);
      numbered = whole_numbered w nodes cs ps ss qs refl refl refl refl names texts numbered there;
    } in
    (e, record { names_are = refl; texts_are = refl; channels = refl; procedures = refl; services = refl; processes = refl; code = all_trees ls })
