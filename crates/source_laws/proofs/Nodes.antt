-- Each block stands in some table of nodes, after all nodes that are there.
use Rattle.std.proofs.Common.{◌≡◌, ◌<◌, ◌++◌, List, [], ◌∷◌, length, map, refl, sym, ap, ◌∙◌, subst}
use Rattle.std.specs.Prelude.{All}
use Rattle.std.specs.List.{AllByRecursion}
use Rattle.std.proofs.lemmas.List.Elements.{All-nil, All-cons}
use Rattle.chor_base.specs.declared.rule.Place.{Place}
use Rattle.chor_base.proofs.Tables.{closed_more}
use Rattle.chor_tree.specs.declared.file.Proc.{Proc}
use Rattle.chor_tree.specs.declared.tree.Form.{Form}
use Rattle.chor_tree.specs.declared.tree.Form.TheVariants as form
use Rattle.chor_tree.specs.declared.tree.Node.{Node}
use Rattle.chor_tree.specs.declared.tree.NodeId.{NodeId}
use Rattle.chor_tree.specs.Children.{children_of, IsClosed}
use Rattle.chor_tree.specs.Source.{Statement, Starts, Sends, Selects, Gives, Sets, Asks, Shows, Block, Then, Either, Calls, Ends, Procedure, block_in, block_of, blocks_of, procedure_of}
use Rattle.source_grammar.specs.Growing.{Adds, begins_of}
use Rattle.source_grammar.proofs.Growth.{adds_none, adds_on, adds_node}
use Rattle.source_grammar.proofs.Tables.{block_stays, block_pushed}
use Rattle.chor_base.proofs.TermCopies.{expr_of, same_term}

-- a statement before a node
form_with : Statement → NodeId → Form
form_with (Starts c k active serve) next = form.Start c k active serve next
form_with (Sends a e b x k) next = form.Value a (expr_of e) b x k next
form_with (Selects a b k l) next = form.Label a b k l next
form_with (Gives a b k given) next = form.Give a b k given next
form_with (Sets q x e) next = form.Set q x (expr_of e) next
form_with (Asks q x f a b) next = form.Host q x f (expr_of a) (expr_of b) next
form_with (Shows q e) next = form.Show q (expr_of e) next

children_with : (s : Statement) (next : NodeId) → children_of (form_with s next) ≡ next ∷ []
unfolding form_with
children_with (Starts c k active serve) next = refl
children_with (Sends a e b x k) next = refl
children_with (Selects a b k l) next = refl
children_with (Gives a b k given) next = refl
children_with (Sets q x e) next = refl
children_with (Asks q x f a b) next = refl
children_with (Shows q e) next = refl

block_with : (bs : List Block) (p : Place) (s : Statement) (next : NodeId) → block_of bs p (form_with s next) ≡ Then p s (block_in bs next)
unfolding form_with
block_with bs p (Starts c k active serve) next = refl
block_with bs p (Sends a e b x k) next = λ i. Then p (Sends a (same_term e i) b x k) (block_in bs next)
block_with bs p (Selects a b k l) next = refl
block_with bs p (Gives a b k given) next = refl
block_with bs p (Sets q x e) next = λ i. Then p (Sets q x (same_term e i)) (block_in bs next)
block_with bs p (Asks q x f a b) next = λ i. Then p (Asks q x f (same_term a i) (same_term b i)) (block_in bs next)
block_with bs p (Shows q e) next = λ i. Then p (Shows q (same_term e i)) (block_in bs next)

-- ---- blocks

-- the nodes of a block, after older ones
pub record Laid (old : List Node) (b : Block) : Type 0 where
  pub nodes : List Node
  pub root : NodeId
  pub adds : Adds old nodes (root ∷ [])
  pub closed : IsClosed nodes
  pub is : block_in (blocks_of nodes) root ≡ b

abbrev next_id : List Node → NodeId
next_id nodes = record { 0 = length nodes }

-- a node after those that follow it
pushed : {old nodes : List Node} {b : Block} (n : Node) → Adds old nodes (children_of n.form) → IsClosed nodes → block_of (blocks_of nodes) n.place n.form ≡ b → Laid old b
pushed {nodes = nodes} n adds closed is = record {
  nodes = nodes ++ n ∷ [];
  root = next_id nodes;
  adds = adds_node n adds refl refl;
  closed = closed_more (λ id. id.0) (λ o. children_of o.form) nodes n closed (all_of (children_of n.form) adds.there);
  is = block_pushed nodes (nodes ++ n ∷ []) n (next_id nodes) refl refl ∙ is;
}
  where
    all_of : (ids : List NodeId) → AllByRecursion (λ r. r.0 < length nodes) ids → All (λ c. c.0 < length nodes) ids
    all_of [] h = All-nil (λ c. c.0 < length nodes)
    all_of (id ∷ ids) h = All-cons (λ c. c.0 < length nodes) id ids h.0 (all_of ids h.1)

pub laid : (old : List Node) → IsClosed old → (b : Block) → Laid old b
laid old closed (Then p s next) =
    let l = laid old closed next in
    pushed (record { place = p; form = form_with s l.root })
    (subst (Adds old l.nodes) (sym (children_with s l.root)) l.adds) l.closed
    (block_with (blocks_of l.nodes) p s l.root ∙ ap (Then p s) l.is)
laid old closed (Either p q e first second) =
    let l = laid old closed first in
    let r = laid l.nodes l.closed second in
    let stays = block_stays l.nodes r.nodes l.root (r.adds.added, r.adds.parts) l.adds.there.0 ∙ l.is in
    pushed (record { place = p; form = form.If q (expr_of e) l.root r.root }) (adds_on l.adds r.adds) r.closed
    (λ i. Either p q (same_term e i) (stays i) (r.is i))
laid old closed (Calls p g ps ks) = pushed (record { place = p; form = form.Call g ps ks }) (adds_none old) closed refl
laid old closed (Ends p) = pushed (record { place = p; form = form.End }) (adds_none old) closed refl

-- ---- procedures

-- the nodes of the bodies of procedures, after older ones
pub record LaidAll (old : List Node) (ps : List Procedure) : Type 0 where
  pub nodes : List Node
  pub procs : List Proc
  pub adds : Adds old nodes (begins_of procs)
  pub closed : IsClosed nodes
  pub are : map (procedure_of nodes) procs ≡ ps

pub laid_all : (old : List Node) → IsClosed old → (ps : List Procedure) → LaidAll old ps
laid_all old closed [] = record { nodes = old; procs = []; adds = adds_none old; closed = closed; are = refl }
laid_all old closed (p ∷ ps) =
    let l = laid old closed p.body in
    let r = laid_all l.nodes l.closed ps in
    let body = block_stays l.nodes r.nodes l.root (r.adds.added, r.adds.parts) l.adds.there.0 ∙ l.is in
    let first : procedure_of r.nodes (record { name = p.name; params = p.params; sessions = p.sessions; body = l.root }) ≡ p = λ i. record { name = p.name; params = p.params; sessions = p.sessions; body = body i } in
    record {
      nodes = r.nodes;
      procs = record { name = p.name; params = p.params; sessions = p.sessions; body = l.root } ∷ r.procs;
      adds = adds_on l.adds r.adds;
      closed = r.closed;
      are = λ i. first i ∷ r.are i;
    }
