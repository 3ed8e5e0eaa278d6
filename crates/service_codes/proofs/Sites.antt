-- No branches clash after a node, where none clash in the file.
use Rattle.std.proofs.Common.{◌≡◌, zero, suc, List, [], ◌∷◌, ◌++◌, map, refl, sym, ap, subst, arith}
use Rattle.std.specs.Prelude.{Contains, All}
use Rattle.std.specs.List.{flat_map}
use Rattle.std.proofs.lemmas.List.Elements.{All-nil, All-cons, All-head, All-tail, All-contains}
use Rattle.chor_base.specs.declared.names.NameId.{NameId}
use Rattle.chor_base.specs.declared.rule.Place.{Place}
use Rattle.chor_tree.specs.declared.file.File.{File}
use Rattle.chor_tree.specs.declared.file.Proc.{Proc}
use Rattle.chor_tree.specs.declared.tree.NodeId.{NodeId}
use Rattle.chor_tree.specs.declared.tree.Node.{Node as TreeNode}
use Rattle.chor_tree.specs.declared.tree.Form.{Form}
use Rattle.chor_tree.specs.declared.tree.Form.TheVariants.{Start, Value, Label, Give, Set, Host, Show, If, Call, End}
use Rattle.chor_tree.specs.Children.{children_of}
use Rattle.chor_tree.specs.Names.{Scope, scope_of_main, scope_of_procedure, scope_after}
use Rattle.chor_tree.specs.Source.{Block, Procedure, procedure_of, body_of, block_of, blocks_of, source_of}
use Rattle.chor_tree.proofs.Blocks.{block_at}
use Rattle.projection.specs.MergeFaults.{Site, sites_in, sites_of}
use Rattle.service_codes.specs.Starts.{Stands, main_begins, procedure_begins, follows}

end_nil : {X : Type 0} (xs : List X) → xs ++ [] ≡ xs
end_nil [] = refl
end_nil (x ∷ xs) = ap (λ ys. x ∷ ys) (end_nil xs)

front_names : (Q : NameId → Type 0) (xs ys : List NameId) → All Q (xs ++ ys) → All Q xs
front_names Q [] ys h = All-nil Q
front_names Q (x ∷ xs) ys h = All-cons Q x xs (All-head Q x (xs ++ ys) h) (front_names Q xs ys (All-tail Q x (xs ++ ys) h))

pub back_names : (Q : NameId → Type 0) (xs ys : List NameId) → All Q (xs ++ ys) → All Q ys
back_names Q [] ys h = h
back_names Q (x ∷ xs) ys h = back_names Q xs ys (All-tail Q x (xs ++ ys) h)

module _ (P : Site → Type 0) where
  front : (xs ys : List Site) → All P (xs ++ ys) → All P xs
  front [] ys h = All-nil P
  front (x ∷ xs) ys h = All-cons P x xs (All-head P x (xs ++ ys) h) (front xs ys (All-tail P x (xs ++ ys) h))

  back : (xs ys : List Site) → All P (xs ++ ys) → All P ys
  back [] ys h = h
  back (x ∷ xs) ys h = back xs ys (All-tail P x (xs ++ ys) h)

  -- ---- in the bodies

  in_procedures : (g : Procedure → List Site) (nodes : List TreeNode) (hs : List Proc) (p : Proc) → Contains hs p → All P (flat_map g (map (procedure_of nodes) hs)) → All P (g (procedure_of nodes p))
  in_procedures g nodes [] p (i, l, e) h = absurd (omega (arith, l))
  in_procedures g nodes (x ∷ xs) p (zero, l, e) h =
      subst (λ (y : Proc). All P (g (procedure_of nodes y))) e (front (g (procedure_of nodes x)) (flat_map g (map (procedure_of nodes) xs)) h)
  in_procedures g nodes (x ∷ xs) p (suc i, l, e) h = in_procedures g nodes xs p (i, omega (arith, l), e) (back (g (procedure_of nodes x)) (flat_map g (map (procedure_of nodes) xs)) h)

  one_child : (Q : NodeId → Type 0) (c next : NodeId) → Contains (next ∷ []) c → Q next → Q c
  one_child Q c next m h = All-contains Q (next ∷ []) c (All-cons Q next [] h (All-nil Q)) m

  module _ (f : File) where
    abbrev after_form : Scope → Form → NodeId → Type 0
    after_form s g c = All P (sites_in (scope_after s g).processes (body_of f c))

    child_sites : (s : Scope) (place : Place) (g : Form) (c : NodeId) → Contains (children_of g) c → All P (sites_in s.processes (block_of (blocks_of f.tree.nodes) place g)) → after_form s g c
    child_sites s place (Start ch k active serve next) c m h = one_child (after_form s (Start ch k active serve next)) c next m h
    child_sites s place (Value from e to x k next) c m h = one_child (after_form s (Value from e to x k next)) c next m (subst (λ (l : List NameId). All P (sites_in l (body_of f next))) (end_nil s.processes) h)
    child_sites s place (Label from to k l next) c m h = one_child (after_form s (Label from to k l next)) c next m (subst (λ (l : List NameId). All P (sites_in l (body_of f next))) (end_nil s.processes) h)
    child_sites s place (Give from to k given next) c m h = one_child (after_form s (Give from to k given next)) c next m (subst (λ (l : List NameId). All P (sites_in l (body_of f next))) (end_nil s.processes) h)
    child_sites s place (Set p x e next) c m h = one_child (after_form s (Set p x e next)) c next m (subst (λ (l : List NameId). All P (sites_in l (body_of f next))) (end_nil s.processes) h)
    child_sites s place (Host p x g left right next) c m h = one_child (after_form s (Host p x g left right next)) c next m (subst (λ (l : List NameId). All P (sites_in l (body_of f next))) (end_nil s.processes) h)
    child_sites s place (Show p e next) c m h = one_child (after_form s (Show p e next)) c next m (subst (λ (l : List NameId). All P (sites_in l (body_of f next))) (end_nil s.processes) h)
    child_sites s place (If p e first second) c m h =
        let one = sites_in s.processes (body_of f first) in
        let two = sites_in s.processes (body_of f second) in
        let both = front (one ++ two) _ h in
        let Q = after_form s (If p e first second) in
        All-contains Q (first ∷ second ∷ []) c (All-cons Q first (second ∷ []) (front one two both) (All-cons Q second [] (back one two both) (All-nil Q))) m
    child_sites s place (Call g ps ks) c (i, l, e) h = absurd (omega (arith, l))
    child_sites s place End c (i, l, e) h = absurd (omega (arith, l))

    -- the sites from a node on, with all that is in scope there, are sites of the file
    pub sites_from : All P (sites_of f) → (s : Scope) (id : NodeId) → Stands f s id → All P (sites_in s.processes (body_of f id))
    sites_from h s id (main_begins e i) =
        subst (λ (t : Scope). All P (sites_in t.processes (body_of f id))) (sym e)
        (subst (λ (j : NodeId). All P (sites_in (scope_of_main f).processes (body_of f j))) (sym i) (back (flat_map of_procedure (source_of f).items.procedures) _ h))
      where
        of_procedure : Procedure → List Site
        of_procedure p = sites_in (map (λ q. q.name.name) p.params) p.body
    sites_from h s id (procedure_begins {p = p} m e i) =
        subst (λ (t : Scope). All P (sites_in t.processes (body_of f id))) (sym e)
        (subst (λ (j : NodeId). All P (sites_in (scope_of_procedure p).processes (body_of f j))) (sym i)
        (in_procedures of_procedure f.tree.nodes f.procs p m (front (flat_map of_procedure (source_of f).items.procedures) _ h)))
      where
        of_procedure : Procedure → List Site
        of_procedure p = sites_in (map (λ q. q.name.name) p.params) p.body
    sites_from h s id (follows {t = t} {before = before} {n = n} g at m e) =
        subst (λ (u : Scope). All P (sites_in u.processes (body_of f id))) (sym e)
        (child_sites t n.place n.form id m
        (subst (λ (b : Block). All P (sites_in t.processes b)) (block_at f.tree.nodes before n f.tree.closed at) (sites_from h t before g)))
