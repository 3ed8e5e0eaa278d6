-- The trees of a file are trees of sources.
use Rattle.std.proofs.Common.{◌≡◌, ℕ, zero, suc, Bool, true, false, List, [], ◌∷◌, ◌++◌, Some, refl, subst, if◌then◌else◌, ◌==◌}
use Rattle.std.specs.Prelude.{map, slice_index_or}
use Rattle.node_table.proofs.Tables.{trees_all}
use Rattle.chor_tree.specs.declared.file.File.{File}
use Rattle.chor_tree.specs.declared.file.Named.{Named as Written}
use Rattle.chor_tree.specs.declared.file.Proc.{Proc}
use Rattle.chor_tree.specs.declared.tree.Part.{Part}
use Rattle.chor_tree.specs.declared.tree.NodeId.{NodeId}
use Rattle.chor_tree.specs.declared.tree.Node.{Node as TreeNode}
use Rattle.chor_tree.specs.declared.tree.Form.{Form}
use Rattle.chor_tree.specs.declared.tree.Form.TheVariants.{Start, Value, Label, Give, Set, Host, Show, If, Call, End}
use Rattle.chor_semantics.specs.Choreography.{Choreography, Ends}
use Rattle.chor_semantics.specs.Sources.{name_ref, parts_of, tree_in, form_tree, node_tree, trees_of, procedure_from, procedures_of}
use Rattle.chor_semantics.specs.Steps.{procedure_named}
use Rattle.well_formed.specs.SourceTrees.{AreNames, AreParts, IsSource, AllSources}

-- a source stands at each number
abbrev Every : List Choreography → Type 0
Every ts = (i : ℕ) → IsSource (slice_index_or ts i Ends)

names : (xs : List Written) → AreNames (map name_ref xs)
names [] = tt
names (x ∷ xs) = (refl, names xs)

parts : (ps : List Part) → AreParts (parts_of ps)
parts [] = tt
parts (p ∷ ps) = (refl, parts ps)

form_source : (ts : List Choreography) (f : Form) → Every ts → IsSource (form_tree ts f)
form_source ts (Start c k active serve next) h = ((refl, parts active), h next.0)
form_source ts (Value from e to x k next) h = ((refl, refl, refl, tt), h next.0)
form_source ts (Label from to k l next) h = ((refl, refl, refl, tt), h next.0)
form_source ts (Give from to k given next) h = ((refl, refl, refl, refl), h next.0)
form_source ts (Set p x e next) h = (refl, h next.0)
form_source ts (Host p x f a b next) h = (refl, h next.0)
form_source ts (Show p e next) h = (refl, h next.0)
form_source ts (If p e first second) h = (refl, h first.0, h second.0)
form_source ts (Call f ps ss) h = (names ps, names ss)
form_source ts End h = tt

pub body_source : (f : File) (id : NodeId) → IsSource (tree_in (trees_of f.tree.nodes) id)
body_source f id =
    trees_all node_tree Ends (λ n. Unit {0}) IsSource tt (λ ts h n c. form_source ts n.form h) f.tree.nodes (λ i d lt. tt) id.0

pub all_sources : (f : File) → AllSources (procedures_of f)
all_sources f g p h = go f.procs h
  where
    go : (ps : List Proc) → procedure_named (map (procedure_from f.tree.nodes) ps) g ≡ Some p → IsSource p.body
    go [] i = absurd cc
    go (q ∷ qs) i = at (q.name.name.0 == g.0) i (go qs)
      where
        at : (b : Bool) → (if b then Some (procedure_from f.tree.nodes q) else procedure_named (map (procedure_from f.tree.nodes) qs) g) ≡ Some p → (procedure_named (map (procedure_from f.tree.nodes) qs) g ≡ Some p → IsSource p.body) → IsSource p.body
        at true j ih = let e : procedure_from f.tree.nodes q ≡ p = cc in subst (λ y. IsSource y.body) e (body_source f q.body)
        at false j ih = ih j
