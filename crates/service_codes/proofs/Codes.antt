-- The code of a service role after one start, and after all.
use Rattle.std.proofs.Common.{◌≡◌, ℕ, ◌+◌, ◌<◌, ◌≤◌, ◌==◌, ◌||◌, ◌&&◌, Bool, true, false, List, [], ◌∷◌, ◌++◌, length, take, get_or, map, refl, sym, ap, ◌∙◌, subst, Some, None, arith, if◌then◌else◌}
use Rattle.std.specs.Prelude.{Contains, All, slice_get, not}
use Rattle.std.specs.List.{AllZip}
use Rattle.std.proofs.lemmas.Bool.{and_parts, eqb-true}
use Rattle.std.proofs.lemmas.List.{take_all}
use Rattle.std.proofs.lemmas.List.Elements.{All-nil, All-cons, All-head, All-tail}
use Rattle.chor_base.specs.declared.names.NameId.{NameId}
use Rattle.chor_base.specs.declared.rule.Rule.TheVariants.{N3}
use Rattle.chor_base.specs.declared.rule.Place.{Place}
use Rattle.chor_tree.specs.declared.file.File.{File}
use Rattle.chor_tree.specs.declared.file.Named.{Named as Written}
use Rattle.chor_tree.specs.declared.file.Service.{Service}
use Rattle.chor_tree.specs.declared.tree.Part.{Part}
use Rattle.chor_tree.specs.declared.tree.NodeId.{NodeId}
use Rattle.chor_tree.specs.declared.tree.Node.{Node as TreeNode}
use Rattle.chor_tree.specs.declared.tree.Form.{Form}
use Rattle.chor_tree.specs.declared.tree.Form.TheVariants.{Start}
use Rattle.chor_base.proofs.Members.{at_head}
use Rattle.chor_tree.specs.Children.{children_of}
use Rattle.chor_tree.specs.Names.{names_in, is_among, are_same, channels_of, channel_of, wrong_parts, node_faults, scope_after}
use Rattle.chor_tree.specs.Source.{body_of}
use Rattle.chor_semantics.specs.Choreography.{Choreography}
use Rattle.chor_semantics.specs.Sources.{served_of, form_tree, trees_of}
use Rattle.endpoint_code.specs.declared.code.CodeId.{CodeId}
use Rattle.endpoint_code.specs.declared.code.CodeNode.{CodeNode}
use Rattle.endpoint_code.specs.Trees.{code_at}
use Rattle.endpoint_code.specs.Labels.{HasDistinctLabels}
use Rattle.endpoint_code.specs.LeastAbove.{IsLeastAbove, HasNoneAbove}
use Rattle.branch_merge.specs.Merged.{Keeps}
use Rattle.branch_merge.proofs.ArmTables.{keeps_both, code_kept, kept_length}
use Rattle.service_merge.specs.Merged.{codes_at, IsMergedOfAll}
use Rattle.chor_semantics.proofs.Blocks.{block_choreography}
use Rattle.projection.specs.Codes.{IsCodeOf}
use Rattle.projection.specs.Projects.{Started, starts_of, serving, body_at, IsStartCode}
use Rattle.projection.specs.MergeFaults.{sites_of, HasClash}
use Rattle.projection.proofs.TreeTables.{tree_at-node}
use Rattle.projection.proofs.OneCode.{code_distinct}
use Rattle.projection.proofs.Exchanged.{start_code}
use Rattle.renamed_codes.specs.Renames.{IsRenamed}
use Rattle.block_codes.specs.Walks.{IsFirstClash}
use Rattle.block_codes.proofs.Zips.{zip_weaker, zip_step}
use Rattle.projection.specs.MergeFaults.{Site, IsFirstOf, here, later}
use Rattle.service_codes.specs.declared.served.Served.{Served}
use Rattle.service_codes.specs.Starts.{HasNamesResolved, Stands, follows, starts_channel, IsStartOf, first_start, start_in, AreStartsOf}
use Rattle.service_codes.specs.Services.{IsDeclared, HasProcessCode, IsStartCodeAt, HasStartCode, HasServiceCode, IsClashOf}
use Rattle.service_codes.proofs.Lists.{no_fault_at, not_true, name_same, same_names, named_among}
use Rattle.service_codes.proofs.Names.{node_fine, start_fine, inside, unused}
use Rattle.service_codes.proofs.Sites.{sites_from, back_names}
use Rattle.block_codes.specs.Alone.{sites_of as own_sites, HasCode}
use Rattle.block_codes.proofs.OneProcess.{own_sites as own_clean}

-- ---- the new process of a role

serving_there : (r : NameId) (serve : List Part) → is_among (map (λ q. q.role.name) serve) r ≡ true → serving r (served_of serve) ≡ None → ⊥
serving_there r [] h n = absurd cc
serving_there r (q ∷ qs) h n = go (q.role.name.0 == r.0) h n (serving_there r qs)
  where
    go : (b : Bool) → (b || is_among (map (λ q. q.role.name) qs) r) ≡ true → (if b then Some (record { 0 = q.process.name.0 }) else serving r (served_of qs)) ≡ None → (is_among (map (λ q. q.role.name) qs) r ≡ true → serving r (served_of qs) ≡ None → ⊥) → ⊥
    go true i j ih = absurd cc
    go false i j ih = ih i j

serving_within : (r : NameId) (serve : List Part) (p : NameId) → serving r (served_of serve) ≡ Some p → (Q : NameId → Type 0) → All Q (map (λ q. q.process.name) serve) → Q p
serving_within r [] p h Q a = absurd cc
serving_within r (q ∷ qs) p h Q a = go (q.role.name.0 == r.0) h (λ i. serving_within r qs p i Q (All-tail Q q.process.name (map (λ q. q.process.name) qs) a))
  where
    go : (b : Bool) → (if b then Some (record { 0 = q.process.name.0 }) else serving r (served_of qs)) ≡ Some p → (serving r (served_of qs) ≡ Some p → Q p) → Q p
    go true i ih = let e : q.process.name ≡ p = cc in subst Q e (All-head Q q.process.name (map (λ q. q.process.name) qs) a)
    go false i ih = ih i

-- ---- after one start

module _ (f : File) (r : HasNamesResolved f) (clean : All (λ s. HasClash f s → ⊥) (sites_of f)) (x : Served) (d : IsDeclared f x) (id : NodeId) (s : IsStartOf f x.channel.name id)
    (n : TreeNode) (at : slice_get f.tree.nodes id.0 ≡ Some n) where
  abbrev a : NameId
  a = x.channel.name

  same_node : s.node ≡ n
  same_node = let e : Some s.node ≡ Some n = sym s.is ∙ at in cc

  is_start : starts_channel a n.form ≡ true
  is_start = ap (λ (o : TreeNode). starts_channel a o.form) (sym same_node) ∙ s.starts

  module _ (c k : Written) (active serve : List Part) (next : NodeId) (form : n.form ≡ Start c k active serve next) where
    channel_same : c.name ≡ a
    channel_same = name_same c.name a (eqb-true c.name.0 a.0 (ap (starts_channel a) (sym form) ∙ is_start))

    fine : (wrong_parts (channel_of f c.name) c active serve ≡ []) × (is_among (channels_of f) k.name ≡ false)
    fine = start_fine f r s.scope c k active serve next (ap (node_faults f r.hosts s.scope) (sym form) ∙ node_fine f r s.scope id n s.stands at)

    roles_same : map (λ q. q.role.name) serve ≡ names_in d.service.serve
    roles_same =
        let wrong : wrong_parts (Some d.service) c active serve ≡ [] = ap (λ o. wrong_parts o c active serve) (sym (ap (channel_of f) channel_same ∙ d.channel)) ∙ fine.0 in
        let both = are_same (map (λ q. q.role.name) active) (names_in d.service.active) && are_same (map (λ q. q.role.name) serve) (names_in d.service.serve) in
        same_names (map (λ q. q.role.name) serve) (names_in d.service.serve) (and_parts _ _ (not_true both (no_fault_at (not both) N3 c wrong))).1

    pub served_there : serving x.role.name (served_of serve) ≡ None → ⊥
    served_there = serving_there x.role.name serve (ap (λ l. is_among l x.role.name) roles_same ∙ d.role)

    next_stands : Stands f (scope_after s.scope n.form) next
    next_stands = follows s.stands at (subst (λ (g : Form). Contains (children_of g) next) (sym form) (at_head next [] next refl)) refl

    pub next_inside : next.0 < length f.tree.nodes
    next_inside = inside f (scope_after s.scope n.form) next next_stands

    pub next_clean : (p : NameId) → serving x.role.name (served_of serve) ≡ Some p → All (λ t. HasClash f t → ⊥) (own_sites p (body_of f next))
    next_clean p e =
        own_clean (λ t. HasClash f t → ⊥) p (body_of f next) (scope_after s.scope n.form).processes within (sites_from (λ t. HasClash f t → ⊥) f clean (scope_after s.scope n.form) next next_stands)
      where
        within : (Q : NameId → Type 0) → All Q (scope_after s.scope n.form).processes → Q p
        within Q h =
            serving_within x.role.name serve p e Q
            (back_names Q s.scope.processes (map (λ q. q.process.name) serve) (subst (λ (g : Form). All Q (scope_after s.scope g).processes) form h))

    start_is : start_in f id ≡ record { session = k.name.0; serve = served_of serve; rest = body_at f next }
    start_is = ap first_start (tree_at-node f.tree.nodes id n f.tree.closed at) ∙ ap (λ g. first_start (form_tree (trees_of f.tree.nodes) g)) form

    pub start_coded : {old mid new : List CodeNode} (p : NameId) (own made : CodeId) → serving x.role.name (served_of serve) ≡ Some p → HasProcessCode f p next old mid own
        → IsRenamed (record { one = k.name; other = a }) mid new own made → HasStartCode f x id old new made
    start_coded {mid = mid} {new = new} p own made e h g = record {
      kept = keeps_both h.kept g.kept;
      at = record {
        inside = g.inside;
        code =
            subst (λ (t : Started). IsStartCode f.procs a x.role.name t (code_at new made)) (sym start_is)
            (record {
              process = p;
              serves = e;
              code =
                  subst (IsCodeOf f.procs p _) (sym g.code)
                  (start_code f.procs k.name a p (body_at f next) (code_at mid own) (unused f r a (named_among (λ (v : Service). v.name) f.services a d.service d.channel) (scope_after s.scope n.form) next next_stands) h.code);
            });
      };
    }

-- the code of one process
pub one_code : {f : File} {node : NodeId} {p : NameId} {old new : List CodeNode} {id : CodeId} → HasCode f (body_of f node) p old new id → HasProcessCode f p node old new id
one_code {f = f} {node = node} {p = p} {new = new} {id = id} h = record {
  kept = h.kept;
  inside = h.inside;
  code = subst (λ (t : Choreography). IsCodeOf f.procs p t (code_at new id)) (block_choreography f.tree.nodes node) h.code;
}

first_none : (f : File) (t : Site) (ts : List Site) → IsFirstOf (HasClash f) t ts → All (λ s. HasClash f s → ⊥) ts → ⊥
first_none f t [] h c = elim h [ ]
first_none f t (s ∷ ss) (here h) c = All-head (λ s. HasClash f s → ⊥) s ss c h
first_none f t (s ∷ ss) (later n h) c = first_none f t ss h (All-tail (λ s. HasClash f s → ⊥) s ss c)

pub no_clash_there : (f : File) (ts : List Site) (place : Place) (who : NameId) → IsFirstClash f ts place who → All (λ s. HasClash f s → ⊥) ts → ⊥
no_clash_there f ts place who h c = first_none f h.site ts h.first c

-- ---- after all starts

start_kept : {f : File} {x : Served} {old new : List CodeNode} (s : NodeId) (id : CodeId) → Keeps old new → IsStartCodeAt f x old s id → IsStartCodeAt f x new s id
start_kept {f = f} {x = x} s id k h = record {
  inside = let n = kept_length k in let m = h.inside in omega arith;
  code = subst (IsStartCode f.procs x.channel.name x.role.name (start_in f s)) (sym (code_kept id k h.inside)) h.code;
}

pub starts_more : (f : File) (x : Served) (starts : List NodeId) (i : ℕ) (dflt : NodeId) {mid new : List CodeNode} (ids all : List CodeId) (id : CodeId) → i < length starts → AllZip (IsStartCodeAt f x mid) (take i starts) ids
    → HasStartCode f x (get_or starts i dflt) mid new id → all ≡ ids ++ id ∷ [] → AllZip (IsStartCodeAt f x new) (take (i + 1) starts) all
starts_more f x starts i dflt {mid = mid} {new = new} ids all id lt z h e =
    zip_step (IsStartCodeAt f x new) starts i dflt ids all id lt (zip_weaker (IsStartCodeAt f x mid) (IsStartCodeAt f x new) (λ s j. start_kept s j h.kept) (take i starts) ids z) h.at e

pub all_started : (f : File) (x : Served) (nodes : List CodeNode) (starts : List NodeId) (i : ℕ) (ids : List CodeId) → length starts ≤ i → AllZip (IsStartCodeAt f x nodes) (take i starts) ids → AllZip (IsStartCodeAt f x nodes) starts ids
all_started f x nodes starts i ids le z = subst (λ (l : List NodeId). AllZip (IsStartCodeAt f x nodes) l ids) (take_all i starts le) z

module _ (f : File) (x : Served) (nodes : List CodeNode) where
  codes_all : (starts : List NodeId) (ids : List CodeId) → AllZip (IsStartCodeAt f x nodes) starts ids → AllZip (IsStartCode f.procs x.channel.name x.role.name) (map (start_in f) starts) (codes_at nodes ids)
  codes_all [] [] z = tt
  codes_all [] (i ∷ is) z = absurd z
  codes_all (s ∷ ss) [] z = absurd z
  codes_all (s ∷ ss) (i ∷ is) z = (z.0.code, codes_all ss is z.1)

  pub codes_inside : (starts : List NodeId) (ids : List CodeId) → AllZip (IsStartCodeAt f x nodes) starts ids → All (λ i. i.0 < length nodes) ids
  codes_inside [] [] z = All-nil (λ i. i.0 < length nodes)
  codes_inside [] (i ∷ is) z = absurd z
  codes_inside (s ∷ ss) [] z = absurd z
  codes_inside (s ∷ ss) (i ∷ is) z = All-cons (λ j. j.0 < length nodes) i is z.0.inside (codes_inside ss is z.1)

  pub codes_distinct : (starts : List NodeId) (ids : List CodeId) → AllZip (IsStartCodeAt f x nodes) starts ids → All (λ i. HasDistinctLabels (code_at nodes i)) ids
  codes_distinct [] [] z = All-nil (λ i. HasDistinctLabels (code_at nodes i))
  codes_distinct [] (i ∷ is) z = absurd z
  codes_distinct (s ∷ ss) [] z = absurd z
  codes_distinct (s ∷ ss) (i ∷ is) z =
      All-cons (λ j. HasDistinctLabels (code_at nodes j)) i is (code_distinct f.procs z.0.code.process z.0.code.code) (codes_distinct ss is z.1)

  pub codes_some : (starts : List NodeId) (ids : List CodeId) → (starts ≡ [] → ⊥) → AllZip (IsStartCodeAt f x nodes) starts ids → 0 < length ids
  codes_some [] ids some z = absurd (some refl)
  codes_some (s ∷ ss) [] some z = absurd z
  codes_some (s ∷ ss) (i ∷ is) some z = omega arith

  module _ (starts : List NodeId) (all : AreStartsOf f x.channel.name starts) (ids list : List CodeId) (same : list ≡ ids) (z : AllZip (IsStartCodeAt f x nodes) starts ids) where
    of_starts : AllZip (IsStartCode f.procs x.channel.name x.role.name) (starts_of f x.channel.name) (codes_at nodes ids)
    of_starts = subst (λ (l : List Started). AllZip (IsStartCode f.procs x.channel.name x.role.name) l (codes_at nodes ids)) all.same (codes_all starts ids z)

    pub service_coded : {old new : List CodeNode} (id : CodeId) → Keeps old nodes → Keeps nodes new → IsMergedOfAll nodes new list id → HasServiceCode f x old new id
    service_coded {new = new} id k l m = record {
      kept = keeps_both k l;
      inside = m.inside;
      code = record { codes = codes_at nodes ids; each = of_starts; merged = subst (λ (is : List CodeId). IsLeastAbove (codes_at nodes is) (code_at new id)) same m.least };
    }

    pub service_clash : (place : Place) (who : NameId) → place ≡ x.channel.place → who ≡ x.role.name → HasNoneAbove (codes_at nodes list) → IsClashOf f x place who
    service_clash place who p w n = record {
      clash = record { codes = codes_at nodes ids; each = of_starts; none = subst (λ (is : List CodeId). HasNoneAbove (codes_at nodes is)) same n };
      place_is = p;
      who_is = w;
    }
