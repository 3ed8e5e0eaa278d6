-- Walks of bodies, node by node.
use Rattle.std.proofs.Common.{◌≡◌, ℕ, zero, suc, ◌≤◌, ◌==◌, ◌&&◌, length, List, [], ◌∷◌, map, refl, ap, sym, ◌∙◌, subst, arith, Some, None}
use Rattle.std.specs.Prelude.{slice_get, if◌then◌else◌}
use Rattle.std.proofs.lemmas.Bool.Decides.{nat_tests}
use Rattle.chor_base.specs.declared.names.NameId.{NameId}
use Rattle.chor_base.specs.declared.rule.Place.{Place}
use Rattle.chor_tree.specs.declared.file.File.{File}
use Rattle.chor_tree.specs.declared.file.Named.{Named}
use Rattle.chor_semantics.specs.Choreography.{Named as Named_}
use Rattle.chor_tree.specs.declared.tree.NodeId.{NodeId}
use Rattle.chor_tree.specs.declared.tree.Node.{Node}
use Rattle.chor_tree.specs.declared.tree.Form.{Form}
use Rattle.chor_tree.specs.declared.tree.Form.TheVariants.{Start, Value, Label, Give, Set, Host, Show, If, Call, End}
use Rattle.chor_tree.specs.Children.{children_of}
use Rattle.chor_tree.specs.Forms.{head_of}
use Rattle.chor_tree.specs.Source.{Block, block_in, block_of, blocks_of, body_of}
use Rattle.chor_tree.proofs.Nodes.{block_is, no_block}
use Rattle.chor_semantics.specs.Sources.{name_ref}
use Rattle.chor_semantics.specs.Blocks.{choreography_of}
use Rattle.well_formed.specs.Linear.{Members, ParameterSets}
use Rattle.linearity.specs.Taken.{is_passed, taken}
use Rattle.linear_check.specs.declared.heard.Heard.{Heard}
use Rattle.linear_check.specs.declared.sets.Sets.{Sets}
use Rattle.linear_check.specs.Heard.{hears}
use Rattle.linear_check.specs.Sets.{holds}
use Rattle.linear_check.specs.Tracks.{channel_at, Tracks, members_by, all_members_by}
use Rattle.linear_check.specs.Takes.{is_heard, TakesAtTail, TakesAway}

-- ---- one block

module _ (a : NameId) (m : Members) (s : ParameterSets) (bs : List Block) (p : Place) where
  taken_next : (f : Form) (next : NodeId) → children_of f ≡ next ∷ []
      → taken a s m (choreography_of (block_of bs p f)) ≡ taken a s (members_by a m (head_of f)) (choreography_of (block_in bs next))
  taken_next (Start c k active serve n) next e = let same : n ≡ next = cc in ap (λ o. taken a s (members_by a m (head_of (Start c k active serve n))) (choreography_of (block_in bs o))) same
  taken_next (Value from x to y k n) next e = let same : n ≡ next = cc in ap (λ o. taken a s (members_by a m (head_of (Value from x to y k n))) (choreography_of (block_in bs o))) same
  taken_next (Label from to k l n) next e = let same : n ≡ next = cc in ap (λ o. taken a s (members_by a m (head_of (Label from to k l n))) (choreography_of (block_in bs o))) same
  taken_next (Give from to k g n) next e = let same : n ≡ next = cc in ap (λ o. taken a s (members_by a m (head_of (Give from to k g n))) (choreography_of (block_in bs o))) same
  taken_next (Set q x y n) next e = let same : n ≡ next = cc in ap (λ o. taken a s m (choreography_of (block_in bs o))) same
  taken_next (Host q x h l r n) next e = let same : n ≡ next = cc in ap (λ o. taken a s m (choreography_of (block_in bs o))) same
  taken_next (Show q x n) next e = let same : n ≡ next = cc in ap (λ o. taken a s m (choreography_of (block_in bs o))) same
  taken_next (If q x first second) next e = absurd cc
  taken_next (Call g ps ss) next e = absurd cc
  taken_next End next e = absurd cc

  taken_branches : (f : Form) (one other : NodeId) → children_of f ≡ one ∷ other ∷ []
      → taken a s m (choreography_of (block_of bs p f)) ≡ taken a (taken a s m (choreography_of (block_in bs one))) m (choreography_of (block_in bs other))
  taken_branches (Start c k active serve n) one other e = absurd cc
  taken_branches (Value from x to y k n) one other e = absurd cc
  taken_branches (Label from to k l n) one other e = absurd cc
  taken_branches (Give from to k g n) one other e = absurd cc
  taken_branches (Set q x y n) one other e = absurd cc
  taken_branches (Host q x h l r n) one other e = absurd cc
  taken_branches (Show q x n) one other e = absurd cc
  taken_branches (If q x first second) one other e =
      let f : first ≡ one = cc in let g : second ≡ other = cc in λ i. taken a (taken a s m (choreography_of (block_in bs (f i)))) m (choreography_of (block_in bs (g i)))
  taken_branches (Call g ps ss) one other e = absurd cc
  taken_branches End one other e = absurd cc

-- a call passes who has heard
passed_heard : (h : Heard) (c : ℕ) (m : Members) → ((x : ℕ) → m (Named_ x 0) ≡ hears h c x) → (ps : List Named) (i : ℕ) → is_passed m (map name_ref ps) i ≡ is_heard h c ps i
passed_heard h c m same [] i = refl
passed_heard h c m same (p ∷ ps) zero = same p.name.0
passed_heard h c m same (p ∷ ps) (suc i) = passed_heard h c m same ps i

turned : (x y : ℕ) → (x == y) ≡ (y == x)
turned x y = grind (arith, nat_tests)

module _ (f : File) (cs : List NameId) where
  -- a tail
  tail_taken : (h : Heard) (m : ℕ → Members) (old new : Sets) (bs : List Block) (p : Place) (g : Form) → length cs ≤ 128 → Tracks cs h m → children_of g ≡ [] → TakesAtTail h (head_of g) old new
      → TakesAway cs m (block_of bs p g) old new
  tail_taken h m old new bs p (Start c k active serve n) few tracks e t = absurd cc
  tail_taken h m old new bs p (Value from x to y k n) few tracks e t = absurd cc
  tail_taken h m old new bs p (Label from to k l n) few tracks e t = absurd cc
  tail_taken h m old new bs p (Give from to k g n) few tracks e t = absurd cc
  tail_taken h m old new bs p (Set q x y n) few tracks e t = absurd cc
  tail_taken h m old new bs p (Host q x k l r n) few tracks e t = absurd cc
  tail_taken h m old new bs p (Show q x n) few tracks e t = absurd cc
  tail_taken h m old new bs p (If q x first second) few tracks e t = absurd cc
  tail_taken h m old new bs p (Call g ps ss) few tracks e t = λ c lt o i.
      let heard : is_heard h c ps i ≡ is_passed (m c) (map name_ref ps) i = sym (passed_heard h c (m c) (tracks c lt) ps i) in
      t c o i (omega arith) ∙ (λ k. if turned g.name.0 o.0 k then holds old c o i && heard k else holds old c o i)
  tail_taken h m old new bs p End few tracks e t = λ c lt o i. ap (λ s. holds s c o i) t

  pub tail_away : (h : Heard) (m : ℕ → Members) (old new : Sets) (id : NodeId) (n : Node) → length cs ≤ 128 → slice_get f.tree.nodes id.0 ≡ Some n → Tracks cs h m → [] ≡ children_of n.form
      → TakesAtTail h (head_of n.form) old new → TakesAway cs m (body_of f id) old new
  tail_away h m old new id n few at tracks none t =
      subst (λ b. TakesAway cs m b old new) (sym (block_is f id n at)) (tail_taken h m old new (blocks_of f.tree.nodes) n.place n.form few tracks (sym none) t)

  pub past_away : (m : ℕ → Members) (old : Sets) (id : NodeId) → None ≡ slice_get f.tree.nodes id.0 → TakesAway cs m (body_of f id) old old
  past_away m old id none = subst (λ b. TakesAway cs m b old old) (sym (no_block f id none)) (λ c lt o i. refl)

  -- a statement
  pub next_away : (m : ℕ → Members) (old new : Sets) (id next : NodeId) (n : Node) → slice_get f.tree.nodes id.0 ≡ Some n → next ∷ [] ≡ children_of n.form
      → TakesAway cs (all_members_by cs m (head_of n.form)) (body_of f next) old new → TakesAway cs m (body_of f id) old new
  next_away m old new id next n at one t = λ c lt o i.
      t c lt o i
      ∙ ap (λ (s : ParameterSets). s o i) (sym (taken_next (channel_at cs c) (m c) (holds old c) (blocks_of f.tree.nodes) n.place n.form next (sym one)))
      ∙ ap (λ b. taken (channel_at cs c) (holds old c) (m c) (choreography_of b) o i) (sym (block_is f id n at))

  -- a conditional
  pub branches_away : (m : ℕ → Members) (old middle new : Sets) (id one other : NodeId) (n : Node) → slice_get f.tree.nodes id.0 ≡ Some n → one ∷ other ∷ [] ≡ children_of n.form
      → TakesAway cs m (body_of f one) old middle → TakesAway cs m (body_of f other) middle new → TakesAway cs m (body_of f id) old new
  branches_away m old middle new id one other n at two t u = λ c lt o i.
      let same : holds middle c ≡ taken (channel_at cs c) (holds old c) (m c) (choreography_of (body_of f one)) = (λ k g j. t c lt g j k) in
      u c lt o i
      ∙ ap (λ s. taken (channel_at cs c) s (m c) (choreography_of (body_of f other)) o i) same
      ∙ ap (λ (s : ParameterSets). s o i) (sym (taken_branches (channel_at cs c) (m c) (holds old c) (blocks_of f.tree.nodes) n.place n.form one other (sym two)))
      ∙ ap (λ b. taken (channel_at cs c) (holds old c) (m c) (choreography_of b) o i) (sym (block_is f id n at))

  -- ---- a walk that goes on

  -- where the walk has come to, and whom it has followed
  pub record GoesOn (start now : Heard) (m : ℕ → Members) (id at : NodeId) : Type 0 where
    pub members : ℕ → Members
    pub tracks : Tracks cs now members
    pub rest : (old new : Sets) → TakesAway cs members (body_of f at) old new → TakesAway cs m (body_of f id) old new

  pub begins : (h : Heard) (m : ℕ → Members) (id : NodeId) → Tracks cs h m → GoesOn h h m id id
  begins h m id tracks = record { members = m; tracks = tracks; rest = λ old new t. t }

  pub goes_on : (start old new : Heard) (m : ℕ → Members) (id at next : NodeId) (n : Node) → slice_get f.tree.nodes at.0 ≡ Some n → next ∷ [] ≡ children_of n.form
      → ((k : ℕ → Members) → Tracks cs old k → Tracks cs new (all_members_by cs k (head_of n.form)))
      → GoesOn start old m id at → GoesOn start new m id next
  goes_on start old new m id at next n is one after g = record {
    members = all_members_by cs g.members (head_of n.form);
    tracks = after g.members g.tracks;
    rest = λ before after_it t. g.rest before after_it (next_away g.members before after_it at next n is one t);
  }
