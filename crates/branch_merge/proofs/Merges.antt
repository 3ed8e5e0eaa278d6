-- The codes at two numbers of a table, and what is made of them.
use Rattle.std.proofs.Common.{◌≡◌, true, false, ◌==◌, ℕ, ◌<◌, List, [], ◌∷◌, ◌++◌, length, sym, ap, ◌∙◌, subst, Some, None, refl, arith, length-append, Result, Ok, Err}
use Rattle.std.proofs.lemmas.Bool.Decides.{nat_tests}
use Rattle.std.specs.Prelude.{All, IfOk, map, IsErrAnd}
use Rattle.std.proofs.lemmas.List.Elements.{All-head, All-tail, All-map, All-cons, All-nil}
use Rattle.chor_base.specs.declared.names.NameId.{NameId}
use Rattle.chor_base.specs.Expr.{Term, term_of}
use Rattle.endpoint_code.specs.declared.code.CodeId.{CodeId}
use Rattle.endpoint_code.specs.declared.code.CodeNode.{CodeNode}
use Rattle.endpoint_code.specs.declared.code.CodeNode.TheVariants.{Join, Send, Recv, Pick, Branch, Throw, Catch, Set, Show, Host, If, Call, End}
use Rattle.endpoint_code.specs.Code.{children_of}
use Rattle.endpoint_code.specs.Heads.{Acts, head_of, next_of}
use Rattle.endpoint_code.specs.Trees.{Action, CodeTree, Does, Tests, tree_in, node_tree, trees_of, code_at}
use Rattle.endpoint_code.proofs.CodeTables.{code_at-pushed}
use Rattle.endpoint_code.proofs.Decides.{tree_head, node_head, acting, inside}
use Rattle.branch_merge.specs.declared.fault.MergeFault.{MergeFault}
use Rattle.branch_merge.specs.declared.fault.MergeFault.TheVariants.{Clash, Memory as NoMemory}
use Rattle.branch_merge.specs.declared.meeting.Pair.{Pair}
use Rattle.branch_merge.specs.declared.meeting.Meeting.{Meeting}
use Rattle.branch_merge.specs.declared.meeting.Meeting.TheVariants.{Apart, Alike, Next, Either, Arms}
use Rattle.branch_merge.specs.Merged.{Keeps, IsMerged}
use Rattle.branch_merge.specs.Bounds.{IsLeast, HasNone, HaveNone}
use Rattle.branch_merge.specs.Meetings.{IsMeeting, Forks, is_test, TestsAs}
use Rattle.endpoint_code.proofs.AboveOrder.{apart}
use Rattle.branch_merge.specs.Merging.{IsMeetingAt, AreInside, AreBefore, DoSame, TestSame, OfferSame, AreMerged, alone, paired, IsStuck, Takes, arms_at}
use Rattle.branch_merge.proofs.Bounds.{apart_heads, least_does, none_does, least_tests, none_first, none_second, least_offers, none_offers, least_of_two, two_of_least, none_of_two, two_of_none, least_self}
use Rattle.endpoint_code.specs.LeastAbove.{HasNoneAbove}
use Rattle.endpoint_code.specs.Labels.{HasDistinctLabels, AreDistinctArms, ArmIsIn, has_label}
use Rattle.branch_merge.proofs.ArmTables.{code_kept, kept_length}
use Rattle.branch_merge.proofs.Meetings.{one_child}

-- ---- what two nodes have in common, in their table

module _ (nodes : List CodeNode) (pair : Pair) (n m : CodeNode) (at_left : code_at nodes pair.left ≡ node_tree (trees_of nodes) n) (at_right : code_at nodes pair.right ≡ node_tree (trees_of nodes) m)
    (below_left : All (λ c. c.0 < pair.left.0) (children_of n)) (below_right : All (λ c. c.0 < pair.right.0) (children_of m)) where
  one : (i : ℕ) (o : CodeNode) (p : CodeId) → children_of o ≡ p ∷ [] → All (λ c. c.0 < i) (children_of o) → p.0 < i
  one i o p e h = All-head (λ c. c.0 < i) p [] (subst (All (λ c. c.0 < i)) e h)

  two : (i : ℕ) (o : CodeNode) (p q : CodeId) → children_of o ≡ p ∷ q ∷ [] → All (λ c. c.0 < i) (children_of o) → (p.0 < i) × (q.0 < i)
  two i o p q e h =
      let g = subst (All (λ c. c.0 < i)) e h in
      (All-head (λ c. c.0 < i) p (q ∷ []) g, All-head (λ c. c.0 < i) q [] (All-tail (λ c. c.0 < i) p (q ∷ []) g))

  pub meeting_at : (o : Meeting) → IsMeeting n m o → IsMeetingAt nodes pair o
  meeting_at Apart h = apart_heads (λ e. h (sym (node_head (trees_of nodes) n) ∙ sym (ap tree_head at_left) ∙ e ∙ ap tree_head at_right ∙ node_head (trees_of nodes) m))
  meeting_at Alike h = at_left ∙ h (trees_of nodes) ∙ sym at_right
  meeting_at (Next next) h = record {
    action = h.action;
    left = at_left ∙ h.left.tree (trees_of nodes);
    right = at_right ∙ h.right.tree (trees_of nodes);
    before = record { left = one pair.left.0 n next.left h.left.children below_left; right = one pair.right.0 m next.right h.right.children below_right };
  }
  meeting_at (Either first second) h =
      let l = two pair.left.0 n first.left second.left h.left.children below_left in
      let r = two pair.right.0 m first.right second.right h.right.children below_right in
      record {
        test = h.test;
        left = at_left ∙ h.left.tree (trees_of nodes);
        right = at_right ∙ h.right.tree (trees_of nodes);
        first_before = record { left = l.0; right = r.0 };
        second_before = record { left = l.1; right = r.1 };
      }
  meeting_at (Arms k from qs ps) h = record {
    left = at_left ∙ ap (node_tree (trees_of nodes)) h.left;
    right = at_right ∙ ap (node_tree (trees_of nodes)) h.right;
    left_before = inside pair.left.0 qs.items (subst (λ (o : CodeNode). All (λ c. c.0 < pair.left.0) (children_of o)) h.left below_left);
    right_before = inside pair.right.0 ps.items (subst (λ (o : CodeNode). All (λ c. c.0 < pair.right.0) (children_of o)) h.right below_right);
  }

  pub if_meets : {E : Type 0} (r : Result Meeting E) → IfOk r (IsMeeting n m) → IfOk r (IsMeetingAt nodes pair)
  if_meets (Ok o) h = meeting_at o h
  if_meets (Err e) h = h

-- ---- what is made

pub acts_on : (ts : List CodeTree) (n : CodeNode) (x : Action) (c : CodeTree) → node_tree ts n ≡ Does x c → next_of n ≡ None → ⊥
acts_on ts (Join d r k next) x c e h = cc
acts_on ts (Send k b f next) x c e h = cc
acts_on ts (Recv k b y next) x c e h = cc
acts_on ts (Pick k b l next) x c e h = cc
acts_on ts (Throw k b g next) x c e h = cc
acts_on ts (Catch k b g next) x c e h = cc
acts_on ts (Set y f next) x c e h = cc
acts_on ts (Show f next) x c e h = cc
acts_on ts (Host y f l r next) x c e h = cc
acts_on ts (Branch k b arms) x c e h = cc
acts_on ts (If f g o) x c e h = cc
acts_on ts (Call f r ss) x c e h = cc
acts_on ts End x c e h = cc

does_as : (ts us : List CodeTree) (n m : CodeNode) (x : Action) (c : CodeTree) (next : CodeId) → node_tree ts n ≡ Does x c → head_of m ≡ head_of n → next_of m ≡ Some next → node_tree us m ≡ Does x (tree_in us next)
does_as ts us n m x c next e h i =
    let a = acting us m next i in
    let same : Acts a.action ≡ Acts x = sym a.head ∙ h ∙ sym (node_head ts n) ∙ ap tree_head e in
    let y : a.action ≡ x = cc in
    a.tree ∙ ap (λ z. Does z (tree_in us next)) y

least_as : {a b q a' b' q' : CodeTree} → a ≡ a' → b ≡ b' → q ≡ q' → IsLeast a' b' q' → IsLeast a b q
least_as {a = a} {b = b} {q = q} {a' = a'} {b' = b'} {q' = q'} e f g h =
    subst (λ (x : CodeTree). IsLeast x b q) (sym e) (subst (λ (x : CodeTree). IsLeast a' x q) (sym f) (subst (λ (x : CodeTree). IsLeast a' b' x) (sym g) h))

none_as : {a b a' b' : CodeTree} → a ≡ a' → b ≡ b' → HasNone a' b' → HasNone a b
none_as {a = a} {b = b} {a' = a'} {b' = b'} e f h = subst (λ (x : CodeTree). HasNone x b) (sym e) (subst (λ (x : CodeTree). HasNone a' x) (sym f) h)

last_inside : {X : Type 0} (mid new : List X) (m : X) (i : ℕ) → new ≡ mid ++ m ∷ [] → i ≡ length mid → i < length new
last_inside mid new m i e h = let n = ap length e in omega (arith, length-append mid (m ∷ []))

-- codes of which both are one
pub same_merged : (nodes : List CodeNode) (a b : CodeId) → a.0 < length nodes → HasDistinctLabels (code_at nodes a) → code_at nodes a ≡ code_at nodes b → IsMerged nodes nodes a b a
same_merged nodes a b h d e = record { inside = h; least = least_of_two (least_as refl (sym e) refl (least_self (code_at nodes a) d)) }

-- no code is above both
abbrev NoneAbove : List CodeNode → Pair → Type 0
NoneAbove nodes pair = HasNoneAbove (code_at nodes pair.left ∷ code_at nodes pair.right ∷ [])

-- in both no branch has a label twice
abbrev AreDistinct : List CodeNode → Pair → Type 0
AreDistinct nodes pair = HasDistinctLabels (code_at nodes pair.left) × HasDistinctLabels (code_at nodes pair.right)

pub inside_before : {nodes : List CodeNode} {pair later : Pair} → AreInside nodes later → AreBefore pair later → AreInside nodes pair
inside_before {nodes = nodes} {pair = pair} {later = later} i b =
    let left = i.left in
    let right = i.right in
    let first = b.left in
    let second = b.right in
    record { left = omega arith; right = omega arith }

pub inside_later : {old mid : List CodeNode} {pair : Pair} → Keeps old mid → AreInside old pair → AreInside mid pair
inside_later {pair = pair} k i =
    let n = kept_length k in
    let left = i.left in
    let right = i.right in
    record { left = omega arith; right = omega arith }

pub distinct_later : {old mid : List CodeNode} {pair : Pair} → Keeps old mid → AreInside old pair → AreDistinct old pair → AreDistinct mid pair
distinct_later {pair = pair} k i d =
    (subst HasDistinctLabels (sym (code_kept pair.left k i.left)) d.0, subst HasDistinctLabels (sym (code_kept pair.right k i.right)) d.1)

module _ {old : List CodeNode} {pair next : Pair} (same : DoSame old pair next) where
  pub next_distinct : AreDistinct old pair → AreDistinct old next
  next_distinct d = (subst HasDistinctLabels same.left d.0, subst HasDistinctLabels same.right d.1)

  pub next_none : NoneAbove old next → NoneAbove old pair
  next_none n = none_of_two (none_as same.left same.right (none_does (two_of_none n)))

  pub next_there : {mid : List CodeNode} (n : CodeNode) → AreInside old pair → Keeps old mid → code_at mid pair.left ≡ node_tree (trees_of mid) n → next_of n ≡ None → ⊥
  next_there {mid = mid} n i k e = acts_on (trees_of mid) n same.action (code_at old next.left) (sym e ∙ code_kept pair.left k i.left ∙ same.left)

  pub next_merged : (mid new : List CodeNode) (after id : CodeId) (n m : CodeNode) → AreInside old pair → Keeps old mid → IsMerged old mid next.left next.right after → code_at mid pair.left ≡ node_tree (trees_of mid) n
      → head_of m ≡ head_of n → next_of m ≡ Some after → id.0 ≡ length mid → new ≡ mid ++ m ∷ [] → IsMerged old new pair.left pair.right id
  next_merged mid new after id n m i k l e head next' number pushed = record {
    inside = last_inside mid new m id.0 pushed number;
    least = least_of_two (least_as same.left same.right
        (code_at-pushed mid new m id pushed number ∙ does_as (trees_of mid) (trees_of mid) n m same.action (code_at old next.left) after (sym e ∙ code_kept pair.left k i.left ∙ same.left) head next')
        (least_does (two_of_least l.least)));
  }

-- a node that tests
record TestsThere (n : CodeNode) (e : Term) : Type 0 where
  holds : CodeId
  fails : CodeId
  forks : Forks n e holds fails

tests_on : (ts : List CodeTree) (n : CodeNode) (e : Term) (c d : CodeTree) → node_tree ts n ≡ Tests e c d → (is_test n ≡ true) × TestsThere n e
tests_on ts (If f p r) e c d h =
    let same : term_of f ≡ e = cc in
    (refl, record { holds = p; fails = r; forks = record { children = refl; tree = λ us. ap (λ z. Tests z (tree_in us p) (tree_in us r)) same } })
tests_on ts (Join d' r k next) e c d h = absurd cc
tests_on ts (Send k b f next) e c d h = absurd cc
tests_on ts (Recv k b y next) e c d h = absurd cc
tests_on ts (Pick k b l next) e c d h = absurd cc
tests_on ts (Throw k b g next) e c d h = absurd cc
tests_on ts (Catch k b g next) e c d h = absurd cc
tests_on ts (Set y f next) e c d h = absurd cc
tests_on ts (Show f next) e c d h = absurd cc
tests_on ts (Host y f l r next) e c d h = absurd cc
tests_on ts (Branch k b arms) e c d h = absurd cc
tests_on ts (Call f r ss) e c d h = absurd cc
tests_on ts End e c d h = absurd cc

forks_as : (ts : List CodeTree) (n m : CodeNode) (e : Term) (c d : CodeTree) (first second : CodeId) → node_tree ts n ≡ Tests e c d → TestsAs n first second m → Forks m e first second
forks_as ts n m e c d first second h f = let t = (tests_on ts n e c d h).1 in f e t.holds t.fails t.forks

module _ {old : List CodeNode} {pair first second : Pair} (same : TestSame old pair first second) where
  pub first_distinct : AreDistinct old pair → AreDistinct old first
  first_distinct d = ((subst HasDistinctLabels same.left d.0).0, (subst HasDistinctLabels same.right d.1).0)

  pub second_distinct : AreDistinct old pair → AreDistinct old second
  second_distinct d = ((subst HasDistinctLabels same.left d.0).1, (subst HasDistinctLabels same.right d.1).1)

  pub first_none : NoneAbove old first → NoneAbove old pair
  first_none n = none_of_two (none_as same.left same.right (none_first (two_of_none n)))

  -- the second branches are merged in a table with more nodes
  pub second_none : {mid : List CodeNode} → Keeps old mid → AreInside old second → NoneAbove mid second → NoneAbove old pair
  second_none k i n = none_of_two (none_as same.left same.right (none_second (none_as (sym (code_kept second.left k i.left)) (sym (code_kept second.right k i.right)) (two_of_none n))))

  module _ {end : List CodeNode} (n : CodeNode) (i : AreInside old pair) (k : Keeps old end) (e : code_at end pair.left ≡ node_tree (trees_of end) n) where
    here : node_tree (trees_of end) n ≡ Tests same.test (code_at old first.left) (code_at old second.left)
    here = sym e ∙ code_kept pair.left k i.left ∙ same.left

    pub is_test_there : is_test n ≡ true
    is_test_there = (tests_on (trees_of end) n same.test _ _ here).0

    pub forks_again : (m : CodeNode) (holds fails : CodeId) → TestsAs n holds fails m → Forks m same.test holds fails
    forks_again m holds fails f = forks_as (trees_of end) n m same.test _ _ holds fails here f

  pub branches_merged : {mid end : List CodeNode} (new : List CodeNode) (holds fails id : CodeId) (m : CodeNode) → AreInside old second → Keeps old mid → Keeps mid end
      → IsMerged old mid first.left first.right holds → IsMerged mid end second.left second.right fails
      → Forks m same.test holds fails → id.0 ≡ length end → new ≡ end ++ m ∷ [] → IsMerged old new pair.left pair.right id
  branches_merged {mid = mid} {end = end} new holds fails id m i k l x y f number pushed = record {
    inside = last_inside end new m id.0 pushed number;
    least = least_of_two (least_as same.left same.right
        (code_at-pushed end new m id pushed number ∙ f.tree (trees_of end))
        (least_tests (least_as refl refl (code_kept holds l x.inside) (two_of_least x.least))
        (least_as (sym (code_kept second.left k i.left)) (sym (code_kept second.right k i.right)) refl (two_of_least y.least))));
  }

pub next_inside : (l : ℕ) (m : CodeNode) (p : CodeId) → next_of m ≡ Some p → p.0 < l → All (λ c. c.0 < l) (children_of m)
next_inside l m p e h = subst (All (λ c. c.0 < l)) (sym (one_child m p e)) (All-cons (λ c. c.0 < l) p [] h (All-nil (λ c. c.0 < l)))

pub fork_inside : (l : ℕ) (m : CodeNode) {e : Term} (first second : CodeId) → Forks m e first second → first.0 < l → second.0 < l → All (λ c. c.0 < l) (children_of m)
fork_inside l m first second f h i =
    subst (All (λ c. c.0 < l)) (sym f.children) (All-cons (λ c. c.0 < l) first (second ∷ []) h (All-cons (λ c. c.0 < l) second [] i (All-nil (λ c. c.0 < l))))

-- ---- branches with labels

module _ {old : List CodeNode} {pair : Pair} {k from : NameId} {qs ps : List (NameId × CodeId)} (same : OfferSame old pair k from qs ps) where
  pub arms_distinct : AreDistinct old pair → AreDistinctArms (arms_at old qs) × AreDistinctArms (arms_at old ps)
  arms_distinct d = (subst HasDistinctLabels same.left d.0, subst HasDistinctLabels same.right d.1)

  pub arms_none : HaveNone (arms_at old qs) (arms_at old ps) → NoneAbove old pair
  arms_none n = none_of_two (none_as same.left same.right (none_offers n))

  pub arms_merged : (mid new : List CodeNode) (id : CodeId) (rs : List (NameId × CodeId)) → AreMerged old mid qs ps rs → id.0 ≡ length mid → new ≡ mid ++ Branch k from rs ∷ [] → IsMerged old new pair.left pair.right id
  arms_merged mid new id rs l number pushed = record {
    inside = last_inside mid new (Branch k from rs) id.0 pushed number;
    least = least_of_two (least_as same.left same.right (code_at-pushed mid new (Branch k from rs) id pushed number) (least_offers l.least));
  }

pub children_inside : (n : ℕ) (arms : List (NameId × CodeId)) → All (λ arm. arm.1.0 < n) arms → All (λ c. c.0 < n) (map (λ arm. arm.1) arms)
children_inside n arms h = All-map (λ c. c.0 < n) (λ (arm : NameId × CodeId). arm.1) arms h

-- the fault that is handed on
pub same_fault : {T E : Type 0} (U : Type 0) (r : Result T E) (e x : E) → IsErrAnd r (λ f. f ≡ e) → r ≡ Err x → ◌≡◌ {A = Result U E} (Err e) (Err x)
same_fault U (Ok y) e x h i = absurd cc
same_fault U (Err f) e x h i = let j : f ≡ x = cc in ap Err (sym h ∙ j)

-- a lack of memory is no clash
pub no_clash : {T A : Type 0} (r : Result T MergeFault) → IsErrAnd r (λ f. f ≡ NoMemory) → r ≡ Err Clash → A
no_clash (Ok y) h i = absurd cc
no_clash (Err f) h i = absurd cc

-- nor is an answer a fault
pub no_fault : {T E A : Type 0} {x : T} {e : E} → ◌≡◌ {A = Result T E} (Ok x) (Err e) → A
no_fault h = absurd cc

-- ---- one arm

pub takes_alone : (nodes : List CodeNode) (arm : NameId × CodeId) (rest : List (NameId × CodeId)) → arm.1.0 < length nodes → has_label arm.0 (arms_at nodes rest) ≡ false → Takes nodes nodes arm rest rest arm.1
takes_alone nodes arm rest h n = record { inside = h; taken = alone n refl }

module _ (old : List CodeNode) (arm : NameId × CodeId) (rest left : List (NameId × CodeId)) (other : CodeId) (at : ArmIsIn arm.0 (code_at old other) (arms_at old left) (arms_at old rest)) where
  pub takes_paired : {E : Type 0} (new : List CodeNode) (r : Result CodeId E) → IfOk r (IsMerged old new arm.1 other) → IfOk r (Takes old new arm rest left)
  takes_paired new (Ok id) h = record { inside = h.inside; taken = paired at (two_of_least h.least) }
  takes_paired new (Err e) h = h

  pub stuck_there : HasNoneAbove (code_at old arm.1 ∷ code_at old other ∷ []) → IsStuck arm.0 (code_at old arm.1) (arms_at old rest)
  stuck_there n = record { code = _; others = _; at = at; none = two_of_none n }

  pub other_distinct : AreDistinctArms (arms_at old rest) → HasDistinctLabels (code_at old other)
  other_distinct d = (apart at d).code

pub id_same : (nodes : List CodeNode) (a b : CodeId) → (a.0 == b.0) ≡ true → code_at nodes a ≡ code_at nodes b
id_same nodes a b e =
    let n : a.0 ≡ b.0 = grind (arith, nat_tests) in
    ap (λ i. code_at nodes (record { 0 = i })) n
