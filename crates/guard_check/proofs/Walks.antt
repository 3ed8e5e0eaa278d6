-- The first unguarded call of a body, node by node.
use Rattle.std.proofs.Common.{◌≡◌, ℕ, ◌+◌, ◌<◌, ◌≤◌, ◌==◌, ◌||◌, ◌&&◌, Bool, true, false, length, drop, List, [], ◌∷◌, map, refl, ap, sym, ◌∙◌, subst, inl, inr, arith}
use Rattle.std.specs.List.{list_any}
use Rattle.std.proofs.lemmas.List.{drop_all}
use Rattle.std.proofs.lemmas.Bool.Decides.{nat_tests}
use Rattle.std.specs.Prelude.{Option, Some, None, Contains, slice_get, slice_index_or, not}
use Rattle.std.proofs.lemmas.Bool.{and_parts}
use Rattle.chor_base.specs.declared.names.NameId.{NameId}
use Rattle.chor_base.specs.declared.rule.Rule.TheVariants.{U1}
use Rattle.chor_base.specs.declared.rule.Place.{Place}
use Rattle.chor_base.specs.declared.fault.Fault.{Fault}
use Rattle.chor_base.specs.Faults.{fault, comes_before, earlier, IsFirst}
use Rattle.chor_base.proofs.Members.{nowhere, at_head, at_tail, head_or_tail}
use Rattle.chor_base.proofs.Faults.{before_itself, earlier_assoc, first_of_either, first_along, earlier_none}
use Rattle.chor_tree.specs.declared.file.File.{File}
use Rattle.chor_tree.specs.declared.file.Proc.{Proc}
use Rattle.chor_tree.specs.declared.tree.NodeId.{NodeId}
use Rattle.chor_tree.specs.declared.tree.Node.{Node}
use Rattle.chor_tree.specs.declared.tree.Form.{Form}
use Rattle.chor_tree.specs.declared.tree.Form.TheVariants.{Start, Value, Label, Give, Set, Host, Show, If, Call, End}
use Rattle.chor_tree.specs.Children.{children_of}
use Rattle.chor_tree.specs.Forms.{head_of}
use Rattle.chor_tree.specs.Names.{is_among}
use Rattle.chor_tree.specs.Source.{Block, Ends, nowhere as no_place, place_of, tails_of, block_of, blocks_of, body_of}
use Rattle.chor_tree.proofs.Blocks.{tails_same}
use Rattle.chor_tree.proofs.Nodes.{place_same, block_is, no_block}
use Rattle.typing_rules.specs.Guarded.{named_by, passed_by, IsUnguardedCall, IsGuardFault}
use Rattle.typing_rules.specs.Guarded.IsUnguardedCall.{here, further}
use Rattle.guard_check.specs.InBodies.{IsUnguardedIn, IsUnguardedInProcedures}
use Rattle.guard_check.proofs.Members.{same_name, taken_from, among_params, param_named}

-- ---- one block

-- a process of the list that is passed
right : (a b : Bool) → b ≡ true → (a || b) ≡ true
right true b t = refl
right false b t = t

passed_any : (ps qs : List NameId) (p : NameId) → is_among ps p ≡ true → is_among qs p ≡ true → list_any (is_among ps) qs ≡ true
passed_any ps [] p h k = absurd cc
passed_any ps (q ∷ qs) p h k = go (q.0 == p.0) refl k (λ j. passed_any ps qs p h j) where
  go : (b : Bool) → (q.0 == p.0) ≡ b → (b || is_among qs p) ≡ true → (is_among qs p ≡ true → list_any (is_among ps) qs ≡ true) → (is_among ps q || list_any (is_among ps) qs) ≡ true
  go true e j rest = let s : is_among ps q ≡ true = ap (is_among ps) (same_name q p e) ∙ h in ap (λ b. b || list_any (is_among ps) qs) s
  go false e j rest = right (is_among ps q) (list_any (is_among ps) qs) (rest j)

record IsPassed (ps qs : List NameId) : Type 0 where
  process : NameId
  is_one : is_among ps process ≡ true
  is_passed : is_among qs process ≡ true

itself : (n : ℕ) → (n == n) ≡ true
itself n = grind (arith, nat_tests)

one_passed : (ps qs : List NameId) → list_any (is_among ps) qs ≡ true → IsPassed ps qs
one_passed ps [] h = absurd cc
one_passed ps (q ∷ qs) h = go (is_among ps q) refl h (λ k. one_passed ps qs k) where
  go : (b : Bool) → is_among ps q ≡ b → (b || list_any (is_among ps) qs) ≡ true → (list_any (is_among ps) qs ≡ true → IsPassed ps qs) → IsPassed ps (q ∷ qs)
  go true e k rest = record { process = q; is_one = e; is_passed = ap (λ b. b || is_among qs q) (itself q.0) }
  go false e k rest = let r = rest k in record { process = r.process; is_one = r.is_one; is_passed = right (q.0 == r.process.0) (is_among qs r.process) r.is_passed }

both_true : (a b : Bool) → a ≡ true → b ≡ true → (a && b) ≡ true
both_true true b h k = k
both_true false b h k = absurd cc

not_true : (b : Bool) → not b ≡ true → b ≡ false
not_true true h = absurd cc
not_true false h = refl

-- in one of these blocks
abbrev pub IsUnguardedAfter : List NameId → List Block → Fault → Type 0
IsUnguardedAfter ps bs x = (b : Block) × Contains bs b × IsUnguardedIn ps b x

-- those of a list that a block doesn't name
abbrev pub AreUnnamed : List NameId → List NameId → List NameId → Type 0
AreUnnamed ps named left = (p : NameId) → is_among left p ≡ (is_among ps p && not (is_among named p))

block_first : (ps left : List NameId) (b : Block) (o : Option Fault) → AreUnnamed ps (named_by b) left → list_any (is_among ps) (passed_by b) ≡ false
    → IsFirst (IsUnguardedAfter left (tails_of b)) o → IsFirst (IsUnguardedIn ps b) o
block_first ps left b o are none h = first_along (IsUnguardedAfter left (tails_of b)) (IsUnguardedIn ps b) o h there back where
  there : (x : Fault) → IsUnguardedAfter left (tails_of b) x → IsUnguardedIn ps b x
  there x (next, m, (p, a, u)) =
      let parts = and_parts (is_among ps p) (not (is_among (named_by b) p)) (sym (are p) ∙ a) in (p, parts.0, further (not_true (is_among (named_by b) p) parts.1) m u)

  back : (x : Fault) → IsUnguardedIn ps b x → IsUnguardedAfter left (tails_of b) x
  back x (p, a, here pass e) = let t : list_any (is_among ps) (passed_by b) ≡ true = passed_any ps (passed_by b) p a pass in absurd cc
  back x (p, a, further {next = next} other m u) = (next, m, (p, are p ∙ both_true (is_among ps p) (not (is_among (named_by b) p)) a (ap not other), u))

call_first : (ps : List NameId) (b : Block) → list_any (is_among ps) (passed_by b) ≡ true → tails_of b ≡ [] → IsFirst (IsUnguardedIn ps b) (Some (fault U1 (place_of b)))
call_first ps b h none = (
  (let r = one_passed ps (passed_by b) h in (r.process, r.is_one, here r.is_passed refl)),
  λ y u. only y u.2,
) where
  only : (y : Fault) {p : NameId} → IsUnguardedCall p y b → comes_before y (fault U1 (place_of b)) ≡ false
  only y (here pass e) = subst (λ z. comes_before z (fault U1 (place_of b)) ≡ false) e (before_itself (fault U1 (place_of b)))
  only y (further {next = next} other m u) = absurd (nowhere next (subst (λ l. Contains l next) none m))

-- ---- one node

named_same : (bs : List Block) (p : Place) (f : Form) → named_by (block_of bs p f) ≡ named_by (head_of f)
named_same bs p (Start c k active serve next) = refl
named_same bs p (Value from e to x k next) = refl
named_same bs p (Label from to k l next) = refl
named_same bs p (Give from to k given next) = refl
named_same bs p (Set q x e next) = refl
named_same bs p (Host q x f l r next) = refl
named_same bs p (Show q e next) = refl
named_same bs p (If q e first second) = refl
named_same bs p (Call f ps ss) = refl
named_same bs p End = refl

passed_same : (bs : List Block) (p : Place) (f : Form) → passed_by (block_of bs p f) ≡ passed_by (head_of f)
passed_same bs p (Start c k active serve next) = refl
passed_same bs p (Value from e to x k next) = refl
passed_same bs p (Label from to k l next) = refl
passed_same bs p (Give from to k given next) = refl
passed_same bs p (Set q x e next) = refl
passed_same bs p (Host q x f l r next) = refl
passed_same bs p (Show q e next) = refl
passed_same bs p (If q e first second) = refl
passed_same bs p (Call f ps ss) = refl
passed_same bs p End = refl

-- what passes a process is a call
no_tails : (bs : List Block) (p : Place) (f : Form) (ps : List NameId) → list_any (is_among ps) (passed_by (head_of f)) ≡ true → tails_of (block_of bs p f) ≡ []
no_tails bs p (Start c k active serve next) ps h = absurd cc
no_tails bs p (Value from e to x k next) ps h = absurd cc
no_tails bs p (Label from to k l next) ps h = absurd cc
no_tails bs p (Give from to k given next) ps h = absurd cc
no_tails bs p (Set q x e next) ps h = absurd cc
no_tails bs p (Host q x f l r next) ps h = absurd cc
no_tails bs p (Show q e next) ps h = absurd cc
no_tails bs p (If q e first second) ps h = absurd cc
no_tails bs p (Call f qs ss) ps h = refl
no_tails bs p End ps h = absurd cc

module _ (f : File) where
  abbrev bodies : List NodeId → List Block
  bodies ids = map (body_of f) ids

  -- a call
  pub passes_first : (W : Fault → Type 0) (ps : List NameId) (id : NodeId) (n : Node) → slice_get f.tree.nodes id.0 ≡ Some n
      → list_any (is_among ps) (passed_by (head_of n.form)) ≡ true
      → ((o : Option Fault) → IsFirst (IsUnguardedIn ps (body_of f id)) o → IsFirst W o)
      → IsFirst W (Some (fault U1 n.place))
  passes_first W ps id n at h rest =
      let bs = blocks_of f.tree.nodes in
      let b = block_of bs n.place n.form in
      let found : IsFirst (IsUnguardedIn ps b) (Some (fault U1 (place_of b))) = call_first ps b (ap (list_any (is_among ps)) (passed_same bs n.place n.form) ∙ h) (no_tails bs n.place n.form ps h) in
      let placed : IsFirst (IsUnguardedIn ps b) (Some (fault U1 n.place)) = subst (λ p. IsFirst (IsUnguardedIn ps b) (Some (fault U1 p))) (place_same bs n.place n.form) found in
      rest (Some (fault U1 n.place)) (subst (λ c. IsFirst (IsUnguardedIn ps c) (Some (fault U1 n.place))) (sym (block_is f id n at)) placed)

  -- a node that passes none of these, and what follows it
  pub node_then : (W : Fault → Type 0) (ps left : List NameId) (id : NodeId) (n : Node) (ids : List NodeId) → slice_get f.tree.nodes id.0 ≡ Some n
      → list_any (is_among ps) (passed_by (head_of n.form)) ≡ false → AreUnnamed ps (named_by (head_of n.form)) left → ids ≡ children_of n.form
      → ((o : Option Fault) → IsFirst (IsUnguardedIn ps (body_of f id)) o → IsFirst W o)
      → (o : Option Fault) → IsFirst (IsUnguardedAfter left (bodies ids)) o → IsFirst W o
  node_then W ps left id n ids at none are ids_are rest o h =
      let bs = blocks_of f.tree.nodes in
      let b = block_of bs n.place n.form in
      let tails : bodies ids ≡ tails_of b = ap bodies ids_are ∙ sym (tails_same bs n.place n.form) in
      let of_block : IsFirst (IsUnguardedIn ps b) o =
      block_first ps left b o (subst (λ l. AreUnnamed ps l left) (sym (named_same bs n.place n.form)) are) (ap (list_any (is_among ps)) (passed_same bs n.place n.form) ∙ none)
      (subst (λ l. IsFirst (IsUnguardedAfter left l) o) tails h) in
      rest o (subst (λ c. IsFirst (IsUnguardedIn ps c) o) (sym (block_is f id n at)) of_block)

  pub after_none : (ps : List NameId) → IsFirst (IsUnguardedAfter ps (bodies [])) None
  after_none ps x a = nowhere a.0 a.1

  pub after_one : (ps : List NameId) (next : NodeId) (o : Option Fault) → IsFirst (IsUnguardedIn ps (body_of f next)) o → IsFirst (IsUnguardedAfter ps (bodies (next ∷ []))) o
  after_one ps next o h =
      let b = body_of f next in
      first_along (IsUnguardedIn ps b) (IsUnguardedAfter ps (b ∷ [])) o h
      (λ x u. (b, at_head b [] b refl, u))
      (λ x a. elim (head_or_tail b [] a.0 a.1) [ inl e ↦ subst (λ c. IsUnguardedIn ps c x) (sym e) a.2 | inr m ↦ absurd (nowhere a.0 m) ])

  pub after_two : (ps : List NameId) (one other : NodeId) (o q : Option Fault) → IsFirst (IsUnguardedIn ps (body_of f one)) o → IsFirst (IsUnguardedIn ps (body_of f other)) q
      → IsFirst (IsUnguardedAfter ps (bodies (one ∷ other ∷ []))) (earlier o q)
  after_two ps one other o q h k =
      let b = body_of f one in
      let c = body_of f other in
      first_of_either (IsUnguardedIn ps b) (IsUnguardedAfter ps (c ∷ [])) (IsUnguardedAfter ps (b ∷ c ∷ [])) o q h (after_one ps other q k)
      (λ x u. (b, at_head b (c ∷ []) b refl, u))
      (λ x a. (a.0, at_tail b (c ∷ []) a.0 a.1, a.2))
      (λ x a. elim (head_or_tail b (c ∷ []) a.0 a.1) [ inl e ↦ inl (subst (λ d. IsUnguardedIn ps d x) (sym e) a.2) | inr m ↦ inr (a.0, m, a.2) ])

  pub walk_ends : (W : Fault → Type 0) (ps : List NameId) (id : NodeId) → None ≡ slice_get f.tree.nodes id.0
      → ((o : Option Fault) → IsFirst (IsUnguardedIn ps (body_of f id)) o → IsFirst W o) → IsFirst W None
  walk_ends W ps id none rest =
      rest None (subst (λ b. IsFirst (IsUnguardedIn ps b) None) (sym (no_block f id none)) (λ x u. nothing x u.2))
    where
      nothing : (x : Fault) {p : NameId} → IsUnguardedCall p x (Ends no_place) → ⊥
      nothing x (here pass e) = absurd cc
      nothing x (further {next = next} other m u) = nowhere next m

  -- ---- bodies of procedures

  abbrev of_procedure : Proc → Fault → Type 0
  of_procedure h x = IsUnguardedIn (map (λ q. q.name.name) h.params) (body_of f h.body) x

  pub procedures_turn : (W : Fault → Type 0) (old one new : Option Fault) (ys hs : List Proc) (i : ℕ) (h : Proc)
      → ys ≡ hs → i < length ys → h ≡ slice_index_or ys i h → IsFirst (of_procedure h) one → new ≡ earlier old one
      → ((o : Option Fault) → IsFirst (IsUnguardedInProcedures f (drop i hs)) o → IsFirst W (earlier old o))
      → (o : Option Fault) → IsFirst (IsUnguardedInProcedures f (drop (i + 1) hs)) o → IsFirst W (earlier new o)
  procedures_turn W old one new ys hs i h same lt is_h first is_new rest o k =
      let tail = drop (i + 1) hs in
      let both : IsFirst (IsUnguardedInProcedures f (h ∷ tail)) (earlier one o) =
      first_of_either (of_procedure h) (IsUnguardedInProcedures f tail) (IsUnguardedInProcedures f (h ∷ tail)) one o first k
      (λ x u. (h, at_head h tail h refl, u))
      (λ x a. (a.0, at_tail h tail a.0 a.1, a.2))
      (λ x a. elim (head_or_tail h tail a.0 a.1) [ inl e ↦ inl (subst (λ g. of_procedure g x) (sym e) a.2) | inr m ↦ inr (a.0, m, a.2) ]) in
      let all : IsFirst (IsUnguardedInProcedures f (drop i hs)) (earlier one o) = subst (λ l. IsFirst (IsUnguardedInProcedures f l) (earlier one o)) (sym (taken_from ys hs i h h same lt is_h)) both in
      subst (λ q. IsFirst W q) (sym (earlier_assoc old one o) ∙ ap (λ q. earlier q o) (sym is_new)) (rest (earlier one o) all)

  pub procedures_begin : (o : Option Fault) → IsFirst (IsUnguardedInProcedures f f.procs) o → IsFirst (IsGuardFault f) (earlier None o)
  procedures_begin o h = first_along (IsUnguardedInProcedures f f.procs) (IsGuardFault f) o h there back where
    there : (x : Fault) → IsUnguardedInProcedures f f.procs x → IsGuardFault f x
    there x (h, m, (p, a, u)) =
        let r = param_named h.params p a in
        record { procedure = h; param = r.param; is_declared = m; is_param = r.is_param; is_call = subst (λ q. IsUnguardedCall q x (body_of f h.body)) (sym r.is_name) u }

    back : (x : Fault) → IsGuardFault f x → IsUnguardedInProcedures f f.procs x
    back x g = (g.procedure, g.is_declared, (g.param.name.name, among_params g.procedure.params g.param g.is_param, g.is_call))

  pub procedures_end : (W : Fault → Type 0) (first : Option Fault) (ys hs : List Proc) (i : ℕ) → ys ≡ hs → length ys ≤ i
      → ((o : Option Fault) → IsFirst (IsUnguardedInProcedures f (drop i hs)) o → IsFirst W (earlier first o)) → IsFirst W first
  procedures_end W first ys hs i same le rest =
      let none : drop i hs ≡ [] = drop_all i hs (subst (λ l. length l ≤ i) same le) in
      let empty : IsFirst (IsUnguardedInProcedures f (drop i hs)) None = subst (λ l. IsFirst (IsUnguardedInProcedures f l) None) (sym none) (λ x a. nowhere a.0 a.1) in
      subst (λ q. IsFirst W q) (earlier_none first) (rest None empty)
