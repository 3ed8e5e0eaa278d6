-- The first unordered start of a body, node by node.
use Rattle.std.proofs.Common.{◌≡◌, ℕ, Bool, true, false, List, [], ◌∷◌, map, refl, ap, sym, ◌∙◌, subst, inl, inr, ◌⊎◌, Some, None}
use Rattle.std.specs.Prelude.{Option, slice_get, IsTrue, ◌↔◌}
use Rattle.chor_base.specs.declared.names.NameId.{NameId}
use Rattle.chor_base.specs.declared.rule.Rule.TheVariants.{U2}
use Rattle.chor_base.specs.declared.rule.Place.{Place}
use Rattle.chor_base.specs.declared.fault.Fault.{Fault}
use Rattle.chor_base.specs.Faults.{fault, fault_if, comes_before, earlier, first_of_all, IsFirst}
use Rattle.chor_base.proofs.Members.{nowhere, at_head, at_tail, head_or_tail}
use Rattle.chor_base.proofs.Faults.{before_itself, earlier_assoc, first_of_either, first_along, earlier_none}
use Rattle.chor_tree.specs.declared.file.File.{File}
use Rattle.chor_tree.specs.declared.tree.NodeId.{NodeId}
use Rattle.chor_tree.specs.declared.tree.Node.{Node}
use Rattle.chor_tree.specs.declared.tree.Form.{Form}
use Rattle.chor_tree.specs.declared.tree.Form.TheVariants.{Start, Value, Label, Give, Set, Host, Show, If, Call, End}
use Rattle.chor_tree.specs.Children.{children_of}
use Rattle.chor_tree.specs.Forms.{head_of}
use Rattle.chor_tree.specs.Source.{Block, Then, Either, Calls, Ends, nowhere as no_place, place_of, tails_of, block_of, blocks_of, body_of}
use Rattle.chor_tree.proofs.Blocks.{tails_same}
use Rattle.chor_tree.proofs.Nodes.{place_same, block_is, no_block}
use Rattle.well_formed.specs.Linear.{Members}
use Rattle.linearity.specs.OrderFaults.{IsUnorderedStart, here, after, first, second}
use Rattle.linear_check.specs.declared.heard.Heard.{Heard}
use Rattle.linear_check.specs.Tracks.{channel_at, Tracks, members_by, all_members_by, joins_by, Misses, IsUnorderedOfAny, IsUnorderedAfter}

-- ---- one block

module _ (cs : List NameId) (m : ℕ → Members) where
  -- a start that isn't by members alone
  abbrev IsMissedAt : Block → Fault → Type 0
  IsMissedAt b x = Misses cs m b × (fault U2 (place_of b) ≡ x)

  missed_first : (b : Block) (t : Bool) → IsTrue t ↔ Misses cs m b → IsFirst (IsMissedAt b) (first_of_all (fault_if t U2 (place_of b)))
  missed_first b true on = ((on.0 refl, refl), λ y h. subst (λ z. comes_before z (fault U2 (place_of b)) ≡ false) h.1 (before_itself (fault U2 (place_of b))))
  missed_first b false on = λ x h. let t : false ≡ true = on.1 h.0 in absurd cc

  starts_here : (b : Block) (x : Fault) → IsMissedAt b x → IsUnorderedOfAny cs m b x
  starts_here (Then p s next) x ((c, lt, e), is) = (c, lt, here e is)
  starts_here (Either p q e c d) x ((n, lt, f), is) = absurd cc
  starts_here (Calls p f ps ss) x ((n, lt, g), is) = absurd cc
  starts_here (Ends p) x ((n, lt, f), is) = absurd cc

  starts_after : (b : Block) (x : Fault) → IsUnorderedAfter cs (all_members_by cs m b) (tails_of b) x → IsUnorderedOfAny cs m b x
  starts_after (Then p s next) x (t, among, (c, lt, u)) =
      elim (head_or_tail next [] t among) [ inl e ↦ (c, lt, after (subst (λ d. IsUnorderedStart (channel_at cs c) x (members_by (channel_at cs c) (m c) (Then p s next)) d) (sym e) u)) | inr k ↦ absurd (nowhere t k) ]
  starts_after (Either p q e one other) x (t, among, (c, lt, u)) =
      elim (head_or_tail one (other ∷ []) t among) [
        | inl e ↦ (c, lt, first (subst (λ d. IsUnorderedStart (channel_at cs c) x (m c) d) (sym e) u))
        | inr k ↦ elim (head_or_tail other [] t k) [ inl e ↦ (c, lt, second (subst (λ d. IsUnorderedStart (channel_at cs c) x (m c) d) (sym e) u)) | inr j ↦ absurd (nowhere t j) ]
      ]
  starts_after (Calls p f ps ss) x (t, among, u) = absurd (nowhere t among)
  starts_after (Ends p) x (t, among, u) = absurd (nowhere t among)

  starts_split : (b : Block) (x : Fault) → IsUnorderedOfAny cs m b x → IsMissedAt b x ⊎ IsUnorderedAfter cs (all_members_by cs m b) (tails_of b) x
  starts_split (Then p s next) x (c, lt, here e is) = inl ((c, lt, e), is)
  starts_split (Then p s next) x (c, lt, after u) = inr (next, at_head next [] next refl, (c, lt, u))
  starts_split (Either p q e one other) x (c, lt, first u) = inr (one, at_head one (other ∷ []) one refl, (c, lt, u))
  starts_split (Either p q e one other) x (c, lt, second u) = inr (other, at_tail one (other ∷ []) other (at_head other [] other refl), (c, lt, u))
  starts_split (Calls p f ps ss) x (c, lt, u) = elim u [ ]
  starts_split (Ends p) x (c, lt, u) = elim u [ ]

  block_first : (b : Block) (t : Bool) (o : Option Fault) → IsTrue t ↔ Misses cs m b → IsFirst (IsUnorderedAfter cs (all_members_by cs m b) (tails_of b)) o
      → IsFirst (IsUnorderedOfAny cs m b) (earlier (first_of_all (fault_if t U2 (place_of b))) o)
  block_first b t o on h =
      first_of_either (IsMissedAt b) (IsUnorderedAfter cs (all_members_by cs m b) (tails_of b)) (IsUnorderedOfAny cs m b) _ o (missed_first b t on) h
      (starts_here b) (starts_after b) (starts_split b)

-- ---- one node

members_same : (a : NameId) (m : Members) (bs : List Block) (p : Place) (f : Form) → members_by a m (block_of bs p f) ≡ members_by a m (head_of f)
members_same a m bs p (Start c k active serve next) = refl
members_same a m bs p (Value from e to x k next) = refl
members_same a m bs p (Label from to k l next) = refl
members_same a m bs p (Give from to k given next) = refl
members_same a m bs p (Set q x e next) = refl
members_same a m bs p (Host q x f l r next) = refl
members_same a m bs p (Show q e next) = refl
members_same a m bs p (If q e one other) = refl
members_same a m bs p (Call f ps ss) = refl
members_same a m bs p End = refl

joins_same : (a : NameId) (m : Members) (bs : List Block) (p : Place) (f : Form) → joins_by a m (block_of bs p f) ≡ joins_by a m (head_of f)
joins_same a m bs p (Start c k active serve next) = refl
joins_same a m bs p (Value from e to x k next) = refl
joins_same a m bs p (Label from to k l next) = refl
joins_same a m bs p (Give from to k given next) = refl
joins_same a m bs p (Set q x e next) = refl
joins_same a m bs p (Host q x f l r next) = refl
joins_same a m bs p (Show q e next) = refl
joins_same a m bs p (If q e one other) = refl
joins_same a m bs p (Call f ps ss) = refl
joins_same a m bs p End = refl

-- at a conditional no one hears of anything
branch_members : (a : NameId) (m : Members) (f : Form) (one other : NodeId) → one ∷ other ∷ [] ≡ children_of f → members_by a m (head_of f) ≡ m
branch_members a m (Start c k active serve next) one other e = absurd cc
branch_members a m (Value from x to y k next) one other e = absurd cc
branch_members a m (Label from to k l next) one other e = absurd cc
branch_members a m (Give from to k given next) one other e = absurd cc
branch_members a m (Set q x y next) one other e = refl
branch_members a m (Host q x f l r next) one other e = refl
branch_members a m (Show q x next) one other e = refl
branch_members a m (If q x c d) one other e = refl
branch_members a m (Call f ps ss) one other e = refl
branch_members a m End one other e = refl

module _ (f : File) (cs : List NameId) where
  -- the first of two kinds of places
  pub after_none : (m : ℕ → Members) → IsFirst (IsUnorderedAfter cs m (map (body_of f) [])) None
  after_none m x a = nowhere a.0 a.1

  pub after_one : (m : ℕ → Members) (next : NodeId) (o : Option Fault) → IsFirst (IsUnorderedOfAny cs m (body_of f next)) o → IsFirst (IsUnorderedAfter cs m (map (body_of f) (next ∷ []))) o
  after_one m next o h =
      let b = body_of f next in
      first_along (IsUnorderedOfAny cs m b) (IsUnorderedAfter cs m (b ∷ [])) o h
      (λ x u. (b, at_head b [] b refl, u))
      (λ x a. elim (head_or_tail b [] a.0 a.1) [ inl e ↦ subst (λ c. IsUnorderedOfAny cs m c x) (sym e) a.2 | inr k ↦ absurd (nowhere a.0 k) ])

  pub after_two : (m : ℕ → Members) (one other : NodeId) (o q : Option Fault) → IsFirst (IsUnorderedOfAny cs m (body_of f one)) o → IsFirst (IsUnorderedOfAny cs m (body_of f other)) q
      → IsFirst (IsUnorderedAfter cs m (map (body_of f) (one ∷ other ∷ []))) (earlier o q)
  after_two m one other o q h k =
      let b = body_of f one in
      let c = body_of f other in
      first_of_either (IsUnorderedOfAny cs m b) (IsUnorderedAfter cs m (c ∷ [])) (IsUnorderedAfter cs m (b ∷ c ∷ [])) o q h (after_one m other q k)
      (λ x u. (b, at_head b (c ∷ []) b refl, u))
      (λ x a. (a.0, at_tail b (c ∷ []) a.0 a.1, a.2))
      (λ x a. elim (head_or_tail b (c ∷ []) a.0 a.1) [ inl e ↦ inl (subst (λ d. IsUnorderedOfAny cs m d x) (sym e) a.2) | inr l ↦ inr (a.0, l, a.2) ])

  -- a node, and what follows it
  node_first : (m : ℕ → Members) (id : NodeId) (n : Node) (ids : List NodeId) (t : Bool) (o : Option Fault) → slice_get f.tree.nodes id.0 ≡ Some n → IsTrue t ↔ Misses cs m (head_of n.form)
      → ids ≡ children_of n.form → IsFirst (IsUnorderedAfter cs (all_members_by cs m (head_of n.form)) (map (body_of f) ids)) o
      → IsFirst (IsUnorderedOfAny cs m (body_of f id)) (earlier (first_of_all (fault_if t U2 n.place)) o)
  node_first m id n ids t o at on are h =
      let bs = blocks_of f.tree.nodes in
      let b = block_of bs n.place n.form in
      let members : all_members_by cs m b ≡ all_members_by cs m (head_of n.form) = (λ i c. members_same (channel_at cs c) (m c) bs n.place n.form i) in
      let tails : map (body_of f) ids ≡ tails_of b = ap (map (body_of f)) are ∙ sym (tails_same bs n.place n.form) in
      let misses : IsTrue t ↔ Misses cs m b = (
        λ k. let w = on.0 k in (w.0, w.1, joins_same (channel_at cs w.0) (m w.0) bs n.place n.form ∙ w.2),
        λ w. on.1 (w.0, w.1, sym (joins_same (channel_at cs w.0) (m w.0) bs n.place n.form) ∙ w.2),
      ) in
      let rest : IsFirst (IsUnorderedAfter cs (all_members_by cs m b) (tails_of b)) o =
      subst (λ l. IsFirst (IsUnorderedAfter cs (all_members_by cs m b) l) o) tails (subst (λ k. IsFirst (IsUnorderedAfter cs k (map (body_of f) ids)) o) (sym members) h) in
      let found : IsFirst (IsUnorderedOfAny cs m b) (earlier (first_of_all (fault_if t U2 (place_of b))) o) = block_first cs m b t o misses rest in
      subst (λ c. IsFirst (IsUnorderedOfAny cs m c) (earlier (first_of_all (fault_if t U2 n.place)) o)) (sym (block_is f id n at))
      (subst (λ p. IsFirst (IsUnorderedOfAny cs m b) (earlier (first_of_all (fault_if t U2 p)) o)) (place_same bs n.place n.form) found)

  -- ---- a walk that goes on

  -- where the walk has come to, whom it has followed, and what it has found
  pub record SeeksOn (start now : Heard) (m : ℕ → Members) (id at : NodeId) (found : Option Fault) : Type 0 where
    pub members : ℕ → Members
    pub tracks : Tracks cs now members
    pub rest : (o : Option Fault) → IsFirst (IsUnorderedOfAny cs members (body_of f at)) o → IsFirst (IsUnorderedOfAny cs m (body_of f id)) (earlier found o)

  pub seek_begins : (h : Heard) (m : ℕ → Members) (id : NodeId) → Tracks cs h m → SeeksOn h h m id id None
  seek_begins h m id tracks = record { members = m; tracks = tracks; rest = λ o h. h }

  -- one node more, whatever follows it
  pub seek_node : (start old : Heard) (m : ℕ → Members) (id at : NodeId) (n : Node) (ids : List NodeId) (found new one : Option Fault) (t : Bool) (o : Option Fault)
      → slice_get f.tree.nodes at.0 ≡ Some n → ids ≡ children_of n.form → one ≡ first_of_all (fault_if t U2 n.place) → new ≡ earlier found one
      → ((k : ℕ → Members) → Tracks cs old k → IsTrue t ↔ Misses cs k (head_of n.form))
      → (g : SeeksOn start old m id at found)
      → IsFirst (IsUnorderedAfter cs (all_members_by cs g.members (head_of n.form)) (map (body_of f) ids)) o
      → IsFirst (IsUnorderedOfAny cs m (body_of f id)) (earlier new o)
  seek_node start old m id at n ids found new one t o is are is_one is_new misses g h =
      let all = g.rest (earlier (first_of_all (fault_if t U2 n.place)) o) (node_first g.members at n ids t o is (misses g.members g.tracks) are h) in
      subst (λ p. IsFirst (IsUnorderedOfAny cs m (body_of f id)) p)
      (sym (earlier_assoc found (first_of_all (fault_if t U2 n.place)) o) ∙ ap (λ p. earlier (earlier found p) o) (sym is_one) ∙ ap (λ p. earlier p o) (sym is_new)) all

  pub seeks_on : (start old now : Heard) (m : ℕ → Members) (id at next : NodeId) (n : Node) (found new one : Option Fault) (t : Bool)
      → slice_get f.tree.nodes at.0 ≡ Some n → next ∷ [] ≡ children_of n.form → one ≡ first_of_all (fault_if t U2 n.place) → new ≡ earlier found one
      → ((k : ℕ → Members) → Tracks cs old k → IsTrue t ↔ Misses cs k (head_of n.form))
      → ((k : ℕ → Members) → Tracks cs old k → Tracks cs now (all_members_by cs k (head_of n.form)))
      → SeeksOn start old m id at found → SeeksOn start now m id next new
  seeks_on start old now m id at next n found new one t is are is_one is_new misses after_it g = record {
    members = all_members_by cs g.members (head_of n.form);
    tracks = after_it g.members g.tracks;
    rest = λ o h. seek_node start old m id at n (next ∷ []) found new one t o is are is_one is_new misses g (after_one (all_members_by cs g.members (head_of n.form)) next o h);
  }

  -- nothing follows it
  pub seek_tail : (start old : Heard) (m : ℕ → Members) (id at : NodeId) (n : Node) (found new one : Option Fault) (t : Bool)
      → slice_get f.tree.nodes at.0 ≡ Some n → [] ≡ children_of n.form → one ≡ first_of_all (fault_if t U2 n.place) → new ≡ earlier found one
      → ((k : ℕ → Members) → Tracks cs old k → IsTrue t ↔ Misses cs k (head_of n.form))
      → SeeksOn start old m id at found → IsFirst (IsUnorderedOfAny cs m (body_of f id)) new
  seek_tail start old m id at n found new one t is are is_one is_new misses g =
      subst (λ p. IsFirst (IsUnorderedOfAny cs m (body_of f id)) p) (earlier_none new)
      (seek_node start old m id at n [] found new one t None is are is_one is_new misses g (after_none (all_members_by cs g.members (head_of n.form))))

  -- two branches follow it
  pub seek_branches : (start old : Heard) (m : ℕ → Members) (id at one other : NodeId) (n : Node) (found new fresh : Option Fault) (t : Bool) (o q : Option Fault)
      → slice_get f.tree.nodes at.0 ≡ Some n → one ∷ other ∷ [] ≡ children_of n.form → fresh ≡ first_of_all (fault_if t U2 n.place) → new ≡ earlier found fresh
      → ((k : ℕ → Members) → Tracks cs old k → IsTrue t ↔ Misses cs k (head_of n.form))
      → (g : SeeksOn start old m id at found)
      → IsFirst (IsUnorderedOfAny cs g.members (body_of f one)) o → IsFirst (IsUnorderedOfAny cs g.members (body_of f other)) q
      → IsFirst (IsUnorderedOfAny cs m (body_of f id)) (earlier new (earlier o q))
  seek_branches start old m id at one other n found new fresh t o q is are is_fresh is_new misses g h k =
      let members : all_members_by cs g.members (head_of n.form) ≡ g.members = (λ i c. branch_members (channel_at cs c) (g.members c) n.form one other are i) in
      seek_node start old m id at n (one ∷ other ∷ []) found new fresh t (earlier o q) is are is_fresh is_new misses g
      (subst (λ w. IsFirst (IsUnorderedAfter cs w (map (body_of f) (one ∷ other ∷ []))) (earlier o q)) (sym members) (after_two g.members one other o q h k))

  pub seek_ends : (start old : Heard) (m : ℕ → Members) (id at : NodeId) (found : Option Fault) → None ≡ slice_get f.tree.nodes at.0
      → SeeksOn start old m id at found → IsFirst (IsUnorderedOfAny cs m (body_of f id)) found
  seek_ends start old m id at found none g =
      let empty : IsFirst (IsUnorderedOfAny cs g.members (body_of f at)) None = subst (λ b. IsFirst (IsUnorderedOfAny cs g.members b) None) (sym (no_block f at none)) (λ x u. nothing x u.2) in
      subst (λ p. IsFirst (IsUnorderedOfAny cs m (body_of f id)) p) (earlier_none found) (g.rest None empty)
    where
      nothing : (x : Fault) {a : NameId} {k : Members} → IsUnorderedStart a x k (Ends no_place) → ⊥
      nothing x u = elim u [ ]
