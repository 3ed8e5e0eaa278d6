-- The code of a process follows its choreography.
use Rattle.std.proofs.Common.{◌≡◌, ℕ, ◌==◌, ◌<◌, Bool, true, false, if◌then◌else◌, List, [], ◌∷◌, length, Option, Some, None, refl, sym, ap, ◌∙◌, subst, arith, ◌⊎◌, inl, inr}
use Rattle.std.specs.Prelude.{All, map}
use Rattle.std.proofs.lemmas.Bool.Decides.{nat_tests}
use Rattle.std.proofs.lemmas.List.Elements.{All-head, All-tail}
use Rattle.std.proofs.lemmas.Bool.{eqb-true}
use Rattle.chor_base.specs.declared.names.NameId.{NameId}
use Rattle.chor_base.specs.Expr.{Term}
use Rattle.chor_tree.specs.declared.file.Proc.{Proc}
use Rattle.chor_semantics.specs.Choreography.{Ref, Live, Named, ref_eq, Content, OfValue, OfLabel, OfPart, Own, Sets, Shows, Asks, Starts, Communicates, InTransit, Alone, Choreography, Then, Either, Calls, Ends, put_part, put_content, bound, bound_served, named_by, instance_of}
use Rattle.chor_semantics.specs.Sources.{Procedure}
use Rattle.endpoint_code.specs.declared.code.CodeId.{CodeId}
use Rattle.endpoint_code.specs.declared.code.CodeNode.{CodeNode}
use Rattle.endpoint_code.specs.declared.endpoints.Endpoints.{Endpoints}
use Rattle.endpoint_code.specs.Code.{children_of}
use Rattle.endpoint_code.specs.Trees as action
use Rattle.endpoint_code.specs.Trees.{CodeTree, Arms, NoArms, Arm, tree_in, arms_in, node_tree, trees_of, code_at}
use Rattle.endpoint_code.specs.Heads.{head_of}
use Rattle.endpoint_code.specs.Above.{IsAbove, HasAbove}
use Rattle.endpoint_code.specs.Labels.{has_label, HasDistinctLabels, AreDistinctArms}
use Rattle.endpoint_code.specs.Network.{arm_at, node_at}
use Rattle.endpoint_code.proofs.CodeTables.{code_at-node}
use Rattle.endpoint_code.proofs.Decides.{name_same, tree_head, node_head, above_head}
use Rattle.endpoint_code.proofs.AboveOrder.{above_trans}
use Rattle.projection.specs.Codes as codes
use Rattle.projection.specs.Codes.{is_named, part_in, IsCodeOf, acts, learns, absent, decides, merges}
use Rattle.projection.proofs.Inversions.{Made, after_action, after_label, after_others, at_end, at_anothers}
use Rattle.projection.proofs.Branches.{first_of_both, second_of_both}
use Rattle.well_formed.specs.Follows as follows
use Rattle.well_formed.specs.Follows.{SessionMap, with_session, without_session, Act, Joins, Puts, Gets, Does, Into, Label, Part, act_of, Agrees, At, HoldsAt, Place, Here, arm_place, place_after, fork_of, BothHold, standing, HoldsOf, follows_act, follows_test, follows_end, follows_over, Follows}
use Rattle.correspondence.proofs.Nodes.{rest_above, arms_above, first_above, second_above, here_or_later, both_above, labelled, nothing_there, inv_join, inv_send, inv_recv, inv_pick, inv_branch, inv_throw, inv_catch, inv_set, inv_show, inv_host, inv_if, inv_end}
use Rattle.accepted_files.specs.PlayedRoles.{Roles, with_role, HoldsRole, GivesAway, roles_sent, roles_gained, TakesPart}
use Rattle.accepted_files.proofs.Plays.{AreNames, IsNamedContent, OthersNew, Plays, TellsApart, Knows, IsOver, IsAlike}

pub self_test : (x : ℕ) → (x == x) ≡ true
self_test x = grind (arith, nat_tests)

-- ---- names
module _ (r : NameId) (P : Ref) where
  role_same : (f : ℕ → Ref) → TellsApart r P f → (qs : List (Ref × NameId)) → AreNames qs → follows.role_in P (put_part (named_by f) qs) ≡ codes.role_in r qs
  role_same f apart [] h = refl
  role_same f apart ((Named x k, a) ∷ qs) h =
      ap (λ b. if b then Some a else follows.role_in P (put_part (named_by f) qs)) (apart x)
      ∙ ap (λ o. if r.0 == x then Some a else o) (role_same f apart qs h.1)
  role_same f apart ((Live n, a) ∷ qs) h = absurd h.0

  bound_apart : (f : ℕ → Ref) (x d : ℕ) → TellsApart r P f → (r.0 == x) ≡ false → ref_eq P (Named x d) ≡ false → TellsApart r P (bound x (Named x d) f)
  bound_apart f x d apart n p y = go (x == y) refl
    where
      go : (b : Bool) → (x == y) ≡ b → ref_eq P (if x == y then Named x d else f y) ≡ (r.0 == y)
      go true e = ap (λ b. ref_eq P (if b then Named x d else f y)) e ∙ p ∙ sym n ∙ ap (λ z. r.0 == z) (eqb-true x y e)
      go false e = ap (λ b. ref_eq P (if b then Named x d else f y)) e ∙ apart y

  served_apart : (f : ℕ → Ref) (d : ℕ) (srv : List (ℕ × NameId)) → IsAlike r P d → TellsApart r P f → OthersNew r srv → TellsApart r P (bound_served d srv f)
  served_apart f d [] alike apart o = apart
  served_apart f d (s ∷ ss) alike apart o = served_apart (bound s.0 (Named s.0 d) f) d ss alike (bound_apart f s.0 d apart o.0 (alike s.0 o.0)) o.1

-- ---- session maps
knows_joined : (g : Roles) (m : SessionMap) (s : ℕ → Ref) (k d : ℕ) (a : NameId) (o : Option NameId) → o ≡ Some a → Knows g m s → Knows (with_role g k o) (with_session m (record { 0 = k }) (Named k d, a)) (bound k (Named k d) s)
knows_joined g m s k d a o i w y t = go (k == y) refl
  where
    go : (b : Bool) → (k == y) ≡ b → (if k == y then o else g y) ≡ Some t → (if k == y then Some (Named k d, a) else m y) ≡ Some ((if k == y then Named k d else s y), t)
    go true e h =
        let j : Some a ≡ Some t = sym i ∙ sym (ap (λ b. if b then o else g y) e) ∙ h in
        let z : a ≡ t = cc in
        ap (λ b. if b then Some (Named k d, a) else m y) e ∙ ap (λ u. Some (Named k d, u)) z ∙ ap (λ b. Some ((if b then Named k d else s y), t)) (sym e)
    go false e h = ap (λ b. if b then Some (Named k d, a) else m y) e ∙ w y t (sym (ap (λ b. if b then o else g y) e) ∙ h) ∙ ap (λ b. Some ((if b then Named k d else s y), t)) (sym e)

knows_other : (g : Roles) (m : SessionMap) (s : ℕ → Ref) (k d : ℕ) (o : Option NameId) → o ≡ None → Knows g m s → Knows (with_role g k o) m (bound k (Named k d) s)
knows_other g m s k d o i w y t = go (k == y) refl
  where
    go : (b : Bool) → (k == y) ≡ b → (if k == y then o else g y) ≡ Some t → m y ≡ Some ((if k == y then Named k d else s y), t)
    go true e h = let j : None ≡ Some t = sym i ∙ sym (ap (λ b. if b then o else g y) e) ∙ h in absurd cc
    go false e h = w y t (sym (ap (λ b. if b then o else g y) e) ∙ h) ∙ ap (λ b. Some ((if b then Named k d else s y), t)) (sym e)

knows_gone : (g : Roles) (m : SessionMap) (s : ℕ → Ref) (k : ℕ) → Knows g m s → Knows (with_role g k None) (without_session m (record { 0 = k })) s
knows_gone g m s k w y t = go (k == y) refl
  where
    go : (b : Bool) → (k == y) ≡ b → (if k == y then None else g y) ≡ Some t → (if k == y then None else m y) ≡ Some (s y, t)
    go true e h = let j : None ≡ Some t = sym (ap (λ b. if b then None else g y) e) ∙ h in absurd cc
    go false e h = ap (λ b. if b then None else m y) e ∙ w y t (sym (ap (λ b. if b then None else g y) e) ∙ h)

knows_gained : (g : Roles) (m : SessionMap) (s : ℕ → Ref) (k : ℕ) (a : NameId) → Knows g m s → Knows (with_role g k (Some a)) (with_session m (record { 0 = k }) (s k, a)) s
knows_gained g m s k a w y t = go (k == y) refl
  where
    go : (b : Bool) → (k == y) ≡ b → (if k == y then Some a else g y) ≡ Some t → (if k == y then Some (s k, a) else m y) ≡ Some (s y, t)
    go true e h =
        let j : Some a ≡ Some t = sym (ap (λ b. if b then Some a else g y) e) ∙ h in
        let z : a ≡ t = cc in
        let v : k ≡ y = eqb-true k y e in
        ap (λ b. if b then Some (s k, a) else m y) e ∙ ap (λ u. Some (s u, a)) v ∙ ap (λ u. Some (s y, u)) z
    go false e h = ap (λ b. if b then Some (s k, a) else m y) e ∙ w y t (sym (ap (λ b. if b then Some a else g y) e) ∙ h)

-- ---- what stands at a place
module _ (e : Endpoints) where
  abbrev pub ts : List CodeTree
  ts = trees_of e.code.nodes

  pub record At' (q : CodeId) (t : CodeTree) : Type 0 where
    pub node : CodeNode
    pub there : node_at e q ≡ Some node
    pub above : IsAbove (node_tree ts node) t
    pub inside : All (λ c. c.0 < length e.code.nodes) (children_of node)
    pub distinct : HasDistinctLabels (node_tree ts node)

  pub stands_at : (q : CodeId) (t : CodeTree) → IsOver e q t → At' q t
  stands_at q t o = go (node_at e q) refl
    where
      go : (a : Option CodeNode) → node_at e q ≡ a → At' q t
      go None f = absurd (nothing_there e.code.nodes q.0 o.inside f)
      go (Some n) f =
          let at : code_at e.code.nodes q ≡ node_tree ts n = code_at-node e.code.nodes q n e.code.closed f in
          let closed : All (λ c. c.0 < q.0) (children_of n) = e.code.closed q.0 n f in
          record {
            node = n;
            there = f;
            above = subst (λ (z : CodeTree). IsAbove z t) at o.above;
            inside = λ k d l. let c = closed k d l in let i = o.inside in omega arith;
            distinct = subst HasDistinctLabels at o.distinct;
          }

  pub head_at : {q : CodeId} {t : CodeTree} (a : At' q t) → head_of a.node ≡ tree_head t
  head_at a = sym (node_head ts a.node) ∙ above_head a.above

  -- from a node with this one next
  next_at : {q next : CodeId} {a b : action.Action} {t : CodeTree} (x : At' q (action.Does b t)) (n : CodeNode) → x.node ≡ n → node_tree ts n ≡ action.Does a (tree_in ts next) → children_of n ≡ next ∷ [] → IsOver e next t
  next_at {next = next} {a = a} {b = b} {t = t} x n i j c = record {
    inside = All-head (λ z. z.0 < length e.code.nodes) next [] (subst (All (λ z. z.0 < length e.code.nodes)) (ap children_of i ∙ c) x.inside);
    above = rest_above (subst (λ (z : CodeTree). IsAbove z (action.Does b t)) (ap (node_tree ts) i ∙ j) x.above);
    distinct = subst HasDistinctLabels (ap (node_tree ts) i ∙ j) x.distinct;
  }

  -- what holds of the node's form holds at the place
  pub there_holds : (R : At) (X : CodeNode → Type 0) (q : CodeId) (m : SessionMap) (n k : CodeNode) → node_at e q ≡ Some n → n ≡ k → HoldsOf R X (standing e (Some k) m) → HoldsOf R X (standing e (node_at e q) m)
  there_holds R X q m n k h i w = subst (λ (o : Option CodeNode). HoldsOf R X (standing e o m)) (sym (h ∙ ap Some i)) w

  record ArmAt (arms : List (NameId × CodeId)) (l : NameId) (t : CodeTree) : Type 0 where
    arm : CodeId
    is : arm_at arms l ≡ Some arm
    over : IsOver e arm t

  found_arm : (arms : List (NameId × CodeId)) (l : NameId) (t : CodeTree) → All (λ c. c.0 < length e.code.nodes) (map (λ arm. arm.1) arms) → AreDistinctArms (arms_in ts arms) → HasAbove (arms_in ts arms) l t → ArmAt arms l t
  found_arm [] l t i d h = elim h [ ]
  found_arm (arm ∷ arms) l t i d h = split (found_arm arms l t (All-tail (λ c. c.0 < length e.code.nodes) arm.1 (map (λ x. x.1) arms) i) d.2) (here_or_later h)
    where
      split : (HasAbove (arms_in ts arms) l t → ArmAt arms l t) → ((arm.0 ≡ l) × IsAbove (tree_in ts arm.1) t) ⊎ HasAbove (arms_in ts arms) l t → ArmAt (arm ∷ arms) l t
      split more (inl a) =
          let t' : (arm.0.0 == l.0) ≡ true = let z : arm.0.0 ≡ l.0 = ap (λ (x : NameId). x.0) a.0 in grind (arith, nat_tests) in
          record { arm = arm.1; is = ap (λ b. if b then Some arm.1 else arm_at arms l) t'; over = record { inside = All-head (λ c. c.0 < length e.code.nodes) arm.1 (map (λ x. x.1) arms) i; above = a.1; distinct = d.1 } }
      split more (inr r) =
          let f : ArmAt arms l t = more r in
          let t' : (arm.0.0 == l.0) ≡ false = go (arm.0.0 == l.0) refl in
          record { arm = f.arm; is = ap (λ b. if b then Some arm.1 else arm_at arms l) t' ∙ f.is; over = f.over }
        where
          go : (b : Bool) → (arm.0.0 == l.0) ≡ b → (arm.0.0 == l.0) ≡ false
          go false e = e
          go true e =
              let y : arm.0 ≡ l = name_same arm.0 l refl e in
              let x : has_label arm.0 (arms_in ts arms) ≡ true = subst (λ (k : NameId). has_label k (arms_in ts arms) ≡ true) (sym y) (labelled r) in absurd cc

-- its own conditional
record Own' (fs : List Proc) (r : NameId) (x : Term) (c d : Choreography) (t : CodeTree) : Type 0 where
  one : CodeTree
  other : CodeTree
  of_first : IsCodeOf fs r c one
  of_second : IsCodeOf fs r d other
  is : t ≡ action.Tests x one other

at_own : {fs : List Proc} {r : NameId} {p : Ref} {x : Term} {c d : Choreography} {t : CodeTree} → is_named r p ≡ true → IsCodeOf fs r (Either p x c d) t → Own' fs r x c d t
at_own h (decides f a b) = record { one = _; other = _; of_first = a; of_second = b; is = refl }
at_own h (merges f a b l) = absurd cc

module _ (e : Endpoints) (fs : List Proc) (procs : List Procedure) (r : NameId) (P : Ref) (d : ℕ) (R : Choreography → At) (alike : IsAlike r P d)
    (calling : (h0 : NameId) (k : ℕ) (ps ss : List Ref) (f s : ℕ → Ref) (g : Roles) (m : SessionMap) (t : CodeTree) (q : CodeId) → IsCodeOf fs r (Calls h0 k ps ss) t → IsOver e q t → Plays fs r (Calls h0 k ps ss) g → TellsApart r P f → Knows g m s → follows_over e procs P R (instance_of d f s (Calls h0 k ps ss)) q m) where
  abbrev Goal : Choreography → (ℕ → Ref) → (ℕ → Ref) → SessionMap → CodeId → Type 0
  Goal c f s m q = follows_over e procs P R (instance_of d f s c) q m

  abbrev Claim : Choreography → Type 0
  Claim c = (f s : ℕ → Ref) (g : Roles) (m : SessionMap) (t : CodeTree) (q : CodeId) → IsCodeOf fs r c t → IsOver e q t → Plays fs r c g → TellsApart r P f → Knows g m s → Goal c f s m q

  abbrev Over' : Choreography → (ℕ → Ref) → (ℕ → Ref) → At
  Over' c f s = follows_over e procs P R (instance_of d f s c)

  abbrev act_as : (ℕ → Ref) → ℕ → NameId → NameId → Content → Bool → Bool → Option Act
  act_as s k a b w i j = if i then Some (Puts (s k) a b (put_content (named_by s) w)) else (if j then Some (Gets (s k) a b (follows.received_of (put_content (named_by s) w))) else None)

  abbrev part_as : ℕ → NameId → NameId → Content → Bool → Bool → codes.Part
  part_as k a b w i j = if i then codes.Acts (codes.sends (record { 0 = k }) b w) else (if j then codes.receives (record { 0 = k }) a w else codes.Absent)

  -- the process joins
  start_claim : (c0 : NameId) (e0 k : ℕ) (act : List (Ref × NameId)) (srv : List (ℕ × NameId)) (rest : Choreography) → Claim rest → Claim (Then (Starts c0 e0 k act srv) rest)
  start_claim c0 e0 k act srv rest more f s g m t q code o w apart knows = go (codes.role_in r act) refl
    where
      same_role : follows.role_in P (put_part (named_by f) act) ≡ codes.role_in r act
      same_role = role_same r P f apart act w.0

      further : (m : SessionMap) (t : CodeTree) (q : CodeId) → IsCodeOf fs r rest t → IsOver e q t → Knows (with_role g k (codes.role_in r act)) m (bound k (Named k d) s) → Over' rest (bound_served d srv f) (bound k (Named k d) s) q m
      further m t q a b c = more (bound_served d srv f) (bound k (Named k d) s) (with_role g k (codes.role_in r act)) m t q a b w.2 (served_apart r P f d srv alike apart w.1) c

      go : (a : Option NameId) → codes.role_in r act ≡ a → follows_act e (follows.joins c0 (Named k d) (follows.role_in P (put_part (named_by f) act))) (R (Then (Starts c0 d k (put_part (named_by f) act) srv) (instance_of d (bound_served d srv f) (bound k (Named k d) s) rest))) (Over' rest (bound_served d srv f) (bound k (Named k d) s)) q m
      go None i =
          subst (λ z. follows_act e (follows.joins c0 (Named k d) z) (R (Then (Starts c0 d k (put_part (named_by f) act) srv) (instance_of d (bound_served d srv f) (bound k (Named k d) s) rest))) (Over' rest (bound_served d srv f) (bound k (Named k d) s)) q m) (sym (same_role ∙ i))
          (further m t q (after_others fs r (ap (codes.joins c0 k) i) code) o (knows_other g m s k d (codes.role_in r act) i knows))
      go (Some a) i =
          let made = after_action fs r (action.Joins c0 a (record { 0 = k })) (ap (codes.joins c0 k) i) code in
          let x : At' e q (action.Does (action.Joins c0 a (record { 0 = k })) made.code) = stands_at e q _ (subst (IsOver e q) made.made o) in
          let j = inv_join x.node (head_at e x) in
          subst (λ z. follows_act e (follows.joins c0 (Named k d) z) (R (Then (Starts c0 d k (put_part (named_by f) act) srv) (instance_of d (bound_served d srv f) (bound k (Named k d) s) rest))) (Over' rest (bound_served d srv f) (bound k (Named k d) s)) q m) (sym (same_role ∙ i))
          (there_holds e _ _ q m x.node _ x.there j.is ((refl, refl), further (with_session m (record { 0 = k }) (Named k d, a)) made.code j.next made.follows (next_at e x _ j.is refl refl) (knows_joined g m s k d a (codes.role_in r act) i knows)))

  -- the process sends
  send_claim : (k x y dk dx dy : ℕ) (a b : NameId) (w : Content) (rest : Choreography) → Claim rest → (f s : ℕ → Ref) (g : Roles) (m : SessionMap) (t : CodeTree) (q : CodeId)
      → part_in r (Communicates (Named k dk) (Named x dx) a (Named y dy) b w) ≡ codes.Acts (codes.sends (record { 0 = k }) b w) → IsCodeOf fs r (Then (Communicates (Named k dk) (Named x dx) a (Named y dy) b w) rest) t → IsOver e q t
      → IsNamedContent w → HoldsRole g (Named k dk) a → GivesAway g w → Plays fs r rest (roles_sent g w) → TellsApart r P f → Knows g m s
      → (N : Choreography) → follows_act e (Some (Puts (s k) a b (put_content (named_by s) w))) (R N) (follows_over e procs P R (instance_of d f s rest)) q m
  send_claim k x y dk dx dy a b (OfValue v z) rest more f s g m t q part code o n h gives w apart knows N =
      let made = after_action fs r (action.Sends (record { 0 = k }) b v) part code in
      let p : At' e q (action.Does (action.Sends (record { 0 = k }) b v) made.code) = stands_at e q _ (subst (IsOver e q) made.made o) in
      let j = inv_send p.node (head_at e p) in
      there_holds e _ _ q m p.node _ p.there j.is ((knows k a h, refl, j.term), more f s g m made.code j.next made.follows (next_at e p _ j.is refl refl) w apart knows)
  send_claim k x y dk dx dy a b (OfLabel l) rest more f s g m t q part code o n h gives w apart knows N =
      let made = after_action fs r (action.Selects (record { 0 = k }) b l) part code in
      let p : At' e q (action.Does (action.Selects (record { 0 = k }) b l) made.code) = stands_at e q _ (subst (IsOver e q) made.made o) in
      let j = inv_pick p.node (head_at e p) in
      there_holds e _ _ q m p.node _ p.there j.is ((knows k a h, refl, refl), more f s g m made.code j.next made.follows (next_at e p _ j.is refl refl) w apart knows)
  send_claim k x y dk dx dy a b (OfPart (Named u du) z) rest more f s g m t q part code o n h gives w apart knows N =
      let made = after_action fs r (action.Gives (record { 0 = k }) b (record { 0 = u })) part code in
      let p : At' e q (action.Does (action.Gives (record { 0 = k }) b (record { 0 = u })) made.code) = stands_at e q _ (subst (IsOver e q) made.made o) in
      let j = inv_throw p.node (head_at e p) in
      there_holds e _ _ q m p.node _ p.there j.is ((knows k a h, refl, knows u z gives), more f s (with_role g u None) (without_session m (record { 0 = u })) made.code j.next made.follows (next_at e p _ j.is refl refl) w apart (knows_gone g m s u knows))
  send_claim k x y dk dx dy a b (OfPart (Live u) z) rest more f s g m t q part code o n h gives w apart knows N = absurd n

  -- the process receives
  receive_claim : (k x y dk dx dy : ℕ) (a b : NameId) (w : Content) (rest : Choreography) → Claim rest → (f s : ℕ → Ref) (g : Roles) (m : SessionMap) (t : CodeTree) (q : CodeId)
      → part_in r (Communicates (Named k dk) (Named x dx) a (Named y dy) b w) ≡ codes.receives (record { 0 = k }) a w → IsCodeOf fs r (Then (Communicates (Named k dk) (Named x dx) a (Named y dy) b w) rest) t → IsOver e q t
      → IsNamedContent w → HoldsRole g (Named k dk) b → Plays fs r rest (roles_gained g w) → TellsApart r P f → Knows g m s
      → (N : Choreography) → follows_act e (Some (Gets (s k) a b (follows.received_of (put_content (named_by s) w)))) (R N) (follows_over e procs P R (instance_of d f s rest)) q m
  receive_claim k x y dk dx dy a b (OfValue v z) rest more f s g m t q part code o n h w apart knows N =
      let made = after_action fs r (action.Receives (record { 0 = k }) a z) part code in
      let p : At' e q (action.Does (action.Receives (record { 0 = k }) a z) made.code) = stands_at e q _ (subst (IsOver e q) made.made o) in
      let j = inv_recv p.node (head_at e p) in
      there_holds e _ _ q m p.node _ p.there j.is ((knows k b h, refl, refl), more f s g m made.code j.next made.follows (next_at e p _ j.is refl refl) w apart knows)
  receive_claim k x y dk dx dy a b (OfPart (Named u du) z) rest more f s g m t q part code o n h w apart knows N =
      let made = after_action fs r (action.Gains (record { 0 = k }) a (record { 0 = u })) part code in
      let p : At' e q (action.Does (action.Gains (record { 0 = k }) a (record { 0 = u })) made.code) = stands_at e q _ (subst (IsOver e q) made.made o) in
      let j = inv_catch p.node (head_at e p) in
      there_holds e _ _ q m p.node _ p.there j.is ((knows k b h, refl), more f s (with_role g u (Some z)) (with_session m (record { 0 = u }) (s u, z)) made.code j.next made.follows (next_at e p _ j.is refl refl) w apart (knows_gained g m s u z knows))
  receive_claim k x y dk dx dy a b (OfPart (Live u) z) rest more f s g m t q part code o n h w apart knows N = absurd n
  receive_claim k x y dk dx dy a b (OfLabel l) rest more f s g m t q part code o n h w apart knows N =
      let made = after_label fs r (record { 0 = k }) a l part code in
      let p : At' e q (action.Offers (record { 0 = k }) a (Arm l made.code NoArms)) = stands_at e q _ (subst (IsOver e q) made.made o) in
      let j = inv_branch p.node (head_at e p) in
      let arm = found_arm e j.arms l made.code (subst (λ (z : CodeNode). All (λ c. c.0 < length e.code.nodes) (children_of z)) j.is p.inside) (subst (λ (z : CodeNode). HasDistinctLabels (node_tree (ts e) z)) j.is p.distinct)
      (both_above (arms_above (subst (λ (z : CodeNode). IsAbove (node_tree (ts e) z) (action.Offers (record { 0 = k }) a (Arm l made.code NoArms))) j.is p.above))).0 in
      there_holds e _ _ q m p.node _ p.there j.is ((knows k b h, refl), subst (λ (z : Option CodeId). HoldsAt (follows_over e procs P R (instance_of d f s rest)) (arm_place m z)) (sym arm.is) (more f s g m made.code arm.arm made.follows arm.over w apart knows))

  comm_claim : (k x y dk dx dy : ℕ) (a b : NameId) (w : Content) (rest : Choreography) → Claim rest → Claim (Then (Communicates (Named k dk) (Named x dx) a (Named y dy) b w) rest)
  comm_claim k x y dk dx dy a b w rest more f s g m t q code o h apart knows = go (r.0 == x) (r.0 == y) refl refl
    where
      same_act : (i j : Bool) → (r.0 == x) ≡ i → (r.0 == y) ≡ j → follows_act e (act_as s k a b w i j) (R (instance_of d f s (Then (Communicates (Named k dk) (Named x dx) a (Named y dy) b w) rest))) (Over' rest f s) q m → follows_act e (act_as s k a b w (ref_eq P (f x)) (ref_eq P (f y))) (R (instance_of d f s (Then (Communicates (Named k dk) (Named x dx) a (Named y dy) b w) rest))) (Over' rest f s) q m
      same_act i j u v z = subst (λ c. follows_act e (act_as s k a b w c (ref_eq P (f y))) (R (instance_of d f s (Then (Communicates (Named k dk) (Named x dx) a (Named y dy) b w) rest))) (Over' rest f s) q m) (sym (apart x ∙ u)) (subst (λ c. follows_act e (act_as s k a b w i c) (R (instance_of d f s (Then (Communicates (Named k dk) (Named x dx) a (Named y dy) b w) rest))) (Over' rest f s) q m) (sym (apart y ∙ v)) z)

      same_part : (i j : Bool) → (r.0 == x) ≡ i → (r.0 == y) ≡ j → part_as k a b w (r.0 == x) (r.0 == y) ≡ part_as k a b w i j
      same_part i j u v = ap (λ c. part_as k a b w c (r.0 == y)) u ∙ ap (part_as k a b w i) v

      plays : (i j : Bool) → (r.0 == x) ≡ i → (r.0 == y) ≡ j → TakesPart i j g (Named k dk) a b w (Plays fs r rest)
      plays i j u v = subst (λ c. TakesPart c j g (Named k dk) a b w (Plays fs r rest)) u (subst (λ c. TakesPart (r.0 == x) c g (Named k dk) a b w (Plays fs r rest)) v h.4)

      go : (i j : Bool) → (r.0 == x) ≡ i → (r.0 == y) ≡ j → follows_act e (act_as s k a b w (ref_eq P (f x)) (ref_eq P (f y))) (R (instance_of d f s (Then (Communicates (Named k dk) (Named x dx) a (Named y dy) b w) rest))) (Over' rest f s) q m
      go true j u v =
          let p = plays true j u v in
          same_act true j u v (send_claim k x y dk dx dy a b w rest more f s g m t q (same_part true j u v) code o h.3 p.0 p.1 p.2 apart knows (instance_of d f s (Then (Communicates (Named k dk) (Named x dx) a (Named y dy) b w) rest)))
      go false true u v =
          let p = plays false true u v in
          same_act false true u v (receive_claim k x y dk dx dy a b w rest more f s g m t q (same_part false true u v) code o h.3 p.0 p.1 apart knows (instance_of d f s (Then (Communicates (Named k dk) (Named x dx) a (Named y dy) b w) rest)))
      go false false u v = same_act false false u v (more f s g m t q (after_others fs r (same_part false false u v) code) o (plays false false u v) apart knows)

  own_claim : (x dx : ℕ) (own : Own) (rest : Choreography) → Claim rest → Claim (Then (Alone (Named x dx) own) rest)
  own_claim x dx own rest more f s g m t q code o h apart knows = go (r.0 == x) refl
    where
      acts_own : (own : Own) → Made fs r rest (action.Does (codes.acts_alone own)) t → follows_act e (Some (Does own)) (R (instance_of d f s (Then (Alone (Named x dx) own) rest))) (Over' rest f s) q m
      acts_own (Sets z v) made =
          let p : At' e q (action.Does (action.Sets z v) made.code) = stands_at e q _ (subst (IsOver e q) made.made o) in
          let j = inv_set p.node (head_at e p) in
          there_holds e _ _ q m p.node _ p.there j.is ((refl, j.term), more f s g m made.code j.next made.follows (next_at e p _ j.is refl refl) h.1 apart knows)
      acts_own (Shows v) made =
          let p : At' e q (action.Does (action.Shows v) made.code) = stands_at e q _ (subst (IsOver e q) made.made o) in
          let j = inv_show p.node (head_at e p) in
          there_holds e _ _ q m p.node _ p.there j.is (j.term, more f s g m made.code j.next made.follows (next_at e p _ j.is refl refl) h.1 apart knows)
      acts_own (Asks z c u v) made =
          let p : At' e q (action.Does (action.Asks z c u v) made.code) = stands_at e q _ (subst (IsOver e q) made.made o) in
          let j = inv_host p.node (head_at e p) in
          there_holds e _ _ q m p.node _ p.there j.is ((refl, refl, j.term, j.term2), more f s g m made.code j.next made.follows (next_at e p _ j.is refl refl) h.1 apart knows)

      go : (i : Bool) → (r.0 == x) ≡ i → follows_act e (if ref_eq P (f x) then Some (Does own) else None) (R (instance_of d f s (Then (Alone (Named x dx) own) rest))) (Over' rest f s) q m
      go true u =
          subst (λ c. follows_act e (if c then Some (Does own) else None) (R (instance_of d f s (Then (Alone (Named x dx) own) rest))) (Over' rest f s) q m) (sym (apart x ∙ u))
          (acts_own own (after_action fs r (codes.acts_alone own) (ap (λ c. if c then codes.Acts (codes.acts_alone own) else codes.Absent) u) code))
      go false u =
          subst (λ c. follows_act e (if c then Some (Does own) else None) (R (instance_of d f s (Then (Alone (Named x dx) own) rest))) (Over' rest f s) q m) (sym (apart x ∙ u))
          (more f s g m t q (after_others fs r (ap (λ c. if c then codes.Acts (codes.acts_alone own) else codes.Absent) u) code) o h.1 apart knows)

  test_claim : (x dx : ℕ) (v : Term) (c1 c2 : Choreography) → Claim c1 → Claim c2 → Claim (Either (Named x dx) v c1 c2)
  test_claim x dx v c1 c2 one two f s g m t q code o h apart knows = go (r.0 == x) refl
    where
      under : {z : CodeTree} → IsAbove t z → IsOver e q z
      under a = record { inside = o.inside; above = above_trans o.above a; distinct = o.distinct }

      go : (i : Bool) → (r.0 == x) ≡ i → follows_test e (ref_eq P (f x)) v (R (instance_of d f s (Either (Named x dx) v c1 c2))) (Over' c1 f s) (Over' c2 f s) q m
      go false u =
          let l = at_anothers fs r u code in
          subst (λ c. follows_test e c v (R (instance_of d f s (Either (Named x dx) v c1 c2))) (Over' c1 f s) (Over' c2 f s) q m) (sym (apart x ∙ u)) (
            one f s g m l.one q l.of_first (under (first_of_both (IsAbove t) l.one l.other l.least.above)) h.1 apart knows,
            two f s g m l.other q l.of_second (under (second_of_both (IsAbove t) l.one l.other l.least.above)) h.2 apart knows,
          )
      go true u =
          let l = at_own u code in
          let p : At' e q (action.Tests v l.one l.other) = stands_at e q _ (subst (IsOver e q) l.is o) in
          let j = inv_if p.node (head_at e p) in
          let above = subst (λ (z : CodeNode). IsAbove (node_tree (ts e) z) (action.Tests v l.one l.other)) j.is p.above in
          let inside = subst (λ (z : CodeNode). All (λ c. c.0 < length e.code.nodes) (children_of z)) j.is p.inside in
          let distinct = subst (λ (z : CodeNode). HasDistinctLabels (node_tree (ts e) z)) j.is p.distinct in
          subst (λ c. follows_test e c v (R (instance_of d f s (Either (Named x dx) v c1 c2))) (Over' c1 f s) (Over' c2 f s) q m) (sym (apart x ∙ u))
          (there_holds e _ _ q m p.node _ p.there j.is (
            j.term,
            one f s g m l.one j.one l.of_first (record { inside = All-head (λ c. c.0 < length e.code.nodes) j.one (j.other ∷ []) inside; above = first_above above; distinct = distinct.0 }) h.1 apart knows,
            two f s g m l.other j.other l.of_second (record { inside = All-head (λ c. c.0 < length e.code.nodes) j.other [] (All-tail (λ c. c.0 < length e.code.nodes) j.one (j.other ∷ []) inside); above = second_above above; distinct = distinct.1 }) h.2 apart knows,
          ))

  end_claim : Claim Ends
  end_claim f s g m t q code o h apart knows =
      let i : t ≡ action.Ends = at_end fs r code in
      let p : At' e q action.Ends = stands_at e q _ (subst (IsOver e q) i o) in
      let j = inv_end p.node (head_at e p) in
      there_holds e _ _ q m p.node _ p.there j.is refl

  pub claim : (c : Choreography) → Claim c
  claim (Then (Starts c0 e0 k act srv) rest) = start_claim c0 e0 k act srv rest (claim rest)
  claim (Then (Communicates (Named k dk) (Named x dx) a (Named y dy) b w) rest) = comm_claim k x y dk dx dy a b w rest (claim rest)
  claim (Then (Communicates (Named k dk) (Named x dx) a (Live y) b w) rest) = λ f s g m t q code o h apart knows. absurd h.2
  claim (Then (Communicates (Named k dk) (Live x) a v b w) rest) = λ f s g m t q code o h apart knows. absurd h.1
  claim (Then (Communicates (Live k) u a v b w) rest) = λ f s g m t q code o h apart knows. absurd h.0
  claim (Then (InTransit s0 a b w v) rest) = λ f s g m t q code o h apart knows. absurd h
  claim (Then (Alone (Named x dx) own) rest) = own_claim x dx own rest (claim rest)
  claim (Then (Alone (Live x) own) rest) = λ f s g m t q code o h apart knows. absurd h.0
  claim (Either (Named x dx) v c1 c2) = test_claim x dx v c1 c2 (claim c1) (claim c2)
  claim (Either (Live x) v c1 c2) = λ f s g m t q code o h apart knows. absurd h.0
  claim (Calls h0 k ps ss) = calling h0 k ps ss
  claim Ends = end_claim
