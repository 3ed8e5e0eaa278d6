-- The code of each service follows what stands after each start of its channel.
use Rattle.std.proofs.Common.{◌≡◌, ℕ, suc, ◌==◌, ◌&&◌, ◌<◌, ◌≤◌, ◌++◌, Bool, true, false, if◌then◌else◌, List, [], ◌∷◌, length, Option, Some, None, refl, sym, ap, ◌∙◌, subst, arith}
use Rattle.std.specs.Prelude.{All, map}
use Rattle.std.specs.List.{AllZip, AllByRecursion}
use Rattle.std.proofs.lemmas.Bool.Decides.{nat_tests}
use Rattle.std.proofs.lemmas.List.Elements.{All-head, All-tail}
use Rattle.std.proofs.lemmas.Bool.{eqb-true}
use Rattle.chor_base.specs.declared.names.NameId.{NameId}
use Rattle.chor_tree.specs.declared.file.File.{File}
use Rattle.chor_tree.specs.declared.file.Named.{Named as Written}
use Rattle.chor_tree.specs.declared.file.Proc.{Proc}
use Rattle.chor_tree.specs.declared.tree.Node.{Node as TreeNode}
use Rattle.chor_semantics.specs.Choreography.{Ref, Live, Named, ref_eq, Node, Starts, Communicates, InTransit, Alone, Choreography, Then, Either, Calls, Ends, put, bound, bound_served, instance_of}
use Rattle.chor_semantics.specs.Sources.{Procedure, procedure_from, procedures_of, numbered, first_configuration}
use Rattle.chor_semantics.specs.Steps.{procedure_named, bound_all, body_of}
use Rattle.endpoint_code.specs.declared.code.CodeId.{CodeId}
use Rattle.endpoint_code.specs.declared.endpoints.ServiceCode.{ServiceCode}
use Rattle.endpoint_code.specs.declared.endpoints.Endpoints.{Endpoints}
use Rattle.endpoint_code.specs.Network.{service_of}
use Rattle.endpoint_code.specs.Trees.{CodeTree, code_at}
use Rattle.endpoint_code.specs.Above.{IsAbove}
use Rattle.endpoint_code.specs.Labels.{HasDistinctLabels}
use Rattle.projection.specs.Codes.{IsCodeOf, proc_named}
use Rattle.projection.specs.Projects.{Projects, Started, IsStartCode, IsServiceCode, IsServiceOf, start_at, starts_in, starts_in_procs, starts_of, service_roles, started_services, serving, session_as, body_at}
use Rattle.well_formed.specs.Follows.{no_sessions, with_session, Follows, IsEqualUpToPruning}
use Rattle.correspondence.specs.Services.{EachServiceFollows, ServicesFollow}
use Rattle.accepted_files.proofs.AlongTrees.{self_test}
use Rattle.accepted_files.proofs.FreeNames.{shallow_apart}
use Rattle.accepted_files.proofs.Renamed.{renamed}
use Rattle.accepted_files.proofs.PlaysRenamed.{plays_renamed}
use Rattle.accepted_files.proofs.FromProjects.{has_units}
use Rattle.accepted_files.proofs.Passing.{found_proc}
use Rattle.accepted_files.proofs.ThroughCalls.{follows}
use Rattle.accepted_files.proofs.Plays.{Plays, IsOver, ProceduresPlay}
use Rattle.accepted_files.specs.PlayedRoles.{with_role, params_of, sessions_of, process_name}
use Rattle.accepted_files.specs.FreeSessions.{IsFree}
use Rattle.accepted_files.proofs.StartsPlay.{has_pair, ServicesPlay, StartsPlay, AllStartsPlay, IsOwn, AreShallow}

-- ---- names of this depth
depth_apart : (x y d : ℕ) → (x == y) ≡ false → ref_eq (Named x d) (Named y d) ≡ false
depth_apart x y d h = ap (λ b. b && (d == d)) h

depth_same : (x y d : ℕ) → ref_eq (Named x d) (Named y d) ≡ (x == y)
depth_same x y d = go (x == y)
  where
    go : (b : Bool) → (b && (d == d)) ≡ b
    go true = self_test d
    go false = refl

own_bound : (d x : ℕ) (F : ℕ → Ref) → IsOwn d F → IsOwn d (bound x (Named x d) F)
own_bound d x F o z y h = go (x == y) refl
  where
    go : (b : Bool) → (x == y) ≡ b → ref_eq (Named z d) (if x == y then Named x d else F y) ≡ false
    go true e = ap (λ b. ref_eq (Named z d) (if b then Named x d else F y)) e ∙ ap (λ w. ref_eq (Named z d) (Named w d)) (eqb-true x y e) ∙ depth_apart z y d h
    go false e = ap (λ b. ref_eq (Named z d) (if b then Named x d else F y)) e ∙ o z y h

own_served : (d : ℕ) (ss : List (ℕ × NameId)) (F : ℕ → Ref) → IsOwn d F → IsOwn d (bound_served d ss F)
own_served d [] F o = o
own_served d (s ∷ ss) F o = own_served d ss (bound s.0 (Named s.0 d) F) (own_bound d s.0 F o)

stays : (d y : ℕ) (ss : List (ℕ × NameId)) (F : ℕ → Ref) → F y ≡ Named y d → bound_served d ss F y ≡ Named y d
stays d y [] F h = h
stays d y (s ∷ ss) F h = stays d y ss (bound s.0 (Named s.0 d) F) (go (s.0 == y) refl)
  where
    go : (b : Bool) → (s.0 == y) ≡ b → (if s.0 == y then Named s.0 d else F y) ≡ Named y d
    go true e = ap (λ b. if b then Named s.0 d else F y) e ∙ ap (λ z. Named z d) (eqb-true s.0 y e)
    go false e = ap (λ b. if b then Named s.0 d else F y) e ∙ h

all_bound : (d : ℕ) (ss : List (ℕ × NameId)) (F : ℕ → Ref) → AllByRecursion (λ s. bound_served d ss F s.0 ≡ Named s.0 d) ss
all_bound d [] F = tt
all_bound d (s ∷ ss) F = (stays d s.0 ss (bound s.0 (Named s.0 d) F) (ap (λ b. if b then Named s.0 d else F s.0) (self_test s.0)), all_bound d ss (bound s.0 (Named s.0 d) F))

-- arguments that are no deeper than the call
pub own_args : (d : ℕ) (xs : List NameId) (rs : List Ref) → AreShallow d rs → IsOwn (suc d) (bound_all (suc d) xs rs)
own_args d [] rs w x y h = depth_apart x y (suc d) h
own_args d (z ∷ zs) [] w x y h = depth_apart x y (suc d) h
own_args d (z ∷ zs) (r ∷ rs) w x y h = go (z.0 == y) (own_args d zs rs w.1 x y h)
  where
    flip : (r : Ref) → ref_eq r (Named x (suc d)) ≡ false → ref_eq (Named x (suc d)) r ≡ false
    flip (Live n) i = refl
    flip (Named v c) i = two (v == x) (x == v) (c == suc d) (suc d == c) (turn v x) (turn c (suc d)) i
      where
        turn : (m n : ℕ) → (n == m) ≡ (m == n)
        turn m n = grind (arith, nat_tests)

        two : (a b c d : Bool) → b ≡ a → d ≡ c → (a && c) ≡ false → (b && d) ≡ false
        two a b c d i j k = ap (λ x. x && d) i ∙ ap (λ x. a && x) j ∙ k

    go : (b : Bool) → ref_eq (Named x (suc d)) (bound_all (suc d) zs rs y) ≡ false → ref_eq (Named x (suc d)) (if b then r else bound_all (suc d) zs rs y) ≡ false
    go true i = flip r (shallow_apart r d x w.0)
    go false i = i

-- declared processes are live
own_numbered : (n : ℕ) (ps : List Written) → IsOwn 0 (numbered n ps)
own_numbered n [] x y h = depth_apart x y 0 h
own_numbered n (p ∷ ps) x y h = go (p.name.0 == y) (own_numbered (suc n) ps x y h)
  where
    go : (b : Bool) → ref_eq (Named x 0) (numbered (suc n) ps y) ≡ false → ref_eq (Named x 0) (if b then Live n else numbered (suc n) ps y) ≡ false
    go true i = refl
    go false i = i

pub no_proc : (nodes : List TreeNode) (fs : List Proc) (h : NameId) → proc_named fs h ≡ None → procedure_named (map (procedure_from nodes) fs) h ≡ None
no_proc nodes [] h i = refl
no_proc nodes (y ∷ ys) h i = go (y.name.name.0 == h.0) refl (no_proc nodes ys h)
  where
    go : (b : Bool) → (y.name.name.0 == h.0) ≡ b → (proc_named ys h ≡ None → procedure_named (map (procedure_from nodes) ys) h ≡ None) → procedure_named (map (procedure_from nodes) (y ∷ ys)) h ≡ None
    go true e more = let j : Some y ≡ None = sym (ap (λ b. if b then Some y else proc_named ys h) e) ∙ i in absurd cc
    go false e more = ap (λ b. if b then Some (procedure_from nodes y) else procedure_named (map (procedure_from nodes) ys) h) e ∙ more (sym (ap (λ b. if b then Some y else proc_named ys h) e) ∙ i)

-- ---- lists
front : {X : Type 0} (P : X → Type 0) (xs ys : List X) → AllByRecursion P (xs ++ ys) → AllByRecursion P xs
front P [] ys h = tt
front P (x ∷ xs) ys h = (h.0, front P xs ys h.1)

back : {X : Type 0} (P : X → Type 0) (xs ys : List X) → AllByRecursion P (xs ++ ys) → AllByRecursion P ys
back P [] ys h = h
back P (x ∷ xs) ys h = back P xs ys h.1

module _ (f : File) (e : Endpoints) (pr : Projects f e) (plays : ProceduresPlay f.tree.nodes f.procs) where
  abbrev top : NameId → NameId → CodeTree
  top a r = code_at e.code.nodes (service_of e.services a r)

  record ServiceAt (a r : NameId) (q : CodeId) : Type 0 where
    is : IsServiceCode f.procs a r (starts_of f a) (code_at e.code.nodes q)
    inside : q.0 < length e.code.nodes

  service_found : (a r : NameId) (rs : List (NameId × NameId)) (qs : List ServiceCode) → AllZip (IsServiceOf f e) rs qs → All (λ q. q.body.0 < length e.code.nodes) qs → has_pair a r rs ≡ true → ServiceAt a r (service_of qs a r)
  service_found a r [] qs z i h = absurd cc
  service_found a r (y ∷ ys) [] z i h = absurd z
  service_found a r (y ∷ ys) (q ∷ qs) z i h = go (y.0.0 == a.0) refl (y.1.0 == r.0) refl (service_found a r ys qs z.1 (All-tail (λ q. q.body.0 < length e.code.nodes) q qs i))
    where
      same : ((q.channel.0 == a.0) && (q.role.0 == r.0)) ≡ ((y.0.0 == a.0) && (y.1.0 == r.0))
      same = ap (λ (v : NameId). (v.0 == a.0) && (q.role.0 == r.0)) z.0.channel ∙ ap (λ (v : NameId). (y.0.0 == a.0) && (v.0 == r.0)) z.0.role

      name_of_test : (m n : NameId) → (m.0 == n.0) ≡ true → m ≡ n
      name_of_test m n t = let w : m.0 ≡ n.0 = eqb-true m.0 n.0 t in let g : ℕ → NameId = λ n. record { 0 = n } in ap g w

      later : (b : Bool) → ((y.0.0 == a.0) && (y.1.0 == r.0)) ≡ false → (has_pair a r ys ≡ true → ServiceAt a r (service_of qs a r)) → ServiceAt a r (service_of (q ∷ qs) a r)
      later b u more = subst (λ c. ServiceAt a r (if c then q.body else service_of qs a r)) (sym (same ∙ u)) (more (sym (ap (λ c. if c then true else has_pair a r ys) u) ∙ h))

      go : (b : Bool) → (y.0.0 == a.0) ≡ b → (c : Bool) → (y.1.0 == r.0) ≡ c → (has_pair a r ys ≡ true → ServiceAt a r (service_of qs a r)) → ServiceAt a r (service_of (q ∷ qs) a r)
      go false u c v more = later false (ap (λ b. b && (y.1.0 == r.0)) u) more
      go true u false v more = later false (ap (λ b. b && (y.1.0 == r.0)) u ∙ v) more
      go true u true v more =
          let i1 : y.0 ≡ a = name_of_test y.0 a u in
          let i2 : y.1 ≡ r = name_of_test y.1 r v in
          subst (λ c. ServiceAt a r (if c then q.body else service_of qs a r)) (sym (same ∙ ap (λ b. b && (y.1.0 == r.0)) u ∙ v))
          (record { is = subst (λ (w : NameId). IsServiceCode f.procs w r (starts_of f w) (code_at e.code.nodes q.body)) i1 (subst (λ (w : NameId). IsServiceCode f.procs y.0 w (starts_of f y.0) (code_at e.code.nodes q.body)) i2 z.0.body); inside = All-head (λ q. q.body.0 < length e.code.nodes) q qs i })

  -- the service's code is above that of a start
  pub record StartServed (a r : NameId) (z : Started) : Type 0 where
    pub code : CodeTree
    pub is : IsStartCode f.procs a r z code
    pub over : IsOver e (service_of e.services a r) code

  each_start : (a r : NameId) → (service_of e.services a r).0 < length e.code.nodes → HasDistinctLabels (top a r) → (zs : List Started) (cs : List CodeTree) → AllZip (IsStartCode f.procs a r) zs cs → All (λ c. IsAbove (top a r) c) cs → AllByRecursion (StartServed a r) zs
  each_start a r i d [] cs z w = tt
  each_start a r i d (y ∷ ys) [] z w = absurd z
  each_start a r i d (y ∷ ys) (c ∷ cs) z w = (
    record { code = c; is = z.0; over = record { inside = i; above = All-head (λ c. IsAbove (top a r) c) c cs w; distinct = d } },
    each_start a r i d ys cs z.1 (All-tail (λ c. IsAbove (top a r) c) c cs w),
  )

  abbrev pub HasStarts : Choreography → Type 0
  HasStarts c = (a r : NameId) → has_pair a r (service_roles (started_services f)) ≡ true → AllByRecursion (StartServed a r) (starts_in a c)

  all_starts : (a r : NameId) → has_pair a r (service_roles (started_services f)) ≡ true → AllByRecursion (StartServed a r) (starts_of f a)
  all_starts a r h =
      let s = service_found a r (service_roles (started_services f)) e.services pr.services e.inside.in_services h in
      each_start a r s.inside s.is.merged.distinct (starts_of f a) s.is.codes s.is.each s.is.merged.above

  main_starts : HasStarts (body_at f f.body)
  main_starts a r h = back (StartServed a r) (starts_in_procs f a f.procs) (starts_in a (body_at f f.body)) (all_starts a r h)

  procedure_starts : (h : NameId) (x : Proc) → proc_named f.procs h ≡ Some x → HasStarts (body_at f x.body)
  procedure_starts h x i a r w = go f.procs i (front (StartServed a r) (starts_in_procs f a f.procs) (starts_in a (body_at f f.body)) (all_starts a r w))
    where
      go : (ys : List Proc) → proc_named ys h ≡ Some x → AllByRecursion (StartServed a r) (starts_in_procs f a ys) → AllByRecursion (StartServed a r) (starts_in a (body_at f x.body))
      go [] i s = absurd cc
      go (y ∷ ys) i s = at (y.name.name.0 == h.0) refl (go ys)
        where
          at : (b : Bool) → (y.name.name.0 == h.0) ≡ b → (proc_named ys h ≡ Some x → AllByRecursion (StartServed a r) (starts_in_procs f a ys) → AllByRecursion (StartServed a r) (starts_in a (body_at f x.body))) → AllByRecursion (StartServed a r) (starts_in a (body_at f x.body))
          at true u more =
              let j : Some y ≡ Some x = sym (ap (λ b. if b then Some y else proc_named ys h) u) ∙ i in
              let z : y ≡ x = cc in
              subst (λ (v : Proc). AllByRecursion (StartServed a r) (starts_in a (body_at f v.body))) z (front (StartServed a r) (starts_in a (body_at f y.body)) (starts_in_procs f a ys) s)
          at false u more = more (sym (ap (λ b. if b then Some y else proc_named ys h) u) ∙ i) (back (StartServed a r) (starts_in a (body_at f y.body)) (starts_in_procs f a ys) s)

  abbrev procs : List Procedure
  procs = procedures_of f

  -- one service
  one_service : (c : NameId) (d k : ℕ) (F G : ℕ → Ref) (all : List (ℕ × NameId)) (rest : Choreography) (x : ℕ) (r : NameId) → IsOwn d F → bound_served d all F x ≡ Named x d → IsFree k c rest → serving r all ≡ Some (process_name x)
      → Plays f.procs (process_name x) rest (with_role (λ y. None) k (Some r)) → StartServed c r (record { session = k; serve = all; rest = rest })
      → IsEqualUpToPruning e procs (Named x d) (instance_of d (bound_served d all F) (bound k (Named k d) G) rest) (service_of e.services c r) (with_session no_sessions c (Named k d, r))
  one_service c d k F G all rest x r own here free serves w s n =
      let G2 : ℕ → Ref = bound c.0 (Named k d) (bound k (Named k d) G) in
      let j : Some s.is.process ≡ Some (process_name x) = sym s.is.serves ∙ serves in
      let same_process : s.is.process ≡ process_name x = cc in
      let code : IsCodeOf f.procs (process_name x) (put (λ p. p) (session_as k c) rest) s.code = subst (λ (v : NameId). IsCodeOf f.procs v (put (λ p. p) (session_as k c) rest) s.code) same_process s.is.code in
      subst (λ (v : Choreography). Follows e procs n (Named x d) v (service_of e.services c r) (with_session no_sessions c (Named k d, r)))
      (renamed k c.0 d rest (bound_served d all F) (bound k (Named k d) G) G2 ((λ y u v. ap (λ b. if b then Named k d else bound k (Named k d) G y) (no_test y c.0 v)), (ap (λ b. if b then Named k d else bound k (Named k d) G c.0) (self_test c.0) ∙ sym (ap (λ b. if b then Named k d else G k) (self_test k)))) free)
      (follows e f.procs f.tree.nodes (has_units f e pr) plays n d (process_name x) (Named x d) (λ y h. depth_apart x y d h) (level d) (put (λ p. p) (session_as k c) rest) (bound_served d all F) G2 (with_role (λ y. None) c.0 (Some r)) (with_session no_sessions c (Named k d, r)) s.code (service_of e.services c r) code s.over
      (plays_renamed f.procs (process_name x) k c.0 rest free (with_role (λ y. None) k (Some r)) (with_role (λ y. None) c.0 (Some r)) ((λ y u v. ap (λ b. if b then Some r else None) (no_test y c.0 v) ∙ sym (ap (λ b. if b then Some r else None) (no_test y k u))), (ap (λ b. if b then Some r else None) (self_test c.0) ∙ sym (ap (λ b. if b then Some r else None) (self_test k)))) w)
      (λ y. apart y (x == y) refl)
      (λ y t. knows y t (c.0 == y)))
    where
      no_test : (x y : ℕ) → (x == y) ≡ false → (y == x) ≡ false
      no_test x y h = grind (arith, nat_tests)

      level : (d : ℕ) → d ≤ d
      level d = omega arith

      apart : (y : ℕ) (b : Bool) → (x == y) ≡ b → ref_eq (Named x d) (bound_served d all F y) ≡ (x == y)
      apart y true u = ap (λ z. ref_eq (Named x d) (bound_served d all F z)) (sym (eqb-true x y u)) ∙ ap (ref_eq (Named x d)) here ∙ depth_same x x d ∙ self_test x ∙ sym u
      apart y false u = own_served d all F own x y u ∙ sym u

      entry : Ref → NameId → Option (Ref × NameId)
      entry u t = Some (u, t)

      knows : (y : ℕ) (t : NameId) (b : Bool) → (if b then Some r else None) ≡ Some t → (if b then entry (Named k d) r else None) ≡ entry (if b then Named k d else bound k (Named k d) G y) t
      knows y t true i = let z : r ≡ t = cc in ap (entry (Named k d)) z
      knows y t false i = absurd cc

  services : (c : NameId) (d k : ℕ) (F G : ℕ → Ref) (all : List (ℕ × NameId)) (rest : Choreography) → IsOwn d F → IsFree k c rest → ((r : NameId) → has_pair c r (service_roles (started_services f)) ≡ true → StartServed c r (record { session = k; serve = all; rest = rest }))
      → (ss : List (ℕ × NameId)) → AllByRecursion (λ s. bound_served d all F s.0 ≡ Named s.0 d) ss → ServicesPlay f c k all rest ss → EachServiceFollows e procs (instance_of d (bound_served d all F) (bound k (Named k d) G) rest) c d k ss
  services c d k F G all rest own free st [] b w = tt
  services c d k F G all rest own free st (s ∷ ss) b w =
      (one_service c d k F G all rest s.0 s.1 own b.0 free w.0 w.2 (st s.1 w.1), services c d k F G all rest own free st ss b.1 w.3)

  after_node : (n : Node) (rest : Choreography) → HasStarts (Then n rest) → HasStarts rest
  after_node n rest h a r w = back (StartServed a r) (start_at a n rest) (starts_in a rest) (h a r w)

  at_start : (c : NameId) (e0 k : ℕ) (act : List (Ref × NameId)) (srv : List (ℕ × NameId)) (rest : Choreography) → HasStarts (Then (Starts c e0 k act srv) rest) → (r : NameId) → has_pair c r (service_roles (started_services f)) ≡ true → StartServed c r (record { session = k; serve = srv; rest = rest })
  at_start c e0 k act srv rest h r w = go (c.0 == c.0) (self_test c.0) (front (StartServed c r) (start_at c (Starts c e0 k act srv) rest) (starts_in c rest) (h c r w))
    where
      go : (b : Bool) → b ≡ true → AllByRecursion (StartServed c r) (if b then record { session = k; serve = srv; rest = rest } ∷ [] else []) → StartServed c r (record { session = k; serve = srv; rest = rest })
      go true u z = z.0
      go false u z = absurd cc

  pub served_instance : (d : ℕ) (c : Choreography) (F G : ℕ → Ref) → HasStarts c → StartsPlay f c → IsOwn d F → ServicesFollow e procs (instance_of d F G c)
  served_instance d (Then (Starts c e0 k act srv) rest) F G h w own = (
    services c d k F G srv rest own w.0.0 (at_start c e0 k act srv rest h) srv (all_bound d srv F) w.0.1,
    served_instance d rest (bound_served d srv F) (bound k (Named k d) G) (after_node (Starts c e0 k act srv) rest h) w.1 (own_served d srv F own),
  )
  served_instance d (Then (Communicates u p a q b x) rest) F G h w own = (tt, served_instance d rest F G (after_node (Communicates u p a q b x) rest h) w.1 own)
  served_instance d (Then (InTransit s a b m q) rest) F G h w own = (tt, served_instance d rest F G (after_node (InTransit s a b m q) rest h) w.1 own)
  served_instance d (Then (Alone p o) rest) F G h w own = (tt, served_instance d rest F G (after_node (Alone p o) rest h) w.1 own)
  served_instance d (Either p x c1 c2) F G h w own = (
    served_instance d c1 F G (λ a r z. front (StartServed a r) (starts_in a c1) (starts_in a c2) (h a r z)) w.0 own,
    served_instance d c2 F G (λ a r z. back (StartServed a r) (starts_in a c1) (starts_in a c2) (h a r z)) w.1 own,
  )
  served_instance d (Calls g k ps ss) F G h w own = tt
  served_instance d Ends F G h w own = tt

  -- in main, and in the bodies of calls
  pub main_served : StartsPlay f (body_at f f.body) → ServicesFollow e procs (first_configuration f).tree
  main_served w = served_instance 0 (body_at f f.body) (numbered 0 f.processes) (λ y. Named y 0) main_starts w (own_numbered 0 f.processes)

  pub body_served : AllStartsPlay f → (h : NameId) (d : ℕ) (ps ss : List Ref) (c : Choreography) → body_of (procedure_named procs h) d ps ss ≡ Some c → AreShallow d ps → ServicesFollow e procs c
  body_served w h d ps ss c i shallow = go (proc_named f.procs h) refl
    where
      go : (o : Option Proc) → proc_named f.procs h ≡ o → ServicesFollow e procs c
      go None j =
          let k : None ≡ Some c = sym (ap (λ o. body_of o d ps ss) (no_proc f.tree.nodes f.procs h j)) ∙ i in absurd cc
      go (Some x) j =
          let k : body_of (Some (procedure_from f.tree.nodes x)) d ps ss ≡ Some c = sym (ap (λ o. body_of o d ps ss) (found_proc f.tree.nodes f.procs h x j)) ∙ i in
          let z : instance_of (suc d) (bound_all (suc d) (params_of x) ps) (bound_all (suc d) (sessions_of x) ss) (body_at f x.body) ≡ c = cc in
          subst (ServicesFollow e procs) z (served_instance (suc d) (body_at f x.body) (bound_all (suc d) (params_of x) ps) (bound_all (suc d) (sessions_of x) ss) (procedure_starts h x j) (w h x j) (own_args d (params_of x) ps shallow))
