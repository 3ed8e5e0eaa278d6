-- Which processes a start of the network joins, and how they stand after it.
use Rattle.std.proofs.Common.{◌≡◌, inl, inr, ℕ, zero, suc, ◌+◌, ◌<◌, Bool, true, false, List, [], ◌∷◌, ◌++◌, length, Option, Some, None, refl, sym, ap, ◌∙◌, subst, if◌then◌else◌, ◌==◌, ◌&&◌, arith}
use Rattle.std.specs.Prelude.{map, slice_get, slice_set}
use Rattle.std.proofs.lemmas.Bool.Decides.{nat_tests}
use Rattle.std.proofs.lemmas.List.{length-set}
use Rattle.std.specs.FinMap as fin
use Rattle.std.proofs.lemmas.Bool.{eqb-true}
use Rattle.chor_base.specs.declared.names.NameId.{NameId}
use Rattle.chor_semantics.specs.Choreography.{Ref, Live}
use Rattle.chor_semantics.specs.Steps.{fresh_vars}
use Rattle.endpoint_code.specs.declared.code.CodeId.{CodeId}
use Rattle.endpoint_code.specs.declared.code.CodeNode.{CodeNode}
use Rattle.endpoint_code.specs.declared.code.CodeNode.TheVariants as code
use Rattle.endpoint_code.specs.declared.endpoints.Endpoints.{Endpoints}
use Rattle.endpoint_code.specs.Network.{Machine, NetworkState, Place, place_of, node_joins, place_joins, joins, one_joiner, joiners, with_machines, service_of, served, served_parts}
use Rattle.well_formed.proofs.References.{and_first, and_second, same_name, true_eq}
use Rattle.correspondence.proofs.Machines.{get_set_same, get_set_other, vars_set}
use Rattle.correspondence.proofs.Bystanders.{NotIn}
use Rattle.correspondence.proofs.Joiners.{In}

-- ---- who joins

pub record Joined (e : Endpoints) (n : NetworkState) (a r : NameId) (p : ℕ) (m' : Machine) : Type 0 where
  pub machine : Machine
  pub there : slice_get n.machines p ≡ Some machine
  pub place : Place
  pub at : place_of e machine ≡ Some place
  pub k : NameId
  pub next : CodeId
  pub is : place.node ≡ code.Join a r k next
  pub made : m' ≡ record { at = next; vars = machine.vars; sessions = fin.insert place.sessions k.0 (n.sid, r) }

pub joined_of : (e : Endpoints) (n : NetworkState) (a r : NameId) (p : ℕ) (m' : Machine) → joins e (slice_get n.machines p) a r n.sid ≡ Some m' → Joined e n a r p m'
joined_of e n a r p m' h = at_machine (slice_get n.machines p) refl h
  where
    at_machine : (o : Option Machine) → slice_get n.machines p ≡ o → joins e o a r n.sid ≡ Some m' → Joined e n a r p m'
    at_machine None i j = absurd cc
    at_machine (Some machine) i j = at_place (place_of e machine) refl j
      where
        at_place : (o : Option Place) → place_of e machine ≡ o → place_joins o machine.vars a r n.sid ≡ Some m' → Joined e n a r p m'
        at_place None k z = absurd cc
        at_place (Some place) k z = at_node place.node refl z
          where
            at_node : (d : CodeNode) → place.node ≡ d → node_joins d machine.vars place.sessions a r n.sid ≡ Some m' → Joined e n a r p m'
            at_node (code.Join d q x next) u v = go ((d.0 == a.0) && (q.0 == r.0)) refl v
              where
                go : (b : Bool) → ((d.0 == a.0) && (q.0 == r.0)) ≡ b → (if b then Some (record { at = next; vars = machine.vars; sessions = fin.insert place.sessions x.0 (n.sid, r) }) else None) ≡ Some m' → Joined e n a r p m'
                go false w y = absurd cc
                go true w y =
                    let ds : d ≡ a = same_name d a (and_first (d.0 == a.0) (q.0 == r.0) w) in
                    let qs : q ≡ r = same_name q r (and_second (d.0 == a.0) (q.0 == r.0) w) in
                    record { machine = machine; there = i; place = place; at = k; k = x; next = next; is = u ∙ ap (λ y. code.Join y q x next) ds ∙ ap (λ y. code.Join a y x next) qs; made = cc }
            at_node _ u v = absurd cc

abbrev pub AllJoined : Endpoints → NetworkState → NameId → List (NameId × ℕ) → List (ℕ × Machine) → Type 0
AllJoined e n a [] [] = Unit {0}
AllJoined e n a ((r, p) ∷ qs) ((p', m') ∷ ms) = (p' ≡ p) × Joined e n a r p m' × AllJoined e n a qs ms
AllJoined e n a [] (m ∷ ms) = ⊥
AllJoined e n a (q ∷ qs) [] = ⊥

pub all_joined : (e : Endpoints) (n : NetworkState) (a : NameId) (qs : List (NameId × ℕ)) (ms : List (ℕ × Machine)) → joiners e n a n.sid qs ≡ Some ms → AllJoined e n a qs ms
all_joined e n a [] ms h = let i : ◌≡◌ {A = List (ℕ × Machine)} [] ms = cc in subst (AllJoined e n a []) i tt
all_joined e n a ((r, p) ∷ qs) ms h = go (joins e (slice_get n.machines p) a r n.sid) refl (joiners e n a n.sid qs) refl h (λ rest j. all_joined e n a qs rest j)
  where
    go : (o : Option Machine) → joins e (slice_get n.machines p) a r n.sid ≡ o → (z : Option (List (ℕ × Machine))) → joiners e n a n.sid qs ≡ z → one_joiner p o z ≡ Some ms → ((rest : List (ℕ × Machine)) → joiners e n a n.sid qs ≡ Some rest → AllJoined e n a qs rest) → AllJoined e n a ((r, p) ∷ qs) ms
    go None i z j k ih = absurd cc
    go (Some m) i None j k ih = absurd cc
    go (Some m) i (Some rest) j k ih = let w : ◌≡◌ {A = List (ℕ × Machine)} ((p, m) ∷ rest) ms = cc in subst (AllJoined e n a ((r, p) ∷ qs)) w (refl, joined_of e n a r p m i, ih rest j)

-- ---- the machines after

-- the machine of a process after: of a joiner, or as it was
pub data After (e : Endpoints) (n : NetworkState) (a : NameId) (qs : List (NameId × ℕ)) (p : ℕ) (m : Machine) : Type 0 where
  joined : (r : NameId) → In (r, p) qs → Joined e n a r p m → After e n a qs p m
  stayed : ((r : NameId) → In (r, p) qs → ⊥) → slice_get n.machines p ≡ Some m → After e n a qs p m

-- where a machine in the list is found
data Found' (all : List Machine) (ms : List (ℕ × Machine)) (p : ℕ) (m : Machine) : Type 0 where
  set : (in_ms : (k : ℕ) × (slice_get ms k ≡ Some (p, m))) → Found' all ms p m
  kept' : ((k : ℕ) (m' : Machine) → slice_get ms k ≡ Some (p, m') → ⊥) → slice_get all p ≡ Some m → Found' all ms p m

found_in : (all : List Machine) (ms : List (ℕ × Machine)) (p : ℕ) (m : Machine) → slice_get (with_machines all ms) p ≡ Some m → Found' all ms p m
found_in all [] p m h = kept' (λ k m' i. absurd cc) h
found_in all ((q, mq) ∷ ms) p m h = go (found_in (slice_set all q mq) ms p m h) (q == p) refl
  where
    same_machine : slice_get (slice_set all q mq) p ≡ Some m → q ≡ p → mq ≡ m
    same_machine i j = at (slice_get all q) refl
      where
        at : (o : Option Machine) → slice_get all q ≡ o → mq ≡ m
        at (Some old) u =
            let v : slice_get (slice_set all q mq) q ≡ Some mq = get_set_same all q old mq u in
            let w : Some mq ≡ Some m = sym v ∙ ap (slice_get (slice_set all q mq)) j ∙ i in cc
        at None u = absurd (none all q u (ap (slice_get (slice_set all q mq)) j ∙ i))
          where
            none : (xs : List Machine) (k : ℕ) → slice_get xs k ≡ None → slice_get (slice_set xs k mq) k ≡ Some m → ⊥
            none [] k x y = cc
            none (z ∷ zs) zero x y = cc
            none (z ∷ zs) (suc k) x y = none zs k x y

    go : Found' (slice_set all q mq) ms p m → (b : Bool) → (q == p) ≡ b → Found' all ((q, mq) ∷ ms) p m
    go (set (k, i)) b j = set (suc k, i)
    go (kept' out i) true j = let w = eqb-true q p j in set (0, ap (λ y. Some (y, mq)) w ∙ ap (λ y. Some (p, y)) (same_machine i w))
    go (kept' out i) false j = kept' absent (sym (get_set_other all q p mq j) ∙ i)
      where
        absent : (k : ℕ) (m' : Machine) → slice_get ((q, mq) ∷ ms) k ≡ Some (p, m') → ⊥
        absent zero m' x = let y : ◌≡◌ {A = ℕ × Machine} (q, mq) (p, m') = cc in let z : q ≡ p = ap (λ w. w.0) y in differ z
          where
            differ : q ≡ p → ⊥
            differ z = let t : (q == p) ≡ true = ap (λ w. q == w) (sym z) ∙ true_eq q in cc
        absent (suc k) m' x = out k m' x

pub joined_at : (e : Endpoints) (n : NetworkState) (a : NameId) (qs : List (NameId × ℕ)) (ms : List (ℕ × Machine)) → AllJoined e n a qs ms → (k p : ℕ) (m : Machine) → slice_get ms k ≡ Some (p, m) → (r : NameId) × In (r, p) qs × Joined e n a r p m
joined_at e n a [] [] h k p m i = absurd cc
joined_at e n a ((r, q) ∷ qs) ((q', mq) ∷ ms) h zero p m i =
    let x : ◌≡◌ {A = ℕ × Machine} (q', mq) (p, m) = cc in
    let p' : q ≡ p = sym h.0 ∙ ap (λ w. w.0) x in
    (r, inl (ap (λ y. (r, y)) (sym p')), subst (λ y. Joined e n a r y m) p' (subst (Joined e n a r q) (ap (λ w. w.1) x) h.1))
joined_at e n a ((r, q) ∷ qs) ((q', mq) ∷ ms) h (suc k) p m i = let z = joined_at e n a qs ms h.2 k p m i in (z.0, inr z.1, z.2)
joined_at e n a [] (x ∷ ms) h k p m i = absurd h
joined_at e n a (q ∷ qs) [] h k p m i = absurd h

pub listed_at : (e : Endpoints) (n : NetworkState) (a : NameId) (qs : List (NameId × ℕ)) (ms : List (ℕ × Machine)) → AllJoined e n a qs ms → (r : NameId) (p : ℕ) → In (r, p) qs → (k : ℕ) × (m : Machine) × (slice_get ms k ≡ Some (p, m))
listed_at e n a [] ms h r p i = absurd i
listed_at e n a ((t, q) ∷ qs) ((q', mq) ∷ ms) h r p (inl i) = (0, mq, ap (λ y. Some (y, mq)) (h.0 ∙ ap (λ w. w.1) (sym i)))
listed_at e n a ((t, q) ∷ qs) ((q', mq) ∷ ms) h r p (inr i) = let z = listed_at e n a qs ms h.2 r p i in (suc z.0, z.1, z.2)
listed_at e n a (q ∷ qs) [] h r p i = absurd h

pub after_joining : (e : Endpoints) (n : NetworkState) (a : NameId) (qs : List (NameId × ℕ)) (ms : List (ℕ × Machine)) → AllJoined e n a qs ms → (p : ℕ) (m : Machine) → slice_get (with_machines n.machines ms) p ≡ Some m → After e n a qs p m
after_joining e n a qs ms h p m i = go (found_in n.machines ms p m i)
  where
    go : Found' n.machines ms p m → After e n a qs p m
    go (set (k, j)) = let z = joined_at e n a qs ms h k p m j in joined z.0 z.1 z.2
    go (kept' out j) = stayed (λ r z. let y = listed_at e n a qs ms h r p z in out y.0 y.1 y.2) j

-- joining changes no variable
pub vars_joined : (e : Endpoints) (n : NetworkState) (a : NameId) (qs : List (NameId × ℕ)) (ms : List (ℕ × Machine)) → AllJoined e n a qs ms → (all : List Machine) → map (λ m. m.vars) all ≡ map (λ m. m.vars) n.machines → map (λ m. m.vars) (with_machines all ms) ≡ map (λ m. m.vars) n.machines
vars_joined e n a [] [] h all i = i
vars_joined e n a ((r, p) ∷ qs) ((p', m') ∷ ms) h all i = vars_joined e n a qs ms h.2 (slice_set all p' m') (vars_set all p' m' ∙ ap (λ y. slice_set y p' m'.vars) i ∙ ap (λ y. slice_set (map (λ m. m.vars) n.machines) y m'.vars) h.0 ∙ ap (slice_set (map (λ m. m.vars) n.machines) p) (ap (λ y. y.vars) h.1.made) ∙ same n.machines p h.1.machine h.1.there)
  where
    same : (xs : List Machine) (k : ℕ) (m : Machine) → slice_get xs k ≡ Some m → slice_set (map (λ m. m.vars) xs) k m.vars ≡ map (λ m. m.vars) xs
    same [] k m h = refl
    same (z ∷ zs) zero m h = let e : z ≡ m = cc in ap (λ y. y ∷ map (λ m. m.vars) zs) (ap (λ y. y.vars) (sym e))
    same (z ∷ zs) (suc k) m h = ap (λ y. z.vars ∷ y) (same zs k m h)
vars_joined e n a [] (m ∷ ms) h all i = absurd h
vars_joined e n a (q ∷ qs) [] h all i = absurd h

pub length_joined : (all : List Machine) (ms : List (ℕ × Machine)) → length (with_machines all ms) ≡ length all
length_joined all [] = refl
length_joined all ((p, m) ∷ ms) = length_joined (slice_set all p m) ms ∙ length-set all p m

-- new processes have no variable
pub fresh_new : (e : Endpoints) (a : NameId) (s : ℕ) (rs : List NameId) (k : ℕ) → fresh_vars (served_parts rs k) k ≡ map (λ m. m.vars) (served e a s rs)
fresh_new e a s [] k = refl
fresh_new e a s (r ∷ rs) k = ap (λ b. if b then fin.empty ∷ fresh_vars (served_parts rs (suc k)) (suc k) else fresh_vars (served_parts rs (suc k)) k) (true_eq k) ∙ ap (λ y. fin.empty ∷ y) (fresh_new e a s rs (suc k))

pub fresh_old : (qs : List (NameId × ℕ)) (rest : List (NameId × ℕ)) (k : ℕ) → ((r : NameId) (p : ℕ) → In (r, p) qs → p < k) → fresh_vars (qs ++ rest) k ≡ fresh_vars rest k
fresh_old [] rest k h = refl
fresh_old ((r, p) ∷ qs) rest k h = ap (λ b. if b then fin.empty ∷ fresh_vars (qs ++ rest) (suc k) else fresh_vars (qs ++ rest) k) (below p k (h r p (inl refl))) ∙ fresh_old qs rest k (λ t q i. h t q (inr i))
  where
    below : (p k : ℕ) → p < k → (p == k) ≡ false
    below p k h = grind (arith, nat_tests)

-- the machines of new processes
pub record NewAt (e : Endpoints) (a : NameId) (s : ℕ) (rs : List NameId) (k : ℕ) (p : ℕ) (m : Machine) : Type 0 where
  pub r : NameId
  pub part : In (r, p) (served_parts rs k)
  pub is : m ≡ record { at = service_of e.services a r; vars = fin.empty; sessions = fin.insert fin.empty a.0 (s, r) }

pub new_at : (e : Endpoints) (a : NameId) (s : ℕ) (rs : List NameId) (k j : ℕ) (m : Machine) → slice_get (served e a s rs) j ≡ Some m → NewAt e a s rs k (k + j) m
new_at e a s [] k j m h = absurd cc
new_at e a s (r ∷ rs) k zero m h = record { r = r; part = inl (ap (λ y. (r, y)) (sum k)); is = cc }
  where
    sum : (k : ℕ) → k + 0 ≡ k
    sum k = omega arith
new_at e a s (r ∷ rs) k (suc j) m h = let z = new_at e a s rs (suc k) j m h in record { r = z.r; part = inr (subst (λ y. In (z.r, y) (served_parts rs (suc k))) (sum k j) z.part); is = z.is }
  where
    sum : (k j : ℕ) → suc k + j ≡ k + suc j
    sum k j = omega arith

one_more : (a b : ℕ) → suc (a + b) ≡ suc a + b
one_more a b = omega arith

-- an element of a list that is followed by another
pub data Either' (xs ys : List Machine) (p : ℕ) (m : Machine) : Type 0 where
  front : slice_get xs p ≡ Some m → Either' xs ys p m
  back : (j : ℕ) → p ≡ length xs + j → slice_get ys j ≡ Some m → Either' xs ys p m

pub split_at : (xs ys : List Machine) (p : ℕ) (m : Machine) → slice_get (xs ++ ys) p ≡ Some m → Either' xs ys p m
split_at [] ys p m h = back p (none_before p) h
  where
    none_before : (p : ℕ) → p ≡ 0 + p
    none_before p = omega arith
split_at (x ∷ xs) ys zero m h = front h
split_at (x ∷ xs) ys (suc p) m h = go (split_at xs ys p m h)
  where
    go : Either' xs ys p m → Either' (x ∷ xs) ys (suc p) m
    go (front i) = front i
    go (back j i k) = back j (ap suc i ∙ one_more (length xs) j) k

-- a process of a list isn't a part of it
pub not_in : (p : ℕ) (qs : List (NameId × ℕ)) → ((r : NameId) → In (r, p) qs → ⊥) → NotIn (Live p) qs
not_in p [] h = tt
not_in p ((t, q) ∷ qs) h = (differ, not_in p qs (λ r i. h r (inr i)))
  where
    differ : (p == q) ≡ false
    differ = go (p == q) refl
      where
        go : (b : Bool) → (p == q) ≡ b → (p == q) ≡ false
        go false i = i
        go true i = absurd (h t (inl (ap (λ y. (t, y)) (eqb-true p q i))))

pub not_in_both : (p : Ref) (xs ys : List (NameId × ℕ)) → NotIn p xs → NotIn p ys → NotIn p (xs ++ ys)
not_in_both p [] ys h g = g
not_in_both p (x ∷ xs) ys h g = (h.0, not_in_both p xs ys h.1 g)

pub not_new : (p : ℕ) (rs : List NameId) (k : ℕ) → p < k → NotIn (Live p) (served_parts rs k)
not_new p [] k h = tt
not_new p (r ∷ rs) k h = (below p k h, not_new p rs (suc k) (omega (arith, h)))
  where
    below : (p k : ℕ) → p < k → (p == k) ≡ false
    below p k h = grind (arith, nat_tests)

pub in_front : (x : NameId × ℕ) (xs ys : List (NameId × ℕ)) → In x xs → In x (xs ++ ys)
in_front x [] ys h = absurd h
in_front x (y ∷ xs) ys (inl i) = inl i
in_front x (y ∷ xs) ys (inr i) = inr (in_front x xs ys i)

pub in_back : (x : NameId × ℕ) (xs ys : List (NameId × ℕ)) → In x ys → In x (xs ++ ys)
in_back x [] ys h = h
in_back x (y ∷ xs) ys h = inr (in_back x xs ys h)
