-- A process that waits for another load than the first of its queue waits on, since nobody else takes from that queue.
use Rattle.std.proofs.Common.{◌≡◌, ◌≢◌, ℕ, ◌==◌, ◌||◌, ◌⊎◌, inl, inr, Bool, true, false, List, [], ◌∷◌, ◌++◌, refl, sym, ap, ◌∙◌, subst, Option, Some, None, ℤ, is_some, if◌then◌else◌}
use Rattle.std.specs.Prelude.{slice_get}
use Rattle.std.specs.FinMap as fin
use Rattle.chor_base.specs.declared.names.NameId.{NameId}
use Rattle.chor_base.specs.declared.value.Load.{Load}
use Rattle.chor_base.specs.declared.event.Event.{Event}
use Rattle.chor_base.specs.declared.event.Event.TheVariants as event
use Rattle.chor_base.specs.declared.event.Why.TheVariants.{Wrong, Absent}
use Rattle.chor_base.specs.NameMap.{Variables}
use Rattle.chor_base.specs.Meaning.{Hosts}
use Rattle.chor_base.specs.Events.{Triple, triple_eq, actors_of, received_by, sent_by}
use Rattle.endpoint_code.specs.declared.code.CodeNode.{CodeNode}
use Rattle.endpoint_code.specs.declared.code.CodeNode.TheVariants.{Join, Send, Recv, Pick, Branch, Throw, Catch, Set, Show, Host, If, Call, End}
use Rattle.endpoint_code.specs.declared.endpoints.Channel.{Channel}
use Rattle.endpoint_code.specs.declared.endpoints.Endpoints.{Endpoints}
use Rattle.endpoint_code.specs.Faults.{IsFaultless}
use Rattle.endpoint_code.specs.Network.{Sessions, Machine, NetworkState, Place, Makes, Taking, Goes, puts, put_if, has_room, queue_of, takes, takes_from, went, takes_value, takes_label, takes_part, node_makes, place_makes, machine_makes, place_of, channel_of, NetworkSteps, acts, begins}
use Rattle.endpoint_code.specs.NetworkRuns.{IsNetworkRun, absent_among, absent_on, waits_to_send, waits_for_first, waits_to_receive, node_waits, place_waits}
use Rattle.endpoint_code.proofs.Fifo.{same_triple, step_keeps}
use Rattle.post_office.specs.Posts.{holding}
use Rattle.post_office.proofs.Steps.{is_start, starts_start, makes_alone}
use Rattle.post_office.proofs.Acting.{StaysFirst}
use Rattle.post_office.proofs.Reached.{run_somewhere}
use Rattle.post_office.proofs.Held.{AreFrom, Process, held_by, HoldsAt, IsUnique, once_in, process_same}
use Rattle.post_office.proofs.Placed.{place_names}
use Rattle.post_office.proofs.HeldOnce.{held_once}

-- a name stands for the receiver's role of a triple
abbrev HasRole : Sessions → Triple → Type 0
HasRole ss t = (k : ℕ) × (fin.get ss k ≡ Some (t.0, t.2))

-- ---- who receives

abbrev Receives : Sessions → Event → Triple → Type 0
Receives ss x t = (received_by t x ≡ []) ⊎ HasRole ss t

module _ (p : ℕ) (ss : Sessions) (x : Event) (k : NetworkState) (t : Triple) where
  is_made : {y : Event} {j : NetworkState} → Some (Makes y j) ≡ Some (Makes x k) → Receives ss y t → Receives ss x t
  is_made {y} {j} h r = (let i : y ≡ x = cc in subst (λ (w : Event). Receives ss w t) i r)

  put_receives : (cap : Option ℕ) (n : NetworkState) (b : NameId) (o : Option (ℕ × NameId)) (ol : Option Load) → puts cap n p b o ol ≡ Some (Makes x k) → Receives ss x t
  put_receives cap n b None ol h = absurd cc
  put_receives cap n b (Some s) None h = absurd cc
  put_receives cap n b (Some (s, a)) (Some l) h = go (has_room cap (queue_of n (s, a, b))) h
    where
      go : (r : Bool) → put_if r n p (s, a, b) l ≡ Some (Makes x k) → Receives ss x t
      go false i = absurd cc
      go true i = is_made i (inl refl)

  take_receives : (n : NetworkState) (y a : NameId) (f : Load → Option Taking) → takes n p a (fin.get ss y.0) f ≡ Some (Makes x k) → Receives ss x t
  take_receives n y a f h = at_role (fin.get ss y.0) refl h
    where
      at_role : (o : Option (ℕ × NameId)) → fin.get ss y.0 ≡ o → takes n p a o f ≡ Some (Makes x k) → Receives ss x t
      at_role None g i = absurd cc
      at_role (Some (s, b)) g i = at_queue (queue_of n (s, a, b)) i
        where
          own : (l : Load) → Receives ss (event.Recv p s a b l) t
          own l = go (triple_eq t (s, a, b)) refl
            where
              go : (r : Bool) → triple_eq t (s, a, b) ≡ r → ((if triple_eq t (s, a, b) then l ∷ [] else []) ≡ []) ⊎ HasRole ss t
              go true e = inr (y.0, g ∙ ap (λ (u : Triple). Some (u.0, u.2)) (sym (same_triple t (s, a, b) e)))
              go false e = inl (ap (λ r. if r then l ∷ [] else []) e)

          at_load : (l : Load) (rest : List Load) (o : Option Taking) → went n p (s, a, b) l rest o ≡ Some (Makes x k) → Receives ss x t
          at_load l rest None j = absurd cc
          at_load l rest (Some (Goes next vars us)) j = is_made j (own l)

          at_queue : (q : List Load) → takes_from n p (s, a, b) f q ≡ Some (Makes x k) → Receives ss x t
          at_queue [] j = absurd cc
          at_queue (l ∷ rest) j = at_load l rest (f l) j

  node_receives : (cap : Option ℕ) (n : NetworkState) (v : ℤ) (vars : Variables) (node : CodeNode) → node_makes cap n p v vars ss node ≡ Some (Makes x k) → Receives ss x t
  node_receives cap n v vars (Send y b e next) h = put_receives cap _ b _ _ h
  node_receives cap n v vars (Pick y b l next) h = put_receives cap _ b _ _ h
  node_receives cap n v vars (Throw y b g next) h = put_receives cap _ b _ _ h
  node_receives cap n v vars (Recv y a z next) h = take_receives n y a _ h
  node_receives cap n v vars (Branch y a arms) h = take_receives n y a _ h
  node_receives cap n v vars (Catch y a g next) h = take_receives n y a _ h
  node_receives cap n v vars (Set y e next) h = is_made h (inl refl)
  node_receives cap n v vars (Show e next) h = is_made h (inl refl)
  node_receives cap n v vars (Host y f a b next) h = is_made h (inl refl)
  node_receives cap n v vars (If e c d) h = is_made h (inl refl)
  node_receives cap n v vars (Join c r y next) h = absurd cc
  node_receives cap n v vars (Call f q us) h = absurd cc
  node_receives cap n v vars End h = absurd cc

-- ---- who waits

absent_only : (e : Endpoints) (c own : NameId) (rs : List NameId) (s : ℕ) (a b : NameId) → absent_among e [] c own rs ≡ Some (Wrong s a b) → ⊥
absent_only e c own [] s a b h = absurd cc
absent_only e c own (r ∷ rs) s a b h = go ((r.0 == own.0) || false) h (absent_only e c own rs s a b)
  where
    go : (t : Bool) → (if t then absent_among e [] c own rs else Some (Absent c r)) ≡ Some (Wrong s a b) → (absent_among e [] c own rs ≡ Some (Wrong s a b) → ⊥) → ⊥
    go true i again = again i
    go false i again = absurd cc

module _ (e : Endpoints) (n : NetworkState) (none : n.machines ≡ []) (vars : Variables) (ss : Sessions) (s : ℕ) (a b : NameId) where
  join_waits : (c own : NameId) (o : Option Channel) → absent_on e n.machines c own o ≡ Some (Wrong s a b) → ⊥
  join_waits c own None h = absurd cc
  join_waits c own (Some k) h = absent_only e c own k.active s a b (sym (ap (λ (ms : List Machine). absent_among e ms c own k.active) none) ∙ h)

  send_waits : (to : NameId) (o : Option (ℕ × NameId)) → waits_to_send None n to o ≡ Some (Wrong s a b) → ⊥
  send_waits to None h = absurd cc
  send_waits to (Some x) h = absurd cc

  receive_waits : (y from : NameId) (f : Load → Option Taking) → waits_to_receive n from (fin.get ss y.0) f ≡ Some (Wrong s a b) → HasRole ss (s, a, b)
  receive_waits y from f h = at_role (fin.get ss y.0) refl h
    where
      at_role : (o : Option (ℕ × NameId)) → fin.get ss y.0 ≡ o → waits_to_receive n from o f ≡ Some (Wrong s a b) → HasRole ss (s, a, b)
      at_role None g i = absurd cc
      at_role (Some (u, r)) g i = at_queue (queue_of n (u, from, r)) i
        where
          at_load : (t : Bool) → (if t then None else Some (Wrong u from r)) ≡ Some (Wrong s a b) → HasRole ss (s, a, b)
          at_load true j = absurd cc
          at_load false j = (let one : u ≡ s = cc in let two : r ≡ b = cc in (y.0, g ∙ (λ i. Some (one i, two i))))

          at_queue : (q : List Load) → waits_for_first u from r f q ≡ Some (Wrong s a b) → HasRole ss (s, a, b)
          at_queue [] j = absurd cc
          at_queue (l ∷ rest) j = at_load (is_some (f l)) j

  node_waiting : (node : CodeNode) → node_waits e None n vars ss node ≡ Some (Wrong s a b) → HasRole ss (s, a, b)
  node_waiting (Join c r k next) h = absurd (join_waits c r (channel_of e.channels c) h)
  node_waiting (Send k to x next) h = absurd (send_waits to (fin.get ss k.0) h)
  node_waiting (Pick k to l next) h = absurd (send_waits to (fin.get ss k.0) h)
  node_waiting (Throw k to g next) h = absurd (send_waits to (fin.get ss k.0) h)
  node_waiting (Recv k from x next) h = receive_waits k from (takes_value next vars ss x) h
  node_waiting (Branch k from arms) h = receive_waits k from (takes_label arms vars ss) h
  node_waiting (Catch k from g next) h = receive_waits k from (takes_part next vars ss g) h
  node_waiting (Set x v next) h = absurd cc
  node_waiting (Show v next) h = absurd cc
  node_waiting (Host x f v w next) h = absurd cc
  node_waiting (If v t u) h = absurd cc
  node_waiting (Call f o us) h = absurd cc
  node_waiting End h = absurd cc

-- ---- the first load

still_first : (xs ys : List Load) (l : Load) → slice_get xs 0 ≡ Some l → slice_get (xs ++ ys) 0 ≡ Some l
still_first [] ys l h = absurd cc
still_first (x ∷ xs) ys l h = h

-- nobody but the process that waits takes from its queue
pub first_stays : (e : Endpoints) → IsFaultless e → (hosts : Hosts) (cap : Option ℕ) (h : List Event) (n k : NetworkState) (x : Event) (p q : ℕ) → IsNetworkRun e hosts cap h n → is_start x ≡ false → actors_of x ≡ p ∷ [] → q ≢ p → NetworkSteps e hosts cap n x k → StaysFirst e n k (slice_get n.machines q)
first_stays e faultless hosts capacity h n k x p q run local actor apart (begins c ps i) m f s a b l w g = (let yes = starts_start e n k c ps x i in absurd cc)
first_stays e faultless hosts capacity h n k x p q run local actor apart (acts r v ok i) m f s a b l w g = at_machine (slice_get n.machines r) refl i
  where
    t : Triple
    t = (s, a, b)

    unique : IsUnique n
    unique = held_once e faultless hosts capacity h n run

    one : r ≡ p
    one = (let by = makes_alone r x k e capacity n v i in let same : r ∷ [] ≡ p ∷ [] = sym by.0.actor ∙ actor in cc)

    -- where a process stands, its sessions are from the names that it has
    here : (y : ℕ) (o : Machine) → slice_get n.machines y ≡ Some o → (place : Place) → place_of e o ≡ Some place → AreFrom place.sessions o.sessions
    here y o there place found = (place_names e o.at o.sessions place (run_somewhere e faultless hosts capacity h n run y o there) (once_in n y o unique there) found).0

    waits : HasRole m.sessions (s, a, b)
    waits = at_place (place_of e m) refl w
      where
        at_place : (o : Option Place) → place_of e m ≡ o → place_waits e None (holding (s, a, b) l) m.vars o ≡ Some (Wrong s a b) → HasRole m.sessions (s, a, b)
        at_place None y z = absurd cc
        at_place (Some place) y z =
            let role = node_waiting e (holding (s, a, b) l) refl m.vars place.sessions s a b place.node z in
            here q m f place y role.0 (s, b) role.1

    keeps : received_by (s, a, b) x ++ queue_of k (s, a, b) ≡ queue_of n (s, a, b) ++ sent_by (s, a, b) x
    keeps = step_keeps e hosts capacity n x k (s, a, b) (acts r v ok i)

    first : received_by (s, a, b) x ≡ [] → slice_get (queue_of k (s, a, b)) 0 ≡ Some l
    first none = ap (λ ls. slice_get ls 0) (sym (ap (λ ls. ls ++ queue_of k (s, a, b)) none) ∙ keeps) ∙ still_first (queue_of n (s, a, b)) (sent_by (s, a, b) x) l g

    clash : (o : Machine) → slice_get n.machines r ≡ Some o → HasRole o.sessions (s, a, b) → ⊥
    clash o there role =
        let mine : HoldsAt n (s, b) (Process q waits.0) = ap (λ (y : Option Machine). held_by y waits.0) f ∙ waits.1 in
        let other : HoldsAt n (s, b) (Process r role.0) = ap (λ (y : Option Machine). held_by y role.0) there ∙ role.1 in
        apart ((process_same q r waits.0 role.0 (unique (s, b) (Process q waits.0) (Process r role.0) mine other)).0 ∙ one)

    at_machine : (o : Option Machine) → slice_get n.machines r ≡ o → machine_makes e capacity n r v o ≡ Some (Makes x k) → slice_get (queue_of k (s, a, b)) 0 ≡ Some l
    at_machine None there j = absurd cc
    at_machine (Some o) there j = at_place (place_of e o) refl j
      where
        at_place : (y : Option Place) → place_of e o ≡ y → place_makes capacity n r v o.vars y ≡ Some (Makes x k) → slice_get (queue_of k (s, a, b)) 0 ≡ Some l
        at_place None y z = absurd cc
        at_place (Some place) y z = elim (node_receives r place.sessions x k (s, a, b) capacity n v o.vars place.node z) [
          | inl none ↦ first none
          | inr role ↦ absurd (clash o there (here r o there place y role.0 (s, b) role.1))
        ]
