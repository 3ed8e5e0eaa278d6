-- A step under a capacity is one without, and finds room.
use Rattle.std.proofs.Common.{◌≡◌, ℕ, Bool, true, false, List, [], ◌∷◌, refl, sym, ap, ◌∙◌, subst, Option, Some, None, ℤ}
use Rattle.std.specs.Prelude.{slice_get}
use Rattle.std.specs.FinMap as fin
use Rattle.chor_base.specs.declared.names.NameId.{NameId}
use Rattle.chor_base.specs.declared.value.Load.{Load}
use Rattle.chor_base.specs.declared.event.Event.{Event}
use Rattle.chor_base.specs.declared.event.Event.TheVariants as event
use Rattle.chor_base.specs.NameMap.{Variables}
use Rattle.chor_base.specs.Meaning.{Hosts}
use Rattle.chor_base.specs.Events.{Triple}
use Rattle.endpoint_code.specs.declared.code.CodeId.{CodeId}
use Rattle.endpoint_code.specs.declared.code.CodeNode.{CodeNode}
use Rattle.endpoint_code.specs.declared.code.CodeNode.TheVariants.{Join, Send, Recv, Pick, Branch, Throw, Catch, Set, Show, Host, If, Call, End}
use Rattle.endpoint_code.specs.declared.endpoints.Endpoints.{Endpoints}
use Rattle.endpoint_code.specs.Network.{Sessions, Machine, NetworkState, Place, Makes, Taking, Goes, moved, put_if, puts, has_room, queue_of, takes, takes_from, went, part_load, node_makes, place_makes, machine_makes, place_of, NetworkSteps, acts, begins}
use Rattle.post_office.proofs.Steps.{FindsRoom, sends_on, is_start, starts_start}

module _ (cap : Option ℕ) (x : Event) (m : NetworkState) where
  abbrev Room : NetworkState → Type 0
  Room n = FindsRoom cap n.queues (sends_on x)

  put_freely : (n : NetworkState) (p : ℕ) (at : CodeId) (vars : Variables) (ss : Sessions) (b : NameId) (o : Option (ℕ × NameId)) (ol : Option Load) → puts cap (moved n p at vars ss) p b o ol ≡ Some (Makes x m) → (puts None (moved n p at vars ss) p b o ol ≡ Some (Makes x m)) × Room n
  put_freely n p at vars ss b None ol h = absurd cc
  put_freely n p at vars ss b (Some s) None h = absurd cc
  put_freely n p at vars ss b (Some (s, a)) (Some l) h = go (has_room cap (queue_of n (s, a, b))) refl h
    where
      go : (r : Bool) → has_room cap (queue_of n (s, a, b)) ≡ r → put_if r (moved n p at vars ss) p (s, a, b) l ≡ Some (Makes x m) → (put_if true (moved n p at vars ss) p (s, a, b) l ≡ Some (Makes x m)) × Room n
      go false e i = absurd cc
      go true e i = (let is : event.Send p s a b l ≡ x = cc in (i, subst (λ (y : Event). FindsRoom cap n.queues (sends_on y)) is e))

  quiet : (n k : NetworkState) (y : Event) → sends_on y ≡ None → Some (Makes y k) ≡ Some (Makes x m) → Room n
  quiet n k y e h =
      let is : y ≡ x = cc in
      subst (λ (o : Option Triple). FindsRoom cap n.queues o) (sym e ∙ ap sends_on is) tt

  take_quiet : (n : NetworkState) (p : ℕ) (a : NameId) (o : Option (ℕ × NameId)) (f : Load → Option Taking) → takes n p a o f ≡ Some (Makes x m) → Room n
  take_quiet n p a None f h = absurd cc
  take_quiet n p a (Some (s, b)) f h = at_queue (queue_of n (s, a, b)) h
    where
      at_load : (l : Load) (rest : List Load) (o : Option Taking) → went n p (s, a, b) l rest o ≡ Some (Makes x m) → Room n
      at_load l rest None j = absurd cc
      at_load l rest (Some (Goes next vars ss)) j = quiet n _ (event.Recv p s a b l) refl j

      at_queue : (q : List Load) → takes_from n p (s, a, b) f q ≡ Some (Makes x m) → Room n
      at_queue [] j = absurd cc
      at_queue (l ∷ rest) j = at_load l rest (f l) j

  node_freely : (n : NetworkState) (p : ℕ) (v : ℤ) (vars : Variables) (ss : Sessions) (node : CodeNode) → node_makes cap n p v vars ss node ≡ Some (Makes x m) → (node_makes None n p v vars ss node ≡ Some (Makes x m)) × Room n
  node_freely n p v vars ss (Send k b e next) h = put_freely n p next vars ss b (fin.get ss k.0) (Some _) h
  node_freely n p v vars ss (Pick k b l next) h = put_freely n p next vars ss b (fin.get ss k.0) (Some _) h
  node_freely n p v vars ss (Throw k b g next) h = put_freely n p next vars (fin.remove ss g.0) b (fin.get ss k.0) (part_load (fin.get ss g.0)) h
  node_freely n p v vars ss (Recv k a y next) h = (h, take_quiet n p a _ _ h)
  node_freely n p v vars ss (Branch k a arms) h = (h, take_quiet n p a _ _ h)
  node_freely n p v vars ss (Catch k a g next) h = (h, take_quiet n p a _ _ h)
  node_freely n p v vars ss (Set y e next) h = (h, quiet n _ _ refl h)
  node_freely n p v vars ss (Show e next) h = (h, quiet n _ _ refl h)
  node_freely n p v vars ss (Host y f a b next) h = (h, quiet n _ _ refl h)
  node_freely n p v vars ss (If e c d) h = (h, quiet n _ _ refl h)
  node_freely n p v vars ss (Join c q k next) h = absurd cc
  node_freely n p v vars ss (Call f q ks) h = absurd cc
  node_freely n p v vars ss End h = absurd cc

  start_quiet : (n : NetworkState) → is_start x ≡ true → Room n
  start_quiet n h = go x h
    where
      go : (y : Event) → is_start y ≡ true → FindsRoom cap n.queues (sends_on y)
      go (event.Start c s ps) i = tt
      go (event.Send p s a b l) i = absurd cc
      go (event.Recv p s a b l) i = tt
      go (event.Test p b) i = tt
      go (event.Set p y v) i = tt
      go (event.Show p v) i = tt
      go (event.Host p y f a b v) i = tt

  pub step_freely : (e : Endpoints) (hosts : Hosts) (n : NetworkState) → NetworkSteps e hosts cap n x m → NetworkSteps e hosts None n x m × Room n
  step_freely e hosts n (begins c ps h) = (begins c ps h, start_quiet n (starts_start e n m c ps x h))
  step_freely e hosts n (acts p v answers h) = (let k = at_machine (slice_get n.machines p) h in (acts p v answers k.0, k.1))
    where
      at_place : (vars : Variables) (o : Option Place) → place_makes cap n p v vars o ≡ Some (Makes x m) → (place_makes None n p v vars o ≡ Some (Makes x m)) × Room n
      at_place vars None i = absurd cc
      at_place vars (Some q) i = node_freely n p v vars q.sessions q.node i

      at_machine : (o : Option Machine) → machine_makes e cap n p v o ≡ Some (Makes x m) → (machine_makes e None n p v o ≡ Some (Makes x m)) × Room n
      at_machine None i = absurd cc
      at_machine (Some w) i = at_place w.vars (place_of e w) i
