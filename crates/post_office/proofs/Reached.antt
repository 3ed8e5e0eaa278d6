-- In each state that a run of a network reaches, the code at which a process stands uses its names well.
use Rattle.std.proofs.Common.{◌≡◌, ℕ, zero, suc, ◌==◌, ◌&&◌, ◌||◌, ◌⊎◌, inl, inr, Bool, true, false, cond, List, [], ◌∷◌, ◌++◌, refl, sym, ap, ◌∙◌, subst, Option, Some, None, ℤ, arith, if◌then◌else◌}
use Rattle.std.specs.Prelude.{slice_get, slice_set, All}
use Rattle.std.specs.FinMap as fin
use Rattle.std.proofs.lemmas.List.Elements.{All-head, All-tail}
use Rattle.std.proofs.lemmas.Bool.Decides.{nat_tests}
use Rattle.std.proofs.lemmas.Bool.{eqb-true, eqb-false, and_parts}
use Rattle.std.proofs.lemmas.Option.{none-some, same_Some}
use Rattle.chor_base.proofs.Lists.{get_set_other}
use Rattle.chor_base.specs.declared.names.NameId.{NameId}
use Rattle.chor_base.specs.declared.value.Value.TheVariants.{Int, Bool as Truth, Text, Part as Endpoint}
use Rattle.chor_base.specs.declared.value.Load.{Load}
use Rattle.chor_base.specs.declared.value.Load.TheVariants.{Value as Carries, Label as Picks}
use Rattle.chor_base.specs.declared.event.Event.{Event}
use Rattle.chor_base.specs.Expr.{truth_of, value_of, term_of}
use Rattle.chor_base.specs.NameMap.{Variables}
use Rattle.chor_base.specs.Meaning.{Hosts}
use Rattle.endpoint_code.specs.declared.code.CodeId.{CodeId}
use Rattle.endpoint_code.specs.declared.code.CodeNode.{CodeNode}
use Rattle.endpoint_code.specs.declared.code.CodeNode.TheVariants.{Join, Send, Recv, Pick, Branch, Throw, Catch, Set, Show, Host, If, Call, End}
use Rattle.endpoint_code.specs.declared.endpoints.Channel.{Channel}
use Rattle.endpoint_code.specs.declared.endpoints.ServiceCode.{ServiceCode}
use Rattle.endpoint_code.specs.declared.endpoints.Process.{Process}
use Rattle.endpoint_code.specs.declared.endpoints.Endpoints.{Endpoints}
use Rattle.endpoint_code.specs.Faults.{IsScoped, IsActive, HasNoNameFault, IsFaultless, has_service}
use Rattle.endpoint_code.specs.Network.{Sessions, Machine, NetworkState, Place, Makes, Taking, Goes, arm_at, in_arm, moved, put_if, puts, has_room, queue_of, takes, takes_from, went, takes_value, takes_label, takes_part, node_makes, place_makes, machine_makes, makes, node_joins, place_joins, joins, one_joiner, joiners, with_machines, service_of, served, channel_of, begun, paired, starts_with, channel_starts, starts, place_of, place_at, standing_all, NetworkSteps, acts, begins, first_state}
use Rattle.endpoint_code.specs.NetworkRuns.{NetworkLeads, IsNetworkRun, joins_there}
use Rattle.post_office.proofs.Casts.{name_same}
use Rattle.post_office.proofs.Scoped.{IsSomewhere, IsNext, next_somewhere, is_placed, place_active}

-- ---- a process joins

-- a node at which a process joins in a role: where it goes on, and what is bound
pub record JoinsAs (node : CodeNode) (vars : Variables) (ss : Sessions) (r : NameId) (s : ℕ) (m : Machine) : Type 0 where
  pub channel : NameId
  pub role : NameId
  pub key : NameId
  pub next : CodeId
  pub node_is : node ≡ Join channel role key next
  pub same_role : role.0 ≡ r.0
  pub machine_is : m ≡ record { at = next; vars = vars; sessions = fin.insert ss key.0 (s, r) }

join_tested : (d o k : NameId) (next : CodeId) (vars : Variables) (ss : Sessions) (c r : NameId) (s : ℕ) (m : Machine) (b : Bool) → ((d.0 == c.0) && (o.0 == r.0)) ≡ b
    → (if b then Some (record { at = next; vars = vars; sessions = fin.insert ss k.0 (s, r) }) else None) ≡ Some m → JoinsAs (Join d o k next) vars ss r s m
join_tested d o k next vars ss c r s m false e h = absurd (none-some m h)
join_tested d o k next vars ss c r s m true e h = record {
  channel = d;
  role = o;
  key = k;
  next = next;
  node_is = refl;
  same_role = eqb-true o.0 r.0 (and_parts (d.0 == c.0) (o.0 == r.0) e).1;
  machine_is = sym (same_Some (record { at = next; vars = vars; sessions = fin.insert ss k.0 (s, r) }) m h);
}

pub node_joined : (node : CodeNode) (vars : Variables) (ss : Sessions) (c r : NameId) (s : ℕ) (m : Machine) → node_joins node vars ss c r s ≡ Some m → JoinsAs node vars ss r s m
node_joined (Join d o k next) vars ss c r s m h = join_tested d o k next vars ss c r s m ((d.0 == c.0) && (o.0 == r.0)) refl h
node_joined (Send k b x next) vars ss c r s m h = absurd (none-some m h)
node_joined (Recv k a x next) vars ss c r s m h = absurd (none-some m h)
node_joined (Pick k b l next) vars ss c r s m h = absurd (none-some m h)
node_joined (Branch k a arms) vars ss c r s m h = absurd (none-some m h)
node_joined (Throw k b g next) vars ss c r s m h = absurd (none-some m h)
node_joined (Catch k a g next) vars ss c r s m h = absurd (none-some m h)
node_joined (Set x v next) vars ss c r s m h = absurd (none-some m h)
node_joined (Show v next) vars ss c r s m h = absurd (none-some m h)
node_joined (Host x g v u next) vars ss c r s m h = absurd (none-some m h)
node_joined (If v t u) vars ss c r s m h = absurd (none-some m h)
node_joined (Call g o ts) vars ss c r s m h = absurd (none-some m h)
node_joined End vars ss c r s m h = absurd (none-some m h)

-- ---- one process goes on

record GoesOn (p : ℕ) (node : CodeNode) (n k : NetworkState) : Type 0 where
  at : CodeId
  vars : Variables
  sessions : Sessions
  machines : k.machines ≡ slice_set n.machines p (record { at = at; vars = vars; sessions = sessions })
  next : IsNext node at

value_next : (next a : CodeId) (vars vs : Variables) (m ss : Sessions) (x : NameId) (l : Load) → takes_value next vars m x l ≡ Some (Goes a vs ss) → next ≡ a
value_next next a vars vs m ss x (Carries (Int z)) h = cc
value_next next a vars vs m ss x (Carries (Truth b)) h = cc
value_next next a vars vs m ss x (Carries (Text t)) h = cc
value_next next a vars vs m ss x (Carries (Endpoint s r)) h = absurd cc
value_next next a vars vs m ss x (Picks l) h = absurd cc

part_next : (next a : CodeId) (vars vs : Variables) (m ss : Sessions) (g : NameId) (l : Load) → takes_part next vars m g l ≡ Some (Goes a vs ss) → next ≡ a
part_next next a vars vs m ss g (Carries (Int z)) h = absurd cc
part_next next a vars vs m ss g (Carries (Truth b)) h = absurd cc
part_next next a vars vs m ss g (Carries (Text t)) h = absurd cc
part_next next a vars vs m ss g (Carries (Endpoint s r)) h = cc
part_next next a vars vs m ss g (Picks l) h = absurd cc

arm_next : (arms : List (NameId × CodeId)) (a : CodeId) (vars vs : Variables) (m ss : Sessions) (l : Load) → takes_label arms vars m l ≡ Some (Goes a vs ss) → (y : NameId) × (arm_at arms y ≡ Some a)
arm_next arms a vars vs m ss (Carries v) h = absurd cc
arm_next arms a vars vs m ss (Picks l) h = (l, go (arm_at arms l) h)
  where
    go : (o : Option CodeId) → in_arm o vars m ≡ Some (Goes a vs ss) → o ≡ Some a
    go None i = absurd cc
    go (Some b) i = let is : b ≡ a = cc in ap Some is

pub made_same : {x y : Event} {n k : NetworkState} → Some (Makes x n) ≡ Some (Makes y k) → n ≡ k
made_same h = cc

module _ (p : ℕ) (node : CodeNode) (x : Event) (k : NetworkState) where
  goes_on : (n : NetworkState) (a : CodeId) (vars : Variables) (ss : Sessions) {y : Event} {j : NetworkState} → Some (Makes y j) ≡ Some (Makes x k) → j.machines ≡ slice_set n.machines p (record { at = a; vars = vars; sessions = ss }) → IsNext node a → GoesOn p node n k
  goes_on n a vars ss {y} {j} h is nx =
      let same = made_same h in
      record { at = a; vars = vars; sessions = ss; machines = sym (ap (λ (w : NetworkState). w.machines) same) ∙ is; next = nx }

  put_goes : (cap : Option ℕ) (n : NetworkState) (a : CodeId) (vars : Variables) (ss : Sessions) (b : NameId) (o : Option (ℕ × NameId)) (ol : Option Load) → IsNext node a → puts cap (moved n p a vars ss) p b o ol ≡ Some (Makes x k) → GoesOn p node n k
  put_goes cap n a vars ss b None ol nx h = absurd cc
  put_goes cap n a vars ss b (Some s) None nx h = absurd cc
  put_goes cap n a vars ss b (Some (s, r)) (Some l) nx h = go (has_room cap (queue_of n (s, r, b))) h
    where
      go : (t : Bool) → put_if t (moved n p a vars ss) p (s, r, b) l ≡ Some (Makes x k) → GoesOn p node n k
      go false i = absurd cc
      go true i = goes_on n a vars ss i refl nx

  take_goes : (n : NetworkState) (a : NameId) (o : Option (ℕ × NameId)) (f : Load → Option Taking) → ((l : Load) (b : CodeId) (vs : Variables) (ss : Sessions) → f l ≡ Some (Goes b vs ss) → IsNext node b) → takes n p a o f ≡ Some (Makes x k) → GoesOn p node n k
  take_goes n a None f nx h = absurd cc
  take_goes n a (Some (s, b)) f nx h = at_queue (queue_of n (s, a, b)) h
    where
      at_load : (l : Load) (rest : List Load) (o : Option Taking) → f l ≡ o → went n p (s, a, b) l rest o ≡ Some (Makes x k) → GoesOn p node n k
      at_load l rest None i j = absurd cc
      at_load l rest (Some (Goes next vars ss)) i j = goes_on n next vars ss j refl (nx l next vars ss i)

      at_queue : (q : List Load) → takes_from n p (s, a, b) f q ≡ Some (Makes x k) → GoesOn p node n k
      at_queue [] j = absurd cc
      at_queue (l ∷ rest) j = at_load l rest (f l) refl j

node_goes : (cap : Option ℕ) (n : NetworkState) (p : ℕ) (v : ℤ) (vars : Variables) (ss : Sessions) (node : CodeNode) (x : Event) (k : NetworkState) → node_makes cap n p v vars ss node ≡ Some (Makes x k) → GoesOn p node n k
node_goes cap n p v vars ss (Send y b e next) x k h = put_goes p (Send y b e next) x k cap n next vars ss b _ _ refl h
node_goes cap n p v vars ss (Pick y b l next) x k h = put_goes p (Pick y b l next) x k cap n next vars ss b _ _ refl h
node_goes cap n p v vars ss (Throw y b g next) x k h = put_goes p (Throw y b g next) x k cap n next vars (fin.remove ss g.0) b _ _ refl h
node_goes cap n p v vars ss (Recv y a z next) x k h = take_goes p (Recv y a z next) x k n a _ _ (λ l b vs us i. value_next next b vars vs ss us z l i) h
node_goes cap n p v vars ss (Branch y a arms) x k h = take_goes p (Branch y a arms) x k n a _ _ (λ l b vs us i. arm_next arms b vars vs ss us l i) h
node_goes cap n p v vars ss (Catch y a g next) x k h = take_goes p (Catch y a g next) x k n a _ _ (λ l b vs us i. part_next next b vars vs ss us g l i) h
node_goes cap n p v vars ss (Set y e next) x k h = goes_on p (Set y e next) x k n next _ ss h refl refl
node_goes cap n p v vars ss (Show e next) x k h = goes_on p (Show e next) x k n next vars ss h refl refl
node_goes cap n p v vars ss (Host y f a b next) x k h = goes_on p (Host y f a b next) x k n next _ ss h refl refl
node_goes cap n p v vars ss (If e c d) x k h = goes_on p (If e c d) x k n (if truth_of (value_of (term_of e) vars) then c else d) vars ss h refl (chosen (truth_of (value_of (term_of e) vars)))
  where
    chosen : (b : Bool) → (c ≡ (if b then c else d)) ⊎ (d ≡ (if b then c else d))
    chosen true = inl refl
    chosen false = inr refl
node_goes cap n p v vars ss (Join c r y next) x k h = absurd cc
node_goes cap n p v vars ss (Call f q us) x k h = absurd cc
node_goes cap n p v vars ss End x k h = absurd cc

-- ---- all processes

-- each stands at scoped code
abbrev pub AreSomewhere : Endpoints → List Machine → Type 0
AreSomewhere e ms = (p : ℕ) (m : Machine) → slice_get ms p ≡ Some m → IsSomewhere e m.at

pub get-set_own : (ms : List Machine) (p : ℕ) (m w : Machine) → slice_get (slice_set ms p m) p ≡ Some w → m ≡ w
get-set_own [] p m w h = absurd cc
get-set_own (x ∷ ms) zero m w h = cc
get-set_own (x ∷ ms) (suc p) m w h = get-set_own ms p m w h

turned : (a b : ℕ) → (a == b) ≡ (b == a)
turned a b = grind (arith, nat_tests)

flipped : (a b c d : ℕ) → ((a == b) && (c == d)) ≡ ((b == a) && (d == c))
flipped a b c d = ap (λ t. t && (c == d)) (turned a b) ∙ ap (λ t. (b == a) && t) (turned c d)

module _ (e : Endpoints) where
  set_somewhere : (ms : List Machine) (p : ℕ) (m : Machine) → AreSomewhere e ms → IsSomewhere e m.at → AreSomewhere e (slice_set ms p m)
  set_somewhere ms p m all one q w h = go (q == p) refl
    where
      go : (b : Bool) → (q == p) ≡ b → IsSomewhere e w.at
      go true i =
          let here : slice_get (slice_set ms p m) p ≡ Some w = subst (λ j. slice_get (slice_set ms p m) j ≡ Some w) (eqb-true q p i) h in
          subst (λ (x : Machine). IsSomewhere e x.at) (get-set_own ms p m w here) one
      go false i = all q w (sym (get_set_other ms p q m (eqb-false q p i)) ∙ h)

  append_somewhere : (ms ns : List Machine) → AreSomewhere e ms → AreSomewhere e ns → AreSomewhere e (ms ++ ns)
  append_somewhere [] ns a b p m h = b p m h
  append_somewhere (x ∷ ms) ns a b zero m h = a zero m h
  append_somewhere (x ∷ ms) ns a b (suc p) m h = append_somewhere ms ns (λ q w i. a (suc q) w i) b p m h

  pub first_somewhere : (ps : List Process) → All (λ p. IsScoped e p.body []) ps → AreSomewhere e (standing_all ps)
  first_somewhere [] all p m h = absurd cc
  first_somewhere (x ∷ ps) all zero m h =
      let is : x.body ≡ m.at = (let w : Machine = record { at = x.body; vars = fin.empty; sessions = fin.empty } in let s : w ≡ m = cc in ap (λ (y : Machine). y.at) s) in
      ([], subst (λ (a : CodeId). IsScoped e a []) is (All-head (λ (p : Process). IsScoped e p.body []) x ps all))
  first_somewhere (x ∷ ps) all (suc p) m h = first_somewhere ps (All-tail (λ (p : Process). IsScoped e p.body []) x ps all) p m h

  -- ---- services

  service_somewhere : (ss : List ServiceCode) (c r : NameId) → All (λ s. IsScoped e s.body (s.channel ∷ [])) ss → has_service c r ss ≡ true → IsSomewhere e (service_of ss c r)
  service_somewhere [] c r all h = absurd cc
  service_somewhere (s ∷ ss) c r all h = go ((s.channel.0 == c.0) && (s.role.0 == r.0)) refl (service_somewhere ss c r (All-tail (λ (x : ServiceCode). IsScoped e x.body (x.channel ∷ [])) s ss all))
    where
      go : (b : Bool) → ((s.channel.0 == c.0) && (s.role.0 == r.0)) ≡ b → (has_service c r ss ≡ true → IsSomewhere e (service_of ss c r)) → IsSomewhere e (if (s.channel.0 == c.0) && (s.role.0 == r.0) then s.body else service_of ss c r)
      go true i more = subst (λ (b : Bool). IsSomewhere e (if b then s.body else service_of ss c r)) (sym i) (s.channel ∷ [], All-head (λ (x : ServiceCode). IsScoped e x.body (x.channel ∷ [])) s ss all)
      go false i more =
          let other : ((c.0 == s.channel.0) && (r.0 == s.role.0)) ≡ false = flipped c.0 s.channel.0 r.0 s.role.0 ∙ i in
          subst (λ (b : Bool). IsSomewhere e (if b then s.body else service_of ss c r)) (sym i) (more (sym (ap (λ (b : Bool). b || has_service c r ss) other) ∙ h))

  served_somewhere : (c : NameId) (s : ℕ) (rs : List NameId) → All (λ s. IsScoped e s.body (s.channel ∷ [])) e.services → All (λ r. has_service c r e.services ≡ true) rs → AreSomewhere e (served e c s rs)
  served_somewhere c s [] bodies all p m h = absurd cc
  served_somewhere c s (r ∷ rs) bodies all zero m h =
      let one = service_somewhere e.services c r bodies (All-head (λ (q : NameId). has_service c q e.services ≡ true) r rs all) in
      let w : Machine = record { at = service_of e.services c r; vars = fin.empty; sessions = fin.insert fin.empty c.0 (s, r) } in
      let is : w ≡ m = cc in
      subst (λ (y : Machine). IsSomewhere e y.at) is one
  served_somewhere c s (r ∷ rs) bodies all (suc p) m h = served_somewhere c s rs bodies (All-tail (λ (q : NameId). has_service c q e.services ≡ true) r rs all) p m h

  pub channel_has : (P : Channel → Type 0) (ks : List Channel) (c : NameId) (k : Channel) → All P ks → channel_of ks c ≡ Some k → P k × (k.name ≡ c)
  channel_has P [] c k all h = absurd cc
  channel_has P (x ∷ ks) c k all h = go (x.name.0 == c.0) refl (channel_has P ks c k (All-tail P x ks all))
    where
      go : (b : Bool) → (x.name.0 == c.0) ≡ b → (channel_of ks c ≡ Some k → P k × (k.name ≡ c)) → P k × (k.name ≡ c)
      go true i more =
          let a : Some x ≡ Some k = sym (ap (λ (b : Bool). cond b (Some x) (channel_of ks c)) i) ∙ h in
          let is : x ≡ k = cc in
          (subst P is (All-head P x ks all), subst (λ (y : Channel). y.name ≡ c) is (name_same x.name c i))
      go false i more = more (sym (ap (λ (b : Bool). cond b (Some x) (channel_of ks c)) i) ∙ h)

-- ---- steps

module _ (e : Endpoints) (faultless : IsFaultless e) where
  names : HasNoNameFault e
  names = faultless.names

  joined_somewhere : (o : Option Machine) (c r : NameId) (s : ℕ) (m : Machine) → ((w : Machine) → o ≡ Some w → IsSomewhere e w.at) → joins e o c r s ≡ Some m → IsSomewhere e m.at
  joined_somewhere None c r s m all h = absurd (none-some m h)
  joined_somewhere (Some w) c r s m all h = at_place (place_of e w) refl h
    where
      at_place : (o : Option Place) → place_of e w ≡ o → place_joins o w.vars c r s ≡ Some m → IsSomewhere e m.at
      at_place None f i = absurd (none-some m i)
      at_place (Some q) f i =
          let placed = is_placed e names w.at w.sessions q (all w refl) f in
          let j = node_joined q.node w.vars q.sessions c r s m i in
          let found = placed.found ∙ ap (λ (z : CodeNode). Some z) j.node_is in
          subst (λ (z : Machine). IsSomewhere e z.at) (sym j.machine_is) (next_somewhere e placed.somewhere.1 (Join j.channel j.role j.key j.next) j.next found refl)

  joiners_somewhere : (n : NetworkState) (c : NameId) (s : ℕ) (ps : List (NameId × ℕ)) (js : List (ℕ × Machine)) → AreSomewhere e n.machines → joiners e n c s ps ≡ Some js → (ms : List Machine) → AreSomewhere e ms → AreSomewhere e (with_machines ms js)
  joiners_somewhere n c s [] js all h ms a = (let is : [] ≡ js = cc in subst (λ (w : List (ℕ × Machine)). AreSomewhere e (with_machines ms w)) is a)
  joiners_somewhere n c s (q ∷ ps) js all h ms a = go (joins e (slice_get n.machines q.1) c q.0 s) refl (joiners e n c s ps) refl (λ ws i. joiners_somewhere n c s ps ws all i) h
    where
      go : (o : Option Machine) → joins e (slice_get n.machines q.1) c q.0 s ≡ o → (os : Option (List (ℕ × Machine))) → joiners e n c s ps ≡ os
          → ((ws : List (ℕ × Machine)) → joiners e n c s ps ≡ Some ws → (us : List Machine) → AreSomewhere e us → AreSomewhere e (with_machines us ws)) → one_joiner q.1 o os ≡ Some js → AreSomewhere e (with_machines ms js)
      go None f os g again i = absurd cc
      go (Some m) f None g again i = absurd cc
      go (Some m) f (Some ws) g again i =
          let is : (q.1, m) ∷ ws ≡ js = cc in
          subst (λ (w : List (ℕ × Machine)). AreSomewhere e (with_machines ms w)) is
          (again ws g (slice_set ms q.1 m) (set_somewhere e ms q.1 m a (joined_somewhere (slice_get n.machines q.1) c q.0 s m (λ w j. all q.1 w j) f)))

  pub started_somewhere : (n k : NetworkState) (c : NameId) (ps : List ℕ) (x : Event) → AreSomewhere e n.machines → starts e n c ps ≡ Some (Makes x k) → AreSomewhere e k.machines
  started_somewhere n k c ps x all h = at_channel (channel_of e.channels c) refl h
    where
      at_joiners : (y : Channel) → channel_of e.channels c ≡ Some y → (qs : List (NameId × ℕ)) (o : Option (List (ℕ × Machine))) → joiners e n c n.sid qs ≡ o → begun e n c y qs o ≡ Some (Makes x k) → AreSomewhere e k.machines
      at_joiners y f qs None g i = absurd cc
      at_joiners y f qs (Some ms) g i =
          let j : NetworkState = record n { machines = with_machines n.machines ms ++ served e c n.sid y.serve; sid = suc n.sid } in
          let is = made_same i in
          let has = channel_has e (λ (z : Channel). All (λ r. has_service z.name r e.services ≡ true) z.serve) e.channels c y names.provided f in
          let provided : All (λ r. has_service c r e.services ≡ true) y.serve = subst (λ (z : NameId). All (λ r. has_service z r e.services ≡ true) y.serve) has.1 has.0 in
          subst (λ (z : NetworkState). AreSomewhere e z.machines) is
          (append_somewhere e (with_machines n.machines ms) (served e c n.sid y.serve) (joiners_somewhere n c n.sid qs ms all g n.machines all) (served_somewhere e c n.sid y.serve names.service_bodies provided))

      at_pairs : (y : Channel) → channel_of e.channels c ≡ Some y → (o : Option (List (NameId × ℕ))) → starts_with e n c y o ≡ Some (Makes x k) → AreSomewhere e k.machines
      at_pairs y f None i = absurd cc
      at_pairs y f (Some []) i = absurd cc
      at_pairs y f (Some (q ∷ qs)) i = at_joiners y f (q ∷ qs) (joiners e n c n.sid (q ∷ qs)) refl i

      at_channel : (o : Option Channel) → channel_of e.channels c ≡ o → channel_starts e n c ps o ≡ Some (Makes x k) → AreSomewhere e k.machines
      at_channel None f i = absurd cc
      at_channel (Some y) f i = at_pairs y f (paired y.active ps) i

  pub acted_somewhere : (cap : Option ℕ) (n k : NetworkState) (p : ℕ) (v : ℤ) (x : Event) → AreSomewhere e n.machines → makes e cap n p v ≡ Some (Makes x k) → AreSomewhere e k.machines
  acted_somewhere cap n k p v x all h = at_machine (slice_get n.machines p) refl h
    where
      at_place : (w : Machine) → slice_get n.machines p ≡ Some w → (o : Option Place) → place_of e w ≡ o → place_makes cap n p v w.vars o ≡ Some (Makes x k) → AreSomewhere e k.machines
      at_place w f None g i = absurd cc
      at_place w f (Some q) g i =
          let placed = is_placed e names w.at w.sessions q (all p w f) g in
          let on = node_goes cap n p v w.vars q.sessions q.node x k i in
          let m : Machine = record { at = on.at; vars = on.vars; sessions = on.sessions } in
          subst (AreSomewhere e) (sym on.machines) (set_somewhere e n.machines p m all (next_somewhere e placed.somewhere.1 q.node on.at placed.found on.next))

      at_machine : (o : Option Machine) → slice_get n.machines p ≡ o → machine_makes e cap n p v o ≡ Some (Makes x k) → AreSomewhere e k.machines
      at_machine None f i = absurd cc
      at_machine (Some w) f i = at_place w f (place_of e w) refl i

  leads_somewhere : (hosts : Hosts) (cap : Option ℕ) (h : List Event) (n last : NetworkState) → AreSomewhere e n.machines → NetworkLeads e hosts cap n h last → AreSomewhere e last.machines
  leads_somewhere hosts capacity [] n last all l = subst (λ (w : NetworkState). AreSomewhere e w.machines) l all
  leads_somewhere hosts capacity (x ∷ xs) n last all l = leads_somewhere hosts capacity xs l.0 last (stepped l.1) l.2
    where
      stepped : NetworkSteps e hosts capacity n x l.0 → AreSomewhere e l.0.machines
      stepped (acts p v a i) = acted_somewhere capacity n l.0 p v x all i
      stepped (begins c ps i) = started_somewhere n l.0 c ps x all i

  pub run_somewhere : (hosts : Hosts) (cap : Option ℕ) (h : List Event) (last : NetworkState) → IsNetworkRun e hosts cap h last → AreSomewhere e last.machines
  run_somewhere hosts capacity h last run = leads_somewhere hosts capacity h (first_state e) last (first_somewhere e e.processes names.process_bodies) run

  -- a process that joins does so in an active role of a channel
  pub reached_active : (hosts : Hosts) (cap : Option ℕ) (h : List Event) (last : NetworkState) → IsNetworkRun e hosts cap h last → (p : ℕ) (c r : NameId) → joins_there (place_at e (slice_get last.machines p)) c r ≡ true → IsActive e c r
  reached_active hosts capacity h last run p c r joined = go (slice_get last.machines p) refl joined
    where
      go : (o : Option Machine) → slice_get last.machines p ≡ o → joins_there (place_at e o) c r ≡ true → IsActive e c r
      go None f i = absurd cc
      go (Some m) f i = place_active e names (place_of e m) c r (λ q g. is_placed e names m.at m.sessions q (run_somewhere hosts capacity h last run p m f) g) i
