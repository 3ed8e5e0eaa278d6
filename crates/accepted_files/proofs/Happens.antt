-- Where an event can happen, some process can step.
use Rattle.std.proofs.Common.{◌≡◌, ℕ, zero, suc, List, [], ◌∷◌, Option, Some, None, ℤ, refl, sym, ap, ◌∙◌, Bool, true, false, is_some, if◌then◌else◌, ◌&&◌, ◌||◌, ◌==◌}
use Rattle.std.specs.Prelude.{slice_get}
use Rattle.std.specs.FinMap as fin
use Rattle.chor_base.specs.declared.names.NameId.{NameId}
use Rattle.chor_base.specs.declared.value.Load.{Load}
use Rattle.chor_base.specs.declared.event.Event.{Event}
use Rattle.chor_base.specs.declared.event.Why.{Why}
use Rattle.chor_base.specs.declared.event.Why.TheVariants.{Full, Wrong, Absent}
use Rattle.chor_base.specs.NameMap.{Variables}
use Rattle.chor_base.specs.Meaning.{Hosts}
use Rattle.chor_base.specs.Events.{Triple}
use Rattle.endpoint_code.specs.declared.code.CodeId.{CodeId}
use Rattle.endpoint_code.specs.declared.code.CodeNode.{CodeNode}
use Rattle.endpoint_code.specs.declared.code.CodeNode.TheVariants.{Join, Send, Recv, Pick, Branch, Throw, Catch, Set, Show, Host, If, Call, End}
use Rattle.endpoint_code.specs.declared.endpoints.Channel.{Channel}
use Rattle.endpoint_code.specs.declared.endpoints.Endpoints.{Endpoints}
use Rattle.endpoint_code.specs.Network.{Sessions, Machine, NetworkState, Place, Made, Makes, Taking, Goes, place_of, queue_of, has_room, put_if, puts, moved, part_load, went, takes_from, takes, node_makes, place_makes, machine_makes, node_joins, place_joins, joins, one_joiner, joiners, begun, one_pair, paired, starts_with, channel_starts, channel_of, starts, NetworkSteps, acts, begins}
use Rattle.endpoint_code.specs.NetworkRuns.{ends_there, has_ended, all_ended, joins_there, is_joined, absent_among, absent_on, waits_to_send, waits_for_first, waits_to_receive, node_waits, place_waits, waits_for, can_step, none_can_step}
use Rattle.endpoint_code.proofs.Standing.{none_at}
use Rattle.std.proofs.lemmas.Bool.{true≢false}
use Rattle.well_formed.proofs.References.{same_name, and_first, and_second, or_rights}

-- some process can step
pub record Able (e : Endpoints) (cap : Option ℕ) (n : NetworkState) : Type 0 where
  pub place : ℕ
  pub machine : Machine
  pub there : slice_get n.machines place ≡ Some machine
  pub can : can_step e cap n machine ≡ true

-- ---- one process

-- a load that is put has room
put_room : (b : Bool) (n : NetworkState) (p : ℕ) (t : Triple) (l : Load) (z : Made) (why : Why) → put_if b n p t l ≡ Some z → (if b then None else Some why) ≡ None
put_room false n p t l z why h = absurd cc
put_room true n p t l z why h = refl

put_open : (cap : Option ℕ) (n : NetworkState) (p : ℕ) (at : CodeId) (vars : Variables) (ss : Sessions) (b : NameId) (o : Option (ℕ × NameId)) (l : Option Load) (z : Made)
    → puts cap (moved n p at vars ss) p b o l ≡ Some z → waits_to_send cap n b o ≡ None
put_open cap n p at vars ss b None l z h = refl
put_open cap n p at vars ss b (Some (s, a)) None z h = absurd cc
put_open cap n p at vars ss b (Some (s, a)) (Some l) z h = put_room (has_room cap (queue_of n (s, a, b))) (moved n p at vars ss) p (s, a, b) l z (Full s a b) h

-- a load that is taken fits
took : (n : NetworkState) (p : ℕ) (t : Triple) (l : Load) (rest : List Load) (o : Option Taking) (z : Made) (why : Why) → went n p t l rest o ≡ Some z → (if is_some o then None else Some why) ≡ None
took n p t l rest None z why h = absurd cc
took n p t l rest (Some (Goes next vars m)) z why h = refl

first_taken : (n : NetworkState) (p s : ℕ) (a b : NameId) (f : Load → Option Taking) (q : List Load) (z : Made) → takes_from n p (s, a, b) f q ≡ Some z → waits_for_first s a b f q ≡ None
first_taken n p s a b f [] z h = absurd cc
first_taken n p s a b f (l ∷ rest) z h = took n p (s, a, b) l rest (f l) z (Wrong s a b) h

take_open : (n : NetworkState) (p : ℕ) (a : NameId) (o : Option (ℕ × NameId)) (f : Load → Option Taking) (z : Made) → takes n p a o f ≡ Some z → waits_to_receive n a o f ≡ None
take_open n p a None f z h = refl
take_open n p a (Some (s, b)) f z h = first_taken n p s a b f (queue_of n (s, a, b)) z h

-- a process that makes something at a node neither has ended nor waits there
record Acts (e : Endpoints) (cap : Option ℕ) (n : NetworkState) (vars : Variables) (q : Place) : Type 0 where
  open_still : ends_there (Some q) ≡ false
  free : node_waits e cap n vars q.sessions q.node ≡ None

node_acts : (e : Endpoints) (cap : Option ℕ) (n : NetworkState) (p : ℕ) (v : ℤ) (vars : Variables) (ss : Sessions) (w : CodeNode) (z : Made) → node_makes cap n p v vars ss w ≡ Some z → Acts e cap n vars (record { node = w; sessions = ss })
node_acts e cap n p v vars ss (Send k b g next) z h = record { open_still = refl; free = put_open cap n p next vars ss b (fin.get ss k.0) _ z h }
node_acts e cap n p v vars ss (Pick k b g next) z h = record { open_still = refl; free = put_open cap n p next vars ss b (fin.get ss k.0) _ z h }
node_acts e cap n p v vars ss (Throw k b g next) z h = record { open_still = refl; free = put_open cap n p next vars (fin.remove ss g.0) b (fin.get ss k.0) (part_load (fin.get ss g.0)) z h }
node_acts e cap n p v vars ss (Recv k a x next) z h = record { open_still = refl; free = take_open n p a (fin.get ss k.0) _ z h }
node_acts e cap n p v vars ss (Branch k a arms) z h = record { open_still = refl; free = take_open n p a (fin.get ss k.0) _ z h }
node_acts e cap n p v vars ss (Catch k a x next) z h = record { open_still = refl; free = take_open n p a (fin.get ss k.0) _ z h }
node_acts e cap n p v vars ss (Set x g next) z h = record { open_still = refl; free = refl }
node_acts e cap n p v vars ss (Show g next) z h = record { open_still = refl; free = refl }
node_acts e cap n p v vars ss (Host x f a b next) z h = record { open_still = refl; free = refl }
node_acts e cap n p v vars ss (If g c d) z h = record { open_still = refl; free = refl }
node_acts e cap n p v vars ss (Join c r k next) z h = absurd cc
node_acts e cap n p v vars ss (Call f q ks) z h = absurd cc
node_acts e cap n p v vars ss End z h = absurd cc

able_at : (e : Endpoints) (cap : Option ℕ) (n : NetworkState) (p : ℕ) (m : Machine) (q : Place) → slice_get n.machines p ≡ Some m → place_of e m ≡ Some q → Acts e cap n m.vars q → Able e cap n
able_at e cap n p m q there is a =
    let goes : has_ended e m ≡ false = ap ends_there is ∙ a.open_still in
    let free : waits_for e cap n m ≡ None = ap (place_waits e cap n m.vars) is ∙ a.free in
    record { place = p; machine = m; there = there; can = ap (λ (b : Bool). if b then false else (if is_some (waits_for e cap n m) then false else true)) goes ∙ ap (λ (w : Option Why). if is_some w then false else true) free }

module _ (e : Endpoints) (cap : Option ℕ) (n : NetworkState) (p : ℕ) (v : ℤ) (z : Made) where
  place_able : (m : Machine) → slice_get n.machines p ≡ Some m → (o : Option Place) → place_of e m ≡ o → place_makes cap n p v m.vars o ≡ Some z → Able e cap n
  place_able m there None is h = absurd cc
  place_able m there (Some q) is h = able_at e cap n p m q there is (node_acts e cap n p v m.vars q.sessions q.node z h)

  machine_able : (o : Option Machine) → slice_get n.machines p ≡ o → machine_makes e cap n p v o ≡ Some z → Able e cap n
  machine_able None there h = absurd cc
  machine_able (Some m) there h = place_able m there (place_of e m) refl h

-- ---- a start

module _ (e : Endpoints) (cap : Option ℕ) (n : NetworkState) (c : NameId) where
  -- a process that joins
  record Joins (r : NameId) (p : ℕ) : Type 0 where
    machine : Machine
    there : slice_get n.machines p ≡ Some machine
    stands : joins_there (place_of e machine) c r ≡ true

  node_joined : (w : CodeNode) (ss : Sessions) (vars : Variables) (r : NameId) (s : ℕ) (m : Machine) → node_joins w vars ss c r s ≡ Some m → joins_there (Some (record { node = w; sessions = ss })) c r ≡ true
  node_joined (Join d q k next) ss vars r s m h = go ((d.0 == c.0) && (q.0 == r.0)) h
    where
      go : (b : Bool) → (if b then Some (record { at = next; vars = vars; sessions = fin.insert ss k.0 (s, r) }) else None) ≡ Some m → b ≡ true
      go true i = refl
      go false i = absurd cc
  node_joined (Send k b g next) ss vars r s m h = absurd cc
  node_joined (Pick k b g next) ss vars r s m h = absurd cc
  node_joined (Throw k b g next) ss vars r s m h = absurd cc
  node_joined (Recv k a x next) ss vars r s m h = absurd cc
  node_joined (Branch k a arms) ss vars r s m h = absurd cc
  node_joined (Catch k a x next) ss vars r s m h = absurd cc
  node_joined (Set x g next) ss vars r s m h = absurd cc
  node_joined (Show g next) ss vars r s m h = absurd cc
  node_joined (Host x f a b next) ss vars r s m h = absurd cc
  node_joined (If g d q) ss vars r s m h = absurd cc
  node_joined (Call f q ks) ss vars r s m h = absurd cc
  node_joined End ss vars r s m h = absurd cc

  place_joined : (o : Option Place) (vars : Variables) (r : NameId) (s : ℕ) (m : Machine) → place_joins o vars c r s ≡ Some m → joins_there o c r ≡ true
  place_joined None vars r s m h = absurd cc
  place_joined (Some q) vars r s m h = node_joined q.node q.sessions vars r s m h

  one_joins : (o : Option Machine) (r : NameId) (p s : ℕ) (m : Machine) → slice_get n.machines p ≡ o → joins e o c r s ≡ Some m → Joins r p
  one_joins None r p s m there h = absurd cc
  one_joins (Some x) r p s m there h = record { machine = x; there = there; stands = place_joined (place_of e x) x.vars r s m h }

  among_joined : (ms : List Machine) (r : NameId) (p : ℕ) (m : Machine) → slice_get ms p ≡ Some m → joins_there (place_of e m) c r ≡ true → is_joined e ms c r ≡ true
  among_joined [] r p m i j = absurd cc
  among_joined (x ∷ ms) r zero m i j = let same : x ≡ m = cc in ap (λ (y : Machine). joins_there (place_of e y) c r || is_joined e ms c r) same ∙ ap (λ (b : Bool). b || is_joined e ms c r) j
  among_joined (x ∷ ms) r (suc p) m i j = or_rights (joins_there (place_of e x) c r) (is_joined e ms c r) (among_joined ms r p m i j)

  -- in each of these roles a process joins
  data AllJoin : List NameId → Type 0 where
    nobody : AllJoin []
    one_more : {r : NameId} {rs : List NameId} → (p : ℕ) → Joins r p → AllJoin rs → AllJoin (r ∷ rs)

  all_join : (s : ℕ) (rs : List NameId) (ps : List ℕ) (qs : List (NameId × ℕ)) (ms : List (ℕ × Machine)) → paired rs ps ≡ Some qs → joiners e n c s qs ≡ Some ms → AllJoin rs
  all_join s [] ps qs ms h j = nobody
  all_join s (r ∷ rs) [] qs ms h j = absurd cc
  all_join s (r ∷ rs) (p ∷ ps) qs ms h j = pairs (paired rs ps) refl h (λ us ns is jk. all_join s rs ps us ns is jk)
    where
      -- so it is with the others
      Others : Type 0
      Others = (us : List (NameId × ℕ)) (ns : List (ℕ × Machine)) → paired rs ps ≡ Some us → joiners e n c s us ≡ Some ns → AllJoin rs

      rest : Others → (us : List (NameId × ℕ)) → paired rs ps ≡ Some us → (o : Option Machine) → joins e (slice_get n.machines p) c r s ≡ o → (k : Option (List (ℕ × Machine))) → joiners e n c s us ≡ k → one_joiner p o k ≡ Some ms → AllJoin (r ∷ rs)
      rest others us is None jo k jk i = absurd cc
      rest others us is (Some m) jo None jk i = absurd cc
      rest others us is (Some m) jo (Some ns) jk i = one_more p (one_joins (slice_get n.machines p) r p s m refl jo) (others us ns is jk)

      pairs : (o : Option (List (NameId × ℕ))) → paired rs ps ≡ o → one_pair r p o ≡ Some qs → Others → AllJoin (r ∷ rs)
      pairs None is i others = absurd cc
      pairs (Some us) is i others =
          let same : qs ≡ (r, p) ∷ us = cc in
          rest others us is (joins e (slice_get n.machines p) c r s) refl (joiners e n c s us) refl (ap (joiners e n c s) (sym same) ∙ j)

  none_absent : (own : NameId) (rs : List NameId) → AllJoin rs → absent_among e n.machines c own rs ≡ None
  none_absent own [] a = refl
  none_absent own (r ∷ rs) (one_more p j a) =
      let here : ((r.0 == own.0) || is_joined e n.machines c r) ≡ true = or_rights (r.0 == own.0) (is_joined e n.machines c r) (among_joined n.machines r p j.machine j.there j.stands) in
      ap (λ (b : Bool). if b then absent_among e n.machines c own rs else Some (Absent c r)) here ∙ none_absent own rs a

  -- who joins can step where somebody joins in each active role
  joiner_acts : (r : NameId) (q : Place) (vars : Variables) → joins_there (Some q) c r ≡ true → ((own : NameId) → absent_on e n.machines c own (channel_of e.channels c) ≡ None) → Acts e cap n vars q
  joiner_acts r q vars h none = at q.node q.sessions h
    where
      at : (w : CodeNode) (ss : Sessions) → joins_there (Some (record { node = w; sessions = ss })) c r ≡ true → Acts e cap n vars (record { node = w; sessions = ss })
      at (Join d o k next) ss i =
          let same : d ≡ c = same_name d c (and_first (d.0 == c.0) (o.0 == r.0) i) in
          record { open_still = refl; free = ap (λ (x : NameId). absent_on e n.machines x o (channel_of e.channels x)) same ∙ none o }
      at (Send k b g next) ss i = absurd cc
      at (Pick k b g next) ss i = absurd cc
      at (Throw k b g next) ss i = absurd cc
      at (Recv k a x next) ss i = absurd cc
      at (Branch k a arms) ss i = absurd cc
      at (Catch k a x next) ss i = absurd cc
      at (Set x g next) ss i = absurd cc
      at (Show g next) ss i = absurd cc
      at (Host x f a b next) ss i = absurd cc
      at (If g u v) ss i = absurd cc
      at (Call f u ks) ss i = absurd cc
      at End ss i = absurd cc

  joins_able : (r : NameId) (p : ℕ) → Joins r p → ((own : NameId) → absent_on e n.machines c own (channel_of e.channels c) ≡ None) → Able e cap n
  joins_able r p j none = go (place_of e j.machine) refl j.stands
    where
      go : (o : Option Place) → place_of e j.machine ≡ o → joins_there o c r ≡ true → Able e cap n
      go None is h = absurd cc
      go (Some q) is h = able_at e cap n p j.machine q j.there is (joiner_acts r q j.machine.vars h none)

  -- of the roles of a start there is a first
  first_able : (k : Channel) → channel_of e.channels c ≡ Some k → (s : ℕ) (rs : List NameId) → k.active ≡ rs → (ps : List ℕ) (q : NameId × ℕ) (qs : List (NameId × ℕ)) (ms : List (ℕ × Machine))
      → paired rs ps ≡ Some (q ∷ qs) → joiners e n c s (q ∷ qs) ≡ Some ms → Able e cap n
  first_able k is s [] all [] q qs ms h j = absurd cc
  first_able k is s [] all (p ∷ ps) q qs ms h j = absurd cc
  first_able k is s (r ∷ rs) all ps q qs ms h j = go (all_join s (r ∷ rs) ps (q ∷ qs) ms h j)
    where
      go : AllJoin (r ∷ rs) → Able e cap n
      go (one_more p here a) =
          joins_able r p here (λ own. ap (absent_on e n.machines c own) is ∙ ap (absent_among e n.machines c own) all ∙ none_absent own (r ∷ rs) (one_more p here a))

  start_able : (ps : List ℕ) (z : Made) → starts e n c ps ≡ Some z → Able e cap n
  start_able ps z h = on (channel_of e.channels c) refl h
    where
      made : (k : Channel) → channel_of e.channels c ≡ Some k → (q : NameId × ℕ) (qs : List (NameId × ℕ)) → paired k.active ps ≡ Some (q ∷ qs) → (o : Option (List (ℕ × Machine))) → joiners e n c n.sid (q ∷ qs) ≡ o → begun e n c k (q ∷ qs) o ≡ Some z → Able e cap n
      made k is q qs pairs None j i = absurd cc
      made k is q qs pairs (Some ms) j i = first_able k is n.sid k.active refl ps q qs ms pairs j

      with_pairs : (k : Channel) → channel_of e.channels c ≡ Some k → (o : Option (List (NameId × ℕ))) → paired k.active ps ≡ o → starts_with e n c k o ≡ Some z → Able e cap n
      with_pairs k is None pairs i = absurd cc
      with_pairs k is (Some []) pairs i = absurd cc
      with_pairs k is (Some (q ∷ qs)) pairs i = made k is q qs pairs (joiners e n c n.sid (q ∷ qs)) refl i

      on : (o : Option Channel) → channel_of e.channels c ≡ o → channel_starts e n c ps o ≡ Some z → Able e cap n
      on None is i = absurd cc
      on (Some k) is i = with_pairs k is (paired k.active ps) refl i

-- ---- any step

step_able : (e : Endpoints) (hosts : Hosts) (cap : Option ℕ) (n m : NetworkState) (x : Event) → NetworkSteps e hosts cap n x m → Able e cap n
step_able e hosts cap n m x (acts p v answers made) = machine_able e cap n p v (Makes x m) (slice_get n.machines p) refl made
step_able e hosts cap n m x (begins c ps made) = start_able e cap n c ps (Makes x m) made

pub nothing_happens : (e : Endpoints) (hosts : Hosts) (cap : Option ℕ) (n : NetworkState) → none_can_step e cap n n.machines ≡ true → (x : Event) (m : NetworkState) → NetworkSteps e hosts cap n x m → ⊥
nothing_happens e hosts cap n none x m s = let a = step_able e hosts cap n m x s in true≢false (sym a.can ∙ none_at e cap n n.machines a.place a.machine none a.there)

-- where all have ended, nobody can step
pub ended_none : (e : Endpoints) (cap : Option ℕ) (n : NetworkState) (ms : List Machine) → all_ended e ms ≡ true → none_can_step e cap n ms ≡ true
ended_none e cap n [] h = refl
ended_none e cap n (m ∷ ms) h =
    let over : has_ended e m ≡ true = and_first (has_ended e m) (all_ended e ms) h in
    let off : can_step e cap n m ≡ false = ap (λ (b : Bool). if b then false else (if is_some (waits_for e cap n m) then false else true)) over in
    ap (λ (b : Bool). if b then false else none_can_step e cap n ms) off ∙ ended_none e cap n ms (and_second (has_ended e m) (all_ended e ms) h)
