-- Where a process can step, the pick rule may take one.
use Rattle.std.proofs.Common.{◌≡◌, ℕ, zero, suc, ◌<◌, ◌==◌, ◌&&◌, ◌||◌, Bool, true, false, cond, List, [], ◌∷◌, length, refl, sym, ap, ◌∙◌, Option, Some, None, arith, is_some}
use Rattle.std.specs.Prelude.{slice_get}
use Rattle.std.proofs.lemmas.Bool.{and_parts, eq-eqb, true≢false}
use Rattle.std.proofs.lemmas.Option.{slice_get_within, same_Some, none-some}
use Rattle.chor_base.specs.declared.names.NameId.{NameId}
use Rattle.chor_base.specs.declared.event.Why.{Why}
use Rattle.chor_base.specs.declared.event.Why.TheVariants.{Absent}
use Rattle.endpoint_code.specs.declared.code.CodeId.{CodeId}
use Rattle.endpoint_code.specs.declared.code.CodeNode.{CodeNode}
use Rattle.endpoint_code.specs.declared.code.CodeNode.TheVariants.{Join, Send, Recv, Pick, Branch, Throw, Catch, Set, Show, Host, If, Call, End}
use Rattle.endpoint_code.specs.declared.endpoints.Endpoints.{Endpoints}
use Rattle.endpoint_code.specs.declared.endpoints.Channel.{Channel}
use Rattle.endpoint_code.specs.Network.{Machine, NetworkState, Sessions, Place, node_at, place_of, channel_of}
use Rattle.endpoint_code.specs.NetworkRuns.{has_ended, ends_there, joins_there, is_joined, absent_among, absent_on, waits_for, place_waits, can_step, none_can_step}
use Rattle.endpoint_code.specs.Scheduled.{is_listed, listed, listed_from, listed_at, first_role}
use Rattle.endpoint_code.specs.Faults.{is_among, IsActive}
use Rattle.net_core.specs.Heads.{Stands, EachStands}
use Rattle.session_starts.proofs.Places.{name_same}
use Rattle.net_core.proofs.Begins.{scoped_join}

-- a place where a process joins
record JoinPlace (o : Option Place) (c r : NameId) : Type 0 where
  session : NameId
  next : CodeId
  sessions : Sessions
  is : o ≡ Some (record { node = Join c r session next; sessions = sessions })

join_node : (ss : Sessions) (c r : NameId) (node : CodeNode) → joins_there (Some (record { node = node; sessions = ss })) c r ≡ true → JoinPlace (Some (record { node = node; sessions = ss })) c r
join_node ss c r (Join d o k next) h =
    let parts = and_parts (d.0 == c.0) (o.0 == r.0) h in
    let one = name_same d c parts.0 in
    let two = name_same o r parts.1 in
    record {
      session = k;
      next = next;
      sessions = ss;
      is =
          ap (λ (x : NameId). Some (let q : Place = record { node = Join x o k next; sessions = ss } in q)) one
          ∙ ap (λ (x : NameId). Some (let q : Place = record { node = Join c x k next; sessions = ss } in q)) two;
    }
join_node ss c r (Send k b x next) h = absurd (true≢false (sym h))
join_node ss c r (Recv k b x next) h = absurd (true≢false (sym h))
join_node ss c r (Pick k b l next) h = absurd (true≢false (sym h))
join_node ss c r (Branch k b arms) h = absurd (true≢false (sym h))
join_node ss c r (Throw k b l next) h = absurd (true≢false (sym h))
join_node ss c r (Catch k b l next) h = absurd (true≢false (sym h))
join_node ss c r (Set x v next) h = absurd (true≢false (sym h))
join_node ss c r (Show v next) h = absurd (true≢false (sym h))
join_node ss c r (Host x f v w next) h = absurd (true≢false (sym h))
join_node ss c r (If v t u) h = absurd (true≢false (sym h))
join_node ss c r (Call f o ns) h = absurd (true≢false (sym h))
join_node ss c r End h = absurd (true≢false (sym h))

join_place : (o : Option Place) (c r : NameId) → joins_there o c r ≡ true → JoinPlace o c r
join_place None c r h = absurd (true≢false (sym h))
join_place (Some p) c r h = join_node p.sessions c r p.node h

-- some process joins
pub joined_at : (e : Endpoints) (ms : List Machine) (c r : NameId) → is_joined e ms c r ≡ true → (i : ℕ) × (m : Machine) × (slice_get ms i ≡ Some m) × (joins_there (place_of e m) c r ≡ true)
joined_at e [] c r h = absurd (true≢false (sym h))
joined_at e (m ∷ ms) c r h = go (joins_there (place_of e m) c r) refl (joined_at e ms c r) h
  where
    go : (b : Bool) → joins_there (place_of e m) c r ≡ b → (is_joined e ms c r ≡ true → (i : ℕ) × (n : Machine) × (slice_get ms i ≡ Some n) × (joins_there (place_of e n) c r ≡ true)) → (b || is_joined e ms c r) ≡ true → (i : ℕ) × (n : Machine) × (slice_get (m ∷ ms) i ≡ Some n) × (joins_there (place_of e n) c r ≡ true)
    go true t more k = (zero, m, refl, t)
    go false t more k = let f = more k in (suc f.0, f.1, f.2, f.3)

pub joined_by : (e : Endpoints) (ms : List Machine) (c r : NameId) (i : ℕ) (m : Machine) → slice_get ms i ≡ Some m → joins_there (place_of e m) c r ≡ true → is_joined e ms c r ≡ true
joined_by e [] c r i m h j = absurd (none-some m h)
joined_by e (x ∷ ms) c r zero m h j = ap (λ (b : Bool). b || is_joined e ms c r) (ap (λ (n : Machine). joins_there (place_of e n) c r) (same_Some x m h) ∙ j)
joined_by e (x ∷ ms) c r (suc i) m h j = go (joins_there (place_of e x) c r) (joined_by e ms c r i m h j)
  where
    go : (b : Bool) → is_joined e ms c r ≡ true → (b || is_joined e ms c r) ≡ true
    go true k = refl
    go false k = k

-- nobody is absent where each role is joined
all_joined : (e : Endpoints) (ms : List Machine) (c own other : NameId) (roles : List NameId) → is_joined e ms c own ≡ true → absent_among e ms c own roles ≡ None → absent_among e ms c other roles ≡ None
all_joined e ms c own other [] j h = refl
all_joined e ms c own other (r ∷ rs) j h = go (r.0 == own.0) (is_joined e ms c r) refl refl h (λ k. all_joined e ms c own other rs j k)
  where
    join_in : (b : Bool) → is_joined e ms c r ≡ true → cond (b || is_joined e ms c r) (absent_among e ms c other rs) (Some (Absent c r)) ≡ absent_among e ms c other rs
    join_in true t = refl
    join_in false t = ap (λ (b : Bool). cond b (absent_among e ms c other rs) (Some (Absent c r))) t

    go : (a b : Bool) → (r.0 == own.0) ≡ a → is_joined e ms c r ≡ b → cond (a || b) (absent_among e ms c own rs) (Some (Absent c r)) ≡ None → (absent_among e ms c own rs ≡ None → absent_among e ms c other rs ≡ None) → absent_among e ms c other (r ∷ rs) ≡ None
    go true b s t k more = join_in (r.0 == other.0) (ap (is_joined e ms c) (name_same r own s) ∙ j) ∙ more k
    go false true s t k more = join_in (r.0 == other.0) t ∙ more k
    go false false s t k more = absurd (none-some _ (sym k))

role_joined : (e : Endpoints) (ms : List Machine) (c own r : NameId) (rs : List NameId) → is_joined e ms c own ≡ true → absent_among e ms c own (r ∷ rs) ≡ None → is_joined e ms c r ≡ true
role_joined e ms c own r rs j h = go (r.0 == own.0) (is_joined e ms c r) refl refl h
  where
    go : (a b : Bool) → (r.0 == own.0) ≡ a → is_joined e ms c r ≡ b → cond (a || b) (absent_among e ms c own rs) (Some (Absent c r)) ≡ None → b ≡ true
    go true b s t k = sym t ∙ ap (is_joined e ms c) (name_same r own s) ∙ j
    go false true s t k = refl
    go false false s t k = absurd (none-some _ (sym k))

-- a process at a join can step where nobody is absent
join_steps : (e : Endpoints) (cap : Option ℕ) (n : NetworkState) (m : Machine) (c r : NameId) → JoinPlace (place_of e m) c r → absent_on e n.machines c r (channel_of e.channels c) ≡ None → can_step e cap n m ≡ true
join_steps e cap n m c r p h =
    let ended : has_ended e m ≡ false = ap ends_there p.is in
    let free : waits_for e cap n m ≡ None = ap (place_waits e cap n m.vars) p.is ∙ h in
    ap (λ (b : Bool). cond b false (cond (is_some (waits_for e cap n m)) false true)) ended ∙ ap (λ (w : Option Why). cond (is_some w) false true) free

steps_free : (e : Endpoints) (cap : Option ℕ) (n : NetworkState) (m : Machine) → can_step e cap n m ≡ true → waits_for e cap n m ≡ None
steps_free e cap n m h = go (has_ended e m) (waits_for e cap n m) h
  where
    go : (b : Bool) (o : Option Why) → cond b false (cond (is_some o) false true) ≡ true → o ≡ None
    go true o h = absurd (true≢false (sym h))
    go false None h = refl
    go false (Some w) h = absurd (true≢false (sym h))

-- a process that is listed
abbrev Listed : Endpoints → Option ℕ → NetworkState → Type 0
Listed e cap n = (i : ℕ) × (m : Machine) × (slice_get n.machines i ≡ Some m) × (is_listed e cap n m ≡ true)

-- where a process joins and can step, one that joins in the channel's first role can too
leader : (e : Endpoints) (cap : Option ℕ) (n : NetworkState) (i : ℕ) (m : Machine) (c r : NameId) → slice_get n.machines i ≡ Some m → JoinPlace (place_of e m) c r → IsActive e c r → can_step e cap n m ≡ true → Listed e cap n
leader e cap n i m c r there p active steps = go active.0.active refl
  where
    self_joins : joins_there (place_of e m) c r ≡ true
    self_joins =
        ap (λ (o : Option Place). joins_there o c r) p.is
        ∙ ap (λ (b : Bool). b && (r.0 == r.0)) (eq-eqb c.0 c.0 refl) ∙ eq-eqb r.0 r.0 refl

    joined : is_joined e n.machines c r ≡ true
    joined = joined_by e n.machines c r i m there self_joins

    free : absent_on e n.machines c r (channel_of e.channels c) ≡ None
    free = sym (ap (place_waits e cap n m.vars) p.is) ∙ steps_free e cap n m steps

    here : absent_among e n.machines c r active.0.active ≡ None
    here = sym (ap (absent_on e n.machines c r) active.1) ∙ free

    go : (roles : List NameId) → active.0.active ≡ roles → Listed e cap n
    go [] s = let a : is_among r [] ≡ true = sym (ap (is_among r) s) ∙ active.2 in absurd (true≢false (sym a))
    go (f ∷ fs) s =
        let all : absent_among e n.machines c r (f ∷ fs) ≡ None = sym (ap (absent_among e n.machines c r) s) ∙ here in
        let first = joined_at e n.machines c f (role_joined e n.machines c r f fs joined all) in
        let place = join_place (place_of e first.1) c f first.3 in
        let none : absent_on e n.machines c f (channel_of e.channels c) ≡ None =
        ap (absent_on e n.machines c f) active.1 ∙ ap (absent_among e n.machines c f) s ∙ all_joined e n.machines c r f (f ∷ fs) joined all
        in
        let leads : listed_at e (place_of e first.1) ≡ true =
        ap (listed_at e) place.is ∙ ap (λ (o : Option Channel). first_role o f) active.1
        ∙ ap (λ (rs : List NameId). first_role (Some (record active.0 { active = rs })) f) s
        ∙ eq-eqb f.0 f.0 refl
        in
        (first.0, first.1, first.2, ap (λ (b : Bool). b && listed_at e (place_of e first.1)) (join_steps e cap n first.1 c f place none) ∙ leads)

-- where a process can step, one is listed
listed_one : (e : Endpoints) (cap : Option ℕ) (n : NetworkState) (i : ℕ) (m : Machine) (node : CodeNode) → Stands e n i node → slice_get n.machines i ≡ Some m → can_step e cap n m ≡ true → Listed e cap n
listed_one e cap n i m node s there steps = go node s.at_node.found s.at_node.place
  where
    same : s.machine ≡ m
    same = same_Some s.machine m (sym s.there ∙ there)

    itself : listed_at e (place_of e s.machine) ≡ true → Listed e cap n
    itself h = (i, m, there, ap (λ (b : Bool). b && listed_at e (place_of e m)) steps ∙ ap (λ (x : Machine). listed_at e (place_of e x)) (sym same) ∙ h)

    go : (x : CodeNode) → node_at e s.at_node.id ≡ Some x → place_of e s.machine ≡ Some (record { node = x; sessions = s.sessions }) → Listed e cap n
    go (Join c r k next) f p =
        leader e cap n i m c r there (record { session = k; next = next; sessions = s.sessions; is = ap (place_of e) (sym same) ∙ p }) (scoped_join s.at_node.bound.scoped c r k next f) steps
    go (Send k b x next) f p = itself (ap (listed_at e) p)
    go (Recv k b x next) f p = itself (ap (listed_at e) p)
    go (Pick k b l next) f p = itself (ap (listed_at e) p)
    go (Branch k b arms) f p = itself (ap (listed_at e) p)
    go (Throw k b l next) f p = itself (ap (listed_at e) p)
    go (Catch k b l next) f p = itself (ap (listed_at e) p)
    go (Set x v next) f p = itself (ap (listed_at e) p)
    go (Show v next) f p = itself (ap (listed_at e) p)
    go (Host x g v w next) f p = itself (ap (listed_at e) p)
    go (If v t u) f p = itself (ap (listed_at e) p)
    go (Call g o ss) f p = itself (ap (listed_at e) p)
    go End f p = itself (ap (listed_at e) p)

not_empty : {x : ℕ} {xs : List ℕ} → x ∷ xs ≡ [] → ⊥
not_empty h = cc

unlisted : (e : Endpoints) (cap : Option ℕ) (n : NetworkState) (i : ℕ) (ms : List Machine) → listed_from e cap n i ms ≡ [] → (j : ℕ) (m : Machine) → slice_get ms j ≡ Some m → is_listed e cap n m ≡ false
unlisted e cap n i [] h j m t = absurd (none-some m t)
unlisted e cap n i (x ∷ ms) h zero m t = go (is_listed e cap n x) refl h
  where
    go : (b : Bool) → is_listed e cap n x ≡ b → cond b (i ∷ listed_from e cap n (suc i) ms) (listed_from e cap n (suc i) ms) ≡ [] → is_listed e cap n m ≡ false
    go true s k = absurd (not_empty k)
    go false s k = ap (is_listed e cap n) (sym (same_Some x m t)) ∙ s
unlisted e cap n i (x ∷ ms) h (suc j) m t = go (is_listed e cap n x) h (λ k. unlisted e cap n (suc i) ms k j m t)
  where
    go : (b : Bool) → cond b (i ∷ listed_from e cap n (suc i) ms) (listed_from e cap n (suc i) ms) ≡ [] → (listed_from e cap n (suc i) ms ≡ [] → is_listed e cap n m ≡ false) → is_listed e cap n m ≡ false
    go true k more = absurd (not_empty k)
    go false k more = more k

none_steps : (e : Endpoints) (cap : Option ℕ) (n : NetworkState) (ms : List Machine) → ((j : ℕ) (m : Machine) → slice_get ms j ≡ Some m → can_step e cap n m ≡ false) → none_can_step e cap n ms ≡ true
none_steps e cap n [] h = refl
none_steps e cap n (m ∷ ms) h = ap (λ (b : Bool). cond b false (none_can_step e cap n ms)) (h zero m refl) ∙ none_steps e cap n ms (λ j x t. h (suc j) x t)

-- where the pick rule has nothing to take, no process can step
pub none_listed : (e : Endpoints) (cap : Option ℕ) (n : NetworkState) → EachStands e n → listed e cap n ≡ [] → none_can_step e cap n n.machines ≡ true
none_listed e cap n stand h = none_steps e cap n n.machines each
  where
    each : (j : ℕ) (m : Machine) → slice_get n.machines j ≡ Some m → can_step e cap n m ≡ false
    each j m t = go (can_step e cap n m) refl
      where
        go : (b : Bool) → can_step e cap n m ≡ b → b ≡ false
        go false s = refl
        go true s =
            let p = stand j (slice_get_within n.machines j m t) in
            let l = listed_one e cap n j m p.0 p.1 t s in
            sym l.3 ∙ unlisted e cap n 0 n.machines h l.0 l.1 l.2

-- and where no process can step, it has nothing to take
pub listed_none : (e : Endpoints) (cap : Option ℕ) (n : NetworkState) (i : ℕ) (ms : List Machine) → none_can_step e cap n ms ≡ true → listed_from e cap n i ms ≡ []
listed_none e cap n i [] h = refl
listed_none e cap n i (m ∷ ms) h = go (can_step e cap n m) refl h (λ k. listed_none e cap n (suc i) ms k)
  where
    go : (b : Bool) → can_step e cap n m ≡ b → cond b false (none_can_step e cap n ms) ≡ true → (none_can_step e cap n ms ≡ true → listed_from e cap n (suc i) ms ≡ []) → cond (can_step e cap n m && listed_at e (place_of e m)) (i ∷ listed_from e cap n (suc i) ms) (listed_from e cap n (suc i) ms) ≡ []
    go true s k more = absurd (true≢false (sym k))
    go false s k more = ap (λ (b : Bool). cond (b && listed_at e (place_of e m)) (i ∷ listed_from e cap n (suc i) ms) (listed_from e cap n (suc i) ms)) s ∙ more k

pub empty_of_length : (xs : List ℕ) → length xs ≡ 0 → xs ≡ []
empty_of_length [] h = refl
empty_of_length (x ∷ xs) h = absurd (omega arith)

-- a place within a list has an item
pub some_there : (xs : List ℕ) (i : ℕ) → i < length xs → slice_get xs i ≡ None → ⊥
some_there [] i lt h = omega arith
some_there (x ∷ xs) zero lt h = cc
some_there (x ∷ xs) (suc i) lt h = some_there xs i (omega arith) h
