-- In each state that a run of a network reaches, each role is held once.
use Rattle.std.proofs.Common.{◌≡◌, ◌≢◌, ℕ, zero, suc, ◌<◌, ◌==◌, ◌||◌, ◌⊎◌, inl, inr, Bool, true, false, List, [], ◌∷◌, ◌++◌, length, refl, sym, ap, ◌∙◌, subst, Option, Some, None, arith, append_assoc}
use Rattle.std.specs.Prelude.{slice_get, slice_set, map}
use Rattle.std.specs.FinMap as fin
use Rattle.std.specs.Ordering.{nat_cmp}
use Rattle.std.proofs.lemmas.Bool.{eq-eqb}
use Rattle.std.proofs.lemmas.Option.{none-some, same_Some}
use Rattle.std.proofs.lemmas.List.{append-nil}
use Rattle.chor_base.proofs.Lists.{get_set_other}
use Rattle.chor_base.specs.declared.names.NameId.{NameId}
use Rattle.chor_base.specs.declared.event.Event.{Event}
use Rattle.chor_base.specs.NameMap.{Variables}
use Rattle.chor_base.specs.Meaning.{Hosts}
use Rattle.endpoint_code.specs.declared.code.CodeId.{CodeId}
use Rattle.endpoint_code.specs.declared.code.CodeNode.TheVariants.{Join}
use Rattle.endpoint_code.specs.declared.endpoints.Channel.{Channel}
use Rattle.endpoint_code.specs.declared.endpoints.Process.{Process as Named}
use Rattle.endpoint_code.specs.declared.endpoints.Endpoints.{Endpoints}
use Rattle.endpoint_code.specs.Faults.{AreDistinct, one_more, is_among, IsFaultless}
use Rattle.endpoint_code.specs.Network.{Sessions, Machine, NetworkState, Place, Makes, place_of, moved, place_joins, joins, one_joiner, joiners, with_machines, service_of, served, channel_of, begun, paired, one_pair, starts_with, channel_starts, starts, standing_all, NetworkSteps, acts, begins, first_state}
use Rattle.endpoint_code.specs.NetworkRuns.{NetworkLeads, IsNetworkRun}
use Rattle.post_office.proofs.Starting.{NotIn}
use Rattle.post_office.proofs.Scoped.{IsSomewhere}
use Rattle.post_office.proofs.Reached.{AreSomewhere, node_joined, made_same, acted_somewhere, started_somewhere, first_somewhere, channel_has}
use Rattle.post_office.proofs.Held.{AreOnce, AreFrom, Holder, Process, Transit, held_by, HoldsAt, IsUnique, IsNowhere, added_unique, once_in, was_held, replaced_unique, get_bound, none_bound}
use Rattle.post_office.proofs.Sound.{ArePlain, IsSound, plain_set, bound_split}
use Rattle.post_office.proofs.Placed.{place_names, acted_sound}

-- ---- a start

-- a process that joins a session has it under one more name
record HasOneMore (e : Endpoints) (w : Machine) (c r : NameId) (s : ℕ) (m : Machine) : Type 0 where
  sessions : Sessions
  key : ℕ
  from : AreFrom sessions w.sessions
  once : AreOnce sessions
  is : m.sessions ≡ fin.insert sessions key (s, r)
  vars : m.vars ≡ w.vars

joined_more : (e : Endpoints) (w : Machine) (c r : NameId) (s : ℕ) (m : Machine) → IsSomewhere e w.at → AreOnce w.sessions → joins e (Some w) c r s ≡ Some m → HasOneMore e w c r s m
joined_more e w c r s m somewhere once h = at_place (place_of e w) refl h
  where
    at_place : (o : Option Place) → place_of e w ≡ o → place_joins o w.vars c r s ≡ Some m → HasOneMore e w c r s m
    at_place None f i = absurd (none-some m i)
    at_place (Some q) f i =
        let names = place_names e w.at w.sessions q somewhere once f in
        let j = node_joined q.node w.vars q.sessions c r s m i in
        record { sessions = q.sessions; key = j.key.0; from = names.0; once = names.1; is = ap (λ (z : Machine). z.sessions) j.machine_is; vars = ap (λ (z : Machine). z.vars) j.machine_is }

join_role : {d o k f p l : NameId} {a b : CodeId} → Join d o k a ≡ Join f p l b → o.0 ≡ p.0
join_role h = cc

-- a process joins a channel in one role only
one_role : (e : Endpoints) (o : Option Machine) (c r q : NameId) (s : ℕ) (m k : Machine) → joins e o c r s ≡ Some m → joins e o c q s ≡ Some k → r.0 ≡ q.0
one_role e None c r q s m k h g = absurd (none-some m h)
one_role e (Some w) c r q s m k h g = at_place (place_of e w) h g
  where
    at_place : (o : Option Place) → place_joins o w.vars c r s ≡ Some m → place_joins o w.vars c q s ≡ Some k → r.0 ≡ q.0
    at_place None i j = absurd (none-some m i)
    at_place (Some x) i j =
        let one = node_joined x.node w.vars x.sessions c r s m i in
        let two = node_joined x.node w.vars x.sessions c q s k j in
        sym one.same_role ∙ join_role (sym one.node_is ∙ two.node_is) ∙ two.same_role

-- in the middle of the start of session s: the roles that are still to come are not yet held
record IsStarting (n : NetworkState) (s : ℕ) (roles : List NameId) : Type 0 where
  unique : IsUnique n
  started : (v : ℕ × NameId) (l : Holder) → HoldsAt n v l → (v.0 < s) ⊎ ((v.0 ≡ s) × (is_among v.1 roles ≡ false))
  plain : (p : ℕ) (m : Machine) → slice_get n.machines p ≡ Some m → ArePlain m.vars

among_own : (r : NameId) (rs : List NameId) → is_among r (r ∷ rs) ≡ true
among_own r rs = go (r.0 == r.0) (eq-eqb r.0 r.0 refl)
  where
    go : (b : Bool) → b ≡ true → (b || is_among r rs) ≡ true
    go true h = refl
    go false h = absurd cc

not_rest : (x r : NameId) (rs : List NameId) → is_among x (r ∷ rs) ≡ false → is_among x rs ≡ false
not_rest x r rs h = go (x.0 == r.0) h
  where
    go : (b : Bool) → (b || is_among x rs) ≡ false → is_among x rs ≡ false
    go true i = absurd cc
    go false i = i

not_below : (s : ℕ) → s < s → ⊥
not_below s lt = omega arith

fresh : {n : NetworkState} {s : ℕ} {r : NameId} {rs : List NameId} → IsStarting n s (r ∷ rs) → IsNowhere n (s, r)
fresh {n} {s} {r} {rs} starting l h = go (starting.started (s, r) l h)
  where
    go : (s < s) ⊎ ((s ≡ s) × (is_among r (r ∷ rs) ≡ false)) → ⊥
    go (inl lt) = not_below s lt
    go (inr x) = (let yes = among_own r rs in let no : is_among r (r ∷ rs) ≡ false = x.1 in cc)

-- one more holder of a new role
one_more_held : (n k : NetworkState) (s : ℕ) (r : NameId) (rs : List NameId) (at : Holder) → is_among r rs ≡ false → IsStarting n s (r ∷ rs)
    → ((v : ℕ × NameId) (l : Holder) → HoldsAt k v l → ((l ≡ at) × ((s, r) ≡ v)) ⊎ HoldsAt n v l) → ((p : ℕ) (m : Machine) → slice_get k.machines p ≡ Some m → ArePlain m.vars) → IsStarting k s rs
one_more_held n k s r rs at apart starting split plain = record {
  unique = added_unique n k (s, r) at split (fresh starting) starting.unique;
  started = λ v l h. elim (split v l h) [
    | inl x ↦ inr (subst (λ (y : ℕ × NameId). (y.0 ≡ s) × (is_among y.1 rs ≡ false)) x.1 (refl, apart))
    | inr x ↦ elim (starting.started v l x) [ inl lt ↦ inl lt | inr y ↦ inr (y.0, not_rest v.1 r rs y.1) ]
  ];
  plain = plain;
}

-- the machines of these parts are as before the start
Untouched : NetworkState → List Machine → List (NameId × ℕ) → Type 0
Untouched n ms [] = Unit {0}
Untouched n ms (q ∷ ps) = (slice_get ms q.1 ≡ slice_get n.machines q.1) × Untouched n ms ps

untouched_set : (n : NetworkState) (ms : List Machine) (ps : List (NameId × ℕ)) (p : ℕ) (m : Machine) → NotIn p (map (λ q. q.1) ps) → Untouched n ms ps → Untouched n (slice_set ms p m) ps
unfolding Untouched
untouched_set n ms [] p m h u = tt
untouched_set n ms (q ∷ ps) p m h u = (get_set_other ms p q.1 m (λ e. h.0 (sym e)) ∙ u.0, untouched_set n ms ps p m h.1 u.1)

untouched_all : (n : NetworkState) (ps : List (NameId × ℕ)) → Untouched n n.machines ps
unfolding Untouched
untouched_all n [] = tt
untouched_all n (q ∷ ps) = (refl, untouched_all n ps)

-- the roles of parts, and then others
abbrev and_roles : List (NameId × ℕ) → List NameId → List NameId
and_roles ps rs = map (λ q. q.0) ps ++ rs

none_set : ArePlain (fin.empty {R = nat_cmp})
none_set x v h = (let j : None ≡ Some v = sym (fin.get-empty nat_cmp x) ∙ h in absurd cc)

distinct_back : (xs ys : List NameId) → AreDistinct (xs ++ ys) → AreDistinct ys
distinct_back [] ys d = d
distinct_back (x ∷ xs) ys (one_more n d) = distinct_back xs ys d

starting_moved : (n : NetworkState) (s : ℕ) (roles : List NameId) (p : ℕ) (w : Machine) → slice_get n.machines p ≡ Some w → IsStarting n s roles → (at : CodeId) (vars : Variables) (ss : Sessions) → AreFrom ss w.sessions → AreOnce ss → ArePlain vars → IsStarting (moved n p at vars ss) s roles
starting_moved n s roles p w there starting at vars ss from once plain =
    let m : Machine = record { at = at; vars = vars; sessions = ss } in
    record {
      unique = replaced_unique n p w m there from once starting.unique;
      started = λ v l h. (let o = was_held n p w m there from v l h in starting.started v o.0 o.1);
      plain = plain_set n.machines p m starting.plain plain;
    }

not_again : (e : Endpoints) (n : NetworkState) (c : NameId) (s : ℕ) (q : NameId × ℕ) (m : Machine) → joins e (slice_get n.machines q.1) c q.0 s ≡ Some m → (ps : List (NameId × ℕ)) (js : List (ℕ × Machine)) → joiners e n c s ps ≡ Some js → (rs : List NameId) → is_among q.0 (and_roles ps rs) ≡ false → NotIn q.1 (map (λ x. x.1) ps)
not_again e n c s q m one [] js h rs apart = tt
not_again e n c s q m one (y ∷ ps) js h rs apart = (other, rest (λ ws f. not_again e n c s q m one ps ws f rs (not_rest q.0 y.0 (and_roles ps rs) apart)))
  where
    other : q.1 ≢ y.1
    other same = go (joins e (slice_get n.machines y.1) c y.0 s) refl (joiners e n c s ps) h
      where
        go : (o : Option Machine) → joins e (slice_get n.machines y.1) c y.0 s ≡ o → (os : Option (List (ℕ × Machine))) → one_joiner y.1 o os ≡ Some js → ⊥
        go None f os i = absurd (none-some js i)
        go (Some k) f os i =
            let here : joins e (slice_get n.machines q.1) c y.0 s ≡ Some k = ap (λ x. joins e (slice_get n.machines x) c y.0 s) same ∙ f in
            let role : q.0.0 ≡ y.0.0 = one_role e (slice_get n.machines q.1) c q.0 y.0 s m k one here in
            clash (q.0.0 == y.0.0) (eq-eqb q.0.0 y.0.0 role) apart
          where
            clash : (b : Bool) → b ≡ true → (b || is_among q.0 (and_roles ps rs)) ≡ false → ⊥
            clash true a b = absurd cc
            clash false a b = absurd cc

    rest : ((ws : List (ℕ × Machine)) → joiners e n c s ps ≡ Some ws → NotIn q.1 (map (λ x. x.1) ps)) → NotIn q.1 (map (λ x. x.1) ps)
    rest again = go (joins e (slice_get n.machines y.1) c y.0 s) (joiners e n c s ps) refl h
      where
        go : (o : Option Machine) (os : Option (List (ℕ × Machine))) → joiners e n c s ps ≡ os → one_joiner y.1 o os ≡ Some js → NotIn q.1 (map (λ x. x.1) ps)
        go None os f i = absurd (none-some js i)
        go (Some k) None f i = absurd (none-some js i)
        go (Some k) (Some ws) f i = again ws f

-- the processes of a start join one after another
joined_starting : (e : Endpoints) (n : NetworkState) (c : NameId) (s : ℕ) → AreSomewhere e n.machines → IsUnique n → (ps : List (NameId × ℕ)) (js : List (ℕ × Machine)) → joiners e n c s ps ≡ Some js → (rs : List NameId) → AreDistinct (and_roles ps rs)
    → (ms : List Machine) → Untouched n ms ps → IsStarting (record n { machines = ms }) s (and_roles ps rs) → IsStarting (record n { machines = with_machines ms js }) s rs
unfolding Untouched
joined_starting e n c s all unique [] js h rs d ms u starting = (let is = same_Some [] js h in subst (λ (w : List (ℕ × Machine)). IsStarting (record n { machines = with_machines ms w }) s rs) is starting)
joined_starting e n c s all unique (q ∷ ps) js h rs (one_more apart d) ms u starting =
    go (slice_get n.machines q.1) refl (joiners e n c s ps) refl h (λ ws f ns v more. joined_starting e n c s all unique ps ws f rs d ns v more)
  where
    go : (o : Option Machine) → slice_get n.machines q.1 ≡ o → (os : Option (List (ℕ × Machine))) → joiners e n c s ps ≡ os → one_joiner q.1 (joins e (slice_get n.machines q.1) c q.0 s) os ≡ Some js
        → ((ws : List (ℕ × Machine)) → joiners e n c s ps ≡ Some ws → (ns : List Machine) → Untouched n ns ps → IsStarting (record n { machines = ns }) s (and_roles ps rs) → IsStarting (record n { machines = with_machines ns ws }) s rs)
        → IsStarting (record n { machines = with_machines ms js }) s rs
    go None f os g i again = (let j : one_joiner q.1 (joins e None c q.0 s) os ≡ Some js = sym (ap (λ (o : Option Machine). one_joiner q.1 (joins e o c q.0 s) os) f) ∙ i in absurd (none-some js j))
    go (Some w) f os g i again = joined (joins e (slice_get n.machines q.1) c q.0 s) refl os g i
      where
        joined : (o : Option Machine) → joins e (slice_get n.machines q.1) c q.0 s ≡ o → (os : Option (List (ℕ × Machine))) → joiners e n c s ps ≡ os → one_joiner q.1 o os ≡ Some js → IsStarting (record n { machines = with_machines ms js }) s rs
        joined None a os b j = absurd (none-some js j)
        joined (Some m) a None b j = absurd (none-some js j)
        joined (Some m) a (Some ws) b j =
            let is = same_Some ((q.1, m) ∷ ws) js j in
            subst (λ (x : List (ℕ × Machine)). IsStarting (record n { machines = with_machines ms x }) s rs) is
            (again ws b (slice_set ms q.1 m) (untouched_set n ms ps q.1 m (not_again e n c s q m a ps ws b rs apart) u.1) more)
          where
            now : NetworkState
            now = record n { machines = ms }

            there : slice_get ms q.1 ≡ Some w
            there = u.0 ∙ f

            name : HasOneMore e w c q.0 s m
            name = joined_more e w c q.0 s m (all q.1 w f) (once_in n q.1 w unique f) (sym (ap (λ (o : Option Machine). joins e o c q.0 s) f) ∙ a)

            plain : ArePlain m.vars
            plain = subst ArePlain (sym name.vars) (starting.plain q.1 w there)

            renamed : IsStarting (moved (record n { machines = ms }) q.1 m.at m.vars name.sessions) s (q.0 ∷ and_roles ps rs)
            renamed = starting_moved (record n { machines = ms }) s (q.0 ∷ and_roles ps rs) q.1 w there starting m.at m.vars name.sessions name.from name.once plain

            split : (v : ℕ × NameId) (l : Holder) → HoldsAt (moved (record n { machines = ms }) q.1 m.at m.vars (fin.insert name.sessions name.key (s, q.0))) v l → ((l ≡ Process q.1 name.key) × ((s, q.0) ≡ v)) ⊎ HoldsAt (moved (record n { machines = ms }) q.1 m.at m.vars name.sessions) v l
            split v (Transit t k) x = inr x
            split v (Process p k) x = bound_split (record n { machines = ms }) q.1 w there m.at m.vars name.sessions name.key (s, q.0) v p k x

            bound : IsStarting (moved (record n { machines = ms }) q.1 m.at m.vars (fin.insert name.sessions name.key (s, q.0))) s (and_roles ps rs)
            bound = one_more_held (moved (record n { machines = ms }) q.1 m.at m.vars name.sessions) (moved (record n { machines = ms }) q.1 m.at m.vars (fin.insert name.sessions name.key (s, q.0))) s q.0 (and_roles ps rs) (Process q.1 name.key) apart renamed split
                (plain_set ms q.1 (record { at = m.at; vars = m.vars; sessions = fin.insert name.sessions name.key (s, q.0) }) starting.plain plain)

            more : IsStarting (record n { machines = slice_set ms q.1 m }) s (and_roles ps rs)
            more = subst (λ (z : Sessions). IsStarting (record n { machines = slice_set ms q.1 (record { at = m.at; vars = m.vars; sessions = z }) }) s (and_roles ps rs)) (sym name.is) bound

-- ---- new processes

last_machine : (ms : List Machine) (x m : Machine) (p : ℕ) → slice_get (ms ++ x ∷ []) p ≡ Some m → ((p ≡ length ms) × (x ≡ m)) ⊎ (slice_get ms p ≡ Some m)
last_machine [] x m zero h = inl (refl, cc)
last_machine [] x m (suc p) h = absurd cc
last_machine (y ∷ ms) x m zero h = inr h
last_machine (y ∷ ms) x m (suc p) h = elim (last_machine ms x m p h) [ inl e ↦ inl (ap suc e.0, e.1) | inr e ↦ inr e ]

served_starting : (e : Endpoints) (n : NetworkState) (c : NameId) (s : ℕ) (rs : List NameId) → AreDistinct rs → (ms : List Machine) → IsStarting (record n { machines = ms }) s rs → IsStarting (record n { machines = ms ++ served e c s rs }) s []
served_starting e n c s [] d ms starting = subst (λ (w : List Machine). IsStarting (record n { machines = w }) s []) (sym (append-nil ms)) starting
served_starting e n c s (r ∷ rs) (one_more apart d) ms starting =
    subst (λ (w : List Machine). IsStarting (record n { machines = w }) s []) (append_assoc ms (new ∷ []) (served e c s rs)) (served_starting e n c s rs d (ms ++ new ∷ []) more)
  where
    new : Machine
    new = record { at = service_of e.services c r; vars = fin.empty; sessions = fin.insert fin.empty c.0 (s, r) }

    split : (v : ℕ × NameId) (l : Holder) → HoldsAt (record n { machines = ms ++ new ∷ [] }) v l → ((l ≡ Process (length ms) c.0) × ((s, r) ≡ v)) ⊎ HoldsAt (record n { machines = ms }) v l
    split v (Transit t k) x = inr x
    split v (Process p k) x = go (slice_get (ms ++ new ∷ []) p) refl x
      where
        go : (o : Option Machine) → slice_get (ms ++ new ∷ []) p ≡ o → held_by o k ≡ Some v → ((Process p k ≡ Process (length ms) c.0) × ((s, r) ≡ v)) ⊎ HoldsAt (record n { machines = ms }) v (Process p k)
        go None f y = absurd cc
        go (Some m) f y = elim (last_machine ms new m p f) [
          | inl z ↦ own z.0 (subst (λ (w : Machine). fin.get w.sessions k ≡ Some v) (sym z.1) y)
          | inr z ↦ inr (ap (λ (o : Option Machine). held_by o k) z ∙ y)
        ]
          where
            own : p ≡ length ms → fin.get new.sessions k ≡ Some v → ((Process p k ≡ Process (length ms) c.0) × ((s, r) ≡ v)) ⊎ HoldsAt (record n { machines = ms }) v (Process p k)
            own here z = elim (get_bound fin.empty c.0 (s, r) k v z) [
              | inl b ↦ inl ((let key : k ≡ c.0 = b.0 in cc), b.1)
              | inr b ↦ absurd (none_bound k v b.1)
            ]

    plain : (p : ℕ) (m : Machine) → slice_get (ms ++ new ∷ []) p ≡ Some m → ArePlain m.vars
    plain p m h = elim (last_machine ms new m p h) [
      | inl z ↦ subst (λ (w : Machine). ArePlain w.vars) z.1 none_set
      | inr z ↦ starting.plain p m z
    ]

    more : IsStarting (record n { machines = ms ++ new ∷ [] }) s rs
    more = one_more_held (record n { machines = ms }) (record n { machines = ms ++ new ∷ [] }) s r rs (Process (length ms) c.0) apart starting split plain

-- ---- runs

pair_roles : (rs : List NameId) (ps : List ℕ) (qs : List (NameId × ℕ)) → paired rs ps ≡ Some qs → map (λ q. q.0) qs ≡ rs
pair_roles [] [] qs h = (let e : [] ≡ qs = cc in ap (map (λ q. q.0)) (sym e))
pair_roles (r ∷ rs) (p ∷ ps) qs h = go (paired rs ps) refl h (λ xs f. pair_roles rs ps xs f)
  where
    go : (o : Option (List (NameId × ℕ))) → paired rs ps ≡ o → one_pair r p o ≡ Some qs → ((xs : List (NameId × ℕ)) → paired rs ps ≡ Some xs → map (λ q. q.0) xs ≡ rs) → map (λ q. q.0) qs ≡ r ∷ rs
    go None f g again = absurd cc
    go (Some xs) f g again = (let e : (r, p) ∷ xs ≡ qs = cc in ap (map (λ q. q.0)) (sym e) ∙ ap (λ (ns : List NameId). r ∷ ns) (again xs f))
pair_roles [] (p ∷ ps) qs h = absurd cc
pair_roles (r ∷ rs) [] qs h = absurd cc

one_less : (a b : ℕ) → a < b → a < suc b
one_less a b lt = omega arith

one_more_than : (a b : ℕ) → a ≡ b → a < suc b
one_more_than a b is = omega arith

started_sound : (e : Endpoints) → IsFaultless e → (n k : NetworkState) (c : NameId) (ps : List ℕ) (x : Event) → AreSomewhere e n.machines → IsSound n → starts e n c ps ≡ Some (Makes x k) → IsSound k
started_sound e faultless n k c ps x all sound h = at_channel (channel_of e.channels c) refl h
  where
    at_joiners : (y : Channel) → channel_of e.channels c ≡ Some y → (qs : List (NameId × ℕ)) → paired y.active ps ≡ Some qs → (o : Option (List (ℕ × Machine))) → joiners e n c n.sid qs ≡ o → begun e n c y qs o ≡ Some (Makes x k) → IsSound k
    at_joiners y f qs g None i j = absurd (none-some (Makes x k) j)
    at_joiners y f qs g (Some ms) i j =
        let last : NetworkState = record n { machines = with_machines n.machines ms ++ served e c n.sid y.serve; sid = suc n.sid } in
        let is = made_same j in
        subst IsSound is sound_after
      where
        roles : and_roles qs y.serve ≡ y.active ++ y.serve
        roles = ap (λ (rs : List NameId). rs ++ y.serve) (pair_roles y.active ps qs g)

        distinct : AreDistinct (y.active ++ y.serve)
        distinct = (channel_has e (λ (z : Channel). AreDistinct (z.active ++ z.serve)) e.channels c y faultless.names.roles f).0

        beginning : IsStarting n n.sid (and_roles qs y.serve)
        beginning = record { unique = sound.unique; started = λ v l a. inl (sound.started v l a); plain = sound.plain }

        active : IsStarting (record n { machines = with_machines n.machines ms }) n.sid y.serve
        active = joined_starting e n c n.sid all sound.unique qs ms i y.serve (subst AreDistinct (sym roles) distinct) n.machines (untouched_all n qs) beginning

        serving : IsStarting (record n { machines = with_machines n.machines ms ++ served e c n.sid y.serve }) n.sid []
        serving = served_starting e n c n.sid y.serve (distinct_back y.active y.serve distinct) (with_machines n.machines ms) active

        sound_after : IsSound (record n { machines = with_machines n.machines ms ++ served e c n.sid y.serve; sid = suc n.sid })
        sound_after = record {
          unique = serving.unique;
          started = λ v l a. elim (serving.started v l a) [ inl lt ↦ one_less v.0 n.sid lt | inr z ↦ one_more_than v.0 n.sid z.0 ];
          plain = serving.plain;
        }

    at_pairs : (y : Channel) → channel_of e.channels c ≡ Some y → (o : Option (List (NameId × ℕ))) → paired y.active ps ≡ o → starts_with e n c y o ≡ Some (Makes x k) → IsSound k
    at_pairs y f None g i = absurd (none-some (Makes x k) i)
    at_pairs y f (Some []) g i = absurd (none-some (Makes x k) i)
    at_pairs y f (Some (q ∷ qs)) g i = at_joiners y f (q ∷ qs) g (joiners e n c n.sid (q ∷ qs)) refl i

    at_channel : (o : Option Channel) → channel_of e.channels c ≡ o → channel_starts e n c ps o ≡ Some (Makes x k) → IsSound k
    at_channel None f i = absurd (none-some (Makes x k) i)
    at_channel (Some y) f i = at_pairs y f (paired y.active ps) refl i

first_sound : (e : Endpoints) → IsSound (first_state e)
first_sound e = record {
  unique = λ v l m a b. absurd (none v l a);
  started = λ v l h. absurd (none v l h);
  plain = λ p m h. plain_all e.processes p m h;
}
  where
    none_by : (ps : List Named) (p k : ℕ) (v : ℕ × NameId) → held_by (slice_get (standing_all ps) p) k ≡ Some v → ⊥
    none_by [] p k v h = absurd cc
    none_by (x ∷ ps) zero k v h = none_bound k v h
    none_by (x ∷ ps) (suc p) k v h = none_by ps p k v h

    none : (v : ℕ × NameId) (l : Holder) → HoldsAt (first_state e) v l → ⊥
    none v (Process p k) h = none_by e.processes p k v h
    none v (Transit t i) h = absurd cc

    plain_all : (ps : List Named) (p : ℕ) (m : Machine) → slice_get (standing_all ps) p ≡ Some m → ArePlain m.vars
    plain_all [] p m h = absurd cc
    plain_all (x ∷ ps) zero m h = (let w : Machine = record { at = x.body; vars = fin.empty; sessions = fin.empty } in let is : w ≡ m = cc in subst (λ (y : Machine). ArePlain y.vars) is none_set)
    plain_all (x ∷ ps) (suc p) m h = plain_all ps p m h

leads_sound : (e : Endpoints) (faultless : IsFaultless e) (hosts : Hosts) (cap : Option ℕ) (h : List Event) (n last : NetworkState) → AreSomewhere e n.machines → IsSound n → NetworkLeads e hosts cap n h last → IsSound last
leads_sound e faultless hosts capacity [] n last all sound l = subst IsSound l sound
leads_sound e faultless hosts capacity (x ∷ xs) n last all sound l = leads_sound e faultless hosts capacity xs l.0 last (stands l.1) (stepped l.1) l.2
  where
    stands : NetworkSteps e hosts capacity n x l.0 → AreSomewhere e l.0.machines
    stands (acts p v a i) = acted_somewhere e faultless capacity n l.0 p v x all i
    stands (begins c ps i) = started_somewhere e faultless n l.0 c ps x all i

    stepped : NetworkSteps e hosts capacity n x l.0 → IsSound l.0
    stepped (acts p v a i) = acted_sound e faultless capacity n l.0 p v x all sound i
    stepped (begins c ps i) = started_sound e faultless n l.0 c ps x all sound i

-- In each state that a run reaches, each role is held once
pub held_once : (e : Endpoints) → IsFaultless e → (hosts : Hosts) (cap : Option ℕ) (h : List Event) (last : NetworkState) → IsNetworkRun e hosts cap h last → IsUnique last
held_once e faultless hosts capacity h last run = (leads_sound e faultless hosts capacity h (first_state e) last (first_somewhere e e.processes faultless.names.process_bodies) (first_sound e) run).unique
