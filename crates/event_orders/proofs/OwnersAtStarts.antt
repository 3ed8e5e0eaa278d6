-- A start gives each role of its session to one process.
use Rattle.std.proofs.Common.{◌≡◌, ◌≢◌, ℕ, zero, suc, ◌<◌, ◌≤◌, ◌+◌, Bool, true, false, cond, ◌==◌, ◌&&◌, ◌||◌, List, [], ◌∷◌, ◌++◌, length, map, refl, sym, ap, ◌∙◌, subst, Option, Some, None, arith, inl, inr, ◌⊎◌, if◌then◌else◌, append_assoc}
use Rattle.std.specs.Prelude.{slice_get, slice_set, All}
use Rattle.std.specs.FinMap as fin
use Rattle.std.proofs.lemmas.Bool.{true≢false, cases_eq, eqb-true, eq-eqb, ne_eqb, or_left, or_right}
use Rattle.std.proofs.lemmas.Option.{cond_some}
use Rattle.std.proofs.lemmas.List.Elements.{All-head, All-tail}
use Rattle.chor_base.specs.declared.names.NameId.{NameId}
use Rattle.chor_base.specs.declared.event.Event.{Event}
use Rattle.chor_base.specs.Events.{Triple}
use Rattle.chor_base.specs.Meaning.{Hosts}
use Rattle.endpoint_code.specs.declared.code.CodeId.{CodeId}
use Rattle.endpoint_code.specs.declared.code.CodeNode.{CodeNode}
use Rattle.endpoint_code.specs.declared.code.CodeNode.TheVariants.{Join, Send, Recv, Pick, Branch, Throw, Catch, Set, Show, Host, If, Call, End}
use Rattle.endpoint_code.specs.declared.endpoints.Channel.{Channel}
use Rattle.endpoint_code.specs.declared.endpoints.ServiceCode.{ServiceCode}
use Rattle.endpoint_code.specs.declared.endpoints.Process.{Process as Main}
use Rattle.endpoint_code.specs.declared.endpoints.Endpoints.{Endpoints}
use Rattle.endpoint_code.specs.Network.{Sessions, Machine, NetworkState, Place, Makes, queue_of, place_of, node_joins, place_joins, joins as joins_in, one_joiner, joiners, with_machines, service_of, served, served_parts, channel_of, paired, starts, NetworkSteps, acts, begins, standing, standing_all, first_state}
use Rattle.endpoint_code.specs.NetworkRuns.{NetworkLeads}
use Rattle.endpoint_code.specs.Faults.{HasNoNameFault, IsScoped, is_among, AreDistinct, has_service}
use Rattle.endpoint_code.proofs.Begun.{Begun, begun_as, pair_roles, served_roles}
use Rattle.endpoint_machine.proofs.Scopes.{NodeScoped, scoped_node}
use Rattle.event_orders.specs.Holders.{IsRoleHolder, KeepsRolesExclusive}
use Rattle.event_orders.proofs.Machines.{with_length}
use Rattle.event_orders.proofs.Owners.{SessionRole, Owner, Nobody, Process, Owners, queue_has, carried, put_cases, OwnsRoles, HasScopedCode, IsOwned, no_nobody, same_process, empty_owned, distinct_head, distinct_tail}
use Rattle.event_orders.proofs.OwnersAtNodes.{OwnsPlace, owned_place}
use Rattle.event_orders.proofs.OwnersKept.{set_cases, OwnedAfter, act_owned}

-- ---- who owns a role

abbrev owner_in : NameId → List (NameId × ℕ) → Owner
owner_in r [] = Nobody
owner_in r (q ∷ qs) = cond (r.0 == q.0.0) (Process q.1) (owner_in r qs)

-- the participants of a new session own its roles
abbrev started : Owners → ℕ → List (NameId × ℕ) → Owners
started o s parts = λ part. cond (part.0 == s) (owner_in part.1 parts) (o part)

abbrev roles : List (NameId × ℕ) → List NameId
roles parts = map (λ (q : NameId × ℕ). q.0) parts

abbrev IsPart : NameId → ℕ → List (NameId × ℕ) → Type 0
IsPart r p parts = (a : List (NameId × ℕ)) × (b : List (NameId × ℕ)) × (parts ≡ a ++ (r, p) ∷ b)

role_among : (r : NameId) (p : ℕ) (a b : List (NameId × ℕ)) → is_among r (roles (a ++ (r, p) ∷ b)) ≡ true
role_among r p [] b = or_left (r.0 == r.0) (is_among r (roles b)) (eq-eqb r.0 r.0 refl)
role_among r p (q ∷ a) b = or_right (r.0 == q.0.0) (is_among r (roles (a ++ (r, p) ∷ b))) (role_among r p a b)

same_name : (a b : NameId) → a.0 ≡ b.0 → a ≡ b
same_name a b h = λ i. record { 0 = h i }

owner_is : (r : NameId) (p : ℕ) (a b : List (NameId × ℕ)) → AreDistinct (roles (a ++ (r, p) ∷ b)) → owner_in r (a ++ (r, p) ∷ b) ≡ Process p
owner_is r p [] b d = ap (λ (z : Bool). cond z (Process p) (owner_in r b)) (eq-eqb r.0 r.0 refl)
owner_is r p (q ∷ a) b d = go (cases_eq r.0 q.0.0) (owner_is r p a b (distinct_tail d))
  where
    go : (r.0 ≡ q.0.0) ⊎ (r.0 ≡ q.0.0 → ⊥) → owner_in r (a ++ (r, p) ∷ b) ≡ Process p → cond (r.0 == q.0.0) (Process q.1) (owner_in r (a ++ (r, p) ∷ b)) ≡ Process p
    go (inl same) more = absurd (true≢false (sym (role_among r p a b) ∙ ap (λ (z : NameId). is_among z (roles (a ++ (r, p) ∷ b))) (same_name r q.0 same) ∙ distinct_head d))
    go (inr other) more = ap (λ (z : Bool). cond z (Process q.1) (owner_in r (a ++ (r, p) ∷ b))) (ne_eqb r.0 q.0.0 other) ∙ more

started_new : (o : Owners) (s : ℕ) (parts : List (NameId × ℕ)) (r : NameId) → started o s parts (s, r) ≡ owner_in r parts
started_new o s parts r = ap (λ (z : Bool). cond z (owner_in r parts) (o (s, r))) (eq-eqb s s refl)

started_old : (o : Owners) (s : ℕ) (parts : List (NameId × ℕ)) (part : SessionRole) → (part.0 ≡ s → ⊥) → started o s parts part ≡ o part
started_old o s parts part h = ap (λ (z : Bool). cond z (owner_in part.1 parts) (o part)) (ne_eqb part.0 s h)

-- a role of a new session is added
joined_owned : (e : Endpoints) (n : NetworkState) (o : Owners) → IsOwned e n o → (parts : List (NameId × ℕ)) (p : ℕ) (r k : NameId) (m : Sessions) → AreDistinct (roles parts) → IsPart r p parts → OwnsRoles o p m
    → OwnsRoles (started o n.sid parts) p (fin.insert m k.0 (n.sid, r))
joined_owned e n o is parts p r k m distinct part own = record {
  owns = λ l other g. owns l other (put_cases m k.0 l (n.sid, r) other g);
  single = λ l l' other g i. single l l' other (put_cases m k.0 l (n.sid, r) other g) (put_cases m k.0 l' (n.sid, r) other i);
}
  where
    -- no role of the new session had an owner
    not_old : (l : ℕ) (other : SessionRole) → fin.get m l ≡ Some other → other.0 ≡ n.sid → ⊥
    not_old l other g same = no_nobody p (sym (is.fresh other (let s : other.0 ≡ n.sid = same in omega arith)) ∙ own.owns l other g)

    mine : owner_in r parts ≡ Process p
    mine = ap (owner_in r) part.2 ∙ owner_is r p part.0 part.1 (subst (λ (z : List (NameId × ℕ)). AreDistinct (roles z)) part.2 distinct)

    owns : (l : ℕ) (other : SessionRole) → ((k.0 ≡ l) × ((n.sid, r) ≡ other)) ⊎ ((k.0 ≡ l → ⊥) × (fin.get m l ≡ Some other)) → started o n.sid parts other ≡ Process p
    owns l other (inl a) = ap (started o n.sid parts) (sym a.1) ∙ started_new o n.sid parts r ∙ mine
    owns l other (inr a) = started_old o n.sid parts other (not_old l other a.1) ∙ own.owns l other a.1

    single : (l l' : ℕ) (other : SessionRole) → ((k.0 ≡ l) × ((n.sid, r) ≡ other)) ⊎ ((k.0 ≡ l → ⊥) × (fin.get m l ≡ Some other)) → ((k.0 ≡ l') × ((n.sid, r) ≡ other)) ⊎ ((k.0 ≡ l' → ⊥) × (fin.get m l' ≡ Some other)) → l ≡ l'
    single l l' other (inl a) (inl c) = sym a.0 ∙ c.0
    single l l' other (inl a) (inr c) = absurd (not_old l' other c.1 (ap (λ (z : SessionRole). z.0) (sym a.1)))
    single l l' other (inr a) (inl c) = absurd (not_old l other a.1 (ap (λ (z : SessionRole). z.0) (sym c.1)))
    single l l' other (inr a) (inr c) = own.single l l' other a.1 c.1

-- ---- processes that join

pub record IsJoined (e : Endpoints) (o : Owners) (p : ℕ) (w : Machine) : Type 0 where
  pub fit : HasScopedCode e w
  pub owned : OwnsRoles o p w.sessions

abbrev AllJoined : Endpoints → Owners → List (ℕ × Machine) → Type 0
AllJoined e o [] = Unit {0}
AllJoined e o (j ∷ js) = IsJoined e o j.0 j.1 × AllJoined e o js

module _ (e : Endpoints) (faultless : HasNoNameFault e) (n : NetworkState) (o : Owners) (is : IsOwned e n o) (parts : List (NameId × ℕ)) (distinct : AreDistinct (roles parts)) where
  one_joined : (p : ℕ) (c r : NameId) (w : Machine) → IsPart r p parts → joins_in e (slice_get n.machines p) c r n.sid ≡ Some w → IsJoined e (started o n.sid parts) p w
  one_joined p c r w part h = at_machine (slice_get n.machines p) refl h
    where
      at_join : (v : Machine) (q : Place) → HasScopedCode e v → OwnsPlace e o p q → (d t k : NameId) (next : CodeId) → q.node ≡ Join d t k next
          → cond ((d.0 == c.0) && (t.0 == r.0)) (Some (record { at = next; vars = v.vars; sessions = fin.insert q.sessions k.0 (n.sid, r) })) None ≡ Some w → IsJoined e (started o n.sid parts) p w
      at_join v q st fine d t k next i g =
          let same : record { at = next; vars = v.vars; sessions = fin.insert q.sessions k.0 (n.sid, r) } ≡ w = (cond_some ((d.0 == c.0) && (t.0 == r.0)) _ w g).1 in
          let scoped : NodeScoped e (Join d t k next) fine.names = scoped_node fine.scoped (Join d t k next) (fine.found ∙ ap Some i) in
          subst (IsJoined e (started o n.sid parts) p) same (record {
            fit = record { names = k ∷ fine.names; scoped = scoped.2; plain = st.plain };
            owned = joined_owned e n o is parts p r k q.sessions distinct part fine.owned;
          })

      at_node : (v : Machine) (q : Place) → HasScopedCode e v → OwnsPlace e o p q → (node : CodeNode) → q.node ≡ node → node_joins node v.vars q.sessions c r n.sid ≡ Some w → IsJoined e (started o n.sid parts) p w
      at_node v q st fine (Join d t k next) i g = at_join v q st fine d t k next i g
      at_node v q st fine (Send k b x next) i g = absurd cc
      at_node v q st fine (Recv k a x next) i g = absurd cc
      at_node v q st fine (Pick k b l next) i g = absurd cc
      at_node v q st fine (Branch k a arms) i g = absurd cc
      at_node v q st fine (Throw k b l next) i g = absurd cc
      at_node v q st fine (Catch k a l next) i g = absurd cc
      at_node v q st fine (Set x y next) i g = absurd cc
      at_node v q st fine (Show y next) i g = absurd cc
      at_node v q st fine (Host x f a b next) i g = absurd cc
      at_node v q st fine (If y a b) i g = absurd cc
      at_node v q st fine (Call f a ss) i g = absurd cc
      at_node v q st fine End i g = absurd cc

      at_place : (v : Machine) → slice_get n.machines p ≡ Some v → (u : Option Place) → place_of e v ≡ u → place_joins u v.vars c r n.sid ≡ Some w → IsJoined e (started o n.sid parts) p w
      at_place v i None j g = absurd cc
      at_place v i (Some q) j g = at_node v q (is.fit p v i) (owned_place e faultless o p v (is.fit p v i) (is.owned p v i) q j) q.node refl g

      at_machine : (u : Option Machine) → slice_get n.machines p ≡ u → joins_in e u c r n.sid ≡ Some w → IsJoined e (started o n.sid parts) p w
      at_machine None i g = absurd cc
      at_machine (Some v) i g = at_place v i (place_of e v) refl g

  all_joined : (c : NameId) (ps : List (NameId × ℕ)) → ((r : NameId) (p : ℕ) → IsPart r p ps → IsPart r p parts) → (js : List (ℕ × Machine)) → joiners e n c n.sid ps ≡ Some js → AllJoined e (started o n.sid parts) js
  all_joined c [] within js h = let same : [] ≡ js = cc in subst (AllJoined e (started o n.sid parts)) same tt
  all_joined c (q ∷ ps) within js h = go (joins_in e (slice_get n.machines q.1) c q.0 n.sid) refl (joiners e n c n.sid ps) refl h
      (λ ks i. all_joined c ps (λ r p a. within r p (q ∷ a.0, a.1, ap (λ z. q ∷ z) a.2)) ks i)
    where
      go : (u : Option Machine) → joins_in e (slice_get n.machines q.1) c q.0 n.sid ≡ u → (v : Option (List (ℕ × Machine))) → joiners e n c n.sid ps ≡ v → one_joiner q.1 u v ≡ Some js
          → ((ks : List (ℕ × Machine)) → joiners e n c n.sid ps ≡ Some ks → AllJoined e (started o n.sid parts) ks) → AllJoined e (started o n.sid parts) js
      go None i v j k more = absurd cc
      go (Some w) i None j k more = absurd cc
      go (Some w) i (Some ks) j k more =
          let same : (q.1, w) ∷ ks ≡ js = cc in
          subst (AllJoined e (started o n.sid parts)) same (one_joined q.1 c q.0 w (within q.0 q.1 ([], ps, refl)) i, more ks j)

  -- the machines of the other processes stay as they were
  old_joined : (q : ℕ) (w : Machine) → slice_get n.machines q ≡ Some w → IsJoined e (started o n.sid parts) q w
  old_joined q w h =
      let own : OwnsRoles o q w.sessions = is.owned q w h in
      record {
        fit = is.fit q w h;
        owned = record {
          owns = λ k part g. started_old o n.sid parts part (λ same. no_nobody q (sym (is.fresh part (let s : part.0 ≡ n.sid = same in omega arith)) ∙ own.owns k part g)) ∙ own.owns k part g;
          single = own.single;
        };
      }

  with_joined : (ms : List Machine) (js : List (ℕ × Machine)) → AllJoined e (started o n.sid parts) js → ((q : ℕ) (w : Machine) → slice_get ms q ≡ Some w → IsJoined e (started o n.sid parts) q w)
      → (q : ℕ) (w : Machine) → slice_get (with_machines ms js) q ≡ Some w → IsJoined e (started o n.sid parts) q w
  with_joined ms [] all old q w h = old q w h
  with_joined ms (j ∷ js) all old q w h = with_joined (slice_set ms j.0 j.1) js all.1 (λ q' w' h'. at q' w' (set_cases ms j.0 j.1 q' w' h')) q w h
    where
      at : (q' : ℕ) (w' : Machine) → ((q' ≡ j.0) × (j.1 ≡ w')) ⊎ ((q' ≢ j.0) × (slice_get ms q' ≡ Some w')) → IsJoined e (started o n.sid parts) q' w'
      at q' w' (inl a) = subst (λ (z : ℕ). IsJoined e (started o n.sid parts) z w') (sym a.0) (subst (IsJoined e (started o n.sid parts) j.0) a.1 all.0)
      at q' w' (inr a) = old q' w' a.1

  -- ---- the service processes

  service_scoped : (qs : List ServiceCode) (c r : NameId) → All (λ s. IsScoped e s.body (s.channel ∷ [])) qs → has_service c r qs ≡ true → (names : List NameId) × IsScoped e (service_of qs c r) names
  service_scoped [] c r all h = absurd (true≢false (sym h))
  service_scoped (q ∷ qs) c r all h = go (cases_eq c.0 q.channel.0) (cases_eq r.0 q.role.0) (service_scoped qs c r (All-tail (λ s. IsScoped e s.body (s.channel ∷ [])) q qs all))
    where
      miss : ((q.channel.0 == c.0) && (q.role.0 == r.0)) ≡ false → ((c.0 == q.channel.0) && (r.0 == q.role.0)) ≡ false → (has_service c r qs ≡ true → (names : List NameId) × IsScoped e (service_of qs c r) names)
          → (names : List NameId) × IsScoped e (service_of (q ∷ qs) c r) names
      miss i j more = let k = more (ap (λ (z : Bool). z || has_service c r qs) (sym j) ∙ h) in (k.0, subst (λ (z : CodeId). IsScoped e z k.0) (ap (λ (z : Bool). if z then q.body else service_of qs c r) (sym i)) k.1)

      go : (c.0 ≡ q.channel.0) ⊎ (c.0 ≡ q.channel.0 → ⊥) → (r.0 ≡ q.role.0) ⊎ (r.0 ≡ q.role.0 → ⊥) → (has_service c r qs ≡ true → (names : List NameId) × IsScoped e (service_of qs c r) names)
          → (names : List NameId) × IsScoped e (service_of (q ∷ qs) c r) names
      go (inl a) (inl b) more =
          let t : ((q.channel.0 == c.0) && (q.role.0 == r.0)) ≡ true = ap (λ (z : Bool). z && (q.role.0 == r.0)) (eq-eqb q.channel.0 c.0 (sym a)) ∙ eq-eqb q.role.0 r.0 (sym b) in
          (q.channel ∷ [], subst (λ (z : CodeId). IsScoped e z (q.channel ∷ [])) (ap (λ (z : Bool). if z then q.body else service_of qs c r) (sym t)) (All-head (λ s. IsScoped e s.body (s.channel ∷ [])) q qs all))
      go (inr a) b more = miss (ap (λ (z : Bool). z && (q.role.0 == r.0)) (ne_eqb q.channel.0 c.0 (λ i. a (sym i)))) (ap (λ (z : Bool). z && (r.0 == q.role.0)) (ne_eqb c.0 q.channel.0 a)) more
      go (inl a) (inr b) more =
          miss (ap (λ (z : Bool). z && (q.role.0 == r.0)) (eq-eqb q.channel.0 c.0 (sym a)) ∙ ne_eqb q.role.0 r.0 (λ i. b (sym i))) (ap (λ (z : Bool). z && (r.0 == q.role.0)) (eq-eqb c.0 q.channel.0 a) ∙ ne_eqb r.0 q.role.0 b) more

  served_joined : (c : NameId) (rs : List NameId) (count : ℕ) → ((r : NameId) → is_among r rs ≡ true → has_service c r e.services ≡ true) → ((r : NameId) (p : ℕ) → IsPart r p (served_parts rs count) → IsPart r p parts)
      → (i : ℕ) (w : Machine) → slice_get (served e c n.sid rs) i ≡ Some w → IsJoined e (started o n.sid parts) (count + i) w
  served_joined c [] count provided within i w h = absurd cc
  served_joined c (r ∷ rs) count provided within zero w h =
      let same : record { at = service_of e.services c r; vars = fin.empty; sessions = fin.insert fin.empty c.0 (n.sid, r) } ≡ w = cc in
      let s = service_scoped e.services c r faultless.service_bodies (provided r (or_left (r.0 == r.0) (is_among r rs) (eq-eqb r.0 r.0 refl))) in
      let number : count ≡ count + 0 = omega arith in
      subst (IsJoined e (started o n.sid parts) (count + 0)) same (subst (λ (z : ℕ). IsJoined e (started o n.sid parts) z (record { at = service_of e.services c r; vars = fin.empty; sessions = fin.insert fin.empty c.0 (n.sid, r) })) number (record {
        fit = record { names = s.0; scoped = s.1; plain = λ x v g. (let f : None ≡ Some v = sym (fin.get-empty _ x) ∙ g in absurd cc) };
        owned = joined_owned e n o is parts count r c fin.empty distinct (within r count ([], served_parts rs (suc count), refl)) (empty_owned o count);
      }))
  served_joined c (r ∷ rs) count provided within (suc i) w h =
      let more : IsJoined e (started o n.sid parts) (suc count + i) w =
      served_joined c rs (suc count) (λ q j. provided q (or_right (q.0 == r.0) (is_among q rs) j)) (λ q p a. within q p ((r, count) ∷ a.0, a.1, ap (λ z. (r, count) ∷ z) a.2)) i w h in
      let number : suc count + i ≡ count + suc i = omega arith in
      subst (λ (z : ℕ). IsJoined e (started o n.sid parts) z w) number more

append_cases : (xs ys : List Machine) (q : ℕ) (w : Machine) → slice_get (xs ++ ys) q ≡ Some w → ((q < length xs) × (slice_get xs q ≡ Some w)) ⊎ ((i : ℕ) × (q ≡ length xs + i) × (slice_get ys i ≡ Some w))
append_cases [] ys q w h = inr (q, (omega arith), h)
append_cases (x ∷ xs) ys zero w h = inl (omega arith, h)
append_cases (x ∷ xs) ys (suc q) w h = go (append_cases xs ys q w h)
  where
    go : ((q < length xs) × (slice_get xs q ≡ Some w)) ⊎ ((i : ℕ) × (q ≡ length xs + i) × (slice_get ys i ≡ Some w)) → ((suc q < suc (length xs)) × (slice_get xs q ≡ Some w)) ⊎ ((i : ℕ) × (suc q ≡ suc (length xs) + i) × (slice_get ys i ≡ Some w))
    go (inl (a, b)) = inl (omega arith, b)
    go (inr (i, a, b)) = inr (i, (omega arith), b)

-- ---- channels

found_channel : (P : Channel → Type 0) (ks : List Channel) (c : NameId) (k : Channel) → All P ks → channel_of ks c ≡ Some k → P k × (k.name ≡ c)
found_channel P [] c k all h = absurd cc
found_channel P (x ∷ ks) c k all h = go (x.name.0 == c.0) refl h (λ i. found_channel P ks c k (All-tail P x ks all) i)
  where
    go : (b : Bool) → (x.name.0 == c.0) ≡ b → (if b then Some x else channel_of ks c) ≡ Some k → (channel_of ks c ≡ Some k → P k × (k.name ≡ c)) → P k × (k.name ≡ c)
    go true i j more = let same : x ≡ k = cc in (subst P same (All-head P x ks all), ap (λ (z : Channel). z.name) (sym same) ∙ same_name x.name c (eqb-true x.name.0 c.0 i))
    go false i j more = more j

roles_append : (a b : List (NameId × ℕ)) → roles (a ++ b) ≡ roles a ++ roles b
roles_append [] b = refl
roles_append (q ∷ a) b = ap (λ z. q.0 ∷ z) (roles_append a b)

among_all : (P : NameId → Type 0) (rs : List NameId) → All P rs → (r : NameId) → is_among r rs ≡ true → P r
among_all P [] all r h = absurd (true≢false (sym h))
among_all P (x ∷ rs) all r h = go (r.0 == x.0) refl h (λ i. among_all P rs (All-tail P x rs all) r i)
  where
    go : (b : Bool) → (r.0 == x.0) ≡ b → (b || is_among r rs) ≡ true → (is_among r rs ≡ true → P r) → P r
    go true i j more = subst P (sym (same_name r x (eqb-true r.0 x.0 i))) (All-head P x rs all)
    go false i j more = more j

module _ (e : Endpoints) (faultless : HasNoNameFault e) where
  start_owned : (n : NetworkState) (o : Owners) → IsOwned e n o → (c : NameId) (ps : List ℕ) (x : Event) (m : NetworkState) → starts e n c ps ≡ Some (Makes x m) → OwnedAfter e m
  start_owned n o is c ps x m h =
      let b : Begun e n c ps x m = begun_as e n c ps x m h in
      subst (OwnedAfter e) (sym b.state_is) (record { owners = started o n.sid (b.parts ++ served_parts b.channel.serve (length n.machines)); is = made b.channel b.found b.parts b.pairs b.joined b.joins })
    where
      made : (k : Channel) → channel_of e.channels c ≡ Some k → (qs : List (NameId × ℕ)) → paired k.active ps ≡ Some qs → (js : List (ℕ × Machine)) → joiners e n c n.sid qs ≡ Some js
          → IsOwned e (record n { machines = with_machines n.machines js ++ served e c n.sid k.serve; sid = suc n.sid }) (started o n.sid (qs ++ served_parts k.serve (length n.machines)))
      made k found qs pairs js joined = record {
        fit = λ q w g. (all q w (append_cases (with_machines n.machines js) (served e c n.sid k.serve) q w g)).fit;
        owned = λ q w g. (all q w (append_cases (with_machines n.machines js) (served e c n.sid k.serve) q w g)).owned;
        queues = queues;
        fresh = λ part le. started_old o n.sid parts part (λ same. omega arith) ∙ is.fresh part (omega arith);
      }
        where
          parts : List (NameId × ℕ)
          parts = qs ++ served_parts k.serve (length n.machines)

          distinct : AreDistinct (roles (qs ++ served_parts k.serve (length n.machines)))
          distinct = subst AreDistinct (sym (roles_append qs (served_parts k.serve (length n.machines)) ∙ ap (λ z. z ++ roles (served_parts k.serve (length n.machines))) (pair_roles k.active ps qs pairs) ∙ ap (λ z. k.active ++ z) (served_roles k.serve (length n.machines))))
              (found_channel (λ z. AreDistinct (z.active ++ z.serve)) e.channels c k faultless.roles found).0

          provided : (r : NameId) → is_among r k.serve ≡ true → has_service c r e.services ≡ true
          provided r i =
              let f = found_channel (λ z. All (λ s. has_service z.name s e.services ≡ true) z.serve) e.channels c k faultless.provided found in
              ap (λ z. has_service z r e.services) (sym f.1) ∙ among_all (λ s. has_service k.name s e.services ≡ true) k.serve f.0 r i

          all_js : AllJoined e (started o n.sid (qs ++ served_parts k.serve (length n.machines))) js
          all_js = all_joined e faultless n o is (qs ++ served_parts k.serve (length n.machines)) distinct c qs
              (λ r p a. (a.0, a.1 ++ served_parts k.serve (length n.machines), ap (λ z. z ++ served_parts k.serve (length n.machines)) a.2 ∙ append_assoc a.0 ((r, p) ∷ a.1) (served_parts k.serve (length n.machines)))) js joined

          all : (q : ℕ) (w : Machine) → ((q < length (with_machines n.machines js)) × (slice_get (with_machines n.machines js) q ≡ Some w)) ⊎ ((i : ℕ) × (q ≡ length (with_machines n.machines js) + i) × (slice_get (served e c n.sid k.serve) i ≡ Some w))
              → IsJoined e (started o n.sid (qs ++ served_parts k.serve (length n.machines))) q w
          all q w (inl a) = with_joined e faultless n o is (qs ++ served_parts k.serve (length n.machines)) distinct n.machines js all_js (old_joined e faultless n o is (qs ++ served_parts k.serve (length n.machines)) distinct) q w a.1
          all q w (inr (i, a, b)) =
              let number : length n.machines + i ≡ q = ap (λ z. z + i) (sym (with_length n.machines js)) ∙ sym a in
              subst (λ (z : ℕ). IsJoined e (started o n.sid (qs ++ served_parts k.serve (length n.machines))) z w) number
              (served_joined e faultless n o is (qs ++ served_parts k.serve (length n.machines)) distinct c k.serve (length n.machines) provided
              (λ r p t. (qs ++ t.0, t.1, ap (λ z. qs ++ z) t.2 ∙ sym (append_assoc qs t.0 ((r, p) ∷ t.1)))) i w b)

          -- no load carries a role of the new session
          queues : (t : Triple) (part : SessionRole) → carried part (queue_of n t) ≤ queue_has (started o n.sid (qs ++ served_parts k.serve (length n.machines)) part) t
          queues t part = go (cases_eq part.0 n.sid)
            where
              go : (part.0 ≡ n.sid) ⊎ (part.0 ≡ n.sid → ⊥) → carried part (queue_of n t) ≤ queue_has (started o n.sid (qs ++ served_parts k.serve (length n.machines)) part) t
              go (inl same) =
                  let a = is.queues t part in
                  let b : queue_has (o part) t ≡ 0 = ap (λ z. queue_has z t) (is.fresh part (omega arith)) in
                  omega arith
              go (inr other) =
                  let a = is.queues t part in
                  let b : queue_has (started o n.sid (qs ++ served_parts k.serve (length n.machines)) part) t ≡ queue_has (o part) t = ap (λ z. queue_has z t) (started_old o n.sid (qs ++ served_parts k.serve (length n.machines)) part other) in
                  omega arith

  -- ---- runs

  module _ (hosts : Hosts) (cap : Option ℕ) where
    step_owned : (n : NetworkState) (x : Event) (m : NetworkState) → NetworkSteps e hosts cap n x m → OwnedAfter e n → OwnedAfter e m
    step_owned n x m (acts p v a h) by = act_owned e faultless cap n by.owners by.is p v x m h
    step_owned n x m (begins c ps h) by = start_owned n by.owners by.is c ps x m h

    leads_owned : (xs : List Event) (n m : NetworkState) → NetworkLeads e hosts cap n xs m → OwnedAfter e n → OwnedAfter e m
    leads_owned [] n m l by = subst (OwnedAfter e) l by
    leads_owned (x ∷ xs) n m l by = leads_owned xs l.0 m l.2 (step_owned n x l.0 l.1 by)

    first_standing : (ps : List Main) → All (λ p. IsScoped e p.body []) ps → (q : ℕ) (w : Machine) → slice_get (standing_all ps) q ≡ Some w → HasScopedCode e w × OwnsRoles (λ part. Nobody) q w.sessions
    first_standing [] all q w h = absurd cc
    first_standing (p ∷ ps) all zero w h =
        let same : standing p.body ≡ w = cc in
        subst (λ (z : Machine). HasScopedCode e z × OwnsRoles (λ part. Nobody) zero z.sessions) same
        (record { names = []; scoped = All-head (λ z. IsScoped e z.body []) p ps all; plain = λ x v g. (let f : None ≡ Some v = sym (fin.get-empty _ x) ∙ g in absurd cc) }, empty_owned (λ part. Nobody) zero)
    first_standing (p ∷ ps) all (suc q) w h =
        let r = first_standing ps (All-tail (λ z. IsScoped e z.body []) p ps all) q w h in
        let own : OwnsRoles (λ part. Nobody) q w.sessions = r.1 in
        (r.0, record { owns = λ k part g. absurd (no_nobody q (own.owns k part g)); single = own.single })

    first_owned : OwnedAfter e (first_state e)
    first_owned = record {
      owners = λ part. Nobody;
      is = record {
        fit = λ q w h. (first_standing e.processes faultless.process_bodies q w h).0;
        owned = λ q w h. (first_standing e.processes faultless.process_bodies q w h).1;
        queues = λ t part. omega arith;
        fresh = λ part le. refl;
      };
    }

    holder : (n : NetworkState) (o : Owners) → IsOwned e n o → (p : ℕ) (part : SessionRole) → IsRoleHolder e n p part → o part ≡ Process p
    holder n o is p part h =
        let st : OwnsPlace e o p h.place = owned_place e faultless o p h.machine (is.fit p h.machine h.there) (is.owned p h.machine h.there) h.place h.at_place in
        let own : OwnsRoles o p h.place.sessions = st.owned in
        own.owns h.name part h.bound

    pub one_holder : KeepsRolesExclusive e hosts cap
    one_holder h n run p q part differ a b =
        let by : OwnedAfter e n = leads_owned h (first_state e) n run first_owned in
        differ (same_process p q (sym (holder n by.owners by.is p part a) ∙ holder n by.owners by.is q part b))
