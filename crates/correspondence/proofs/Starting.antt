-- A start of the network is a start of the choreography, and the correspondence holds after.
use Rattle.std.proofs.Common.{◌≡◌, ◌⊎◌, inl, inr, ℕ, suc, ◌+◌, ◌<◌, ◌≤◌, Bool, true, false, List, [], ◌∷◌, ◌++◌, length, Option, Some, None, refl, sym, ap, ◌∙◌, subst, if◌then◌else◌, ◌==◌, arith, length-append}
use Rattle.std.specs.Prelude.{map, slice_get}
use Rattle.std.proofs.lemmas.Option.{slice_get_within}
use Rattle.std.proofs.lemmas.List.{length-map}
use Rattle.std.specs.FinMap as fin
use Rattle.chor_base.specs.declared.names.NameId.{NameId}
use Rattle.chor_base.specs.declared.event.Event.{Event}
use Rattle.chor_base.specs.declared.event.Event.TheVariants as event
use Rattle.chor_base.specs.Meaning.{Hosts}
use Rattle.chor_semantics.specs.Choreography.{Ref, Live, Named, ref_eq, Node, Choreography, number_for}
use Rattle.chor_semantics.specs.Sources.{Procedure, Configuration}
use Rattle.chor_semantics.specs.Steps.{Keeps, Moves, fresh_vars, vars_after, sid_after}
use Rattle.endpoint_code.specs.declared.code.CodeNode.TheVariants as code
use Rattle.endpoint_code.specs.declared.endpoints.Channel.{Channel}
use Rattle.endpoint_code.specs.declared.endpoints.Endpoints.{Endpoints}
use Rattle.endpoint_code.specs.Network.{Sessions, Machine, NetworkState, Makes, joiners, with_machines, service_of, served, served_parts, channel_of, begun, one_pair, paired, starts_with, channel_starts, starts, queue_of, node_at}
use Rattle.well_formed.specs.Follows.{SessionMap, no_sessions, with_session, Act, Joins, act_of, Agrees, fork_of, IsEqualUpToPruning, Follows}
use Rattle.well_formed.specs.WellFormed.{AreDistinctRoles, IsWellFormed, ArePlain}
use Rattle.well_formed.specs.Linear.{ParameterSets, everyone}
use Rattle.correspondence.proofs.Next.{Next, next_more, NoTerm, JoinsAt, AllNext, Joint}
use Rattle.well_formed.specs.Holders.{ListedHolders, HolderIn, first_with}
use Rattle.correspondence.proofs.Bodies.{Bodies}
use Rattle.correspondence.specs.Corresponds.{live_session, session_map, live_scope, Corresponds}
use Rattle.correspondence.proofs.Found.{Deciding, next_is}
use Rattle.correspondence.proofs.Renamed.{put_one, put_map, BodiesRenamed}
use Rattle.well_formed.proofs.LinearKept.{linear_kept, fits_opened, opened}
use Rattle.correspondence.proofs.Machines.{map_insert, map_empty, NotCall, stood_at}
use Rattle.correspondence.proofs.Together.{joint, alone_joint, started, parts_as}
use Rattle.correspondence.proofs.Known.{KnownRef, KnownMap}
use Rattle.correspondence.proofs.Bystanders.{stays}
use Rattle.correspondence.proofs.Joiners.{In, joiner, serves_new}
use Rattle.correspondence.proofs.Opened.{served_started, loads_started}
use Rattle.correspondence.proofs.RolesStarted.{owned_started, holder_started}
use Rattle.correspondence.proofs.Alone.{plain_empty}
use Rattle.correspondence.proofs.FromNetwork.{Did}
use Rattle.correspondence.proofs.Joining.{front, back, Joined, AllJoined, all_joined, After, joined_at, listed_at, after_joining, vars_joined, length_joined, fresh_new, fresh_old, NewAt, new_at, Either', split_at, not_in, not_in_both, not_new, in_front, in_back, joined, stayed}

module _ (e : Endpoints) (procs : List Procedure) (sets : NameId → ParameterSets) (lists : ListedHolders) (hosts : Hosts) (bd : Bodies e procs sets lists) (renamed : BodiesRenamed e.channels procs) (c : Configuration) (n : NetworkState) (co : Corresponds e procs sets lists c n) where
  count : length n.machines ≡ length c.vars
  count = sym (length-map n.machines (λ m. m.vars)) ∙ ap length co.vars

  -- ---- the choreography can make it

  joins_next : (a r : NameId) (p : ℕ) (m' : Machine) → Joined e n a r p m' → Next procs (Live p) (JoinsAt a r (Live p)) NoTerm c.tree
  joins_next a r p m' h =
      let st = stood_at e procs p c.tree h.machine.at (node_at e h.machine.at) h.machine.sessions h.place refl h.at (subst NotCall (sym h.is) tt) (co.follows p h.machine h.there) in
      next_more procs (Live p) (λ node g. is node g.0 g.1 (subst (λ u. Agrees (session_map h.place.sessions) u g.0) h.is g.2)) (λ y g. subst (λ u. Deciding u y) (ap fork_of h.is) g)
      (next_is e procs (Live p) st.q (session_map h.place.sessions) h.place.node st.stands not_end (bd.guarded p) c.tree st.follows)
    where
      not_end : h.place.node ≡ code.End → ⊥
      not_end x = let y : code.Join a r h.k h.next ≡ code.End = sym h.is ∙ x in cc

      is : (node : Node) (g : Act) → act_of node (Live p) ≡ Some g → Agrees (session_map h.place.sessions) (code.Join a r h.k h.next) g → JoinsAt a r (Live p) node
      is node (Joins d t s) i k = (s, i ∙ ap (λ y. Some (Joins y t s)) (sym k.0) ∙ ap (λ y. Some (Joins a y s)) (sym k.1))
      is node _ i k = absurd k

  all_next : (a : NameId) (qs : List (NameId × ℕ)) (ms : List (ℕ × Machine)) → AllJoined e n a qs ms → AllNext procs a qs c.tree
  all_next a [] ms h = tt
  all_next a ((r, p) ∷ qs) ((p', m') ∷ ms) h = (joins_next a r p m' h.1, all_next a qs ms h.2)
  all_next a (q ∷ qs) [] h = absurd h

  together : (a : NameId) (ch : Channel) → channel_of e.channels a ≡ Some ch → (r : NameId) (p : ℕ) (qs : List (NameId × ℕ)) → ch.active ≡ map (λ q. q.0) ((r, p) ∷ qs) → AllNext procs a ((r, p) ∷ qs) c.tree → Joint procs a ((r, p) ∷ qs) c.tree
  together a ch at r p [] i h = alone_joint procs a r p h.0
  together a ch at r p (q ∷ qs) i h = joint procs a (sets a) e.channels bd.fit (bd.linear a ch at two) r p (q ∷ qs) (live_scope c) everyone co.well_formed (co.linear a ch at two) h.0 h.1
    where
      two : 2 ≤ length ch.active
      two = let l : length ch.active ≡ suc (suc (length qs)) = ap length i ∙ ap (λ y. suc (suc y)) (length-map qs (λ q. q.0)) in omega (arith, l)

  -- ---- the correspondence after

  module _ (a : NameId) (ch : Channel) (declared : channel_of e.channels a ≡ Some ch) (r0 : NameId) (p0 : ℕ) (qs : List (NameId × ℕ)) (ms : List (ℕ × Machine)) (js : AllJoined e n a ((r0, p0) ∷ qs) ms) (d : Choreography) where
    abbrev parts : List (NameId × ℕ)
    parts = ((r0, p0) ∷ qs) ++ served_parts ch.serve (length c.vars)

    abbrev x : Event
    x = event.Start a c.sid parts

    abbrev n' : NetworkState
    n' = record n { machines = with_machines n.machines ms ++ served e a n.sid ch.serve; sid = suc n.sid }

    abbrev c' : Configuration
    c' = record { tree = d; vars = vars_after c.vars x Keeps; sid = sid_after c.sid x }

    old_below : (r : NameId) (p : ℕ) → In (r, p) ((r0, p0) ∷ qs) → p < length c.vars
    old_below r p i =
        let z = listed_at e n a ((r0, p0) ∷ qs) ms js r p i in
        let y = joined_at e n a ((r0, p0) ∷ qs) ms js z.0 p z.1 z.2 in
        subst (λ k. p < k) count (slice_get_within n.machines p y.2.machine y.2.there)

    new_vars : fresh_vars parts (length c.vars) ≡ map (λ m. m.vars) (served e a n.sid ch.serve)
    new_vars = fresh_old ((r0, p0) ∷ qs) (served_parts ch.serve (length c.vars)) (length c.vars) old_below ∙ fresh_new e a n.sid ch.serve (length c.vars)

    length_served : (rs : List NameId) → length (map (λ m. m.vars) (served e a n.sid rs)) ≡ length rs
    length_served [] = refl
    length_served (r ∷ rs) = ap suc (length_served rs)

    counted : length c'.vars ≡ length c.vars + length ch.serve
    counted = length-append c.vars (fresh_vars parts (length c.vars)) ∙ ap (λ y. length c.vars + y) (ap length new_vars ∙ length_served ch.serve)

    map_both : (xs ys : List Machine) → map (λ m. m.vars) (xs ++ ys) ≡ map (λ m. m.vars) xs ++ map (λ m. m.vars) ys
    map_both [] ys = refl
    map_both (z ∷ xs) ys = ap (λ y. z.vars ∷ y) (map_both xs ys)

    same_vars : map (λ m. m.vars) n'.machines ≡ c'.vars
    same_vars = map_both (with_machines n.machines ms) (served e a n.sid ch.serve) ∙ ap (λ y. y ++ map (λ m. m.vars) (served e a n.sid ch.serve)) (vars_joined e n a ((r0, p0) ∷ qs) ms js n.machines refl ∙ co.vars) ∙ ap (λ y. c.vars ++ y) (sym new_vars)

    module _ (mv : Moves procs hosts c.vars c.sid c.tree x Keeps d) where
      follows_new : (p : ℕ) (m : Machine) → NewAt e a n.sid ch.serve (length c.vars) p m → length c.vars ≤ p → IsEqualUpToPruning e procs (Live p) d m.at (session_map m.sessions)
      follows_new p m z young =
          subst (λ y. IsEqualUpToPruning e procs (Live p) d y.at (session_map y.sessions)) (sym z.is)
          (λ k. subst (Follows e procs k (Live p) d (service_of e.services a z.r)) (sym (map_insert fin.empty a n.sid z.r ∙ ap (λ y. with_session y a (Live n.sid, z.r)) map_empty ∙ ap (λ y. with_session no_sessions a (Live y, z.r)) co.sid))
          (serves_new e.channels e procs hosts c.vars c.sid bd.fit bd.outside renamed z.r p young bd.services a c.sid parts Keeps (in_back (z.r, p) ((r0, p0) ∷ qs) (served_parts ch.serve (length c.vars)) z.part) (live_scope c) refl refl refl co.well_formed co.services mv k))

      follows_joined : (p : ℕ) (m : Machine) (r : NameId) → In (r, p) ((r0, p0) ∷ qs) → Joined e n a r p m → IsEqualUpToPruning e procs (Live p) d m.at (session_map m.sessions)
      follows_joined p m r i h =
          let st = stood_at e procs p c.tree h.machine.at (node_at e h.machine.at) h.machine.sessions h.place refl h.at (subst NotCall (sym h.is) tt) (co.follows p h.machine h.there) in
          let j = joiner e.channels e procs hosts c.vars c.sid bd.fit bd.outside renamed r p (old_below r p i) st.q (session_map h.place.sessions) (λ k dd. unmoved k dd h.place.sessions) h.place.node st.stands a c.sid parts Keeps (in_front (r, p) ((r0, p0) ∷ qs) (served_parts ch.serve (length c.vars)) i) (live_scope c) refl refl refl co.well_formed st.follows mv in
          let both : code.Join a r h.k h.next ≡ code.Join a r j.k j.next = sym h.is ∙ j.is in
          let ks : j.k ≡ h.k = cc in
          let nexts : j.next ≡ h.next = cc in
          subst (λ y. IsEqualUpToPruning e procs (Live p) d y.at (session_map y.sessions)) (sym h.made)
          (λ k. subst (Follows e procs k (Live p) d h.next) (sym (map_insert h.place.sessions h.k n.sid r ∙ ap (λ y. with_session (session_map h.place.sessions) h.k (Live y, r)) co.sid))
          (subst (λ y. Follows e procs k (Live p) d h.next (with_session (session_map h.place.sessions) y (Live c.sid, r))) ks
          (subst (λ y. Follows e procs k (Live p) d y (with_session (session_map h.place.sessions) j.k (Live c.sid, r))) nexts (j.follows k))))
        where
          unmoved : (k dd : ℕ) (m : Sessions) → ◌≡◌ {A = SessionMap} (put_map (number_for k dd c.sid) (session_map m)) (session_map m)
          unmoved k dd m = λ i y. go (fin.get m y) i
            where
              go : (o : Option (ℕ × NameId)) → put_one (number_for k dd c.sid) (live_session o) ≡ live_session o
              go None = refl
              go (Some (s, t)) = refl

      follows_stayed : (p : ℕ) (m : Machine) → ((r : NameId) → In (r, p) ((r0, p0) ∷ qs) → ⊥) → slice_get n.machines p ≡ Some m → IsEqualUpToPruning e procs (Live p) d m.at (session_map m.sessions)
      follows_stayed p m out h =
          let old : p < length c.vars = subst (λ k. p < k) count (slice_get_within n.machines p m h) in
          λ k. stays e.channels e procs hosts c.vars c.sid bd.fit bd.outside renamed (Live p) a c.sid parts Keeps (not_in_both (Live p) ((r0, p0) ∷ qs) (served_parts ch.serve (length c.vars)) (not_in p ((r0, p0) ∷ qs) out) (not_new p ch.serve (length c.vars) old)) k c.tree d x refl mv (live_scope c) refl refl old co.well_formed m.at (session_map m.sessions) (known m.sessions) (co.follows p m h)
        where
          known : (ss : Sessions) → KnownMap (live_scope c) (session_map ss)
          known ss y s r i = at (stands (fin.get ss y) i)
            where
              stands : (o : Option (ℕ × NameId)) → live_session o ≡ Some (s, r) → (t : ℕ) × (Live t ≡ s)
              stands None j = absurd cc
              stands (Some (t, q)) j = let z : ◌≡◌ {A = Ref × NameId} (Live t, q) (s, r) = cc in (t, ap (λ w. w.0) z)

              at : (t : ℕ) × (Live t ≡ s) → KnownRef (live_scope c) s
              at (t, j) = subst (KnownRef (live_scope c)) j tt

      each : (p : ℕ) (m : Machine) → slice_get n'.machines p ≡ Some m → IsEqualUpToPruning e procs (Live p) d m.at (session_map m.sessions) × ArePlain m.vars
      each p m h = go (split_at (with_machines n.machines ms) (served e a n.sid ch.serve) p m h)
        where
          go : Either' (with_machines n.machines ms) (served e a n.sid ch.serve) p m → IsEqualUpToPruning e procs (Live p) d m.at (session_map m.sessions) × ArePlain m.vars
          go (front i) = at (after_joining e n a ((r0, p0) ∷ qs) ms js p m i)
            where
              at : After e n a ((r0, p0) ∷ qs) p m → IsEqualUpToPruning e procs (Live p) d m.at (session_map m.sessions) × ArePlain m.vars
              at (joined r j z) = (follows_joined p m r j z, subst (λ y. ArePlain y.vars) (sym z.made) (co.plain p z.machine z.there))
              at (stayed out j) = (follows_stayed p m out j, co.plain p m j)
          go (back j i k) =
              let size : length (with_machines n.machines ms) ≡ length c.vars = length_joined n.machines ms ∙ count in
              let z : NewAt e a n.sid ch.serve (length c.vars) p m = subst (λ y. NewAt e a n.sid ch.serve (length c.vars) y m) (sym (i ∙ ap (λ y. y + j) size)) (new_at e a n.sid ch.serve (length c.vars) j m k) in
              (follows_new p m z (above p (length c.vars) j (i ∙ ap (λ y. y + j) size)), subst (λ y. ArePlain y.vars) (sym z.is) plain_empty)
            where
              above : (p l j : ℕ) → p ≡ l + j → l ≤ p
              above p l j i = omega (arith, i)

      scope_same : opened e.channels procs hosts c.vars c.sid bd.fit (live_scope c) ch ≡ live_scope c'
      scope_same = ap (λ y. record { pid = y; processes = []; sid = suc c.sid; sessions = [] }) (sym counted)

      holder_kept : (u : Ref) (r : NameId) → HolderIn (live_scope c') (holder_started e.channels procs hosts c.vars c.sid lists bd.fit bd.holders_fit a c.sid parts Keeps r u (co.holders u r))
      holder_kept u r = go (ref_eq u (Live c.sid))
        where
          larger : (k l j : ℕ) → j ≡ k + l → (m : ℕ) → m < k → m < j
          larger k l j i m h = omega (arith, i, h)

          more : (o : Option Ref) → HolderIn (live_scope c) o → HolderIn (live_scope c') o
          more None h = tt
          more (Some (Live m)) h = larger (length c.vars) (length ch.serve) (length c'.vars) counted m h
          more (Some (Named y j)) h = h

          part_below : (rs : List NameId) (k m : ℕ) (t : NameId) → In (t, m) (served_parts rs k) → m < k + length rs
          part_below [] k m t i = absurd i
          part_below (z ∷ rs) k m t (inl i) = let w : m ≡ k = ap (λ q. q.1) i in first_below k m (length rs) w
            where
              first_below : (k m l : ℕ) → m ≡ k → m < k + suc l
              first_below k m l w = omega (arith, w)
          part_below (z ∷ rs) k m t (inr i) = next_below k m (length rs) (part_below rs (suc k) m t i)
            where
              next_below : (k m l : ℕ) → m < suc k + l → m < k + suc l
              next_below k m l w = omega (arith, w)

          first_of : (ps : List (NameId × ℕ)) → ((t : NameId) (m : ℕ) → In (t, m) ps → m < length c'.vars) → HolderIn (live_scope c') (first_with r (parts_as ps))
          first_of [] h = tt
          first_of (q ∷ ps) h = at (q.0.0 == r.0) (first_of ps (λ t m i. h t m (inr i)))
            where
              at : (b : Bool) → HolderIn (live_scope c') (first_with r (parts_as ps)) → HolderIn (live_scope c') (if b then Some (Live q.1) else first_with r (parts_as ps))
              at true i = h q.0 q.1 (inl refl)
              at false i = i

          part_in : (xs ys : List (NameId × ℕ)) (t : NameId) (m : ℕ) → In (t, m) (xs ++ ys) → In (t, m) xs ⊎ In (t, m) ys
          part_in [] ys t m i = inr i
          part_in (z ∷ xs) ys t m (inl i) = inl (inl i)
          part_in (z ∷ xs) ys t m (inr i) = at (part_in xs ys t m i)
            where
              at : In (t, m) xs ⊎ In (t, m) ys → In (t, m) (z ∷ xs) ⊎ In (t, m) ys
              at (inl j) = inl (inr j)
              at (inr j) = inr j

          below : (t : NameId) (m : ℕ) → In (t, m) parts → m < length c'.vars
          below t m i = at (part_in ((r0, p0) ∷ qs) (served_parts ch.serve (length c.vars)) t m i)
            where
              at : In (t, m) ((r0, p0) ∷ qs) ⊎ In (t, m) (served_parts ch.serve (length c.vars)) → m < length c'.vars
              at (inl j) = larger (length c.vars) (length ch.serve) (length c'.vars) counted m (old_below t m j)
              at (inr j) = subst (λ y. m < y) (sym counted) (part_below ch.serve (length c.vars) m t j)

          go : (b : Bool) → HolderIn (live_scope c') (if b then first_with r (parts_as parts) else co.holders u r)
          go true = first_of parts below
          go false = more (co.holders u r) (co.holders_in u r)

      pub kept_started : Corresponds e procs sets lists c' n'
      kept_started = record {
        vars = same_vars;
        sid = ap suc co.sid;
        follows = λ p m h. (each p m h).0;
        services = served_started e.channels e procs hosts c.vars c.sid bd.fit bd.outside renamed a c.sid parts Keeps bd.services (live_scope c) refl refl refl co.well_formed co.services mv;
        in_transit = λ t. loads_started e.channels e procs hosts c.vars c.sid bd.fit bd.outside renamed a c.sid parts Keeps bd.empty t (live_scope c) refl refl co.well_formed (queue_of n t) (co.in_transit t) mv;
        holders = λ u r. holder_started e.channels procs hosts c.vars c.sid lists bd.fit bd.holders_fit a c.sid parts Keeps r u (co.holders u r);
        holders_in = holder_kept;
        holders_fit = λ u r. owned_started e.channels procs hosts c.vars c.sid lists bd.fit bd.holders_fit a c.sid parts Keeps r u (live_scope c) refl refl refl co.well_formed (λ y. co.holders y r) (λ y. co.holders_in y r) (λ y. co.holders_fit y r) mv;
        linear = λ b k at two. linear_kept e.channels procs hosts c.vars c.sid bd.fit b (sets b) (bd.linear b k at two) (live_scope c) refl everyone co.well_formed (inl (λ r. refl)) (co.linear b k at two) mv;
        well_formed = subst (λ y. IsWellFormed e.channels procs y d) scope_same (fits_opened e.channels procs hosts c.vars c.sid bd.fit a ch declared c.sid parts x refl (live_scope c) refl refl co.well_formed mv);
        plain = λ p m h. (each p m h).1;
      }

  -- ---- a start of the network

  roles_of : (rs : List NameId) (ps : List ℕ) (qs : List (NameId × ℕ)) → paired rs ps ≡ Some qs → rs ≡ map (λ q. q.0) qs
  roles_of [] [] qs h = let i : ◌≡◌ {A = List (NameId × ℕ)} [] qs = cc in ap (map (λ q. q.0)) i
  roles_of [] (p ∷ ps) qs h = absurd cc
  roles_of (r ∷ rs) [] qs h = absurd cc
  roles_of (r ∷ rs) (p ∷ ps) qs h = go (paired rs ps) refl h (roles_of rs ps)
    where
      go : (o : Option (List (NameId × ℕ))) → paired rs ps ≡ o → one_pair r p o ≡ Some qs → ((ts : List (NameId × ℕ)) → paired rs ps ≡ Some ts → rs ≡ map (λ q. q.0) ts) → r ∷ rs ≡ map (λ q. q.0) qs
      go None i j ih = absurd cc
      go (Some ts) i j ih = let k : (r, p) ∷ ts ≡ qs = cc in ap (λ y. r ∷ y) (ih ts i) ∙ ap (map (λ q. q.0)) k

  pub begins_too : (a : NameId) (ps : List ℕ) (x : Event) (m' : NetworkState) → starts e n a ps ≡ Some (Makes x m') → Did e procs sets lists hosts bd c n co x m'
  begins_too a ps x m' h = at_channel (channel_of e.channels a) refl h
    where
      at_channel : (o : Option Channel) → channel_of e.channels a ≡ o → channel_starts e n a ps o ≡ Some (Makes x m') → Did e procs sets lists hosts bd c n co x m'
      at_channel None i j = absurd cc
      at_channel (Some ch) i j = at_pairs (paired ch.active ps) refl j
        where
          at_pairs : (o : Option (List (NameId × ℕ))) → paired ch.active ps ≡ o → starts_with e n a ch o ≡ Some (Makes x m') → Did e procs sets lists hosts bd c n co x m'
          at_pairs None k z = absurd cc
          at_pairs (Some []) k z = absurd cc
          at_pairs (Some ((r, p) ∷ qs)) k z = at_joiners (joiners e n a n.sid ((r, p) ∷ qs)) refl z
            where
              at_joiners : (o : Option (List (ℕ × Machine))) → joiners e n a n.sid ((r, p) ∷ qs) ≡ o → begun e n a ch ((r, p) ∷ qs) o ≡ Some (Makes x m') → Did e procs sets lists hosts bd c n co x m'
              at_joiners None u v = absurd cc
              at_joiners (Some ms) u v =
                  let js = all_joined e n a ((r, p) ∷ qs) ms u in
                  let roles = roles_of ch.active ps ((r, p) ∷ qs) k in
                  let made = started e.channels procs hosts c.vars c.sid a ch i r p qs roles (subst AreDistinctRoles roles (bd.roles a ch i)) bd.fit (live_scope c) refl co.well_formed (together a ch i r p qs roles (all_next a ((r, p) ∷ qs) ms js)) in
                  let event_is : event.Start a n.sid (((r, p) ∷ qs) ++ served_parts ch.serve (length n.machines)) ≡ x = cc in
                  let same : event.Start a c.sid (((r, p) ∷ qs) ++ served_parts ch.serve (length c.vars)) ≡ x = ap (λ y. event.Start a y (((r, p) ∷ qs) ++ served_parts ch.serve (length c.vars))) (sym co.sid) ∙ ap (λ y. event.Start a n.sid (((r, p) ∷ qs) ++ served_parts ch.serve y)) (sym count) ∙ event_is in
                  let state : record n { machines = with_machines n.machines ms ++ served e a n.sid ch.serve; sid = suc n.sid } ≡ m' = cc in
                  subst (λ y. Did e procs sets lists hosts bd c n co y m') same (subst (Did e procs sets lists hosts bd c n co (event.Start a c.sid (((r, p) ∷ qs) ++ served_parts ch.serve (length c.vars)))) state
                  (record {
                    next = record { tree = made.left; vars = vars_after c.vars (event.Start a c.sid (((r, p) ∷ qs) ++ served_parts ch.serve (length c.vars))) Keeps; sid = sid_after c.sid (event.Start a c.sid (((r, p) ∷ qs) ++ served_parts ch.serve (length c.vars))) };
                    steps = record { effect = Keeps; moves = made.moves; vars = refl; sid = refl };
                    corresponds = kept_started a ch i r p qs ms js made.left made.moves;
                  }))
