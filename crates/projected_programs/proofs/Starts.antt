-- A start is told.
use Rattle.std.proofs.Common.{◌||◌, ◌≡◌, ◌<◌, ◌≤◌, ◌+◌, ◌^◌, ◌&&◌, ◌==◌, ◌++◌, ℕ, suc, Bool, true, false, List, [], ◌∷◌, length, Option, Some, None, refl, sym, ap, ◌∙◌, subst, arith, if◌then◌else◌, length-append}
use Rattle.std.specs.Prelude.{All, slice_get, slice_set, max}
use Rattle.std.specs.List.{AllByRecursion, list_all}
use Rattle.std.specs.FinMap as fin
use Rattle.std.proofs.lemmas.Bool.{ltb-true, and_parts}
use Rattle.std.proofs.lemmas.Bool.Decides.{nat_tests}
use Rattle.std.proofs.lemmas.List.Elements.{All-head, All-tail}
use Rattle.chor_base.specs.declared.names.NameId.{NameId}
use Rattle.chor_base.specs.declared.event.Event.{Event}
use Rattle.chor_base.specs.declared.event.Event.TheVariants as event
use Rattle.chor_base.specs.NameMap.{Variables}
use Rattle.endpoint_code.specs.declared.code.CodeNode.{CodeNode}
use Rattle.endpoint_code.specs.declared.code.CodeNode.TheVariants.{Join}
use Rattle.endpoint_code.specs.declared.endpoints.Channel.{Channel}
use Rattle.endpoint_code.specs.declared.endpoints.Endpoints.{Endpoints}
use Rattle.endpoint_code.specs.Kept.{has_name, channel_there}
use Rattle.endpoint_code.specs.declared.endpoints.ServiceCode.{ServiceCode}
use Rattle.endpoint_code.specs.Faults.{has_service, IsFaultless}
use Rattle.endpoint_code.specs.Network.{Sessions, Machine, NetworkState, Place, Makes, place_of, node_joins, place_joins, joins, one_joiner, joiners, with_machines, service_of, served, served_parts, channel_of, begun, one_pair, paired, starts_with, channel_starts, starts}
use Rattle.transcript.specs.Text.{Words}
use Rattle.event_reader.specs.Known.{HasName, HasPart}
use Rattle.projected_programs.specs.Sizes.{AreLiteralsSized}
use Rattle.projected_programs.specs.Told.{words_of, most_served}
use Rattle.projected_programs.proofs.Values.{AreFineVariables, IsFineValue}
use Rattle.projected_programs.proofs.States.{IsSizedAt, later_variables, later_sessions, AreFineSessions, at_of, after_set, count_set, joined, along, within, empty_holds, insert_holds, IsFinePart, IsFineMachine, IsFine, later_machine, later_queues, Told, process_told}
use Rattle.projected_programs.proofs.Places.{IsKnown, place_known}

all_named : (test : NameId → Bool) (xs : List NameId) → list_all test xs ≡ true → AllByRecursion (λ y. test y ≡ true) xs
all_named test [] h = tt
all_named test (y ∷ ys) h = let k = and_parts (test y) (list_all test ys) h in (k.0, all_named test ys k.1)

same_test : (a b c d : ℕ) → ((a == b) && (c == d)) ≡ ((b == a) && (d == c))
same_test a b c d = grind (arith, nat_tests)

-- no channel has more service roles than the most
few_served : (c : NameId) (k : Channel) (ks : List Channel) → channel_of ks c ≡ Some k → length k.serve ≤ most_served ks
few_served c k [] i = absurd cc
few_served c k (d ∷ ds) i = go (d.name.0 == c.0) (few_served c k ds) i
  where
    go : (b : Bool) → (channel_of ds c ≡ Some k → length k.serve ≤ most_served ds) → (if b then Some d else channel_of ds c) ≡ Some k → length k.serve ≤ max (length d.serve) (most_served ds)
    go false others g = let h : length k.serve ≤ most_served ds = others g in omega arith
    go true others g = let same : d ≡ k = cc in let h : length d.serve ≡ length k.serve = ap (λ (q : Channel). length q.serve) same in omega arith

module _ (e : Endpoints) where
  abbrev w : Words
  w = words_of e

  abbrev AreNamed : List NameId → Type 0
  AreNamed xs = AllByRecursion (HasName w) xs

  names_there : (xs : List NameId) → list_all (has_name e.names) xs ≡ true → AreNamed xs
  names_there xs h = along (λ y. has_name e.names y ≡ true) (HasName w) (λ y k. ltb-true y.0 (length e.names) k) xs (all_named (has_name e.names) xs h)

  -- ---- channels

  record IsKnownChannel (c : NameId) (k : Channel) : Type 0 where
    name : HasName w c
    active : AreNamed k.active
    serve : AreNamed k.serve
    provided : All (λ r. has_service c r e.services ≡ true) k.serve

  abbrev IsThere : Channel → Type 0
  IsThere d = channel_there (has_name e.names) d ≡ true

  abbrev IsProvided : Channel → Type 0
  IsProvided d = All (λ r. has_service d.name r e.services ≡ true) d.serve

  channel_known : (c : NameId) (k : Channel) (ks : List Channel) → All IsThere ks → All IsProvided ks → channel_of ks c ≡ Some k → IsKnownChannel c k
  channel_known c k [] h p i = absurd cc
  channel_known c k (d ∷ ds) h p i = go (d.name.0 == c.0) refl (channel_known c k ds (All-tail IsThere d ds h) (All-tail IsProvided d ds p)) i
    where
      go : (b : Bool) → (d.name.0 == c.0) ≡ b → (channel_of ds c ≡ Some k → IsKnownChannel c k) → (if b then Some d else channel_of ds c) ≡ Some k → IsKnownChannel c k
      go false j others g = others g
      go true j others g =
          let same : d ≡ k = cc in
          let there : IsThere d = All-head IsThere d ds h in
          let one : ((has_name e.names d.name && list_all (has_name e.names) d.active) ≡ true) × (list_all (has_name e.names) d.serve ≡ true) =
          and_parts (has_name e.names d.name && list_all (has_name e.names) d.active) (list_all (has_name e.names) d.serve) there in
          let two : (has_name e.names d.name ≡ true) × (list_all (has_name e.names) d.active ≡ true) = and_parts (has_name e.names d.name) (list_all (has_name e.names) d.active) one.0 in
          let number : d.name.0 ≡ c.0 = grind (arith, nat_tests) in
          let name : d.name ≡ c = λ t. record { 0 = number t } in
          subst (λ (q : Channel). IsKnownChannel c q) same (record {
            name = subst (HasName w) name (ltb-true d.name.0 (length e.names) two.0);
            active = names_there d.active two.1;
            serve = names_there d.serve one.1;
            provided = subst (λ (y : NameId). All (λ r. has_service y r e.services ≡ true) d.serve) name (All-head IsProvided d ds p);
          })

  -- ---- services

  service_sized : (c r : NameId) (ss : List ServiceCode) → All (λ s. IsSizedAt e s.body) ss → has_service c r ss ≡ true → IsSizedAt e (service_of ss c r)
  service_sized c r [] h p = absurd cc
  service_sized c r (s ∷ ss) h p =
      go ((s.channel.0 == c.0) && (s.role.0 == r.0)) (ap (λ b. b || has_service c r ss) (same_test s.channel.0 c.0 s.role.0 r.0) ∙ p) (service_sized c r ss (All-tail (λ x. IsSizedAt e x.body) s ss h))
    where
      go : (b : Bool) → (b || has_service c r ss) ≡ true → (has_service c r ss ≡ true → IsSizedAt e (service_of ss c r)) → IsSizedAt e (if b then s.body else service_of ss c r)
      go true q others = All-head (λ x. IsSizedAt e x.body) s ss h
      go false q others = others q

  -- ---- those that join

  module _ (sized : AreLiteralsSized e) (n : NetworkState) (f : IsFine e n) where
    abbrev IsFineAfter : Machine → Type 0
    IsFineAfter q = IsFineMachine e (suc n.sid) q

    -- the session that starts
    fresh : (r : NameId) → HasName w r → IsFinePart w (suc n.sid) (n.sid, r)
    fresh r h = (omega arith, h)

    node_joined : (node : CodeNode) (vars : Variables) (ss : Sessions) (c r : NameId) (k : Machine) → IsKnown e node → AreFineVariables w n.sid vars → AreFineSessions w n.sid ss → HasName w r → node_joins node vars ss c r n.sid ≡ Some k → IsFineAfter k
    node_joined (Join d q j next) vars ss c r k known fv fs nr i = go ((d.0 == c.0) && (q.0 == r.0)) i
      where
        go : (b : Bool) → (if b then Some (let q : Machine = record { at = next; vars = vars; sessions = fin.insert ss j.0 (n.sid, r) } in q) else None) ≡ Some k → IsFineAfter k
        go false g = absurd cc
        go true g =
            let q : Machine = record { at = next; vars = vars; sessions = fin.insert ss j.0 (n.sid, r) } in
            let same : q ≡ k = cc in
            let vs = later_variables w n.sid (suc n.sid) (omega arith) vars fv in
            let ms = later_sessions w n.sid (suc n.sid) (omega arith) ss fs in
            subst IsFineAfter same (vs, insert_holds (IsFinePart w (suc n.sid)) ss j.0 (n.sid, r) ms (fresh r nr), known.sized.1)
    node_joined _ vars ss c r k known fv fs nr i = absurd cc

    machine_joined : (o : Option Machine) (c r : NameId) (k : Machine) → ((q : Machine) → o ≡ Some q → IsFineMachine e n.sid q) → HasName w r → joins e o c r n.sid ≡ Some k → IsFineAfter k
    machine_joined None c r k h nr i = absurd cc
    machine_joined (Some q) c r k h nr i = go (place_of e q) refl i
      where
        go : (o : Option Place) → place_of e q ≡ o → place_joins o q.vars c r n.sid ≡ Some k → IsFineAfter k
        go None j g = absurd cc
        go (Some p) j g =
            let fine = h q refl in
            let known = place_known e sized n.sid q p fine.1 fine.2 j in
            node_joined p.node q.vars p.sessions c r k known.node fine.0 known.sessions nr g

    -- those that join, each of the state before
    record HaveJoined (qs : List (NameId × ℕ)) (ms : List (ℕ × Machine)) : Type 0 where
      fine : AllByRecursion (λ q. IsFineAfter q.1) ms
      there : AllByRecursion (λ q. q.1 < length n.machines) qs

    joined_all : (c : NameId) (qs : List (NameId × ℕ)) (ms : List (ℕ × Machine)) → AllByRecursion (λ q. HasName w q.0) qs → joiners e n c n.sid qs ≡ Some ms → HaveJoined qs ms
    joined_all c [] ms h i = let same : [] ≡ ms = cc in subst (HaveJoined []) same (record { fine = tt; there = tt })
    joined_all c (q ∷ qs) ms h i = at_machine (slice_get n.machines q.1) refl (joins e (slice_get n.machines q.1) c q.0 n.sid) refl (joiners e n c n.sid qs) refl (λ ks d. joined_all c qs ks h.1 d) i
      where
        at_machine : (o : Option Machine) → slice_get n.machines q.1 ≡ o → (r : Option Machine) → joins e (slice_get n.machines q.1) c q.0 n.sid ≡ r → (l : Option (List (ℕ × Machine))) → joiners e n c n.sid qs ≡ l
            → ((ks : List (ℕ × Machine)) → joiners e n c n.sid qs ≡ Some ks → HaveJoined qs ks) → one_joiner q.1 r l ≡ Some ms → HaveJoined (q ∷ qs) ms
        at_machine o a None b l d others g = absurd cc
        at_machine o a (Some k) b None d others g = absurd cc
        at_machine None a (Some k) b (Some ks) d others g =
            let none : joins e None c q.0 n.sid ≡ Some k = ap (λ (z : Option Machine). joins e z c q.0 n.sid) (sym a) ∙ b in absurd cc
        at_machine (Some z) a (Some k) b (Some ks) d others g =
            let rest = others ks d in
            let same : (q.1, k) ∷ ks ≡ ms = cc in
            let fine = machine_joined (slice_get n.machines q.1) c q.0 k (λ y j. at_of (IsFineMachine e n.sid) n.machines q.1 y f.machines j) h.0 b in
            subst (HaveJoined (q ∷ qs)) same (record { fine = (fine, rest.fine); there = (within n.machines q.1 z a, rest.there) })

    -- ---- the state after

    placed : (all : List Machine) (ms : List (ℕ × Machine)) → AllByRecursion IsFineAfter all → AllByRecursion (λ q. IsFineAfter q.1) ms → AllByRecursion IsFineAfter (with_machines all ms)
    placed all [] h k = h
    placed all (q ∷ qs) h k = placed (slice_set all q.0 q.1) qs (after_set IsFineAfter all q.0 q.1 h k.0) k.1

    as_many : (all : List Machine) (ms : List (ℕ × Machine)) → length (with_machines all ms) ≡ length all
    as_many all [] = refl
    as_many all (q ∷ qs) = as_many (slice_set all q.0 q.1) qs ∙ count_set all q.0 q.1

    new_fine : (c : NameId) (rs : List NameId) → AreNamed rs → All (λ r. has_service c r e.services ≡ true) rs → AllByRecursion IsFineAfter (served e c n.sid rs)
    new_fine c [] h p = tt
    new_fine c (r ∷ rs) h p =
        let P : ℕ × NameId → Type 0 = IsFinePart w (suc n.sid) in
        let at = service_sized c r e.services sized.services (All-head (λ y. has_service c y e.services ≡ true) r rs p) in
        ((empty_holds (IsFineValue w (suc n.sid)), insert_holds P fin.empty c.0 (n.sid, r) (empty_holds P) (fresh r h.0), at), new_fine c rs h.1 (All-tail (λ y. has_service c y e.services ≡ true) r rs p))

    new_count : (c : NameId) (rs : List NameId) → length (served e c n.sid rs) ≡ length rs
    new_count c [] = refl
    new_count c (r ∷ rs) = ap (λ k. suc k) (new_count c rs)

    -- ---- the parts

    paired_named : (rs : List NameId) (ps : List ℕ) (qs : List (NameId × ℕ)) → AreNamed rs → paired rs ps ≡ Some qs → AllByRecursion (λ q. HasName w q.0) qs
    paired_named [] [] qs h i = let same : [] ≡ qs = cc in subst (AllByRecursion (λ (q : NameId × ℕ). HasName w q.0)) same tt
    paired_named [] (p ∷ ps) qs h i = absurd cc
    paired_named (r ∷ rs) [] qs h i = absurd cc
    paired_named (r ∷ rs) (p ∷ ps) qs h i = go (paired rs ps) (λ os j. paired_named rs ps os h.1 j) refl i
      where
        go : (o : Option (List (NameId × ℕ))) → ((os : List (NameId × ℕ)) → paired rs ps ≡ Some os → AllByRecursion (λ q. HasName w q.0) os) → paired rs ps ≡ o → one_pair r p o ≡ Some qs → AllByRecursion (λ q. HasName w q.0) qs
        go None others j g = absurd cc
        go (Some os) others j g = let same : (r, p) ∷ os ≡ qs = cc in subst (AllByRecursion (λ (q : NameId × ℕ). HasName w q.0)) same (h.0, others os j)

    active_told : (qs : List (NameId × ℕ)) → length n.machines ≤ 2 ^ 32 → AllByRecursion (λ q. HasName w q.0) qs → AllByRecursion (λ q. q.1 < length n.machines) qs → AllByRecursion (HasPart w) qs
    active_told [] small h k = tt
    active_told (q ∷ qs) small h k = ((h.0, process_told e q.1 (omega (arith, k.0))), active_told qs small h.1 k.1)

    served_told : (rs : List NameId) (p : ℕ) → AreNamed rs → p + length rs ≤ 2 ^ 32 → AllByRecursion (HasPart w) (served_parts rs p)
    served_told [] p h small = tt
    served_told (r ∷ rs) p h small = ((h.0, process_told e p (omega arith)), served_told rs (suc p) h.1 (omega arith))

    -- ---- the start

    module _ (x : Event) (m : NetworkState) (c : NameId) (k : Channel) (known : IsKnownChannel c k) (few : length k.serve ≤ most_served e.channels) where
      begun_told : (qs : List (NameId × ℕ)) (o : Option (List (ℕ × Machine))) → joiners e n c n.sid qs ≡ o → AllByRecursion (λ q. HasName w q.0) qs → begun e n c k qs o ≡ Some (Makes x m) → Told e n x m
      begun_told qs None j named i = absurd cc
      begun_told qs (Some ms) j named i =
          let all = joined_all c qs ms named j in
          let y : Event = event.Start c n.sid (qs ++ served_parts k.serve (length n.machines)) in
          let n' : NetworkState = record n { machines = with_machines n.machines ms ++ served e c n.sid k.serve; sid = suc n.sid } in
          let count : length n'.machines ≡ length n.machines + length k.serve =
          length-append (with_machines n.machines ms) (served e c n.sid k.serve) ∙ (λ t. as_many n.machines ms t + new_count c k.serve t) in
          let told : Told e n y n' = record {
            fine = record {
              machines = joined IsFineAfter (with_machines n.machines ms) (served e c n.sid k.serve)
                  (placed n.machines ms (along (IsFineMachine e n.sid) IsFineAfter (later_machine e n.sid (suc n.sid) (omega arith)) n.machines f.machines) all.fine) (new_fine c k.serve known.serve known.provided);
              queues = later_queues w n.sid (suc n.sid) (omega arith) n.queues f.queues;
            };
            machines = omega (arith, count);
            more = omega (arith, count, few);
            sessions = omega arith;
            next = omega arith;
            event = λ small. (known.name, omega (arith, small.1), joined (HasPart w) qs (served_parts k.serve (length n.machines)) (active_told qs (omega (arith, count, small.0)) named all.there) (served_told k.serve (length n.machines) known.serve (omega (arith, count, small.0))));
          } in
          let a : y ≡ x = cc in
          let b : n' ≡ m = cc in
          subst (λ (z : NetworkState). Told e n x z) b (subst (λ (z : Event). Told e n z n') a told)

      at_pairs : (o : Option (List (NameId × ℕ))) → ((qs : List (NameId × ℕ)) → o ≡ Some qs → AllByRecursion (λ q. HasName w q.0) qs) → starts_with e n c k o ≡ Some (Makes x m) → Told e n x m
      at_pairs None h i = absurd cc
      at_pairs (Some []) h i = absurd cc
      at_pairs (Some (q ∷ qs)) h i = begun_told (q ∷ qs) (joiners e n c n.sid (q ∷ qs)) refl (h (q ∷ qs) refl) i

    pub start_told : IsFaultless e → (x : Event) (m : NetworkState) (c : NameId) (ps : List ℕ) → starts e n c ps ≡ Some (Makes x m) → Told e n x m
    start_told faultless x m c ps i = go (channel_of e.channels c) refl i
      where
        go : (o : Option Channel) → channel_of e.channels c ≡ o → channel_starts e n c ps o ≡ Some (Makes x m) → Told e n x m
        go None j g = absurd cc
        go (Some k) j g =
            let known = channel_known c k e.channels e.numbered.in_channels faultless.names.provided j in
            at_pairs x m c k known (few_served c k e.channels j) (paired k.active ps) (λ qs z. paired_named k.active ps qs known.active z) g
