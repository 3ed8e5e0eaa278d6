-- Processes that are ahead of a state, and what a start does to them.
use Rattle.std.proofs.Common.{◌≡◌, ◌≢◌, ℕ, ℤ, suc, ◌+◌, ◌/◌, ◌<◌, ◌≤◌, ◌==◌, ◌||◌, ◌⊎◌, inl, inr, Bool, true, false, List, [], ◌∷◌, ◌++◌, length, get_or, take, refl, sym, ap, ◌∙◌, subst, Option, Some, None, arith, if◌then◌else◌}
use Rattle.std.specs.Prelude.{slice_get, map, All, nat_lt}
use Rattle.std.proofs.lemmas.List.{take_more, length-map}
use Rattle.std.proofs.lemmas.List.Elements.{All-get_or}
use Rattle.std.proofs.lemmas.Bool.{eqb-true}
use Rattle.std.proofs.lemmas.Bool.Decides.{nat_tests}
use Rattle.std.proofs.lemmas.Option.{slice_get_past, slice_get_within}
use Rattle.chor_base.proofs.Lists.{get_set_other}
use Rattle.chor_base.specs.declared.names.NameId.{NameId}
use Rattle.chor_base.specs.declared.event.Event.{Event}
use Rattle.chor_base.specs.Meaning.{Hosts}
use Rattle.chor_base.specs.NameMap.{Variables}
use Rattle.endpoint_code.specs.declared.code.CodeNode.{CodeNode}
use Rattle.endpoint_code.specs.declared.code.CodeNode.TheVariants.{Join, Send, Recv, Pick, Branch, Throw, Catch, Set, Show, Host, If, Call, End}
use Rattle.endpoint_code.specs.declared.endpoints.Endpoints.{Endpoints}
use Rattle.endpoint_code.specs.Faults.{has_service}
use Rattle.endpoint_code.specs.Network.{Machine, NetworkState, Sessions, Place, Made, Makes, place_of, place_at, joins, place_joins, node_joins, node_makes, place_makes, moved}
use Rattle.endpoint_code.specs.NetworkRuns.{joins_there}
use Rattle.endpoint_machine.specs.Bound.{IsBound}
use Rattle.endpoint_machine.specs.Steps.{HasActed}
use Rattle.endpoint_machine.specs.Views.{MachineView}
use Rattle.session_starts.specs.Machines.{standing_of, number_of}
use Rattle.post_office.specs.Posts.{nothing}
use Rattle.crew.specs.declared.share.Share.{Share}
use Rattle.crew.specs.Crews.{CrewView}
use Rattle.crew.specs.Ahead.{is_by, events_by, ComesTo, IsOwn, IsAhead}
use Rattle.crew.specs.Starts.{is_own, is_there, served_one, CanTake, HasTaken}
use Rattle.crew.proofs.Numbers.{number, own_number, number_one, number_before, other_number, there_some, none_past, get_before, get_last, set_own, ends_at, is_or_not}
use Rattle.crew.proofs.Parts.{has_part, has_append, part_place}
use Rattle.crew.proofs.Started.{IsPart, joined, new_one, StartOf}

-- ---- who joins makes nothing by itself

node_joins_not : (cap : Option ℕ) (n : NetworkState) (p : ℕ) (v : ℤ) (vars : Variables) (ss : Sessions) (node : CodeNode) (w : Made) (c r : NameId) (s : ℕ) (k : Machine) → node_joins node vars ss c r s ≡ Some k → node_makes cap n p v vars ss node ≡ Some w → ⊥
node_joins_not cap n p v vars ss (Join d q j next) w c r s k h i = cc
node_joins_not cap n p v vars ss (Send j b x next) w c r s k h i = cc
node_joins_not cap n p v vars ss (Recv j a x next) w c r s k h i = cc
node_joins_not cap n p v vars ss (Pick j b l next) w c r s k h i = cc
node_joins_not cap n p v vars ss (Branch j a arms) w c r s k h i = cc
node_joins_not cap n p v vars ss (Throw j b g next) w c r s k h i = cc
node_joins_not cap n p v vars ss (Catch j a g next) w c r s k h i = cc
node_joins_not cap n p v vars ss (Set x y next) w c r s k h i = cc
node_joins_not cap n p v vars ss (Show y next) w c r s k h i = cc
node_joins_not cap n p v vars ss (Host x f y z next) w c r s k h i = cc
node_joins_not cap n p v vars ss (If y t u) w c r s k h i = cc
node_joins_not cap n p v vars ss (Call f o ns) w c r s k h i = cc
node_joins_not cap n p v vars ss End w c r s k h i = cc

acts_joins_not : (e : Endpoints) (hosts : Hosts) (p : ℕ) (m k new : Machine) (x : Event) (c r : NameId) (s : ℕ) → joins e (Some m) c r s ≡ Some k → HasActed e hosts p m x new → ⊥
acts_joins_not e hosts p m k new x c r s h acted = go (place_of e m) (moved nothing p new.at new.vars new.sessions) h (acted.made None nothing)
  where
    go : (o : Option Place) (w : NetworkState) → place_joins o m.vars c r s ≡ Some k → place_makes None nothing p acted.answer m.vars o ≡ Some (Makes x w) → ⊥
    go None w i j = cc
    go (Some q) w i j = node_joins_not None nothing p acted.answer m.vars q.sessions q.node (Makes x w) c r s k i j

module _ (e : Endpoints) (hosts : Hosts) (p : ℕ) where
  -- one that joins has no event that isn't noted
  pub comes_joining : (xs : List Event) (m k : Machine) (o : Option Machine) (c r : NameId) (s : ℕ) → ComesTo e hosts p xs (Some m) o → joins e (Some m) c r s ≡ Some k → (xs ≡ []) × (o ≡ Some m)
  comes_joining xs m k None c r s h j = absurd h
  comes_joining [] m k (Some new) c r s h j = (refl, ap (λ (w : Machine). Some w) (sym h))
  comes_joining (x ∷ xs) m k (Some new) c r s h j = absurd (acts_joins_not e hosts p m k h.0 x c r s j h.1)

  pub comes_none : (xs : List Event) (o : Option Machine) → ComesTo e hosts p xs None o → (xs ≡ []) × (o ≡ None)
  comes_none xs None h = (h, refl)
  comes_none xs (Some new) h = absurd h

  pub comes_some : (xs : List Event) (m : Machine) (o : Option Machine) → ComesTo e hosts p xs (Some m) o → (k : Machine) × (o ≡ Some k)
  comes_some xs m None h = absurd h
  comes_some xs m (Some k) h = (k, refl)

  pub comes_same : (o : Option Machine) → ComesTo e hosts p [] o o
  comes_same None = refl
  comes_same (Some m) = refl

-- ---- a start

-- once some of the parts are taken over, their processes are those after the start, and the others as they were
pub record Turned (m : NetworkState) (h : Share) (old : List MachineView) (done : List (NameId × ℕ)) (ms : List MachineView) : Type 0 where
  pub standing : (j : ℕ) → slice_get (map standing_of ms) j ≡ (if has_part (number h j) done then slice_get m.machines (number h j) else slice_get (map standing_of old) j)

test_same : (a b : ℕ) → a ≡ b → (a == b) ≡ true
test_same a b h = grind (arith, nat_tests)

test_other : (a b : ℕ) → a ≢ b → (a == b) ≡ false
test_other a b h = go (a == b) refl
  where
    go : (t : Bool) → (a == b) ≡ t → t ≡ false
    go true i = absurd (h (eqb-true a b i))
    go false i = refl

pub below_or : (a b : ℕ) → (a < b) ⊎ (b ≤ a)
below_or a b = by (nat_lt a b) refl
  where
    by : (t : Bool) → nat_lt a b ≡ t → (a < b) ⊎ (b ≤ a)
    by true i = inl (grind (arith, nat_tests))
    by false i = inr (grind (arith, nat_tests))

module _ (e : Endpoints) (hosts : Hosts) (n m : NetworkState) (c : NameId) (s : ℕ) (parts : List (NameId × ℕ)) (old : CrewView) (ahead : IsAhead e hosts n old) (start : StartOf e n m c s parts) where
  comes : (j : ℕ) → ComesTo e hosts (number old.share j) (events_by (number old.share j) old.notes) (slice_get n.machines (number old.share j)) (slice_get (map standing_of old.machines) j)
  comes j = ahead.standing j

  -- after all parts
  pub turned_all : (new : CrewView) → new.share ≡ old.share → new.notes ≡ old.notes → Turned m old.share old.machines parts new.machines → ((i p : ℕ) → slice_get (map number_of new.machines) i ≡ Some p → p ≡ number old.share i) → All (IsBound e) (map standing_of new.machines) → IsAhead e hosts m new
  turned_all new share notes turned numbers bound = record {
    standing = λ j. subst (λ (h : Share). ComesTo e hosts (number h j) (events_by (number h j) new.notes) (slice_get m.machines (number h j)) (slice_get (map standing_of new.machines) j)) (sym share)
        (subst (λ (xs : List Event). ComesTo e hosts (number old.share j) (events_by (number old.share j) xs) (slice_get m.machines (number old.share j)) (slice_get (map standing_of new.machines) j)) (sym notes) (at_place j));
    numbers = λ i p is. subst (λ (h : Share). p ≡ number h i) (sym share) (numbers i p is);
    bound = bound;
    own = subst (λ (xs : List Event). All (IsOwn new) xs) (sym notes)
        (λ k d lt. let o = ahead.own k d lt in (o.0, subst (λ (h : Share). is_by (number h o.0) (get_or old.notes k d) ≡ true) (sym share) o.1));
  }
    where
      at_place : (j : ℕ) → ComesTo e hosts (number old.share j) (events_by (number old.share j) old.notes) (slice_get m.machines (number old.share j)) (slice_get (map standing_of new.machines) j)
      at_place j = go (has_part p parts) refl
        where
          p : ℕ
          p = number old.share j

          xs : List Event
          xs = events_by p old.notes

          go : (b : Bool) → has_part p parts ≡ b → ComesTo e hosts p xs (slice_get m.machines p) (slice_get (map standing_of new.machines) j)
          go true has =
              let at = part_place p parts has in
              let d : NameId × ℕ = (c, p) in
              let is : slice_get (map standing_of new.machines) j ≡ slice_get m.machines p = turned.standing j ∙ ap (λ b. if b then slice_get m.machines p else slice_get (map standing_of old.machines) j) has in
              let none : xs ≡ [] = by_part (get_or parts at.0 d) (at.2 d) (All-get_or (IsPart e n m c s) parts at.0 d at.1 start.each) in
              subst (λ (ys : List Event). ComesTo e hosts p ys (slice_get m.machines p) (slice_get (map standing_of new.machines) j)) (sym none)
              (subst (λ (o : Option Machine). ComesTo e hosts p [] (slice_get m.machines p) o) (sym is) (comes_same e hosts p (slice_get m.machines p)))
            where
              by_part : (q : NameId × ℕ) → q.1 ≡ p → IsPart e n m c s q → xs ≡ []
              by_part q same (joined a b there i k l) = (comes_joining e hosts p xs a b (slice_get (map standing_of old.machines) j) c q.0 s (subst (λ (o : Option Machine). ComesTo e hosts p xs o (slice_get (map standing_of old.machines) j)) (ap (slice_get n.machines) (sym same) ∙ i) (comes j)) k).0
              by_part q same (new_one le service l) = (comes_none e hosts p xs (slice_get (map standing_of old.machines) j) (subst (λ (o : Option Machine). ComesTo e hosts p xs o (slice_get (map standing_of old.machines) j)) (slice_get_past n.machines p (subst (λ k. length n.machines ≤ k) same le)) (comes j))).0
          go false none =
              let is : slice_get (map standing_of new.machines) j ≡ slice_get (map standing_of old.machines) j = turned.standing j ∙ ap (λ b. if b then slice_get m.machines p else slice_get (map standing_of old.machines) j) none in
              subst (λ (o : Option Machine). ComesTo e hosts p xs (slice_get m.machines p) o) (sym is)
              (subst (λ (o : Option Machine). ComesTo e hosts p xs o (slice_get (map standing_of old.machines) j)) (sym (start.others p none)) (comes j))

  -- before a part
  module _ (i : ℕ) (d : NameId × ℕ) (lt : i < length parts) (ms : List MachineView) (turned : Turned m old.share old.machines (take i parts) ms) where
    abbrev q : NameId × ℕ
    q = get_or parts i d

    abbrev place : ℕ
    place = (get_or parts i d).1 / old.share.workers

    part : IsPart e n m c s q
    part = All-get_or (IsPart e n m c s) parts i d lt start.each

    untaken : (j : ℕ) → has_part (number old.share j) (take i parts) ≡ false → slice_get (map standing_of ms) j ≡ slice_get (map standing_of old.machines) j
    untaken j none = turned.standing j ∙ ap (λ b. if b then slice_get m.machines (number old.share j) else slice_get (map standing_of old.machines) j) none

    taken : (j : ℕ) → has_part (number old.share j) (take i parts) ≡ true → slice_get (map standing_of ms) j ≡ slice_get m.machines (number old.share j)
    taken j some = turned.standing j ∙ ap (λ b. if b then slice_get m.machines (number old.share j) else slice_get (map standing_of old.machines) j) some

    -- after one part more
    has_more : (p : ℕ) → has_part p (take (i + 1) parts) ≡ (has_part p (take i parts) || (q.1 == p))
    has_more p = ap (has_part p) (take_more parts i d lt) ∙ has_append p (take i parts) (q ∷ []) ∙ ap (λ b. has_part p (take i parts) || b) (or_last (q.1 == p))
      where
        or_last : (b : Bool) → (b || false) ≡ b
        or_last true = refl
        or_last false = refl

    -- the process of an owned part
    module _ (own : is_own old.share q.1 ≡ true) where
      named : q.1 ≡ number old.share place
      named = own_number old.share q.1 own

      as_before : slice_get (map standing_of ms) place ≡ slice_get (map standing_of old.machines) place
      as_before = untaken place (ap (λ p. has_part p (take i parts)) (sym named) ∙ start.one_part i d lt)

      comes_here : (o : Option Machine) → slice_get n.machines q.1 ≡ o → ComesTo e hosts (number old.share place) (events_by (number old.share place) old.notes) o (slice_get (map standing_of old.machines) place)
      comes_here o is = subst (λ (o : Option Machine). ComesTo e hosts (number old.share place) (events_by (number old.share place) old.notes) o (slice_get (map standing_of old.machines) place)) (ap (slice_get n.machines) (sym named) ∙ is) (comes place)

      -- one that joins is there, as it joins
      is_joining : (a b : Machine) → slice_get n.machines q.1 ≡ Some a → joins e (Some a) c q.0 s ≡ Some b → slice_get (map standing_of ms) place ≡ Some a
      is_joining a b at k = as_before ∙ (comes_joining e hosts (number old.share place) (events_by (number old.share place) old.notes) a b (slice_get (map standing_of old.machines) place) c q.0 s (comes_here (Some a) at) k).1

      -- a new one isn't
      is_missing : length n.machines ≤ q.1 → slice_get (map standing_of ms) place ≡ None
      is_missing le = as_before ∙ (comes_none e hosts (number old.share place) (events_by (number old.share place) old.notes) (slice_get (map standing_of old.machines) place) (comes_here None (slice_get_past n.machines q.1 le))).1

      long : length (map standing_of ms) ≡ length ms
      long = length-map ms standing_of

      there_lt : is_there old.share ms q.1 ≡ true → place < length ms
      there_lt h = grind (arith, nat_tests)

      there_le : is_there old.share ms q.1 ≡ false → length ms ≤ place
      there_le h = grind (arith, nat_tests)

      can_there : is_there old.share ms q.1 ≡ true → CanTake e c old.share ms q true true
      can_there there = go part
        where
          go : IsPart e n m c s q → joins_there (place_at e (slice_get (map standing_of ms) place)) c q.0 ≡ true
          go (joined a b joining at k to) = ap (λ (o : Option Machine). joins_there (place_at e o) c q.0) (is_joining a b at k) ∙ joining
          go (new_one le service to) = (let le = none_past (map standing_of ms) place (is_missing le) in let lt = there_lt there in absurd (omega (arith, le, lt, long)))

      can_new : is_there old.share ms q.1 ≡ false → CanTake e c old.share ms q true false
      can_new absent = go part
        where
          go : IsPart e n m c s q → has_service c q.0 e.services ≡ true
          go (joined a b joining at k to) = (let lt = slice_get_within (map standing_of ms) place a (is_joining a b at k) in let le = there_le absent in absurd (omega (arith, le, lt, long)))
          go (new_one le service to) = service

      other_test : (j : ℕ) → j ≢ place → (q.1 == number old.share j) ≡ false
      other_test j apart = test_other q.1 (number old.share j) (λ same. apart (number_one old.share j place (sym same ∙ named)))

      own_test : (q.1 == number old.share place) ≡ true
      own_test = test_same q.1 (number old.share place) named

      -- a list that has the process after the start at its place, and the others as before
      turned_more : (new : List MachineView) → slice_get (map standing_of new) place ≡ slice_get m.machines q.1 → ((j : ℕ) → j ≢ place → slice_get (map standing_of new) j ≡ slice_get (map standing_of ms) j) → Turned m old.share old.machines (take (i + 1) parts) new
      turned_more new here others = record { standing = at }
        where
          or_true : (b : Bool) → (b || true) ≡ true
          or_true true = refl
          or_true false = refl

          or_none : (b : Bool) → (b || false) ≡ b
          or_none true = refl
          or_none false = refl

          at : (j : ℕ) → slice_get (map standing_of new) j ≡ (if has_part (number old.share j) (take (i + 1) parts) then slice_get m.machines (number old.share j) else slice_get (map standing_of old.machines) j)
          at j = elim (is_or_not j place) [
            | inl same ↦ (
                let yes : has_part (number old.share place) (take (i + 1) parts) ≡ true = has_more (number old.share place) ∙ ap (λ b. has_part (number old.share place) (take i parts) || b) own_test ∙ or_true (has_part (number old.share place) (take i parts)) in
                subst (λ k. slice_get (map standing_of new) k ≡ (if has_part (number old.share k) (take (i + 1) parts) then slice_get m.machines (number old.share k) else slice_get (map standing_of old.machines) k)) (sym same)
                (here ∙ ap (slice_get m.machines) named ∙ sym (ap (λ b. if b then slice_get m.machines (number old.share place) else slice_get (map standing_of old.machines) place) yes))
                )
            | inr apart ↦ (
                let same : has_part (number old.share j) (take (i + 1) parts) ≡ has_part (number old.share j) (take i parts) = has_more (number old.share j) ∙ ap (λ b. has_part (number old.share j) (take i parts) || b) (other_test j apart) ∙ or_none (has_part (number old.share j) (take i parts)) in
                others j apart ∙ turned.standing j ∙ sym (ap (λ b. if b then slice_get m.machines (number old.share j) else slice_get (map standing_of old.machines) j) same)
                )
          ]

      joined_more : is_there old.share ms q.1 ≡ true → (new : List MachineView) → HasTaken e c s old.share q ms new true true → Turned m old.share old.machines (take (i + 1) parts) new
      joined_more there new h = go part
        where
          inside : place < length (map standing_of ms)
          inside = (let k = there_lt there in omega (arith, k, long))

          go : IsPart e n m c s q → Turned m old.share old.machines (take (i + 1) parts) new
          go (joined a b joining at k to) =
              let first : Some h.0 ≡ Some b = sym h.1 ∙ ap (λ (o : Option Machine). joins e o c q.0 s) (is_joining a b at k) ∙ k in
              turned_more new (ap (λ (l : List Machine). slice_get l place) h.2 ∙ set_own (map standing_of ms) place h.0 inside ∙ first ∙ sym to)
              (λ j apart. ap (λ (l : List Machine). slice_get l j) h.2 ∙ get_set_other (map standing_of ms) place j h.0 apart)
          go (new_one le service to) = (let le = none_past (map standing_of ms) place (is_missing le) in absurd (omega (arith, le, inside)))

      -- a new one comes to the end
      at_end : is_there old.share ms q.1 ≡ false → length (map standing_of ms) ≡ place
      at_end absent = go part
        where
          go : IsPart e n m c s q → length (map standing_of ms) ≡ place
          go (joined a b joining at k to) = (let lt = slice_get_within (map standing_of ms) place a (is_joining a b at k) in let le = there_le absent in absurd (omega (arith, le, lt, long)))
          go (new_one le service to) = ends_at (map standing_of ms) place (is_missing le) before
            where
              m_long : q.1 < length m.machines
              m_long = slice_get_within m.machines q.1 (served_one e c s q.0) to

              before : (j : ℕ) → suc j ≡ place → (x : Machine) × (slice_get (map standing_of ms) j ≡ Some x)
              before j next = by (has_part (number old.share j) (take i parts)) refl
                where
                  less : number old.share j < q.1
                  less = subst (λ p. number old.share j < p) (ap (number old.share) next ∙ sym named) (number_before old.share j)

                  by : (b : Bool) → has_part (number old.share j) (take i parts) ≡ b → (x : Machine) × (slice_get (map standing_of ms) j ≡ Some x)
                  by true has = (let x = there_some m.machines (number old.share j) (omega (arith, less, m_long)) in (x.0, taken j has ∙ x.1))
                  by false none = elim (below_or (number old.share j) (length n.machines)) [
                    | inl lt ↦ (
                        let x = there_some n.machines (number old.share j) lt in
                        let y = comes_some e hosts (number old.share j) (events_by (number old.share j) old.notes) x.0 (slice_get (map standing_of old.machines) j) (subst (λ (o : Option Machine). ComesTo e hosts (number old.share j) (events_by (number old.share j) old.notes) o (slice_get (map standing_of old.machines) j)) x.1 (comes j)) in
                        (y.0, untaken j none ∙ y.1)
                        )
                    | inr past ↦ (let has = start.before i (number old.share j) d lt past less in let no : true ≡ false = sym has ∙ none in absurd cc)
                  ]

      new_more : is_there old.share ms q.1 ≡ false → (new : List MachineView) → HasTaken e c s old.share q ms new true false → Turned m old.share old.machines (take (i + 1) parts) new
      new_more absent new h = go part
        where
          end : length (map standing_of ms) ≡ place
          end = at_end absent

          go : IsPart e n m c s q → Turned m old.share old.machines (take (i + 1) parts) new
          go (joined a b joining at k to) = (let lt = slice_get_within (map standing_of ms) place a (is_joining a b at k) in absurd (omega (arith, lt, end)))
          go (new_one le service to) =
              turned_more new (ap (λ (l : List Machine). slice_get l place) h.0 ∙ ap (slice_get (map standing_of ms ++ served_one e c s q.0 ∷ [])) (sym end) ∙ get_last (map standing_of ms) (served_one e c s q.0) ∙ sym to)
              (λ j apart. ap (λ (l : List Machine). slice_get l j) h.0 ∙ get_before (map standing_of ms) (served_one e c s q.0) j (λ same. apart (same ∙ end)))

    -- ---- any part

    pub can_take : CanTake e c old.share ms q (is_own old.share q.1) (is_there old.share ms q.1)
    can_take = go (is_own old.share q.1) refl (is_there old.share ms q.1) refl
      where
        go : (own : Bool) → is_own old.share q.1 ≡ own → (there : Bool) → is_there old.share ms q.1 ≡ there → CanTake e c old.share ms q own there
        go false own there j = tt
        go true own true j = can_there own j
        go true own false j = can_new own j

    pub take_more_parts : (new : List MachineView) → HasTaken e c s old.share q ms new (is_own old.share q.1) (is_there old.share ms q.1) → Turned m old.share old.machines (take (i + 1) parts) new
    take_more_parts new h = go (is_own old.share q.1) refl (is_there old.share ms q.1) refl h
      where
        go : (own : Bool) → is_own old.share q.1 ≡ own → (there : Bool) → is_there old.share ms q.1 ≡ there → HasTaken e c s old.share q ms new own there → Turned m old.share old.machines (take (i + 1) parts) new
        go false other there j same = record { standing = at }
          where
            or_none : (b : Bool) → (b || false) ≡ b
            or_none true = refl
            or_none false = refl

            at : (j : ℕ) → slice_get (map standing_of new) j ≡ (if has_part (number old.share j) (take (i + 1) parts) then slice_get m.machines (number old.share j) else slice_get (map standing_of old.machines) j)
            at j =
                let none : (q.1 == number old.share j) ≡ false = test_other q.1 (number old.share j) (other_number old.share q.1 j other) in
                let alike : has_part (number old.share j) (take (i + 1) parts) ≡ has_part (number old.share j) (take i parts) = has_more (number old.share j) ∙ ap (λ b. has_part (number old.share j) (take i parts) || b) none ∙ or_none (has_part (number old.share j) (take i parts)) in
                ap (λ (l : List MachineView). slice_get (map standing_of l) j) same ∙ turned.standing j ∙ sym (ap (λ b. if b then slice_get m.machines (number old.share j) else slice_get (map standing_of old.machines) j) alike)
        go true own true j taken = joined_more own j new taken
        go true own false j taken = new_more own j new taken

    -- the numbers stay those of the places
    abbrev Numbered : List MachineView → Type 0
    Numbered l = (j p : ℕ) → slice_get (map number_of l) j ≡ Some p → p ≡ number old.share j

    pub numbered_more : (new : List MachineView) → Numbered ms → HasTaken e c s old.share q ms new (is_own old.share q.1) (is_there old.share ms q.1) → Numbered new
    numbered_more new all h = go (is_own old.share q.1) refl (is_there old.share ms q.1) refl h
      where
        go : (own : Bool) → is_own old.share q.1 ≡ own → (there : Bool) → is_there old.share ms q.1 ≡ there → HasTaken e c s old.share q ms new own there → Numbered new
        go false other there j same k p at = all k p (ap (λ (l : List MachineView). slice_get (map number_of l) k) (sym same) ∙ at)
        go true own true j taken k p at = all k p (ap (λ (l : List ℕ). slice_get l k) (sym taken.3) ∙ at)
        go true own false j taken k p at = elim (is_or_not k (length (map number_of ms))) [
          | inl same ↦ (
              let last : slice_get (map number_of new) k ≡ Some q.1 = ap (λ (l : List ℕ). slice_get l k) taken.1 ∙ ap (slice_get (map number_of ms ++ q.1 ∷ [])) same ∙ get_last (map number_of ms) q.1 in
              let is : Some p ≡ Some q.1 = sym at ∙ last in
              let p_is : p ≡ q.1 = cc in
              let place_is : k ≡ place = same ∙ length-map ms number_of ∙ sym (length-map ms standing_of) ∙ at_end own j in
              p_is ∙ named own ∙ ap (number old.share) (sym place_is)
              )
          | inr apart ↦ all k p (sym (get_before (map number_of ms) q.1 k apart) ∙ ap (λ (l : List ℕ). slice_get l k) (sym taken.1) ∙ at)
        ]
