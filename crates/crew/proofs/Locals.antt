-- A local event that a process makes outside the turn.
use Rattle.std.proofs.Common.{◌≡◌, ℕ, ℤ, zero, suc, ◌<◌, ◌==◌, inl, inr, Bool, true, false, List, [], ◌∷◌, ◌++◌, length, get_or, refl, sym, ap, ◌∙◌, subst, Option, Some, None, arith, append-nil, if◌then◌else◌}
use Rattle.std.specs.Prelude.{slice_get, slice_set, map, All}
use Rattle.std.proofs.lemmas.Bool.Decides.{nat_tests}
use Rattle.std.proofs.lemmas.List.{map-set, length-map}
use Rattle.std.proofs.lemmas.List.Elements.{All-push, All-set}
use Rattle.chor_base.specs.declared.names.NameId.{NameId}
use Rattle.chor_base.specs.declared.value.Load.{Load}
use Rattle.chor_base.specs.declared.event.Event.{Event}
use Rattle.chor_base.specs.Meaning.{Hosts}
use Rattle.chor_base.specs.NameMap.{Variables}
use Rattle.std.specs.FinMap as fin
use Rattle.chor_base.proofs.Lists.{get_set_other}
use Rattle.endpoint_code.specs.declared.code.CodeNode.{CodeNode}
use Rattle.endpoint_code.specs.declared.code.CodeNode.TheVariants.{Join, Send, Recv, Pick, Branch, Throw, Catch, Set, Show, Host, If, Call, End}
use Rattle.endpoint_code.specs.declared.endpoints.Endpoints.{Endpoints}
use Rattle.endpoint_code.specs.Network.{Machine, NetworkState, Sessions, Place, Made, Makes, Taking, place_of, puts, takes, moved, node_makes, place_makes, part_load}
use Rattle.endpoint_machine.specs.Bound.{IsBound}
use Rattle.endpoint_machine.specs.Steps.{HasActed}
use Rattle.endpoint_machine.specs.Views.{MachineView}
use Rattle.session_starts.specs.Machines.{standing_of, number_of}
use Rattle.session_starts.proofs.Joins.{mapped_get}
use Rattle.post_office.specs.Posts.{nothing}
use Rattle.crew.specs.Crews.{CrewView, number_at}
use Rattle.crew.specs.Ahead.{is_by, events_by, ActsAll, ComesTo, IsOwn, IsAhead}
use Rattle.crew.proofs.Numbers.{number_one, set_own, is_or_not}
use Rattle.crew.proofs.Notes.{by_other}

-- ---- who acts by itself makes a local event

same_test : (a : ℕ) → (a == a) ≡ true
same_test a = grind (arith, nat_tests)

made_by : (p : ℕ) {x y : Event} {k m : NetworkState} → Some (Makes y k) ≡ Some (Makes x m) → is_by p y ≡ true → is_by p x ≡ true
made_by p {x} {y} h i = (let same : y ≡ x = cc in ap (is_by p) (sym same) ∙ i)

put_not : (p : ℕ) (at : _) (vars : Variables) (ss : Sessions) (b : NameId) (o : Option (ℕ × NameId)) (ol : Option Load) (w : Made) → puts (Some 0) (moved nothing p at vars ss) p b o ol ≡ Some w → ⊥
put_not p at vars ss b None ol w h = cc
put_not p at vars ss b (Some (s, a)) None w h = cc
put_not p at vars ss b (Some (s, a)) (Some l) w h = cc

take_not : (p : ℕ) (a : NameId) (o : Option (ℕ × NameId)) (f : Load → Option Taking) (w : Made) → takes nothing p a o f ≡ Some w → ⊥
take_not p a None f w h = cc
take_not p a (Some (s, b)) f w h = cc

node_by : (p : ℕ) (v : ℤ) (vars : Variables) (ss : Sessions) (node : CodeNode) (x : Event) (m : NetworkState) → node_makes (Some 0) nothing p v vars ss node ≡ Some (Makes x m) → is_by p x ≡ true
node_by p v vars ss (Send k b e next) x m h = absurd (put_not p next vars ss b _ _ _ h)
node_by p v vars ss (Pick k b l next) x m h = absurd (put_not p next vars ss b _ _ _ h)
node_by p v vars ss (Throw k b g next) x m h = absurd (put_not p next vars (fin.remove ss g.0) b (fin.get ss k.0) (part_load (fin.get ss g.0)) _ h)
node_by p v vars ss (Recv k a y next) x m h = absurd (take_not p a _ _ _ h)
node_by p v vars ss (Branch k a arms) x m h = absurd (take_not p a _ _ _ h)
node_by p v vars ss (Catch k a g next) x m h = absurd (take_not p a _ _ _ h)
node_by p v vars ss (Set y e next) x m h = made_by p h (same_test p)
node_by p v vars ss (Show e next) x m h = made_by p h (same_test p)
node_by p v vars ss (Host y f a b next) x m h = made_by p h (same_test p)
node_by p v vars ss (If e c d) x m h = made_by p h (same_test p)
node_by p v vars ss (Join c r k next) x m h = absurd cc
node_by p v vars ss (Call f q ks) x m h = absurd cc
node_by p v vars ss End x m h = absurd cc

acted_by : (e : Endpoints) (hosts : Hosts) (p : ℕ) (old new : Machine) (x : Event) → HasActed e hosts p old x new → is_by p x ≡ true
acted_by e hosts p old new x acted = go (place_of e old) (moved nothing p new.at new.vars new.sessions) (acted.made (Some 0) nothing)
  where
    go : (o : Option Place) (m : NetworkState) → place_makes (Some 0) nothing p acted.answer old.vars o ≡ Some (Makes x m) → is_by p x ≡ true
    go None m h = absurd cc
    go (Some q) m h = node_by p acted.answer old.vars q.sessions q.node x m h

-- ---- one event more

acts_more : (e : Endpoints) (hosts : Hosts) (p : ℕ) (xs : List Event) (x : Event) (old mid new : Machine) → ActsAll e hosts p old xs mid → HasActed e hosts p mid x new → ActsAll e hosts p old (xs ++ x ∷ []) new
acts_more e hosts p [] x old mid new all one = (new, subst (λ (m : Machine). HasActed e hosts p m x new) (sym all) one, refl)
acts_more e hosts p (y ∷ ys) x old mid new all one = (all.0, all.1, acts_more e hosts p ys x all.0 mid new all.2 one)

events_more : (p : ℕ) (xs : List Event) (x : Event) → events_by p (xs ++ x ∷ []) ≡ events_by p xs ++ (if is_by p x then x ∷ [] else [])
events_more p [] x = refl
events_more p (y ∷ ys) x = go (is_by p y) (events_more p ys x)
  where
    go : (b : Bool) → events_by p (ys ++ x ∷ []) ≡ events_by p ys ++ (if is_by p x then x ∷ [] else []) → (if b then y ∷ events_by p (ys ++ x ∷ []) else events_by p (ys ++ x ∷ [])) ≡ (if b then y ∷ events_by p ys else events_by p ys) ++ (if is_by p x then x ∷ [] else [])
    go true more = ap (λ l. y ∷ l) more
    go false more = more

module _ (e : Endpoints) (hosts : Hosts) (n : NetworkState) (c : CrewView) (ahead : IsAhead e hosts n c) (place : ℕ) (d new : MachineView) (lt : place < length c.machines) (x : Event) (acted : HasActed e hosts (get_or c.machines place d).number (get_or c.machines place d).machine x new.machine) (same : new.number ≡ (get_or c.machines place d).number) (bound : IsBound e new.machine) where
  abbrev old : MachineView
  old = get_or c.machines place d

  mapped : {Y : Type 0} (f : MachineView → Y) (ms : List MachineView) (i : ℕ) → i < length ms → slice_get (map f ms) i ≡ Some (f (get_or ms i d))
  mapped f [] i l = absurd (omega (arith, l))
  mapped f (m ∷ ms) zero l = refl
  mapped f (m ∷ ms) (suc i) l = mapped f ms i (omega (arith, l))

  named : (get_or c.machines place d).number ≡ number_at c place
  named = ahead.numbers place (get_or c.machines place d).number (mapped number_of c.machines place lt)

  by : is_by (number_at c place) x ≡ true
  by = subst (λ p. is_by p x ≡ true) named (acted_by e hosts (get_or c.machines place d).number (get_or c.machines place d).machine new.machine x acted)

  long : length (map standing_of c.machines) ≡ length c.machines
  long = length-map c.machines standing_of

  pub work_ahead : IsAhead e hosts n (record c { machines = slice_set c.machines place new; notes = c.notes ++ x ∷ [] })
  work_ahead = record {
    standing = at;
    numbers = λ i p is. ahead.numbers i p (ap (λ (l : List ℕ). slice_get l i) (sym (mapped_get number_of c.machines place d new lt same)) ∙ is);
    bound = subst (All (IsBound e)) (sym (map-set standing_of c.machines place new)) (All-set (IsBound e) (map standing_of c.machines) place new.machine bound ahead.bound);
    own = All-push (IsOwn c) c.notes x ahead.own (place, by);
  }
    where
      set : map standing_of (slice_set c.machines place new) ≡ slice_set (map standing_of c.machines) place new.machine
      set = map-set standing_of c.machines place new

      at : (j : ℕ) → ComesTo e hosts (number_at c j) (events_by (number_at c j) (c.notes ++ x ∷ [])) (slice_get n.machines (number_at c j)) (slice_get (map standing_of (slice_set c.machines place new)) j)
      at j = elim (is_or_not j place) [
        | inl eq ↦ subst (λ k. ComesTo e hosts (number_at c k) (events_by (number_at c k) (c.notes ++ x ∷ [])) (slice_get n.machines (number_at c k)) (slice_get (map standing_of (slice_set c.machines place new)) k)) (sym eq) here
        | inr apart ↦ (
            let other : is_by (number_at c j) x ≡ false = by_other (number_at c place) (number_at c j) x by (λ eq. apart (number_one c.share j place eq)) in
            let events : events_by (number_at c j) (c.notes ++ x ∷ []) ≡ events_by (number_at c j) c.notes = events_more (number_at c j) c.notes x ∙ ap (λ b. events_by (number_at c j) c.notes ++ (if b then x ∷ [] else [])) other ∙ append-nil (events_by (number_at c j) c.notes) in
            subst (λ (xs : List Event). ComesTo e hosts (number_at c j) xs (slice_get n.machines (number_at c j)) (slice_get (map standing_of (slice_set c.machines place new)) j)) (sym events)
            (subst (λ (o : Option Machine). ComesTo e hosts (number_at c j) (events_by (number_at c j) c.notes) (slice_get n.machines (number_at c j)) o) (sym (ap (λ (l : List Machine). slice_get l j) set ∙ get_set_other (map standing_of c.machines) place j new.machine apart)) (ahead.standing j))
            )
      ]
        where
          p : ℕ
          p = number_at c place

          events : events_by (number_at c place) (c.notes ++ x ∷ []) ≡ events_by (number_at c place) c.notes ++ x ∷ []
          events = events_more (number_at c place) c.notes x ∙ ap (λ b. events_by (number_at c place) c.notes ++ (if b then x ∷ [] else [])) by

          was : ComesTo e hosts (number_at c place) (events_by (number_at c place) c.notes) (slice_get n.machines (number_at c place)) (Some (get_or c.machines place d).machine)
          was = subst (λ (o : Option Machine). ComesTo e hosts (number_at c place) (events_by (number_at c place) c.notes) (slice_get n.machines (number_at c place)) o) (mapped standing_of c.machines place lt) (ahead.standing place)

          one : HasActed e hosts (number_at c place) (get_or c.machines place d).machine x new.machine
          one = subst (λ q. HasActed e hosts q (get_or c.machines place d).machine x new.machine) named acted

          grown : (o : Option Machine) → ComesTo e hosts (number_at c place) (events_by (number_at c place) c.notes) o (Some (get_or c.machines place d).machine) → ComesTo e hosts (number_at c place) (events_by (number_at c place) c.notes ++ x ∷ []) o (Some new.machine)
          grown None h = absurd h
          grown (Some a) h = acts_more e hosts (number_at c place) (events_by (number_at c place) c.notes) x a (get_or c.machines place d).machine new.machine h one

          here : ComesTo e hosts (number_at c place) (events_by (number_at c place) (c.notes ++ x ∷ [])) (slice_get n.machines (number_at c place)) (slice_get (map standing_of (slice_set c.machines place new)) place)
          here =
              subst (λ (xs : List Event). ComesTo e hosts (number_at c place) xs (slice_get n.machines (number_at c place)) (slice_get (map standing_of (slice_set c.machines place new)) place)) (sym events)
              (subst (λ (o : Option Machine). ComesTo e hosts (number_at c place) (events_by (number_at c place) c.notes ++ x ∷ []) (slice_get n.machines (number_at c place)) o)
              (sym (ap (λ (l : List Machine). slice_get l place) set ∙ set_own (map standing_of c.machines) place new.machine (omega (arith, lt, long)))) (grown (slice_get n.machines (number_at c place)) was))
