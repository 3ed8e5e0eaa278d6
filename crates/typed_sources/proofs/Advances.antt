-- A session that has reached a state reaches the next one by an exchange.
use Rattle.std.proofs.Common.{◌≡◌, ℕ, suc, List, [], ◌∷◌, ◌++◌, map, refl, sym, ap, ◌∙◌, subst, Some, Bool, true, false, ◌==◌, append_assoc, if◌then◌else◌}
use Rattle.std.specs.Prelude.{slice_get}
use Rattle.chor_base.specs.declared.names.NameId.{NameId}
use Rattle.chor_tree.specs.declared.protocol.State.{State}
use Rattle.chor_tree.specs.declared.protocol.ProtoStep.TheVariants.{End}
use Rattle.chor_tree.specs.Names.{first_named}
use Rattle.chor_base.specs.FirstPlaces.{one_later}
use Rattle.global_types.specs.Moves.{IsIn, Content, Exchange, passes, chooses, exchanges_of, state_named, Leads}
use Rattle.global_types.specs.Paths.{IsPath, Action, action_in, actions_of}
use Rattle.well_formed.proofs.References.{same_name, true_eq}
use Rattle.typed_sources.specs.Told.{of_label, Act, told_of, act_of, acts_on, put_to, got_from}
use Rattle.typed_sources.specs.Context.{exchanged}
use Rattle.typed_sources.specs.Typing.{HasEnded}
use Rattle.typed_sources.proofs.Small.{append_nil}
use Rattle.typed_sources.specs.Stands.{Reached}

path_more : (ss : List State) (path : List Exchange) (i k l : ℕ) (x : Exchange) → IsPath ss i path k → Leads ss k x l → IsPath ss i (path ++ x ∷ []) l
path_more ss [] i k l x h m = (l, subst (λ j. Leads ss j x l) (sym h) m, refl)
path_more ss (y ∷ ys) i k l x h m = (h.0, h.1, path_more ss ys h.0 k l x h.2 m)

actions_more : (r : NameId) (path : List Exchange) (x : Exchange) → actions_of r (path ++ x ∷ []) ≡ actions_of r path ++ action_in r x
actions_more r [] x = append_nil (action_in r x)
actions_more r (y ∷ ys) x = ap (λ l. action_in r y ++ l) (actions_more r ys x) ∙ sym (append_assoc (action_in r y) (actions_of r ys) (action_in r x))

map_append : {A B : Type 0} (f : A → B) (xs ys : List A) → map f (xs ++ ys) ≡ map f xs ++ map f ys
map_append f [] ys = refl
map_append f (x ∷ xs) ys = ap (λ l. f x ∷ l) (map_append f xs ys)

-- what is done in one exchange
abbrev pub acts_in : NameId → Exchange → List Act
acts_in r x = map act_of (action_in r x)

acts_more : (r : NameId) (path : List Exchange) (x : Exchange) → acts_on r (path ++ x ∷ []) ≡ acts_on r path ++ acts_in r x
acts_more r path x = ap (map act_of) (actions_more r path x) ∙ map_append act_of (actions_of r path) (action_in r x)

-- the state of a name
pub record IsState (ss : List State) (n : NameId) (st : State) : Type 0 where
  pub place : ℕ
  pub named : state_named ss n ≡ Some place
  pub here : slice_get ss place ≡ Some st

pub state_at : (ss : List State) (n : NameId) (st : State) → first_named (λ s. s.name) ss n ≡ Some st → IsState ss n st
state_at [] n st h = absurd cc
state_at (s ∷ ss) n st h = go (s.name.name.0 == n.0) refl h (state_at ss n st)
  where
    go : (b : Bool) → (s.name.name.0 == n.0) ≡ b → (if b then Some s else first_named (λ t. t.name) ss n) ≡ Some st → (first_named (λ t. t.name) ss n ≡ Some st → IsState ss n st) → IsState (s ∷ ss) n st
    go true i k ih = record { place = 0; named = ap (λ b. if b then Some 0 else one_later (state_named ss n)) i; here = k }
    go false i k ih = let w = ih k in record { place = suc w.place; named = ap (λ b. if b then Some 0 else one_later (state_named ss n)) i ∙ ap one_later w.named; here = w.here }

same_place : (ss : List State) (n : NameId) (i j : ℕ) → state_named ss n ≡ Some i → state_named ss n ≡ Some j → i ≡ j
same_place ss n i j h k = cc

pub advance : (ss : List State) (done more : NameId → List Act) (n m : NameId) (st : State) (x : Exchange) (j : ℕ) → Reached ss done n → first_named (λ s. s.name) ss n ≡ Some st
    → IsIn (x, m) (exchanges_of st.step) → state_named ss m ≡ Some j → ((r : NameId) → more r ≡ done r ++ acts_in r x) → Reached ss more m
advance ss done more n m st x j w is allowed there acts =
    let s = state_at ss n st is in
    let same = same_place ss n s.place w.place s.named w.named in
    record {
      place = j;
      named = there;
      reaches = record {
        path = w.reaches.path ++ x ∷ [];
        is_path = path_more ss w.reaches.path 0 w.place j x w.reaches.is_path (record { state = st; next = m; here = ap (slice_get ss) (sym same) ∙ s.here; allowed = allowed; there = there });
        acts = λ r. acts r ∙ ap (λ l. l ++ acts_in r x) (w.reaches.acts r) ∙ sym (acts_more r w.reaches.path x);
      };
    }

pub ended_at : (ss : List State) (done : NameId → List Act) (n : NameId) (st : State) → Reached ss done n → first_named (λ s. s.name) ss n ≡ Some st → st.step ≡ End → HasEnded ss done
ended_at ss done n st w is last =
    let s = state_at ss n st is in
    record { last = w.place; state = st; here = ap (slice_get ss) (sym (same_place ss n s.place w.place s.named w.named)) ∙ s.here; is_end = last; reaches = w.reaches }

-- ---- the acts of one exchange between two roles

two_roles : (a b : NameId) (xs ys : List Act) (r : NameId) → (a.0 == b.0) ≡ false
    → (if a.0 == r.0 then xs else []) ++ (if b.0 == r.0 then ys else []) ≡ (if a.0 == r.0 then xs else (if b.0 == r.0 then ys else []))
two_roles a b xs ys r apart = go (a.0 == r.0) (b.0 == r.0) refl refl
  where
    go : (x y : Bool) → (a.0 == r.0) ≡ x → (b.0 == r.0) ≡ y → (if x then xs else []) ++ (if y then ys else []) ≡ (if x then xs else (if y then ys else []))
    go true false i j = append_nil xs
    go false y i j = refl
    go true true i j =
        let same : a ≡ b = same_name a r i ∙ sym (same_name b r j) in
        let t : (a.0 == b.0) ≡ true = ap (λ z. z.0 == b.0) same ∙ true_eq b.0 in absurd cc

branches : (f : Action → Act) (x y : Bool) (u v : Action) → map f (if x then u ∷ [] else (if y then v ∷ [] else [])) ≡ (if x then f u ∷ [] else (if y then f v ∷ [] else []))
branches f true y u v = refl
branches f false true u v = refl
branches f false false u v = refl

pub passing : (a b : NameId) (c : Content) (r : NameId) → (a.0 == b.0) ≡ false → exchanged a b (Some (told_of c)) r ≡ acts_in r (passes a b c)
passing a b c r apart = two_roles a b (put_to b (Some (told_of c))) (got_from a (Some (told_of c))) r apart ∙ sym (branches act_of (a.0 == r.0) (b.0 == r.0) _ _)

pub choosing : (a b l r : NameId) → (a.0 == b.0) ≡ false → exchanged a b (Some (of_label l)) r ≡ acts_in r (chooses a b l)
choosing a b l r apart = two_roles a b (put_to b (Some (of_label l))) (got_from a (Some (of_label l))) r apart ∙ sym (branches act_of (a.0 == r.0) (b.0 == r.0) _ _)
