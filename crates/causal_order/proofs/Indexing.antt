-- One event is added to an index.
use Rattle.std.proofs.Common.{◌≡◌, ◌≢◌, ℕ, ◌+◌, ◌<◌, ◌≤◌, ◌⊎◌, inl, inr, ◌++◌, List, [], ◌∷◌, length, Bool, true, false, cond, ◌==◌, ◌&&◌, refl, sym, ap, ◌∙◌, arith, Option, Some, if◌then◌else◌}
use Rattle.std.specs.Prelude.{slice_get}
use Rattle.std.specs.Option.{unwrap_or, option_map}
use Rattle.std.specs.Map.{lookup, lookup_key}
use Rattle.std.specs.Cmp.{IsEquivalence}
use Rattle.std.proofs.lemmas.Bool.{eqb-true, eqb-false, cases_lt, and_parts}
use Rattle.std.proofs.lemmas.Bool.Decides.{nat_tests}
use Rattle.std.proofs.lemmas.List.{length_push}
use Rattle.std.proofs.lemmas.Map.Entries.{hash_map_get_place}
use Rattle.std.proofs.lemmas.Map.Made.{lookup_key_passes}
use Rattle.std.proofs.lemmas.Option.{slice_get_past, slice_get-map, some_pair_parts}
use Rattle.indexmap.specs.IndexMap.{IndexMap, IsUnique, values, with_value_at}
use Rattle.indexmap.proofs.CallerLemmas.{updates-with_value_at}
use Rattle.chor_base.specs.Events.{Triple, triple_eq}
use Rattle.chor_base.specs.declared.names.NameId.{NameId}
use Rattle.chor_base.proofs.Lists.{slice_get_last, get_append_left}
use Rattle.endpoint_code.proofs.Fifo.{same_triple}
use Rattle.event_orders.proofs.Effects.{turned, turned_true}
use Rattle.causal_order.specs.declared.index.Direction.{Direction}
use Rattle.causal_order.specs.declared.index.EventIndex.{EventIndex}
use Rattle.causal_order.specs.contracts.index.DirectionPartialEq.TheImpl as direction
use Rattle.causal_order.specs.Index.{triple_of, is_direction, places_on, count_on, place_on, StandsAt, HasOneMore}

abbrev Entries : Type 0
Entries = List (Direction × List ℕ)

-- the test of keys that the table makes
abbrev eq_of : Direction → Direction → Bool
eq_of = direction.ghosts.eq

pub alike : (d e : Direction) → eq_of d e ≡ is_direction (triple_of d) e
alike d e = refl

-- ---- when two directions are the same

number_itself : (n : ℕ) → (n == n) ≡ true
number_itself n = grind (arith, nat_tests)

name_same : (a b : NameId) → (a.0 == b.0) ≡ true → a ≡ b
name_same a b h = ap (λ (n : ℕ). let r : NameId = record { 0 = n } in r) (eqb-true a.0 b.0 h)

pub is_same : (d e : Direction) → is_direction (triple_of d) e ≡ true → d ≡ e
is_same d e h =
    let one = and_parts (d.sid == e.sid) ((d.from.0 == e.from.0) && (d.to.0 == e.to.0)) h in
    let two = and_parts (d.from.0 == e.from.0) (d.to.0 == e.to.0) one.1 in
    ap (λ (k : ℕ). let r : Direction = record { sid = k; from = d.from; to = d.to } in r) (eqb-true d.sid e.sid one.0)
    ∙ ap (λ (a : NameId). let r : Direction = record { sid = e.sid; from = a; to = d.to } in r) (name_same d.from e.from two.0)
    ∙ ap (λ (b : NameId). let r : Direction = record { sid = e.sid; from = e.from; to = b } in r) (name_same d.to e.to two.1)

same_itself : (d : Direction) → is_direction (triple_of d) d ≡ true
same_itself d =
    ap (λ (b : Bool). b && ((d.from.0 == d.from.0) && (d.to.0 == d.to.0))) (number_itself d.sid)
    ∙ ap (λ (b : Bool). b && (d.to.0 == d.to.0)) (number_itself d.from.0)
    ∙ number_itself d.to.0

eq_laws : IsEquivalence eq_of
eq_laws = record { refl = λ x. alike x x ∙ same_itself x; symm = λ x y. symm x y (eq_of x y) (eq_of y x) refl refl; congr = λ x y z h. ap (λ (u : Direction). eq_of u z) (same x y h) }
  where
    same : (x y : Direction) → eq_of x y ≡ true → x ≡ y
    same x y h = is_same x y (sym (alike x y) ∙ h)

    symm : (x y : Direction) (a b : Bool) → eq_of x y ≡ a → eq_of y x ≡ b → eq_of x y ≡ eq_of y x
    symm x y true b i j = ap (λ (u : Direction). eq_of u y) (same x y i) ∙ ap (λ (u : Direction). eq_of y u) (sym (same x y i))
    symm x y false true i j = ap (λ (u : Direction). eq_of u y) (sym (same y x j)) ∙ ap (λ (u : Direction). eq_of y u) (same y x j)
    symm x y false false i j = i ∙ sym j

-- ---- the list of a direction

-- the key that a look-up finds is the same
pub found_same : (es : Entries) (d e : Direction) → Some e ≡ lookup_key (eq_of d) es → is_direction (triple_of d) e ≡ true
found_same es d e h = sym (alike d e) ∙ lookup_key_passes (eq_of d) es e (sym h)

-- the list that is read at its place
pub list_read : (es : Entries) (d e : Direction) (i : ℕ) (ps : List ℕ) → StandsAt es (triple_of d) i → Some (e, ps) ≡ slice_get es i → lookup (eq_of e) es ≡ Some ps → ps ≡ unwrap_or (lookup (is_direction (triple_of d)) es) []
list_read es d e i ps s there found =
    let key : e ≡ s.0 = (some_pair_parts e s.0 ps s.1 (there ∙ s.2)).0 in
    let same : d ≡ e = is_same d s.0 s.3 ∙ sym key in
    sym (ap (λ (o : Option (List ℕ)). unwrap_or o []) (ap (λ (u : Direction). lookup (is_direction (triple_of u)) es) same ∙ found))

-- the list that is written at its place
pub list_written : {S : Type 0} (m : IndexMap Direction (List ℕ) S) (d : Direction) (i : ℕ) (ps : List ℕ) → IsUnique eq_of m → StandsAt m.entries (triple_of d) i → Some ps ≡ slice_get (values m) i → ps ≡ unwrap_or (lookup (is_direction (triple_of d)) m.entries) []
list_written m d i ps unique s there =
    let same : d ≡ s.0 = is_same d s.0 s.3 in
    let both : Some ps ≡ Some s.1 = there ∙ slice_get-map (λ (e : Direction × List ℕ). e.1) m.entries i ∙ ap (option_map (λ (e : Direction × List ℕ). e.1)) s.2 in
    let is : ps ≡ s.1 = cc in
    is ∙ sym (ap (λ (o : Option (List ℕ)). unwrap_or o []) (ap (λ (u : Direction). lookup (is_direction (triple_of u)) m.entries) same ∙ hash_map_get_place eq_laws m i s.0 s.1 unique s.2))

-- ---- one event more

-- the list of one direction becomes another
abbrev Becomes : Entries → Entries → Direction → List ℕ → Type 0
Becomes old new d qs = (e : Direction) → lookup (eq_of e) new ≡ cond (eq_of d e) (Some qs) (lookup (eq_of e) old)

got : {X : Type 0} (xs : List X) (x : X) (n : ℕ) (b : Bool) → (length xs == n) ≡ b → slice_get (xs ++ x ∷ []) n ≡ (if b then Some x else slice_get xs n)
got xs x n true e = ap (slice_get (xs ++ x ∷ [])) (sym (eqb-true (length xs) n e)) ∙ slice_get_last xs x
got xs x n false e = go (cases_lt n (length xs))
  where
    differ : length xs ≢ n
    differ = eqb-false (length xs) n e

    go : (n < length xs) ⊎ (length xs ≤ n) → slice_get (xs ++ x ∷ []) n ≡ slice_get xs n
    go (inl lt) = get_append_left xs (x ∷ []) n lt
    go (inr past) = slice_get_past (xs ++ x ∷ []) n (let l = length_push xs x in let d = differ in omega arith) ∙ sym (slice_get_past xs n past)

pub one_more : (old new : EventIndex) (d : Direction) (p : ℕ) (qs : List ℕ) → qs ≡ places_on old (triple_of d) ++ p ∷ [] → Becomes old.lists.entries new.lists.entries d qs → HasOneMore old (λ t. triple_eq t (triple_of d)) p new
one_more old new d p qs is becomes = record {
  counts = λ t. ap length (now t) ∙ counted t (triple_eq t (triple_of d)) refl;
  places = λ t n. ap (λ (l : List ℕ). slice_get l n) (now t) ∙ placed t n (triple_eq t (triple_of d)) refl;
}
  where
    direction_of : Triple → Direction
    direction_of t = record { sid = t.0; from = t.1; to = t.2 }

    now : (t : Triple) → places_on new t ≡ cond (triple_eq (triple_of d) t) (places_on old (triple_of d) ++ p ∷ []) (places_on old t)
    now t = ap (λ (o : Option (List ℕ)). unwrap_or o []) (becomes (direction_of t)) ∙ either (triple_eq (triple_of d) t)
      where
        either : (b : Bool) → unwrap_or (cond b (Some qs) (lookup (is_direction t) old.lists.entries)) [] ≡ cond b (places_on old (triple_of d) ++ p ∷ []) (places_on old t)
        either true = is
        either false = refl

    counted : (t : Triple) (b : Bool) → triple_eq t (triple_of d) ≡ b
        → length (cond (triple_eq (triple_of d) t) (places_on old (triple_of d) ++ p ∷ []) (places_on old t)) ≡ (if b then count_on old t + 1 else count_on old t)
    counted t true h =
        ap (λ (b : Bool). length (cond b (places_on old (triple_of d) ++ p ∷ []) (places_on old t))) (turned_true t (triple_of d) h)
        ∙ length_push (places_on old (triple_of d)) p
        ∙ ap (λ (u : Triple). count_on old u + 1) (sym (same_triple t (triple_of d) h))
    counted t false h = ap (λ (b : Bool). length (cond b (places_on old (triple_of d) ++ p ∷ []) (places_on old t))) (turned t (triple_of d) h)

    placed : (t : Triple) (n : ℕ) (b : Bool) → triple_eq t (triple_of d) ≡ b
        → slice_get (cond (triple_eq (triple_of d) t) (places_on old (triple_of d) ++ p ∷ []) (places_on old t)) n ≡ (if b then (if count_on old t == n then Some p else place_on old t n) else place_on old t n)
    placed t n true h =
        ap (λ (b : Bool). slice_get (cond b (places_on old (triple_of d) ++ p ∷ []) (places_on old t)) n) (turned_true t (triple_of d) h)
        ∙ ap (λ (u : Triple). slice_get (places_on old u ++ p ∷ []) n) (sym (same_triple t (triple_of d) h))
        ∙ got (places_on old t) p n (count_on old t == n) refl
    placed t n false h = ap (λ (b : Bool). slice_get (cond b (places_on old (triple_of d) ++ p ∷ []) (places_on old t)) n) (turned t (triple_of d) h)

-- at a list that was found
pub becomes_at : {S : Type 0} (m : IndexMap Direction (List ℕ) S) (d : Direction) (i : ℕ) (qs : List ℕ) → IsUnique eq_of m → StandsAt m.entries (triple_of d) i → Becomes m.entries (with_value_at m i qs).entries d qs
becomes_at m d i qs unique s e =
    let same : d ≡ s.0 = is_same d s.0 s.3 in
    (updates-with_value_at m i qs eq_laws unique s.0 s.1 s.2).0 e
    ∙ ap (λ (u : Direction). cond (eq_of u e) (Some qs) (lookup (eq_of e) m.entries)) (sym same)
