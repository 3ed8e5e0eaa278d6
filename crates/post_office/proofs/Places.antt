-- The places of queues, by their triples.
use Rattle.std.proofs.Common.{◌≡◌, ℕ, zero, suc, ◌+◌, ◌==◌, ◌&&◌, Bool, true, false, cond, List, [], ◌∷◌, ◌++◌, length, map, refl, sym, ap, subst, ◌∙◌, Option, Some, None, arith, add-one, ◌<◌, ◌||◌, get_or}
use Rattle.std.specs.Prelude.{position, slice_get, slice_set, if◌then◌else◌}
use Rattle.std.specs.List.{position_from, list_any, IsDistinct, AllByRecursion}
use Rattle.std.proofs.lemmas.Bool.{eqb-true, and_parts}
use Rattle.std.proofs.lemmas.Bool.Decides.{nat_tests}
use Rattle.std.proofs.lemmas.List.{map-append}
use Rattle.std.proofs.lemmas.Iterator.Adapters.{position_from-zero}
use Rattle.chor_base.specs.declared.names.NameId.{NameId}
use Rattle.chor_base.specs.Events.{Triple, triple_eq}
use Rattle.post_office.proofs.Casts.{name_same}
use Rattle.post_office.specs.declared.queues.Direction.{Direction}
use Rattle.post_office.specs.Indexed.{triple_of}
use Rattle.post_office.specs.Lanes.{LaneView, lane_from}
use Rattle.post_office.proofs.Lanes.{mapped_put}

flipped : (a b : ℕ) → (a == b) ≡ (b == a)
flipped a b = grind (arith, nat_tests)

-- comparing triples either way
pub is_direction : (s : ℕ) (a b : NameId) (d : Direction) → ((s == d.sid) && ((a.0 == d.from.0) && (b.0 == d.to.0))) ≡ triple_eq (triple_of d) (s, a, b)
is_direction s a b d =
    ap (λ (x : Bool). x && ((a.0 == d.from.0) && (b.0 == d.to.0))) (flipped s d.sid)
    ∙ ap (λ (x : Bool). (d.sid == s) && (x && (b.0 == d.to.0))) (flipped a.0 d.from.0)
    ∙ ap (λ (x : Bool). (d.sid == s) && ((d.from.0 == a.0) && x)) (flipped b.0 d.to.0)

module _ (p : Direction → Bool) (t : Triple) (is : (d : Direction) → p d ≡ triple_eq (triple_of d) t) where
  same_from : (i : ℕ) (ds : List Direction) (ls : List LaneView) → map triple_of ds ≡ map (λ l. l.triple) ls → position_from p i ds ≡ lane_from i ls t
  same_from i [] [] h = refl
  same_from i [] (l ∷ ls) h = absurd cc
  same_from i (d ∷ ds) [] h = absurd cc
  same_from i (d ∷ ds) (l ∷ ls) h =
      let first : triple_of d ≡ l.triple = cc in
      let rest : map triple_of ds ≡ map (λ (l : LaneView). l.triple) ls = cc in
      ap (λ (b : Bool). cond b (Some i) (position_from p (i + 1) ds)) (is d ∙ ap (λ (s : Triple). triple_eq s t) first)
      ∙ ap (λ (o : Option ℕ). cond (triple_eq l.triple t) (Some i) o) (ap (λ (k : ℕ). position_from p k ds) (add-one i) ∙ same_from (suc i) ds ls rest)

-- a queue is at the place of its triple
pub same_place : (p : Direction → Bool) (t : Triple) (ds : List Direction) (ls : List LaneView) → ((d : Direction) → p d ≡ triple_eq (triple_of d) t) → map triple_of ds ≡ map (λ l. l.triple) ls → position p ds ≡ lane_from 0 ls t
same_place p t ds ls is h = position_from-zero p ds ∙ same_from p t is 0 ds ls h

none_from : (p : Direction → Bool) (i : ℕ) (ds : List Direction) → position_from p i ds ≡ None → list_any p ds ≡ false
none_from p i [] h = refl
none_from p i (d ∷ ds) h = go (p d) h (none_from p (i + 1) ds)
  where
    go : (b : Bool) → cond b (Some i) (position_from p (i + 1) ds) ≡ None → (position_from p (i + 1) ds ≡ None → list_any p ds ≡ false) → (b || list_any p ds) ≡ false
    go true j more = absurd cc
    go false j more = more j

-- a new queue goes last, with its triple
pub indexed_more : (p : Direction → Bool) (t : Triple) (ds new : List Direction) (ls all : List LaneView) (d : Direction) (m : LaneView) → ((x : Direction) → p x ≡ triple_eq (triple_of x) t) → map triple_of ds ≡ map (λ l. l.triple) ls → lane_from 0 ls t ≡ None
    → new ≡ (if list_any p ds then ds else ds ++ d ∷ []) → all ≡ ls ++ m ∷ [] → triple_of d ≡ m.triple → map triple_of new ≡ map (λ l. l.triple) all
indexed_more p t ds new ls all d m is same none n a triple =
    let absent : list_any p ds ≡ false = none_from p 0 ds (same_from p t is 0 ds ls same ∙ none) in
    ap (map triple_of) (n ∙ ap (λ (b : Bool). if b then ds else ds ++ d ∷ []) absent)
    ∙ map-append triple_of ds (d ∷ [])
    ∙ ap (λ (ts : List Triple). ts ++ triple_of d ∷ []) same
    ∙ ap (λ (s : Triple). map (λ (l : LaneView). l.triple) ls ++ s ∷ []) triple
    ∙ sym (map-append (λ (l : LaneView). l.triple) ls (m ∷ []))
    ∙ sym (ap (map (λ (l : LaneView). l.triple)) a)

-- the queue that is put stands for the same triple
pub indexed_put : (ds : List Direction) (ls : List LaneView) (i : ℕ) (l m : LaneView) → map triple_of ds ≡ map (λ l. l.triple) ls → i < length ls → l ≡ get_or ls i l → m.triple ≡ l.triple → map triple_of ds ≡ map (λ l. l.triple) (slice_set ls i m)
indexed_put ds ls i l m same lt h k = same ∙ sym (mapped_put (λ (x : LaneView). x.triple) ls i l m lt h k)

-- ---- a direction that was found before

abbrev pub is_at : Direction → Direction → Bool
is_at d x = (d.sid == x.sid) && ((d.from.0 == x.from.0) && (d.to.0 == x.to.0))

same_direction : (d x : Direction) → is_at d x ≡ true → d ≡ x
same_direction d x h =
    let one = and_parts (d.sid == x.sid) ((d.from.0 == x.from.0) && (d.to.0 == x.to.0)) h in
    let two = and_parts (d.from.0 == x.from.0) (d.to.0 == x.to.0) one.1 in
    ap (λ (k : ℕ). let r : Direction = record { sid = k; from = d.from; to = d.to } in r) (eqb-true d.sid x.sid one.0)
    ∙ ap (λ (a : NameId). let r : Direction = record { sid = x.sid; from = a; to = d.to } in r) (name_same d.from x.from two.0)
    ∙ ap (λ (b : NameId). let r : Direction = record { sid = x.sid; from = x.from; to = b } in r) (name_same d.to x.to two.1)

holds_at : (P : Direction → Type 0) (ds : List Direction) (i : ℕ) (d : Direction) → AllByRecursion P ds → slice_get ds i ≡ Some d → P d
holds_at P [] i d all h = absurd cc
holds_at P (x ∷ ds) zero d all h = let same : x ≡ d = cc in subst P same all.0
holds_at P (x ∷ ds) (suc i) d all h = holds_at P ds i d all.1 h

found_from : (d : Direction) (k i : ℕ) (ds : List Direction) → IsDistinct is_at ds → slice_get ds i ≡ Some d → is_at d d ≡ true → position_from (is_at d) k ds ≡ Some (k + i)
unfolding IsDistinct
found_from d k i [] apart h itself = absurd cc
found_from d k zero (x ∷ ds) apart h itself =
    let same : x ≡ d = cc in
    ap (λ (b : Bool). cond b (Some k) (position_from (is_at d) (k + 1) ds)) (ap (is_at d) same ∙ itself) ∙ ap Some (let e : k ≡ k + 0 = omega arith in e)
found_from d k (suc i) (x ∷ ds) apart h itself = go (is_at d x) refl (found_from d (k + 1) i ds apart.1 h itself)
  where
    go : (b : Bool) → is_at d x ≡ b → position_from (is_at d) (k + 1) ds ≡ Some (k + 1 + i) → cond b (Some k) (position_from (is_at d) (k + 1) ds) ≡ Some (k + suc i)
    go true j rest =
        let other : is_at x d ≡ false = holds_at (λ (y : Direction). is_at x y ≡ false) ds i d apart.0 h in
        let same : is_at x d ≡ true = ap (λ (y : Direction). is_at y d) (sym (same_direction d x j)) ∙ itself in
        let clash : true ≡ false = sym same ∙ other in
        absurd cc
    go false j rest = rest ∙ ap Some (let e : k + 1 + i ≡ k + suc i = omega arith in e)

-- of distinct directions each is found at its place
pub found_there : (d x : Direction) (i : ℕ) (ds : List Direction) → IsDistinct is_at ds → slice_get ds i ≡ Some x → is_at d x ≡ true → position (is_at d) ds ≡ Some i
found_there d x i ds apart h is =
    let same = same_direction d x is in
    let there : slice_get ds i ≡ Some d = h ∙ ap Some (sym same) in
    let itself : is_at d d ≡ true = ap (is_at d) same ∙ is in
    let plain : 0 + i ≡ i = omega arith in
    position_from-zero (is_at d) ds ∙ found_from d 0 i ds apart there itself ∙ ap Some plain
