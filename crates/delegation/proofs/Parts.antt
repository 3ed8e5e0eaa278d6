-- The entries of one session among those of all.
use Rattle.std.proofs.Common.{◌≡◌, ℕ, suc, ◌+◌, ◌-◌, ◌<◌, ◌==◌, ◌&&◌, ◌||◌, Bool, true, false, cond, List, [], ◌∷◌, ◌++◌, length, take, drop, map, Option, Some, None, refl, ap, sym, ◌∙◌, subst, arith, append_assoc}
use Rattle.std.specs.Prelude.{slice_index_or, slice_set, if◌then◌else◌}
use Rattle.std.specs.List.{list_any, list_all}
use Rattle.std.specs.Ordering.{nat_cmp, eq_by_cmp}
use Rattle.std.specs.FinMap as fin
use Rattle.std.proofs.lemmas.Cmp.{nat_cmp_total}
use Rattle.std.proofs.lemmas.Bool.{eqb-true}
use Rattle.std.proofs.lemmas.Bool.Decides.{nat_tests}
use Rattle.std.proofs.lemmas.List.{map-append, append-nil, length-map, length-take-le}
use borrow.Rule.Slice.PartMut.{put_mid}
use Rattle.std.proofs.lemmas.List.Elements.{filter-append}
use Rattle.std.proofs.lemmas.List.Folds.{list_any-append}
use Rattle.std.proofs.Math.Seq.{take-append_seam, drop-append_seam, set-append_seam, get_or-append_seam, take-suc, drop-cons}
use Rattle.chor_base.specs.declared.names.NameId.{NameId}
use Rattle.chor_base.specs.NameMap.{FromNames}
use Rattle.chor_tree.specs.declared.file.Named.{Named}
use Rattle.chor_tree.specs.declared.tree.Part.{Part}
use Rattle.delegation.specs.declared.held.Held.{Held}
use Rattle.delegation.specs.declared.owners.Span.{Span}
use Rattle.delegation.specs.Owners.{is_role, holder_of, holds_some, Lacks, started, listed, passed_one, passed}
use Rattle.delegation.specs.Spans.{entries_of, AreOf, role_holder, passed_role, IsPart, IsSpan, AreSpans}

-- ---- what is seen of a session is seen among its entries

pub holder_among : (hs : List Held) (k r : NameId) → role_holder (entries_of k hs) r ≡ holder_of hs k r
holder_among [] k r = refl
holder_among (h ∷ hs) k r = go (h.session.0 == k.0) (holder_among hs k r) where
  go : (a : Bool) → role_holder (entries_of k hs) r ≡ holder_of hs k r
      → role_holder (cond a (h ∷ entries_of k hs) (entries_of k hs)) r ≡ (if a && (h.role.0 == r.0) then Some h.process else holder_of hs k r)
  go true e = ap (λ o. if h.role.0 == r.0 then Some h.process else o) e
  go false e = e

pub some_among : (hs : List Held) (k p : NameId) → list_any (λ h. h.process.0 == p.0) (entries_of k hs) ≡ holds_some hs k p
some_among [] k p = refl
some_among (h ∷ hs) k p = go (h.session.0 == k.0) (some_among hs k p) where
  go : (a : Bool) → list_any (λ h. h.process.0 == p.0) (entries_of k hs) ≡ holds_some hs k p
      → list_any (λ h. h.process.0 == p.0) (cond a (h ∷ entries_of k hs) (entries_of k hs)) ≡ ((a && (h.process.0 == p.0)) || holds_some hs k p)
  go true e = ap (λ b. (h.process.0 == p.0) || b) e
  go false e = e

-- ---- where they stand

none_of : (k : NameId) (hs : List Held) → Lacks k hs → entries_of k hs ≡ []
none_of k [] n = refl
none_of k (h ∷ hs) n = go (h.session.0 == k.0) n (none_of k hs) where
  go : (a : Bool) → (a || list_any (λ h. h.session.0 == k.0) hs) ≡ false → (Lacks k hs → entries_of k hs ≡ []) → cond a (h ∷ entries_of k hs) (entries_of k hs) ≡ []
  go true e rest = cc
  go false e rest = rest e

all_of : (k : NameId) (hs : List Held) → AreOf k hs → entries_of k hs ≡ hs
all_of k [] n = refl
all_of k (h ∷ hs) n = go (h.session.0 == k.0) n (all_of k hs) where
  go : (a : Bool) → (a && list_all (λ h. h.session.0 == k.0) hs) ≡ true → (AreOf k hs → entries_of k hs ≡ hs) → cond a (h ∷ entries_of k hs) (entries_of k hs) ≡ h ∷ hs
  go true e rest = ap (λ l. h ∷ l) (rest e)
  go false e rest = cc

pub entries_in : (k : NameId) (hs : List Held) (s : Span) → IsPart k hs s → take (s.first + s.len - s.first) (drop s.first hs) ≡ entries_of k hs
entries_in k hs s p =
    let n : s.first + s.len - s.first ≡ length p.part = omega (arith, p.has) in
    ap (λ i. take i (drop s.first hs)) n ∙ ap (λ l. take (length p.part) (drop s.first l)) (p.is_all ∙ append_assoc p.before p.part p.after)
    ∙ ap (λ i. take (length p.part) (drop i (p.before ++ (p.part ++ p.after)))) (sym p.begins) ∙ ap (take (length p.part)) (drop-append_seam p.before (p.part ++ p.after))
    ∙ take-append_seam p.part p.after
    ∙ sym (ap (entries_of k) p.is_all ∙ filter-append (λ h. h.session.0 == k.0) (p.before ++ p.part) p.after ∙ ap (λ l. l ++ entries_of k p.after) (filter-append (λ h. h.session.0 == k.0) p.before p.part)
    ∙ ap (λ l. (l ++ entries_of k p.part) ++ entries_of k p.after) (none_of k p.before p.none_before)
    ∙ ap (λ l. l ++ entries_of k p.after) (all_of k p.part p.are_own) ∙ ap (λ l. p.part ++ l) (none_of k p.after p.none_after) ∙ append-nil p.part)

pub entries_none : (k : NameId) (hs : List Held) → IsSpan k hs None → [] ≡ entries_of k hs
entries_none k hs n = sym (none_of k hs n)

-- ---- a session more

pub lacks_append : (k : NameId) (hs is : List Held) → Lacks k hs → Lacks k is → Lacks k (hs ++ is)
lacks_append k hs is n m = list_any-append (λ h. h.session.0 == k.0) hs is ∙ ap (λ b. b || list_any (λ h. h.session.0 == k.0) is) n ∙ m

-- entries of one session aren't of another
pub apart : (k q : NameId) (hs : List Held) → (q.0 == k.0) ≡ false → AreOf k hs → Lacks q hs
apart k q [] n a = refl
apart k q (h ∷ hs) n a = go (h.session.0 == k.0) (h.session.0 == q.0) refl refl a (apart k q hs n) where
  go : (a b : Bool) → (h.session.0 == k.0) ≡ a → (h.session.0 == q.0) ≡ b → (a && list_all (λ h. h.session.0 == k.0) hs) ≡ true → (AreOf k hs → Lacks q hs) → (b || list_any (λ h. h.session.0 == q.0) hs) ≡ false
  go true true e f c rest = absurd (clash h.session.0 k.0 q.0 e f n) where
    clash : (a b c : ℕ) → (a == b) ≡ true → (a == c) ≡ true → (c == b) ≡ false → ⊥
    clash a b c e f g = grind (arith, nat_tests)
  go true false e f c rest = rest c
  go false b e f c rest = cc

spans_on : (k : NameId) (hs is : List Held) (o : Option Span) → Lacks k is → IsSpan k hs o → IsSpan k (hs ++ is) o
spans_on k hs is None n m = lacks_append k hs is m n
spans_on k hs is (Some s) n p = record {
  before = p.before;
  part = p.part;
  after = p.after ++ is;
  is_all = ap (λ l. l ++ is) p.is_all ∙ append_assoc (p.before ++ p.part) p.after is;
  begins = p.begins;
  has = p.has;
  none_before = p.none_before;
  none_after = lacks_append k p.after is p.none_after n;
  are_own = p.are_own;
}

pub spans_with : (hs is : List Held) (old new : FromNames Span) (k : NameId) (s : Span) → AreSpans hs old → Lacks k hs → AreOf k is
    → s.first ≡ length hs → s.len ≡ length is → new ≡ fin.insert old k.0 s → AreSpans (hs ++ is) new
spans_with hs is old new k s spans none own first len is_new q =
    subst (λ m. IsSpan q (hs ++ is) (fin.get m q.0)) (sym is_new) (subst (λ o. IsSpan q (hs ++ is) o) (sym (fin.get-insert nat_cmp_total old k.0 s q.0 ∙ ap (λ b. cond b (Some s) (fin.get old q.0)) (ties q.0 k.0))) (go (q.0 == k.0) refl))
  where
    ties : (x y : ℕ) → eq_by_cmp nat_cmp x y ≡ (x == y)
    ties x y = grind (arith, nat_tests)

    here : IsPart k (hs ++ is) s
    here = record { before = hs; part = is; after = []; is_all = sym (append-nil (hs ++ is)); begins = sym first; has = sym len; none_before = none; none_after = refl; are_own = own }

    go : (b : Bool) → (q.0 == k.0) ≡ b → IsSpan q (hs ++ is) (cond b (Some s) (fin.get old q.0))
    go true e = subst (λ (n : ℕ). IsPart (record { 0 = n }) (hs ++ is) s) (sym (eqb-true q.0 k.0 e)) here
    go false e = spans_on q hs is (fin.get old q.0) (apart k q is e own) (spans q)

pub no_spans : (k : NameId) (hs : List Held) (spans : FromNames Span) → hs ≡ [] → spans ≡ fin.empty → IsSpan k hs (fin.get spans k.0)
no_spans k hs spans none empty = subst (λ m. IsSpan k hs (fin.get m k.0)) (sym empty) (subst (λ o. IsSpan k hs o) (sym (fin.get-empty nat_cmp k.0)) (subst (λ l. IsSpan k l None) (sym none) refl))

itself : (n : ℕ) → (n == n) ≡ true
itself n = grind (arith, nat_tests)

pub own_started : (k : NameId) (parts : List Part) → AreOf k (started k parts)
own_started k [] = refl
own_started k (q ∷ qs) = ap (λ b. b && list_all (λ h. h.session.0 == k.0) (started k qs)) (itself k.0) ∙ own_started k qs

pub own_listed : (k : NameId) (hs : List (Named × Named)) → AreOf k (listed k hs)
own_listed k [] = refl
own_listed k (h ∷ hs) = ap (λ b. b && list_all (λ h. h.session.0 == k.0) (listed k hs)) (itself k.0) ∙ own_listed k hs

-- ---- another holder

module _ (k r p : NameId) where
  keeps : (h : Held) → (passed_one k r p h).session ≡ h.session
  keeps h = go (is_role k r h) where
    go : (b : Bool) → (if b then record h { process = p } else h).session ≡ h.session
    go true = refl
    go false = refl

  pub lacks_passed : (q : NameId) (hs : List Held) → Lacks q hs → Lacks q (passed hs k r p)
  lacks_passed q [] n = refl
  lacks_passed q (h ∷ hs) n = go (h.session.0 == q.0) n (lacks_passed q hs) (ap (λ s. s.0 == q.0) (keeps h)) where
    go : (b : Bool) → (b || list_any (λ h. h.session.0 == q.0) hs) ≡ false → (Lacks q hs → Lacks q (passed hs k r p)) → ((passed_one k r p h).session.0 == q.0) ≡ b
        → (((passed_one k r p h).session.0 == q.0) || list_any (λ h. h.session.0 == q.0) (passed hs k r p)) ≡ false
    go true e rest s = cc
    go false e rest s = ap (λ b. b || list_any (λ h. h.session.0 == q.0) (passed hs k r p)) s ∙ rest e

  own_passed : (q : NameId) (hs : List Held) → AreOf q hs → AreOf q (passed hs k r p)
  own_passed q [] n = refl
  own_passed q (h ∷ hs) n = go (h.session.0 == q.0) n (own_passed q hs) (ap (λ s. s.0 == q.0) (keeps h)) where
    go : (b : Bool) → (b && list_all (λ h. h.session.0 == q.0) hs) ≡ true → (AreOf q hs → AreOf q (passed hs k r p)) → ((passed_one k r p h).session.0 == q.0) ≡ b
        → (((passed_one k r p h).session.0 == q.0) && list_all (λ h. h.session.0 == q.0) (passed hs k r p)) ≡ true
    go true e rest s = ap (λ b. b && list_all (λ h. h.session.0 == q.0) (passed hs k r p)) s ∙ rest e
    go false e rest s = cc

  three_passed : (a b c : List Held) → passed (a ++ b ++ c) k r p ≡ passed a k r p ++ passed b k r p ++ passed c k r p
  three_passed a b c = map-append (passed_one k r p) (a ++ b) c ∙ ap (λ l. l ++ passed c k r p) (map-append (passed_one k r p) a b)

  span_passed : (q : NameId) (hs : List Held) (o : Option Span) → IsSpan q hs o → IsSpan q (passed hs k r p) o
  span_passed q hs None n = lacks_passed q hs n
  span_passed q hs (Some s) i = record {
    before = passed i.before k r p;
    part = passed i.part k r p;
    after = passed i.after k r p;
    is_all = ap (λ l. passed l k r p) i.is_all ∙ three_passed i.before i.part i.after;
    begins = length-map i.before (passed_one k r p) ∙ i.begins;
    has = length-map i.part (passed_one k r p) ∙ i.has;
    none_before = lacks_passed q i.before i.none_before;
    none_after = lacks_passed q i.after i.none_after;
    are_own = own_passed q i.part i.are_own;
  }

  pub spans_passed : (hs new : List Held) (spans : FromNames Span) → AreSpans hs spans → new ≡ passed hs k r p → AreSpans new spans
  spans_passed hs new spans h e = subst (λ l. AreSpans l spans) (sym e) (λ q. span_passed q hs (fin.get spans q.0) (h q))

  pub none_passed : (hs : List Held) → Lacks k hs → hs ≡ passed hs k r p
  none_passed [] n = refl
  none_passed (h ∷ hs) n = go (h.session.0 == k.0) n (none_passed hs) where
    go : (b : Bool) → (b || list_any (λ h. h.session.0 == k.0) hs) ≡ false → (Lacks k hs → hs ≡ passed hs k r p) → h ∷ hs ≡ (if b && (h.role.0 == r.0) then record h { process = p } else h) ∷ passed hs k r p
    go true e rest = cc
    go false e rest = ap (λ l. h ∷ l) (rest e)

  all_passed : (hs : List Held) → AreOf k hs → map (passed_role r p) hs ≡ passed hs k r p
  all_passed [] n = refl
  all_passed (h ∷ hs) n = go (h.session.0 == k.0) n (all_passed hs) where
    go : (b : Bool) → (b && list_all (λ h. h.session.0 == k.0) hs) ≡ true → (AreOf k hs → map (passed_role r p) hs ≡ passed hs k r p)
        → passed_role r p h ∷ map (passed_role r p) hs ≡ (if b && (h.role.0 == r.0) then record h { process = p } else h) ∷ passed hs k r p
    go true e rest = ap (λ l. passed_role r p h ∷ l) (rest e)
    go false e rest = cc

  -- where the part of the session is written over
  part_passed : (hs mid : List Held) (s : Span) (n : ℕ) → IsPart k hs s → n ≡ s.len → mid ≡ map (passed_role r p) (take n (drop s.first hs)) → put_mid s.first n hs mid ≡ passed hs k r p
  part_passed hs mid s n i has is_mid =
      let a = i.before in
      let b = i.part in
      let c = i.after in
      let whole : hs ≡ a ++ (b ++ c) = i.is_all ∙ append_assoc a b c in
      let first : take s.first hs ≡ a = ap (λ l. take s.first l) whole ∙ ap (λ j. take j (a ++ (b ++ c))) (sym i.begins) ∙ take-append_seam a (b ++ c) in
      let rest : drop s.first hs ≡ b ++ c = ap (λ l. drop s.first l) whole ∙ ap (λ j. drop j (a ++ (b ++ c))) (sym i.begins) ∙ drop-append_seam a (b ++ c) in
      let long : n ≡ length b = has ∙ sym i.has in
      let middle : take n (drop s.first hs) ≡ b = ap (take n) rest ∙ ap (λ j. take j (b ++ c)) long ∙ take-append_seam b c in
      let last : drop n (drop s.first hs) ≡ c = ap (drop n) rest ∙ ap (λ j. drop j (b ++ c)) long ∙ drop-append_seam b c in
      (λ j. first j ++ (mid ++ last j)) ∙ ap (λ l. a ++ (l ++ c)) (is_mid ∙ ap (map (passed_role r p)) middle ∙ all_passed b i.are_own)
      ∙ (λ j. none_passed a i.none_before j ++ (passed b k r p ++ none_passed c i.none_after j)) ∙ sym (append_assoc (passed a k r p) (passed b k r p) (passed c k r p))
      ∙ sym (three_passed a b c) ∙ ap (λ l. passed l k r p) (sym i.is_all)

  pub vec_passed : (hs xs mid : List Held) (s : Span) (n len : ℕ) → IsPart k hs s → xs ≡ hs → n ≡ s.len → len ≡ length hs → mid ≡ map (passed_role r p) (take n (drop s.first xs))
      → take len (put_mid s.first n xs mid ++ drop (length (put_mid s.first n xs mid)) hs) ≡ passed hs k r p
  vec_passed hs xs mid s n len i same has long is_mid =
      let e : put_mid s.first n xs mid ≡ passed hs k r p = ap (λ l. put_mid s.first n l mid) same ∙ part_passed hs mid s n i has (is_mid ∙ ap (λ l. map (passed_role r p) (take n (drop s.first l))) same) in
      let l : len ≡ length (passed hs k r p) = long ∙ sym (length-map hs (passed_one k r p)) in
      ap (λ ys. take len (ys ++ drop (length ys) hs)) e ∙ ap (λ j. take j (passed hs k r p ++ drop (length (passed hs k r p)) hs)) l
      ∙ take-append_seam (passed hs k r p) (drop (length (passed hs k r p)) hs)

-- ---- a loop that changes each item

pub changed_turn : {X : Type 0} (f : X → X) (xs now : List X) (i : ℕ) (d y : X) → i < length xs → now ≡ map f (take i xs) ++ drop i xs → y ≡ f (slice_index_or now i d)
    → slice_set now i y ≡ map f (take (i + 1) xs) ++ drop (i + 1) xs
changed_turn f xs now i d y lt is is_y =
    let a = take i xs in
    let b = drop (i + 1) xs in
    let x = slice_index_or xs i d in
    let more : suc i ≡ i + 1 = omega arith in
    let rest : drop i xs ≡ x ∷ b = drop-cons xs i d lt ∙ ap (λ j. x ∷ drop j xs) more in
    let long : i ≡ length (map f a) = omega (arith, length-map a f, length-take-le i xs) in
    let shape : now ≡ map f a ++ x ∷ b = is ∙ ap (λ l. map f a ++ l) rest in
    let there : slice_index_or now i d ≡ x = ap (λ l. slice_index_or l i d) shape ∙ ap (λ j. slice_index_or (map f a ++ x ∷ b) j d) long ∙ get_or-append_seam (map f a) x b d in
    ap (λ l. slice_set l i y) shape ∙ ap (λ j. slice_set (map f a ++ x ∷ b) j y) long ∙ set-append_seam (map f a) x b y ∙ ap (λ z. map f a ++ z ∷ b) (is_y ∙ ap f there)
    ∙ sym (append_assoc (map f a) (f x ∷ []) b) ∙ ap (λ l. l ++ b) (sym (map-append f a (x ∷ [])) ∙ ap (map f) (sym (take-suc xs i d lt) ∙ ap (λ j. take j xs) more))
