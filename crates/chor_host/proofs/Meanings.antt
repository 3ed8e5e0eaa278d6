-- What the function of a name may answer.
use Rattle.std.proofs.Common.{◌≡◌, ℕ, ℤ, zero, suc, ◌||◌, ◌==◌, Bool, true, false, List, [], ◌∷◌, ◌++◌, Option, Some, None, refl, sym, ap, subst, ◌∙◌, arith, length, cond}
use Rattle.std.specs.Prelude.{slice_get, bytes_eq, position, nat_lt, Decides, is_some, if◌then◌else◌}
use Rattle.std.specs.List.{position_or_len}
use Rattle.std.proofs.lemmas.Bool.Decides.{nat_tests}
use Rattle.std.proofs.lemmas.List.Quantifiers.{position-Some}
use Rattle.std.proofs.lemmas.Option.{slice_get-get_or}
use Rattle.std.proofs.lemmas.Slice.Eq.{bytes_eq-Decides}
use Rattle.chor_base.specs.declared.names.NameId.{NameId}
use Rattle.chor_base.specs.declared.meaning.Meaning.{Meaning}
use Rattle.chor_base.specs.Meaning.{meaning_named, MayAnswer, IsAllowed}
use Rattle.chor_base.specs.Words.{AllDistinct}
use Rattle.chor_host.specs.Functions.{Function, names_of, is_named, meaning_of, hosts_in, numbered}
use Rattle.chor_host.proofs.Named.{own_bytes}

same_bytes : (xs ys : List ℕ) → bytes_eq xs ys ≡ true → xs ≡ ys
same_bytes xs ys h = (subst (λ b. Decides b (xs ≡ ys)) h (bytes_eq-Decides xs ys)).0 refl

distinct_tail : (u : List ℕ) (ws : List (List ℕ)) → AllDistinct (u ∷ ws) → AllDistinct ws
distinct_tail u ws d i j w h k = let e : suc i ≡ suc j = d (suc i) (suc j) w h k in omega arith

-- where no name stands twice, the function at a place is the first of its name
pub named_meaning : (fs : List Function) (f : Function) (w : List ℕ) (n : ℕ) → AllDistinct (names_of fs) → slice_get (names_of fs) n ≡ Some w → slice_get fs n ≡ Some f → meaning_of fs w ≡ Some f.1
named_meaning [] f w n d h k = absurd cc
named_meaning (g ∷ fs) f w zero d h k =
    let e : g.0 ≡ w = cc in
    let s : g ≡ f = cc in
    ap (λ (b : Bool). if b then Some g.1 else meaning_of fs w) (subst (λ (v : List ℕ). bytes_eq w v ≡ true) (sym e) (own_bytes w)) ∙ ap (λ (u : Function). Some u.1) s
named_meaning (g ∷ fs) f w (suc n) d h k = go (bytes_eq w g.0) refl (named_meaning fs f w n (distinct_tail g.0 (names_of fs) d) h k)
  where
    go : (b : Bool) → bytes_eq w g.0 ≡ b → meaning_of fs w ≡ Some f.1 → (if b then Some g.1 else meaning_of fs w) ≡ Some f.1
    go false e i = i
    go true e i = let clash : zero ≡ suc n = d zero (suc n) w (ap Some (sym (same_bytes w g.0 e))) h in absurd (omega arith)

found_at : (names : List (List ℕ)) (w : List ℕ) (n : ℕ) → position (bytes_eq w) names ≡ Some n → slice_get names n ≡ Some w
found_at names w n h =
    let f = position-Some (bytes_eq w) names n w h in
    slice_get-get_or names n w f.0 ∙ ap Some (sym (same_bytes w _ f.1))

-- the function at a place is asked for its name: it may answer what its meaning allows, and nothing else
pub record Asked (fs : List Function) (w : List ℕ) (m : Meaning) : Type 0 where
  pub may : (a b v : ℤ) → IsAllowed m a b v → MayAnswer (meaning_of fs w) a b v
  pub only : (a b v : ℤ) → MayAnswer (meaning_of fs w) a b v → IsAllowed m a b v

pub asked : (fs : List Function) (f : Function) (w : List ℕ) (n : ℕ) → AllDistinct (names_of fs) → slice_get (names_of fs) n ≡ Some w → slice_get fs n ≡ Some f → Asked fs w f.1
asked fs f w n d h k =
    let e = named_meaning fs f w n d h k in
    record {
      may = λ a b v i. subst (λ (m : Option Meaning). MayAnswer m a b v) (sym e) i;
      only = λ a b v i. subst (λ (m : Option Meaning). MayAnswer m a b v) e i;
    }

-- no function of this name answers
pub unnamed : (fs : List Function) (w : List ℕ) (a b v : ℤ) → is_named fs w ≡ false → MayAnswer (meaning_of fs w) a b v → ⊥
unnamed [] w a b v h i = i
unnamed (f ∷ fs) w a b v h i = go (bytes_eq w f.0) refl h i (unnamed fs w a b v)
  where
    go : (t : Bool) → bytes_eq w f.0 ≡ t → (t || is_named fs w) ≡ false → MayAnswer (if t then Some f.1 else meaning_of fs w) a b v → (is_named fs w ≡ false → MayAnswer (meaning_of fs w) a b v → ⊥) → ⊥
    go true e h i by = absurd cc
    go false e h i by = by h i

-- ---- by the numbers of a table of names

is_less : (names : List (List ℕ)) (w : List ℕ) (n : ℕ) → slice_get names n ≡ Some w → nat_lt (position_or_len (bytes_eq w) names) (length names) ≡ true
is_less [] w n h = absurd cc
is_less (v ∷ names) w zero h =
    let e : bytes_eq w v ≡ true = subst (λ (u : List ℕ). bytes_eq w u ≡ true) (let same : w ≡ v = cc in same) (own_bytes w) in rw e (grind (arith, nat_tests))
is_less (v ∷ names) w (suc n) h = go (bytes_eq w v) refl (is_less names w n h)
  where
    go : (b : Bool) → bytes_eq w v ≡ b → nat_lt (position_or_len (bytes_eq w) names) (length names) ≡ true → nat_lt (position_or_len (bytes_eq w) (v ∷ names)) (suc (length names)) ≡ true
    go true e i = rw e (grind (arith, nat_tests))
    go false e i = rw e (grind (arith, nat_tests, i))

is_found : (names : List (List ℕ)) (w : List ℕ) (n : ℕ) → slice_get names n ≡ Some w → is_some (position (bytes_eq w) names) ≡ true
is_found names w n h = ap (λ (b : Bool). is_some (cond b (Some (position_or_len (bytes_eq w) names)) None)) (is_less names w n h)

-- Where no name stands twice, what the functions may answer by number is what they may answer by name
pub by_number : (names : List (List ℕ)) (fs : List Function) (x : NameId) (w : List ℕ) → AllDistinct names → slice_get names x.0 ≡ Some w → meaning_named (hosts_in names fs) x ≡ meaning_of fs w
by_number names [] x w d at = refl
by_number names (f ∷ fs) x w d at = go (bytes_eq w f.0) refl (by_number names fs x w d at)
  where
    own : (o : Option ℕ) → position (bytes_eq w) names ≡ o → meaning_named (numbered o f.1 ++ hosts_in names fs) x ≡ Some f.1
    own None e = let clash : false ≡ true = subst (λ (p : Option ℕ). is_some p ≡ true) e (is_found names w x.0 at) in absurd cc
    own (Some n) e = let same : n ≡ x.0 = d n x.0 w (found_at names w n e) at in ap (λ (b : Bool). if b then Some f.1 else meaning_named (hosts_in names fs) x) (subst (λ (k : ℕ). (k == x.0) ≡ true) (sym same) (grind (arith, nat_tests)))

    other : bytes_eq w f.0 ≡ false → (o : Option ℕ) → position (bytes_eq f.0) names ≡ o → meaning_named (hosts_in names fs) x ≡ meaning_of fs w → meaning_named (numbered o f.1 ++ hosts_in names fs) x ≡ meaning_of fs w
    other differ None e by = by
    other differ (Some n) e by = split (n == x.0) refl
      where
        split : (b : Bool) → (n == x.0) ≡ b → (if b then Some f.1 else meaning_named (hosts_in names fs) x) ≡ meaning_of fs w
        split false t = by
        split true t =
            let same : n ≡ x.0 = grind (arith, nat_tests, t) in
            let there : slice_get names x.0 ≡ Some f.0 = subst (λ (k : ℕ). slice_get names k ≡ Some f.0) same (found_at names f.0 n e) in
            let equal : w ≡ f.0 = cc in
            let yes : bytes_eq w f.0 ≡ true = subst (λ (v : List ℕ). bytes_eq w v ≡ true) equal (own_bytes w) in absurd cc

    go : (b : Bool) → bytes_eq w f.0 ≡ b → meaning_named (hosts_in names fs) x ≡ meaning_of fs w → meaning_named (hosts_in names (f ∷ fs)) x ≡ (if b then Some f.1 else meaning_of fs w)
    go true e by = let same : w ≡ f.0 = same_bytes w f.0 e in subst (λ (v : List ℕ). meaning_named (numbered (position (bytes_eq v) names) f.1 ++ hosts_in names fs) x ≡ Some f.1) same (own (position (bytes_eq w) names) refl)
    go false e by = other e (position (bytes_eq f.0) names) refl by
