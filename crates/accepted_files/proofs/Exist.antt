-- Taking parameters away ends with the greatest sets: each walk that takes something leaves fewer at the calls of the file.
use Rattle.std.proofs.Common.{◌≡◌, ◌+◌, ◌<◌, ◌≤◌, ℕ, zero, suc, Bool, true, false, List, [], ◌∷◌, ◌++◌, length, refl, sym, ap, ◌∙◌, subst, inl, inr, ◌⊎◌, if◌then◌else◌, ◌==◌, ◌&&◌, arith}
use Rattle.std.proofs.lemmas.Bool.Decides.{nat_tests}
use Rattle.std.proofs.lemmas.List.Elements.{All-nil, All-cons}
use Rattle.std.specs.Prelude.{All, Contains}
use Rattle.std.proofs.lemmas.Bool.{and_parts}
use Rattle.chor_base.specs.declared.names.NameId.{NameId}
use Rattle.chor_semantics.specs.Choreography.{Ref, Choreography, Then, Either, Calls, Ends}
use Rattle.chor_semantics.specs.Sources.{Procedure}
use Rattle.well_formed.specs.Linear.{Members, ParameterSets, members_after, everyone, all_given}
use Rattle.linearity.specs.Linear.{ArePassed, set_of, AreWithin, IsGreatest}
use Rattle.linearity.specs.Taken.{is_passed, taken, AreUpper}
use Rattle.linearity.proofs.Greatest.{taken_within, full_upper, upper_taken, upper_main}

-- a parameter: its procedure and its place
abbrev Place : Type 0
Place = NameId × ℕ

-- ---- how many parameters of a list are in their sets

abbrev count : List Place → ParameterSets → ℕ
count [] s = 0
count (p ∷ ps) s = (if s p.0 p.1 then 1 else 0) + count ps s

one_within : (x y : Bool) → (x ≡ true → y ≡ true) → (m n : ℕ) → m ≤ n → (if x then 1 else 0) + m ≤ (if y then 1 else 0) + n
one_within true true w m n l = omega (arith, l)
one_within true false w m n l = absurd (no (w refl))
  where
    no : false ≡ true → ⊥
    no h = cc
one_within false true w m n l = omega (arith, l)
one_within false false w m n l = omega (arith, l)

count_within : (ps : List Place) (s t : ParameterSets) → AreWithin s t → count ps s ≤ count ps t
count_within [] s t w = omega arith
count_within (p ∷ ps) s t w = one_within (s p.0 p.1) (t p.0 p.1) (w p.0 p.1) (count ps s) (count ps t) (count_within ps s t w)

one_less : (x y : Bool) → x ≡ false → y ≡ true → (m n : ℕ) → m ≤ n → (if x then 1 else 0) + m < (if y then 1 else 0) + n
one_less true y i j m n l = absurd cc
one_less false true i j m n l = omega (arith, l)
one_less false false i j m n l = absurd cc

later_less : (x y : Bool) → (x ≡ true → y ≡ true) → (m n : ℕ) → m < n → (if x then 1 else 0) + m < (if y then 1 else 0) + n
later_less true true w m n l = omega (arith, l)
later_less true false w m n l = absurd (no (w refl))
  where
    no : false ≡ true → ⊥
    no h = cc
later_less false true w m n l = omega (arith, l)
later_less false false w m n l = omega (arith, l)

count_less : (ps : List Place) (s t : ParameterSets) → AreWithin s t → (p : Place) → Contains ps p → s p.0 p.1 ≡ false → t p.0 p.1 ≡ true → count ps s < count ps t
count_less [] s t w p (i, l, e) off on = absurd (omega (arith, l))
count_less (q ∷ qs) s t w p (zero, l, e) off on =
    one_less (s q.0 q.1) (t q.0 q.1) (ap (λ (z : Place). s z.0 z.1) e ∙ off) (ap (λ (z : Place). t z.0 z.1) e ∙ on) (count qs s) (count qs t) (count_within qs s t w)
count_less (q ∷ qs) s t w p (suc i, l, e) off on = later_less (s q.0 q.1) (t q.0 q.1) (w q.0 q.1) (count qs s) (count qs t) (count_less qs s t w p (i, omega (arith, l), e) off on)

-- ---- the parameters of calls

abbrev from : NameId → ℕ → List Ref → List Place
from f i [] = []
from f i (p ∷ ps) = (f, i) ∷ from f (suc i) ps

abbrev places : Choreography → List Place
places (Then n rest) = places rest
places (Either p e c d) = places c ++ places d
places (Calls f d ps ss) = from f 0 ps
places Ends = []

in_left : (xs ys : List Place) (p : Place) → Contains xs p → Contains (xs ++ ys) p
in_left [] ys p (i, l, e) = absurd (omega (arith, l))
in_left (x ∷ xs) ys p (zero, l, e) = (0, omega arith, e)
in_left (x ∷ xs) ys p (suc i, l, e) = let w = in_left xs ys p (i, omega (arith, l), e) in (suc w.0, (let k : w.0 < length (xs ++ ys) = w.1 in omega (arith, k)), w.2)

in_right : (xs ys : List Place) (p : Place) → Contains ys p → Contains (xs ++ ys) p
in_right [] ys p m = m
in_right (x ∷ xs) ys p m = let w = in_right xs ys p m in (suc w.0, (let k : w.0 < length (xs ++ ys) = w.1 in omega (arith, k)), w.2)

from_there : (f : NameId) (j : ℕ) (ps : List Ref) (i : ℕ) → i < length ps → Contains (from f j ps) (f, j + i)
from_there f j [] i l = absurd (omega (arith, l))
from_there f j (p ∷ ps) zero l = (0, omega arith, ap (λ n. (f, n)) (plus j))
  where
    plus : (j : ℕ) → j ≡ j + 0
    plus j = omega arith
from_there f j (p ∷ ps) (suc i) l =
    let w = from_there f (suc j) ps i (omega (arith, l)) in
    subst (λ n. Contains (from f j (p ∷ ps)) (f, n)) (shift j i) (suc w.0, (let k : w.0 < length (from f (suc j) ps) = w.1 in omega (arith, k)), w.2)
  where
    shift : (j i : ℕ) → suc j + i ≡ j + suc i
    shift j i = omega arith

-- ---- whether a walk takes something away

abbrev passes : Members → List Ref → (ℕ → Bool) → Bool
passes dep [] g = true
passes dep (p ∷ ps) g = (if g 0 then dep p else true) && passes dep ps (λ j. g (suc j))

shifted : (dep : Members) (g : ℕ → Bool) (i : ℕ) (ps : List Ref) → all_given dep g (suc i) ps ≡ all_given dep (λ j. g (suc j)) i ps
shifted dep g i [] = refl
shifted dep g i (p ∷ ps) = ap (λ b. (if g (suc i) then dep p else true) && b) (shifted dep g (suc i) ps)

passes_same : (dep : Members) (ps : List Ref) (g : ℕ → Bool) → passes dep ps g ≡ all_given dep g 0 ps
passes_same dep [] g = refl
passes_same dep (p ∷ ps) g = ap (λ b. (if g 0 then dep p else true) && b) (passes_same dep ps (λ j. g (suc j)) ∙ sym (shifted dep g 0 ps))

record IsUnpassed (dep : Members) (ps : List Ref) (g : ℕ → Bool) : Type 0 where
  place : ℕ
  below : place < length ps
  on : g place ≡ true
  off : is_passed dep ps place ≡ false

unpassed : (dep : Members) (ps : List Ref) (g : ℕ → Bool) → passes dep ps g ≡ false → IsUnpassed dep ps g
unpassed dep [] g h = absurd cc
unpassed dep (p ∷ ps) g h = go (g 0) (dep p) refl refl h (unpassed dep ps (λ j. g (suc j)))
  where
    further : IsUnpassed dep ps (λ j. g (suc j)) → IsUnpassed dep (p ∷ ps) g
    further u = record { place = suc u.place; below = (let l : u.place < length ps = u.below in omega (arith, l)); on = u.on; off = u.off }

    go : (b c : Bool) → g 0 ≡ b → dep p ≡ c → ((if b then c else true) && passes dep ps (λ j. g (suc j))) ≡ false → (passes dep ps (λ j. g (suc j)) ≡ false → IsUnpassed dep ps (λ j. g (suc j))) → IsUnpassed dep (p ∷ ps) g
    go true false i j h ih = record { place = 0; below = omega arith; on = i; off = j }
    go true true i j h ih = further (ih h)
    go false c i j h ih = further (ih h)

module _ (a : NameId) where
  abbrev stays : ParameterSets → Members → Choreography → Bool
  stays sets dep (Then n rest) = stays sets (members_after a dep n) rest
  stays sets dep (Either p e c d) = stays sets dep c && stays sets dep d
  stays sets dep (Calls f k ps ss) = passes dep ps (sets f)
  stays sets dep Ends = true

  -- where it takes nothing, the calls pass members
  stays_passed : (c : Choreography) (sets : ParameterSets) (dep : Members) → stays sets dep c ≡ true → ArePassed a sets dep c
  stays_passed (Then n rest) sets dep h = stays_passed rest sets (members_after a dep n) h
  stays_passed (Either p e c d) sets dep h = let w = and_parts (stays sets dep c) (stays sets dep d) h in (stays_passed c sets dep w.0, stays_passed d sets dep w.1)
  stays_passed (Calls f k ps ss) sets dep h = sym (passes_same dep ps (sets f)) ∙ h
  stays_passed Ends sets dep h = tt

  -- with more in the sets, more stays
  taken_more : (c : Choreography) (s t : ParameterSets) (dep : Members) → AreWithin s t → AreWithin (taken a s dep c) (taken a t dep c)
  taken_more (Then n rest) s t dep w = taken_more rest s t (members_after a dep n) w
  taken_more (Either p e c d) s t dep w = taken_more d (taken a s dep c) (taken a t dep c) dep (taken_more c s t dep w)
  taken_more (Calls f k ps ss) s t dep w = λ g i h. go (g.0 == f.0) (s g i) (t g i) (is_passed dep ps i) (w g i) h
    where
      go : (b x y z : Bool) → (x ≡ true → y ≡ true) → (if b then x && z else x) ≡ true → (if b then y && z else y) ≡ true
      go true true y z v h = ap (λ u. u && z) (v refl) ∙ h
      go true false y z v h = absurd cc
      go false x y z v h = v h
  taken_more Ends s t dep w = λ g i h. w g i h

  -- a parameter that was in its set and is taken away
  record IsTaken (sets : ParameterSets) (dep : Members) (c : Choreography) : Type 0 where
    place : Place
    there : Contains (places c) place
    on : sets place.0 place.1 ≡ true
    off : taken a sets dep c place.0 place.1 ≡ false

  stays_off : {s t : ParameterSets} → AreWithin s t → (p : Place) → t p.0 p.1 ≡ false → s p.0 p.1 ≡ false
  stays_off {s = s} {t = t} w p h = go (s p.0 p.1) refl
    where
      clash : (b : Bool) → b ≡ true → b ≡ false → ⊥
      clash b i j = cc

      go : (b : Bool) → s p.0 p.1 ≡ b → s p.0 p.1 ≡ false
      go false i = i
      go true i = absurd (clash (t p.0 p.1) (w p.0 p.1 i) h)

  taken_away : (c : Choreography) (sets : ParameterSets) (dep : Members) → stays sets dep c ≡ false → IsTaken sets dep c
  taken_away (Then n rest) sets dep h = let u = taken_away rest sets (members_after a dep n) h in record { place = u.place; there = u.there; on = u.on; off = u.off }
  taken_away (Either p e c d) sets dep h = go (stays sets dep c) refl h (taken_away c sets dep) (taken_away d sets dep)
    where
      go : (b : Bool) → stays sets dep c ≡ b → (b && stays sets dep d) ≡ false → (stays sets dep c ≡ false → IsTaken sets dep c) → (stays sets dep d ≡ false → IsTaken sets dep d) → IsTaken sets dep (Either p e c d)
      go false i j left right =
          let u = left i in
          record { place = u.place; there = in_left (places c) (places d) u.place u.there; on = u.on; off = stays_off {s = taken a (taken a sets dep c) dep d} {t = taken a sets dep c} (taken_within a d (taken a sets dep c) dep) u.place u.off }
      go true i j left right =
          let u = right j in
          record { place = u.place; there = in_right (places c) (places d) u.place u.there; on = u.on; off = stays_off {s = taken a (taken a sets dep c) dep d} {t = taken a sets dep d} (taken_more d (taken a sets dep c) sets dep (taken_within a c sets dep)) u.place u.off }
  taken_away (Calls f k ps ss) sets dep h =
      let u = unpassed dep ps (sets f) h in
      record { place = (f, u.place); there = subst (λ n. Contains (from f 0 ps) (f, n)) (plain u.place) (from_there f 0 ps u.place u.below); on = u.on; off = go (f.0 == f.0) (same f.0) (sets f u.place) (is_passed dep ps u.place) u.off }
    where
      plain : (n : ℕ) → 0 + n ≡ n
      plain n = omega arith

      same : (n : ℕ) → (n == n) ≡ true
      same n = grind (arith, nat_tests)

      go : (b : Bool) → b ≡ true → (x y : Bool) → y ≡ false → (if b then x && y else x) ≡ false
      go true i true y j = j
      go true i false y j = refl
      go false i x y j = absurd cc
  taken_away Ends sets dep h = absurd cc

  -- ---- all bodies

  module _ (procs : List Procedure) (main : Choreography) where
    abbrev all_places : List Procedure → List Place
    all_places [] = places main
    all_places (h ∷ hs) = places h.body ++ all_places hs

    in_main : (hs : List Procedure) (p : Place) → Contains (places main) p → Contains (all_places hs) p
    in_main [] p m = m
    in_main (h ∷ hs) p m = in_right (places h.body) (all_places hs) p (in_main hs p m)

    in_body : (hs : List Procedure) (h : Procedure) → Contains hs h → (p : Place) → Contains (places h.body) p → Contains (all_places hs) p
    in_body [] h (i, l, e) p m = absurd (omega (arith, l))
    in_body (x ∷ xs) h (zero, l, e) p m = in_left (places x.body) (all_places xs) p (subst (λ (z : Procedure). Contains (places z.body) p) (sym e) m)
    in_body (x ∷ xs) h (suc i, l, e) p m = in_right (places x.body) (all_places xs) p (in_body xs h (i, omega (arith, l), e) p m)

    -- a procedure in whose body something is taken away
    record IsUnsettled (hs : List Procedure) (sets : ParameterSets) : Type 0 where
      procedure : Procedure
      among : Contains hs procedure
      takes : stays sets (set_of sets procedure) procedure.body ≡ false

    settled : (hs : List Procedure) (sets : ParameterSets) → All (λ h. ArePassed a sets (set_of sets h) h.body) hs ⊎ IsUnsettled hs sets
    settled [] sets = inl (All-nil (λ h. ArePassed a sets (set_of sets h) h.body))
    settled (h ∷ hs) sets = go (stays sets (set_of sets h) h.body) refl (settled hs sets)
      where
        go : (b : Bool) → stays sets (set_of sets h) h.body ≡ b → All (λ h. ArePassed a sets (set_of sets h) h.body) hs ⊎ IsUnsettled hs sets → All (λ h. ArePassed a sets (set_of sets h) h.body) (h ∷ hs) ⊎ IsUnsettled (h ∷ hs) sets
        go false i rest = inr (record { procedure = h; among = (0, omega arith, refl); takes = i })
        go true i (inl all) = inl (All-cons (λ h. ArePassed a sets (set_of sets h) h.body) h hs (stays_passed h.body sets (set_of sets h) i) all)
        go true i (inr u) = inr (record { procedure = u.procedure; among = (suc u.among.0, (let l : u.among.0 < length hs = u.among.1 in omega (arith, l)), u.among.2); takes = u.takes })

    found : (fuel : ℕ) (sets : ParameterSets) → AreUpper procs main a sets → count (all_places procs) sets < fuel → (sets : ParameterSets) × IsGreatest procs main a sets
    found zero sets up l = absurd (omega (arith, l))
    found (suc fuel) sets up l = go (settled procs sets) (λ s u k. found fuel s u k)
      where
        less : (c : Choreography) (dep : Members) → ((p : Place) → Contains (places c) p → Contains (all_places procs) p) → stays sets dep c ≡ false → count (all_places procs) (taken a sets dep c) < fuel
        less c dep inside h =
            let u = taken_away c sets dep h in
            let k : count (all_places procs) (taken a sets dep c) < count (all_places procs) sets = count_less (all_places procs) (taken a sets dep c) sets (taken_within a c sets dep) u.place (inside u.place u.there) u.off u.on in
            omega (arith, l, k)

        at_main : (b : Bool) → stays sets everyone main ≡ b → All (λ h. ArePassed a sets (set_of sets h) h.body) procs → ((s : ParameterSets) → AreUpper procs main a s → count (all_places procs) s < fuel → (sets : ParameterSets) × IsGreatest procs main a sets) → (sets : ParameterSets) × IsGreatest procs main a sets
        at_main true i all again = (sets, record { passed = record { in_procs = all; in_main = stays_passed main sets everyone i }; greatest = up })
        at_main false i all again = again (taken a sets everyone main) (upper_main procs main a sets up) (less main everyone (in_main procs) i)

        go : All (λ h. ArePassed a sets (set_of sets h) h.body) procs ⊎ IsUnsettled procs sets → ((s : ParameterSets) → AreUpper procs main a s → count (all_places procs) s < fuel → (sets : ParameterSets) × IsGreatest procs main a sets) → (sets : ParameterSets) × IsGreatest procs main a sets
        go (inl all) again = at_main (stays sets everyone main) refl all again
        go (inr u) again = again (taken a sets (set_of sets u.procedure) u.procedure.body) (upper_taken procs main a sets u.procedure u.among up) (less u.procedure.body (set_of sets u.procedure) (in_body procs u.procedure u.among) u.takes)

-- Each channel has greatest sets
pub greatest_there : (procs : List Procedure) (main : Choreography) (a : NameId) → (sets : ParameterSets) × IsGreatest procs main a sets
greatest_there procs main a =
    found a procs main (suc (count (all_places a procs main procs) (λ f i. true))) (λ f i. true) (full_upper procs main a) (omega arith)
