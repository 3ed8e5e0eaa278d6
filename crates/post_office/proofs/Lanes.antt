-- Where a triple's queue is.
use Rattle.std.proofs.Common.{◌≡◌, ℕ, zero, suc, ◌+◌, ◌≤◌, ◌<◌, Bool, true, false, cond, List, [], ◌∷◌, ◌++◌, length, get_or, ◌||◌, refl, sym, ap, ◌∙◌, subst, Some, None, arith, OnOk, Result, Ok, Err}
use Rattle.std.specs.Prelude.{map, slice_set, slice_get}
use Rattle.chor_base.specs.declared.value.Load.{Load}
use Rattle.chor_base.specs.Events.{Triple, triple_eq}
use Rattle.endpoint_code.specs.Network.{loads_for, with_loads}
use Rattle.endpoint_code.proofs.Fifo.{same_triple}
use Rattle.post_office.specs.Lanes.{LaneView, loads_in, room_among, is_there, lane_from}

-- a list stays where an item is put that a function takes alike
pub mapped_put : {X Y : Type 0} (f : X → Y) (xs : List X) (p : ℕ) (x y : X) → p < length xs → x ≡ get_or xs p x → f y ≡ f x → map f (slice_set xs p y) ≡ map f xs
mapped_put f [] p x y lt h same = absurd (omega arith)
mapped_put f (z ∷ xs) zero x y lt h same = ap (λ s. s ∷ map f xs) (same ∙ ap f h)
mapped_put f (z ∷ xs) (suc p) x y lt h same = ap (λ r. f z ∷ r) (mapped_put f xs p x y (omega arith) h same)

-- the first lane of the triple is at this place
pub data At (t : Triple) : List LaneView → ℕ → Type 0 where
  here : {l : LaneView} {ls : List LaneView} → triple_eq l.triple t ≡ true → At t (l ∷ ls) zero
  later : {l : LaneView} {ls : List LaneView} {i : ℕ} → triple_eq l.triple t ≡ false → At t ls i → At t (l ∷ ls) (suc i)

-- no lane is the triple's
pub data Lacks (t : Triple) : List LaneView → Type 0 where
  no_lane : Lacks t []
  one_lane : {l : LaneView} {ls : List LaneView} → triple_eq l.triple t ≡ false → Lacks t ls → Lacks t (l ∷ ls)

found_from : (k : ℕ) (ls : List LaneView) (t : Triple) (i : ℕ) → lane_from k ls t ≡ Some i → (j : ℕ) × (i ≡ k + j) × At t ls j
found_from k [] t i h = absurd cc
found_from k (l ∷ ls) t i h = go (triple_eq l.triple t) refl (λ e. found_from (suc k) ls t i e)
  where
    go : (b : Bool) → triple_eq l.triple t ≡ b → (lane_from (suc k) ls t ≡ Some i → (j : ℕ) × (i ≡ suc k + j) × At t ls j) → (j : ℕ) × (i ≡ k + j) × At t (l ∷ ls) j
    go true e more =
        let s : Some k ≡ Some i = sym (ap (λ b. cond b (Some k) (lane_from (suc k) ls t)) e) ∙ h in
        let same : k ≡ i = cc in
        (zero, omega arith, here e)
    go false e more =
        let m = more (sym (ap (λ b. cond b (Some k) (lane_from (suc k) ls t)) e) ∙ h) in
        (let q : i ≡ suc k + m.0 = m.1 in (suc m.0, omega arith, later e m.2))

pub at_found : (ls : List LaneView) (t : Triple) (i : ℕ) → lane_from 0 ls t ≡ Some i → At t ls i
at_found ls t i h =
    let f = found_from 0 ls t i h in
    let e : f.0 ≡ i = let q : i ≡ 0 + f.0 = f.1 in omega arith in
    subst (At t ls) e f.2

pub lacks_found : (k : ℕ) (ls : List LaneView) (t : Triple) → lane_from k ls t ≡ None → Lacks t ls
lacks_found k [] t h = no_lane
lacks_found k (l ∷ ls) t h = go (triple_eq l.triple t) refl (λ e. lacks_found (suc k) ls t e)
  where
    go : (b : Bool) → triple_eq l.triple t ≡ b → (lane_from (suc k) ls t ≡ None → Lacks t ls) → Lacks t (l ∷ ls)
    go true e more = let s : Some k ≡ None = sym (ap (λ b. cond b (Some k) (lane_from (suc k) ls t)) e) ∙ h in absurd cc
    go false e more = one_lane e (more (sym (ap (λ b. cond b (Some k) (lane_from (suc k) ls t)) e) ∙ h))

-- ---- a lane that is there

pub loads_at : {t : Triple} {ls : List LaneView} {i : ℕ} → At t ls i → (d : LaneView) → loads_for (loads_in ls) t ≡ (get_or ls i d).loads
loads_at {t} (here {l} {ls} e) d = ap (λ b. cond b l.loads (loads_for (loads_in ls) t)) e
loads_at {t} (later {l} {ls} e a) d = ap (λ b. cond b l.loads (loads_for (loads_in ls) t)) e ∙ loads_at a d

pub room_at : {t : Triple} {ls : List LaneView} {i : ℕ} → At t ls i → (f : ℕ) (d : LaneView) → room_among f ls t ≡ (get_or ls i d).room
room_at {t} (here {l} {ls} e) f d = ap (λ b. cond b l.room (room_among f ls t)) e
room_at {t} (later {l} {ls} e a) f d = ap (λ b. cond b l.room (room_among f ls t)) e ∙ room_at a f d

pub put_at : {t : Triple} {ls : List LaneView} {i : ℕ} → At t ls i → (d m : LaneView) → m.triple ≡ (get_or ls i d).triple → with_loads (loads_in ls) t m.loads ≡ loads_in (slice_set ls i m)
put_at {t} (here {l} {ls} e) d m h =
    let same : l.triple ≡ t = same_triple l.triple t e in
    ap (λ b. cond b ((t, m.loads) ∷ loads_in ls) ((l.triple, l.loads) ∷ with_loads (loads_in ls) t m.loads)) e ∙ ap (λ (s : Triple). (s, m.loads) ∷ loads_in ls) (sym same ∙ sym h)
put_at {t} (later {l} {ls} e a) d m h =
    ap (λ b. cond b ((t, m.loads) ∷ loads_in ls) ((l.triple, l.loads) ∷ with_loads (loads_in ls) t m.loads)) e ∙ ap (λ r. (l.triple, l.loads) ∷ r) (put_at a d m h)

-- the loads stay where the lane that is put has them
pub same_loads : (ls : List LaneView) (i : ℕ) (d m : LaneView) → i < length ls → m.triple ≡ (get_or ls i d).triple → m.loads ≡ (get_or ls i d).loads → loads_in (slice_set ls i m) ≡ loads_in ls
same_loads [] i d m lt h k = absurd (omega arith)
same_loads (l ∷ ls) zero d m lt h k = ap (λ (p : Triple × List Load). p ∷ loads_in ls) (ap (λ (x : Triple). let r : Triple × List Load = (x, m.loads) in r) h ∙ ap (λ (x : List Load). let r : Triple × List Load = (l.triple, x) in r) k)
same_loads (l ∷ ls) (suc i) d m lt h k = ap (λ r. (l.triple, l.loads) ∷ r) (same_loads ls i d m (omega arith) h k)

pub room_kept : (f : ℕ) (ls : List LaneView) (i : ℕ) (d m : LaneView) (t : Triple) → i < length ls → m.triple ≡ (get_or ls i d).triple → (get_or ls i d).room ≤ m.room → room_among f ls t ≤ room_among f (slice_set ls i m) t
room_kept f [] i d m t lt h k = absurd (omega arith)
room_kept f (l ∷ ls) zero d m t lt h k = go (triple_eq l.triple t) refl
  where
    go : (b : Bool) → triple_eq l.triple t ≡ b → cond (triple_eq l.triple t) l.room (room_among f ls t) ≤ cond (triple_eq m.triple t) m.room (room_among f ls t)
    go true e = rw (h, e) k
    go false e = rw (h, e) (omega arith)
room_kept f (l ∷ ls) (suc i) d m t lt h k = go (triple_eq l.triple t) refl (room_kept f ls i d m t (omega arith) h k)
  where
    go : (b : Bool) → triple_eq l.triple t ≡ b → room_among f ls t ≤ room_among f (slice_set ls i m) t → cond (triple_eq l.triple t) l.room (room_among f ls t) ≤ cond (triple_eq l.triple t) l.room (room_among f (slice_set ls i m) t)
    go true e r = rw e (omega arith)
    go false e r = rw e r

-- other triples keep their room
room_apart : {t : Triple} {ls : List LaneView} {i : ℕ} → At t ls i → (f : ℕ) (d m : LaneView) (u : Triple) → m.triple ≡ (get_or ls i d).triple → triple_eq t u ≡ false → room_among f (slice_set ls i m) u ≡ room_among f ls u
room_apart {t} (here {l} {ls} e) f d m u h k =
    let old : triple_eq l.triple u ≡ false = ap (λ (s : Triple). triple_eq s u) (same_triple l.triple t e) ∙ k in
    let new : triple_eq m.triple u ≡ false = ap (λ (s : Triple). triple_eq s u) h ∙ old in
    ap (λ b. cond b m.room (room_among f ls u)) new ∙ sym (ap (λ b. cond b l.room (room_among f ls u)) old)
room_apart {t} (later {l} {ls} e a) f d m u h k = ap (cond (triple_eq l.triple u) l.room) (room_apart a f d m u h k)

-- lanes that come after change nothing for a triple whose lane is there
before : (f g : ℕ) (ls ms : List LaneView) (t : Triple) → is_there ls t ≡ true → room_among f (ls ++ ms) t ≡ room_among g ls t
before f g [] ms t h = absurd cc
before f g (l ∷ ls) ms t h = go (triple_eq l.triple t) h (before f g ls ms t)
  where
    go : (b : Bool) → (b || is_there ls t) ≡ true → (is_there ls t ≡ true → room_among f (ls ++ ms) t ≡ room_among g ls t) → cond b l.room (room_among f (ls ++ ms) t) ≡ cond b l.room (room_among g ls t)
    go true k more = refl
    go false k more = more k

pub room_before : (f g : ℕ) (ls ms all : List LaneView) (t : Triple) → all ≡ ls ++ ms → is_there ls t ≡ true → room_among f all t ≡ room_among g ls t
room_before f g ls ms all t e h = ap (λ (xs : List LaneView). room_among f xs t) e ∙ before f g ls ms t h

-- ---- a lane that isn't there

pub isnt_there : {t : Triple} {ls : List LaneView} → Lacks t ls → is_there ls t ≡ false
isnt_there no_lane = refl
isnt_there {t} (one_lane {l} {ls} e a) = ap (λ b. b || is_there ls t) e ∙ isnt_there a

pub loads_lacking : {t : Triple} {ls : List LaneView} → Lacks t ls → loads_for (loads_in ls) t ≡ []
loads_lacking no_lane = refl
loads_lacking {t} (one_lane {l} {ls} e a) = ap (λ b. cond b l.loads (loads_for (loads_in ls) t)) e ∙ loads_lacking a

pub put_lacking : {t : Triple} {ls : List LaneView} → Lacks t ls → (x : List Load) → with_loads (loads_in ls) t x ≡ loads_in ls ++ (t, x) ∷ []
put_lacking no_lane x = refl
put_lacking {t} (one_lane {l} {ls} e a) x =
    ap (λ b. cond b ((t, x) ∷ loads_in ls) ((l.triple, l.loads) ∷ with_loads (loads_in ls) t x)) e ∙ ap (λ r. (l.triple, l.loads) ∷ r) (put_lacking a x)

pub room_lacking : {t : Triple} {ls : List LaneView} → Lacks t ls → (f : ℕ) → room_among f ls t ≡ f
room_lacking no_lane f = refl
room_lacking {t} (one_lane {l} {ls} e a) f = ap (λ b. cond b l.room (room_among f ls t)) e ∙ room_lacking a f

pub room_more : (f g : ℕ) (ls : List LaneView) (t : Triple) → f ≤ g → room_among f ls t ≤ room_among g ls t
room_more f g [] t h = h
room_more f g (l ∷ ls) t h = go (triple_eq l.triple t) refl (room_more f g ls t h)
  where
    go : (b : Bool) → triple_eq l.triple t ≡ b → room_among f ls t ≤ room_among g ls t → cond (triple_eq l.triple t) l.room (room_among f ls t) ≤ cond (triple_eq l.triple t) l.room (room_among g ls t)
    go true e r = rw e (omega arith)
    go false e r = rw e r

-- ---- by the place that was looked for

pub lacking_is_empty : (ls : List LaneView) (t : Triple) → lane_from 0 ls t ≡ None → loads_for (loads_in ls) t ≡ []
lacking_is_empty ls t h = loads_lacking (lacks_found 0 ls t h)

pub found_is : (ls : List LaneView) (t : Triple) (i : ℕ) (l : LaneView) → lane_from 0 ls t ≡ Some i → l ≡ get_or ls i l → loads_for (loads_in ls) t ≡ l.loads
found_is ls t i l h e = loads_at (at_found ls t i h) l ∙ ap (λ (m : LaneView). m.loads) (sym e)

pub first_lacking : (ls : List LaneView) (t : Triple) → lane_from 0 ls t ≡ None → slice_get (loads_for (loads_in ls) t) 0 ≡ None
first_lacking ls t h = ap (λ q. slice_get q 0) (lacking_is_empty ls t h)

pub first_found : (ls : List LaneView) (t : Triple) (i : ℕ) (l : LaneView) → lane_from 0 ls t ≡ Some i → l ≡ get_or ls i l → slice_get (loads_for (loads_in ls) t) 0 ≡ slice_get l.loads 0
first_found ls t i l h e = ap (λ q. slice_get q 0) (found_is ls t i l h e)

pub room_found : (f : ℕ) (ls : List LaneView) (t : Triple) (i : ℕ) (l : LaneView) → lane_from 0 ls t ≡ Some i → l ≡ get_or ls i l → room_among f ls t ≡ l.room
room_found f ls t i l h e = room_at (at_found ls t i h) f l ∙ ap (λ (m : LaneView). m.room) (sym e)

-- a lane with other loads stands where the triple's lane stood
pub put_found : (f : List Load → List Load) (ls : List LaneView) (t : Triple) (i : ℕ) (l m : LaneView) → lane_from 0 ls t ≡ Some i → l ≡ get_or ls i l → m.triple ≡ l.triple → m.loads ≡ f l.loads → loads_in (slice_set ls i m) ≡ with_loads (loads_in ls) t (f (loads_for (loads_in ls) t))
put_found f ls t i l m h e k x =
    let a = at_found ls t i h in
    sym (ap (λ (q : List Load). with_loads (loads_in ls) t (f q)) (found_is ls t i l h e) ∙ ap (with_loads (loads_in ls) t) (sym x) ∙ put_at a l m (k ∙ ap (λ (n : LaneView). n.triple) e))

pub put_none : (ls : List LaneView) (t : Triple) (x : Load) → lane_from 0 ls t ≡ None → with_loads (loads_in ls) t (loads_for (loads_in ls) t ++ x ∷ []) ≡ loads_in ls ++ (t, x ∷ []) ∷ []
put_none ls t x h =
    let a = lacks_found 0 ls t h in
    ap (λ (q : List Load). with_loads (loads_in ls) t (q ++ x ∷ [])) (lacking_is_empty ls t h) ∙ put_lacking a (x ∷ [])

room_put : {t : Triple} {ls : List LaneView} {i : ℕ} → At t ls i → (f : ℕ) (d m : LaneView) → m.triple ≡ (get_or ls i d).triple → room_among f (slice_set ls i m) t ≡ m.room
room_put {t} (here {l} {ls} e) f d m h = ap (λ b. cond b m.room (room_among f ls t)) (ap (λ (s : Triple). triple_eq s t) h ∙ e)
room_put {t} (later {l} {ls} {i} e a) f d m h = ap (λ b. cond b l.room (room_among f (slice_set ls i m) t)) e ∙ room_put a f d m h

pub room_put_found : (f : ℕ) (ls : List LaneView) (t : Triple) (i : ℕ) (l m : LaneView) → lane_from 0 ls t ≡ Some i → l ≡ get_or ls i l → m.triple ≡ l.triple → room_among f (slice_set ls i m) t ≡ m.room
room_put_found f ls t i l m h e k = room_put (at_found ls t i h) f l m (k ∙ ap (λ (n : LaneView). n.triple) e)

pub room_apart_found : (f : ℕ) (ls : List LaneView) (t : Triple) (i : ℕ) (l m : LaneView) (u : Triple) → lane_from 0 ls t ≡ Some i → l ≡ get_or ls i l → m.triple ≡ l.triple → triple_eq t u ≡ false → room_among f (slice_set ls i m) u ≡ room_among f ls u
room_apart_found f ls t i l m u h e k apart = room_apart (at_found ls t i h) f l m u (k ∙ ap (λ (n : LaneView). n.triple) e) apart

pub none_there : (ls : List LaneView) (t : Triple) → lane_from 0 ls t ≡ None → is_there ls t ≡ false
none_there ls t h = isnt_there (lacks_found 0 ls t h)

pub room_none : (f : ℕ) (ls : List LaneView) (t : Triple) → lane_from 0 ls t ≡ None → room_among f ls t ≡ f
room_none f ls t h = room_lacking (lacks_found 0 ls t h) f

pub on_ok : {T E P Q : Type 0} (r : Result T E) → (P → Q) → OnOk r P → OnOk r Q
on_ok (Ok x) f p = f p
on_ok (Err x) f p = tt
