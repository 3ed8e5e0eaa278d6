-- The board before and after the parts of a start were posted.
use Rattle.std.proofs.Common.{◌≡◌, ◌≢◌, ℕ, zero, suc, ◌+◌, ◌<◌, ◌≤◌, ◌⊎◌, inl, inr, Bool, true, false, List, [], ◌∷◌, ◌++◌, length, get_or, refl, sym, ap, ◌∙◌, subst, None, Some, arith, drop, take, if◌then◌else◌}
use Rattle.std.specs.Prelude.{slice_set, nat_lt, All}
use Rattle.std.proofs.Math.ListN.{replicate}
use Rattle.std.proofs.lemmas.List.{length-set, drop_more, take_more}
use Rattle.std.proofs.lemmas.List.Elements.{All-nil, All-cons, All-head, All-tail, All-append}
use Rattle.std.proofs.lemmas.Bool.Decides.{nat_tests}
use Rattle.chor_base.specs.declared.names.NameId.{NameId}
use Rattle.endpoint_code.specs.Network.{served_parts}
use Rattle.post_office.specs.declared.desk.Desk.{Desk}
use Rattle.post_office.specs.declared.post.Post.{Post}
use Rattle.post_office.specs.declared.post.Post.TheVariants.{Busy, Joining}
use Rattle.post_office.specs.Views.{OfficeView, post_at, joined_at, made_busy, all_joined, idle}
use Rattle.post_office.proofs.Acting.{busy_own, post_other}
use Rattle.office_runs.specs.Told.{joined_board, AreOthers, AllBusy}
use Rattle.office_runs.proofs.Posted.{posted_own}

-- x is among these
abbrev pub Has : NameId × ℕ → List (NameId × ℕ) → Type 0
Has x [] = ⊥
Has x (y ∷ ys) = (y ≡ x) ⊎ Has x ys

abbrev desk_of : NameId → NameId → Desk
desk_of c r = record { post = Joining c r; joined = None }

-- ---- one desk

-- what is posted of a process after a desk was set
set_post : (ds : List Desk) (q p : ℕ) (d : Desk) → (post_at (slice_set ds q d) p ≡ post_at ds p) ⊎ ((q ≡ p) × (post_at (slice_set ds q d) p ≡ d.post))
set_post [] q p d = inl refl
set_post (x ∷ ds) zero zero d = inr (refl, refl)
set_post (x ∷ ds) zero (suc p) d = inl refl
set_post (x ∷ ds) (suc q) zero d = inl refl
set_post (x ∷ ds) (suc q) (suc p) d = elim (set_post ds q p d) [ inl e ↦ inl e | inr e ↦ inr (ap suc e.0, e.1) ]

set_busy : (ds : List Desk) (q p : ℕ) (j : _) → post_at ds p ≡ Busy → post_at (slice_set ds q (record { post = Busy; joined = j })) p ≡ Busy
set_busy ds q p j h = elim (set_post ds q p (record { post = Busy; joined = j })) [ inl e ↦ e ∙ h | inr e ↦ e.1 ]

-- ---- who is busy stays so

pub made_stays : (ps : List ℕ) (ds : List Desk) → ((p : ℕ) → post_at ds p ≡ Busy) → (p : ℕ) → post_at (made_busy ps ds) p ≡ Busy
made_stays [] ds h = h
made_stays (q ∷ ps) ds h = made_stays ps (slice_set ds q (record { post = Busy; joined = joined_at ds q })) (λ p. set_busy ds q p (joined_at ds q) (h p))

pub joined_stays : (s : ℕ) (qs : List (NameId × ℕ)) (ds : List Desk) (p : ℕ) → post_at ds p ≡ Busy → post_at (all_joined s qs ds) p ≡ Busy
joined_stays s [] ds p h = h
joined_stays s (q ∷ qs) ds p h = joined_stays s qs (slice_set ds q.1 (record { post = Busy; joined = Some s })) p (set_busy ds q.1 p (Some s) h)

-- who has a part in a start is busy after it
pub joined_sets : (s : ℕ) (qs : List (NameId × ℕ)) (ds : List Desk) (r : NameId) (p : ℕ) → Has (r, p) qs → post_at (all_joined s qs ds) p ≡ Busy
joined_sets s [] ds r p h = absurd h
joined_sets s (q ∷ qs) ds r p (inl e) =
    joined_stays s qs (slice_set ds q.1 (record { post = Busy; joined = Some s })) p
    (subst (λ (n : ℕ). post_at (slice_set ds q.1 (record { post = Busy; joined = Some s })) n ≡ Busy) (ap (λ x. x.1) e) (busy_own ds q.1 (Some s)))
joined_sets s (q ∷ qs) ds r p (inr h) = joined_sets s qs (slice_set ds q.1 (record { post = Busy; joined = Some s })) r p h

idle_busy : (n p : ℕ) → post_at (replicate n idle) p ≡ Busy
idle_busy zero p = refl
idle_busy (suc n) zero = refl
idle_busy (suc n) (suc p) = idle_busy n p

pub appended_busy : (ds : List Desk) (n p : ℕ) → post_at ds p ≡ Busy → post_at (ds ++ replicate n idle) p ≡ Busy
appended_busy [] n p h = idle_busy n p
appended_busy (d ∷ ds) n zero h = h
appended_busy (d ∷ ds) n (suc p) h = appended_busy ds n p h

pub begins_busy : (w : OfficeView) (n : ℕ) → w.desks ≡ replicate n idle → AllBusy w
begins_busy w n e p = ap (λ (ds : List Desk). post_at ds p) e ∙ idle_busy n p

-- ---- what the parts leave on the board

below : (q count : ℕ) → nat_lt q count ≡ true → q < count
below q count h = grind (arith, nat_tests)

is_below : (q count : ℕ) → q < count → nat_lt q count ≡ true
is_below q count h = grind (arith, nat_tests)

not_below : (q count : ℕ) → count ≤ q → nat_lt q count ≡ false
not_below q count h = grind (arith, nat_tests)

-- what a process has of its part
pub record IsPosted (c : NameId) (count : ℕ) (qs : List (NameId × ℕ)) (post : Post) (p : ℕ) : Type 0 where
  pub role : NameId
  pub joins : post ≡ Joining c role
  pub part : Has (role, p) qs
  pub there : p < count

-- a process is posted as it was, or by its part
pub board_posts : (c : NameId) (count : ℕ) (qs : List (NameId × ℕ)) (ds : List Desk) (p : ℕ) → (post_at (joined_board ds c count qs) p ≡ post_at ds p) ⊎ IsPosted c count qs (post_at (joined_board ds c count qs) p) p
board_posts c count [] ds p = inl refl
board_posts c count (q ∷ qs) ds p = go (nat_lt q.1 count) refl (λ es. board_posts c count qs es p)
  where
    more : (es : List Desk) → IsPosted c count qs (post_at (joined_board es c count qs) p) p → IsPosted c count (q ∷ qs) (post_at (joined_board es c count qs) p) p
    more es h = record { role = h.role; joins = h.joins; part = inr h.part; there = h.there }

    go : (b : Bool) → nat_lt q.1 count ≡ b → ((es : List Desk) → (post_at (joined_board es c count qs) p ≡ post_at es p) ⊎ IsPosted c count qs (post_at (joined_board es c count qs) p) p)
        → (post_at (joined_board (if b then slice_set ds q.1 (desk_of c q.0) else ds) c count qs) p ≡ post_at ds p) ⊎ IsPosted c count (q ∷ qs) (post_at (joined_board (if b then slice_set ds q.1 (desk_of c q.0) else ds) c count qs) p) p
    go false e others = elim (others ds) [ inl k ↦ inl k | inr k ↦ inr (more ds k) ]
    go true e others = elim (others (slice_set ds q.1 (desk_of c q.0))) [
      | inl k ↦ elim (set_post ds q.1 p (desk_of c q.0)) [
        | inl same ↦ inl (k ∙ same)
        | inr own ↦ inr (record { role = q.0; joins = k ∙ own.1; part = inl (ap (λ (n : ℕ). let x : NameId × ℕ = (q.0, n) in x) own.0); there = subst (λ (n : ℕ). n < count) own.0 (below q.1 count e) })
      ]
      | inr k ↦ inr (more (slice_set ds q.1 (desk_of c q.0)) k)
    ]

-- a process without a part is posted as it was
board_stays : (c : NameId) (count : ℕ) (qs : List (NameId × ℕ)) (ds : List Desk) (p : ℕ) → All (λ x. x.1 ≢ p) qs → post_at (joined_board ds c count qs) p ≡ post_at ds p
board_stays c count [] ds p h = refl
board_stays c count (q ∷ qs) ds p h =
    let P : NameId × ℕ → Type 0 = λ x. x.1 ≢ p in
    board_stays c count qs (if nat_lt q.1 count then slice_set ds q.1 (desk_of c q.0) else ds) p (All-tail P q qs h) ∙ go (nat_lt q.1 count) (All-head P q qs h)
  where
    go : (b : Bool) → q.1 ≢ p → post_at (if b then slice_set ds q.1 (desk_of c q.0) else ds) p ≡ post_at ds p
    go false apart = refl
    go true apart = post_other ds q.1 p (desk_of c q.0) (λ e. apart (sym e))

-- parts of new processes leave the board as it is
pub board_served : (c : NameId) (count : ℕ) (qs : List (NameId × ℕ)) (rs : List NameId) (k : ℕ) (ds : List Desk) → count ≤ k → joined_board ds c count (qs ++ served_parts rs k) ≡ joined_board ds c count qs
board_served c count [] [] k ds h = refl
board_served c count [] (r ∷ rs) k ds h =
    ap (λ (b : Bool). joined_board (if b then slice_set ds k (desk_of c r) else ds) c count (served_parts rs (suc k))) (not_below k count h) ∙ board_served c count [] rs (suc k) ds (omega (arith, h))
board_served c count (q ∷ qs) rs k ds h = board_served c count qs rs k (if nat_lt q.1 count then slice_set ds q.1 (desk_of c q.0) else ds) h

-- the first part is posted, if no other has its process
pub board_first : (c : NameId) (q : NameId × ℕ) (qs : List (NameId × ℕ)) (ds : List Desk) (count : ℕ) → count ≡ length ds → q.1 < count → All (λ x. x.1 ≢ q.1) qs → post_at (joined_board ds c count (q ∷ qs)) q.1 ≡ Joining c q.0
board_first c q qs ds count long lt apart =
    ap (λ (b : Bool). post_at (joined_board (if b then slice_set ds q.1 (desk_of c q.0) else ds) c count qs) q.1) (is_below q.1 count lt)
    ∙ board_stays c count qs (slice_set ds q.1 (desk_of c q.0)) q.1 apart
    ∙ posted_own ds q.1 (desk_of c q.0) (omega (arith, long, lt))

pub board_long : (c : NameId) (count : ℕ) (qs : List (NameId × ℕ)) (ds : List Desk) → length (joined_board ds c count qs) ≡ length ds
board_long c count [] ds = refl
board_long c count (q ∷ qs) ds = board_long c count qs (if nat_lt q.1 count then slice_set ds q.1 (desk_of c q.0) else ds) ∙ go (nat_lt q.1 count)
  where
    go : (b : Bool) → length (if b then slice_set ds q.1 (desk_of c q.0) else ds) ≡ length ds
    go true = length-set ds q.1 (desk_of c q.0)
    go false = refl

-- ---- one part after another

module _ (c : NameId) (count : ℕ) (qs : List (NameId × ℕ)) (i : ℕ) (d : NameId × ℕ) (lt : i < length qs) where
  abbrev part : NameId × ℕ
  part = get_or qs i d

  turn : (b : Bool) (ds : List Desk) → nat_lt part.1 count ≡ b → joined_board ds c count (drop i qs) ≡ joined_board (if b then slice_set ds part.1 (desk_of c part.0) else ds) c count (drop (i + 1) qs)
  turn b ds e = ap (joined_board ds c count) (drop_more qs i d lt) ∙ ap (λ (a : Bool). joined_board (if a then slice_set ds part.1 (desk_of c part.0) else ds) c count (drop (i + 1) qs)) e

  pub turn_posted : (ds : List Desk) → part.1 < count → joined_board (slice_set ds part.1 (desk_of c part.0)) c count (drop (i + 1) qs) ≡ joined_board ds c count (drop i qs)
  turn_posted ds h = sym (turn true ds (is_below part.1 count h))

  pub turn_passed : (ds : List Desk) → count ≤ part.1 → joined_board ds c count (drop (i + 1) qs) ≡ joined_board ds c count (drop i qs)
  turn_passed ds h = sym (turn false ds (not_below part.1 count h))

  pub others_more : count ≤ part.1 → AreOthers count (take i qs) → AreOthers count (take (i + 1) qs)
  others_more h all =
      let P : NameId × ℕ → Type 0 = λ q. count ≤ q.1 in
      subst (AreOthers count) (sym (take_more qs i d lt)) (All-append P (take i qs) (part ∷ []) all (All-cons P part [] h (All-nil P)))
