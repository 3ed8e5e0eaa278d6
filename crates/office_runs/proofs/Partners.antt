-- The partners that an office takes are those that were posted.
use Rattle.std.proofs.Common.{◌≡◌, ℕ, zero, suc, ◌<◌, ◌==◌, ◌||◌, ◌&&◌, ◌⊎◌, inl, inr, Bool, true, false, List, [], ◌∷◌, ◌++◌, length, refl, sym, ap, ◌∙◌, subst, Some, None, is_some, arith, if◌then◌else◌}
use Rattle.std.specs.Prelude.{map, slice_get, slice_set, nat_lt, All}
use Rattle.std.proofs.lemmas.List.{length-set}
use Rattle.std.proofs.lemmas.List.Elements.{All-nil, All-cons, All-head, All-tail}
use Rattle.std.proofs.lemmas.Bool.Decides.{nat_tests}
use Rattle.std.proofs.lemmas.Bool.{and_parts}
use Rattle.std.proofs.lemmas.Option.{slice_get_within}
use Rattle.chor_base.specs.declared.names.NameId.{NameId}
use Rattle.endpoint_code.specs.declared.endpoints.Endpoints.{Endpoints}
use Rattle.endpoint_code.specs.Network.{Machine, place_at, served_parts}
use Rattle.endpoint_code.specs.NetworkRuns.{joins_there}
use Rattle.endpoint_code.specs.Faults.{is_among, AreDistinct, one_more}
use Rattle.session_starts.specs.Starts.{AllJoin, AreApart, one_part}
use Rattle.post_office.specs.declared.desk.Desk.{Desk}
use Rattle.post_office.specs.declared.post.Post.{Post}
use Rattle.post_office.specs.declared.post.Post.TheVariants.{Busy, Joining}
use Rattle.post_office.specs.Views.{post_at}
use Rattle.post_office.specs.Starts.{joins_as, least_posted, first_absent, AllPosted}
use Rattle.post_office.proofs.Casts.{name_same}
use Rattle.office_runs.specs.Told.{joined_board}
use Rattle.office_runs.proofs.Board.{Has, IsPosted, board_first}

same_test : (a : ℕ) → (a == a) ≡ true
same_test a = grind (arith, nat_tests)

pub joins_own : (c r : NameId) → joins_as (Joining c r) c r ≡ true
joins_own c r = ap (λ (b : Bool). b && (r.0 == r.0)) (same_test c.0) ∙ same_test r.0

-- ---- each part is posted

-- who joins is there
joins_within : (e : Endpoints) (ms : List Machine) (p : ℕ) (c r : NameId) → joins_there (place_at e (slice_get ms p)) c r ≡ true → p < length ms
joins_within e ms p c r h = go (slice_get ms p) refl h
  where
    go : (o : _) → slice_get ms p ≡ o → joins_there (place_at e o) c r ≡ true → p < length ms
    go None i j = absurd cc
    go (Some m) i j = slice_get_within ms p m i

pub all_within : (e : Endpoints) (ms : List Machine) (c : NameId) (qs : List (NameId × ℕ)) → AllJoin e ms c qs → All (λ q. q.1 < length ms) qs
all_within e ms c [] h = All-nil (λ (q : NameId × ℕ). q.1 < length ms)
all_within e ms c (q ∷ qs) h =
    let P : NameId × ℕ → Type 0 = λ x. joins_there (place_at e (slice_get ms x.1)) c x.0 ≡ true in
    All-cons (λ (x : NameId × ℕ). x.1 < length ms) q qs (joins_within e ms q.1 c q.0 (All-head P q qs h)) (all_within e ms c qs (All-tail P q qs h))

pub parts_posted : (c : NameId) (qs : List (NameId × ℕ)) (ds : List Desk) (count : ℕ) → count ≡ length ds → AreApart qs → All (λ q. q.1 < count) qs → AllPosted (joined_board ds c count qs) c qs
parts_posted c [] ds count long apart h = All-nil (λ (x : NameId × ℕ). joins_as (post_at ds x.1) c x.0 ≡ true)
parts_posted c (q ∷ qs) ds count long (one_part {r} {p} others apart) h =
    let P : NameId × ℕ → Type 0 = λ x. x.1 < count in
    let next : List Desk = if nat_lt p count then slice_set ds p (record { post = Joining c r; joined = None }) else ds in
    let own : post_at (joined_board ds c count ((r, p) ∷ qs)) p ≡ Joining c r = board_first c (r, p) qs ds count long (All-head P (r, p) qs h) others in
    All-cons (λ (x : NameId × ℕ). joins_as (post_at (joined_board ds c count ((r, p) ∷ qs)) x.1) c x.0 ≡ true) (r, p) qs
    (ap (λ (w : Post). joins_as w c r) own ∙ joins_own c r)
    (parts_posted c qs next count (long ∙ sym (same_length (nat_lt p count))) apart (All-tail P (r, p) qs h))
  where
    same_length : (b : Bool) → length (if b then slice_set ds q.1 (record { post = Joining c q.0; joined = None }) else ds) ≡ length ds
    same_length true = length-set ds q.1 (record { post = Joining c q.0; joined = None })
    same_length false = refl

-- ---- so nobody is absent

least_there : (k : ℕ) (ds : List Desk) (c r : NameId) (p : ℕ) → joins_as (post_at ds p) c r ≡ true → is_some (least_posted k ds c r) ≡ true
least_there k [] c r p h = absurd cc
least_there k (d ∷ ds) c r zero h = ap (λ (b : Bool). is_some (if b then Some k else least_posted (suc k) ds c r)) h
least_there k (d ∷ ds) c r (suc p) h = go (joins_as d.post c r) (least_there (suc k) ds c r p h)
  where
    go : (b : Bool) → is_some (least_posted (suc k) ds c r) ≡ true → is_some (if b then Some k else least_posted (suc k) ds c r) ≡ true
    go true i = refl
    go false i = i

pub none_absent : (ds : List Desk) (c : NameId) (p : ℕ) (own : NameId) (rs : List NameId) (qs : List (NameId × ℕ)) → map (λ q. q.0) qs ≡ rs → AllPosted ds c qs → first_absent ds c p own rs ≡ None
none_absent ds c p own rs [] e h = ap (first_absent ds c p own) (sym e)
none_absent ds c p own rs (q ∷ qs) e h =
    let P : NameId × ℕ → Type 0 = λ x. joins_as (post_at ds x.1) c x.0 ≡ true in
    ap (first_absent ds c p own) (sym e)
    ∙ ap (λ (b : Bool). if b then first_absent ds c p own (map (λ x. x.0) qs) else Some q.0) (there (q.0.0 == own.0) (least_there 0 ds c q.0 q.1 (All-head P q qs h)))
    ∙ none_absent ds c p own (map (λ x. x.0) qs) qs refl (All-tail P q qs h)
  where
    there : (b : Bool) → is_some (least_posted 0 ds c q.0) ≡ true → is_some (if b then Some p else least_posted 0 ds c q.0) ≡ true
    there true i = refl
    there false i = i

-- ---- and the partners are the parts

has_role : (x : NameId × ℕ) (qs : List (NameId × ℕ)) → Has x qs → is_among x.0 (map (λ q. q.0) qs) ≡ true
has_role x [] h = absurd h
has_role x (q ∷ qs) (inl e) = ap (λ (n : ℕ). (n == q.0.0) || is_among x.0 (map (λ y. y.0) qs)) (ap (λ y. y.0.0) (sym e)) ∙ ap (λ (b : Bool). b || is_among x.0 (map (λ y. y.0) qs)) (same_test q.0.0)
has_role x (q ∷ qs) (inr h) = go (x.0.0 == q.0.0) (has_role x qs h)
  where
    go : (b : Bool) → is_among x.0 (map (λ y. y.0) qs) ≡ true → (b || is_among x.0 (map (λ y. y.0) qs)) ≡ true
    go true i = refl
    go false i = i

-- lists with the same distinct roles, where each part of the one is among those of the other
pub same_parts : (rs : List NameId) (ps qs : List (NameId × ℕ)) → AreDistinct rs → map (λ q. q.0) ps ≡ rs → map (λ q. q.0) qs ≡ rs → All (λ x. Has x qs) ps → ps ≡ qs
same_parts [] [] [] d e f h = refl
same_parts [] (p ∷ ps) qs d e f h = absurd cc
same_parts [] [] (q ∷ qs) d e f h = absurd cc
same_parts (r ∷ rs) [] qs d e f h = absurd cc
same_parts (r ∷ rs) (p ∷ ps) [] d e f h = absurd cc
same_parts (r ∷ rs) (p ∷ ps) (q ∷ qs) (one_more out d) e f h =
    let P : NameId × ℕ → Type 0 = λ x. Has x (q ∷ qs) in
    let first : p.0 ≡ r = cc in
    let second : q.0 ≡ r = cc in
    let ps_are : map (λ x. x.0) ps ≡ rs = cc in
    let qs_are : map (λ x. x.0) qs ≡ rs = cc in
    let head : p ≡ q = elim (All-head P p ps h) [ inl i ↦ sym i | inr i ↦ absurd (twice p.0 first (subst (λ (ns : List NameId). is_among p.0 ns ≡ true) qs_are (has_role p qs i))) ] in
    (λ i. head i ∷ same_parts rs ps qs d ps_are qs_are (others second ps (subst (λ (ns : List NameId). ((x : NameId) → is_among x (map (λ y. y.0) ps) ≡ true → is_among x ns ≡ true)) ps_are (λ x k. k)) (All-tail P p ps h)) i)
  where
    twice : (n : NameId) → n ≡ r → is_among n rs ≡ true → ⊥
    twice n same k = let l : is_among r rs ≡ true = subst (λ (m : NameId). is_among m rs ≡ true) same k in cc

    others : q.0 ≡ r → (xs : List (NameId × ℕ)) → ((x : NameId) → is_among x (map (λ y. y.0) xs) ≡ true → is_among x rs ≡ true) → All (λ x. Has x (q ∷ qs)) xs → All (λ x. Has x qs) xs
    others second [] within all = All-nil (λ (x : NameId × ℕ). Has x qs)
    others second (x ∷ xs) within all =
        let P : NameId × ℕ → Type 0 = λ y. Has y (q ∷ qs) in
        All-cons (λ (y : NameId × ℕ). Has y qs) x xs
        (elim (All-head P x xs all) [
          | inl i ↦ absurd (twice x.0 (ap (λ y. y.0) (sym i) ∙ second) (within x.0 (has_role x (x ∷ xs) (inl refl))))
          | inr i ↦ i
        ])
        (others second xs (λ y k. within y (later y x.0 (map (λ z. z.0) xs) k)) (All-tail P x xs all))
      where
        later : (y n : NameId) (ns : List NameId) → is_among y ns ≡ true → is_among y (n ∷ ns) ≡ true
        later y n ns k = go (y.0 == n.0)
          where
            go : (b : Bool) → (b || is_among y ns) ≡ true
            go true = refl
            go false = k

-- who is posted as joining has a part
pub posted_part : (c : NameId) (count : ℕ) (qs : List (NameId × ℕ)) (post before : Post) (r : NameId) (p : ℕ) → before ≡ Busy → (post ≡ before) ⊎ IsPosted c count qs post p → joins_as post c r ≡ true → Has (r, p) qs × (p < count)
posted_part c count qs post before r p busy (inl same) h = let no : joins_as Busy c r ≡ true = subst (λ (w : Post). joins_as w c r ≡ true) (same ∙ busy) h in absurd cc
posted_part c count qs post before r p busy (inr is) h =
    let joined : ((c.0 == c.0) && (is.role.0 == r.0)) ≡ true = subst (λ (w : Post). joins_as w c r ≡ true) is.joins h in
    let role : is.role ≡ r = name_same is.role r (and_parts (c.0 == c.0) (is.role.0 == r.0) joined).1 in
    (subst (λ (n : NameId). Has (n, p) qs) role is.part, is.there)

-- an old process that has a part has no part of a new process
pub front_part : (x : NameId × ℕ) (qs : List (NameId × ℕ)) (rs : List NameId) (k : ℕ) → x.1 < k → Has x (qs ++ served_parts rs k) → Has x qs
front_part x [] [] k lt h = absurd h
front_part x [] (r ∷ rs) k lt (inl e) = let same : k ≡ x.1 = ap (λ y. y.1) e in absurd (omega (arith, lt, same))
front_part x [] (r ∷ rs) k lt (inr h) = absurd (front_part x [] rs (suc k) (omega (arith, lt)) h)
front_part x (q ∷ qs) rs k lt (inl e) = inl e
front_part x (q ∷ qs) rs k lt (inr h) = inr (front_part x qs rs k lt h)
