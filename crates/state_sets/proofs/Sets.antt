-- Sets of states as bytes.
use Rattle.std.proofs.Common.{length-append, ℕ, ◌≡◌, ◌+◌, ◌<◌, ◌≤◌, List, [], ◌∷◌, ◌++◌, Bool, true, false, refl, ap, sym, subst, ◌∙◌, arith, inl, inr, zero, suc, length, replicate, get_or, length-set}
use Rattle.std.specs.declared.alloc.Global.{Global}
use Rattle.std.specs.Option.{option_map}
use Rattle.std.proofs.lemmas.Option.{slice_get-map, slice_get-get_or, get_or_from_slice_get}
use Rattle.chor_base.specs.Words.{words_of}
use Rattle.std.specs.Prelude.{Some, ◌⊎◌, ◌==◌, if◌then◌else◌, slice_index_or, slice_set, Vec, ◌≢◌}
use Rattle.std.proofs.lemmas.List.{length-replicate, get_or_append_left, get_or-replicate, get_or-set_same, get_or-set_other, get_or_past, ext_get_or}
use Rattle.std.proofs.lemmas.Bool.{cases_lt}
use Rattle.std.proofs.lemmas.Bool.Decides.{nat_tests}
use Rattle.global_types.specs.Views.{Differ}
use Rattle.state_sets.specs.Sets.{Has, row_at, IsSetFor}

zero_or_one : (a : ℕ) → a ≡ 0 → a ≡ 1 → ⊥
zero_or_one a e f = absurd (let g : ◌≡◌ {A = ℕ} 0 1 = sym e ∙ f in cc)

-- what is in a set is one of its states
pub has_within : (marks : List ℕ) (i : ℕ) → Has marks i → i < length marks
has_within marks i h = go (cases_lt i (length marks)) where
  go : (i < length marks) ⊎ (length marks ≤ i) → i < length marks
  go (inl l) = l
  go (inr g) = absurd (zero_or_one (slice_index_or marks i 0) (get_or_past marks i 0 g) h)

pub set_none : (n : ℕ) → IsSetFor n (λ i. ⊥) (replicate n 0)
set_none n = record {
  size = length-replicate {A = ℕ} n 0;
  bytes = λ i h. inl (get_or-replicate n i 0 0 h);
  sound = λ i h. none i h;
  complete = λ i h. absurd h;
}
  where
    none : (i : ℕ) → Has (replicate n 0) i → ⊥
    none i h =
        let within : i < n = let e : length (replicate n 0) ≡ n = length-replicate {A = ℕ} n 0 in let b : i < length (replicate n 0) = has_within (replicate n 0) i h in omega (arith, e, b) in
        zero_or_one (slice_index_or (replicate n 0) i 0) (get_or-replicate n i 0 0 within) h

pub same_or_not : (i j : ℕ) → (i ≡ j) ⊎ (i ≢ j)
same_or_not i j = go (i == j) refl where
  go : (b : Bool) → (i == j) ≡ b → (i ≡ j) ⊎ (i ≢ j)
  go true e = inl (grind (arith, nat_tests))
  go false e = inr (λ h. grind (arith, nat_tests))

-- one state more
pub set_put : (n : ℕ) (P : ℕ → Type 0) (marks : List ℕ) (s : ℕ) → IsSetFor n P marks → s < n → IsSetFor n (λ i. P i ⊎ (s ≡ i)) (slice_set marks s 1)
set_put n P marks s old within = record {
  size = length-set marks s 1 ∙ old.size;
  bytes = λ i h. bytes_at i h (same_or_not i s);
  sound = λ i h. sound_at i h (same_or_not i s);
  complete = λ i h. complete_at i h (same_or_not i s);
}
  where
    here : get_or (slice_set marks s 1) s 0 ≡ 1
    here = get_or-set_same marks s 1 0 (let e = old.size in omega (arith, e, within))

    bytes_at : (i : ℕ) → i < n → (i ≡ s) ⊎ (i ≢ s) → (slice_index_or (slice_set marks s 1) i 0 ≡ 0) ⊎ (slice_index_or (slice_set marks s 1) i 0 ≡ 1)
    bytes_at i h (inl e) = inr (rw e here)
    bytes_at i h (inr d) = rw (get_or-set_other marks s i 1 0 d) (old.bytes i h)

    sound_at : (i : ℕ) → Has (slice_set marks s 1) i → (i ≡ s) ⊎ (i ≢ s) → P i ⊎ (s ≡ i)
    sound_at i h (inl e) = inr (sym e)
    sound_at i h (inr d) = inl (old.sound i (sym (get_or-set_other marks s i 1 0 d) ∙ h))

    complete_at : (i : ℕ) → P i ⊎ (s ≡ i) → (i ≡ s) ⊎ (i ≢ s) → Has (slice_set marks s 1) i
    complete_at i h (inl e) = rw e here
    complete_at i (inl p) (inr d) = get_or-set_other marks s i 1 0 d ∙ old.complete i p
    complete_at i (inr e) (inr d) = absurd (d (sym e))

-- the same set, told by another property
pub set_same : (n : ℕ) (P Q : ℕ → Type 0) (marks : List ℕ) → IsSetFor n P marks → ((i : ℕ) → P i → Q i) → ((i : ℕ) → Q i → P i) → IsSetFor n Q marks
set_same n P Q marks s f g = record { size = s.size; bytes = s.bytes; sound = λ i h. f i (s.sound i h); complete = λ i h. s.complete i (g i h) }

-- all states of another set more
pub set_put_all : (n : ℕ) (P : ℕ → Type 0) (old new others : List ℕ) → IsSetFor n P old → length new ≡ length old
    → ((i : ℕ) → i < length old → slice_index_or new i 0 ≡ (if slice_index_or others i 0 == 1 then 1 else slice_index_or old i 0))
    → ((i : ℕ) → Has others i → i < n)
    → IsSetFor n (λ i. P i ⊎ Has others i) new
set_put_all n P old new others was len is short = record {
  size = len ∙ was.size;
  bytes = λ i h. bytes_at i h (slice_index_or others i 0 == 1) refl;
  sound = λ i h. sound_at i h (let e = was.size in let b : i < length new = has_within new i h in omega (arith, e, b, len)) (slice_index_or others i 0 == 1) refl;
  complete = λ i h. complete_at i h (slice_index_or others i 0 == 1) refl;
}
  where
    within : (i : ℕ) → i < n → i < length old
    within i h = let e = was.size in omega (arith, e, h)

    cell : (i : ℕ) → i < n → (b : Bool) → (slice_index_or others i 0 == 1) ≡ b → slice_index_or new i 0 ≡ (if b then 1 else slice_index_or old i 0)
    cell i h b e = is i (within i h) ∙ ap (λ c. if c then 1 else slice_index_or old i 0) e

    bytes_at : (i : ℕ) → i < n → (b : Bool) → (slice_index_or others i 0 == 1) ≡ b → (slice_index_or new i 0 ≡ 0) ⊎ (slice_index_or new i 0 ≡ 1)
    bytes_at i h true e = inr (cell i h true e)
    bytes_at i h false e = let c : slice_index_or new i 0 ≡ slice_index_or old i 0 = cell i h false e in rw c (was.bytes i h)

    sound_at : (i : ℕ) → Has new i → i < length old → (b : Bool) → (slice_index_or others i 0 == 1) ≡ b → P i ⊎ Has others i
    sound_at i h l true e = inr (grind (arith, nat_tests))
    sound_at i h l false e = inl (was.sound i (sym (cell i (let z = was.size in omega (arith, z, l)) false e) ∙ h))

    complete_at : (i : ℕ) → P i ⊎ Has others i → (b : Bool) → (slice_index_or others i 0 == 1) ≡ b → Has new i
    complete_at i (inl p) true e = cell i (let z = was.size in let q : i < length old = has_within old i (was.complete i p) in omega (arith, z, q)) true e
    complete_at i (inl p) false e = cell i (let z = was.size in let q : i < length old = has_within old i (was.complete i p) in omega (arith, z, q)) false e ∙ was.complete i p
    complete_at i (inr o) true e = cell i (short i o) true e
    complete_at i (inr o) false e = absurd (let f : slice_index_or others i 0 ≡ 1 = o in grind (arith, nat_tests))

-- a property has one set
pub set_alone : (n : ℕ) (P Q : ℕ → Type 0) (u v : List ℕ) → IsSetFor n P u → IsSetFor n Q v → ((i : ℕ) → P i → Q i) → ((i : ℕ) → Q i → P i) → u ≡ v
set_alone n P Q u v p q f g = ext_get_or 0 u v (p.size ∙ sym q.size) (λ i h. at i (let z = p.size in omega (arith, z, h)))
  where
    at : (i : ℕ) → i < n → get_or u i 0 ≡ get_or v i 0
    at i h = go (p.bytes i h) (q.bytes i h) where
      go : (slice_index_or u i 0 ≡ 0) ⊎ (slice_index_or u i 0 ≡ 1) → (slice_index_or v i 0 ≡ 0) ⊎ (slice_index_or v i 0 ≡ 1) → get_or u i 0 ≡ get_or v i 0
      go (inl a) (inl b) = a ∙ sym b
      go (inr a) (inr b) = a ∙ sym b
      go (inl a) (inr b) = absurd (zero_or_one (slice_index_or u i 0) a (p.complete i (g i (q.sound i b))))
      go (inr a) (inl b) = absurd (zero_or_one (slice_index_or v i 0) b (q.complete i (f i (p.sound i a))))

-- where two lists of one length differ
differs_at : (u v : List ℕ) → length u ≡ length v → (u ≡ v → ⊥) → (i : ℕ) × (i < length u) × (get_or u i 0 ≢ get_or v i 0)
differs_at [] [] e d = absurd (d refl)
differs_at [] (y ∷ v) e d = absurd (omega arith)
differs_at (x ∷ u) [] e d = absurd (omega arith)
differs_at (x ∷ u) (y ∷ v) e d = go (same_or_not x y) (λ h. differs_at u v (omega arith) h) where
  go : (x ≡ y) ⊎ (x ≢ y) → ((u ≡ v → ⊥) → (i : ℕ) × (i < length u) × (get_or u i 0 ≢ get_or v i 0)) → (i : ℕ) × (i < length (x ∷ u)) × (get_or (x ∷ u) i 0 ≢ get_or (y ∷ v) i 0)
  go (inr n) hyp = (0, omega arith, n)
  go (inl s) hyp = let t = hyp (λ h. d (ap (λ a. a ∷ u) s ∙ ap (λ l. y ∷ l) h)) in (suc t.0, (let b = t.1 in omega (arith, b)), t.2)

-- different bytes are different sets
pub sets_differ : (n : ℕ) (P Q : ℕ → Type 0) (u v : List ℕ) → IsSetFor n P u → IsSetFor n Q v → (u ≡ v → ⊥) → Differ P Q
sets_differ n P Q u v p q d = go (differs_at u v (p.size ∙ sym q.size) d) where
  at : (i : ℕ) → get_or u i 0 ≢ get_or v i 0 → (slice_index_or u i 0 ≡ 0) ⊎ (slice_index_or u i 0 ≡ 1) → (slice_index_or v i 0 ≡ 0) ⊎ (slice_index_or v i 0 ≡ 1) → (P i × ¬ Q i) ⊎ (Q i × ¬ P i)
  at i m (inl a) (inl b) = absurd (m (a ∙ sym b))
  at i m (inr a) (inr b) = absurd (m (a ∙ sym b))
  at i m (inl a) (inr b) = inr (q.sound i b, λ h. zero_or_one (slice_index_or u i 0) a (p.complete i h))
  at i m (inr a) (inl b) = inl (p.sound i a, λ h. zero_or_one (slice_index_or v i 0) b (q.complete i h))

  go : (i : ℕ) × (i < length u) × (get_or u i 0 ≢ get_or v i 0) → Differ P Q
  go t = let within : t.0 < n = let z = p.size in let b = t.1 in omega (arith, z, b) in (t.0, at t.0 t.2 (p.bytes t.0 within) (q.bytes t.0 within))

-- ---- rows

-- the row of a state that has one
pub row_is : (rows : List (Vec ℕ Global)) (k : ℕ) (row : Vec ℕ Global) → k < length rows → row ≡ slice_index_or rows k row → row_at rows k ≡ row.items
row_is rows k row h is =
    get_or_from_slice_get (words_of rows) k row.items [] (slice_get-map (λ w. w.items) rows k ∙ ap (option_map (λ w. w.items)) (slice_get-get_or rows k row h) ∙ ap (λ w. Some w.items) (sym is))

pub length-words : (rows : List (Vec ℕ Global)) → length (words_of rows) ≡ length rows
length-words [] = refl
length-words (w ∷ ws) = ap suc (length-words ws)

-- a state that something is in the row of has a row
pub row_within : (rows : List (Vec ℕ Global)) (k i : ℕ) → Has (row_at rows k) i → k < length rows
row_within rows k i h = go (cases_lt k (length rows)) where
  nothing : (marks : List ℕ) → marks ≡ [] → Has marks i → ⊥
  nothing marks e m = let z : slice_index_or marks i 0 ≡ 0 = ap (λ (l : List ℕ). slice_index_or l i 0) e in zero_or_one (slice_index_or marks i 0) z m

  go : (k < length rows) ⊎ (length rows ≤ k) → k < length rows
  go (inl l) = l
  go (inr g) = absurd (nothing (row_at rows k) (get_or_past (words_of rows) k [] (let e : length (words_of rows) ≡ length rows = length-words rows in omega (arith, e, g))) h)

-- the test says whether a state is in the set
pub tested_in : (marks : List ℕ) (k : ℕ) (b : Bool) → b ≡ (slice_index_or marks k 0 == 1) → b ≡ true → Has marks k
tested_in marks k b e t = grind (arith, nat_tests)

pub tested_out : (marks : List ℕ) (k : ℕ) (b : Bool) → b ≡ (slice_index_or marks k 0 == 1) → b ≡ false → Has marks k → ⊥
tested_out marks k b e t h = grind (arith, nat_tests)

-- the rows of one state more come in, or that state isn't in the set
pub union_in : (n : ℕ) (marks : List ℕ) (rows : List (Vec ℕ Global)) (k : ℕ) (old new row : List ℕ)
    → row_at rows k ≡ row → Has marks k
    → length new ≡ length old
    → ((i : ℕ) → i < length old → slice_index_or new i 0 ≡ (if slice_index_or row i 0 == 1 then 1 else slice_index_or old i 0))
    → ((i : ℕ) → Has (row_at rows k) i → i < n)
    → IsSetFor n (λ i. (m : ℕ) × (m < k) × Has marks m × Has (row_at rows m) i) old
    → IsSetFor n (λ i. (m : ℕ) × (m < k + 1) × Has marks m × Has (row_at rows m) i) new
union_in n marks rows k old new row at in_set len bytes short was =
    set_same n _ _ new (set_put_all n _ old new row was len bytes (λ i h. short i (subst (λ l. Has l i) (sym at) h))) more less
  where
    more : (i : ℕ) → ((m : ℕ) × (m < k) × Has marks m × Has (row_at rows m) i) ⊎ Has row i → (m : ℕ) × (m < k + 1) × Has marks m × Has (row_at rows m) i
    more i (inl p) = (p.0, (let b = p.1 in omega (arith, b)), p.2, p.3)
    more i (inr h) = (k, omega arith, in_set, subst (λ l. Has l i) (sym at) h)

    less : (i : ℕ) → (m : ℕ) × (m < k + 1) × Has marks m × Has (row_at rows m) i → ((m : ℕ) × (m < k) × Has marks m × Has (row_at rows m) i) ⊎ Has row i
    less i p = go (same_or_not p.0 k) where
      go : (p.0 ≡ k) ⊎ (p.0 ≢ k) → ((m : ℕ) × (m < k) × Has marks m × Has (row_at rows m) i) ⊎ Has row i
      go (inl e) = inr (subst (λ l. Has l i) at (subst (λ m. Has (row_at rows m) i) e p.3))
      go (inr d) = inl (p.0, (let b = p.1 in omega (arith, b, d)), p.2, p.3)

pub union_out : (n : ℕ) (marks : List ℕ) (rows : List (Vec ℕ Global)) (k : ℕ) (old : List ℕ) → (Has marks k → ⊥)
    → IsSetFor n (λ i. (m : ℕ) × (m < k) × Has marks m × Has (row_at rows m) i) old
    → IsSetFor n (λ i. (m : ℕ) × (m < k + 1) × Has marks m × Has (row_at rows m) i) old
union_out n marks rows k old out was = set_same n _ _ old was
    (λ i p. (p.0, (let b = p.1 in omega (arith, b)), p.2, p.3))
    (λ i p. less i p (same_or_not p.0 k))
  where
    less : (i : ℕ) (p : (m : ℕ) × (m < k + 1) × Has marks m × Has (row_at rows m) i) → (p.0 ≡ k) ⊎ (p.0 ≢ k) → (m : ℕ) × (m < k) × Has marks m × Has (row_at rows m) i
    less i p (inl e) = absurd (out (subst (λ m. Has marks m) e p.2))
    less i p (inr d) = (p.0, (let b = p.1 in omega (arith, b, d)), p.2, p.3)

-- all rows are looked at
pub union_whole : (n : ℕ) (marks : List ℕ) (rows : List (Vec ℕ Global)) (k : ℕ) (all : List ℕ) → length rows ≤ k
    → IsSetFor n (λ i. (m : ℕ) × (m < k) × Has marks m × Has (row_at rows m) i) all
    → IsSetFor n (λ i. (m : ℕ) × Has marks m × Has (row_at rows m) i) all
union_whole n marks rows k all whole was = set_same n _ _ all was (λ i p. (p.0, p.2, p.3)) (λ i p. (p.0, (let b = row_within rows p.0 i p.2 in omega (arith, b, whole)), p.1, p.2))

-- ---- one row more

words-push : (rows : List (Vec ℕ Global)) (row : Vec ℕ Global) → words_of (rows ++ row ∷ []) ≡ words_of rows ++ row.items ∷ []
words-push [] row = refl
words-push (w ∷ ws) row = ap (λ l. w.items ∷ l) (words-push ws row)

pub row_kept : (rows : List (Vec ℕ Global)) (row : Vec ℕ Global) (i : ℕ) → i < length rows → row_at (rows ++ row ∷ []) i ≡ row_at rows i
row_kept rows row i h = ap (λ l. slice_index_or l i []) (words-push rows row) ∙ get_or_append_left (words_of rows) (row.items ∷ []) [] i (let e : length (words_of rows) ≡ length rows = length-words rows in omega (arith, e, h))

pub row_last : (rows : List (Vec ℕ Global)) (row : Vec ℕ Global) → row_at (rows ++ row ∷ []) (length rows) ≡ row.items
row_last [] row = refl
row_last (w ∷ ws) row = row_last ws row

pub rows_more : (n : ℕ) (R : ℕ → ℕ → Type 0) (old new : List (Vec ℕ Global)) (k : ℕ) (row : Vec ℕ Global) → length old ≡ k → new ≡ old ++ row ∷ []
    → IsSetFor n (R k) row.items
    → ((i : ℕ) → i < k → IsSetFor n (R i) (row_at old i))
    → record { size : length new ≡ k + 1; row : (i : ℕ) → i < k + 1 → IsSetFor n (R i) (row_at new i) }
rows_more n R old new k row len is own was = rw is (record {
  size = (let e : length (old ++ row ∷ []) ≡ length old + 1 = length-append old (row ∷ []) in omega (arith, e, len));
  row = λ i h. at i h (same_or_not i k);
})
  where
    at : (i : ℕ) → i < k + 1 → (i ≡ k) ⊎ (i ≢ k) → IsSetFor n (R i) (row_at (old ++ row ∷ []) i)
    at i h (inl e) =
        let here : row_at (old ++ row ∷ []) k ≡ row.items = ap (λ m. row_at (old ++ row ∷ []) m) (sym len) ∙ row_last old row in
        subst (λ m. IsSetFor n (R m) (row_at (old ++ row ∷ []) m)) (sym e) (subst (λ l. IsSetFor n (R k) l) (sym here) own)
    at i h (inr d) =
        let l : i < k = omega (arith, h, d) in
        subst (λ m. IsSetFor n (R i) m) (sym (row_kept old row i (let e = len in omega (arith, l, e)))) (was i l)

-- ---- one row written

pub words-set : (rows : List (Vec ℕ Global)) (k : ℕ) (row : Vec ℕ Global) → words_of (slice_set rows k row) ≡ slice_set (words_of rows) k row.items
words-set [] k row = refl
words-set (w ∷ ws) zero row = refl
words-set (w ∷ ws) (suc k) row = ap (λ l. w.items ∷ l) (words-set ws k row)

pub rows_put : (n : ℕ) (R : ℕ → ℕ → Type 0) (first old new : List (Vec ℕ Global)) (k : ℕ) (row : Vec ℕ Global)
    → length old ≡ length first
    → ((i : ℕ) → i < k → IsSetFor n (R i) (row_at old i))
    → ((i : ℕ) → k ≤ i → row_at old i ≡ row_at first i)
    → new ≡ slice_set old k row → k < length old → IsSetFor n (R k) row.items
    → record { size : length new ≡ length first; done : (i : ℕ) → i < k + 1 → IsSetFor n (R i) (row_at new i); left : (i : ℕ) → k + 1 ≤ i → row_at new i ≡ row_at first i }
rows_put n R first old new k row len done left is h own = rw is (record {
  size = length-set old k row ∙ len;
  done = λ i l. done_at i l (same_or_not i k);
  left = λ i l. other i (λ e. absurd (let f : i ≡ k = e in omega (arith, l, f))) ∙ left i (omega (arith, l));
})
  where
    other : (i : ℕ) → i ≢ k → row_at (slice_set old k row) i ≡ row_at old i
    other i d = ap (λ l. slice_index_or l i []) (words-set old k row) ∙ get_or-set_other (words_of old) k i row.items [] d

    here : row_at (slice_set old k row) k ≡ row.items
    here = ap (λ l. slice_index_or l k []) (words-set old k row) ∙ get_or-set_same (words_of old) k row.items [] (let e : length (words_of old) ≡ length old = length-words old in omega (arith, e, h))

    done_at : (i : ℕ) → i < k + 1 → (i ≡ k) ⊎ (i ≢ k) → IsSetFor n (R i) (row_at (slice_set old k row) i)
    done_at i l (inl e) = subst (λ m. IsSetFor n (R m) (row_at (slice_set old k row) m)) (sym e) (subst (λ v. IsSetFor n (R k) v) (sym here) own)
    done_at i l (inr d) = subst (λ v. IsSetFor n (R i) v) (sym (other i d)) (done i (omega (arith, l, d)))

-- what leads to s leads to all that s leads to
pub through_in : (n : ℕ) (own more new : List ℕ) (s : ℕ) → IsSetFor n (Has own) own → IsSetFor n (Has more) more → Has own s
    → length new ≡ length own
    → ((i : ℕ) → i < length own → slice_index_or new i 0 ≡ (if slice_index_or more i 0 == 1 then 1 else slice_index_or own i 0))
    → IsSetFor n (λ j. Has own j ⊎ (Has own s × Has more j)) new
through_in n own more new s was are to len bytes =
    set_same n _ _ new (set_put_all n (Has own) own new more was len bytes (λ i h. let b = has_within more i h in let e = are.size in omega (arith, b, e))) there back
  where
    there : (j : ℕ) → Has own j ⊎ Has more j → Has own j ⊎ (Has own s × Has more j)
    there j (inl a) = inl a
    there j (inr b) = inr (to, b)

    back : (j : ℕ) → Has own j ⊎ (Has own s × Has more j) → Has own j ⊎ Has more j
    back j (inl a) = inl a
    back j (inr b) = inr b.1

pub through_out : (n : ℕ) (own more : List ℕ) (s : ℕ) → IsSetFor n (Has own) own → (Has own s → ⊥) → IsSetFor n (λ j. Has own j ⊎ (Has own s × Has more j)) own
through_out n own more s was out = set_same n _ _ own was (λ j a. inl a) back
  where
    back : (j : ℕ) → Has own j ⊎ (Has own s × Has more j) → Has own j
    back j (inl a) = a
    back j (inr b) = absurd (out b.0)

-- ---- states with a property, one after the other

pub picked_in : (n k : ℕ) (P : ℕ → Type 0) (old : List ℕ) → k < n → P k → IsSetFor n (λ j. (j < k) × P j) old → IsSetFor n (λ j. (j < k + 1) × P j) (slice_set old k 1)
picked_in n k P old h p was = set_same n _ _ _ (set_put n _ old k was h) there back
  where
    there : (j : ℕ) → ((j < k) × P j) ⊎ (k ≡ j) → (j < k + 1) × P j
    there j (inl q) = ((let b = q.0 in omega (arith, b)), q.1)
    there j (inr e) = (omega (arith, e), subst P e p)

    back : (j : ℕ) → (j < k + 1) × P j → ((j < k) × P j) ⊎ (k ≡ j)
    back j q = go (same_or_not j k) where
      go : (j ≡ k) ⊎ (j ≢ k) → ((j < k) × P j) ⊎ (k ≡ j)
      go (inl e) = inr (sym e)
      go (inr d) = inl ((let b = q.0 in omega (arith, b, d)), q.1)

pub picked_out : (n k : ℕ) (P : ℕ → Type 0) (old : List ℕ) → (P k → ⊥) → IsSetFor n (λ j. (j < k) × P j) old → IsSetFor n (λ j. (j < k + 1) × P j) old
picked_out n k P old not was = set_same n _ _ old was (λ j q. ((let b = q.0 in omega (arith, b)), q.1)) back
  where
    back : (j : ℕ) → (j < k + 1) × P j → (j < k) × P j
    back j q = go (same_or_not j k) where
      go : (j ≡ k) ⊎ (j ≢ k) → (j < k) × P j
      go (inl e) = absurd (not (subst P e q.1))
      go (inr d) = ((let b = q.0 in omega (arith, b, d)), q.1)

pub picked_none : (n : ℕ) (P : ℕ → Type 0) (marks : List ℕ) → IsSetFor n (λ i. ⊥) marks → IsSetFor n (λ j. (j < 0) × P j) marks
picked_none n P marks none = set_same n _ _ marks none (λ j b. absurd b) (λ j q. absurd (let b = q.0 in omega (arith, b)))

pub picked_all : (n k : ℕ) (P : ℕ → Type 0) (marks : List ℕ) → n ≤ k → ((j : ℕ) → P j → j < n) → IsSetFor n (λ j. (j < k) × P j) marks → IsSetFor n P marks
picked_all n k P marks h within was = set_same n _ _ marks was (λ j q. q.1) (λ j p. ((let b = within j p in omega (arith, b, h)), p))
