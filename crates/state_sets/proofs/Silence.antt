-- Where silent exchanges lead, found state by state.
use Rattle.std.proofs.Common.{ℕ, ◌≡◌, ◌+◌, ◌<◌, ◌≤◌, List, [], ◌∷◌, ◌++◌, refl, sym, subst, ◌∙◌, arith, inl, inr, length}
use Rattle.std.specs.declared.alloc.Global.{Global}
use Rattle.std.specs.Prelude.{◌⊎◌, Vec}
use Rattle.std.proofs.lemmas.Bool.{cases_lt}
use Rattle.state_sets.specs.declared.moves.Move.{Move}
use Rattle.state_sets.specs.Sets.{Has, row_at, IsSetFor}
use Rattle.state_sets.specs.Graph.{HasMove, IsSilentPath, GoesSilently, AreWithin, AreRowsFor, IsThrough}
use Rattle.state_sets.proofs.Sets.{set_same, row_within}

pub go_here : (ms : List Move) (i : ℕ) → GoesSilently ms i i
go_here ms i = ([], refl)

pub go_one : (ms : List Move) (i j : ℕ) → HasMove ms i [] j → GoesSilently ms i j
go_one ms i j h = (j ∷ [], (h, refl))

path_on : (ms : List Move) (i : ℕ) (js : List ℕ) (j : ℕ) (ks : List ℕ) (k : ℕ) → IsSilentPath ms i js j → IsSilentPath ms j ks k → IsSilentPath ms i (js ++ ks) k
path_on ms i [] j ks k p q = subst (λ n. IsSilentPath ms n ks k) (sym p) q
path_on ms i (m ∷ js) j ks k p q = (p.0, path_on ms m js j ks k p.1 q)

pub go_on : (ms : List Move) (i j k : ℕ) → GoesSilently ms i j → GoesSilently ms j k → GoesSilently ms i k
go_on ms i j k p q = (p.0 ++ q.0, path_on ms i p.0 j q.0 k p.1 q.1)

-- ---- rows that have been gone through as far as state k

pub record IsWalked (ms : List Move) (n k : ℕ) (rows : List (Vec ℕ Global)) : Type 0 where
  pub size : length rows ≡ n
  pub row : (i : ℕ) → i < n → IsSetFor n (Has (row_at rows i)) (row_at rows i)
  pub sound : (i j : ℕ) → Has (row_at rows i) j → GoesSilently ms i j
  pub own : (i : ℕ) → i < n → Has (row_at rows i) i
  pub direct : (i j : ℕ) → HasMove ms i [] j → Has (row_at rows i) j
  pub through : (i m j : ℕ) → m < k → Has (row_at rows i) m → Has (row_at rows m) j → Has (row_at rows i) j

pub walk_begins : (ms : List Move) (n : ℕ) (rows : List (Vec ℕ Global)) → AreWithin n ms → AreRowsFor n (λ i j. (i ≡ j) ⊎ HasMove ms i [] j) rows → IsWalked ms n 0 rows
walk_begins ms n rows within are = record {
  size = are.size;
  row = λ i h. set_same n _ _ (row_at rows i) (are.row i h) (λ j p. (are.row i h).complete j p) (λ j p. (are.row i h).sound j p);
  sound = λ i j h. sound_at i j ((are.row i (in_rows i j h)).sound j h);
  own = λ i h. (are.row i h).complete i (inl refl);
  direct = λ i j h. (are.row i (begins i j h)).complete j (inr h);
  through = λ i m j h. absurd (omega (arith, h));
}
  where
    in_rows : (i j : ℕ) → Has (row_at rows i) j → i < n
    in_rows i j h = let b = row_within rows i j h in let e = are.size in omega (arith, b, e)

    begins : (i j : ℕ) → HasMove ms i [] j → i < n
    begins i j h = let b = (within h.move h.among).0 in let e = h.from in omega (arith, b, e)

    sound_at : (i j : ℕ) → (i ≡ j) ⊎ HasMove ms i [] j → GoesSilently ms i j
    sound_at i j (inl e) = subst (λ m. GoesSilently ms i m) e (go_here ms i)
    sound_at i j (inr h) = go_one ms i j h

pub walk_more : (ms : List Move) (n k : ℕ) (old new : List (Vec ℕ Global)) → IsWalked ms n k old → k < n → IsThrough n k old new → IsWalked ms n (k + 1) new
walk_more ms n k old new was h thru = record {
  size = thru.size ∙ was.size;
  row = λ i l. set_same n _ _ (row_at new i) (thru.row i l) (λ j p. (thru.row i l).complete j p) (λ j p. (thru.row i l).sound j p);
  sound = λ i j p. sound_at i j ((thru.row i (in_rows i j p)).sound j p);
  own = λ i l. (thru.row i l).complete i (inl (was.own i l));
  direct = λ i j p. let l : i < n = in_old i j (was.direct i j p) in (thru.row i l).complete j (inl (was.direct i j p));
  through = λ i m j l p q. join i m j l (in_rows i m p) (in_rows m j q) ((thru.row i (in_rows i m p)).sound m p) ((thru.row m (in_rows m j q)).sound j q);
}
  where
    in_rows : (i j : ℕ) → Has (row_at new i) j → i < n
    in_rows i j p = let b = row_within new i j p in let e = thru.size in let f = was.size in omega (arith, b, e, f)

    in_old : (i j : ℕ) → Has (row_at old i) j → i < n
    in_old i j p = let b = row_within old i j p in let f = was.size in omega (arith, b, f)

    sound_at : (i j : ℕ) → Has (row_at old i) j ⊎ (Has (row_at old i) k × Has (row_at old k) j) → GoesSilently ms i j
    sound_at i j (inl p) = was.sound i j p
    sound_at i j (inr p) = go_on ms i k j (was.sound i k p.0) (was.sound k j p.1)

    join : (i m j : ℕ) → m < k + 1 → i < n → m < n → Has (row_at old i) m ⊎ (Has (row_at old i) k × Has (row_at old k) m) → Has (row_at old m) j ⊎ (Has (row_at old m) k × Has (row_at old k) j) → Has (row_at new i) j
    join i m j l li lm p q = (thru.row i li).complete j (go (cases_lt m k) p q) where
      at_k : (m ≡ k) → Has (row_at old i) m ⊎ (Has (row_at old i) k × Has (row_at old k) m) → Has (row_at old i) k
      at_k e (inl a) = subst (λ v. Has (row_at old i) v) e a
      at_k e (inr a) = a.0

      from_k : (m ≡ k) → Has (row_at old m) j ⊎ (Has (row_at old m) k × Has (row_at old k) j) → Has (row_at old k) j
      from_k e (inl b) = subst (λ v. Has (row_at old v) j) e b
      from_k e (inr b) = b.1

      go : (m < k) ⊎ (k ≤ m) → Has (row_at old i) m ⊎ (Has (row_at old i) k × Has (row_at old k) m) → Has (row_at old m) j ⊎ (Has (row_at old m) k × Has (row_at old k) j) → Has (row_at old i) j ⊎ (Has (row_at old i) k × Has (row_at old k) j)
      go (inl b) (inl a) (inl c) = inl (was.through i m j b a c)
      go (inl b) (inl a) (inr c) = inr (was.through i m k b a c.0, c.1)
      go (inl b) (inr a) (inl c) = inr (a.0, was.through k m j b a.1 c)
      go (inl b) (inr a) (inr c) = inr (a.0, c.1)
      go (inr b) a c = let e : m ≡ k = omega (arith, b, l) in inr (at_k e a, from_k e c)

pub walk_ends : (ms : List Move) (n : ℕ) (rows : List (Vec ℕ Global)) → AreWithin n ms → IsWalked ms n n rows → AreRowsFor n (GoesSilently ms) rows
walk_ends ms n rows within was = record {
  size = was.size;
  row = λ i h. set_same n _ _ (row_at rows i) (was.row i h) (λ j p. was.sound i j p) (λ j p. complete_at i h p.0 j p.1);
}
  where
    ends : (i j : ℕ) → HasMove ms i [] j → j < n
    ends i j h = let b = (within h.move h.among).1 in let e = h.to in omega (arith, b, e)

    complete_at : (i : ℕ) → i < n → (js : List ℕ) (k : ℕ) → IsSilentPath ms i js k → Has (row_at rows i) k
    complete_at i h [] k p = subst (λ v. Has (row_at rows i) v) p (was.own i h)
    complete_at i h (j ∷ js) k p = was.through i j k (ends i j p.0) (was.direct i j p.0) (complete_at j (ends i j p.0) js k p.1)
