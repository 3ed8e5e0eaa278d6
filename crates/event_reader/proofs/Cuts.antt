-- Where a line is cut.
use Rattle.std.proofs.Common.{◌≡◌, ◌≤◌, ◌==◌, ℕ, not, Bool, true, false, List, [], ◌∷◌, ◌++◌, length, take, drop, refl, sym, ap, subst}
use Rattle.std.specs.List.{prefix_len}
use Rattle.std.proofs.lemmas.Bool.Decides.{Decides-eqb}
use Rattle.chor_lexer.proofs.Runs.{run_of}
use Rattle.event_reader.specs.Fields.{IsFree, BeginsWith}

pub front_len : (c : ℕ) (bs : List ℕ) → prefix_len (λ b. not (b == c)) bs ≤ length bs
front_len c bs = (run_of (λ b. not (b == c)) bs).within

pub front_free : (c : ℕ) (bs : List ℕ) → IsFree c (take (prefix_len (λ b. not (b == c)) bs) bs)
front_free c bs = (run_of (λ b. not (b == c)) bs).passes

not_free : (b c : ℕ) → not (b == c) ≡ false → b ≡ c
not_free b c h = go (b == c) refl h
  where
    go : (v : Bool) → (b == c) ≡ v → not v ≡ false → b ≡ c
    go true e n = (Decides-eqb b c).0 e
    go false e n = absurd cc

pub front_ends : (c : ℕ) (bs : List ℕ) → BeginsWith c (drop (prefix_len (λ b. not (b == c)) bs) bs)
front_ends c bs b rest e = not_free b c ((run_of (λ k. not (k == c)) bs).ends b rest e)

-- a byte isn't free of itself
own_byte : (c : ℕ) → not (c == c) ≡ true → ⊥
own_byte c h = let e : (c == c) ≡ true = (Decides-eqb c c).1 refl in let n : not (c == c) ≡ false = ap not e in absurd cc

-- bytes without the separator have no parts
pub uncut : (c : ℕ) (bs a r : List ℕ) → IsFree c bs → bs ≡ a ++ c ∷ r → ⊥
uncut c bs a r f e = go a (subst (IsFree c) e f)
  where
    go : (a : List ℕ) → IsFree c (a ++ c ∷ r) → ⊥
    go [] g = own_byte c g.0
    go (x ∷ a) g = go a g.1

-- the same front, and the same rest
pub record SameParts (a b r s : List ℕ) : Type 0 where
  pub front : a ≡ b
  pub rest : r ≡ s

-- a separator that stands in neither front cuts in one place
pub one_cut : (c : ℕ) (a b r s : List ℕ) → IsFree c a → IsFree c b → a ++ c ∷ r ≡ b ++ c ∷ s → SameParts a b r s
one_cut c [] [] r s f g e = record { front = refl; rest = cc }
one_cut c [] (y ∷ b) r s f g e = let q : c ≡ y = cc in absurd (own_byte c (subst (λ k. not (k == c) ≡ true) (sym q) g.0))
one_cut c (x ∷ a) [] r s f g e = let q : x ≡ c = cc in absurd (own_byte c (subst (λ k. not (k == c) ≡ true) q f.0))
one_cut c (x ∷ a) (y ∷ b) r s f g e =
    let h : x ≡ y = cc in
    let t : a ++ c ∷ r ≡ b ++ c ∷ s = cc in
    let m = one_cut c a b r s f.1 g.1 t in
    record { front = cons_same x y a b h m.front; rest = m.rest }
  where
    cons_same : (x y : ℕ) (a b : List ℕ) → x ≡ y → a ≡ b → x ∷ a ≡ y ∷ b
    cons_same x y a b p q = cc

-- the same, where what follows is nothing or begins with the separator
pub one_field : (c : ℕ) (a b r s : List ℕ) → IsFree c a → IsFree c b → BeginsWith c r → BeginsWith c s → a ++ r ≡ b ++ s → SameParts a b r s
one_field c [] [] r s f g h k e = record { front = refl; rest = e }
one_field c [] (y ∷ b) r s f g h k e = let q = h y (b ++ s) e in absurd (own_byte c (subst (λ k. not (k == c) ≡ true) q g.0))
one_field c (x ∷ a) [] r s f g h k e = let q = k x (a ++ r) (sym e) in absurd (own_byte c (subst (λ k. not (k == c) ≡ true) q f.0))
one_field c (x ∷ a) (y ∷ b) r s f g h k e =
    let p : x ≡ y = cc in
    let t : a ++ r ≡ b ++ s = cc in
    let m = one_field c a b r s f.1 g.1 h k t in
    record { front = cons_same x y a b p m.front; rest = m.rest }
  where
    cons_same : (x y : ℕ) (a b : List ℕ) → x ≡ y → a ≡ b → x ∷ a ≡ y ∷ b
    cons_same x y a b p q = cc
