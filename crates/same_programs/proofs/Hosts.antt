-- Host functions by their names.
use Rattle.std.proofs.Common.{◌≡◌, ℕ, zero, suc, ◌+◌, ◌==◌, Bool, true, false, cond, List, [], ◌∷◌, ◌++◌, length, refl, sym, ap, ◌∙◌, subst, Some, None, arith}
use Rattle.std.specs.Prelude.{slice_get, bytes_eq, nat_lt, not, Decides, if◌then◌else◌}
use Rattle.std.specs.List.{position_or_len}
use Rattle.std.proofs.lemmas.Bool.Decides.{nat_tests}
use Rattle.std.proofs.lemmas.Slice.Eq.{bytes_eq-Decides}
use Rattle.chor_base.specs.declared.names.NameId.{NameId}
use Rattle.chor_base.specs.Meaning.{meaning_named}
use Rattle.chor_base.specs.Words.{AllDistinct}
use Rattle.chor_host.specs.Functions.{Function, hosts_in, numbered, meaning_of}
use Rattle.chor_host.proofs.Named.{own_bytes}
use Rattle.endpoint_code.specs.declared.endpoints.Endpoints.{Endpoints}
use Rattle.same_programs.specs.Words.{HasDistinctWords}
use Rattle.same_programs.specs.Programs.{SameHosts}

same_bytes : (xs ys : List ℕ) → bytes_eq xs ys ≡ true → xs ≡ ys
same_bytes xs ys h = (subst (λ b. Decides b (xs ≡ ys)) h (bytes_eq-Decides xs ys)).0 refl

-- the word at the first place of a word is that word
found_there : (ws : List (List ℕ)) (w : List ℕ) → nat_lt (position_or_len (bytes_eq w) ws) (length ws) ≡ true → slice_get ws (position_or_len (bytes_eq w) ws) ≡ Some w
found_there [] w h = absurd (let no : nat_lt 0 0 ≡ true = h in grind (arith, nat_tests))
found_there (u ∷ ws) w h = go (bytes_eq w u) refl h (λ k. found_there ws w k)
  where
    go : (b : Bool) → bytes_eq w u ≡ b → nat_lt (cond (not b) (1 + position_or_len (bytes_eq w) ws) 0) (suc (length ws)) ≡ true
        → (nat_lt (position_or_len (bytes_eq w) ws) (length ws) ≡ true → slice_get ws (position_or_len (bytes_eq w) ws) ≡ Some w)
        → slice_get (u ∷ ws) (cond (not (bytes_eq w u)) (1 + position_or_len (bytes_eq w) ws) 0) ≡ Some w
    go true e k more = ap (λ b. slice_get (u ∷ ws) (cond (not b) (1 + position_or_len (bytes_eq w) ws) 0)) e ∙ ap Some (sym (same_bytes w u e))
    go false e k more =
        let n = position_or_len (bytes_eq w) ws in
        let next : 1 + n ≡ suc n = omega arith in
        let lt : nat_lt n (length ws) ≡ true = grind (arith, nat_tests) in
        ap (λ b. slice_get (u ∷ ws) (cond (not b) (1 + n) 0)) e ∙ ap (slice_get (u ∷ ws)) next ∙ more lt

-- the first place of a word is before its place
not_later : (ws : List (List ℕ)) (w : List ℕ) (i : ℕ) → slice_get ws i ≡ Some w → nat_lt (position_or_len (bytes_eq w) ws) (length ws) ≡ true
not_later [] w i h = absurd cc
not_later (u ∷ ws) w zero h =
    let is : u ≡ w = cc in
    let e : bytes_eq w u ≡ true = subst (λ (v : List ℕ). bytes_eq w v ≡ true) (sym is) (own_bytes w) in
    ap (λ b. nat_lt (cond (not b) (1 + position_or_len (bytes_eq w) ws) 0) (suc (length ws))) e ∙ (grind (arith, nat_tests))
not_later (u ∷ ws) w (suc i) h = go (bytes_eq w u) refl (not_later ws w i h)
  where
    go : (b : Bool) → bytes_eq w u ≡ b → nat_lt (position_or_len (bytes_eq w) ws) (length ws) ≡ true → nat_lt (cond (not (bytes_eq w u)) (1 + position_or_len (bytes_eq w) ws) 0) (suc (length ws)) ≡ true
    go true e k = ap (λ b. nat_lt (cond (not b) (1 + position_or_len (bytes_eq w) ws) 0) (suc (length ws))) e ∙ grind (arith, nat_tests)
    go false e k = ap (λ b. nat_lt (cond (not b) (1 + position_or_len (bytes_eq w) ws) 0) (suc (length ws))) e ∙ grind (arith, nat_tests)

-- where a function's name first stands
abbrev place_of : List (List ℕ) → Function → ℕ
place_of names f = position_or_len (bytes_eq f.0) names

same_word : (v w : List ℕ) → Some v ≡ Some w → v ≡ w
same_word v w i = cc

unlike : (v w : List ℕ) → bytes_eq w v ≡ false → v ≡ w → ⊥
unlike v w k i = let both : true ≡ false = sym (subst (λ (u : List ℕ). bytes_eq u v ≡ true) i (own_bytes v)) ∙ k in cc

yes_at : (i j : ℕ) → i ≡ j → (i == j) ≡ true
yes_at i j e = grind (arith, nat_tests)

no_at : (i j : ℕ) → (i ≡ j → ⊥) → (i == j) ≡ false
no_at i j e = grind (arith, nat_tests)

-- the function of a name that stands in the table has the meaning of that word
named_so : (names : List (List ℕ)) → AllDistinct names → (fs : List Function) (x : NameId) (w : List ℕ) → slice_get names x.0 ≡ Some w → meaning_named (hosts_in names fs) x ≡ meaning_of fs w
named_so names d [] x w h = refl
named_so names d (f ∷ fs) x w h = go (nat_lt (place_of names f) (length names)) refl (bytes_eq w f.0) refl (named_so names d fs x w h)
  where
    go : (b : Bool) → nat_lt (place_of names f) (length names) ≡ b → (c : Bool) → bytes_eq w f.0 ≡ c → meaning_named (hosts_in names fs) x ≡ meaning_of fs w
        → meaning_named (numbered (cond (nat_lt (place_of names f) (length names)) (Some (place_of names f)) None) f.1 ++ hosts_in names fs) x ≡ (if bytes_eq w f.0 then Some f.1 else meaning_of fs w)
    go true e true k ih =
        let here : place_of names f ≡ x.0 = d (place_of names f) x.0 f.0 (found_there names f.0 e) (h ∙ ap Some (same_bytes w f.0 k)) in
        ap (λ b. meaning_named (numbered (cond b (Some (place_of names f)) None) f.1 ++ hosts_in names fs) x) e
        ∙ ap (λ b. if b then Some f.1 else meaning_named (hosts_in names fs) x) (yes_at (place_of names f) x.0 here)
        ∙ ap (λ b. if b then Some f.1 else meaning_of fs w) (sym k)
    go true e false k ih =
        let apart : place_of names f ≡ x.0 → ⊥ = λ i. unlike f.0 w k (same_word f.0 w (sym (found_there names f.0 e) ∙ ap (slice_get names) i ∙ h)) in
        ap (λ b. meaning_named (numbered (cond b (Some (place_of names f)) None) f.1 ++ hosts_in names fs) x) e
        ∙ ap (λ b. if b then Some f.1 else meaning_named (hosts_in names fs) x) (no_at (place_of names f) x.0 apart) ∙ ih
        ∙ ap (λ b. if b then Some f.1 else meaning_of fs w) (sym k)
    go false e true k ih = absurd (let both : true ≡ false = sym (not_later names f.0 x.0 (h ∙ ap Some (same_bytes w f.0 k))) ∙ e in cc)
    go false e false k ih =
        ap (λ b. meaning_named (numbered (cond b (Some (place_of names f)) None) f.1 ++ hosts_in names fs) x) e ∙ ih
        ∙ ap (λ b. if b then Some f.1 else meaning_of fs w) (sym k)

pub hosts_same : (e e' : Endpoints) (functions : List Function) → HasDistinctWords e → HasDistinctWords e' → SameHosts e e' (hosts_in e.names functions) (hosts_in e'.names functions)
hosts_same e e' functions d d' f g h = named_so e.names d.names functions f h.word h.here ∙ sym (named_so e'.names d'.names functions g h.word h.there)
