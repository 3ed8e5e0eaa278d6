-- Names of functions in a table.
use Rattle.std.proofs.Common.{◌≡◌, ℕ, ℤ, zero, suc, ◌&&◌, ◌||◌, ◌==◌, Bool, true, false, List, [], ◌∷◌, ◌++◌, map, Some, refl, sym, ap, ◌∙◌, arith}
use Rattle.std.specs.Prelude.{slice_get, bytes_eq}
use Rattle.std.specs.List.{list_any}
use Rattle.std.proofs.lemmas.Bool.Decides.{nat_tests}
use denote.Param.Members.{Mut}
use Rattle.chor_base.specs.Words.{with_word}
use Rattle.chor_base.proofs.WordTables.{put_absent}
use Rattle.chor_host.specs.declared.function.HostFn.{HostFn}
use Rattle.chor_host.specs.Functions.{Function, names_of, function_of, is_named}

pub own_bytes : (w : List ℕ) → bytes_eq w w ≡ true
own_bytes [] = refl
own_bytes (x ∷ w) = ap (λ b. (x == x) && b) (own_bytes w) ∙ grind (arith, nat_tests)

or_true : (b : Bool) → (b || true) ≡ true
or_true true = refl
or_true false = refl

word_at : (ws : List (List ℕ)) (w : List ℕ) (n : ℕ) → slice_get ws n ≡ Some w → list_any (bytes_eq w) ws ≡ true
word_at [] w n h = absurd cc
word_at (v ∷ ws) w zero h = let e : v ≡ w = cc in rw (e, own_bytes w) refl
word_at (v ∷ ws) w (suc n) h = ap (λ b. bytes_eq w v || b) (word_at ws w n h) ∙ or_true (bytes_eq w v)

-- a name that stands at a place is there
pub named_at : (fs : List Function) (w : List ℕ) (n : ℕ) → slice_get (names_of fs) n ≡ Some w → is_named fs w ≡ true
named_at fs w n h = word_at (names_of fs) w n h

module _ {X : Type 0} {g : Mut X (ℤ × (ℤ × Unit {0})) ℤ} where
  pub functions_more : (items : List (HostFn X g)) (f : HostFn X g) → map function_of (items ++ f ∷ []) ≡ map function_of items ++ function_of f ∷ []
  functions_more [] f = refl
  functions_more (h ∷ items) f = ap (λ fs. function_of h ∷ fs) (functions_more items f)

  names_more : (items : List (HostFn X g)) (f : HostFn X g) → names_of (map function_of (items ++ f ∷ [])) ≡ names_of (map function_of items) ++ f.name ∷ []
  names_more [] f = refl
  names_more (h ∷ items) f = ap (λ ws. h.name ∷ ws) (names_more items f)

  -- after one more name and its function, the names are those of the functions
  pub named_more : (names : List (List ℕ)) (items : List (HostFn X g)) (f : HostFn X g) → names ≡ names_of (map function_of items) → is_named (map function_of items) f.name ≡ false → with_word names f.name ≡ names_of (map function_of (items ++ f ∷ []))
  named_more names items f e none =
      put_absent names f.name (ap (list_any (bytes_eq f.name)) e ∙ none) ∙ ap (λ ws. ws ++ f.name ∷ []) e ∙ sym (names_more items f)
