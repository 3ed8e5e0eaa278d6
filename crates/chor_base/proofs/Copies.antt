-- Copies of maps from names that are made entry by entry.
use Rattle.std.proofs.Common.{◌≡◌, ℕ, Bool, true, false, cond, List, [], ◌∷◌, refl, sym, ap, ◌∙◌, Option, Some, None, arith, ◌==◌}
use Rattle.std.specs.List.{All}
use Rattle.std.specs.Option.{option_or, option_map}
use Rattle.std.specs.Map.{lookup}
use Rattle.std.proofs.lemmas.List.Elements.{All-head, All-tail}
use Rattle.std.proofs.lemmas.Bool.Decides.{nat_tests}
use Rattle.chor_base.specs.declared.names.NameId.{NameId}

-- what entries have at a name
abbrev pub value_at : {V : Type 0} → List (NameId × V) → NameId → Option V
value_at es q = lookup (λ k. q.0 == k.0) es

-- Seen by f, the copy has what all entries have, or what is left has it; and each entry that is left is the one of its name
pub record IsCopying {V W : Type 0} (f : V → W) (all copy left : List (NameId × V)) : Type 0 where
  pub alike : (q : NameId) → option_or (option_map f (value_at copy q)) (option_map f (value_at left q)) ≡ option_map f (value_at all q)
  pub found : All (λ e. value_at all e.0 ≡ Some e.1) left

or_none : {W : Type 0} (o : Option W) → option_or o None ≡ o
or_none None = refl
or_none (Some w) = refl

turned : (a b : ℕ) (t : Bool) → (a == b) ≡ t → (b == a) ≡ t
turned a b t h = grind (arith, nat_tests)

same_number : (a b : ℕ) → (a == b) ≡ true → a ≡ b
same_number a b h = grind (arith, nat_tests)

module _ {V W : Type 0} (f : V → W) (all : List (NameId × V)) where
  -- the next entry is copied
  pub copy_goes_on : (old new left : List (NameId × V)) (x : NameId) (v w : V) → IsCopying f all old ((x, v) ∷ left) → f w ≡ f v
      → ((q : NameId) → value_at new q ≡ cond (x.0 == q.0) (Some w) (value_at old q)) → IsCopying f all new left
  copy_goes_on old new left x v w so_far same put = record {
    alike = λ q. go q (x.0 == q.0) refl;
    found = All-tail (λ e. value_at all e.0 ≡ Some e.1) (x, v) left so_far.found;
  }
    where
      at_own : (q : NameId) → x.0 ≡ q.0 → value_at all q ≡ Some v
      at_own q h = ap (λ n. lookup (λ k. n == k.0) all) (sym h) ∙ All-head (λ e. value_at all e.0 ≡ Some e.1) (x, v) left so_far.found

      go : (q : NameId) (t : Bool) → (x.0 == q.0) ≡ t → option_or (option_map f (value_at new q)) (option_map f (value_at left q)) ≡ option_map f (value_at all q)
      go q true h =
          let own : x.0 ≡ q.0 = same_number x.0 q.0 h in
          ap (λ o. option_or (option_map f o) (option_map f (value_at left q))) (put q ∙ ap (λ t. cond t (Some w) (value_at old q)) h)
          ∙ ap Some same ∙ ap (option_map f) (sym (at_own q own))
      go q false h =
          ap (λ o. option_or (option_map f o) (option_map f (value_at left q))) (put q ∙ ap (λ t. cond t (Some w) (value_at old q)) h)
          ∙ ap (λ t. option_or (option_map f (value_at old q)) (option_map f (cond t (Some v) (value_at left q)))) (sym (turned x.0 q.0 false h))
          ∙ so_far.alike q

  -- all is copied
  pub copy_ends : (copy : List (NameId × V)) → IsCopying f all copy [] → (q : NameId) → option_map f (value_at copy q) ≡ option_map f (value_at all q)
  copy_ends copy so_far q = sym (or_none (option_map f (value_at copy q))) ∙ so_far.alike q

-- seen as it is
pub seen_whole : {V : Type 0} (o : Option V) → option_map (λ v. v) o ≡ o
seen_whole None = refl
seen_whole (Some v) = refl
