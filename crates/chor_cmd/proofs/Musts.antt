-- What a row may come to is what it comes to, where its judgements exclude each other and the files are told.
use Rattle.std.proofs.Common.{◌≡◌, inl, inr, ℕ, List, [], ◌∷◌, sym, subst}
use Rattle.chor_base.specs.declared.rule.Refusal.{Refusal}
use Rattle.chor_cmd.specs.declared.status.Status.{Status}
use Rattle.chor_cmd.specs.Rows.{Row, Reads, Judges, Closes, IsRefused}
use Rattle.chor_cmd.specs.Endings.{Goes, IsTooLarge}
use Rattle.chor_cmd.specs.Calls.{Must}

-- what is fine isn't broken, and is broken by one refusal
pub record Excludes (Fine : Type 0) (Broken : Refusal → Type 0) : Type 0 where
  pub one : (r q : Refusal) → Broken r → Broken q → r ≡ q
  pub never : (r : Refusal) → Fine → Broken r → ⊥

abbrev pub IsClear : Row → Type 0
IsClear (Closes Says) = Unit {0}
IsClear (Judges Fine Broken next) = Excludes Fine Broken × IsClear next
IsClear (Reads Fits next) = (bytes : List ℕ) → IsClear (next bytes)

-- what is said of an ending follows from what is said of it more exactly
abbrev pub Grows : ((Status → List ℕ → Type 0) → Type 0) → Type 1
Grows Come = (P Q : Status → List ℕ → Type 0) → ((s : Status) (t : List ℕ) → P s t → Q s t) → Come P → Come Q

module _ (May Has : List ℕ → List ℕ → Type 0) (same : (name b d : List ℕ) → May name b → Has name d → b ≡ d) (Come : (Status → List ℕ → Type 0) → Type 0) (grows : Grows Come) where
  pub must : (row : Row) (names : List (List ℕ)) → IsClear row → Come (Goes May names row) → Must Has Come names row
  must (Closes Says) names clear come = come
  must (Judges Fine Broken next) names clear come = (
    λ r broken. grows (Goes May names (Judges Fine Broken next)) (IsRefused r) (to_refused r broken) come,
    λ fine. must next names clear.1 (grows (Goes May names (Judges Fine Broken next)) (Goes May names next) (to_next fine) come),
  )
    where
      to_refused : (r : Refusal) → Broken r → (s : Status) (t : List ℕ) → Goes May names (Judges Fine Broken next) s t → IsRefused r s t
      to_refused r broken s t (inl (q, b, is)) = subst (λ (x : Refusal). IsRefused x s t) (clear.0.one q r b broken) is
      to_refused r broken s t (inr (fine, g)) = absurd (clear.0.never r fine broken)

      to_next : Fine → (s : Status) (t : List ℕ) → Goes May names (Judges Fine Broken next) s t → Goes May names next s t
      to_next fine s t (inl (q, b, is)) = absurd (clear.0.never q fine b)
      to_next fine s t (inr (f, g)) = g
  must (Reads Fits next) [] clear come = tt
  must (Reads Fits next) (name ∷ names) clear come = λ bytes has. (
    λ long. grows (Goes May (name ∷ names) (Reads Fits next)) (IsTooLarge name) (to_long bytes has long) come,
    λ few. must (next bytes) names (clear bytes) (grows (Goes May (name ∷ names) (Reads Fits next)) (Goes May names (next bytes)) (to_next bytes has few) come),
  )
    where
      to_long : (bytes : List ℕ) → Has name bytes → (Fits bytes → ⊥) → (s : Status) (t : List ℕ) → Goes May (name ∷ names) (Reads Fits next) s t → IsTooLarge name s t
      to_long bytes has long s t (b, may, inl (l, is)) = is
      to_long bytes has long s t (b, may, inr (few, g)) = absurd (long (subst Fits (same name b bytes may has) few))

      to_next : (bytes : List ℕ) → Has name bytes → Fits bytes → (s : Status) (t : List ℕ) → Goes May (name ∷ names) (Reads Fits next) s t → Goes May names (next bytes) s t
      to_next bytes has few s t (b, may, inl (l, is)) = absurd (l (subst Fits (sym (same name b bytes may has)) few))
      to_next bytes has few s t (b, may, inr (f, g)) = subst (λ (y : List ℕ). Goes May names (next y) s t) (same name b bytes may has) g
