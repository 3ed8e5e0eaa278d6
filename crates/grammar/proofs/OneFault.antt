-- A first fault has one place.
use Rattle.std.proofs.Common.{◌≡◌, List, [], ◌∷◌, ◌++◌, refl, sym, ap, ◌∙◌, subst}
use Rattle.chor_base.specs.declared.rule.Place.{Place}
use Rattle.chor_base.specs.declared.rule.Rule.{Rule}
use Rattle.chor_lexer.specs.Lexeme.{Lexeme}
use Rattle.grammar.specs.Grammars.{Grammar, Rules}
use Rattle.grammar.specs.Faults.{IsFirstFault}

-- of two places in a list, one is the other, or comes before it
pub data Order (b c : List Lexeme) (t u : Lexeme) : Type 0 where
  same : b ≡ c → t ≡ u → Order b c t u
  before : (more : List Lexeme) → c ≡ b ++ t ∷ more → Order b c t u
  behind : (more : List Lexeme) → b ≡ c ++ u ∷ more → Order b c t u

further : {b c : List Lexeme} {t u : Lexeme} (l : Lexeme) → Order b c t u → Order (l ∷ b) (l ∷ c) t u
further l (same e f) = same (ap (λ (x : List Lexeme). l ∷ x) e) f
further l (before m e) = before m (ap (λ (x : List Lexeme). l ∷ x) e)
further l (behind m e) = behind m (ap (λ (x : List Lexeme). l ∷ x) e)

pub order : (b c : List Lexeme) (t u : Lexeme) (v w : List Lexeme) → b ++ t ∷ v ≡ c ++ u ∷ w → Order b c t u
order [] [] t u v w e = let f : t ≡ u = cc in same refl f
order [] (l ∷ c) t u v w e = let f : t ≡ l = cc in before c (ap (λ (x : Lexeme). x ∷ c) (sym f))
order (l ∷ b) [] t u v w e = let f : l ≡ u = cc in behind b (ap (λ (x : Lexeme). x ∷ b) f)
order (l ∷ b) (m ∷ c) t u v w e =
    let f : l ≡ m = cc in
    let g : b ++ t ∷ v ≡ c ++ u ∷ w = cc in
    subst (λ (x : Lexeme). Order (l ∷ b) (x ∷ c) t u) f (further l (order b c t u v w g))

pub one_place : {N : Type 0} {r : Rules N} {g : Grammar N} {ts : List Lexeme} {e f : Rule} {p q : Place} → IsFirstFault r g ts e p → IsFirstFault r g ts f q → p ≡ q
one_place {N} {r} {g} {ts} {e} {f} {p} {q} a b = go (order a.before b.before a.token b.token a.rest b.rest (sym a.parts ∙ b.parts))
  where
    go : Order a.before b.before a.token b.token → p ≡ q
    go (same i j) = a.at ∙ ap (λ (t : Lexeme). t.place) j ∙ sym b.at
    go (before m i) = absurd (b.first a.before a.token m e i a.fault)
    go (behind m i) = absurd (a.first b.before b.token m f i b.fault)
