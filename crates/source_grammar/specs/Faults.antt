-- Why tokens are no source, or none within the limits (this project's own).
use Rattle.std.specs.Prelude.{◌≡◌, ℕ, List, [], ◌∷◌, ◌++◌, None}
use Rattle.chor_base.specs.declared.rule.Place.{Place}
use Rattle.chor_base.specs.declared.rule.Rule.{Rule}
use Rattle.chor_base.specs.declared.rule.Rule.TheVariants.{P1}
use Rattle.chor_base.specs.declared.rule.Denied.{Denied}
use Rattle.chor_base.specs.declared.rule.Denied.TheVariants.{Refused, Memory}
use Rattle.chor_lexer.specs.declared.token.Token.{Token}
use Rattle.chor_tree.specs.Source.{Source}
use Rattle.source_grammar.specs.Grammar.{FileIs}
use Rattle.source_grammar.specs.Limits.{Keeps, KeepsAll}

-- a viable prefix: some source begins with these tokens, whatever its other words and its limits are
pub record IsViable (names : List (List ℕ)) (ts : List Token) : Type 0 where
  pub words : List (List ℕ)
  pub more : List Token
  pub source : Source
  pub is : FileIs (names ++ words) (ts ++ more) source

-- each source that begins with these tokens exceeds a limit by this rule at this place
abbrev pub AllExceed : List (List ℕ) → List Token → Rule → Place → Type 0
AllExceed names ts rule place =
    (words : List (List ℕ)) (more : List Token) (s : Source) (d : FileIs (names ++ words) (ts ++ more) s)
    → Keeps (λ r p. r ≡ rule → p ≡ place → ⊥) d → ⊥

-- the rule that a token violates after those before it: no source has it there, or each that has it there exceeds a limit by it
pub data IsFaultAt (names : List (List ℕ)) (before : List Token) (t : Token) : Rule → Type 0 where
  unexpected : IsViable names before → (IsViable names (before ++ t ∷ []) → ⊥) → IsFaultAt names before t P1
  excess : {rule : Rule} → IsViable names (before ++ t ∷ []) → AllExceed names (before ++ t ∷ []) rule t.place → IsFaultAt names before t rule

-- the first token at which a rule is violated
pub record IsFirstFault (names : List (List ℕ)) (ts : List Token) (rule : Rule) (place : Place) : Type 0 where
  pub before : List Token
  pub token : Token
  pub rest : List Token
  pub parts : ts ≡ before ++ token ∷ rest
  pub fault : IsFaultAt names before token rule
  pub at : place ≡ token.place
  pub first : (front : List Token) (t : Token) (more : List Token) (r : Rule) → before ≡ front ++ t ∷ more → IsFaultAt names front t r → ⊥

-- a refusal is right; want of memory tells nothing
abbrev pub IsRefusal : List (List ℕ) → List Token → Denied → Type 0
IsRefusal names ts (Refused r) = IsFirstFault names ts r.rule r.place × (r.who ≡ None)
IsRefusal names ts Memory = Unit {0}

-- a source that keeps all limits
pub record IsWithin (names : List (List ℕ)) (ts : List Token) (s : Source) : Type 0 where
  pub is : FileIs names ts s
  pub keeps : KeepsAll is
