-- Parts put together whose value is that of the last of them, which may depend on what came before.
use Rattle.std.specs.Prelude.{◌≡◌, ℕ, List, ◌∷◌}
use Rattle.chor_base.specs.declared.rule.Place.{Place}
use Rattle.chor_lexer.specs.declared.token.Token.{Token}
use Rattle.source_grammar.specs.Symbols.{Allowed, Part}

-- one part and then another, which is told what the first says
pub record After {A B : Type 0} (R : Part A) (S : A → Part B) (Q : Allowed) (names : List (List ℕ)) (ts : List Token) (y : B) (rest : List Token) : Type 0 where
  pub said : A
  pub mid : List Token
  pub first : R Q names ts said mid
  pub second : S said Q names mid y rest

-- one of two parts
pub data Either {A : Type 0} (R S : Part A) (Q : Allowed) (names : List (List ℕ)) : List Token → A → List Token → Type 0 where
  by_first : {ts rest : List Token} {x : A} → R Q names ts x rest → Either R S Q names ts x rest
  by_second : {ts rest : List Token} {x : A} → S Q names ts x rest → Either R S Q names ts x rest

-- the next token stands at this place
pub record StandsAt (p : Place) (ts : List Token) : Type 0 where
  pub token : Token
  pub rest : List Token
  pub parts : ts ≡ token ∷ rest
  pub place : p ≡ token.place

-- a part that is told where it begins
pub record At {A : Type 0} (S : Place → Part A) (Q : Allowed) (names : List (List ℕ)) (ts : List Token) (x : A) (rest : List Token) : Type 0 where
  pub place : Place
  pub at : StandsAt place ts
  pub is : S place Q names ts x rest
