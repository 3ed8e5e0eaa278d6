-- What holds of each token holds of those that are kept in what the tokens derive.
use Rattle.std.proofs.Common.{◌≡◌, true, List, ◌∷◌, inl, inr, sym, subst}
use Rattle.std.specs.List.{AllByRecursion}
use Rattle.chor_lexer.specs.Lexeme.{Lexeme}
use Rattle.grammar.specs.Classes.{Class, is_of, Says, says}
use Rattle.grammar.specs.Grammars.{Grammar, empty, one, seq, alt, many, more, within, short, after, Value, Rules, nowhere, Derives, is_empty, is_one, in_turn, the_first, the_second, none_of_many, one_of_many, no_more, one_more, with_room, in_short, by_rule}

module _ {N : Type 0} (r : Rules N) (Said : (c : Class) → Says c → Type 0) (Made : (n : N) → r.V n → Type 0) where
  -- what is kept of each token is said so, and what is made by the rules is made so
  abbrev pub Keeps : (g : Grammar N) → Value r.V g → Type 0
  Keeps empty v = Unit {0}
  Keeps (one c) v = Said c v
  Keeps (seq g h) v = Keeps g v.0 × Keeps h v.1
  Keeps (alt g h) (inl x) = Keeps g x
  Keeps (alt g h) (inr y) = Keeps h y
  Keeps (many e n g) vs = AllByRecursion (Keeps g) vs
  Keeps (more e n c g) vs = AllByRecursion (Keeps g) vs
  Keeps (within e n g) v = Keeps g v
  Keeps (short e n g) v = Keeps g v
  Keeps (after c n) v = Made n v

  module _ (Fine : Lexeme → Type 0) (said : (c : Class) (l : Lexeme) → is_of c l.symbol ≡ true → Fine l → Said c (says c l)) (made : (n : N) (v : Value r.V (r.rule n)) → Keeps (r.rule n) v → Made n (r.make n v)) where
    abbrev pub AllFine : List Lexeme → Type 0
    AllFine ts = AllByRecursion Fine ts

    next : {ts us : List Lexeme} (l : Lexeme) → ts ≡ l ∷ us → AllFine ts → Fine l × AllFine us
    next l p a = subst AllFine p a

    pub keeps : {g : Grammar N} {ts us : List Lexeme} {v : Value r.V g} → Derives r nowhere g ts v us → AllFine ts → Keeps g v × AllFine us
    keeps is_empty a = (tt, a)
    keeps (is_one {c = c} l p i) a = let b = next l p a in (said c l i b.0, b.1)
    keeps (in_turn d m) a = let x = keeps d a in let y = keeps m x.1 in ((x.0, y.0), y.1)
    keeps (the_first d) a = keeps d a
    keeps (the_second d) a = keeps d a
    keeps none_of_many a = (tt, a)
    keeps (one_of_many h d m) a = let x = keeps d a in let y = keeps m x.1 in ((x.0, y.0), y.1)
    keeps no_more a = (tt, a)
    keeps (one_more l p i d m) a = let b = next l p a in let x = keeps d b.1 in let y = keeps m x.1 in ((x.0, y.0), y.1)
    keeps (with_room h d) a = keeps d a
    keeps (in_short h d) a = keeps d a
    keeps (by_rule {n = n} {x = x} l p i d s) a = let b = next l p a in let y = keeps d b.1 in (subst (Made n) (sym s) (made n x y.0), y.1)
