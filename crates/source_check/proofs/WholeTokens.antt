-- The tokens of a file end with its end, which stands nowhere else, and their words are in the table.
use Rattle.std.proofs.Common.{◌≡◌, ℕ, Bool, true, false, ◌&&◌, not, List, [], ◌∷◌, ◌++◌, refl, subst}
use Rattle.chor_base.specs.declared.rule.Place.{Place}
use Rattle.chor_lexer.specs.declared.token.Kind.{Kind}
use Rattle.chor_lexer.specs.declared.token.Kind.TheVariants.{Word, Number, Text, Mark, Last}
use Rattle.chor_lexer.specs.declared.token.Token.{Token}
use Rattle.chor_lexer.specs.Lexeme.{Symbol, word, number, text, mark, last, Lexeme, IsLexeme}
use Rattle.chor_lexer.specs.Cut.{IsCut, here, blank, token}
use Rattle.chor_lexer.specs.Tokens.{Spells, AreSpelled, AreTokensOf, is_last, is_ended}
use Rattle.chor_lexer.proofs.Known.{are_known}
use Rattle.source_grammar.specs.Symbols.{AreWhole}

-- a symbol other than the end of the file
abbrev IsOther : Symbol → Type 0
IsOther (word w) = Unit {0}
IsOther (number n) = Unit {0}
IsOther (text t) = Unit {0}
IsOther (mark m) = Unit {0}
IsOther last = ⊥

abbrev AreOther : List Lexeme → Type 0
AreOther [] = Unit {0}
AreOther (l ∷ ls) = IsOther l.symbol × AreOther ls

is_other : (s : Symbol) (w : List ℕ) → IsLexeme s w → IsOther s
is_other (word x) w h = tt
is_other (number n) w h = tt
is_other (text t) w h = tt
is_other (mark m) w h = tt
is_other last w h = elim h [ ]

are_other : {bs rest : List ℕ} {p q : Place} {ls : List Lexeme} → IsCut bs p ls rest q → AreOther ls
are_other here = tt
are_other (blank e b c) = are_other c
are_other (token {w = w} {s = s} n c) = (is_other s w n.longest.is, are_other c)

other_kind : (names texts : List (List ℕ)) (k : Kind) (s : Symbol) → IsOther s → Spells names texts k s → is_last k ≡ false
other_kind names texts (Word n) s o h = refl
other_kind names texts (Number z) s o h = refl
other_kind names texts (Text n) s o h = refl
other_kind names texts (Mark m) s o h = refl
other_kind names texts Last (word w) o h = absurd h
other_kind names texts Last (number n) o h = absurd h
other_kind names texts Last (text t) o h = absurd h
other_kind names texts Last (mark m) o h = absurd h
other_kind names texts Last last o h = absurd o

last_kind : (names texts : List (List ℕ)) (k : Kind) → Spells names texts k last → is_last k ≡ true
last_kind names texts (Word n) h = absurd h
last_kind names texts (Number z) h = absurd h
last_kind names texts (Text n) h = absurd h
last_kind names texts (Mark m) h = absurd h
last_kind names texts Last h = refl

module _ (names texts : List (List ℕ)) (end : Place) where
  are_ended : (front : List Lexeme) (ts : List Token) → AreOther front → AreSpelled names texts ts (front ++ record { symbol = last; place = end } ∷ []) → is_ended ts ≡ true
  are_ended [] [] o h = absurd h
  are_ended [] (t ∷ []) o h = last_kind names texts t.kind h.0.0
  are_ended [] (t ∷ u ∷ ts) o h = absurd h.1
  are_ended (l ∷ ls) [] o h = absurd h
  are_ended (l ∷ []) (t ∷ []) o h = absurd h.1
  are_ended (l ∷ m ∷ ls) (t ∷ []) o h = absurd h.1
  are_ended (l ∷ ls) (t ∷ u ∷ ts) o h = both (is_last t.kind) (is_ended (u ∷ ts)) (other_kind names texts t.kind l.symbol o.0 h.0.0) (are_ended ls (u ∷ ts) o.1 h.1)
    where
      both : (a b : Bool) → a ≡ false → b ≡ true → (not a && b) ≡ true
      both true b e f = absurd cc
      both false b e f = f

pub whole_tokens : (bytes : List ℕ) (names texts : List (List ℕ)) (ts : List Token) → AreTokensOf bytes [] [] names texts ts → AreWhole names ts
whole_tokens bytes names texts ts a = record {
  ended = are_ended names texts a.tokens.next a.tokens.front ts (are_other a.tokens.cut) (subst (λ (ls : List Lexeme). AreSpelled names texts ts ls) a.tokens.whole a.spelled);
  known = are_known bytes [] [] names texts ts a;
}
