-- Tokens by their numbers are the lexemes that they are spelled by.
use Rattle.std.proofs.Common.{◌≡◌, ◌<◌, ◌&&◌, ℕ, ℤ, Bool, true, false, List, [], ◌∷◌, Some, length, refl, ap, map, arith}
use Rattle.std.proofs.lemmas.Bool.Decides.{nat_tests}
use Rattle.std.specs.Prelude.{unsigned_abs, slice_get, nat_lt}
use Rattle.std.proofs.lemmas.Option.{get_or_from_slice_get, slice_get_within}
use Rattle.chor_lexer.specs.declared.token.Kind.{Kind}
use Rattle.chor_lexer.specs.declared.token.Kind.TheVariants as kind
use Rattle.chor_lexer.specs.declared.token.Token.{Token}
use Rattle.chor_lexer.specs.Lexeme.{Symbol, word, number, text, mark, last, Lexeme}
use Rattle.chor_lexer.specs.Tokens.{Spells, AreSpelled}
use Rattle.endpoint_reader.specs.declared.input.Input.{Input}
use Rattle.endpoint_reader.specs.There.{is_natural, kind_there, all_there}
use Rattle.endpoint_reader.specs.Tokens.{symbol_of, lexeme_of}

symbol : (i : Input) (k : Kind) (s : Symbol) → Spells i.names.now i.texts.now k s → symbol_of i k ≡ s
symbol i (kind.Word n) (word w) h = ap word (get_or_from_slice_get i.names.now n.0 w [] h)
symbol i (kind.Number z) (number n) h = ap (λ (y : ℤ). number (unsigned_abs y)) h
symbol i (kind.Text n) (text t) h = ap text (get_or_from_slice_get i.texts.now n t [] h)
symbol i (kind.Mark m) (mark k) h = ap mark h
symbol i kind.Last last h = refl
symbol i _ _ h = absurd h

pub spelled : (i : Input) (ts : List Token) (ls : List Lexeme) → AreSpelled i.names.now i.texts.now ts ls → map (lexeme_of i) ts ≡ ls
spelled i [] [] h = refl
spelled i [] (l ∷ ls) h = absurd h
spelled i (t ∷ ts) [] h = absurd h
spelled i (t ∷ ts) (l ∷ ls) h =
    let s : symbol_of i t.kind ≡ l.symbol = symbol i t.kind l.symbol h.0.0 in
    let a : lexeme_of i t ≡ l = λ j. record { symbol = s j; place = h.0.1 j } in
    let b : map (lexeme_of i) ts ≡ ls = spelled i ts ls h.1 in
    cc

-- so their words and texts have their numbers in the tables
inside : (table : List (List ℕ)) (n : ℕ) (w : List ℕ) → slice_get table n ≡ Some w → nat_lt n (length table) ≡ true
inside table n w e = let h : n < length table = slice_get_within table n w e in grind (arith, nat_tests)

kind_is_there : (names texts : List (List ℕ)) (k : Kind) (s : Symbol) → Spells names texts k s → kind_there names texts k ≡ true
kind_is_there names texts (kind.Word n) (word w) h = inside names n.0 w h
kind_is_there names texts (kind.Text n) (text t) h = inside texts n t h
kind_is_there names texts (kind.Number z) (number n) h = ap is_natural h
kind_is_there names texts (kind.Mark m) s h = refl
kind_is_there names texts kind.Last s h = refl
kind_is_there names texts _ _ h = absurd h

both : (a b : Bool) → a ≡ true → b ≡ true → (a && b) ≡ true
both true b e h = h
both false b e h = absurd cc

pub spelled_there : (names texts : List (List ℕ)) (ts : List Token) (ls : List Lexeme) → AreSpelled names texts ts ls → all_there names texts ts ≡ true
spelled_there names texts [] [] h = refl
spelled_there names texts [] (l ∷ ls) h = absurd h
spelled_there names texts (t ∷ ts) [] h = absurd h
spelled_there names texts (t ∷ ts) (l ∷ ls) h = both (kind_there names texts t.kind) (all_there names texts ts) (kind_is_there names texts t.kind l.symbol h.0.0) (spelled_there names texts ts ls h.1)
