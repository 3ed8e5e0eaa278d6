-- The tokens of a file, as readers take them.
use Rattle.std.proofs.Common.{◌≡◌, ◌<◌, ◌≤◌, ◌+◌, ◌^◌, ◌&&◌, ℕ, suc, true, not, List, [], ◌∷◌, length, map, refl, ap, ◌∙◌, arith, length-append}
use Rattle.chor_base.specs.declared.rule.Place.{Place}
use Rattle.chor_lexer.specs.declared.token.Kind.{Kind}
use Rattle.chor_lexer.specs.declared.token.Kind.TheVariants as kind
use Rattle.chor_lexer.specs.declared.token.Token.{Token}
use Rattle.chor_lexer.specs.Lexeme.{Lexeme, last}
use Rattle.chor_lexer.specs.Cut.{IsCut, here, blank, token}
use Rattle.chor_lexer.specs.Tokens.{IsTokens, AreSpelled, AreTokensOf, is_last, is_ended}
use Rattle.chor_lexer.proofs.Fronts.{lexeme_long}
use Rattle.grammar.specs.Classes.{the_end, is_of}
use Rattle.grammar.specs.Faults.{is_closed}
use Rattle.endpoint_reader.specs.declared.input.Input.{Input}
use Rattle.endpoint_reader.specs.Tokens.{symbol_of, lexeme_of}
use Rattle.endpoint_reader.proofs.Spelled.{spelled_there}
use Rattle.endpoint_check.specs.Programs.{lexemes_of, IsInputOf}
use Rattle.source_check.proofs.WholeTokens.{whole_tokens}

-- ---- there are no more tokens than bytes, but for the end

few_cut : {bs rest : List ℕ} {p q : Place} {ls : List Lexeme} → IsCut bs p ls rest q → length ls + length rest ≤ length bs
few_cut here = omega arith
few_cut (blank {w = w} {mid = mid} e b c) = omega (arith, few_cut c, ap length e, length-append w mid)
few_cut (token {w = w} {mid = mid} {s = s} n c) = omega (arith, few_cut c, lexeme_long s w n.longest.is, ap length n.longest.parts, length-append w mid)

few_tokens : (bytes : List ℕ) (ls : List Lexeme) → IsTokens bytes ls → length ls ≤ length bytes + 1
few_tokens bytes ls t =
    let end : Lexeme = record { symbol = last; place = t.next } in
    let n : length t.front + length {A = ℕ} [] ≤ length bytes = few_cut t.cut in
    omega (arith, n, ap length t.whole, length-append t.front (end ∷ []))

as_many : (names texts : List (List ℕ)) (ts : List Token) (ls : List Lexeme) → AreSpelled names texts ts ls → length ts ≡ length ls
as_many names texts [] [] h = refl
as_many names texts [] (l ∷ ls) h = absurd h
as_many names texts (t ∷ ts) [] h = absurd h
as_many names texts (t ∷ ts) (l ∷ ls) h = ap (λ n. suc n) (as_many names texts ts ls h.1)

-- ---- they end with the end

end_same : (i : Input) (k : Kind) → is_of the_end (symbol_of i k) ≡ is_last k
end_same i (kind.Word n) = refl
end_same i (kind.Number z) = refl
end_same i (kind.Text n) = refl
end_same i (kind.Mark m) = refl
end_same i kind.Last = refl

closed_same : (i : Input) (ts : List Token) → is_closed (map (lexeme_of i) ts) ≡ is_ended ts
closed_same i [] = refl
closed_same i (t ∷ []) = end_same i t.kind
closed_same i (t ∷ u ∷ ts) = λ j. not (end_same i t.kind j) && closed_same i (u ∷ ts) j

-- ---- so they can be read

pub record IsInput (bytes : List ℕ) : Type 0 where
  pub input : Input
  pub tokens : IsInputOf bytes input
  pub closed : is_closed (lexemes_of input) ≡ true

pub input_of : (bytes : List ℕ) (names texts : List (List ℕ)) (ts : List Token) → length bytes ≤ 2 ^ 24 → AreTokensOf bytes [] [] names texts ts → IsInput bytes
input_of bytes names texts ts small are =
    let whole = whole_tokens bytes names texts ts are in
    let short : length ts < 2 ^ 32 = omega (arith, as_many names texts ts are.lexemes are.spelled, few_tokens bytes are.lexemes are.tokens) in
    let i : Input = record {
      tokens = record { ref_ptr = (0, 0); now = record { items = ts; ended = whole.ended; short = short } };
      names = record { ref_ptr = (0, 0); now = names };
      texts = record { ref_ptr = (0, 0); now = texts };
      known = spelled_there names texts ts are.lexemes are.spelled;
    } in
    record { input = i; tokens = are; closed = closed_same i ts ∙ whole.ended }
