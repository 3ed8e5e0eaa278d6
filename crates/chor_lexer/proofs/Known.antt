-- The words of a file's tokens have numbers that are in the table.
use Rattle.std.proofs.Common.{◌≡◌, ◌<◌, ℕ, List, [], ◌∷◌, length, subst}
use Rattle.std.specs.List.{AllByRecursion}
use Rattle.std.proofs.lemmas.Option.{slice_get_within}
use Rattle.chor_base.specs.declared.names.NameId.{NameId}
use Rattle.chor_lexer.specs.declared.token.Kind.{Kind}
use Rattle.chor_lexer.specs.declared.token.Kind.TheVariants as kind
use Rattle.chor_lexer.specs.declared.token.Token.{Token}
use Rattle.chor_lexer.specs.Lexeme.{Symbol, word, number, text, mark, last, Lexeme}
use Rattle.chor_lexer.specs.Tokens.{Spells, AreSpelled, AreTokensOf, IsKnown}

-- the kind that stands for a symbol
known_kind : (names texts : List (List ℕ)) (k : Kind) (s : Symbol) → Spells names texts k s → (n : NameId) → k ≡ kind.Word n → n.0 < length names
known_kind names texts (kind.Word m) (word w) h n e =
    let same : m ≡ n = cc in
    subst (λ (i : NameId). i.0 < length names) same (slice_get_within names m.0 w h)
known_kind names texts (kind.Word m) (number k) h n e = absurd h
known_kind names texts (kind.Word m) (text t) h n e = absurd h
known_kind names texts (kind.Word m) (mark k) h n e = absurd h
known_kind names texts (kind.Word m) last h n e = absurd h
known_kind names texts (kind.Number z) s h n e = absurd cc
known_kind names texts (kind.Text t) s h n e = absurd cc
known_kind names texts (kind.Mark m) s h n e = absurd cc
known_kind names texts kind.Last s h n e = absurd cc

known_tokens : (names texts : List (List ℕ)) (ts : List Token) (ls : List Lexeme) → AreSpelled names texts ts ls → AllByRecursion (IsKnown names) ts
known_tokens names texts [] ls h = tt
known_tokens names texts (t ∷ ts) [] h = absurd h
known_tokens names texts (t ∷ ts) (l ∷ ls) h = (known_kind names texts t.kind l.symbol h.0.0, known_tokens names texts ts ls h.1)

pub are_known : (bytes : List ℕ) (old_names old_texts names texts : List (List ℕ)) (ts : List Token) → AreTokensOf bytes old_names old_texts names texts ts → AllByRecursion (IsKnown names) ts
are_known bytes old_names old_texts names texts ts h = known_tokens names texts ts h.lexemes h.spelled
