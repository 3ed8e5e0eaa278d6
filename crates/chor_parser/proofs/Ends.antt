-- The end of a file.
use Rattle.std.specs.Prelude.{IsTrue}
use Rattle.std.proofs.Common.{suc, zero, ◌≡◌, ℕ, Bool, true, false, ◌&&◌, not, List, [], ◌∷◌, drop, ap, refl, ◌∙◌, subst}
use Rattle.chor_lexer.specs.declared.token.Kind.{Kind}
use Rattle.chor_lexer.specs.declared.token.Kind.TheVariants.{Last}
use Rattle.chor_lexer.specs.declared.token.Token.{Token}
use Rattle.chor_lexer.specs.Tokens.{is_last, is_ended}
use Rattle.source_grammar.specs.Grammar.{EndIs}
use Rattle.source_reader.specs.Reading.{Ends}

-- nothing follows the end
alone : (t : Token) (ts : List Token) → is_ended (t ∷ ts) ≡ true → t.kind ≡ Last → ts ≡ []
alone t [] e k = refl
alone t (u ∷ ts) e k = let no : (not (is_last t.kind) && is_ended (u ∷ ts)) ≡ false = ap (λ (x : Kind). not (is_last x) && is_ended (u ∷ ts)) k in absurd cc

-- what is left of tokens that are ended is ended
both_true : (a b : Bool) → (a && b) ≡ true → b ≡ true
both_true true b e = e
both_true false b e = absurd cc

left_ended : (n : ℕ) (ts : List Token) (t : Token) (rest : List Token) → is_ended ts ≡ true → drop n ts ≡ t ∷ rest → is_ended (t ∷ rest) ≡ true
left_ended zero ts t rest e d = subst (λ (l : List Token). is_ended l ≡ true) d e
left_ended (suc n) [] t rest e d = absurd cc
left_ended (suc n) (u ∷ []) t rest e d = left_ended n [] t rest (absurd_end n t rest d) d
  where
    absurd_end : (n : ℕ) (t : Token) (rest : List Token) → drop n [] ≡ t ∷ rest → is_ended [] ≡ true
    absurd_end zero t rest d = absurd cc
    absurd_end (suc n) t rest d = absurd cc
left_ended (suc n) (u ∷ v ∷ ts) t rest e d = left_ended n (v ∷ ts) t rest (both_true (not (is_last u.kind)) (is_ended (v ∷ ts)) e) d

pub end_is : (tokens : List Token) (n : ℕ) → IsTrue (is_ended tokens) → Ends (drop n tokens) → EndIs (drop n tokens)
end_is tokens n e h =
    let ended : is_ended (h.token ∷ h.rest) ≡ true = left_ended n tokens h.token h.rest e h.parts in
    let none : h.rest ≡ [] = alone h.token h.rest ended h.last in
    record { token = h.token; alone = h.parts ∙ ap (λ (l : List Token). h.token ∷ l) none; last = h.last }
