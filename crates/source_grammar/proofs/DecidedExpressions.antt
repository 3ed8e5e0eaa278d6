-- An expression is read, or there is a token at which it is refused.
use Rattle.std.proofs.Common.{◌≡◌, ◌⊎◌, inl, inr, ◌<◌, ◌≤◌, suc, zero, ℕ, Bool, true, false, List, [], ◌∷◌, length, Some, None, refl, sym, ◌∙◌, subst, arith, drop, nat_lt, slice_get}
use Rattle.std.proofs.lemmas.Bool.Decides.{nat_tests}
use Rattle.std.proofs.lemmas.List.{append-nil}
use Rattle.chor_base.specs.Expr.{Term}
use Rattle.chor_base.specs.declared.rule.Rule.TheVariants.{P1, P2}
use Rattle.chor_lexer.specs.declared.token.Token.{Token}
use Rattle.chor_lexer.specs.declared.level.Level.TheVariants as level
use Rattle.chor_lexer.specs.Grammar.{IsExpr, IsExprFront, IsLongestFront}
use Rattle.chor_lexer.specs.Turns.{operand, run, Outcome as Turned, Ends, Stops}
use Rattle.chor_lexer.specs.Reading.{IsRead, too_long, no_expr}
use Rattle.chor_lexer.proofs.Derivations.{whole_runs}
use Rattle.chor_lexer.proofs.Viable.{ended, all_is}
use Rattle.chor_lexer.proofs.Longest.{never_front, longest_of}
use Rattle.source_grammar.specs.Symbols.{AreWhole}
use Rattle.source_grammar.specs.Expressions.{Operator, ExprPart}
use Rattle.source_grammar.proofs.Expressions.{expr_part}
use Rattle.source_grammar.proofs.ExpressionAnswers.{expr_reads, refusal_halts}
use Rattle.source_grammar.proofs.DecidedTokens.{Outcome, reads, halts, IsDecided}

abbrev Told : List (List ℕ) → List Token → Type 0
Told names w = ((x : Term) × IsExpr names w x) ⊎ ((x : Term) → IsExpr names w x → ⊥)

-- whether tokens are an expression
told : (names : List (List ℕ)) (w : List Token) → Told names w
told names w = go (run names false (operand level.Or ∷ []) [] w) refl
  where
    go : (o : Turned) → run names false (operand level.Or ∷ []) [] w ≡ o → Told names w
    go (Ends us) e = inl (all_is names w (ended names w (operand level.Or ∷ []) [] us e))
    go (Stops at) e = inr (λ x p. let both : Stops at ≡ Ends (x ∷ []) = sym e ∙ whole_runs names w x p in absurd cc)

get_within : (w : List Token) (n : ℕ) → n < length w → (t : Token) × (slice_get w n ≡ Some t)
get_within [] n h = absurd (omega (arith, h))
get_within (t ∷ w) zero h = (t, refl)
get_within (t ∷ w) (suc n) h = get_within w n (omega (arith, h))

expr_outcome : (names : List (List ℕ)) (ts : List Token) → AreWhole names ts → Outcome ExprPart Operator names ts
expr_outcome names ts whole = let l = longest_of names ts in go l.written l.rest l.front (nat_lt 255 (length l.written)) refl
  where
    fits : (w rest : List Token) (t : Token) → IsLongestFront names w (t ∷ rest) ts → length w ≤ 255 → Told names w → Outcome ExprPart Operator names ts
    fits w rest t f short (inl x) =
        let h : IsRead names (drop 0 ts) x.0 0 (length w) = record { written = w; rest = t ∷ rest; front = f; is = x.1; few = short; counted = omega arith } in
        reads (expr_reads names ts x.0 0 (length w) h)
    fits w rest t f short (inr n) = halts (record { rule = P1; place = t.place; who = None }) (refusal_halts names ts _ (no_expr f short n, refl))

    few : (w rest : List Token) → IsLongestFront names w rest ts → length w ≤ 255 → Outcome ExprPart Operator names ts
    few w [] f short =
        let all : IsExprFront names ts = subst (IsExprFront names) (sym (f.parts ∙ append-nil w)) f.begins in
        absurd (never_front names ts whole.ended all)
    few w (t ∷ rest) f short = fits w rest t f short (told names w)

    go : (w rest : List Token) → IsLongestFront names w rest ts → (b : Bool) → nat_lt 255 (length w) ≡ b → Outcome ExprPart Operator names ts
    go w rest f true e =
        let size : 255 < length w = grind (arith, nat_tests) in
        let at = get_within w 255 size in
        halts (record { rule = P2; place = at.0.place; who = None }) (refusal_halts names ts _ (too_long f size at.1, refl))
    go w rest f false e = few w rest f (grind (arith, nat_tests))

pub decided_expr : (n : ℕ) → IsDecided n ExprPart Operator
decided_expr n = record { part = expr_part; by = λ names ts s w. expr_outcome names ts w }
