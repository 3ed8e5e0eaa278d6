-- Operands of expressions, by their first tokens.
use Rattle.std.proofs.Common.{◌≡◌, ◌<◌, ◌-◌, inl, inr, ℕ, Bool, true, false, ◌||◌, List, [], ◌∷◌, Option, Some, None, IfNone, codes, refl, sym, ap, ◌∙◌, subst}
use Rattle.chor_base.specs.declared.rule.Rule.TheVariants.{E4}
use Rattle.chor_base.specs.declared.rule.Denied.{Denied}
use Rattle.chor_base.specs.declared.expr.UnOp.{UnOp}
use Rattle.chor_base.specs.declared.expr.UnOp.TheVariants.{Neg, Not}
use Rattle.chor_lexer.specs.declared.mark.Mark.TheVariants as sign
use Rattle.chor_lexer.specs.Lexeme.{word as a_word_of, Lexeme}
use Rattle.grammar.specs.Classes.{Class, a_mark, a_word, a_name, a_number, a_text, is_of, is_among}
use Rattle.grammar.specs.Grammars.{seq}
use Rattle.grammar.specs.Readers.{Stands, Lacks, Begins, Misses, ReadsIn, HaltsIn, LeadsIn}
use Rattle.grammar.proofs.Reading.{begun_by, rule_comes, token_comes, comes_first, comes_second, rule_misses, token_misses, misses_both, other_stands, this_token}
use Rattle.grammar.proofs.Windows.{on_in, reads_on_in, halts_on_in, token_in, rule_in, first_in, second_in, first_halts_in, after_in}
use Rattle.endpoint_grammar.specs.Written.{Phrase, Leaf, Unary}
use Rattle.endpoint_grammar.specs.Grammar.{operand, parens, un, disjunction, mark}
use Rattle.endpoint_grammar.specs.Values.{rules, leaf_of, phrase}
use Rattle.endpoint_reader.specs.declared.input.Input.{Input}
use Rattle.endpoint_reader.specs.declared.operand.Opening.{Opening}
use Rattle.endpoint_reader.specs.declared.operand.Opening.TheVariants as opening
use Rattle.endpoint_reader.specs.Phrases.{TellsIn, IsLeaf, a_number_is, a_text_is, true_is, false_is, a_name_is, Opens}

minus_comes : {ts us : List Lexeme} {l : Lexeme} → Stands (a_mark sign.Minus) l ts us → Begins rules un ts
minus_comes s = begun_by _ (comes_first _ (rule_comes _ operand s))

not_comes : {ts us : List Lexeme} {l : Lexeme} → Stands (a_mark sign.Not) l ts us → Begins rules un ts
not_comes s = begun_by _ (comes_second _ (rule_misses _ (other_stands rules refl s)) (comes_first _ (rule_comes _ operand s)))

parens_comes : {ts us : List Lexeme} {l : Lexeme} → Stands (a_mark sign.OpenParen) l ts us → Begins rules un ts
parens_comes s = begun_by _ (comes_second _ (rule_misses _ (other_stands rules refl s)) (comes_second _ (rule_misses _ (other_stands rules refl s)) (comes_first _ (rule_comes _ parens s))))

number_comes : {ts us : List Lexeme} {l : Lexeme} → Stands (a_number) l ts us → Begins rules un ts
number_comes s = begun_by _ (comes_second _ (rule_misses _ (other_stands rules refl s)) (comes_second _ (rule_misses _ (other_stands rules refl s)) (comes_second _ (rule_misses _ (other_stands rules refl s)) (comes_first _ (token_comes _ s)))))

text_comes : {ts us : List Lexeme} {l : Lexeme} → Stands (a_text) l ts us → Begins rules un ts
text_comes s = begun_by _ (comes_second _ (rule_misses _ (other_stands rules refl s)) (comes_second _ (rule_misses _ (other_stands rules refl s)) (comes_second _ (rule_misses _ (other_stands rules refl s)) (comes_second _ (token_misses _ (other_stands rules refl s)) (comes_first _ (token_comes _ s))))))

true_comes : {ts us : List Lexeme} {l : Lexeme} → Stands (a_word (codes "true")) l ts us → Begins rules un ts
true_comes s = begun_by _ (comes_second _ (rule_misses _ (other_stands rules refl s)) (comes_second _ (rule_misses _ (other_stands rules refl s)) (comes_second _ (rule_misses _ (other_stands rules refl s)) (comes_second _ (token_misses _ (other_stands rules refl s)) (comes_second _ (token_misses _ (other_stands rules refl s)) (comes_first _ (token_comes _ s)))))))

false_comes : {ts us : List Lexeme} {l : Lexeme} → Stands (a_word (codes "false")) l ts us → Begins rules un ts
false_comes s = begun_by _ (comes_second _ (rule_misses _ (other_stands rules refl s)) (comes_second _ (rule_misses _ (other_stands rules refl s)) (comes_second _ (rule_misses _ (other_stands rules refl s)) (comes_second _ (token_misses _ (other_stands rules refl s)) (comes_second _ (token_misses _ (other_stands rules refl s)) (comes_second _ (token_misses _ (other_stands rules refl s)) (comes_first _ (token_comes _ s))))))))

name_comes : {ts us : List Lexeme} {l : Lexeme} → Stands (a_name) l ts us → Begins rules un ts
name_comes s = begun_by _ (comes_second _ (rule_misses _ (other_stands rules refl s)) (comes_second _ (rule_misses _ (other_stands rules refl s)) (comes_second _ (rule_misses _ (other_stands rules refl s)) (comes_second _ (token_misses _ (other_stands rules refl s)) (comes_second _ (token_misses _ (other_stands rules refl s)) (comes_second _ (token_misses _ (other_stands rules refl s)) (comes_second _ (token_misses _ (other_stands rules refl s)) (token_comes _ s))))))))

pub into_minus : {k : ℕ} {ts us : List Lexeme} {l : Lexeme} → 0 < k → Stands (a_mark sign.Minus) l ts us → LeadsIn rules E4 (Some k) un ts (Some (k - 1)) (un) us (λ y. inl (leaf_of y))
into_minus h s = (on_in _ _ (first_in _ _ (rule_comes _ operand s)) (rule_in _ _ operand h s))

pub into_not : {k : ℕ} {ts us : List Lexeme} {l : Lexeme} → 0 < k → Stands (a_mark sign.Not) l ts us → LeadsIn rules E4 (Some k) un ts (Some (k - 1)) (un) us (λ y. inr (inl (leaf_of y)))
into_not h s = (on_in _ _ (second_in _ _ (rule_misses _ (other_stands rules refl s))) (on_in _ _ (first_in _ _ (rule_comes _ operand s)) (rule_in _ _ operand h s)))

pub into_parens : {k : ℕ} {ts us : List Lexeme} {l : Lexeme} → 0 < k → Stands (a_mark sign.OpenParen) l ts us → LeadsIn rules E4 (Some k) un ts (Some (k - 1)) (seq disjunction (mark sign.CloseParen)) us (λ y. inr (inr (inl (phrase y.0))))
into_parens h s = (on_in _ _ (second_in _ _ (rule_misses _ (other_stands rules refl s))) (on_in _ _ (second_in _ _ (rule_misses _ (other_stands rules refl s))) (on_in _ _ (first_in _ _ (rule_comes _ parens s)) (rule_in _ _ parens h s))))

number_told : {k : ℕ} {ts us : List Lexeme} {l : Lexeme} → 0 < k → Stands (a_number) l ts us → TellsIn un leaf_of k ts (Leaf l.symbol) (k - 1) us
number_told h s = record { value = _; reads = (reads_on_in _ _ (second_in _ _ (rule_misses _ (other_stands rules refl s))) (reads_on_in _ _ (second_in _ _ (rule_misses _ (other_stands rules refl s))) (reads_on_in _ _ (second_in _ _ (rule_misses _ (other_stands rules refl s))) (reads_on_in _ _ (first_in _ _ (token_comes _ s)) (token_in _ _ h s))))); is = refl }

text_told : {k : ℕ} {ts us : List Lexeme} {l : Lexeme} → 0 < k → Stands (a_text) l ts us → TellsIn un leaf_of k ts (Leaf l.symbol) (k - 1) us
text_told h s = record { value = _; reads = (reads_on_in _ _ (second_in _ _ (rule_misses _ (other_stands rules refl s))) (reads_on_in _ _ (second_in _ _ (rule_misses _ (other_stands rules refl s))) (reads_on_in _ _ (second_in _ _ (rule_misses _ (other_stands rules refl s))) (reads_on_in _ _ (second_in _ _ (token_misses _ (other_stands rules refl s))) (reads_on_in _ _ (first_in _ _ (token_comes _ s)) (token_in _ _ h s)))))); is = refl }

true_told : {k : ℕ} {ts us : List Lexeme} {l : Lexeme} → 0 < k → Stands (a_word (codes "true")) l ts us → TellsIn un leaf_of k ts (Leaf (a_word_of (codes "true"))) (k - 1) us
true_told h s = record { value = _; reads = (reads_on_in _ _ (second_in _ _ (rule_misses _ (other_stands rules refl s))) (reads_on_in _ _ (second_in _ _ (rule_misses _ (other_stands rules refl s))) (reads_on_in _ _ (second_in _ _ (rule_misses _ (other_stands rules refl s))) (reads_on_in _ _ (second_in _ _ (token_misses _ (other_stands rules refl s))) (reads_on_in _ _ (second_in _ _ (token_misses _ (other_stands rules refl s))) (reads_on_in _ _ (first_in _ _ (token_comes _ s)) (token_in _ _ h s))))))); is = refl }

false_told : {k : ℕ} {ts us : List Lexeme} {l : Lexeme} → 0 < k → Stands (a_word (codes "false")) l ts us → TellsIn un leaf_of k ts (Leaf (a_word_of (codes "false"))) (k - 1) us
false_told h s = record { value = _; reads = (reads_on_in _ _ (second_in _ _ (rule_misses _ (other_stands rules refl s))) (reads_on_in _ _ (second_in _ _ (rule_misses _ (other_stands rules refl s))) (reads_on_in _ _ (second_in _ _ (rule_misses _ (other_stands rules refl s))) (reads_on_in _ _ (second_in _ _ (token_misses _ (other_stands rules refl s))) (reads_on_in _ _ (second_in _ _ (token_misses _ (other_stands rules refl s))) (reads_on_in _ _ (second_in _ _ (token_misses _ (other_stands rules refl s))) (reads_on_in _ _ (first_in _ _ (token_comes _ s)) (token_in _ _ h s)))))))); is = refl }

name_told : {k : ℕ} {ts us : List Lexeme} {l : Lexeme} → 0 < k → Stands (a_name) l ts us → TellsIn un leaf_of k ts (Leaf l.symbol) (k - 1) us
name_told h s = record { value = _; reads = (reads_on_in _ _ (second_in _ _ (rule_misses _ (other_stands rules refl s))) (reads_on_in _ _ (second_in _ _ (rule_misses _ (other_stands rules refl s))) (reads_on_in _ _ (second_in _ _ (rule_misses _ (other_stands rules refl s))) (reads_on_in _ _ (second_in _ _ (token_misses _ (other_stands rules refl s))) (reads_on_in _ _ (second_in _ _ (token_misses _ (other_stands rules refl s))) (reads_on_in _ _ (second_in _ _ (token_misses _ (other_stands rules refl s))) (reads_on_in _ _ (second_in _ _ (token_misses _ (other_stands rules refl s))) (token_in _ _ h s)))))))); is = refl }

told_as : {k m : ℕ} {ts us : List Lexeme} {x y : Phrase} → y ≡ x → TellsIn un leaf_of k ts x m us → TellsIn un leaf_of k ts y m us
told_as e t = record { value = t.value; reads = t.reads; is = t.is ∙ sym e }

pub leaf_told : {k : ℕ} {ts us : List Lexeme} {l : Lexeme} {x : Phrase} → 0 < k → ts ≡ l ∷ us → IsLeaf l.symbol x → TellsIn un leaf_of k ts x (k - 1) us
leaf_told h p (a_number_is i e) = told_as e (number_told h (record { parts = p; is = i }))
leaf_told h p (a_text_is i e) = told_as e (text_told h (record { parts = p; is = i }))
leaf_told h p (true_is i e) = told_as e (true_told h (record { parts = p; is = i }))
leaf_told h p (false_is i e) = told_as e (false_told h (record { parts = p; is = i }))
leaf_told h p (a_name_is i e) = told_as e (name_told h (record { parts = p; is = i }))

leaf_comes : {ts us : List Lexeme} {l : Lexeme} {x : Phrase} → ts ≡ l ∷ us → IsLeaf l.symbol x → Begins rules un ts
leaf_comes p (a_number_is i e) = number_comes (record { parts = p; is = i })
leaf_comes p (a_text_is i e) = text_comes (record { parts = p; is = i })
leaf_comes p (true_is i e) = true_comes (record { parts = p; is = i })
leaf_comes p (false_is i e) = false_comes (record { parts = p; is = i })
leaf_comes p (a_name_is i e) = name_comes (record { parts = p; is = i })

pub operand_comes : {input : Input} {ts us : List Lexeme} (o : Opening) → Opens input o ts us → Begins rules un ts
operand_comes (opening.Unary Neg) s = minus_comes (record { parts = s.parts; is = s.is })
operand_comes (opening.Unary Not) s = not_comes (record { parts = s.parts; is = s.is })
operand_comes opening.Parens s = parens_comes (record { parts = s.parts; is = s.is })
operand_comes (opening.Leaf e) s = leaf_comes s.parts s.is

-- an operator and its operand
pub unary_told : {input : Input} {k m : ℕ} {ts us vs : List Lexeme} {x : Phrase} (op : UnOp) → 0 < k → Opens input (opening.Unary op) ts us → TellsIn un leaf_of (k - 1) us x m vs → TellsIn un leaf_of k ts (Unary op x) m vs
unary_told Neg h s t = record { value = _; reads = reads_on_in _ _ (into_minus h (record { parts = s.parts; is = s.is })) t.reads; is = ap (Unary Neg) t.is }
unary_told Not h s t = record { value = _; reads = reads_on_in _ _ (into_not h (record { parts = s.parts; is = s.is })) t.reads; is = ap (Unary Not) t.is }

pub unary_halts : {input : Input} {k : ℕ} {ts us : List Lexeme} {d : Denied} (op : UnOp) → 0 < k → Opens input (opening.Unary op) ts us → HaltsIn rules E4 (Some (k - 1)) un us d → HaltsIn rules E4 (Some k) un ts d
unary_halts Neg h s t = halts_on_in _ _ (into_minus h (record { parts = s.parts; is = s.is })) t
unary_halts Not h s t = halts_on_in _ _ (into_not h (record { parts = s.parts; is = s.is })) t

-- an expression in parentheses
pub parens_told : {input : Input} {k m : ℕ} {ts us vs ws : List Lexeme} {x : Phrase} → 0 < k → Opens input opening.Parens ts us → TellsIn disjunction phrase (k - 1) us x m vs → ReadsIn rules E4 (Some m) (mark sign.CloseParen) vs tt (Some (m - 1)) ws → TellsIn un leaf_of k ts x (m - 1) ws
parens_told h s t c = record { value = _; reads = reads_on_in _ _ (into_parens h (record { parts = s.parts; is = s.is })) (reads_on_in _ _ (after_in _ _ t.reads) c); is = t.is }

pub parens_halts : {input : Input} {k : ℕ} {ts us : List Lexeme} {d : Denied} → 0 < k → Opens input opening.Parens ts us → HaltsIn rules E4 (Some (k - 1)) disjunction us d → HaltsIn rules E4 (Some k) un ts d
parens_halts h s t = halts_on_in _ _ (into_parens h (record { parts = s.parts; is = s.is })) (first_halts_in _ _ t)

pub parens_open : {input : Input} {k m : ℕ} {ts us vs : List Lexeme} {x : Phrase} {d : Denied} → 0 < k → Opens input opening.Parens ts us → TellsIn disjunction phrase (k - 1) us x m vs → HaltsIn rules E4 (Some m) (mark sign.CloseParen) vs d → HaltsIn rules E4 (Some k) un ts d
parens_open h s t c = halts_on_in _ _ (into_parens h (record { parts = s.parts; is = s.is })) (halts_on_in _ _ (after_in _ _ t.reads) c)

-- no operand begins there
none_or : (a b : Bool) → (a || b) ≡ false → (a ≡ false) × (b ≡ false)
none_or true b h = absurd cc
none_or false b h = (refl, h)

pub lacks : {ts us : List Lexeme} {l : Lexeme} {c : Class} → ts ≡ l ∷ us → is_of c l.symbol ≡ false → Lacks c ts
lacks {ts} {us} {l} {c} p i = record { by = λ m vs e. subst (λ (t : Lexeme). is_of c t.symbol ≡ false) (this_token rules p e) i }

pub no_operand : {ts us : List Lexeme} {l : Lexeme} → ts ≡ l ∷ us → is_of (a_mark sign.Minus) l.symbol ≡ false → is_of (a_mark sign.Not) l.symbol ≡ false → is_of (a_mark sign.OpenParen) l.symbol ≡ false
    → is_among (a_number ∷ a_text ∷ a_word (codes "true") ∷ a_word (codes "false") ∷ a_name ∷ []) l.symbol ≡ false → Misses rules un ts
no_operand {ts} {us} {l} p a b c d =
    let e = none_or (is_of a_number l.symbol) _ d in
    let f = none_or (is_of a_text l.symbol) _ e.1 in
    let g = none_or (is_of (a_word (codes "true")) l.symbol) _ f.1 in
    let h = none_or (is_of (a_word (codes "false")) l.symbol) _ g.1 in
    let i = none_or (is_of a_name l.symbol) _ h.1 in
    misses_both _ (rule_misses _ (lacks p a)) (misses_both _ (rule_misses _ (lacks p b)) (misses_both _ (rule_misses _ (lacks p c)) (misses_both _ (token_misses _ (lacks p e.0)) (misses_both _ (token_misses _ (lacks p f.0)) (misses_both _ (token_misses _ (lacks p g.0)) (misses_both _ (token_misses _ (lacks p h.0)) (token_misses _ (lacks p i.0))))))))

pub opens_as : {input : Input} {o q : Opening} {ts us : List Lexeme} → o ≡ q → Opens input o ts us → Opens input q ts us
opens_as {input} {o} {q} {ts} {us} e h = subst (λ (x : Opening). Opens input x ts us) e h

pub on_none_always : {X : Type 0} {P : Type 0} (r : Option X) → P → IfNone r P
on_none_always (Some x) p = tt
on_none_always None p = p
