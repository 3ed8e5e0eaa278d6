-- Expressions: what the relations say, the data derives.
use Rattle.std.proofs.Common.{◌≡◌, ◌<◌, ◌-◌, ◌+◌, zero, suc, inl, inr, ℕ, ℤ, pos, negsuc, true, false, List, [], ◌∷◌, ◌++◌, length, Some, None, refl, sym, ap, ◌∙◌, subst, append_assoc, arith}
use Rattle.std.specs.Prelude.{slice_get, codes, nat_lt, unsigned_abs, ◌==◌}
use Rattle.std.proofs.lemmas.Bool.Decides.{nat_tests}
use Rattle.std.proofs.lemmas.List.{length-map, length-append}
use Rattle.chor_base.specs.declared.rule.Rule.{Rule}
use Rattle.chor_base.specs.declared.rule.Rule.TheVariants.{P2}
use Rattle.chor_base.specs.declared.value.Value.TheVariants as value
use Rattle.chor_base.specs.declared.expr.UnOp.TheVariants as unop
use Rattle.chor_base.specs.declared.expr.BinOp.{BinOp}
use Rattle.chor_base.specs.declared.expr.BinOp.TheVariants as binop
use Rattle.chor_base.specs.Expr.{Term, Constant, Variable, Unary, Binary}
use Rattle.chor_lexer.specs.declared.mark.Mark.{Mark}
use Rattle.chor_lexer.specs.declared.mark.Mark.TheVariants as sign
use Rattle.chor_lexer.specs.Mark.{spelling}
use Rattle.chor_lexer.specs.declared.token.Kind.{Kind}
use Rattle.chor_lexer.specs.declared.token.Kind.TheVariants as kind
use Rattle.chor_lexer.specs.declared.token.Token.{Token}
use Rattle.chor_lexer.specs.Keywords.{HasMark}
use Rattle.chor_lexer.specs.Lexeme.{Lexeme}
use Rattle.chor_lexer.specs.Canonical.{binary_mark, strength}
use Rattle.chor_lexer.specs.Grammar as ex
use Rattle.chor_tree.specs.declared.file.Named.{Named}
use Rattle.grammar.specs.Classes.{a_number, a_text, a_mark}
use Rattle.grammar.specs.Grammars.{Allowed, Derives, Value, Rules, Grammar, AreFew, no_token, a_token, is_empty, is_one, in_turn, the_first, the_second, none_of_many, one_of_many, no_more, one_more, with_room, in_short, by_rule, many, seq}
use Rattle.source_rows.specs.Sources.{mark, un, product, sum, comparison, conjunction, disjunction, expr, operators, comparisons}
use Rattle.source_rows.specs.Values.{Tables, Derived, rules, leaf_of, grouped, product_op, sum_op, comparison_op, product_term, sum_term, comparison_term, conjunction_term, term, number_of}
use Rattle.source_grammar.specs.Expressions.{KeepsLength}
use Rattle.source_bridge.specs.Bridge.{lexeme_of, lexed, symbol_of, is_natural, kind_there, There, AreTables, ByData}
use Rattle.source_bridge.proofs.Terminals.{place_in, within_of}
use Rattle.source_bridge.proofs.ToTerminals.{to_here, to_name, to_word, kind_is, own}

-- what was derived stands before what is left
front_of : {N : Type 0} {r : Rules N} {Q : Allowed} {g : Grammar N} {ls us : List Lexeme} {x : Value r.V g} → Derives r Q g ls x us → (front : List Lexeme) × (ls ≡ front ++ us)
front_of is_empty = ([], refl)
front_of (is_one l p j) = (l ∷ [], p)
front_of {us = us} (in_turn d m) = let a = front_of d in let b = front_of m in (a.0 ++ b.0, a.1 ∙ ap (λ x. a.0 ++ x) b.1 ∙ sym (append_assoc a.0 b.0 us))
front_of (the_first d) = front_of d
front_of (the_second d) = front_of d
front_of none_of_many = ([], refl)
front_of {us = us} (one_of_many r d m) = let a = front_of d in let b = front_of m in (a.0 ++ b.0, a.1 ∙ ap (λ x. a.0 ++ x) b.1 ∙ sym (append_assoc a.0 b.0 us))
front_of no_more = ([], refl)
front_of {us = us} (one_more l p j d m) = let a = front_of d in let b = front_of m in (l ∷ (a.0 ++ b.0), p ∙ ap (λ x. l ∷ x) (a.1 ∙ ap (λ x. a.0 ++ x) b.1 ∙ sym (append_assoc a.0 b.0 us)))
front_of (with_room r d) = front_of d
front_of (in_short k d) = front_of d
front_of (by_rule l p j d s) = let a = front_of d in (l ∷ a.0, p ∙ ap (λ x. l ∷ x) a.1)

few_free : (Q : Allowed) (e : Rule) (front : List Lexeme) (ls us : List Lexeme) → ls ≡ front ++ us → AreFew Q e None ls us
few_free Q e [] ls us p = no_token p
few_free Q e (l ∷ front) ls us p = a_token l p (λ h. absurd cc) (few_free Q e front (front ++ us) us refl)

not_full : (n : ℕ) → (suc n == 0) ≡ true → ⊥
not_full n h = grind (arith, nat_tests)

few_to : (i : Tables) (Q : Allowed) (e : Rule) (n : ℕ) (ts rest : List Token) (front : List Lexeme) → lexed i ts ≡ front ++ lexed i rest → ((t : Token) → n < length ts - length rest → slice_get ts n ≡ Some t → Q e t.place) → AreFew Q e (Some n) (lexed i ts) (lexed i rest)
few_to i Q e n ts rest [] p k = no_token p
few_to i Q e n [] rest (l ∷ front) p k = absurd cc
few_to i Q e zero (t ∷ ts) rest (l ∷ front) p k =
    let b : lexed i ts ≡ front ++ lexed i rest = cc in
    let len : length ts ≡ length front + length rest = sym (length-map ts (lexeme_of i)) ∙ ap length b ∙ length-append front (lexed i rest) ∙ ap (λ x. length front + x) (length-map rest (lexeme_of i)) in
    a_token (lexeme_of i t) refl (λ h. k t (omega (arith, len)) refl) (few_free Q e front (lexed i ts) (lexed i rest) b)
few_to i Q e (suc n) (t ∷ ts) rest (l ∷ front) p k =
    let b : lexed i ts ≡ front ++ lexed i rest = cc in
    a_token (lexeme_of i t) refl (λ h. absurd (not_full n h)) (few_to i Q e n ts rest front b (λ u h g. k u (omega (arith, h)) g))

positive : (z : ℤ) → is_natural z ≡ true → pos (unsigned_abs z) ≡ z
positive (pos n) h = refl
positive (negsuc n) h = absurd cc

natural_of : (i : Tables) (t : Token) (z : ℤ) → t.kind ≡ kind.Number z → kind_there i t.kind ≡ true → is_natural z ≡ true
natural_of i t z e h = subst (λ (k : Kind). kind_there i k ≡ true) e h

text_there : (i : Tables) (t : Token) (n : ℕ) → t.kind ≡ kind.Text n → kind_there i t.kind ≡ true → nat_lt n (length i.texts) ≡ true
text_there i t n e h = subst (λ (k : Kind). kind_there i k ≡ true) e h

-- an operator stands there
record OpAt (i : Tables) (Q : Allowed) (ms : List Mark) (f : Derived (operators ms) → BinOp) (op : BinOp) (t : Token) : Type 0 where
  value : Derived (operators ms)
  is : (ls : List Lexeme) → Derives (rules i) Q (operators ms) (lexeme_of i t ∷ ls) value ls
  same : f value ≡ op

module _ (i : Tables) (z : AreTables i) (Q : Allowed) where
  marked : (m : Mark) (t : Token) → HasMark m t → (ls : List Lexeme) → Derives (rules i) Q (mark m) (lexeme_of i t ∷ ls) tt ls
  marked m t e ls = is_one (lexeme_of i t) refl (kind_is i (a_mark m) t (kind.Mark m) e (own (spelling m)))

  product_at : (op : BinOp) (t : Token) → strength op ≡ 5 → HasMark (binary_mark op) t → OpAt i Q (sign.Star ∷ sign.Slash ∷ []) product_op op t
  product_at binop.Mul t s m = record { value = inl tt; is = λ ls. the_first (marked sign.Star t m ls); same = refl }
  product_at binop.Div t s m = record { value = inr tt; is = λ ls. the_second (marked sign.Slash t m ls); same = refl }
  product_at _ t s m = absurd cc

  sum_at : (op : BinOp) (t : Token) → strength op ≡ 4 → HasMark (binary_mark op) t → OpAt i Q (sign.Plus ∷ sign.Minus ∷ []) sum_op op t
  sum_at binop.Add t s m = record { value = inl tt; is = λ ls. the_first (marked sign.Plus t m ls); same = refl }
  sum_at binop.Sub t s m = record { value = inr tt; is = λ ls. the_second (marked sign.Minus t m ls); same = refl }
  sum_at _ t s m = absurd cc

  comparison_at : (op : BinOp) (t : Token) → strength op ≡ 3 → HasMark (binary_mark op) t → OpAt i Q (comparisons) comparison_op op t
  comparison_at binop.Eq t s m = record { value = inl tt; is = λ ls. the_first (marked sign.Equal t m ls); same = refl }
  comparison_at binop.Ne t s m = record { value = inr (inl tt); is = λ ls. the_second (the_first (marked sign.NotEqual t m ls)); same = refl }
  comparison_at binop.Lt t s m = record { value = inr (inr (inl tt)); is = λ ls. the_second (the_second (the_first (marked sign.Less t m ls))); same = refl }
  comparison_at binop.Le t s m = record { value = inr (inr (inr tt)); is = λ ls. the_second (the_second (the_second (marked sign.LessEqual t m ls))); same = refl }
  comparison_at _ t s m = absurd cc

  and_at : (op : BinOp) (t : Token) → strength op ≡ 2 → HasMark (binary_mark op) t → OpAt i Q (sign.And ∷ []) (λ op. binop.And) op t
  and_at binop.And t s m = record { value = tt; is = λ ls. marked sign.And t m ls; same = refl }
  and_at _ t s m = absurd cc

  or_at : (op : BinOp) (t : Token) → strength op ≡ 1 → HasMark (binary_mark op) t → OpAt i Q (sign.Or ∷ []) (λ op. binop.Or) op t
  or_at binop.Or t s m = record { value = tt; is = λ ls. marked sign.Or t m ls; same = refl }
  or_at _ t s m = absurd cc

  -- ---- by the way they are built

  mutual
    to_un : {ts rest : List Token} {x : Term} → ex.UnIs i.words ts x rest → There i ts → ByData i Q un (leaf_of i) ts x rest
    to_un (ex.a_unary {t = t} {op = unop.Neg} m d) h = to_here (to_un d h.1) (λ v dd s th. record { value = inl (leaf_of i v); is = the_first (by_rule (lexeme_of i t) refl (kind_is i (a_mark sign.Minus) t (kind.Mark sign.Minus) m refl) dd refl); same = ap (λ x. Unary unop.Neg x) s; there = th })
    to_un (ex.a_unary {t = t} {op = unop.Not} m d) h = to_here (to_un d h.1) (λ v dd s th. record { value = inr (inl (leaf_of i v)); is = the_second (the_first (by_rule (lexeme_of i t) refl (kind_is i (a_mark sign.Not) t (kind.Mark sign.Not) m refl) dd refl)); same = ap (λ x. Unary unop.Not x) s; there = th })
    to_un (ex.a_number {t = t} {z = n} e) h = record {
      value = inr (inr (inr (inl (lexeme_of i t))));
      is = the_second (the_second (the_second (the_first (is_one (lexeme_of i t) refl (kind_is i a_number t (kind.Number n) e refl)))));
      same = ap (λ (k : Kind). Constant (value.Int (pos (number_of i (symbol_of i k))))) e ∙ ap (λ y. Constant (value.Int y)) (positive n (natural_of i t n e h.0));
      there = h.1;
    }
    to_un (ex.a_text {t = t} {n = n} e) h = record {
      value = inr (inr (inr (inr (inl (lexeme_of i t)))));
      is = the_second (the_second (the_second (the_second (the_first (is_one (lexeme_of i t) refl (kind_is i a_text t (kind.Text n) e refl))))));
      same = ap (λ (k : Kind). Constant (value.Text (number_of i (symbol_of i k)))) e ∙ ap (λ y. Constant (value.Text y)) (place_in i.texts n z.texts (within_of n (length i.texts) (text_there i t n e h.0)));
      there = h.1;
    }
    to_un (ex.a_truth {t = t} {rest = rest} {b = true} w) h = to_here (to_word i z Q {w = codes "true"} (record { token = t; parts = refl; is = w }) h) (λ v dd s th. record { value = inr (inr (inr (inr (inr (inl v))))); is = the_second (the_second (the_second (the_second (the_second (the_first dd))))); same = refl; there = th })
    to_un (ex.a_truth {t = t} {rest = rest} {b = false} w) h = to_here (to_word i z Q {w = codes "false"} (record { token = t; parts = refl; is = w }) h) (λ v dd s th. record { value = inr (inr (inr (inr (inr (inr (inl v)))))); is = the_second (the_second (the_second (the_second (the_second (the_second (the_first dd)))))); same = refl; there = th })
    to_un (ex.a_name {t = t} {rest = rest} {x = x} n) h = to_here (to_name i z Q {n = record { name = x; place = t.place }} (record { token = t; parts = refl; is = n; place = refl }) h) (λ v dd s th. record { value = inr (inr (inr (inr (inr (inr (inr v)))))); is = the_second (the_second (the_second (the_second (the_second (the_second (the_second dd)))))); same = ap (λ (y : Named). Variable y.name) s; there = th })
    to_un (ex.in_parens {t = t} {u = u} {rest = rest} m d c) h = to_here (to_or d h.1) (λ v dd s th. record { value = inr (inr (inl (term i v))); is = the_second (the_second (the_first (by_rule (lexeme_of i t) refl (kind_is i (a_mark sign.OpenParen) t (kind.Mark sign.OpenParen) m refl) (in_turn dd (marked sign.CloseParen u c (lexed i rest))) refl))); same = s; there = th.1 })

    to_product : {ts rest : List Token} {x : Term} → ex.ProdIs i.words ts x rest → There i ts → ByData i Q product (product_term i) ts x rest
    to_product (ex.a_product a g) h = to_here (to_un a h) (λ v dd s h1. to_here (product_goes _ g h1) (λ vs ds e h2. record { value = (v, vs); is = in_turn dd ds; same = ap (λ y. grouped product_op (leaf_of i) y vs) s ∙ e; there = h2 }))

    product_goes : (a : Term) {ts rest : List Token} {x : Term} → ex.ProdGoes i.words a ts x rest → There i ts → ByData i Q (many P2 None (seq (operators (sign.Star ∷ sign.Slash ∷ [])) un)) (λ vs. grouped product_op (leaf_of i) a vs) ts x rest
    product_goes a ex.prod_done h = record { value = []; is = none_of_many; same = refl; there = h }
    product_goes a (ex.prod_more {t = t} {op = op} s m b g) h = to_here (to_un b h.1) (λ v dd e h1. to_here (product_goes _ g h1) (λ vs ds q h2. let o = product_at op t s m in record { value = (o.value, v) ∷ vs; is = one_of_many (λ f. absurd cc) (in_turn (o.is _) dd) ds; same = (λ j. grouped product_op (leaf_of i) (Binary (o.same j) a (e j)) vs) ∙ q; there = h2 }))

    to_sum : {ts rest : List Token} {x : Term} → ex.SumIs i.words ts x rest → There i ts → ByData i Q sum (sum_term i) ts x rest
    to_sum (ex.a_sum a g) h = to_here (to_product a h) (λ v dd s h1. to_here (sum_goes _ g h1) (λ vs ds e h2. record { value = (v, vs); is = in_turn dd ds; same = ap (λ y. grouped sum_op (product_term i) y vs) s ∙ e; there = h2 }))

    sum_goes : (a : Term) {ts rest : List Token} {x : Term} → ex.SumGoes i.words a ts x rest → There i ts → ByData i Q (many P2 None (seq (operators (sign.Plus ∷ sign.Minus ∷ [])) product)) (λ vs. grouped sum_op (product_term i) a vs) ts x rest
    sum_goes a ex.sum_done h = record { value = []; is = none_of_many; same = refl; there = h }
    sum_goes a (ex.sum_more {t = t} {op = op} s m b g) h = to_here (to_product b h.1) (λ v dd e h1. to_here (sum_goes _ g h1) (λ vs ds q h2. let o = sum_at op t s m in record { value = (o.value, v) ∷ vs; is = one_of_many (λ f. absurd cc) (in_turn (o.is _) dd) ds; same = (λ j. grouped sum_op (product_term i) (Binary (o.same j) a (e j)) vs) ∙ q; there = h2 }))

    to_comparison : {ts rest : List Token} {x : Term} → ex.CmpIs i.words ts x rest → There i ts → ByData i Q comparison (comparison_term i) ts x rest
    to_comparison (ex.a_comparison a ex.cmp_done) h = to_here (to_sum a h) (λ v dd s h1. record { value = (v, inr tt); is = in_turn dd (the_second is_empty); same = s; there = h1 })
    to_comparison (ex.a_comparison a (ex.cmp_once {t = t} {op = op} s m b)) h = to_here (to_sum a h) (λ v dd e h1. to_here (to_sum b h1.1) (λ w ww q h2. let o = comparison_at op t s m in record { value = (v, inl (o.value, w)); is = in_turn dd (the_first (in_turn (o.is _) ww)); same = λ j. Binary (o.same j) (e j) (q j); there = h2 }))

    to_and : {ts rest : List Token} {x : Term} → ex.AndIs i.words ts x rest → There i ts → ByData i Q conjunction (conjunction_term i) ts x rest
    to_and (ex.a_conjunction a g) h = to_here (to_comparison a h) (λ v dd s h1. to_here (and_goes _ g h1) (λ vs ds e h2. record { value = (v, vs); is = in_turn dd ds; same = ap (λ y. grouped (λ op. binop.And) (comparison_term i) y vs) s ∙ e; there = h2 }))

    and_goes : (a : Term) {ts rest : List Token} {x : Term} → ex.AndGoes i.words a ts x rest → There i ts → ByData i Q (many P2 None (seq (operators (sign.And ∷ [])) comparison)) (λ vs. grouped (λ op. binop.And) (comparison_term i) a vs) ts x rest
    and_goes a ex.and_done h = record { value = []; is = none_of_many; same = refl; there = h }
    and_goes a (ex.and_more {t = t} {op = op} s m b g) h = to_here (to_comparison b h.1) (λ v dd e h1. to_here (and_goes _ g h1) (λ vs ds q h2. let o = and_at op t s m in record { value = (o.value, v) ∷ vs; is = one_of_many (λ f. absurd cc) (in_turn (o.is _) dd) ds; same = (λ j. grouped (λ op. binop.And) (comparison_term i) (Binary (o.same j) a (e j)) vs) ∙ q; there = h2 }))

    to_or : {ts rest : List Token} {x : Term} → ex.OrIs i.words ts x rest → There i ts → ByData i Q disjunction (term i) ts x rest
    to_or (ex.a_disjunction a g) h = to_here (to_and a h) (λ v dd s h1. to_here (or_goes _ g h1) (λ vs ds e h2. record { value = (v, vs); is = in_turn dd ds; same = ap (λ y. grouped (λ op. binop.Or) (conjunction_term i) y vs) s ∙ e; there = h2 }))

    or_goes : (a : Term) {ts rest : List Token} {x : Term} → ex.OrGoes i.words a ts x rest → There i ts → ByData i Q (many P2 None (seq (operators (sign.Or ∷ [])) conjunction)) (λ vs. grouped (λ op. binop.Or) (conjunction_term i) a vs) ts x rest
    or_goes a ex.or_done h = record { value = []; is = none_of_many; same = refl; there = h }
    or_goes a (ex.or_more {t = t} {op = op} s m b g) h = to_here (to_and b h.1) (λ v dd e h1. to_here (or_goes _ g h1) (λ vs ds q h2. let o = or_at op t s m in record { value = (o.value, v) ∷ vs; is = one_of_many (λ f. absurd cc) (in_turn (o.is _) dd) ds; same = (λ j. grouped (λ op. binop.Or) (conjunction_term i) (Binary (o.same j) a (e j)) vs) ∙ q; there = h2 }))

  pub to_expr : {ts rest : List Token} {x : Term} → ex.ExprIs i.words ts x rest → KeepsLength Q ts rest → There i ts → ByData i Q expr (term i) ts x rest
  to_expr {ts} {rest} d k h = to_here (to_or d h) (λ v dd s th. let f = front_of dd in record { value = v; is = in_short (few_to i Q P2 255 ts rest f.0 f.1 k) dd; same = s; there = th })
