-- Tokens that are an expression of a source are one of an endpoint file.
use Rattle.std.proofs.Common.{inl, inr, ◌≡◌, not, ℕ, ℤ, unsigned_abs, true, false, List, [], ◌∷◌, ◌++◌, None, refl, sym, ap, ◌∙◌, subst, codes}
use Rattle.std.specs.Prelude.{slice_index_or}
use Rattle.chor_base.specs.declared.names.NameId.{NameId}
use Rattle.chor_base.specs.declared.expr.UnOp.TheVariants as unop
use Rattle.chor_base.specs.declared.expr.BinOp.{BinOp}
use Rattle.chor_base.specs.declared.expr.BinOp.TheVariants as binop
use Rattle.chor_base.specs.declared.rule.Rule.TheVariants.{E4}
use Rattle.chor_base.specs.Expr.{Term}
use Rattle.chor_base.specs.Writing.{name_in}
use Rattle.chor_lexer.specs.declared.mark.Mark.{Mark}
use Rattle.chor_lexer.specs.declared.mark.Mark.TheVariants.{OpenParen, CloseParen, Plus, Minus, Star, Slash, Equal, NotEqual, Less, LessEqual, And, Or, Not}
use Rattle.chor_lexer.specs.declared.token.Kind.{Kind}
use Rattle.chor_lexer.specs.declared.token.Kind.TheVariants as kind
use Rattle.chor_lexer.specs.declared.token.Token.{Token}
use Rattle.chor_lexer.specs.Canonical.{binary_mark, strength}
use Rattle.chor_lexer.specs.Grammar.{OrIs, OrGoes, AndIs, AndGoes, CmpIs, SumIs, SumGoes, ProdIs, ProdGoes, UnIs, a_disjunction, or_done, or_more, a_conjunction, and_done, and_more, a_comparison, cmp_done, cmp_once, a_sum, sum_done, sum_more, a_product, prod_done, prod_more, a_unary, a_number, a_text, a_truth, a_name, in_parens}
use Rattle.chor_lexer.specs.Keywords.{HasMark}
use Rattle.chor_lexer.specs.Lexeme.{Symbol, Lexeme, word, number, text, mark}
use Rattle.chor_lexer.specs.Tokens.{Spells, AreSpelled}
use Rattle.chor_lexer.proofs.Spelling.{name_of}
use Rattle.grammar.specs.Classes.{a_mark, a_word, is_of}
use Rattle.grammar.specs.Classes as class
use Rattle.grammar.specs.Grammars.{one, seq, many, nowhere, Derives, is_one, in_turn, the_first, the_second, is_empty, none_of_many, one_of_many, by_rule}
use Rattle.endpoint_grammar.specs.Grammar.{Part, operators, comparisons, un, product, sum, comparison, conjunction, disjunction}
use Rattle.endpoint_grammar.specs.Values.{Derived, rules, leaf_of, grouped, product_op, sum_op, comparison_op, product_phrase, sum_phrase, comparison_phrase, conjunction_phrase, phrase}
use Rattle.endpoint_grammar.specs.Written.{Phrase, Leaf, Unary, Binary}
use Rattle.endpoint_code.specs.declared.endpoints.Endpoints.{Endpoints}
use Rattle.endpoint_laws.specs.Says.{phrase_of}
use Rattle.endpoint_laws.proofs.SymbolReading.{any_room}

module _ (e : Endpoints) where
  -- tokens that are written so
  abbrev pub Spelled : List Token → List Lexeme → Type 0
  Spelled ts ls = AreSpelled e.names e.texts ts ls

  -- the first of them
  record Head (t : Token) (ts : List Token) (ls : List Lexeme) : Type 0 where
    lexeme : Lexeme
    rest : List Lexeme
    parts : ls ≡ lexeme ∷ rest
    is : Spells e.names e.texts t.kind lexeme.symbol
    others : Spelled ts rest

  head : {t : Token} {ts : List Token} (ls : List Lexeme) → Spelled (t ∷ ts) ls → Head t ts ls
  head [] h = absurd h
  head (l ∷ ls) h = record { lexeme = l; rest = ls; parts = refl; is = h.0.0; others = h.1 }

  -- what the kinds say
  mark_said : (s : Symbol) (k : Kind) (m : Mark) → k ≡ kind.Mark m → Spells e.names e.texts k s → s ≡ mark m
  mark_said s k m q h = go s (subst (λ (j : Kind). Spells e.names e.texts j s) q h)
    where
      go : (s : Symbol) → Spells e.names e.texts (kind.Mark m) s → s ≡ mark m
      go (mark j) h = ap mark (sym h)
      go _ h = absurd h

  number_said : (s : Symbol) (k : Kind) (z : ℤ) → k ≡ kind.Number z → Spells e.names e.texts k s → s ≡ number (unsigned_abs z)
  number_said s k z q h = go s (subst (λ (j : Kind). Spells e.names e.texts j s) q h)
    where
      go : (s : Symbol) → Spells e.names e.texts (kind.Number z) s → s ≡ number (unsigned_abs z)
      go (number n) h = sym (ap (λ (y : ℤ). number (unsigned_abs y)) h)
      go _ h = absurd h

  text_said : (s : Symbol) (k : Kind) (n : ℕ) → k ≡ kind.Text n → Spells e.names e.texts k s → s ≡ text (slice_index_or e.texts n [])
  text_said s k n q h = go s (subst (λ (j : Kind). Spells e.names e.texts j s) q h)
    where
      go : (s : Symbol) → Spells e.names e.texts (kind.Text n) s → s ≡ text (slice_index_or e.texts n [])
      go (text t) h = ap text (sym (name_of e.texts (record { 0 = n }) t h))
      go _ h = absurd h

  word_said : (s : Symbol) (k : Kind) (n : NameId) → k ≡ kind.Word n → Spells e.names e.texts k s → s ≡ word (name_in e.names n)
  word_said s k n q h = go s (subst (λ (j : Kind). Spells e.names e.texts j s) q h)
    where
      go : (s : Symbol) → Spells e.names e.texts (kind.Word n) s → s ≡ word (name_in e.names n)
      go (word w) h = ap word (sym (name_of e.names n w h))
      go _ h = absurd h

  -- from the tokens ls, which say more than the tokens us, a value is derived that says the expression x
  pub record Said (g : Part) (f : Derived g → Phrase) (x : Term) (ls : List Lexeme) (us : List Token) : Type 0 where
    pub value : Derived g
    pub left : List Lexeme
    pub is : (more : List Lexeme) → Derives rules nowhere g (ls ++ more) value (left ++ more)
    pub says : f value ≡ phrase_of e x
    pub others : Spelled us left

  -- the operator that stands first
  record Sign (g : Part) (f : Derived g → BinOp) (op : BinOp) (ls : List Lexeme) (us : List Token) : Type 0 where
    value : Derived g
    left : List Lexeme
    is : (more : List Lexeme) → Derives rules nowhere g (ls ++ more) value (left ++ more)
    says : f value ≡ op
    others : Spelled us left

  marked : (m : Mark) → is_of (a_mark m) (mark m) ≡ true → {t : Token} {us : List Token} {ls : List Lexeme} (h : Head t us ls) → HasMark m t → is_of (a_mark m) h.lexeme.symbol ≡ true
  marked m is h k = subst (λ s. is_of (a_mark m) s ≡ true) (sym (mark_said h.lexeme.symbol _ m k h.is)) is

  -- a token of this mark
  one_mark : (m : Mark) → is_of (a_mark m) (mark m) ≡ true → {t : Token} {us : List Token} {ls : List Lexeme} (h : Head t us ls) → HasMark m t → (more : List Lexeme) → Derives rules nowhere (one (a_mark m)) (ls ++ more) tt (h.rest ++ more)
  one_mark m is h k more = is_one h.lexeme (ap (λ u. u ++ more) h.parts) (marked m is h k)

  or_sign : (op : BinOp) → strength op ≡ 1 → {t : Token} {us : List Token} {ls : List Lexeme} → Head t us ls → HasMark (binary_mark op) t → Sign (operators (Or ∷ [])) (λ v. binop.Or) op ls us
  or_sign binop.Or s h k = record { value = tt; left = h.rest; is = one_mark Or refl h k; says = refl; others = h.others }
  or_sign _ s h k = absurd cc

  and_sign : (op : BinOp) → strength op ≡ 2 → {t : Token} {us : List Token} {ls : List Lexeme} → Head t us ls → HasMark (binary_mark op) t → Sign (operators (And ∷ [])) (λ v. binop.And) op ls us
  and_sign binop.And s h k = record { value = tt; left = h.rest; is = one_mark And refl h k; says = refl; others = h.others }
  and_sign _ s h k = absurd cc

  comparison_sign : (op : BinOp) → strength op ≡ 3 → {t : Token} {us : List Token} {ls : List Lexeme} → Head t us ls → HasMark (binary_mark op) t → Sign (operators comparisons) comparison_op op ls us
  comparison_sign binop.Eq s h k = record { value = inl tt; left = h.rest; is = λ more. the_first (one_mark Equal refl h k more); says = refl; others = h.others }
  comparison_sign binop.Ne s h k = record { value = inr (inl tt); left = h.rest; is = λ more. the_second (the_first (one_mark NotEqual refl h k more)); says = refl; others = h.others }
  comparison_sign binop.Lt s h k = record { value = inr (inr (inl tt)); left = h.rest; is = λ more. the_second (the_second (the_first (one_mark Less refl h k more))); says = refl; others = h.others }
  comparison_sign binop.Le s h k = record { value = inr (inr (inr tt)); left = h.rest; is = λ more. the_second (the_second (the_second (one_mark LessEqual refl h k more))); says = refl; others = h.others }
  comparison_sign _ s h k = absurd cc

  sum_sign : (op : BinOp) → strength op ≡ 4 → {t : Token} {us : List Token} {ls : List Lexeme} → Head t us ls → HasMark (binary_mark op) t → Sign (operators (Plus ∷ Minus ∷ [])) sum_op op ls us
  sum_sign binop.Add s h k = record { value = inl tt; left = h.rest; is = λ more. the_first (one_mark Plus refl h k more); says = refl; others = h.others }
  sum_sign binop.Sub s h k = record { value = inr tt; left = h.rest; is = λ more. the_second (one_mark Minus refl h k more); says = refl; others = h.others }
  sum_sign _ s h k = absurd cc

  product_sign : (op : BinOp) → strength op ≡ 5 → {t : Token} {us : List Token} {ls : List Lexeme} → Head t us ls → HasMark (binary_mark op) t → Sign (operators (Star ∷ Slash ∷ [])) product_op op ls us
  product_sign binop.Mul s h k = record { value = inl tt; left = h.rest; is = λ more. the_first (one_mark Star refl h k more); says = refl; others = h.others }
  product_sign binop.Div s h k = record { value = inr tt; left = h.rest; is = λ more. the_second (one_mark Slash refl h k more); says = refl; others = h.others }
  product_sign _ s h k = absurd cc

  -- operands that follow, each with the operator before it, after what was read as p
  abbrev Operands : (ms : List Mark) (g : Part) → (Derived (operators ms) → BinOp) → (Derived g → Phrase) → Phrase → Term → List Lexeme → List Token → Type 0
  Operands ms g op f p x ls us = Said (many E4 None (seq (operators ms) g)) (λ v. grouped op f p v) x ls us

  no_operand : (ms : List Mark) (g : Part) (op : Derived (operators ms) → BinOp) (f : Derived g → Phrase) {p : Phrase} {a : Term} {ls : List Lexeme} {us : List Token} → p ≡ phrase_of e a → Spelled us ls → Operands ms g op f p a ls us
  no_operand ms g op f {ls = ls} h k = record { value = []; left = ls; is = λ more. none_of_many; says = h; others = k }

  -- one of them, and those after it
  one_operand : (ms : List Mark) (g : Part) (op : Derived (operators ms) → BinOp) (f : Derived g → Phrase) {p : Phrase} {x : Term} {o : BinOp} {b : Term} {ls : List Lexeme} {us vs ws : List Token}
      → (s : Sign (operators ms) op o ls us) → (y : Said g f b s.left vs) → Operands ms g op f (Binary (op s.value) p (f y.value)) x y.left ws → Operands ms g op f p x ls ws
  one_operand ms g op f {ls = ls} s y r =
      record { value = (s.value, y.value) ∷ r.value; left = r.left; is = λ more. one_of_many (any_room (ls ++ more)) (in_turn (s.is more) (y.is more)) (r.is more); says = r.says; others = r.others }

  mutual
    pub or_said : {ts us : List Token} {x : Term} → OrIs e.names ts x us → (ls : List Lexeme) → Spelled ts ls → Said disjunction phrase x ls us
    or_said (a_disjunction a g) ls h =
        let p = and_said a ls h in
        let q = or_goes g (conjunction_phrase p.value) p.says p.left p.others in
        record { value = (p.value, q.value); left = q.left; is = λ more. in_turn (p.is more) (q.is more); says = q.says; others = q.others }

    or_goes : {a x : Term} {ts us : List Token} → OrGoes e.names a ts x us → (p : Phrase) → p ≡ phrase_of e a → (ls : List Lexeme) → Spelled ts ls → Operands (Or ∷ []) conjunction (λ v. binop.Or) conjunction_phrase p x ls us
    or_goes or_done p k ls h = no_operand (Or ∷ []) conjunction (λ v. binop.Or) conjunction_phrase k h
    or_goes (or_more {op = op} s m b g) p k ls h =
        let o = or_sign op s (head ls h) m in
        let y = and_said b o.left o.others in
        one_operand (Or ∷ []) conjunction (λ v. binop.Or) conjunction_phrase o y (or_goes g (Binary binop.Or p (conjunction_phrase y.value)) (λ i. Binary (o.says i) (k i) (y.says i)) y.left y.others)

    and_said : {ts us : List Token} {x : Term} → AndIs e.names ts x us → (ls : List Lexeme) → Spelled ts ls → Said conjunction conjunction_phrase x ls us
    and_said (a_conjunction a g) ls h =
        let p = comparison_said a ls h in
        let q = and_goes g (comparison_phrase p.value) p.says p.left p.others in
        record { value = (p.value, q.value); left = q.left; is = λ more. in_turn (p.is more) (q.is more); says = q.says; others = q.others }

    and_goes : {a x : Term} {ts us : List Token} → AndGoes e.names a ts x us → (p : Phrase) → p ≡ phrase_of e a → (ls : List Lexeme) → Spelled ts ls → Operands (And ∷ []) comparison (λ v. binop.And) comparison_phrase p x ls us
    and_goes and_done p k ls h = no_operand (And ∷ []) comparison (λ v. binop.And) comparison_phrase k h
    and_goes (and_more {op = op} s m b g) p k ls h =
        let o = and_sign op s (head ls h) m in
        let y = comparison_said b o.left o.others in
        one_operand (And ∷ []) comparison (λ v. binop.And) comparison_phrase o y (and_goes g (Binary binop.And p (comparison_phrase y.value)) (λ i. Binary (o.says i) (k i) (y.says i)) y.left y.others)

    comparison_said : {ts us : List Token} {x : Term} → CmpIs e.names ts x us → (ls : List Lexeme) → Spelled ts ls → Said comparison comparison_phrase x ls us
    comparison_said (a_comparison a cmp_done) ls h =
        let p = sum_said a ls h in
        record { value = (p.value, inr tt); left = p.left; is = λ more. in_turn (p.is more) (the_second is_empty); says = p.says; others = p.others }
    comparison_said (a_comparison a (cmp_once {op = op} s m b)) ls h =
        let p = sum_said a ls h in
        let o = comparison_sign op s (head p.left p.others) m in
        let y = sum_said b o.left o.others in
        record { value = (p.value, inl (o.value, y.value)); left = y.left; is = λ more. in_turn (p.is more) (the_first (in_turn (o.is more) (y.is more))); says = λ i. Binary (o.says i) (p.says i) (y.says i); others = y.others }

    sum_said : {ts us : List Token} {x : Term} → SumIs e.names ts x us → (ls : List Lexeme) → Spelled ts ls → Said sum sum_phrase x ls us
    sum_said (a_sum a g) ls h =
        let p = product_said a ls h in
        let q = sum_goes g (product_phrase p.value) p.says p.left p.others in
        record { value = (p.value, q.value); left = q.left; is = λ more. in_turn (p.is more) (q.is more); says = q.says; others = q.others }

    sum_goes : {a x : Term} {ts us : List Token} → SumGoes e.names a ts x us → (p : Phrase) → p ≡ phrase_of e a → (ls : List Lexeme) → Spelled ts ls → Operands (Plus ∷ Minus ∷ []) product sum_op product_phrase p x ls us
    sum_goes sum_done p k ls h = no_operand (Plus ∷ Minus ∷ []) product sum_op product_phrase k h
    sum_goes (sum_more {op = op} s m b g) p k ls h =
        let o = sum_sign op s (head ls h) m in
        let y = product_said b o.left o.others in
        one_operand (Plus ∷ Minus ∷ []) product sum_op product_phrase o y (sum_goes g (Binary (sum_op o.value) p (product_phrase y.value)) (λ i. Binary (o.says i) (k i) (y.says i)) y.left y.others)

    product_said : {ts us : List Token} {x : Term} → ProdIs e.names ts x us → (ls : List Lexeme) → Spelled ts ls → Said product product_phrase x ls us
    product_said (a_product a g) ls h =
        let p = un_said a ls h in
        let q = product_goes g (leaf_of p.value) p.says p.left p.others in
        record { value = (p.value, q.value); left = q.left; is = λ more. in_turn (p.is more) (q.is more); says = q.says; others = q.others }

    product_goes : {a x : Term} {ts us : List Token} → ProdGoes e.names a ts x us → (p : Phrase) → p ≡ phrase_of e a → (ls : List Lexeme) → Spelled ts ls → Operands (Star ∷ Slash ∷ []) un product_op leaf_of p x ls us
    product_goes prod_done p k ls h = no_operand (Star ∷ Slash ∷ []) un product_op leaf_of k h
    product_goes (prod_more {op = op} s m b g) p k ls h =
        let o = product_sign op s (head ls h) m in
        let y = un_said b o.left o.others in
        one_operand (Star ∷ Slash ∷ []) un product_op leaf_of o y (product_goes g (Binary (product_op o.value) p (leaf_of y.value)) (λ i. Binary (o.says i) (k i) (y.says i)) y.left y.others)

    un_said : {ts us : List Token} {x : Term} → UnIs e.names ts x us → (ls : List Lexeme) → Spelled ts ls → Said un leaf_of x ls us
    un_said (a_unary {op = unop.Neg} m a) ls h =
        let f = head ls h in
        let p = un_said a f.rest f.others in
        record { value = inl (leaf_of p.value); left = p.left; is = λ more. the_first (by_rule f.lexeme (ap (λ u. u ++ more) f.parts) (marked Minus refl f m) (p.is more) refl); says = ap (Unary unop.Neg) p.says; others = p.others }
    un_said (a_unary {op = unop.Not} m a) ls h =
        let f = head ls h in
        let p = un_said a f.rest f.others in
        record { value = inr (inl (leaf_of p.value)); left = p.left; is = λ more. the_second (the_first (by_rule f.lexeme (ap (λ u. u ++ more) f.parts) (marked Not refl f m) (p.is more) refl)); says = ap (Unary unop.Not) p.says; others = p.others }
    un_said (in_parens m a n) ls h =
        let f = head ls h in
        let p = or_said a f.rest f.others in
        let g = head p.left p.others in
        record {
          value = inr (inr (inl (phrase p.value)));
          left = g.rest;
          is = λ more. the_second (the_second (the_first (by_rule {x = (p.value, tt)} f.lexeme (ap (λ u. u ++ more) f.parts) (marked OpenParen refl f m) (in_turn (p.is more) (one_mark CloseParen refl g n more)) refl)));
          says = p.says;
          others = g.others;
        }
    un_said (a_number {z = z} k) ls h =
        let f = head ls h in
        let said = number_said f.lexeme.symbol _ z k f.is in
        record { value = inr (inr (inr (inl f.lexeme))); left = f.rest; is = λ more. the_second (the_second (the_second (the_first (is_one f.lexeme (ap (λ u. u ++ more) f.parts) (subst (λ s. is_of class.a_number s ≡ true) (sym said) refl))))); says = ap Leaf said; others = f.others }
    un_said (a_text {n = n} k) ls h =
        let f = head ls h in
        let said = text_said f.lexeme.symbol _ n k f.is in
        record { value = inr (inr (inr (inr (inl f.lexeme)))); left = f.rest; is = λ more. the_second (the_second (the_second (the_second (the_first (is_one f.lexeme (ap (λ u. u ++ more) f.parts) (subst (λ s. is_of class.a_text s ≡ true) (sym said) refl)))))); says = ap Leaf said; others = f.others }
    un_said (a_truth {b = true} k) ls h =
        let f = head ls h in
        let said = word_said f.lexeme.symbol _ k.number k.kind f.is ∙ ap word (name_of e.names k.number (codes "true") k.word) in
        record { value = inr (inr (inr (inr (inr (inl tt))))); left = f.rest; is = λ more. the_second (the_second (the_second (the_second (the_second (the_first (is_one f.lexeme (ap (λ u. u ++ more) f.parts) (subst (λ s. is_of (a_word (codes "true")) s ≡ true) (sym said) refl))))))); says = refl; others = f.others }
    un_said (a_truth {b = false} k) ls h =
        let f = head ls h in
        let said = word_said f.lexeme.symbol _ k.number k.kind f.is ∙ ap word (name_of e.names k.number (codes "false") k.word) in
        record { value = inr (inr (inr (inr (inr (inr (inl tt)))))); left = f.rest; is = λ more. the_second (the_second (the_second (the_second (the_second (the_second (the_first (is_one f.lexeme (ap (λ u. u ++ more) f.parts) (subst (λ s. is_of (a_word (codes "false")) s ≡ true) (sym said) refl)))))))); says = refl; others = f.others }
    un_said (a_name {x = x} k) ls h =
        let f = head ls h in
        let said = word_said f.lexeme.symbol _ x k.kind f.is in
        let named : is_of class.a_name (word (name_in e.names x)) ≡ true = subst (λ (w : List ℕ). is_of class.a_name (word w) ≡ true) (sym (name_of e.names x k.word k.is)) (ap not k.name) in
        record { value = inr (inr (inr (inr (inr (inr (inr f.lexeme)))))); left = f.rest; is = λ more. the_second (the_second (the_second (the_second (the_second (the_second (the_second (is_one f.lexeme (ap (λ u. u ++ more) f.parts) (subst (λ s. is_of class.a_name s ≡ true) (sym said) named)))))))); says = ap Leaf said; others = f.others }
