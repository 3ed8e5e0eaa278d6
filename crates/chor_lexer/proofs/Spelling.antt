-- What the canonical text of an expression spells derives it.
use Rattle.std.proofs.Common.{◌≡◌, ◌≤◌, ℕ, ℤ, pos, suc, zero, unsigned_abs, Bool, true, false, List, [], ◌∷◌, ◌++◌, Option, Some, refl, sym, ap, ◌∙◌, subst, arith, append_assoc, nat_lt, slice_get}
use Rattle.std.specs.Prelude.{slice_index_or}
use Rattle.std.proofs.lemmas.List.{append-nil}
use Rattle.std.proofs.lemmas.Bool.Decides.{nat_tests}
use Rattle.chor_base.specs.declared.names.NameId.{NameId}
use Rattle.chor_base.specs.declared.value.Value.{Value}
use Rattle.chor_base.specs.declared.value.Value.TheVariants as value
use Rattle.chor_base.specs.declared.expr.UnOp.{UnOp}
use Rattle.chor_base.specs.declared.expr.BinOp.{BinOp}
use Rattle.chor_base.specs.declared.expr.BinOp.TheVariants as binop
use Rattle.chor_base.specs.Expr.{Term, Constant, Variable, Unary, Binary}
use Rattle.chor_base.specs.Words.{AllDistinct}
use Rattle.chor_base.specs.Writing.{name_in, truth_text}
use Rattle.chor_lexer.specs.declared.mark.Mark.{Mark as MarkName}
use Rattle.chor_lexer.specs.declared.mark.Mark.TheVariants.{OpenParen, CloseParen}
use Rattle.chor_lexer.specs.declared.token.Kind.{Kind}
use Rattle.chor_lexer.specs.declared.token.Kind.TheVariants.{Word, Number, Text, Mark, Last}
use Rattle.chor_lexer.specs.declared.token.Token.{Token}
use Rattle.chor_lexer.specs.declared.level.Level.{Level}
use Rattle.chor_lexer.specs.declared.level.Level.TheVariants as level
use Rattle.chor_lexer.specs.Lexeme.{Symbol, word, number, text, mark}
use Rattle.chor_lexer.specs.Tokens.{Spells}
use Rattle.chor_lexer.specs.Keywords.{HasMark}
use Rattle.chor_lexer.specs.Canonical.{unary_mark, binary_mark, strength, strength_of, left_needs, right_needs}
use Rattle.chor_lexer.specs.Grammar.{OrIs, OrGoes, AndIs, AndGoes, CmpIs, SumIs, SumGoes, ProdIs, ProdGoes, UnIs, IsExpr, a_disjunction, or_done, or_more, a_conjunction, and_done, and_more, a_comparison, cmp_done, cmp_once, a_sum, sum_done, sum_more, a_product, prod_done, prod_more, a_unary, a_number, a_text, a_truth, a_name, in_parens}
use Rattle.chor_lexer.specs.Turns.{stronger, strength_at, LevelIs}
use Rattle.chor_lexer.specs.Spelling.{IsLiteral, IsSource, enclosed_symbols, operand_symbols, text_symbols, constant_symbols, expr_symbols, SpellAll}
use Rattle.chor_lexer.proofs.Longest.{by_contradiction}

-- ---- levels

-- a stronger operand is a weaker one
or_of : (names : List (List ℕ)) (ts : List Token) (x : Term) (rest : List Token) → AndIs names ts x rest → OrIs names ts x rest
or_of names ts x rest p = a_disjunction p or_done

and_of : (names : List (List ℕ)) (ts : List Token) (x : Term) (rest : List Token) → CmpIs names ts x rest → AndIs names ts x rest
and_of names ts x rest p = a_conjunction p and_done

cmp_of : (names : List (List ℕ)) (ts : List Token) (x : Term) (rest : List Token) → SumIs names ts x rest → CmpIs names ts x rest
cmp_of names ts x rest p = a_comparison p cmp_done

sum_of : (names : List (List ℕ)) (ts : List Token) (x : Term) (rest : List Token) → ProdIs names ts x rest → SumIs names ts x rest
sum_of names ts x rest p = a_sum p sum_done

prod_of : (names : List (List ℕ)) (ts : List Token) (x : Term) (rest : List Token) → UnIs names ts x rest → ProdIs names ts x rest
prod_of names ts x rest p = a_product p prod_done

weaker : (names : List (List ℕ)) (l m : Level) (ts : List Token) (x : Term) (rest : List Token) → strength_at l ≤ strength_at m → LevelIs names m ts x rest → LevelIs names l ts x rest
weaker names level.Or level.Or ts x rest h p = p
weaker names level.Or level.And ts x rest h p = or_of names ts x rest p
weaker names level.Or level.Cmp ts x rest h p = or_of names ts x rest (and_of names ts x rest p)
weaker names level.Or level.Sum ts x rest h p = or_of names ts x rest (and_of names ts x rest (cmp_of names ts x rest p))
weaker names level.Or level.Prod ts x rest h p = or_of names ts x rest (and_of names ts x rest (cmp_of names ts x rest (sum_of names ts x rest p)))
weaker names level.Or level.Un ts x rest h p = or_of names ts x rest (and_of names ts x rest (cmp_of names ts x rest (sum_of names ts x rest (prod_of names ts x rest p))))
weaker names level.And level.Or ts x rest h p = absurd (omega arith)
weaker names level.And level.And ts x rest h p = p
weaker names level.And level.Cmp ts x rest h p = and_of names ts x rest p
weaker names level.And level.Sum ts x rest h p = and_of names ts x rest (cmp_of names ts x rest p)
weaker names level.And level.Prod ts x rest h p = and_of names ts x rest (cmp_of names ts x rest (sum_of names ts x rest p))
weaker names level.And level.Un ts x rest h p = and_of names ts x rest (cmp_of names ts x rest (sum_of names ts x rest (prod_of names ts x rest p)))
weaker names level.Cmp level.Or ts x rest h p = absurd (omega arith)
weaker names level.Cmp level.And ts x rest h p = absurd (omega arith)
weaker names level.Cmp level.Cmp ts x rest h p = p
weaker names level.Cmp level.Sum ts x rest h p = cmp_of names ts x rest p
weaker names level.Cmp level.Prod ts x rest h p = cmp_of names ts x rest (sum_of names ts x rest p)
weaker names level.Cmp level.Un ts x rest h p = cmp_of names ts x rest (sum_of names ts x rest (prod_of names ts x rest p))
weaker names level.Sum level.Or ts x rest h p = absurd (omega arith)
weaker names level.Sum level.And ts x rest h p = absurd (omega arith)
weaker names level.Sum level.Cmp ts x rest h p = absurd (omega arith)
weaker names level.Sum level.Sum ts x rest h p = p
weaker names level.Sum level.Prod ts x rest h p = sum_of names ts x rest p
weaker names level.Sum level.Un ts x rest h p = sum_of names ts x rest (prod_of names ts x rest p)
weaker names level.Prod level.Or ts x rest h p = absurd (omega arith)
weaker names level.Prod level.And ts x rest h p = absurd (omega arith)
weaker names level.Prod level.Cmp ts x rest h p = absurd (omega arith)
weaker names level.Prod level.Sum ts x rest h p = absurd (omega arith)
weaker names level.Prod level.Prod ts x rest h p = p
weaker names level.Prod level.Un ts x rest h p = prod_of names ts x rest p
weaker names level.Un level.Or ts x rest h p = absurd (omega arith)
weaker names level.Un level.And ts x rest h p = absurd (omega arith)
weaker names level.Un level.Cmp ts x rest h p = absurd (omega arith)
weaker names level.Un level.Sum ts x rest h p = absurd (omega arith)
weaker names level.Un level.Prod ts x rest h p = absurd (omega arith)
weaker names level.Un level.Un ts x rest h p = p

-- ---- one operator more, to the right

or_snoc : (names : List (List ℕ)) (c : Term) (ts : List Token) (a : Term) (r : List Token) → OrGoes names c ts a r → (t : Token) (mid : List Token) (op : BinOp) (b : Term) (rest : List Token) → r ≡ t ∷ mid → strength op ≡ 1 → HasMark (binary_mark op) t → AndIs names mid b rest → OrGoes names c ts (Binary op a b) rest
or_snoc names c ts a r or_done t mid op b rest q e h p = subst (λ l. OrGoes names c l (Binary op a b) rest) (sym q) (or_more e h p or_done)
or_snoc names c ts a r (or_more f i o g) t mid op b rest q e h p = or_more f i o (or_snoc names _ _ a r g t mid op b rest q e h p)

or_join : (names : List (List ℕ)) (ts : List Token) (a : Term) (t : Token) (mid : List Token) (op : BinOp) (b : Term) (rest : List Token) → OrIs names ts a (t ∷ mid) → strength op ≡ 1 → HasMark (binary_mark op) t → AndIs names mid b rest → OrIs names ts (Binary op a b) rest
or_join names ts a t mid op b rest (a_disjunction o g) e h p = a_disjunction o (or_snoc names _ _ a (t ∷ mid) g t mid op b rest refl e h p)

and_snoc : (names : List (List ℕ)) (c : Term) (ts : List Token) (a : Term) (r : List Token) → AndGoes names c ts a r → (t : Token) (mid : List Token) (op : BinOp) (b : Term) (rest : List Token) → r ≡ t ∷ mid → strength op ≡ 2 → HasMark (binary_mark op) t → CmpIs names mid b rest → AndGoes names c ts (Binary op a b) rest
and_snoc names c ts a r and_done t mid op b rest q e h p = subst (λ l. AndGoes names c l (Binary op a b) rest) (sym q) (and_more e h p and_done)
and_snoc names c ts a r (and_more f i o g) t mid op b rest q e h p = and_more f i o (and_snoc names _ _ a r g t mid op b rest q e h p)

and_join : (names : List (List ℕ)) (ts : List Token) (a : Term) (t : Token) (mid : List Token) (op : BinOp) (b : Term) (rest : List Token) → AndIs names ts a (t ∷ mid) → strength op ≡ 2 → HasMark (binary_mark op) t → CmpIs names mid b rest → AndIs names ts (Binary op a b) rest
and_join names ts a t mid op b rest (a_conjunction o g) e h p = a_conjunction o (and_snoc names _ _ a (t ∷ mid) g t mid op b rest refl e h p)

sum_snoc : (names : List (List ℕ)) (c : Term) (ts : List Token) (a : Term) (r : List Token) → SumGoes names c ts a r → (t : Token) (mid : List Token) (op : BinOp) (b : Term) (rest : List Token) → r ≡ t ∷ mid → strength op ≡ 4 → HasMark (binary_mark op) t → ProdIs names mid b rest → SumGoes names c ts (Binary op a b) rest
sum_snoc names c ts a r sum_done t mid op b rest q e h p = subst (λ l. SumGoes names c l (Binary op a b) rest) (sym q) (sum_more e h p sum_done)
sum_snoc names c ts a r (sum_more f i o g) t mid op b rest q e h p = sum_more f i o (sum_snoc names _ _ a r g t mid op b rest q e h p)

sum_join : (names : List (List ℕ)) (ts : List Token) (a : Term) (t : Token) (mid : List Token) (op : BinOp) (b : Term) (rest : List Token) → SumIs names ts a (t ∷ mid) → strength op ≡ 4 → HasMark (binary_mark op) t → ProdIs names mid b rest → SumIs names ts (Binary op a b) rest
sum_join names ts a t mid op b rest (a_sum o g) e h p = a_sum o (sum_snoc names _ _ a (t ∷ mid) g t mid op b rest refl e h p)

prod_snoc : (names : List (List ℕ)) (c : Term) (ts : List Token) (a : Term) (r : List Token) → ProdGoes names c ts a r → (t : Token) (mid : List Token) (op : BinOp) (b : Term) (rest : List Token) → r ≡ t ∷ mid → strength op ≡ 5 → HasMark (binary_mark op) t → UnIs names mid b rest → ProdGoes names c ts (Binary op a b) rest
prod_snoc names c ts a r prod_done t mid op b rest q e h p = subst (λ l. ProdGoes names c l (Binary op a b) rest) (sym q) (prod_more e h p prod_done)
prod_snoc names c ts a r (prod_more f i o g) t mid op b rest q e h p = prod_more f i o (prod_snoc names _ _ a r g t mid op b rest q e h p)

prod_join : (names : List (List ℕ)) (ts : List Token) (a : Term) (t : Token) (mid : List Token) (op : BinOp) (b : Term) (rest : List Token) → ProdIs names ts a (t ∷ mid) → strength op ≡ 5 → HasMark (binary_mark op) t → UnIs names mid b rest → ProdIs names ts (Binary op a b) rest
prod_join names ts a t mid op b rest (a_product o g) e h p = a_product o (prod_snoc names _ _ a (t ∷ mid) g t mid op b rest refl e h p)

abbrev level_of : BinOp → Level
level_of binop.Add = level.Sum
level_of binop.Sub = level.Sum
level_of binop.Mul = level.Prod
level_of binop.Div = level.Prod
level_of binop.Eq = level.Cmp
level_of binop.Ne = level.Cmp
level_of binop.Lt = level.Cmp
level_of binop.Le = level.Cmp
level_of binop.And = level.And
level_of binop.Or = level.Or

-- the level of an operand to the left that has no parentheses
abbrev left_level : BinOp → Level
left_level binop.Add = level.Sum
left_level binop.Sub = level.Sum
left_level binop.Mul = level.Prod
left_level binop.Div = level.Prod
left_level binop.Eq = level.Sum
left_level binop.Ne = level.Sum
left_level binop.Lt = level.Sum
left_level binop.Le = level.Sum
left_level binop.And = level.And
left_level binop.Or = level.Or

level_strength : (op : BinOp) → strength_at (level_of op) ≡ strength op
level_strength binop.Add = refl
level_strength binop.Sub = refl
level_strength binop.Mul = refl
level_strength binop.Div = refl
level_strength binop.Eq = refl
level_strength binop.Ne = refl
level_strength binop.Lt = refl
level_strength binop.Le = refl
level_strength binop.And = refl
level_strength binop.Or = refl

left_strength : (op : BinOp) → strength_at (left_level op) ≡ left_needs op
left_strength binop.Add = refl
left_strength binop.Sub = refl
left_strength binop.Mul = refl
left_strength binop.Div = refl
left_strength binop.Eq = refl
left_strength binop.Ne = refl
left_strength binop.Lt = refl
left_strength binop.Le = refl
left_strength binop.And = refl
left_strength binop.Or = refl

right_strength : (op : BinOp) → strength_at (stronger (level_of op)) ≡ right_needs op
right_strength binop.Add = refl
right_strength binop.Sub = refl
right_strength binop.Mul = refl
right_strength binop.Div = refl
right_strength binop.Eq = refl
right_strength binop.Ne = refl
right_strength binop.Lt = refl
right_strength binop.Le = refl
right_strength binop.And = refl
right_strength binop.Or = refl

joined : (names : List (List ℕ)) (op : BinOp) (ts : List Token) (a : Term) (t : Token) (mid : List Token) (b : Term) (rest : List Token) → LevelIs names (left_level op) ts a (t ∷ mid) → HasMark (binary_mark op) t → LevelIs names (stronger (level_of op)) mid b rest → LevelIs names (level_of op) ts (Binary op a b) rest
joined names binop.Add ts a t mid b rest p h q = sum_join names ts a t mid binop.Add b rest p refl h q
joined names binop.Sub ts a t mid b rest p h q = sum_join names ts a t mid binop.Sub b rest p refl h q
joined names binop.Mul ts a t mid b rest p h q = prod_join names ts a t mid binop.Mul b rest p refl h q
joined names binop.Div ts a t mid b rest p h q = prod_join names ts a t mid binop.Div b rest p refl h q
joined names binop.Eq ts a t mid b rest p h q = a_comparison p (cmp_once refl h q)
joined names binop.Ne ts a t mid b rest p h q = a_comparison p (cmp_once refl h q)
joined names binop.Lt ts a t mid b rest p h q = a_comparison p (cmp_once refl h q)
joined names binop.Le ts a t mid b rest p h q = a_comparison p (cmp_once refl h q)
joined names binop.And ts a t mid b rest p h q = and_join names ts a t mid binop.And b rest p refl h q
joined names binop.Or ts a t mid b rest p h q = or_join names ts a t mid binop.Or b rest p refl h q

-- the level of an expression
abbrev own : Term → Level
own (Constant v) = level.Un
own (Variable x) = level.Un
own (Unary op e) = level.Un
own (Binary op e f) = level_of op

own_strength : (x : Term) → strength_at (own x) ≡ strength_of x
own_strength (Constant v) = refl
own_strength (Variable x) = refl
own_strength (Unary op e) = refl
own_strength (Binary op e f) = level_strength op

-- ---- tokens that spell symbols

-- the first tokens spell an expression of a level, and the others these symbols
record Derived (names texts : List (List ℕ)) (l : Level) (x : Term) (ts : List Token) (ss : List Symbol) : Type 0 where
  rest : List Token
  is : LevelIs names l ts x rest
  others : SpellAll names texts rest ss

-- the first token spells this symbol
record First (names texts : List (List ℕ)) (s : Symbol) (ss : List Symbol) (ts : List Token) : Type 0 where
  token : Token
  rest : List Token
  parts : ts ≡ token ∷ rest
  is : Spells names texts token.kind s
  others : SpellAll names texts rest ss

first : (names texts : List (List ℕ)) (s : Symbol) (ss : List Symbol) (ts : List Token) → SpellAll names texts ts (s ∷ ss) → First names texts s ss ts
first names texts s ss [] h = absurd h
first names texts s ss (t ∷ ts) h = record { token = t; rest = ts; parts = refl; is = h.0; others = h.1 }

mark_is : (names texts : List (List ℕ)) (k : Kind) (m : MarkName) → Spells names texts k (mark m) → k ≡ Mark m
mark_is names texts (Mark n) m h = ap Mark h
mark_is names texts (Word n) m h = absurd h
mark_is names texts (Number z) m h = absurd h
mark_is names texts (Text n) m h = absurd h
mark_is names texts Last m h = absurd h

-- the number of a word
record Numbered (names : List (List ℕ)) (k : Kind) (w : List ℕ) : Type 0 where
  number : NameId
  kind : k ≡ Word number
  is : slice_get names number.0 ≡ Some w

word_is : (names texts : List (List ℕ)) (k : Kind) (w : List ℕ) → Spells names texts k (word w) → Numbered names k w
word_is names texts (Word n) w h = record { number = n; kind = refl; is = h }
word_is names texts (Number z) w h = absurd h
word_is names texts (Text n) w h = absurd h
word_is names texts (Mark m) w h = absurd h
word_is names texts Last w h = absurd h

number_is : (names texts : List (List ℕ)) (k : Kind) (n : ℕ) → Spells names texts k (number n) → k ≡ Number (pos n)
number_is names texts (Number z) n h = ap Number h
number_is names texts (Word x) n h = absurd h
number_is names texts (Text x) n h = absurd h
number_is names texts (Mark m) n h = absurd h
number_is names texts Last n h = absurd h

text_is : (names texts : List (List ℕ)) (k : Kind) (b : List ℕ) (t : ℕ) → AllDistinct texts → slice_get texts t ≡ Some b → Spells names texts k (text b) → k ≡ Text t
text_is names texts (Text n) b t d s h = ap Text (d n t b h s)
text_is names texts (Word x) b t d s h = absurd h
text_is names texts (Number z) b t d s h = absurd h
text_is names texts (Mark m) b t d s h = absurd h
text_is names texts Last b t d s h = absurd h

-- ---- one expression

pub name_of : (names : List (List ℕ)) (x : NameId) (w : List ℕ) → slice_get names x.0 ≡ Some w → name_in names x ≡ w
name_of names x w e = go names x.0 w e
  where
    go : (ws : List (List ℕ)) (i : ℕ) (w : List ℕ) → slice_get ws i ≡ Some w → slice_index_or ws i [] ≡ w
    go [] i w e = absurd cc
    go (v ∷ ws) zero w e = cc
    go (v ∷ ws) (suc i) w e = go ws i w e

constant_derives : (names texts : List (List ℕ)) (v : Value) (ts : List Token) (ss : List Symbol) → AllDistinct texts → IsLiteral names texts v → SpellAll names texts ts (constant_symbols texts v ++ ss) → Derived names texts level.Un (Constant v) ts ss
constant_derives names texts (value.Int z) ts ss d ok h =
    let s : SpellAll names texts ts (number ok.0 ∷ ss) = subst (λ (y : ℤ). SpellAll names texts ts (number (unsigned_abs y) ∷ ss)) ok.1 h in
    let f = first names texts (number ok.0) ss ts s in
    let is : UnIs names (f.token ∷ f.rest) (Constant (value.Int (pos ok.0))) f.rest = a_number (number_is names texts f.token.kind ok.0 f.is) in
    record { rest = f.rest; is = subst (λ (y : ℤ). UnIs names ts (Constant (value.Int y)) f.rest) (sym ok.1) (subst (λ l. UnIs names l (Constant (value.Int (pos ok.0))) f.rest) (sym f.parts) is); others = f.others }
constant_derives names texts (value.Bool b) ts ss d ok h =
    let f = first names texts (word (truth_text b)) ss ts h in
    let n = word_is names texts f.token.kind (truth_text b) f.is in
    let is : UnIs names (f.token ∷ f.rest) (Constant (value.Bool b)) f.rest = a_truth (record { number = n.number; kind = n.kind; word = n.is }) in
    record { rest = f.rest; is = subst (λ l. UnIs names l (Constant (value.Bool b)) f.rest) (sym f.parts) is; others = f.others }
constant_derives names texts (value.Text t) ts ss d ok h =
    let s : SpellAll names texts ts (text ok.0 ∷ ss) = subst (λ (o : Option (List ℕ)). SpellAll names texts ts (text_symbols o ++ ss)) ok.1 h in
    let f = first names texts (text ok.0) ss ts s in
    let is : UnIs names (f.token ∷ f.rest) (Constant (value.Text t)) f.rest = a_text (text_is names texts f.token.kind ok.0 t d ok.1 f.is) in
    record { rest = f.rest; is = subst (λ l. UnIs names l (Constant (value.Text t)) f.rest) (sym f.parts) is; others = f.others }
constant_derives names texts (value.Part s r) ts ss d ok h = absurd ok

variable_derives : (names texts : List (List ℕ)) (x : NameId) (ts : List Token) (ss : List Symbol) → AllDistinct names → IsSource names texts (Variable x) → SpellAll names texts ts (word (name_in names x) ∷ ss) → Derived names texts level.Un (Variable x) ts ss
variable_derives names texts x ts ss d ok h =
    let s : SpellAll names texts ts (word ok.0 ∷ ss) = subst (λ (w : List ℕ). SpellAll names texts ts (word w ∷ ss)) (name_of names x ok.0 ok.1) h in
    let f = first names texts (word ok.0) ss ts s in
    let n = word_is names texts f.token.kind ok.0 f.is in
    let same : n.number.0 ≡ x.0 = d n.number.0 x.0 ok.0 n.is ok.1 in
    let whole : n.number ≡ x = ap (λ (i : ℕ). record { 0 = i }) same in
    let is : UnIs names (f.token ∷ f.rest) (Variable x) f.rest = a_name (record { word = ok.0; kind = n.kind ∙ ap Word whole; is = ok.1; name = ok.2 }) in
    record { rest = f.rest; is = subst (λ l. UnIs names l (Variable x) f.rest) (sym f.parts) is; others = f.others }

-- an operand, in parentheses where it is weak
operand_derives : (names texts : List (List ℕ)) (x : Term) (l : Level) (needed : ℕ) (ts : List Token) (ss : List Symbol) → strength_at l ≡ needed → ((us : List Token) (qs : List Symbol) → SpellAll names texts us (expr_symbols names texts x ++ qs) → Derived names texts (own x) x us qs) → SpellAll names texts ts (operand_symbols needed (strength_of x) (expr_symbols names texts x) ++ ss) → Derived names texts l x ts ss
operand_derives names texts x l needed ts ss e derives h = go (nat_lt (strength_of x) needed) refl h
  where
    go : (b : Bool) → nat_lt (strength_of x) needed ≡ b → SpellAll names texts ts (enclosed_symbols b (expr_symbols names texts x) ++ ss) → Derived names texts l x ts ss
    go true q k =
        let same = append_assoc (expr_symbols names texts x) (mark CloseParen ∷ []) ss in
        let f = first names texts (mark OpenParen) _ ts k in
        let d = derives f.rest (mark CloseParen ∷ ss) (subst (SpellAll names texts f.rest) same f.others) in
        let c = first names texts (mark CloseParen) ss d.rest d.others in
        let inner : LevelIs names level.Or f.rest x (c.token ∷ c.rest) = weaker names level.Or (own x) f.rest x (c.token ∷ c.rest) (least (own x)) (subst (LevelIs names (own x) f.rest x) c.parts d.is) in
        let is : UnIs names (f.token ∷ f.rest) x c.rest = in_parens (mark_is names texts f.token.kind OpenParen f.is) inner (mark_is names texts c.token.kind CloseParen c.is) in
        record { rest = c.rest; is = weaker names l level.Un ts x c.rest (most l) (subst (λ i. UnIs names i x c.rest) (sym f.parts) is); others = c.others }
      where
        least : (m : Level) → 1 ≤ strength_at m
        least level.Or = omega arith
        least level.And = omega arith
        least level.Cmp = omega arith
        least level.Sum = omega arith
        least level.Prod = omega arith
        least level.Un = omega arith

        most : (m : Level) → strength_at m ≤ 6
        most level.Or = omega arith
        most level.And = omega arith
        most level.Cmp = omega arith
        most level.Sum = omega arith
        most level.Prod = omega arith
        most level.Un = omega arith
    go false q k =
        let d = derives ts ss k in
        let enough : needed ≤ strength_of x = by_contradiction needed (strength_of x) (λ less. grind (arith, nat_tests)) in
        record { rest = d.rest; is = weaker names l (own x) ts x d.rest (omega (arith, own_strength x, e)) d.is; others = d.others }

unary_derives : (names texts : List (List ℕ)) (op : UnOp) (x : Term) (ts : List Token) (ss : List Symbol) → ((us : List Token) (qs : List Symbol) → SpellAll names texts us (expr_symbols names texts x ++ qs) → Derived names texts (own x) x us qs) → SpellAll names texts ts (expr_symbols names texts (Unary op x) ++ ss) → Derived names texts level.Un (Unary op x) ts ss
unary_derives names texts op x ts ss derives h =
    let f = first names texts (mark (unary_mark op)) _ ts h in
    let d = operand_derives names texts x level.Un 6 f.rest ss refl derives f.others in
    let is : UnIs names (f.token ∷ f.rest) (Unary op x) d.rest = a_unary (mark_is names texts f.token.kind (unary_mark op) f.is) d.is in
    record { rest = d.rest; is = subst (λ l. UnIs names l (Unary op x) d.rest) (sym f.parts) is; others = d.others }

binary_derives : (names texts : List (List ℕ)) (op : BinOp) (x y : Term) (ts : List Token) (ss : List Symbol) → ((us : List Token) (qs : List Symbol) → SpellAll names texts us (expr_symbols names texts x ++ qs) → Derived names texts (own x) x us qs) → ((us : List Token) (qs : List Symbol) → SpellAll names texts us (expr_symbols names texts y ++ qs) → Derived names texts (own y) y us qs) → SpellAll names texts ts (expr_symbols names texts (Binary op x y) ++ ss) → Derived names texts (level_of op) (Binary op x y) ts ss
binary_derives names texts op x y ts ss first_derives second_derives h =
    let lefts = operand_symbols (left_needs op) (strength_of x) (expr_symbols names texts x) in
    let rights = operand_symbols (right_needs op) (strength_of y) (expr_symbols names texts y) in
    let whole : SpellAll names texts ts (lefts ++ (mark (binary_mark op) ∷ rights ++ ss)) = subst (SpellAll names texts ts) (append_assoc lefts (mark (binary_mark op) ∷ rights) ss) h in
    let a = operand_derives names texts x (left_level op) (left_needs op) ts (mark (binary_mark op) ∷ rights ++ ss) (left_strength op) first_derives whole in
    let f = first names texts (mark (binary_mark op)) (rights ++ ss) a.rest a.others in
    let b = operand_derives names texts y (stronger (level_of op)) (right_needs op) f.rest ss (right_strength op) second_derives f.others in
    record {
      rest = b.rest;
      is = joined names op ts x f.token f.rest y b.rest (subst (LevelIs names (left_level op) ts x) f.parts a.is) (mark_is names texts f.token.kind (binary_mark op) f.is) b.is;
      others = b.others;
    }

derived : (names texts : List (List ℕ)) (x : Term) → AllDistinct names → AllDistinct texts → IsSource names texts x → (ts : List Token) (ss : List Symbol) → SpellAll names texts ts (expr_symbols names texts x ++ ss) → Derived names texts (own x) x ts ss
derived names texts (Constant v) d e ok ts ss h = constant_derives names texts v ts ss e ok h
derived names texts (Variable x) d e ok ts ss h = variable_derives names texts x ts ss d ok h
derived names texts (Unary op x) d e ok ts ss h = unary_derives names texts op x ts ss (λ us qs k. derived names texts x d e ok us qs k) h
derived names texts (Binary op x y) d e ok ts ss h = binary_derives names texts op x y ts ss (λ us qs k. derived names texts x d e ok.0 us qs k) (λ us qs k. derived names texts y d e ok.1 us qs k) h

least_level : (m : Level) → 1 ≤ strength_at m
least_level level.Or = omega arith
least_level level.And = omega arith
least_level level.Cmp = omega arith
least_level level.Sum = omega arith
least_level level.Prod = omega arith
least_level level.Un = omega arith

-- tokens that spell the symbols of the canonical text are the expression
pub symbols_read_back : (names texts : List (List ℕ)) (x : Term) (ts : List Token) → AllDistinct names → AllDistinct texts → IsSource names texts x → SpellAll names texts ts (expr_symbols names texts x) → IsExpr names ts x
symbols_read_back names texts x ts d e ok h =
    let k : SpellAll names texts ts (expr_symbols names texts x ++ []) = subst (SpellAll names texts ts) (sym (append-nil (expr_symbols names texts x))) h in
    let r = derived names texts x d e ok ts [] k in
    whole r.rest r.others (weaker names level.Or (own x) ts x r.rest (least_level (own x)) r.is)
  where
    whole : (rest : List Token) → SpellAll names texts rest [] → OrIs names ts x rest → IsExpr names ts x
    whole [] n p = p
    whole (t ∷ rest) n p = absurd n
