-- Expressions: what the data derives, the relations say.
use Rattle.std.proofs.Common.{◌≡◌, ◌<◌, ◌≤◌, ◌-◌, zero, suc, ℕ, pos, negsuc, Bool, true, false, List, [], ◌∷◌, length, Some, None, refl, sym, ap, ◌∙◌, subst, arith}
use Rattle.std.specs.Prelude.{slice_get}
use Rattle.std.proofs.lemmas.List.{length-map}
use Rattle.chor_base.specs.declared.rule.Rule.{Rule}
use Rattle.chor_base.specs.declared.rule.Rule.TheVariants.{P2}
use Rattle.chor_base.specs.declared.value.Value.TheVariants as value
use Rattle.chor_base.specs.declared.expr.UnOp.TheVariants as unop
use Rattle.chor_base.specs.declared.expr.BinOp.{BinOp}
use Rattle.chor_base.specs.declared.expr.BinOp.TheVariants as binop
use Rattle.chor_base.specs.Expr.{Term, Constant, Variable, Unary, Binary}
use Rattle.chor_lexer.specs.declared.mark.Mark.TheVariants as sign
use Rattle.chor_lexer.specs.declared.token.Kind.{Kind}
use Rattle.chor_lexer.specs.declared.token.Kind.TheVariants as kind
use Rattle.chor_lexer.specs.declared.token.Token.{Token}
use Rattle.chor_lexer.specs.Lexeme.{Lexeme}
use Rattle.chor_lexer.specs.Grammar as ex
use Rattle.chor_lexer.specs.Canonical.{binary_mark, strength}
use Rattle.chor_lexer.specs.Keywords.{HasMark}
use Rattle.chor_lexer.specs.declared.mark.Mark.{Mark}
use Rattle.grammar.specs.Classes.{a_number, a_text, is_of}
use Rattle.grammar.specs.Grammars.{Allowed, Derives, Value, Rules, AreFew, no_token, a_token, is_empty, is_one, in_turn, the_first, the_second, none_of_many, one_of_many, in_short, by_rule, many, one, seq, empty}
use Rattle.grammar.proofs.Progress.{no_longer, shorter as shorter_by}
use Rattle.source_rows.specs.Sources.{Source, Nonterminal, level, mark, un, product, sum, comparison, conjunction, disjunction, expr, operators, comparisons}
use Rattle.source_rows.specs.Values.{Tables, Derived, rules, leaf_of, grouped, product_op, sum_op, comparison_op, product_term, sum_term, comparison_term, conjunction_term, term, number_of, name, id_of}
use Rattle.source_grammar.specs.Grammar.{MarkIs, WordIs, NameIs}
use Rattle.chor_base.specs.Writing.{truth_text}
use Rattle.source_grammar.specs.Expressions.{KeepsLength}
use Rattle.source_bridge.specs.Bridge.{lexeme_of, lexed, symbol_of, kind_there, There, AreTables, ByRelation}
use Rattle.source_bridge.proofs.Terminals.{from_mark, from_word, from_name, first_of, of_token, place_in, within_of}

few_from : (i : Tables) (Q : Allowed) (e : Rule) (n : ℕ) (ts rest : List Token) (ls us : List Lexeme) → ls ≡ lexed i ts → us ≡ lexed i rest → AreFew Q e (Some n) ls us → (t : Token) → n < length ts - length rest → slice_get ts n ≡ Some t → Q e t.place
few_from i Q e n ts rest ls us p q (no_token s) t h g =
    let a : length ts ≡ length rest = sym (length-map ts (lexeme_of i)) ∙ ap length (sym p ∙ s ∙ q) ∙ length-map rest (lexeme_of i) in
    absurd (omega (arith, h, a))
few_from i Q e n [] rest ls us p q (a_token l s room k) t h g = absurd (omega (arith, h))
few_from i Q e zero (u ∷ ts) rest ls us p q (a_token {us = vs} l s room k) t h g =
    let f : lexeme_of i u ∷ lexed i ts ≡ l ∷ vs = sym p ∙ s in
    let a : lexeme_of i u ≡ l = cc in
    let b : u ≡ t = cc in
    subst (λ (x : Token). Q e x.place) b (subst (λ (x : Lexeme). Q e x.place) (sym a) (room refl))
few_from i Q e (suc n) (u ∷ ts) rest ls us p q (a_token {us = vs} l s room k) t h g =
    let f : lexeme_of i u ∷ lexed i ts ≡ l ∷ vs = sym p ∙ s in
    let b : lexed i ts ≡ vs = cc in
    few_from i Q e n ts rest vs us (sym b) q k t (omega (arith, h)) g

pub at_most : (r : Rules Nonterminal) {Q : Allowed} {g : Source} {ls us : List Lexeme} {x : Value r.V g} {n : ℕ} → Derives r Q g ls x us → length ls ≤ n → length us ≤ n
at_most r {ls = ls} {us = us} d w = omega (arith, no_longer r d, w)

pub shorter : {l : Lexeme} {ls us : List Lexeme} {n : ℕ} → ls ≡ l ∷ us → length ls ≤ suc n → length us ≤ n
shorter {l} {ls} {us} {n} p w = let q : length ls ≡ suc (length us) = ap length p in omega (arith, w, q)

module _ (i : Tables) (z : AreTables i) (Q : Allowed) where
  -- ---- numbers and texts

  number_at : (t : Token) → kind_there i t.kind ≡ true → is_of a_number (symbol_of i t.kind) ≡ true → t.kind ≡ kind.Number (pos (number_of i (symbol_of i t.kind)))
  number_at t k h = go t.kind k h
    where
      go : (q : Kind) → kind_there i q ≡ true → is_of a_number (symbol_of i q) ≡ true → q ≡ kind.Number (pos (number_of i (symbol_of i q)))
      go (kind.Number (pos n)) k h = refl
      go (kind.Number (negsuc n)) k h = absurd cc
      go (kind.Word n) k h = absurd cc
      go (kind.Text n) k h = absurd cc
      go (kind.Mark n) k h = absurd cc
      go kind.Last k h = absurd cc

  text_at : (t : Token) → kind_there i t.kind ≡ true → is_of a_text (symbol_of i t.kind) ≡ true → t.kind ≡ kind.Text (number_of i (symbol_of i t.kind))
  text_at t k h = go t.kind k h
    where
      go : (q : Kind) → kind_there i q ≡ true → is_of a_text (symbol_of i q) ≡ true → q ≡ kind.Text (number_of i (symbol_of i q))
      go (kind.Text n) k h = ap kind.Text (sym (place_in i.texts n z.texts (within_of n (length i.texts) k)))
      go (kind.Number n) k h = absurd cc
      go (kind.Word n) k h = absurd cc
      go (kind.Mark n) k h = absurd cc
      go kind.Last k h = absurd cc

  abbrev From : ((ts : List Token) → Term → List Token → Type 0) → List Token → Term → List Lexeme → Type 0
  From R ts x us = ByRelation i R ts x us

  from_number : {ls us : List Lexeme} {l : Lexeme} {ts : List Token} → Derives (rules i) Q (one a_number) ls l us → ls ≡ lexed i ts → There i ts → From (ex.UnIs i.words) ts (Constant (value.Int (pos (number_of i l.symbol)))) us
  from_number {ts = ts} (is_one {ts = ls} {rest = us} l p j) e h =
      let f = first_of i ts ls l us e p h in
      let n = number_at f.token f.known (of_token i a_number l f.token f.is j) in
      let m = n ∙ ap (λ (x : Lexeme). kind.Number (pos (number_of i x.symbol))) (sym f.is) in
      record { rest = f.rest; is = subst (λ (a : List Token). ex.UnIs i.words a (Constant (value.Int (pos (number_of i l.symbol)))) f.rest) (sym f.parts) (ex.a_number m); left = f.left; there = f.there }

  from_text : {ls us : List Lexeme} {l : Lexeme} {ts : List Token} → Derives (rules i) Q (one a_text) ls l us → ls ≡ lexed i ts → There i ts → From (ex.UnIs i.words) ts (Constant (value.Text (number_of i l.symbol))) us
  from_text {ts = ts} (is_one {ts = ls} {rest = us} l p j) e h =
      let f = first_of i ts ls l us e p h in
      let n = text_at f.token f.known (of_token i a_text l f.token f.is j) in
      let m = n ∙ ap (λ (x : Lexeme). kind.Text (number_of i x.symbol)) (sym f.is) in
      record { rest = f.rest; is = subst (λ (a : List Token). ex.UnIs i.words a (Constant (value.Text (number_of i l.symbol))) f.rest) (sym f.parts) (ex.a_text m); left = f.left; there = f.there }

  -- an operator of comparisons
  record Compared (k : ℕ) (ts : List Token) (op : BinOp) (us : List Lexeme) : Type 0 where
    token : Token
    rest : List Token
    parts : ts ≡ token ∷ rest
    strong : strength op ≡ k
    is : HasMark (binary_mark op) token
    left : us ≡ lexed i rest
    there : There i rest

  compared_by : (k : ℕ) {m : Mark} {ls us : List Lexeme} {x : Unit {0}} (op : BinOp) {ts : List Token} → binary_mark op ≡ m → strength op ≡ k → Derives (rules i) Q (mark m) ls x us → ls ≡ lexed i ts → There i ts → Compared k ts op us
  compared_by k op b s d e h = let q = from_mark i z Q d e h in record { token = q.is.token; rest = q.rest; parts = q.is.parts; strong = s; is = q.is.is ∙ ap kind.Mark (sym b); left = q.left; there = q.there }

  compared : {ls us : List Lexeme} {x : Derived (operators comparisons)} {ts : List Token} → Derives (rules i) Q (operators comparisons) ls x us → ls ≡ lexed i ts → There i ts → Compared 3 ts (comparison_op x) us
  compared (the_first d) e h = compared_by 3 binop.Eq refl refl d e h
  compared (the_second (the_first d)) e h = compared_by 3 binop.Ne refl refl d e h
  compared (the_second (the_second (the_first d))) e h = compared_by 3 binop.Lt refl refl d e h
  compared (the_second (the_second (the_second d))) e h = compared_by 3 binop.Le refl refl d e h

  cmp_none : {ls us : List Lexeme} (a : Term) {x : Unit {0}} {ts : List Token} → Derives (rules i) Q empty ls x us → ls ≡ lexed i ts → There i ts → From (λ t y r. ex.CmpGoes i.words a t y r) ts a us
  cmp_none a {ts = ts} is_empty e h = record { rest = ts; is = ex.cmp_done; left = e; there = h }

  shift : (R : List Token → Term → List Token → Type 0) {ts us rest : List Token} {x : Term} → ts ≡ us → R us x rest → R ts x rest
  shift R {rest = rest} {x = x} e r = subst (λ (t : List Token). R t x rest) (sym e) r

  ended : {ts us rest : List Token} {x : Term} → rest ≡ us → ex.OrIs i.words ts x rest → ex.OrIs i.words ts x us
  ended {ts} {x = x} e r = subst (λ (t : List Token). ex.OrIs i.words ts x t) e r

  negated : {ts : List Token} {mid us : List Lexeme} {w : Unit {0}} {v y : Term} → (m : ByRelation i (λ a u b. MarkIs sign.Minus a b) ts w mid) → From (ex.UnIs i.words) m.rest y us → v ≡ y → From (ex.UnIs i.words) ts (Unary unop.Neg v) us
  negated m x s = record { rest = x.rest; is = shift (ex.UnIs i.words) m.is.parts (ex.a_unary m.is.is (subst (λ (w : Term). ex.UnIs i.words m.rest w x.rest) (sym s) x.is)); left = x.left; there = x.there }

  denied : {ts : List Token} {mid us : List Lexeme} {w : Unit {0}} {v y : Term} → (m : ByRelation i (λ a u b. MarkIs sign.Not a b) ts w mid) → From (ex.UnIs i.words) m.rest y us → v ≡ y → From (ex.UnIs i.words) ts (Unary unop.Not v) us
  denied m x s = record { rest = x.rest; is = shift (ex.UnIs i.words) m.is.parts (ex.a_unary m.is.is (subst (λ (w : Term). ex.UnIs i.words m.rest w x.rest) (sym s) x.is)); left = x.left; there = x.there }

  enclosed : {ts : List Token} {mid end us : List Lexeme} {w u : Unit {0}} {v y : Term} → (m : ByRelation i (λ a u b. MarkIs sign.OpenParen a b) ts w mid) → (x : From (ex.OrIs i.words) m.rest y end) → (k : ByRelation i (λ a u b. MarkIs sign.CloseParen a b) x.rest u us) → v ≡ y → From (ex.UnIs i.words) ts v us
  enclosed {v = v} m x k s =
      let inner : ex.OrIs i.words m.rest v (k.is.token ∷ k.rest) = subst (λ (w : Term). ex.OrIs i.words m.rest w (k.is.token ∷ k.rest)) (sym s) (ended k.is.parts x.is) in
      record { rest = k.rest; is = shift (ex.UnIs i.words) m.is.parts (ex.in_parens m.is.is inner k.is.is); left = k.left; there = k.there }

  truth : (b : Bool) {ts : List Token} {us : List Lexeme} {w : Unit {0}} → ByRelation i (λ a u c. WordIs i.words (truth_text b) a c) ts w us → From (ex.UnIs i.words) ts (Constant (value.Bool b)) us
  truth b w = record { rest = w.rest; is = shift (ex.UnIs i.words) w.is.parts (ex.a_truth w.is.is); left = w.left; there = w.there }

  named : {ts : List Token} {us : List Lexeme} {l : Lexeme} → ByRelation i (λ a y b. NameIs i.words a (name i y) b) ts l us → From (ex.UnIs i.words) ts (Variable (id_of i l)) us
  named n = record { rest = n.rest; is = shift (ex.UnIs i.words) n.is.parts (ex.a_name n.is.is); left = n.left; there = n.there }

  -- ---- levels

  abbrev Reader : (g : Source) → (Derived g → Term) → (List Token → Term → List Token → Type 0) → ℕ → Type 0
  Reader g f R n = (ls us : List Lexeme) (x : Derived g) (ts : List Token) → length ls ≤ n → Derives (rules i) Q g ls x us → ls ≡ lexed i ts → There i ts → From R ts (f x) us

  abbrev Operator : ℕ → (ms : List Mark) → (Derived (operators ms) → BinOp) → Type 0
  Operator k ms op = (ls us : List Lexeme) (x : Derived (operators ms)) (ts : List Token) → Derives (rules i) Q (operators ms) ls x us → ls ≡ lexed i ts → There i ts → Compared k ts (op x) us

  -- operands with operators between them, where G says what follows the left operand, and W of both
  module _ (k : ℕ) (ms : List Mark) (op : Derived (operators ms) → BinOp) (g : Source) (f : Derived g → Term)
      (R W : List Token → Term → List Token → Type 0) (G : Term → List Token → Term → List Token → Type 0)
      (done : (a : Term) (ts : List Token) → G a ts a ts)
      (again : (t : Token) (ts mid rest : List Token) (a b x : Term) (o : BinOp) → strength o ≡ k → HasMark (binary_mark o) t → R ts b mid → G (Binary o a b) mid x rest → G a (t ∷ ts) x rest)
      (whole : (ts mid rest : List Token) (a x : Term) → R ts a mid → G a mid x rest → W ts x rest)
      (operator : Operator k ms op) (n : ℕ) (operand : Reader g f R n) where
    goes : {ls us : List Lexeme} {xs : List (Derived (seq (operators ms) g))} (a : Term) (ts : List Token) → length ls ≤ n → Derives (rules i) Q (many P2 None (seq (operators ms) g)) ls xs us → ls ≡ lexed i ts → There i ts → From (G a) ts (grouped op f a xs) us
    goes a ts l none_of_many e h = record { rest = ts; is = done a ts; left = e; there = h }
    goes a ts l (one_of_many r (in_turn {x = o} {y = b} d m) ds) e h =
        let c = operator _ _ _ ts d e h in
        let l1 = at_most (rules i) d l in
        let x = operand _ _ _ _ l1 m c.left c.there in
        let y = goes (Binary (op o) a (f b)) x.rest (at_most (rules i) m l1) ds x.left x.there in
        record { rest = y.rest; is = shift (G a) c.parts (again c.token c.rest x.rest y.rest a (f b) _ (op o) c.strong c.is x.is y.is); left = y.left; there = y.there }

    level_by : Reader (level ms g) (λ v. grouped op f (f v.0) v.1) W n
    level_by ls us _ ts l (in_turn {x = v} d m) e h =
        let x = operand _ _ _ ts l d e h in
        let y = goes (f v) x.rest (at_most (rules i) d l) m x.left x.there in
        record { rest = y.rest; is = whole ts x.rest y.rest (f v) _ x.is y.is; left = y.left; there = y.there }

  products : Operator 5 (sign.Star ∷ sign.Slash ∷ []) product_op
  products ls us _ ts (the_first d) e h = compared_by 5 binop.Mul refl refl d e h
  products ls us _ ts (the_second d) e h = compared_by 5 binop.Div refl refl d e h

  sums : Operator 4 (sign.Plus ∷ sign.Minus ∷ []) sum_op
  sums ls us _ ts (the_first d) e h = compared_by 4 binop.Add refl refl d e h
  sums ls us _ ts (the_second d) e h = compared_by 4 binop.Sub refl refl d e h

  ands : Operator 2 (sign.And ∷ []) (λ op. binop.And)
  ands ls us _ ts d e h = compared_by 2 binop.And refl refl d e h

  ors : Operator 1 (sign.Or ∷ []) (λ op. binop.Or)
  ors ls us _ ts d e h = compared_by 1 binop.Or refl refl d e h

  product_by : (n : ℕ) → Reader un (leaf_of i) (ex.UnIs i.words) n → Reader product (product_term i) (ex.ProdIs i.words) n
  product_by n rd = level_by 5 (sign.Star ∷ sign.Slash ∷ []) product_op un (leaf_of i) (ex.UnIs i.words) (ex.ProdIs i.words) (ex.ProdGoes i.words) (λ a ts. ex.prod_done) (λ t ts mid rest a b x o s m u v. ex.prod_more s m u v) (λ ts mid rest a x u v. ex.a_product u v) products n rd

  sum_by : (n : ℕ) → Reader un (leaf_of i) (ex.UnIs i.words) n → Reader sum (sum_term i) (ex.SumIs i.words) n
  sum_by n rd = level_by 4 (sign.Plus ∷ sign.Minus ∷ []) sum_op product (product_term i) (ex.ProdIs i.words) (ex.SumIs i.words) (ex.SumGoes i.words) (λ a ts. ex.sum_done) (λ t ts mid rest a b x o s m u v. ex.sum_more s m u v) (λ ts mid rest a x u v. ex.a_sum u v) sums n (product_by n rd)

  comparison_by : (n : ℕ) → Reader un (leaf_of i) (ex.UnIs i.words) n → Reader comparison (comparison_term i) (ex.CmpIs i.words) n
  comparison_by n rd ls us _ ts l (in_turn d (the_second m)) e h =
      let x = sum_by n rd _ _ _ ts l d e h in let y = cmp_none _ m x.left x.there in
      record { rest = y.rest; is = ex.a_comparison x.is y.is; left = y.left; there = y.there }
  comparison_by n rd ls us _ ts l (in_turn {x = v} d (the_first (in_turn o b))) e h =
      let x = sum_by n rd _ _ _ ts l d e h in
      let k = compared o x.left x.there in
      let y = sum_by n rd _ _ _ _ (at_most (rules i) o (at_most (rules i) d l)) b k.left k.there in
      record { rest = y.rest; is = ex.a_comparison x.is (shift (ex.CmpGoes i.words (sum_term i v)) k.parts (ex.cmp_once k.strong k.is y.is)); left = y.left; there = y.there }

  and_by : (n : ℕ) → Reader un (leaf_of i) (ex.UnIs i.words) n → Reader conjunction (conjunction_term i) (ex.AndIs i.words) n
  and_by n rd = level_by 2 (sign.And ∷ []) (λ op. binop.And) comparison (comparison_term i) (ex.CmpIs i.words) (ex.AndIs i.words) (ex.AndGoes i.words) (λ a ts. ex.and_done) (λ t ts mid rest a b x o s m u v. ex.and_more s m u v) (λ ts mid rest a x u v. ex.a_conjunction u v) ands n (comparison_by n rd)

  or_by : (n : ℕ) → Reader un (leaf_of i) (ex.UnIs i.words) n → Reader disjunction (term i) (ex.OrIs i.words) n
  or_by n rd = level_by 1 (sign.Or ∷ []) (λ op. binop.Or) conjunction (conjunction_term i) (ex.AndIs i.words) (ex.OrIs i.words) (ex.OrGoes i.words) (λ a ts. ex.or_done) (λ t ts mid rest a b x o s m u v. ex.or_more s m u v) (λ ts mid rest a x u v. ex.a_disjunction u v) ors n (and_by n rd)

  -- an operand, where what comes after a token is known
  un_by : (n : ℕ) → Reader un (leaf_of i) (ex.UnIs i.words) n → Reader un (leaf_of i) (ex.UnIs i.words) (suc n)
  un_by n un' ls us _ ts w (the_first (by_rule l p j d s)) e h = let m = from_mark i z Q (is_one l p j) e h in negated m (un' _ _ _ _ (shorter p w) d m.left m.there) s
  un_by n un' ls us _ ts w (the_second (the_first (by_rule l p j d s))) e h = let m = from_mark i z Q (is_one l p j) e h in denied m (un' _ _ _ _ (shorter p w) d m.left m.there) s
  un_by n un' ls us _ ts w (the_second (the_second (the_first (by_rule l p j (in_turn d c) s)))) e h =
      let m = from_mark i z Q (is_one l p j) e h in
      let x = or_by n un' _ _ _ _ (shorter p w) d m.left m.there in
      enclosed m x (from_mark i z Q c x.left x.there) s
  un_by n un' ls us _ ts w (the_second (the_second (the_second (the_first d)))) e h = from_number d e h
  un_by n un' ls us _ ts w (the_second (the_second (the_second (the_second (the_first d))))) e h = from_text d e h
  un_by n un' ls us _ ts w (the_second (the_second (the_second (the_second (the_second (the_first d)))))) e h = truth true (from_word i z Q d e h)
  un_by n un' ls us _ ts w (the_second (the_second (the_second (the_second (the_second (the_second (the_first d))))))) e h = truth false (from_word i z Q d e h)
  un_by n un' ls us _ ts w (the_second (the_second (the_second (the_second (the_second (the_second (the_second d))))))) e h = named (from_name i z Q d e h)

  no_un : Reader un (leaf_of i) (ex.UnIs i.words) zero
  no_un ls us x ts w d e h = absurd (omega (arith, shorter_by (rules i) d refl, w))

  un_at : (n : ℕ) → Reader un (leaf_of i) (ex.UnIs i.words) n
  un_at zero = no_un
  un_at (suc n) = un_by n (un_at n)

  from_or : {ls us : List Lexeme} {x : Derived disjunction} {ts : List Token} → Derives (rules i) Q disjunction ls x us → ls ≡ lexed i ts → There i ts → From (ex.OrIs i.words) ts (term i x) us
  from_or {ls} {us} {x} {ts} d e h = or_by (length ls) (un_at (length ls)) ls us x ts (omega arith) d e h

  pub from_expr : {ls us : List Lexeme} {x : Derived expr} {ts : List Token} → Derives (rules i) Q expr ls x us → ls ≡ lexed i ts → There i ts → ByRelation i (λ a y b. ex.ExprIs i.words a y b × KeepsLength Q a b) ts (term i x) us
  from_expr {ls} {us} {x} {ts} (in_short k d) e h =
      let y = from_or d e h in
      record { rest = y.rest; is = (y.is, few_from i Q P2 255 ts y.rest ls us e y.left k); left = y.left; there = y.there }
