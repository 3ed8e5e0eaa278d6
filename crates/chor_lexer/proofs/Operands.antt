-- One step of a reader of operands, and what the grammar and the parts that are due make of it.
use Rattle.std.proofs.Common.{◌≡◌, ◌≢◌, ◌<◌, ◌+◌, ℕ, Bool, true, false, List, [], ◌∷◌, ◌++◌, length, Option, Some, None, refl, sym, ap, ◌∙◌, subst, arith, slice_get, bytes_eq, codes}
use Rattle.std.specs.List.{list_any}
use Rattle.std.specs.Prelude.{if◌then◌else◌}
use Rattle.std.proofs.lemmas.Bool.{false≢true}
use Rattle.std.proofs.lemmas.Option.{none-some, same_Some}
use Rattle.std.proofs.lemmas.Slice.Eq.{bytes_eq-Decides}
use Rattle.chor_base.specs.Writing.{truth_text}
use Rattle.chor_base.specs.declared.names.NameId.{NameId}
use Rattle.chor_base.specs.declared.value.Value.TheVariants as value
use Rattle.chor_base.specs.declared.expr.UnOp.{UnOp}
use Rattle.chor_base.specs.declared.expr.BinOp.{BinOp}
use Rattle.chor_base.specs.Expr.{Term, Constant, Variable, Unary, Binary}
use Rattle.chor_lexer.specs.declared.token.Kind.{Kind}
use Rattle.chor_lexer.specs.declared.token.Kind.TheVariants.{Word, Number, Text, Mark, Last}
use Rattle.chor_lexer.specs.declared.token.Token.{Token}
use Rattle.chor_lexer.specs.declared.level.Level.{Level}
use Rattle.chor_lexer.specs.declared.level.Level.TheVariants as level
use Rattle.chor_lexer.specs.declared.expression.Stop.{Stop}
use Rattle.chor_lexer.specs.declared.expression.Stop.TheVariants.{Memory, Wrong}
use Rattle.chor_lexer.specs.Keywords.{keywords}
use Rattle.chor_lexer.specs.Grammar.{UnIs, a_unary, a_number, a_text, a_truth, a_name, in_parens}
use Rattle.chor_lexer.specs.Turns.{stronger, IsOperandOf, repeats, LevelIs, LevelGoes, front, tail, word_operand, named_operand, operand_of, unary_of, operator_at, is_open, is_close, give, wrap, join, Due, operand, more, close, act, again, begun, begins, State, began, went, taken, after, Outcome, Stops, run}
use Rattle.chor_lexer.specs.Reading.{Reads, StopsAt}
use Rattle.chor_lexer.proofs.Levels.{unary_is, open_is, close_is, operator_is, level_done, level_begins, level_more, level_once}

-- ---- one turn

abbrev stepped : List (List ℕ) → Bool → Token → List Token → Option State → Outcome
stepped names b t ts None = Stops (t ∷ ts)
stepped names b t ts (Some s) = run names b s.due s.made ts

pub run_turn : (names : List (List ℕ)) (b : Bool) (ss : List Due) (vs : List Term) (t : Token) (ts : List Token) (o : Option State) → after names b ss vs t ≡ o → run names b ss vs (t ∷ ts) ≡ stepped names b t ts o
unfolding run
run_turn names b ss vs t ts o e = ap (λ (p : Option State). stepped names b t ts p) e

-- an operand begins with its operands
began_same : (o : Option (List Due)) (l : Level) (ss : List Due) (vs : List Term) → l ≢ level.Un → began o l ss vs ≡ began o (stronger l) (more l ∷ ss) vs
began_same None l ss vs n = refl
began_same (Some left) level.Or ss vs n = refl
began_same (Some left) level.And ss vs n = refl
began_same (Some left) level.Cmp ss vs n = refl
began_same (Some left) level.Sum ss vs n = refl
began_same (Some left) level.Prod ss vs n = refl
began_same (Some left) level.Un ss vs n = absurd (n refl)

pub run_begins : (names : List (List ℕ)) (b : Bool) (l : Level) (ss : List Due) (vs : List Term) (ts : List Token) → l ≢ level.Un → run names b (operand l ∷ ss) vs ts ≡ run names b (operand (stronger l) ∷ more l ∷ ss) vs ts
unfolding run
run_begins names b l ss vs [] n = refl
run_begins names b l ss vs (t ∷ ts) n = ap (λ (p : Option State). stepped names b t ts p) (began_same (begins names t.kind) l ss vs n)

-- something is made
pub run_act : (names : List (List ℕ)) (b : Bool) (ss : List Due) (vs : List Term) (op : BinOp) (x y : Term) (ts : List Token) → run names b (act (join op) ∷ ss) (y ∷ x ∷ vs) ts ≡ run names b ss (Binary op x y ∷ vs) ts
unfolding run
run_act names b ss vs op x y [] = refl
run_act names b ss vs op x y (t ∷ ts) = refl

pub run_wrap : (names : List (List ℕ)) (b : Bool) (ss : List Due) (vs : List Term) (op : UnOp) (x : Term) (ts : List Token) → run names b (act (wrap op) ∷ ss) (x ∷ vs) ts ≡ run names b ss (Unary op x ∷ vs) ts
unfolding run
run_wrap names b ss vs op x [] = refl
run_wrap names b ss vs op x (t ∷ ts) = refl

run_give : (names : List (List ℕ)) (b : Bool) (ss : List Due) (vs : List Term) (x : Term) (ts : List Token) → run names b (act (give x) ∷ ss) vs ts ≡ run names b ss (x ∷ vs) ts
unfolding run
run_give names b ss vs x [] = refl
run_give names b ss vs x (t ∷ ts) = refl

-- an operator is taken
pub run_operator : (names : List (List ℕ)) (b : Bool) (l : Level) (ss : List Due) (vs : List Term) (t : Token) (ts : List Token) (op : BinOp) → operator_at l t.kind ≡ Some op → run names b (more l ∷ ss) vs (t ∷ ts) ≡ run names b (operand (stronger l) ∷ act (join op) ∷ (again l (repeats l) ++ ss)) vs ts
run_operator names b l ss vs t ts op e = run_turn names b (more l ∷ ss) vs t ts _ (ap (λ o. went o l ss vs (after names b ss vs t)) e)

-- none is there
pub run_no_operator : (names : List (List ℕ)) (b : Bool) (l : Level) (ss : List Due) (vs : List Term) (ts : List Token) → None ≡ operator_at l (front ts) → run names b (more l ∷ ss) vs ts ≡ run names b ss vs ts
unfolding run
run_no_operator names b l ss vs [] e = refl
run_no_operator names b l ss vs (t ∷ ts) e = ap (λ (p : Option State). stepped names b t ts p) (ap (λ o. went o l ss vs (after names b ss vs t)) (sym e))

-- ---- operands without operators

begins_of : (names : List (List ℕ)) (k : Kind) (o : Option Term) (p : Option UnOp) (q : Bool) → operand_of names k ≡ o → unary_of k ≡ p → is_open k ≡ q → begins names k ≡ begun o p q
begins_of names k o p q e f g = ap (λ (v : Option Term). begun v (unary_of k) (is_open k)) e ∙ ap (λ (v : Option UnOp). begun o v (is_open k)) f ∙ ap (begun o p) g

-- what the first token leaves due
run_begun : (names : List (List ℕ)) (b : Bool) (ss : List Due) (vs : List Term) (t : Token) (ts : List Token) (left : List Due) → begins names t.kind ≡ Some left → run names b (operand level.Un ∷ ss) vs (t ∷ ts) ≡ run names b (left ++ ss) vs ts
run_begun names b ss vs t ts left e = run_turn names b (operand level.Un ∷ ss) vs t ts _ (ap (λ o. began o level.Un ss vs) e)

-- no operand begins here
run_not_begun : (names : List (List ℕ)) (b : Bool) (ss : List Due) (vs : List Term) (ts : List Token) → begins names (front ts) ≡ None → run names b (operand level.Un ∷ ss) vs ts ≡ Stops ts
unfolding run
run_not_begun names b ss vs [] e = refl
run_not_begun names b ss vs (t ∷ ts) e = run_turn names b (operand level.Un ∷ ss) vs t ts _ (ap (λ o. began o level.Un ss vs) e)

pub run_operand : (names : List (List ℕ)) (b : Bool) (ss : List Due) (vs : List Term) (t : Token) (ts : List Token) (x : Term) → operand_of names t.kind ≡ Some x → run names b (operand level.Un ∷ ss) vs (t ∷ ts) ≡ run names b ss (x ∷ vs) ts
run_operand names b ss vs t ts x e =
    run_begun names b ss vs t ts _ (begins_of names t.kind _ _ _ e refl refl) ∙ run_give names b ss vs x ts

pub run_unary : (names : List (List ℕ)) (b : Bool) (ss : List Due) (vs : List Term) (t : Token) (ts : List Token) (op : UnOp) → operand_of names t.kind ≡ None → unary_of t.kind ≡ Some op → run names b (operand level.Un ∷ ss) vs (t ∷ ts) ≡ run names b (operand level.Un ∷ act (wrap op) ∷ ss) vs ts
run_unary names b ss vs t ts op e f = run_begun names b ss vs t ts _ (begins_of names t.kind _ _ _ e f refl)

pub run_open : (names : List (List ℕ)) (b : Bool) (ss : List Due) (vs : List Term) (t : Token) (ts : List Token) → operand_of names t.kind ≡ None → unary_of t.kind ≡ None → is_open t.kind ≡ true → run names b (operand level.Un ∷ ss) vs (t ∷ ts) ≡ run names b (operand level.Or ∷ close ∷ ss) vs ts
run_open names b ss vs t ts e f g = run_begun names b ss vs t ts _ (begins_of names t.kind _ _ _ e f g)

pub run_close : (names : List (List ℕ)) (b : Bool) (ss : List Due) (vs : List Term) (t : Token) (ts : List Token) → is_close t.kind ≡ true → run names b (close ∷ ss) vs (t ∷ ts) ≡ run names b ss vs ts
run_close names b ss vs t ts e = run_turn names b (close ∷ ss) vs t ts _ (ap (λ q. taken q ss vs) e)

run_no_close : (names : List (List ℕ)) (b : Bool) (ss : List Due) (vs : List Term) (ts : List Token) → is_close (front ts) ≡ false → run names b (close ∷ ss) vs ts ≡ Stops ts
unfolding run
run_no_close names b ss vs [] e = refl
run_no_close names b ss vs (t ∷ ts) e = run_turn names b (close ∷ ss) vs t ts _ (ap (λ q. taken q ss vs) e)

-- ---- the operand that a token alone is

abbrev pub IsOperand : List (List ℕ) → Token → Term → Type 0
IsOperand names t x = (rest : List Token) → UnIs names (t ∷ rest) x rest

truth_is : (names : List (List ℕ)) (t : Token) (x : NameId) (w : List ℕ) → t.kind ≡ Word x → slice_get names x.0 ≡ Some w → (b : Bool) (y : Term) → w ≡ truth_text b → Constant (value.Bool b) ≡ y → IsOperand names t y
truth_is names t x w k s b y e same = λ rest. subst (λ z. UnIs names (t ∷ rest) z rest) same (a_truth (record { number = x; kind = k; word = s ∙ ap Some e }))

abbrev chosen : Bool → Bool → Bool → NameId → Option Term
chosen a b k x = if a then Some (Constant (value.Bool true)) else (if b then Some (Constant (value.Bool false)) else (if k then None else Some (Variable x)))

-- a word that is an operand is a truth value or a name
chosen_is : {R : Type 0} (a b k : Bool) (x : NameId) (y : Term) → chosen a b k x ≡ Some y → (a ≡ true → Constant (value.Bool true) ≡ y → R) → (b ≡ true → Constant (value.Bool false) ≡ y → R) → (k ≡ false → Variable x ≡ y → R) → R
chosen_is true b k x y e if_true if_false if_name = if_true refl (same_Some _ _ e)
chosen_is false true k x y e if_true if_false if_name = if_false refl (same_Some _ _ e)
chosen_is false false true x y e if_true if_false if_name = absurd (none-some y e)
chosen_is false false false x y e if_true if_false if_name = if_name refl (same_Some _ _ e)

word_is : (names : List (List ℕ)) (t : Token) (x : NameId) (w : List ℕ) → t.kind ≡ Word x → slice_get names x.0 ≡ Some w → (y : Term) → word_operand x w ≡ Some y → IsOperand names t y
word_is names t x w k s y e =
    chosen_is (bytes_eq w (codes "true")) (bytes_eq w (codes "false")) (list_any (bytes_eq w) keywords) x y e
    (λ h same. truth_is names t x w k s true y ((bytes_eq-Decides w (codes "true")).0 h) same)
    (λ h same. truth_is names t x w k s false y ((bytes_eq-Decides w (codes "false")).0 h) same)
    (λ h same rest. subst (λ z. UnIs names (t ∷ rest) z rest) same (a_name (record { word = w; kind = k; is = s; name = h })))

pub operand_is : (names : List (List ℕ)) (t : Token) (x : Term) → operand_of names t.kind ≡ Some x → IsOperand names t x
operand_is names t x e = go t.kind refl (ap (operand_of names) refl ∙ e)
  where
    go : (k : Kind) → t.kind ≡ k → operand_of names k ≡ Some x → IsOperand names t x
    go (Word n) q f = named (slice_get names n.0) refl f
      where
        named : (o : Option (List ℕ)) → slice_get names n.0 ≡ o → named_operand n o ≡ Some x → IsOperand names t x
        named None h g = absurd (none-some x g)
        named (Some w) h g = word_is names t n w q h x g
    go (Number z) q f = λ rest. subst (λ y. UnIs names (t ∷ rest) y rest) (same_Some _ _ f) (a_number q)
    go (Text n) q f = λ rest. subst (λ y. UnIs names (t ∷ rest) y rest) (same_Some _ _ f) (a_text q)
    go (Mark m) q f = absurd (none-some x f)
    go Last q f = absurd (none-some x f)

-- ---- what a reader of an operand without operators answers

pub reads_operand : (names : List (List ℕ)) (ts rest : List Token) (x : Term) → operand_of names (front ts) ≡ Some x → rest ≡ tail ts → Reads names level.Un ts x rest
reads_operand names [] rest x e r = absurd (none-some x e)
reads_operand names (t ∷ ts) rest x e r =
    subst (λ l. Reads names level.Un (t ∷ ts) x l) (sym r) (record {
      read = operand_is names t x e ts;
      shorter = omega arith;
      goes_on = λ b ss vs. run_operand names b ss vs t ts x e;
    })

pub reads_unary : (names : List (List ℕ)) (ts mid rest : List Token) (op : UnOp) (x : Term) → operand_of names (front ts) ≡ None → Some op ≡ unary_of (front ts) → mid ≡ tail ts → Reads names level.Un mid x rest → Reads names level.Un ts (Unary op x) rest
reads_unary names [] mid rest op x e f m r = absurd (none-some op (sym f))
reads_unary names (t ∷ ts) mid rest op x e f m r =
    let r2 : Reads names level.Un ts x rest = subst (λ l. Reads names level.Un l x rest) m r in
    record {
      read = a_unary (unary_is t.kind op (sym f)) r2.read;
      shorter = omega (arith, r2.shorter);
      goes_on = λ b ss vs. run_unary names b ss vs t ts op e (sym f) ∙ r2.goes_on b (act (wrap op) ∷ ss) vs ∙ run_wrap names b ss vs op x rest;
    }

pub stops_unary : (names : List (List ℕ)) (ts mid : List Token) (op : UnOp) (e : Stop) → operand_of names (front ts) ≡ None → Some op ≡ unary_of (front ts) → mid ≡ tail ts → StopsAt names level.Un mid e → StopsAt names level.Un ts e
stops_unary names ts mid op Memory e f m h = tt
stops_unary names [] mid op (Wrong at) e f m h = absurd (none-some op (sym f))
stops_unary names (t ∷ ts) mid op (Wrong at) e f m h = λ b ss vs.
    run_unary names b ss vs t ts op e (sym f) ∙ ap (run names b (operand level.Un ∷ act (wrap op) ∷ ss) vs) (sym m) ∙ h b (act (wrap op) ∷ ss) vs

pub no_operand : (names : List (List ℕ)) (ts : List Token) → operand_of names (front ts) ≡ None → None ≡ unary_of (front ts) → is_open (front ts) ≡ false → (b : Bool) (ss : List Due) (vs : List Term) → run names b (operand level.Un ∷ ss) vs ts ≡ Stops ts
no_operand names ts e f g b ss vs = run_not_begun names b ss vs ts (begins_of names (front ts) _ _ _ e (sym f) g)

pub reads_parens : (names : List (List ℕ)) (ts mid end rest : List Token) (x : Term) → operand_of names (front ts) ≡ None → None ≡ unary_of (front ts) → is_open (front ts) ≡ true → mid ≡ tail ts → Reads names level.Or mid x end → is_close (front end) ≡ true → rest ≡ tail end → Reads names level.Un ts x rest
reads_parens names [] mid end rest x e f g m r c q = absurd (false≢true g)
reads_parens names (t ∷ ts) mid [] rest x e f g m r c q = absurd (false≢true c)
reads_parens names (t ∷ ts) mid (u ∷ end) rest x e f g m r c q =
    let r2 : Reads names level.Or ts x (u ∷ end) = subst (λ l. Reads names level.Or l x (u ∷ end)) m r in
    subst (λ l. Reads names level.Un (t ∷ ts) x l) (sym q) (record {
      read = in_parens (open_is t.kind g) r2.read (close_is u.kind c);
      shorter = omega (arith, r2.shorter);
      goes_on = λ b ss vs. run_open names b ss vs t ts e (sym f) g ∙ r2.goes_on b (close ∷ ss) vs ∙ run_close names b ss (x ∷ vs) u end c;
    })

pub stops_parens : (names : List (List ℕ)) (ts mid : List Token) (e : Stop) → operand_of names (front ts) ≡ None → None ≡ unary_of (front ts) → is_open (front ts) ≡ true → mid ≡ tail ts → StopsAt names level.Or mid e → StopsAt names level.Un ts e
stops_parens names ts mid Memory e f g m h = tt
stops_parens names [] mid (Wrong at) e f g m h = absurd (false≢true g)
stops_parens names (t ∷ ts) mid (Wrong at) e f g m h = λ b ss vs.
    run_open names b ss vs t ts e (sym f) g ∙ ap (run names b (operand level.Or ∷ close ∷ ss) vs) (sym m) ∙ h b (close ∷ ss) vs

pub stops_unclosed : (names : List (List ℕ)) (ts mid end : List Token) (x : Term) → operand_of names (front ts) ≡ None → None ≡ unary_of (front ts) → is_open (front ts) ≡ true → mid ≡ tail ts → Reads names level.Or mid x end → is_close (front end) ≡ false → (b : Bool) (ss : List Due) (vs : List Term) → run names b (operand level.Un ∷ ss) vs ts ≡ Stops end
stops_unclosed names [] mid end x e f g m r c b ss vs = absurd (false≢true g)
stops_unclosed names (t ∷ ts) mid end x e f g m r c b ss vs =
    run_open names b ss vs t ts e (sym f) g ∙ ap (run names b (operand level.Or ∷ close ∷ ss) vs) (sym m) ∙ r.goes_on b (close ∷ ss) vs ∙ run_no_close names b ss (x ∷ vs) end c

-- ---- operands and operators, from the left

at_stronger : (names : List (List ℕ)) (l m : Level) (ts rest : List Token) (a : Term) → IsOperandOf l m → Reads names m ts a rest → Reads names (stronger l) ts a rest
at_stronger names l m ts rest a o r = subst (λ k. Reads names k ts a rest) o.is r

-- a level from ts on has come to its left operand a, and to the tokens that are left
pub record Comes (names : List (List ℕ)) (l : Level) (ts : List Token) (a : Term) (rest : List Token) : Type 0 where
  pub read : (x : Term) (r : List Token) → LevelGoes names l a rest x r → LevelIs names l ts x r
  pub shorter : length rest < length ts
  pub goes_on : (b : Bool) (ss : List Due) (vs : List Term) → run names b (operand l ∷ ss) vs ts ≡ run names b (more l ∷ ss) (a ∷ vs) rest

pub level_comes : (names : List (List ℕ)) (l m : Level) (ts rest : List Token) (a : Term) → IsOperandOf l m → Reads names m ts a rest → Comes names l ts a rest
level_comes names l m ts rest a o h =
    let r = at_stronger names l m ts rest a o h in
    record {
      read = λ x q g. level_begins names l ts rest q a x o.some r.read g;
      shorter = r.shorter;
      goes_on = λ b ss vs. run_begins names b l ss vs ts o.some ∙ r.goes_on b (more l ∷ ss) vs;
    }

pub stops_first : (names : List (List ℕ)) (l m : Level) (ts : List Token) (e : Stop) → IsOperandOf l m → StopsAt names m ts e → StopsAt names l ts e
stops_first names l m ts Memory o h = tt
stops_first names l m ts (Wrong at) o h = λ b ss vs.
    run_begins names b l ss vs ts o.some ∙ ap (λ k. run names b (operand k ∷ more l ∷ ss) vs ts) (sym o.is) ∙ h b (more l ∷ ss) vs

-- an operator, its right operand, and what is due then
taken_on : (names : List (List ℕ)) (l : Level) (t : Token) (ts rest : List Token) (a c : Term) (op : BinOp) → operator_at l t.kind ≡ Some op → Reads names (stronger l) ts c rest → (b : Bool) (ss : List Due) (vs : List Term) → run names b (more l ∷ ss) (a ∷ vs) (t ∷ ts) ≡ run names b (again l (repeats l) ++ ss) (Binary op a c ∷ vs) rest
taken_on names l t ts rest a c op e r b ss vs =
    run_operator names b l ss (a ∷ vs) t ts op e
    ∙ r.goes_on b (act (join op) ∷ (again l (repeats l) ++ ss)) (a ∷ vs)
    ∙ run_act names b (again l (repeats l) ++ ss) vs op a c rest

pub comes_on : (names : List (List ℕ)) (l k : Level) (ts mid after rest : List Token) (a c : Term) (op : BinOp) → IsOperandOf l k → Comes names l ts a mid → Some op ≡ operator_at l (front mid) → after ≡ tail mid → Reads names k after c rest → repeats l ≡ true → Comes names l ts (Binary op a c) rest
comes_on names l k ts [] after rest a c op o h e m r q = absurd (none-some op (sym e))
comes_on names l k ts (t ∷ mid) after rest a c op o h e m r q =
    let r2 : Reads names (stronger l) mid c rest = subst (λ p. Reads names (stronger l) p c rest) m (at_stronger names l k after rest c o r) in
    record {
      read = λ x p g. h.read x p (level_more names l t mid rest p a c x op q (operator_is l t.kind op (sym e)) r2.read g);
      shorter = omega (arith, h.shorter, r2.shorter);
      goes_on = λ b ss vs.
          h.goes_on b ss vs ∙ taken_on names l t mid rest a c op (sym e) r2 b ss vs
          ∙ ap (λ (p : Bool). run names b (again l p ++ ss) (Binary op a c ∷ vs) rest) q;
    }

pub reads_once : (names : List (List ℕ)) (l k : Level) (ts mid after rest : List Token) (a c : Term) (op : BinOp) → IsOperandOf l k → Comes names l ts a mid → Some op ≡ operator_at l (front mid) → after ≡ tail mid → Reads names k after c rest → repeats l ≡ false → Reads names l ts (Binary op a c) rest
reads_once names l k ts [] after rest a c op o h e m r q = absurd (none-some op (sym e))
reads_once names l k ts (t ∷ mid) after rest a c op o h e m r q =
    let r2 : Reads names (stronger l) mid c rest = subst (λ p. Reads names (stronger l) p c rest) m (at_stronger names l k after rest c o r) in
    record {
      read = h.read (Binary op a c) rest (level_once names l t mid rest a c op q o.some (operator_is l t.kind op (sym e)) r2.read);
      shorter = omega (arith, h.shorter, r2.shorter);
      goes_on = λ b ss vs.
          h.goes_on b ss vs ∙ taken_on names l t mid rest a c op (sym e) r2 b ss vs
          ∙ ap (λ (p : Bool). run names b (again l p ++ ss) (Binary op a c ∷ vs) rest) q;
    }

pub stops_on : (names : List (List ℕ)) (l k : Level) (ts mid after : List Token) (a : Term) (op : BinOp) (e : Stop) → IsOperandOf l k → Comes names l ts a mid → Some op ≡ operator_at l (front mid) → after ≡ tail mid → StopsAt names k after e → StopsAt names l ts e
stops_on names l k ts mid after a op Memory i h o m s = tt
stops_on names l k ts [] after a op (Wrong at) i h o m s = absurd (none-some op (sym o))
stops_on names l k ts (t ∷ mid) after a op (Wrong at) i h o m s = λ b ss vs.
    h.goes_on b ss vs
    ∙ run_operator names b l ss (a ∷ vs) t mid op (sym o)
    ∙ ap (λ p. run names b (operand p ∷ act (join op) ∷ (again l (repeats l) ++ ss)) (a ∷ vs) mid) (sym i.is)
    ∙ ap (run names b (operand k ∷ act (join op) ∷ (again l (repeats l) ++ ss)) (a ∷ vs)) (sym m)
    ∙ s b (act (join op) ∷ (again l (repeats l) ++ ss)) (a ∷ vs)

pub reads_level : (names : List (List ℕ)) (l : Level) (ts rest : List Token) (a : Term) → Comes names l ts a rest → None ≡ operator_at l (front rest) → Reads names l ts a rest
reads_level names l ts rest a h e = record {
  read = h.read a rest (level_done names l a rest);
  shorter = h.shorter;
  goes_on = λ b ss vs. h.goes_on b ss vs ∙ run_no_operator names b l ss (a ∷ vs) rest e;
}

pub tail_shorter : (ts : List Token) → length (tail ts) < length ts + 1
tail_shorter [] = omega arith
tail_shorter (t ∷ ts) = omega arith
