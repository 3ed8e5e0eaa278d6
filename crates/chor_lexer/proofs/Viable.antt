-- Where the tokens stop, those before go on to a whole expression, and with the one that stops them they don't.
use Rattle.std.proofs.Common.{◌≡◌, ◌≢◌, ◌<◌, ℕ, pos, Bool, true, false, List, [], ◌∷◌, ◌++◌, Option, Some, None, refl, sym, ap, ◌∙◌, subst, arith}
use Rattle.chor_base.specs.declared.rule.Place.{Place}
use Rattle.chor_base.specs.declared.value.Value.TheVariants as value
use Rattle.chor_base.specs.declared.expr.UnOp.{UnOp}
use Rattle.chor_base.specs.declared.expr.BinOp.{BinOp}
use Rattle.chor_base.specs.declared.expr.BinOp.TheVariants as binop
use Rattle.chor_base.specs.Expr.{Term, Constant, Unary, Binary}
use Rattle.chor_lexer.specs.declared.mark.Mark.TheVariants.{CloseParen}
use Rattle.chor_lexer.specs.declared.token.Kind.{Kind}
use Rattle.chor_lexer.specs.declared.token.Kind.TheVariants.{Number, Mark}
use Rattle.chor_lexer.specs.declared.token.Token.{Token}
use Rattle.chor_lexer.specs.declared.level.Level.{Level}
use Rattle.chor_lexer.specs.declared.level.Level.TheVariants as level
use Rattle.chor_lexer.specs.Keywords.{HasMark}
use Rattle.chor_lexer.specs.Canonical.{strength}
use Rattle.chor_lexer.specs.Grammar.{OrIs, UnIs, IsExpr, IsExprFront, a_unary, a_number, in_parens}
use Rattle.chor_lexer.specs.Turns.{stronger, strength_at, repeats, LevelIs, LevelGoes, operand_of, unary_of, operator_at, is_open, is_close, give, wrap, join, effect, Due, operand, more, close, act, more_of, again, begun, begins, State, state, began, went, taken, after, Ends, Stops, finish, run}
use Rattle.chor_lexer.proofs.Levels.{unary_is, open_is, close_is, IsAt, operator_is, level_done, level_begins, level_more, level_once}
use Rattle.chor_lexer.proofs.Operands.{operand_is, run_turn}

-- what a part that is due stands for
abbrev DueIs : List (List ℕ) → Due → List Token → List Token → Type 0
DueIs names (operand l) ts r = (x : Term) × LevelIs names l ts x r
DueIs names (more l) ts r = (a : Term) → (x : Term) × LevelGoes names l a ts x r
DueIs names close ts r = (t : Token) × HasMark CloseParen t × (ts ≡ t ∷ r)
DueIs names (act e) ts r = ts ≡ r

abbrev AllAre : List (List ℕ) → List Due → List Token → List Token → Type 0
AllAre names [] ts r = ts ≡ r
AllAre names (s ∷ ss) ts r = (mid : List Token) × DueIs names s ts mid × AllAre names ss mid r

all_split : (names : List (List ℕ)) (xs ys : List Due) (ts r : List Token) → AllAre names (xs ++ ys) ts r → (mid : List Token) × AllAre names xs ts mid × AllAre names ys mid r
all_split names [] ys ts r h = (ts, refl, h)
all_split names (x ∷ xs) ys ts r h = let k = all_split names xs ys h.0 r h.2 in (k.0, (h.0, h.1, k.1), k.2)

-- ---- one token

-- an operand with what follows it
lift : (names : List (List ℕ)) (l : Level) (ts mid r : List Token) → l ≢ level.Un → ((x : Term) × LevelIs names (stronger l) ts x mid) → DueIs names (more l) mid r → (x : Term) × LevelIs names l ts x r
lift names l ts mid r n p g = let w = g p.0 in (w.0, level_begins names l ts mid r p.0 w.0 n p.1 w.1)

prod_lifts : (names : List (List ℕ)) (ts mid r : List Token) → ((x : Term) × UnIs names ts x mid) → DueIs names (more level.Prod) mid r → (x : Term) × LevelIs names level.Prod ts x r
prod_lifts names ts mid r p g = lift names level.Prod ts mid r (λ e. absurd cc) p g

sum_lifts : (names : List (List ℕ)) (ts mid r : List Token) → ((x : Term) × LevelIs names level.Prod ts x mid) → DueIs names (more level.Sum) mid r → (x : Term) × LevelIs names level.Sum ts x r
sum_lifts names ts mid r p g = lift names level.Sum ts mid r (λ e. absurd cc) p g

cmp_lifts : (names : List (List ℕ)) (ts mid r : List Token) → ((x : Term) × LevelIs names level.Sum ts x mid) → DueIs names (more level.Cmp) mid r → (x : Term) × LevelIs names level.Cmp ts x r
cmp_lifts names ts mid r p g = lift names level.Cmp ts mid r (λ e. absurd cc) p g

and_lifts : (names : List (List ℕ)) (ts mid r : List Token) → ((x : Term) × LevelIs names level.Cmp ts x mid) → DueIs names (more level.And) mid r → (x : Term) × LevelIs names level.And ts x r
and_lifts names ts mid r p g = lift names level.And ts mid r (λ e. absurd cc) p g

or_lifts : (names : List (List ℕ)) (ts mid r : List Token) → ((x : Term) × LevelIs names level.And ts x mid) → DueIs names (more level.Or) mid r → (x : Term) × LevelIs names level.Or ts x r
or_lifts names ts mid r p g = lift names level.Or ts mid r (λ e. absurd cc) p g

-- an operand without operators begins each level
raised : (names : List (List ℕ)) (l : Level) (ts mid r : List Token) → ((x : Term) × UnIs names ts x mid) → AllAre names (more_of l) mid r → (x : Term) × LevelIs names l ts x r
raised names level.Un ts mid r p h = subst (λ q. (x : Term) × UnIs names ts x q) h p
raised names level.Prod ts mid r p h = subst (λ q. (x : Term) × LevelIs names level.Prod ts x q) h.2 (prod_lifts names ts mid h.0 p h.1)
raised names level.Sum ts mid r p h =
    let p1 = prod_lifts names ts mid h.0 p h.1 in
    subst (λ q. (x : Term) × LevelIs names level.Sum ts x q) h.2.2 (sum_lifts names ts h.0 h.2.0 p1 h.2.1)
raised names level.Cmp ts mid r p h =
    let p1 = prod_lifts names ts mid h.0 p h.1 in
    let p2 = sum_lifts names ts h.0 h.2.0 p1 h.2.1 in
    subst (λ q. (x : Term) × LevelIs names level.Cmp ts x q) h.2.2.2 (cmp_lifts names ts h.2.0 h.2.2.0 p2 h.2.2.1)
raised names level.And ts mid r p h =
    let p1 = prod_lifts names ts mid h.0 p h.1 in
    let p2 = sum_lifts names ts h.0 h.2.0 p1 h.2.1 in
    let p3 = cmp_lifts names ts h.2.0 h.2.2.0 p2 h.2.2.1 in
    subst (λ q. (x : Term) × LevelIs names level.And ts x q) h.2.2.2.2 (and_lifts names ts h.2.2.0 h.2.2.2.0 p3 h.2.2.2.1)
raised names level.Or ts mid r p h =
    let p1 = prod_lifts names ts mid h.0 p h.1 in
    let p2 = sum_lifts names ts h.0 h.2.0 p1 h.2.1 in
    let p3 = cmp_lifts names ts h.2.0 h.2.2.0 p2 h.2.2.1 in
    let p4 = and_lifts names ts h.2.2.0 h.2.2.2.0 p3 h.2.2.2.1 in
    subst (λ q. (x : Term) × LevelIs names level.Or ts x q) h.2.2.2.2.2 (or_lifts names ts h.2.2.2.0 h.2.2.2.2.0 p4 h.2.2.2.2.1)

-- what an operand without operators leaves due after its first token
begun_back : (names : List (List ℕ)) (t : Token) (o : Option Term) (p : Option UnOp) (q : Bool) (left : List Due) (ts r : List Token) → operand_of names t.kind ≡ o → unary_of t.kind ≡ p → is_open t.kind ≡ q → begun o p q ≡ Some left → AllAre names left ts r → (x : Term) × UnIs names (t ∷ ts) x r
begun_back names t (Some x) p q left ts r e f g s h =
    let same : left ≡ act (give x) ∷ [] = cc in
    let all : AllAre names (act (give x) ∷ []) ts r = subst (λ k. AllAre names k ts r) same h in
    let end : ts ≡ r = all.1 ∙ all.2 in
    (x, subst (λ k. UnIs names (t ∷ k) x r) (sym end) (operand_is names t x e r))
begun_back names t None (Some op) q left ts r e f g s h =
    let same : left ≡ operand level.Un ∷ act (wrap op) ∷ [] = cc in
    let all : AllAre names (operand level.Un ∷ act (wrap op) ∷ []) ts r = subst (λ k. AllAre names k ts r) same h in
    let end : all.0 ≡ r = all.2.1 ∙ all.2.2 in
    (Unary op all.1.0, a_unary (unary_is t.kind op f) (subst (λ k. UnIs names ts all.1.0 k) end all.1.1))
begun_back names t None None true left ts r e f g s h =
    let same : left ≡ operand level.Or ∷ close ∷ [] = cc in
    let all : AllAre names (operand level.Or ∷ close ∷ []) ts r = subst (λ k. AllAre names k ts r) same h in
    let end : all.0 ≡ all.2.1.0 ∷ r = all.2.1.2 ∙ ap (λ (k : List Token). all.2.1.0 ∷ k) all.2.2 in
    (all.1.0, in_parens (open_is t.kind g) (subst (λ k. OrIs names ts all.1.0 k) end all.1.1) all.2.1.1)
begun_back names t None None false left ts r e f g s h = absurd cc

began_back : (names : List (List ℕ)) (t : Token) (o : Option (List Due)) (l : Level) (ss : List Due) (vs : List Term) (s : State) (ts r : List Token) → begins names t.kind ≡ o → began o l ss vs ≡ Some s → AllAre names s.due ts r → AllAre names (operand l ∷ ss) (t ∷ ts) r
began_back names t None l ss vs s ts r e f h = absurd cc
began_back names t (Some left) l ss vs s ts r e f h =
    let same : s ≡ state (left ++ (more_of l ++ ss)) vs = cc in
    let all : AllAre names (left ++ (more_of l ++ ss)) ts r = subst (λ (k : State). AllAre names k.due ts r) same h in
    let first = all_split names left (more_of l ++ ss) ts r all in
    let second = all_split names (more_of l) ss first.0 r first.2 in
    let un = begun_back names t (operand_of names t.kind) (unary_of t.kind) (is_open t.kind) left ts first.0 refl refl refl e first.1 in
    (second.0, raised names l (t ∷ ts) first.0 second.0 un second.1, second.2)

weak : (op : BinOp) → strength op < 6
weak binop.Add = omega arith
weak binop.Sub = omega arith
weak binop.Mul = omega arith
weak binop.Div = omega arith
weak binop.Eq = omega arith
weak binop.Ne = omega arith
weak binop.Lt = omega arith
weak binop.Le = omega arith
weak binop.And = omega arith
weak binop.Or = omega arith

no_last_level : (l : Level) (k : Kind) (op : BinOp) → IsAt l k op → l ≢ level.Un
no_last_level l k op at e = let six : strength op ≡ 6 = at.strong ∙ ap strength_at e in let less = weak op in absurd (omega arith)

went_back : (names : List (List ℕ)) (t : Token) (o : Option BinOp) (l : Level) (ss : List Due) (vs : List Term) (skipped : Option State) (s : State) (ts r : List Token) → operator_at l t.kind ≡ o → went o l ss vs skipped ≡ Some s → (skipped ≡ Some s → AllAre names ss (t ∷ ts) r) → AllAre names s.due ts r → AllAre names (more l ∷ ss) (t ∷ ts) r
went_back names t None l ss vs skipped s ts r e f skip h = (t ∷ ts, λ a. (a, level_done names l a (t ∷ ts)), skip f)
went_back names t (Some op) l ss vs skipped s ts r e f skip h =
    let at = operator_is l t.kind op e in
    let same : s ≡ state (operand (stronger l) ∷ act (join op) ∷ (again l (repeats l) ++ ss)) vs = cc in
    let all : AllAre names (operand (stronger l) ∷ act (join op) ∷ (again l (repeats l) ++ ss)) ts r = subst (λ (k : State). AllAre names k.due ts r) same h in
    go (repeats l) refl at all
  where
    go : (b : Bool) → repeats l ≡ b → IsAt l t.kind op → AllAre names (operand (stronger l) ∷ act (join op) ∷ (again l b ++ ss)) ts r → AllAre names (more l ∷ ss) (t ∷ ts) r
    go true q at all =
        let right = subst (λ k. LevelIs names (stronger l) ts all.1.0 k) all.2.1 all.1.1 in
        (all.2.2.0, (λ a. let w = all.2.2.1 (Binary op a all.1.0) in (w.0, level_more names l t ts all.2.0 all.2.2.0 a all.1.0 w.0 op q at right w.1)), all.2.2.2)
    go false q at all =
        let right = subst (λ k. LevelIs names (stronger l) ts all.1.0 k) all.2.1 all.1.1 in
        (all.2.0, (λ a. (Binary op a all.1.0, level_once names l t ts all.2.0 a all.1.0 op q (no_last_level l t.kind op at) at right)), all.2.2)

taken_back : (names : List (List ℕ)) (t : Token) (b : Bool) (ss : List Due) (vs : List Term) (s : State) (ts r : List Token) → is_close t.kind ≡ b → taken b ss vs ≡ Some s → AllAre names s.due ts r → AllAre names (close ∷ ss) (t ∷ ts) r
taken_back names t true ss vs s ts r e f h =
    let same : s ≡ state ss vs = cc in
    (ts, (t, close_is t.kind e, refl), subst (λ (k : State). AllAre names k.due ts r) same h)
taken_back names t false ss vs s ts r e f h = absurd cc

after_back : (names : List (List ℕ)) (ss : List Due) (vs : List Term) (t : Token) (s : State) (ts r : List Token) → after names false ss vs t ≡ Some s → AllAre names s.due ts r → AllAre names ss (t ∷ ts) r
after_back names [] vs t s ts r e h = absurd cc
after_back names (operand l ∷ ss) vs t s ts r e h = began_back names t (begins names t.kind) l ss vs s ts r refl e h
after_back names (more l ∷ ss) vs t s ts r e h = went_back names t (operator_at l t.kind) l ss vs (after names false ss vs t) s ts r refl e (λ f. after_back names ss vs t s ts r f h) h
after_back names (close ∷ ss) vs t s ts r e h = taken_back names t (is_close t.kind) ss vs s ts r refl e h
after_back names (act a ∷ ss) vs t s ts r e h = (t ∷ ts, refl, after_back names ss (effect a vs) t s ts r e h)

-- ---- each list of parts stands for some tokens

a_place : Place
a_place = record { line = 1; col = 1 }

abbrev a_zero : Token
a_zero = record { kind = Number (pos 0); place = a_place }

abbrev a_close : Token
a_close = record { kind = Mark CloseParen; place = a_place }

zero_is : (names : List (List ℕ)) (r : List Token) → (x : Term) × UnIs names (a_zero ∷ r) x r
zero_is names r = (Constant (value.Int (pos 0)), a_number refl)

none_more : (names : List (List ℕ)) (l : Level) (r : List Token) → DueIs names (more l) r r
none_more names l r = λ a. (a, level_done names l a r)

all_none : (names : List (List ℕ)) (l : Level) (r : List Token) → AllAre names (more_of l) r r
all_none names level.Un r = refl
all_none names level.Prod r = (r, none_more names level.Prod r, refl)
all_none names level.Sum r = (r, none_more names level.Prod r, (r, none_more names level.Sum r, refl))
all_none names level.Cmp r = (r, none_more names level.Prod r, (r, none_more names level.Sum r, (r, none_more names level.Cmp r, refl)))
all_none names level.And r = (r, none_more names level.Prod r, (r, none_more names level.Sum r, (r, none_more names level.Cmp r, (r, none_more names level.And r, refl))))
all_none names level.Or r = (r, none_more names level.Prod r, (r, none_more names level.Sum r, (r, none_more names level.Cmp r, (r, none_more names level.And r, (r, none_more names level.Or r, refl)))))

due_some : (names : List (List ℕ)) (s : Due) (r : List Token) → (ts : List Token) × DueIs names s ts r
due_some names (operand l) r = (a_zero ∷ r, raised names l (a_zero ∷ r) r r (zero_is names r) (all_none names l r))
due_some names (more l) r = (r, none_more names l r)
due_some names close r = (a_close ∷ r, (a_close, refl, refl))
due_some names (act e) r = (r, refl)

all_some : (names : List (List ℕ)) (ss : List Due) → (ts : List Token) × AllAre names ss ts []
all_some names [] = ([], refl)
all_some names (s ∷ ss) = let w = all_some names ss in let v = due_some names s w.0 in (v.0, (w.0, v.1, w.1))

-- ---- up to where it stops

-- the tokens before, and what is due then
pub record Reached (names : List (List ℕ)) (ss : List Due) (vs : List Term) (ts at : List Token) : Type 0 where
  pub before : List Token
  pub parts : ts ≡ before ++ at
  pub then : State
  pub back : (v r : List Token) → AllAre names then.due v r → AllAre names ss (before ++ v) r
  pub forth : (u : List Token) → run names false ss vs (before ++ u) ≡ run names false then.due then.made u
  pub halts : (t : Token) (rest : List Token) → at ≡ t ∷ rest → after names false then.due then.made t ≡ None

finish_stops : (ss : List Due) (vs : List Term) (at : List Token) → finish ss vs ≡ Stops at → at ≡ []
finish_stops [] vs at e = absurd cc
finish_stops (operand l ∷ ss) vs at e = cc
finish_stops (more l ∷ ss) vs at e = finish_stops ss vs at e
finish_stops (close ∷ ss) vs at e = cc
finish_stops (act a ∷ ss) vs at e = finish_stops ss (effect a vs) at e

finish_ends : (names : List (List ℕ)) (ss : List Due) (vs us : List Term) → finish ss vs ≡ Ends us → AllAre names ss [] []
finish_ends names [] vs us e = refl
finish_ends names (operand l ∷ ss) vs us e = absurd cc
finish_ends names (more l ∷ ss) vs us e = ([], none_more names l [], finish_ends names ss vs us e)
finish_ends names (close ∷ ss) vs us e = absurd cc
finish_ends names (act a ∷ ss) vs us e = ([], refl, finish_ends names ss (effect a vs) us e)

pub reached : (names : List (List ℕ)) (ts : List Token) (ss : List Due) (vs : List Term) (at : List Token) → run names false ss vs ts ≡ Stops at → Reached names ss vs ts at
unfolding run
reached names [] ss vs at e =
    let none : at ≡ [] = finish_stops ss vs at e in
    record { before = []; parts = sym none; then = state ss vs; back = λ v r h. h; forth = λ u. refl; halts = λ t rest q. absurd cc }
reached names (t ∷ ts) ss vs at e = go (after names false ss vs t) refl (λ s f. reached names ts s.due s.made at f)
  where
    go : (o : Option State) → after names false ss vs t ≡ o → ((s : State) → run names false s.due s.made ts ≡ Stops at → Reached names s.due s.made ts at) → Reached names ss vs (t ∷ ts) at
    go None q again =
        let here : at ≡ t ∷ ts = let h : Stops (t ∷ ts) ≡ Stops at = sym (run_turn names false ss vs t ts None q) ∙ e in cc in
        record { before = []; parts = sym here; then = state ss vs; back = λ v r h. h; forth = λ u. refl; halts = λ u rest k. let same : t ≡ u = cc in subst (λ (w : Token). after names false ss vs w ≡ None) same q }
    go (Some s) q again =
        let w = again s (sym (run_turn names false ss vs t ts (Some s) q) ∙ e) in
        record {
          before = t ∷ w.before;
          parts = ap (λ (l : List Token). t ∷ l) w.parts;
          then = w.then;
          back = λ v r h. after_back names ss vs t s (w.before ++ v) r q (w.back v r h);
          forth = λ u. run_turn names false ss vs t (w.before ++ u) (Some s) q ∙ w.forth u;
          halts = w.halts;
        }

-- what is run to its end is what was due
pub ended : (names : List (List ℕ)) (ts : List Token) (ss : List Due) (vs us : List Term) → run names false ss vs ts ≡ Ends us → AllAre names ss ts []
unfolding run
ended names [] ss vs us e = finish_ends names ss vs us e
ended names (t ∷ ts) ss vs us e = go (after names false ss vs t) refl (λ s f. ended names ts s.due s.made us f)
  where
    go : (o : Option State) → after names false ss vs t ≡ o → ((s : State) → run names false s.due s.made ts ≡ Ends us → AllAre names s.due ts []) → AllAre names ss (t ∷ ts) []
    go None q again = let h : Stops (t ∷ ts) ≡ Ends us = sym (run_turn names false ss vs t ts None q) ∙ e in absurd cc
    go (Some s) q again = after_back names ss vs t s ts [] q (again s (sym (run_turn names false ss vs t ts (Some s) q) ∙ e))

-- an operand with nothing after it
pub all_is : (names : List (List ℕ)) (ts : List Token) → AllAre names (operand level.Or ∷ []) ts [] → (x : Term) × IsExpr names ts x
all_is names ts h = subst (λ k. (x : Term) × OrIs names ts x k) h.2 h.1

-- the tokens before go on to a whole expression
pub reached_begins : (names : List (List ℕ)) (ts at : List Token) (w : Reached names (operand level.Or ∷ []) [] ts at) → IsExprFront names w.before
reached_begins names ts at w = let some = all_some names w.then.due in let p = all_is names (w.before ++ some.0) (w.back some.0 [] some.1) in (some.0, p.0, p.1)
