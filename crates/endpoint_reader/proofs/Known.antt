-- Names and texts of what was read are in the tables.
use Rattle.std.proofs.Common.{◌≡◌, ℕ, Bool, true, false, not, Option, Some, IfSome, List, [], ◌∷◌, ◌++◌, Result, Ok, Err, OnOk, refl, sym, subst}
use Rattle.std.proofs.lemmas.List.Elements.{All-nil, All-push, All-pop, All-same}
use Rattle.chor_base.specs.declared.expr.UnOp.{UnOp}
use Rattle.chor_base.specs.declared.expr.BinOp.{BinOp}
use Rattle.chor_base.specs.declared.expr.Expr.{Expr}
use Rattle.chor_base.specs.declared.rule.Denied.{Denied}
use Rattle.chor_base.specs.declared.names.NameId.{NameId}
use Rattle.chor_base.specs.Expr.{Unary, Binary, term_of}
use Rattle.chor_base.specs.Writing.{name_in}
use Rattle.chor_lexer.specs.declared.token.Kind.TheVariants.{Word}
use Rattle.chor_lexer.specs.Keywords.{IsName}
use Rattle.grammar.specs.Classes.{a_name, is_keyword, is_of}
use Rattle.endpoint_reader.specs.Tokens.{symbol_of}
use Rattle.endpoint_reader.specs.declared.operand.Opening.{Opening}
use Rattle.endpoint_reader.specs.declared.operand.Opening.TheVariants.{Leaf}
use Rattle.endpoint_reader.specs.declared.input.Input.{Input}
use Rattle.endpoint_reader.specs.declared.input.Named.{Named}
use Rattle.endpoint_reader.specs.declared.node.Action.{Action}
use Rattle.endpoint_reader.specs.declared.lines.Arm.{Arm}
use Rattle.endpoint_reader.specs.declared.lines.Line.{Line}
use Rattle.endpoint_reader.specs.Known.{IsThere, AreThere, IsTermThere, IsExprThere, IsOpeningThere, IsActionThere, AreActionsThere, AreLabelsThere, IsLineThere, AreLinesThere}

pub none_there : (i : Input) (xs : List Named) → xs ≡ [] → AreThere i xs
none_there i xs e = All-same (IsThere i) xs [] e (All-nil (IsThere i))

pub pushed_there : (i : Input) (xs zs : List Named) (x : Named) → AreThere i xs → IsThere i x → zs ≡ xs ++ x ∷ [] → AreThere i zs
pushed_there i xs zs x h k e = All-same (IsThere i) zs (xs ++ x ∷ []) e (All-push (IsThere i) xs x h k)

-- ---- expressions

pub joined_there : {op : BinOp} (i : Input) (l r x : Expr) → term_of x ≡ Binary op (term_of l) (term_of r) → IsExprThere i l → IsExprThere i r → IsExprThere i x
joined_there i l r x e a b = subst (IsTermThere i) (sym e) (a, b)

pub applied_there : {op : UnOp} (i : Input) (y x : Expr) → term_of x ≡ Unary op (term_of y) → IsExprThere i y → IsExprThere i x
applied_there i y x e a = subst (IsTermThere i) (sym e) a

pub leaf_there : (i : Input) (o : Opening) (x : Expr) → o ≡ Leaf x → IsOpeningThere i o → IsExprThere i x
leaf_there i o x e h = subst (IsOpeningThere i) e h

-- ---- actions and lines

pub no_actions : (i : Input) (xs : List Action) → xs ≡ [] → AreActionsThere i xs
no_actions i xs e = All-same (IsActionThere i) xs [] e (All-nil (IsActionThere i))

pub one_more_action : (i : Input) (xs zs : List Action) (x : Action) → AreActionsThere i xs → IsActionThere i x → zs ≡ xs ++ x ∷ [] → AreActionsThere i zs
one_more_action i xs zs x h k e = All-same (IsActionThere i) zs (xs ++ x ∷ []) e (All-push (IsActionThere i) xs x h k)

pub action_there : (i : Input) (o : Option (Action × ℕ)) (x : Action × ℕ) → IfSome o (λ y. IsActionThere i y.0) → o ≡ Some x → IsActionThere i x.0
action_there i o x h e = subst (λ (q : Option (Action × ℕ)). IfSome q (λ y. IsActionThere i y.0)) e h

pub one_less_action : (i : Input) (xs rest : List Action) (x : Action) → AreActionsThere i xs → xs ≡ rest ++ x ∷ [] → AreActionsThere i rest × IsActionThere i x
one_less_action i xs rest x h e = All-pop (IsActionThere i) xs rest (Some x) e h

pub one_more_line : (i : Input) (old new : List Line) (l : Line) → AreLinesThere i old → IsLineThere i l → new ≡ old ++ l ∷ [] → AreLinesThere i new
one_more_line i old new l h k e = All-same (IsLineThere i) new (old ++ l ∷ []) e (All-push (IsLineThere i) old l h k)

pub no_labels : (i : Input) (xs : List Arm) → xs ≡ [] → AreLabelsThere i xs
no_labels i xs e = All-same (λ a. IsThere i a.label) xs [] e (All-nil (λ (a : Arm). IsThere i a.label))

pub one_more_label : (i : Input) (xs zs : List Arm) (x : Arm) → AreLabelsThere i xs → IsThere i x.label → zs ≡ xs ++ x ∷ [] → AreLabelsThere i zs
one_more_label i xs zs x h k e = All-same (λ a. IsThere i a.label) zs (xs ++ x ∷ []) e (All-push (λ (a : Arm). IsThere i a.label) xs x h k)

pub still_there : {X : Type 0} (i : Input) (old new : List Line) (r : Result X Denied) → OnOk r ((j : Input) → AreLinesThere j old → AreLinesThere j new) → AreLinesThere i old → OnOk r (AreLinesThere i new)
still_there i old new (Ok x) f h = f i h
still_there i old new (Err d) f h = tt

-- a name is no keyword
pub not_keyword : (i : Input) (x : NameId) → is_of a_name (symbol_of i (Word x)) ≡ true → IsName (name_in i.names.now x)
not_keyword i x h = go (is_keyword (name_in i.names.now x)) h
  where
    go : (b : Bool) → not b ≡ true → b ≡ false
    go false h = refl
    go true h = absurd cc
