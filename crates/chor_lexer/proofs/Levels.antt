-- What a token is at a level, and what the grammar makes of it.
use Rattle.std.proofs.Common.{◌≡◌, ◌≢◌, ◌==◌, ℕ, Bool, true, false, List, ◌∷◌, Option, Some, None, refl, sym, ap, ◌∙◌, subst}
use Rattle.std.specs.Prelude.{if◌then◌else◌}
use Rattle.std.proofs.lemmas.Bool.{false≢true}
use Rattle.std.proofs.lemmas.Bool.Decides.{Decides-eqb}
use Rattle.std.proofs.lemmas.Option.{none-some, same_Some}
use Rattle.chor_base.specs.declared.expr.UnOp.{UnOp}
use Rattle.chor_base.specs.declared.expr.BinOp.{BinOp}
use Rattle.chor_base.specs.declared.expr.BinOp.TheVariants as binop
use Rattle.chor_base.specs.Expr.{Term, Binary}
use Rattle.chor_lexer.specs.declared.mark.Mark.TheVariants.{OpenParen, CloseParen, Plus, Minus, Star, Slash, Equal, NotEqual, Less, LessEqual, And, Or, Not}
use Rattle.chor_lexer.specs.declared.token.Kind.{Kind}
use Rattle.chor_lexer.specs.declared.token.Kind.TheVariants.{Mark}
use Rattle.chor_lexer.specs.declared.token.Token.{Token}
use Rattle.chor_lexer.specs.declared.level.Level.{Level}
use Rattle.chor_lexer.specs.declared.level.Level.TheVariants as level
use Rattle.chor_lexer.specs.Canonical.{unary_mark, binary_mark, strength}
use Rattle.chor_lexer.specs.Grammar.{a_disjunction, or_done, or_more, a_conjunction, and_done, and_more, a_comparison, cmp_done, cmp_once, a_sum, sum_done, sum_more, a_product, prod_done, prod_more}
use Rattle.chor_lexer.specs.Turns.{stronger, strength_at, repeats, LevelIs, LevelGoes, unary_of, binary_of, of_level, operator_at, is_open, is_close}

-- ---- marks

pub binary_is : (k : Kind) (op : BinOp) → binary_of k ≡ Some op → k ≡ Mark (binary_mark op)
binary_is (Mark Plus) op e = subst (λ o. Mark Plus ≡ Mark (binary_mark o)) (same_Some _ _ e) refl
binary_is (Mark Minus) op e = subst (λ o. Mark Minus ≡ Mark (binary_mark o)) (same_Some _ _ e) refl
binary_is (Mark Star) op e = subst (λ o. Mark Star ≡ Mark (binary_mark o)) (same_Some _ _ e) refl
binary_is (Mark Slash) op e = subst (λ o. Mark Slash ≡ Mark (binary_mark o)) (same_Some _ _ e) refl
binary_is (Mark Equal) op e = subst (λ o. Mark Equal ≡ Mark (binary_mark o)) (same_Some _ _ e) refl
binary_is (Mark NotEqual) op e = subst (λ o. Mark NotEqual ≡ Mark (binary_mark o)) (same_Some _ _ e) refl
binary_is (Mark Less) op e = subst (λ o. Mark Less ≡ Mark (binary_mark o)) (same_Some _ _ e) refl
binary_is (Mark LessEqual) op e = subst (λ o. Mark LessEqual ≡ Mark (binary_mark o)) (same_Some _ _ e) refl
binary_is (Mark And) op e = subst (λ o. Mark And ≡ Mark (binary_mark o)) (same_Some _ _ e) refl
binary_is (Mark Or) op e = subst (λ o. Mark Or ≡ Mark (binary_mark o)) (same_Some _ _ e) refl
binary_is _ op e = absurd (none-some op e)

pub is_binary : (op : BinOp) → binary_of (Mark (binary_mark op)) ≡ Some op
is_binary binop.Add = refl
is_binary binop.Sub = refl
is_binary binop.Mul = refl
is_binary binop.Div = refl
is_binary binop.Eq = refl
is_binary binop.Ne = refl
is_binary binop.Lt = refl
is_binary binop.Le = refl
is_binary binop.And = refl
is_binary binop.Or = refl

pub unary_is : (k : Kind) (op : UnOp) → unary_of k ≡ Some op → k ≡ Mark (unary_mark op)
unary_is (Mark Minus) op e = subst (λ o. Mark Minus ≡ Mark (unary_mark o)) (same_Some _ _ e) refl
unary_is (Mark Not) op e = subst (λ o. Mark Not ≡ Mark (unary_mark o)) (same_Some _ _ e) refl
unary_is _ op e = absurd (none-some op e)

pub open_is : (k : Kind) → is_open k ≡ true → k ≡ Mark OpenParen
open_is (Mark OpenParen) e = refl
open_is _ e = absurd (false≢true e)

pub close_is : (k : Kind) → is_close k ≡ true → k ≡ Mark CloseParen
close_is (Mark CloseParen) e = refl
close_is _ e = absurd (false≢true e)

-- ---- operators

-- an operator of a level
pub record IsAt (l : Level) (k : Kind) (op : BinOp) : Type 0 where
  pub mark : k ≡ Mark (binary_mark op)
  pub strong : strength op ≡ strength_at l

pub level_is : (l : Level) (o : Option BinOp) (op : BinOp) → of_level l o ≡ Some op → (o ≡ Some op) × (strength op ≡ strength_at l)
level_is l None op e = absurd (none-some op e)
level_is l (Some p) op e = go (strength p == strength_at l) refl
  where
    go : (b : Bool) → (strength p == strength_at l) ≡ b → (Some p ≡ Some op) × (strength op ≡ strength_at l)
    go true h =
        let same : Some p ≡ Some op = sym (ap (λ (c : Bool). if c then Some p else None) h) ∙ e in
        let ops : p ≡ op = cc in
        (same, sym (ap strength ops) ∙ (Decides-eqb (strength p) (strength_at l)).0 h)
    go false h =
        let none : None ≡ Some op = sym (ap (λ (c : Bool). if c then Some p else None) h) ∙ e in
        absurd cc

pub operator_is : (l : Level) (k : Kind) (op : BinOp) → operator_at l k ≡ Some op → IsAt l k op
operator_is l k op e = let p = level_is l (binary_of k) op e in record { mark = binary_is k op p.0; strong = p.1 }

-- ---- levels

pub level_done : (names : List (List ℕ)) (l : Level) (a : Term) (ts : List Token) → LevelGoes names l a ts a ts
level_done names level.Or a ts = or_done
level_done names level.And a ts = and_done
level_done names level.Cmp a ts = cmp_done
level_done names level.Sum a ts = sum_done
level_done names level.Prod a ts = prod_done
level_done names level.Un a ts = (refl, refl)

pub level_begins : (names : List (List ℕ)) (l : Level) (ts mid rest : List Token) (a x : Term) → l ≢ level.Un → LevelIs names (stronger l) ts a mid → LevelGoes names l a mid x rest → LevelIs names l ts x rest
level_begins names level.Or ts mid rest a x h p g = a_disjunction p g
level_begins names level.And ts mid rest a x h p g = a_conjunction p g
level_begins names level.Cmp ts mid rest a x h p g = a_comparison p g
level_begins names level.Sum ts mid rest a x h p g = a_sum p g
level_begins names level.Prod ts mid rest a x h p g = a_product p g
level_begins names level.Un ts mid rest a x h p g = absurd (h refl)

pub level_more : (names : List (List ℕ)) (l : Level) (t : Token) (ts mid rest : List Token) (a b x : Term) (op : BinOp) → repeats l ≡ true → IsAt l t.kind op → LevelIs names (stronger l) ts b mid → LevelGoes names l (Binary op a b) mid x rest → LevelGoes names l a (t ∷ ts) x rest
level_more names level.Or t ts mid rest a b x op h at p g = or_more at.strong at.mark p g
level_more names level.And t ts mid rest a b x op h at p g = and_more at.strong at.mark p g
level_more names level.Cmp t ts mid rest a b x op h at p g = absurd cc
level_more names level.Sum t ts mid rest a b x op h at p g = sum_more at.strong at.mark p g
level_more names level.Prod t ts mid rest a b x op h at p g = prod_more at.strong at.mark p g
level_more names level.Un t ts mid rest a b x op h at p g = absurd cc

pub level_once : (names : List (List ℕ)) (l : Level) (t : Token) (ts rest : List Token) (a b : Term) (op : BinOp) → repeats l ≡ false → l ≢ level.Un → IsAt l t.kind op → LevelIs names (stronger l) ts b rest → LevelGoes names l a (t ∷ ts) (Binary op a b) rest
level_once names level.Or t ts rest a b op h n at p = absurd cc
level_once names level.And t ts rest a b op h n at p = absurd cc
level_once names level.Cmp t ts rest a b op h n at p = cmp_once at.strong at.mark p
level_once names level.Sum t ts rest a b op h n at p = absurd cc
level_once names level.Prod t ts rest a b op h n at p = absurd cc
level_once names level.Un t ts rest a b op h n at p = absurd (n refl)
