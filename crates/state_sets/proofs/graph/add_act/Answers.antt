use Rattle.std.proofs.Common.{sym, ap, subst, ◌∙◌, ◌≡◌, ◌≢◌, [], ◌∷◌, inl, inr, arith}
use Rattle.std.specs.Prelude.{◌⊎◌, Some}
use Rattle.global_types.specs.Moves.{IsIn}
use Rattle.state_sets.specs.declared.act.Act.{Act}
use Rattle.state_sets.specs.Moves.{action_of}
use Rattle.state_sets.specs.Graph.{Knows, AreApart}
use Rattle.state_sets.proofs.Lists.{in_left, in_last, in_push}
use Rattle.state_sets.proofs.Groups.{not_both}
use Rattle.state_sets.proofs.Pairs.{pairs_append}
use Rattle.state_sets.proofs.graph.add_act.Goals as goal

pub returns-in_ok-push-clause-kept : goal.returns-in_ok-push-clause-kept
returns-in_ok-push-clause-kept c = λ b h. rw c.in_ok-push.ensures.items (in_left b c.args.acts.now.items (c.in-Some.act ∷ []) h)

pub returns-in_ok-push-clause-own : goal.returns-in_ok-push-clause-own
returns-in_ok-push-clause-own c = λ b h. of b (in_push b c.in-Some.act c.args.acts.now.items (subst (λ l. IsIn b l) c.in_ok-push.ensures.items h))
  where
    of : (b : Act) → IsIn b c.args.acts.now.items ⊎ (c.in-Some.act ≡ b) → IsIn b c.args.acts.now.items ⊎ (c.args.act ≡ Some b)
    of b (inl o) = inl o
    of b (inr e) = inr (c.in-Some.is ∙ ap (λ (v : Act). Some v) e)

pub returns-in_ok-push-clause-apart : goal.returns-in_ok-push-clause-apart
returns-in_ok-push-clause-apart c = λ apart. subst AreApart (sym c.in_ok-push.ensures.items)
    (pairs_append (λ a b. action_of a ≢ action_of b) c.args.acts.now.items (c.in-Some.act ∷ []) apart (λ i j d less within. absurd (omega (arith, less, within))) (λ x y m n. new x y m n))
  where
    new : (x y : Act) → IsIn x c.args.acts.now.items → IsIn y (c.in-Some.act ∷ []) → action_of x ≢ action_of y
    new x y m (inl e) f = not_both c.knows.result (c.knows.ensures.1 (subst (λ l. Knows l c.in-Some.act) (sym c.as_slice.ensures.value) (x, m, f ∙ ap action_of (sym e)))) c.if-not-knows.true
    new x y m (inr h) f = h

pub returns-in_ok-push-clause-added : goal.returns-in_ok-push-clause-added
returns-in_ok-push-clause-added c = λ a e. (c.in-Some.act, rw c.in_ok-push.ensures.items (in_last c.in-Some.act c.args.acts.now.items), same_act c.in-Some.act a (sym c.in-Some.is ∙ e))
  where
    same_act : (x y : Act) → Some x ≡ Some y → action_of x ≡ action_of y
    same_act x y h = let g : x ≡ y = cc in ap action_of g
