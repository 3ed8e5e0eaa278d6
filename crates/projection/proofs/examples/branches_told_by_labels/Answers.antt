use Rattle.std.proofs.Common.{◌≡◌, ℕ, pos, [], ◌∷◌, refl, ap, ◌∙◌, subst}
use Rattle.chor_base.specs.declared.names.NameId.{NameId}
use Rattle.chor_base.specs.declared.value.Value.TheVariants.{Int}
use Rattle.chor_base.specs.Expr.{Constant}
use Rattle.chor_semantics.specs.Examples.Names.{p, c, h}
use Rattle.endpoint_code.specs.Trees.{Action, CodeTree, Does, Offers, Ends, NoArms, Arm, Joins, Shows}
use Rattle.endpoint_code.specs.Above.{IsAbove}
use Rattle.endpoint_code.specs.LeastAbove.{IsLeastAbove}
use Rattle.projection.specs.Codes.{IsCodeOf, acts, learns, decides, merges, ends}
use Rattle.projection.specs.Examples.BranchesByLabels.{R, P, ok, ko, main}
use Rattle.projection.proofs.Inversions.{after_action, after_label, at_end, at_anothers}
use Rattle.projection.proofs.Branches.{least_two, not_one, not_three, first_of_both, second_of_both, same_action}
use Rattle.projection.proofs.examples.branches_told_by_labels.Goals as goal

pub returns-clause-decider : goal.returns-clause-decider
returns-clause-decider g = acts refl (decides refl (acts refl ends) (acts refl ends))

pub returns-clause-other : goal.returns-clause-other
returns-clause-other g = acts refl (merges refl (learns refl ends) (learns refl ends) (least_two h R ko ok Ends Ends refl tt tt))

-- the code of one branch
abbrev told : NameId → CodeTree
told l = Offers h R (Arm l Ends NoArms)

-- what p's code must be after its join
after_join : (x : CodeTree) → IsCodeOf [] p main (Does (Joins c P h) x) → IsLeastAbove (told ok ∷ told ko ∷ []) x
after_join x code =
    let m = after_action [] p (Joins c P h) refl code in
    let b = at_anothers [] p refl m.follows in
    let f = after_label [] p h R ok refl b.of_first in
    let s = after_label [] p h R ko refl b.of_second in
    let same : m.code ≡ x = cc in
    let ends_f : f.code ≡ Ends = at_end [] p f.follows in
    let ends_s : s.code ≡ Ends = at_end [] p s.follows in
    let one : b.one ≡ told ok = f.made ∙ ap (λ t. Offers h R (Arm ok t NoArms)) ends_f in
    let other : b.other ≡ told ko = s.made ∙ ap (λ t. Offers h R (Arm ko t NoArms)) ends_s in
    let at : IsLeastAbove (told ok ∷ b.other ∷ []) m.code = subst (λ (t : CodeTree). IsLeastAbove (t ∷ b.other ∷ []) m.code) one b.least in
    let both : IsLeastAbove (told ok ∷ told ko ∷ []) m.code = subst (λ (t : CodeTree). IsLeastAbove (told ok ∷ t ∷ []) m.code) other at in
    subst (IsLeastAbove (told ok ∷ told ko ∷ [])) same both

pub returns-clause-fewer : goal.returns-clause-fewer
returns-clause-fewer g l code = not_one h R ko ok Ends Ends refl tt tt (after_join (told l) code)

pub returns-clause-more : goal.returns-clause-more
returns-clause-more g l code = not_three h R ko ok Ends Ends refl tt tt (after_join (Offers h R (Arm l Ends (Arm ko Ends (Arm ok Ends NoArms)))) code)

abbrev shows : ℕ → Action
shows n = Shows (Constant (Int (pos n)))

pub returns-clause-untold : goal.returns-clause-untold
returns-clause-untold g x code =
    let b = at_anothers [] p refl code in
    let f = after_action [] p (shows 1) refl b.of_first in
    let s = after_action [] p (shows 2) refl b.of_second in
    let one : IsAbove x (Does (shows 1) f.code) = subst (IsAbove x) f.made (first_of_both (IsAbove x) b.one b.other b.least.above) in
    let other : IsAbove x (Does (shows 2) s.code) = subst (IsAbove x) s.made (second_of_both (IsAbove x) b.one b.other b.least.above) in
    let same : shows 1 ≡ shows 2 = same_action one other in cc
