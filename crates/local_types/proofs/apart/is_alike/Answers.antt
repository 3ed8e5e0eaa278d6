use Rattle.std.proofs.Common.{sym, subst}
use Rattle.global_types.specs.Views.{SameLabels}
use Rattle.local_types.proofs.apart.is_alike.Goals as goal

pub returns-then-same_parties-2 : goal.returns-then-same_parties-2
returns-then-same_parties-2 c =
    let x = c.in-Choice-Choice in
    let parties = c.same_parties-in-Choice-Choice.ensures.0 c.if-same_parties-2.true in
    rw (x.is-0, x.is-1) (
      (λ t. (parties.0, parties.1, λ f. subst (λ l. SameLabels l x.arms2) c.as_slice.ensures (subst (λ l. SameLabels c.as_slice.result.now l) c.as_slice-then-same_parties-2.ensures (c.chooses_alike.ensures.0 t f)))),
      (λ p. c.chooses_alike.ensures.1 (λ f. subst (λ l. SameLabels c.as_slice.result.now l) (sym c.as_slice-then-same_parties-2.ensures) (subst (λ l. SameLabels l x.arms2) (sym c.as_slice.ensures) (p.2 f)))),
    )
