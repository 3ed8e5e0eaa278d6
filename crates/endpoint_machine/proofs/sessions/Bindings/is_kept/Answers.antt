use Rattle.std.proofs.Common.{◌≡◌, sym, ◌∙◌, subst, arith}
use Rattle.endpoint_code.specs.Network.{passed}
use Rattle.chor_base.specs.declared.names.NameId.{NameId}
use Rattle.endpoint_machine.proofs.Bound.{kept_passed}
use Rattle.endpoint_machine.proofs.sessions.Bindings.is_kept.Goals as goal

nobody : NameId
nobody = record { 0 = 0 }

pub returns-then-eq : goal.returns-then-eq
unfolding nobody
returns-then-eq c = λ t.
    let b = c.in-Some.first in
    let first = sym c.eq.ensures ∙ c.if-eq.true in
    let second = sym c.eq-then-eq.ensures ∙ t in
    let kept = kept_passed c.args.params.now c.args.names.now c.self.inside.items.items nobody b (omega arith) (omega arith) (omega arith) (sym c.in-Some.is ∙ c.self.invariant) first second in
    subst (λ v. passed c.args.params.now c.args.names.now v.map ≡ v.map) c.self.view_is kept
