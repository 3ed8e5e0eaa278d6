use Rattle.std.proofs.Common.{sym, ap, subst, ◌∙◌, ◌≡◌, ◌+◌, ◌-◌, arith}
use Rattle.delegation.specs.Owners.{passed, Lacks}
use Rattle.delegation.specs.Spans.{IsSpan}
use Rattle.delegation.proofs.Parts.{vec_passed, spans_passed, none_passed}
use Rattle.delegation.proofs.owners.Owners.set_holder.Goals as goal

pub invariant_of-self : goal.invariant_of-self
invariant_of-self c =
    let entries = c.self.inside.entries in
    let s = c.in-Some.span in
    let n : s.first + s.len - s.first ≡ s.len = omega arith in
    let is_part = subst (λ o. IsSpan c.args.session entries.items o) (sym c.in-Some.ensures) (c.self.invariant c.args.session) in
    spans_passed c.args.session c.args.role c.args.to entries.items _ c.self.inside.spans.map c.self.invariant
    (vec_passed c.args.session c.args.role c.args.to entries.items _ _ s _ _ is_part c.deref_mut.ensures.value n entries.ok.0 c.set_holder_in.ensures)

pub returns-in-Some : goal.returns-in-Some
returns-in-Some c =
    let entries = c.self.inside.entries in
    let s = c.in-Some.span in
    let n : s.first + s.len - s.first ≡ s.len = omega arith in
    let is_part = subst (λ o. IsSpan c.args.session entries.items o) (sym c.in-Some.ensures) (c.self.invariant c.args.session) in
    vec_passed c.args.session c.args.role c.args.to entries.items _ _ s _ _ is_part c.deref_mut.ensures.value n entries.ok.0 c.set_holder_in.ensures
    ∙ ap (λ l. passed l c.args.session c.args.role c.args.to) c.self.view_is

pub returns-in_default : goal.returns-in_default
returns-in_default c =
    none_passed c.args.session c.args.role c.args.to c.args.self.now
    (subst (λ l. Lacks c.args.session l) c.self.view_is (subst (λ o. IsSpan c.args.session c.self.inside.entries.items o) (sym c.get.ensures ∙ c.in_default.is) (c.self.invariant c.args.session)))
