use Rattle.std.proofs.Common.{sym, ap, ◌∙◌, List}
use Rattle.std.specs.FinMap as fin
use Rattle.endpoint_machine.specs.declared.sessions.Binding.{Binding}
use Rattle.endpoint_machine.proofs.Bound.{lookup, found_first, found_here, not_here, none_left, get_sessions}
use Rattle.endpoint_machine.proofs.sessions.Bindings.get.Goals as goal

nobody : Binding
nobody = record { session = record { 0 = 0 }; sid = 0; role = record { 0 = 0 } }

pub returns-then-eq : goal.returns-then-eq
returns-then-eq c =
    let q = c.args.name.0 in
    let bs = c.self.inside.items.items in
    sym (ap (λ v. fin.get v.map q) (sym c.self.view_is) ∙ get_sessions bs q ∙ found_first bs q c.in-Some.first (sym c.in-Some.is ∙ c.self.invariant) (sym c.eq.ensures ∙ c.if-eq.true))

pub returns-then-eq-2 : goal.returns-then-eq-2
unfolding nobody
returns-then-eq-2 c =
    let q = c.args.name.0 in
    let bs = c.deref-binding-items.result.now in
    sym (ap (λ v. fin.get v.map q) (sym c.self.view_is) ∙ get_sessions c.self.inside.items.items q ∙ ap (λ (l : List Binding). lookup l q) (sym c.deref-binding-items.ensures.value) ∙ c.loop-binding.invariant
    ∙ found_here bs c.loop-binding.binding-index q nobody c.loop-binding-test.true (sym c.eq-in-loop-binding.ensures ∙ c.if-eq-2.true))

pub loop-binding-preserved : goal.loop-binding-preserved
unfolding nobody
loop-binding-preserved c =
    c.loop-binding.invariant ∙ not_here c.deref-binding-items.result.now c.loop-binding.binding-index c.args.name.0 nobody c.loop-binding-test.true (sym c.eq-in-loop-binding.ensures ∙ c.if-eq-2.false)

pub returns : goal.returns
returns c =
    let q = c.args.name.0 in
    sym (ap (λ v. fin.get v.map q) (sym c.self.view_is) ∙ get_sessions c.self.inside.items.items q ∙ ap (λ (l : List Binding). lookup l q) (sym c.deref-binding-items.ensures.value) ∙ c.loop-binding.invariant
    ∙ none_left c.deref-binding-items.result.now c.loop-binding.binding-index q c.loop-binding-test.false)
