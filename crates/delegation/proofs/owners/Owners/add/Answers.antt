use Rattle.std.proofs.Common.{sym, ap, subst, ◌∙◌, refl, length}
use Rattle.std.specs.FinMap as fin
use Rattle.delegation.specs.declared.owners.Span.{Span}
use Rattle.delegation.specs.Owners.{Lacks}
use Rattle.delegation.specs.Spans.{AreSpans}
use Rattle.delegation.proofs.Parts.{spans_with}
use Rattle.delegation.proofs.owners.Owners.add.Goals as goal

pub invariant_of-self-2 : goal.invariant_of-self-2
invariant_of-self-2 c =
    let entries = c.self.inside.entries in
    let spans = c.self.inside.spans in
    let span : Span = record { first = c.len.result; len = length c.args.entries.now } in
    subst (λ l. AreSpans l c.set.new.self.map) (sym c.in_ok-extend_from_slice.ensures.items)
    (spans_with entries.items c.args.entries.now spans.map c.set.new.self.map c.args.session span c.self.invariant (subst (λ l. Lacks c.args.session l) (sym c.self.view_is) c.requires.none) c.requires.own
    (c.len.ensures ∙ entries.ok.0) refl (c.set.ensures.map ∙ ap (λ m. fin.insert m c.args.session.0 span) c.in_ok-reserve.ensures.map))
