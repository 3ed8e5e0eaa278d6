use Rattle.std.proofs.Common.{sym, ap, subst, ◌∙◌, take, drop, ◌+◌, ◌-◌}
use Rattle.delegation.specs.Spans.{IsSpan, entries_of}
use Rattle.delegation.proofs.Parts.{entries_in, entries_none}
use Rattle.delegation.proofs.owners.Owners.entries_of.Goals as goal

pub returns-in-Some : goal.returns-in-Some
returns-in-Some c =
    let s = c.in-Some.span in
    ap (λ l. take (s.first + s.len - s.first) (drop s.first l)) c.deref.ensures.value
    ∙ entries_in c.args.session c.self.inside.entries.items s (subst (λ o. IsSpan c.args.session c.self.inside.entries.items o) (sym c.in-Some.ensures) (c.self.invariant c.args.session))
    ∙ ap (entries_of c.args.session) c.self.view_is

pub returns-in-None : goal.returns-in-None
returns-in-None c =
    entries_none c.args.session c.self.inside.entries.items (subst (λ o. IsSpan c.args.session c.self.inside.entries.items o) (sym c.in-None.ensures) (c.self.invariant c.args.session))
    ∙ ap (entries_of c.args.session) c.self.view_is
