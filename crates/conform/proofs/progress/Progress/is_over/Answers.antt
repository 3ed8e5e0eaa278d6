use Rattle.std.proofs.Common.{List, ◌∙◌, sym, subst, refl}
use Rattle.local_types.specs.declared.local_type.LocalType.{LocalType}
use Rattle.conform.specs.Steps.{AreAtEnd}
use Rattle.conform.proofs.Lists.{some_same}
use Rattle.conform.proofs.Lookups.{here_at, nowhere, none_is}
use Rattle.conform.proofs.progress.Progress.is_over.Goals as goal

pub returns-in-Some : goal.returns-in-Some
returns-in-Some c =
    let there = here_at _ _ c.protocol.result _ _ c.protocol.ensures c.as_slice.ensures c.in-Some.ensures.lookup.3.0 c.in-Some.ensures.lookup.1 in (
      λ e row at. subst (λ (l : List LocalType). AreAtEnd l c.args.session.now) (c.as_slice-in-Some.ensures ∙ some_same c.in-Some.types.now row (sym there ∙ at)) (c.are_at_end.ensures.0 e),
      λ over. c.are_at_end.ensures.1 (subst (λ (l : List LocalType). AreAtEnd l c.args.session.now) (sym c.as_slice-in-Some.ensures) (over c.in-Some.types.now there)),
    )

pub returns-in-None : goal.returns-in-None
returns-in-None c = (λ e row at. none_is row (sym (nowhere _ _ c.protocol.result _ c.protocol.ensures c.as_slice.ensures c.in-None.ensures.lookup.3) ∙ at), λ over. refl)
