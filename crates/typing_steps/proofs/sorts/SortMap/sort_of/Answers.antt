use Rattle.std.proofs.Common.{ap, ◌∙◌}
use Rattle.chor_base.specs.declared.value.Sort.{Sort}
use Rattle.chor_base.specs.Expr.{term_of}
use Rattle.chor_base.specs.Sorts.{Sorts, sort_of}
use Rattle.chor_base.specs.NameMap.{FromNames}
use Rattle.typing_steps.specs.Sorts.{sorts_of_map, sorts_of_entry}
use Rattle.typing_steps.proofs.SortMaps.{none_in_empty}
use Rattle.typing_steps.proofs.sorts.SortMap.sort_of.Goals as goal

pub returns-in-Some : goal.returns-in-Some
returns-in-Some c = c.sort_of.ensures ∙ ap (λ o. sort_of (term_of c.args.expr.now) (sorts_of_entry o)) c.in-Some.ensures.value

pub returns-in-None : goal.returns-in-None
returns-in-None c =
    c.sort_of-in-None.ensures ∙ ap (λ (m : FromNames Sort). sort_of (term_of c.args.expr.now) (sorts_of_map m)) c.new.ensures ∙ ap (λ (s : Sorts). sort_of (term_of c.args.expr.now) s) none_in_empty
    ∙ ap (λ o. sort_of (term_of c.args.expr.now) (sorts_of_entry o)) c.in-None.ensures.value
