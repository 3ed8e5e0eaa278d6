use Rattle.std.proofs.Common.{sym, ap, ◌∙◌}
use Rattle.std.specs.FinMap as fin
use Rattle.chor_base.specs.declared.names.NameId.{NameId}
use Rattle.chor_base.specs.Expr.{term_of}
use Rattle.chor_base.specs.Sorts.{sort_of_unary, sort_of_binary, sort_of}
use Rattle.chor_base.proofs.sorts.+sort_of.Goals as goal

pub returns-in-Un : goal.returns-in-Un
returns-in-Un t c =
    c.sort_of_unary.ensures ∙ ap (sort_of_unary c.in-Un.op) (c.sort_of.ensures ∙ ap (λ e. sort_of (term_of e) (λ x. fin.get c.args.env.now.map x.0)) c.deref.ensures)
    ∙ ap (λ e. sort_of (term_of e) (λ x. fin.get c.args.env.now.map x.0)) (sym c.in-Un.is)

pub returns-in-Bin : goal.returns-in-Bin
returns-in-Bin t c =
    let m = λ (x : NameId). fin.get c.args.env.now.map x.0 in
    c.sort_of_binary.ensures ∙ ap (λ y. sort_of_binary c.in-Bin.op y c.sort_of-in-Bin-2.result) (c.sort_of-in-Bin.ensures ∙ ap (λ e. sort_of (term_of e) m) c.deref-in-Bin.ensures)
    ∙ ap (sort_of_binary c.in-Bin.op (sort_of (term_of c.in-Bin.left.value) m)) (c.sort_of-in-Bin-2.ensures ∙ ap (λ e. sort_of (term_of e) m) c.deref-in-Bin-2.ensures)
    ∙ ap (λ e. sort_of (term_of e) m) (sym c.in-Bin.is)
