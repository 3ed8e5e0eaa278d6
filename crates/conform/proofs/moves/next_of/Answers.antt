use Rattle.std.proofs.Common.{ap, sym, subst, ◌∙◌}
use Rattle.typed_sources.specs.Told.{puts, gets}
use Rattle.conform.proofs.Labelled.{same_act, picks_next, offers_next, picks_none, offers_none, sends_next, receives_next}
use Rattle.conform.specs.Moves.{act, HasLabel}
use Rattle.conform.proofs.moves.next_of.Goals as goal

pub returns-in_err-label_to-in-Pick : goal.returns-in_err-label_to-in-Pick
returns-in_err-label_to-in-Pick c = picks_none c.args.state.now c.in-Pick.to c.in-Pick.labels (act c.args.deed) c.from_residual.result c.in-Pick.is c.in_err-label_to-in-Pick.ensures c.from_residual.ensures

pub returns-in_err-label_from-in-Branch : goal.returns-in_err-label_from-in-Branch
returns-in_err-label_from-in-Branch c = offers_none c.args.state.now c.in-Branch.from c.in-Branch.labels (act c.args.deed) c.from_residual-in_err-label_from-in-Branch.result c.in-Branch.is c.in_err-label_from-in-Branch.ensures c.from_residual-in_err-label_from-in-Branch.ensures

pub returns-in-Send : goal.returns-in-Send
returns-in-Send c =
    let own = ap (puts c.in-Send.to) c.of.ensures in
    sends_next c.args.state.now c.in-Send.to c.in-Send.payload c.in-Send.next (act c.args.deed) c.is_deed.result c.next_if.result c.in-Send.is c.next_if.ensures (λ e. ap act (c.is_deed.ensures.0 e) ∙ own) (λ h. c.is_deed.ensures.1 (same_act c.args.deed _ (h ∙ sym own)))

pub returns-in-Recv : goal.returns-in-Recv
returns-in-Recv c =
    let own = ap (gets c.in-Recv.from) c.of-in-Recv.ensures in
    receives_next c.args.state.now c.in-Recv.from c.in-Recv.payload c.in-Recv.next (act c.args.deed) c.is_deed-in-Recv.result c.next_if-in-Recv.result c.in-Recv.is c.next_if-in-Recv.ensures (λ e. ap act (c.is_deed-in-Recv.ensures.0 e) ∙ own) (λ h. c.is_deed-in-Recv.ensures.1 (same_act c.args.deed _ (h ∙ sym own)))

pub returns-in_ok-label_to-in-Pick : goal.returns-in_ok-label_to-in-Pick
returns-in_ok-label_to-in-Pick c = picks_next c.args.state.now c.in-Pick.to c.in-Pick.labels (act c.args.deed) c.in_ok-label_to-in-Pick.field-0 c.chosen.result c.in-Pick.is c.in_ok-label_to-in-Pick.ensures (subst (λ l. HasLabel l c.in_ok-label_to-in-Pick.field-0 c.chosen.result) c.as_slice.ensures c.chosen.ensures)

pub returns-in_ok-label_from-in-Branch : goal.returns-in_ok-label_from-in-Branch
returns-in_ok-label_from-in-Branch c = offers_next c.args.state.now c.in-Branch.from c.in-Branch.labels (act c.args.deed) c.in_ok-label_from-in-Branch.field-0 c.chosen-in-Branch.result c.in-Branch.is c.in_ok-label_from-in-Branch.ensures (subst (λ l. HasLabel l c.in_ok-label_from-in-Branch.field-0 c.chosen-in-Branch.result) c.as_slice-in-Branch.ensures c.chosen-in-Branch.ensures)
