use Rattle.std.proofs.Common.{◌∙◌, ap, sym, subst}
use Rattle.conform.specs.Moves.{act, IsNext}
use Rattle.conform.specs.Progress.{role_among}
use Rattle.conform.specs.Steps.{IsMoveOf}
use Rattle.conform.proofs.Lookups.{here, here_at, no_move}
use Rattle.conform.proofs.progress.Progress.move_of.Goals as goal

pub returns-in_err-next_of : goal.returns-in_err-next_of
returns-in_err-next_of c =
    subst (IsMoveOf c.args.file.now c.args.self.now c.args.sid c.args.role (act c.args.deed)) (sym c.from_residual-in_err-next_of.ensures)
    (no_move c.args.file.now c.args.self.now c.args.sid c.args.role (act c.args.deed) c.in_ok-session.session.now (here _ _ c.args.sid _ c.deref.ensures.value c.in_ok-session.ensures.lookup.3.0 c.in_ok-session.ensures.lookup.1) c.in_ok-protocol.protocol.now (here_at _ _ c.protocol.result _ _ c.protocol.ensures c.as_slice.ensures c.in_ok-protocol.ensures.lookup.3.0 c.in_ok-protocol.ensures.lookup.1) c.in_ok-types.types.now (here_at _ _ c.protocol-2.result _ _ c.protocol-2.ensures c.as_slice-2.ensures c.in_ok-types.ensures.lookup.3.0 c.in_ok-types.ensures.lookup.1) c.in_ok-place.place (sym (ap (λ l. role_among l c.args.role) (c.as_slice-3.ensures ∙ ap (λ p. p.roles) c.protocol-3.view_is)) ∙ sym c.role_among.ensures ∙ c.in_ok-place.was) c.in_ok-get.field-0.now (here _ _ c.in_ok-place.place _ c.as_slice-4.ensures c.in_ok-get.ensures.lookup.3.0 c.in_ok-get.ensures.lookup.1) c.in_ok-state.field-0 (sym c.state.ensures ∙ c.in_ok-state.was) c.in_ok-state-2.state.now (here _ _ c.in_ok-state.field-0 _ c.as_slice-states.ensures c.in_ok-state-2.ensures.lookup.3.0 c.in_ok-state-2.ensures.lookup.1) (subst (IsNext c.in_ok-state-2.state.now (act c.args.deed)) c.in_err-next_of.was c.next_of.ensures))

pub returns : goal.returns
returns c =
    record {
      session = c.in_ok-session.session.now;
      started = (here _ _ c.args.sid _ c.deref.ensures.value c.in_ok-session.ensures.lookup.3.0 c.in_ok-session.ensures.lookup.1);
      protocol = c.in_ok-protocol.protocol.now;
      here = (here_at _ _ c.protocol.result _ _ c.protocol.ensures c.as_slice.ensures c.in_ok-protocol.ensures.lookup.3.0 c.in_ok-protocol.ensures.lookup.1);
      role = (sym (ap (λ l. role_among l c.args.role) (c.as_slice-3.ensures ∙ ap (λ p. p.roles) c.protocol-3.view_is)) ∙ sym c.role_among.ensures ∙ c.in_ok-place.was);
      row = c.in_ok-types.types.now;
      types_there = (here_at _ _ c.protocol-2.result _ _ c.protocol-2.ensures c.as_slice-2.ensures c.in_ok-types.ensures.lookup.3.0 c.in_ok-types.ensures.lookup.1);
      type = c.in_ok-get.field-0.now;
      type_there = (here _ _ c.in_ok-place.place _ c.as_slice-4.ensures c.in_ok-get.ensures.lookup.3.0 c.in_ok-get.ensures.lookup.1);
      state = c.in_ok-state.field-0;
      stands = (sym c.state.ensures ∙ c.in_ok-state.was);
      local = c.in_ok-state-2.state.now;
      is = (here _ _ c.in_ok-state.field-0 _ c.as_slice-states.ensures c.in_ok-state-2.ensures.lookup.3.0 c.in_ok-state-2.ensures.lookup.1);
      leads = subst (IsNext c.in_ok-state-2.state.now (act c.args.deed)) c.in_ok-next_of.was c.next_of.ensures;
    }
