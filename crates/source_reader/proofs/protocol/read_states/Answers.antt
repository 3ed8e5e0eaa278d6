use Rattle.std.proofs.lemmas.Result.{err_from_is_err_and}
use Rattle.source_grammar.proofs.Terminals.{holds_if, fails_if}
use Rattle.source_reader.proofs.Readers.{first_state_comes, first_state_halts, more_states_come, state_full, state_stops, states_read, room_for, full_for}
use Rattle.source_grammar.proofs.Shorter.{state_shorter}
use Rattle.source_reader.proofs.protocol.read_states.Goals as goal

pub returns-in_err-first-clause-halts : goal.returns-in_err-first-clause-halts
returns-in_err-first-clause-halts c =
    let p = err_from_is_err_and c.from_residual.result c.from_residual.ensures.1 in
    rw (p.1, p.2) (first_state_halts c.in_err-first.ensures.halts)

pub states-init : goal.states-init
states-init c = first_state_comes _ _ c.in_ok-first.ensures.reads c.new-states.ensures c.in_ok-push.ensures.ok

pub returns-in_err-room_for_name-clause-halts : goal.returns-in_err-room_for_name-clause-halts
returns-in_err-room_for_name-clause-halts c =
    let p = err_from_is_err_and c.from_residual-in_err-room_for_name.result c.from_residual-in_err-room_for_name.ensures.1 in
    rw (p.1, p.2) (state_full _ _ c.states.invariant (full_for 256 c.len.ensures c.in_err-room_for_name.ensures.full))

pub returns-in_err-state-clause-halts : goal.returns-in_err-state-clause-halts
returns-in_err-state-clause-halts c =
    let p = err_from_is_err_and c.from_residual-in_err-state.result c.from_residual-in_err-state.ensures.1 in
    rw (p.1, p.2) (state_stops _ _ c.states.invariant (holds_if c.has_name.ensures c.states-test.true) (room_for 256 c.len.ensures c.in_ok-room_for_name.ensures.room) c.in_err-state.ensures.halts)

pub states-preserved : goal.states-preserved
states-preserved c = more_states_come _ _ c.states.invariant (room_for 256 c.len.ensures c.in_ok-room_for_name.ensures.room) c.in_ok-state.ensures.reads c.in_ok-push-2.ensures.ok

pub states-smaller : goal.states-smaller
states-smaller c = state_shorter c.in_ok-state.ensures.reads.is.0

pub returns-clause-reads : goal.returns-clause-reads
returns-clause-reads c = states_read _ _ c.states.invariant (fails_if c.has_name.ensures c.states-test.false)
