use Rattle.std.proofs.Common.{List, sym, subst}
use Rattle.std.proofs.lemmas.Result.{err_from_is_err_and}
use Rattle.chor_base.specs.declared.event.Event.{Event}
use Rattle.chor_host.specs.Functions.{hosts_in}
use Rattle.chor_host.specs.Tables.{functions_of}
use Rattle.transcript.specs.Books.{words}
use Rattle.replay.specs.Replays.{IsReplayed}
use Rattle.event_files.specs.Fronts.{IsFront}
use Rattle.event_files.proofs.ReadEvents.{few_enough, numbers_read, fault_read, unclosed_read}
use Rattle.event_files.proofs.Replaying.{whole_events}
use Rattle.event_files.proofs.events.replayed_events.Goals as goal

pub replay-requires-clause-few : goal.replay-requires-clause-few
replay-requires-clause-few g c =
    let e = c.args.endpoints.now in
    let hosts = hosts_in e.names (functions_of c.args.hosts.now) in
    let front = subst (λ (xs : List Event). IsFront (words c.args.book.now) c.args.bytes.now xs c.in_ok-events.rest.now) (sym c.as_slice.ensures) c.in_ok-events.ensures in
    few_enough (words c.args.book.now) e hosts c.args.capacity c.args.bytes.now c.in_ok-events.rest.now c.as_slice.result.now front c.requires.few

pub replay-requires-clause-numbers : goal.replay-requires-clause-numbers
replay-requires-clause-numbers g c =
    let e = c.args.endpoints.now in
    let hosts = hosts_in e.names (functions_of c.args.hosts.now) in
    let front = subst (λ (xs : List Event). IsFront (words c.args.book.now) c.args.bytes.now xs c.in_ok-events.rest.now) (sym c.as_slice.ensures) c.in_ok-events.ensures in
    numbers_read (words c.args.book.now) e hosts c.args.capacity c.args.bytes.now c.in_ok-events.rest.now c.as_slice.result.now front (c.are_few.ensures.0 c.if-not-are_few.false)

pub returns-in_err-replayed : goal.returns-in_err-replayed
returns-in_err-replayed g c =
    let e = c.args.endpoints.now in
    let hosts = hosts_in e.names (functions_of c.args.hosts.now) in
    let front = subst (λ (xs : List Event). IsFront (words c.args.book.now) c.args.bytes.now xs c.in_ok-events.rest.now) (sym c.as_slice.ensures) c.in_ok-events.ensures in
    let p = err_from_is_err_and c.from_residual-in_err-replayed.result c.from_residual-in_err-replayed.ensures.1 in
    rw (p.1, p.2) (fault_read (words c.args.book.now) e hosts c.args.capacity c.args.bytes.now c.in_ok-events.rest.now c.as_slice.result.now front c.requires.book c.requires.few c.in_err-replayed.field-0.0 c.in_err-replayed.ensures)

pub returns-in_err-judge : goal.returns-in_err-judge
returns-in_err-judge g c =
    let e = c.args.endpoints.now in
    let hosts = hosts_in e.names (functions_of c.args.hosts.now) in
    let front = subst (λ (xs : List Event). IsFront (words c.args.book.now) c.args.bytes.now xs c.in_ok-events.rest.now) (sym c.as_slice.ensures) c.in_ok-events.ensures in
    let p = err_from_is_err_and c.from_residual-in_err-judge.result c.from_residual-in_err-judge.ensures.1 in
    rw (p.1, p.2) (unclosed_read (words c.args.book.now) e hosts c.args.capacity c.args.bytes.now c.in_ok-events.rest.now c.as_slice.result.now front c.in_ok-replayed.replayed c.in_err-judge.field-0.0 c.in_ok-replayed.ensures c.in_err-judge.ensures)

pub returns : goal.returns
returns g c =
    let e = c.args.endpoints.now in
    let hosts = hosts_in e.names (functions_of c.args.hosts.now) in
    whole_events (words c.args.book.now) e hosts c.args.capacity c.args.bytes.now c.in_ok-events.rest.now c.in_ok-events.events c.in_ok-events.ensures c.in_ok-replayed.replayed c.in_ok-judge.field-0 (subst (λ (xs : List Event). IsReplayed e hosts c.args.capacity xs c.in_ok-replayed.replayed) c.as_slice.ensures c.in_ok-replayed.ensures) c.in_ok-judge.ensures
