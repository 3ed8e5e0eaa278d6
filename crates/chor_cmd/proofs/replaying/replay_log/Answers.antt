use Rattle.std.proofs.Common.{◌∙◌, ℕ, List, Option, sym, ap, subst}
use Rattle.std.specs.Prelude.{Result, Ok, Err}
use Rattle.chor_host.specs.Functions.{hosts_in}
use Rattle.chor_host.specs.Tables.{functions_of}
use Rattle.replay.specs.declared.answer.Replayed.{Replayed}
use Rattle.replay.specs.declared.answer.ReplayFault.{ReplayFault}
use Rattle.accepted_replays.specs.Sources.{ReplaysSource}
use Rattle.simulation.specs.Capacity.{capacity_of}
use Rattle.chor_cmd.specs.declared.status.Status.TheVariants.{Done, Unmatched}
use Rattle.chor_cmd.specs.Rows.{Replays, replays, misses}
use Rattle.chor_cmd.proofs.replaying.replay_log.Goals as goal

pub returns-in_ok-text-in-Ok : goal.returns-in_ok-text-in-Ok
returns-in_ok-text-in-Ok g c = λ bytes accepted.
    let f = c.args.accepted.now.typed.file in
    let told = subst (λ (k : Option ℕ). ReplaysSource f (hosts_in f.names (functions_of c.args.hosts.now)) k c.args.log.now (Ok c.in-Ok.replayed)) c.capacity.ensures.capacity c.in-Ok.ensures in
    let so = replays c.in-Ok.replayed (record { file = f; accepted = accepted; replays = told }) in
    subst (λ (t : List ℕ). Replays (functions_of c.args.hosts.now) bytes c.args.log.now Done t) (sym c.in_ok-text-in-Ok.ensures) so

pub returns-in_ok-text-in-Err-Unmatched : goal.returns-in_ok-text-in-Err-Unmatched
returns-in_ok-text-in-Err-Unmatched g c = λ bytes accepted.
    let functions = functions_of c.args.hosts.now in
    let f = c.args.accepted.now.typed.file in
    let log = c.args.log.now in
    let own = subst (λ (k : Option ℕ). ReplaysSource f (hosts_in f.names functions) k log c.replay_accepted.result) c.capacity.ensures.capacity c.replay_accepted.ensures in
    let told = subst (λ (r : Result Replayed ReplayFault). ReplaysSource f (hosts_in f.names functions) (capacity_of f) log r) (c.in-Err-Unmatched.is ∙ ap Err c.in-Err-Unmatched.field-0-is) own in
    let so = misses c.in-Err-Unmatched.line (record { file = f; accepted = accepted; replays = told }) in
    subst (λ (t : List ℕ). Replays functions bytes log Unmatched t) (sym c.in_ok-text-in-Err-Unmatched.ensures) so
