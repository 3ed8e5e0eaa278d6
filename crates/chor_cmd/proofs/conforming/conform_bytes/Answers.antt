use Rattle.std.proofs.Common.{◌∙◌, ℕ, List, sym, ap, subst}
use Rattle.std.specs.Prelude.{Result, Err}
use Rattle.replay.specs.declared.answer.Replayed.{Replayed}
use Rattle.replay.specs.declared.answer.ReplayFault.{ReplayFault}
use Rattle.conforming_logs.specs.Logs.{ConformsSource}
use Rattle.chor_cmd.specs.declared.status.Status.TheVariants.{Done, Unmatched}
use Rattle.chor_cmd.specs.Rows.{Conforms, conforms, strays}
use Rattle.chor_cmd.proofs.conforming.conform_bytes.Goals as goal

pub returns-in_ok-text-in-Ok : goal.returns-in_ok-text-in-Ok
returns-in_ok-text-in-Ok c = λ functions bytes accepted.
    let so = conforms c.in-Ok.replayed (record { file = c.args.source.now; accepted = accepted; conforms = c.in-Ok.ensures }) in
    subst (λ (t : List ℕ). Conforms functions bytes c.args.log.now Done t) (sym c.in_ok-text-in-Ok.ensures) so

pub returns-in_ok-text-in-Err-Unmatched : goal.returns-in_ok-text-in-Err-Unmatched
returns-in_ok-text-in-Err-Unmatched c = λ functions bytes accepted.
    let f = c.args.source.now in
    let log = c.args.log.now in
    let told = subst (λ (r : Result Replayed ReplayFault). ConformsSource f log r) (c.in-Err-Unmatched.is ∙ ap Err c.in-Err-Unmatched.field-0-is) c.conform_log.ensures in
    let so = strays c.in-Err-Unmatched.line (record { file = f; accepted = accepted; conforms = told }) in
    subst (λ (t : List ℕ). Conforms functions bytes log Unmatched t) (sym c.in_ok-text-in-Err-Unmatched.ensures) so
