use Rattle.std.proofs.Common.{ℕ, List, ap, ◌∙◌, subst}
use Rattle.chor_host.specs.Tables.{functions_of}
use Rattle.endpoint_code.specs.Faults.{IsFaultlessWith}
use Rattle.type_check.specs.declared.typed.Typed.{Typed}
use Rattle.simulation.proofs.Runs.{checked}
use Rattle.program_runs.specs.Books.{book_of}
use Rattle.accepted_replays.proofs.Runs.{on_source}
use Rattle.accepted_replays.proofs.replaying.replay_accepted.Goals as goal

pub replay_on-requires-clause-faultless : goal.replay_on-requires-clause-faultless
replay_on-requires-clause-faultless g c = subst (λ (words : List (List ℕ)). IsFaultlessWith words c.endpoints-endpoints.result.now) c.requires.hosts c.endpoints-endpoints.ensures.accepted.faultless

pub returns : goal.returns
returns g c =
    let typed = c.args.accepted.now.typed in
    let e = c.endpoints-endpoints.result.now in
    let a = c.endpoints-endpoints.ensures.accepted in
    let ok = checked typed.hosts typed.file e typed.fine a in
    let functions = functions_of c.args.hosts.now in
    let same = c.file.ensures.file ∙ ap (λ (t : Typed). t.file) c.typed-typed.ensures in
    on_source typed.file typed.hosts ok e a.above c.len-count.ensures.distinct c.laws.ensures.alike c.laws.ensures.to c.laws.ensures.back c.laws.ensures.end functions c.args.capacity (book_of c.file.result.now) (ap book_of same) c.args.bytes.now c.replay_on.result c.replay_on.ensures
