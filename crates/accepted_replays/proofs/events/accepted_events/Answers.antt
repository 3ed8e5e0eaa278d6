use Rattle.std.proofs.Common.{ℕ, List, ap, ◌∙◌, subst}
use Rattle.chor_host.specs.Tables.{functions_of}
use Rattle.endpoint_code.specs.Faults.{IsFaultlessWith}
use Rattle.type_check.specs.declared.typed.Typed.{Typed}
use Rattle.program_runs.specs.Books.{book_of}
use Rattle.accepted_replays.proofs.Programs.{sound}
use Rattle.accepted_replays.proofs.SourceEvents.{events_on_source}
use Rattle.accepted_replays.proofs.events.accepted_events.Goals as goal

pub events_on-requires-clause-faultless : goal.events_on-requires-clause-faultless
events_on-requires-clause-faultless g c = subst (λ (words : List (List ℕ)). IsFaultlessWith words c.endpoints-endpoints.result.now) c.requires.hosts c.endpoints-endpoints.ensures.accepted.faultless

pub returns : goal.returns
returns g c =
    let typed = c.args.accepted.now.typed in
    let e = c.endpoints-endpoints.result.now in
    let s = sound typed.hosts typed.file e typed.fine c.endpoints-endpoints.ensures.accepted c.len-count.ensures.distinct c.laws.ensures.alike in
    let same = c.file.ensures.file ∙ ap (λ (t : Typed). t.file) c.typed-typed.ensures in
    events_on_source typed.hosts typed.file e s c.laws.ensures.to c.laws.ensures.back c.laws.ensures.end (functions_of c.args.hosts.now) c.args.capacity (book_of c.file.result.now) (ap book_of same) c.args.bytes.now c.events_on.result c.events_on.ensures
