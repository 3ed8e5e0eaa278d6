use Rattle.std.proofs.Common.{◌≡◌, ◌+◌, ◌^◌, ◌<◌, ◌++◌, List, length, sym, ap, ◌∙◌, subst, arith}
use Rattle.chor_base.specs.declared.event.Entry.{Entry}
use Rattle.chor_host.specs.Functions.{names_of, hosts_in}
use Rattle.chor_host.specs.Tables.{functions_of}
use Rattle.endpoint_code.specs.declared.endpoints.Endpoints.{Endpoints}
use Rattle.endpoint_code.specs.Faults.{AsksKnown, is_listed}
use Rattle.endpoint_runs.specs.declared.run.Closed.{Closed}
use Rattle.endpoint_runs.specs.InParts.{Continues}
use Rattle.endpoint_runs.specs.Runs.{close_of}
use Rattle.transcript.specs.Books.{words}
use Rattle.transcript.specs.Text.{lines_from}
use Rattle.program_runs.specs.Told.{IsTold}
use Rattle.program_runs.specs.Transcripts.{events_of}
use Rattle.program_runs.proofs.TellingOn.{begun, numbered, told_on, longer_still, told}
use Rattle.program_runs.proofs.telling.tell_run.Goals as goal

pub loop-lines-init : goal.loop-lines-init
loop-lines-init g c =
    let hosts = hosts_in c.args.run.network.endpoints.names (functions_of c.args.hosts.now) in
    let new = c.in_ok-lines.ensures in
    begun (words c.args.book.now) hosts c.args.run c.in_ok-lines.lines c.requires.begun new.text new.count (new.ready (words c.args.book.now))

pub go_on-requires : goal.go_on-requires
go_on-requires g c = subst (λ (e : Endpoints). AsksKnown (is_listed (names_of (functions_of c.args.hosts.now)) e) e) (sym c.loop-lines.invariant.endpoints) c.requires.hosts

pub put-requires-clause-ready : goal.put-requires-clause-ready
put-requires-clause-ready g c = c.loop-lines.invariant.ready

pub put-requires-clause-few : goal.put-requires-clause-few
put-requires-clause-few g c =
    let fs = functions_of c.args.hosts.now in
    let first = c.args.run in
    let now = c.loop-lines.run in
    let next = c.go_on.new.self in
    let goes = subst (λ (e : Endpoints). Continues (hosts_in e.names fs) now c.in_ok-closed.closed next) c.loop-lines.invariant.endpoints c.in_ok-closed.ensures in
    let all = numbered (words c.args.book.now) (hosts_in first.network.endpoints.names fs) first now c.loop-lines.lines c.loop-lines.invariant c.in_ok-closed.closed next goes in
    subst (λ (es : List Entry). c.loop-lines.lines.count + length es < 2 ^ 64) (sym c.part.ensures) all

pub returns-in-Some : goal.returns-in-Some
returns-in-Some g c =
    let w = words c.args.book.now in
    let fs = functions_of c.args.hosts.now in
    let first = c.args.run in
    let now = c.loop-lines.run in
    let next = c.go_on.new.self in
    let lines = c.loop-lines.lines in
    let more = c.put.new.self in
    let hosts = hosts_in first.network.endpoints.names fs in
    let goes = subst (λ (e : Endpoints). Continues (hosts_in e.names fs) now c.in_ok-closed.closed next) c.loop-lines.invariant.endpoints c.in_ok-closed.ensures in
    let counted = subst (λ (es : List Entry). more.count ≡ lines.count + length es) c.part.ensures c.in_ok-put.ensures.count in
    let put = subst (λ (es : List Entry). more.text.items ≡ lines.text.items ++ lines_from w (lines.count + 1) (events_of es)) c.part.ensures c.in_ok-put.ensures.text in
    let whole = c.in_ok-told.ensures.text in
    subst (λ (k : Closed). IsTold w hosts first c.in_ok-told.told.text.items (close_of k)) (sym c.in_ok-told.ensures.closed)
    (told w hosts first now lines c.loop-lines.invariant c.in_ok-closed.closed next goes more counted put c.in-Some.closed c.in-Some.is c.in_ok-told.told.text.items whole)

pub loop-lines-smaller : goal.loop-lines-smaller
loop-lines-smaller g c =
    let w = words c.args.book.now in
    let fs = functions_of c.args.hosts.now in
    let first = c.args.run in
    let now = c.loop-lines.run in
    let next = c.go_on.new.self in
    let lines = c.loop-lines.lines in
    let more = c.put.new.self in
    let hosts = hosts_in first.network.endpoints.names fs in
    let goes = subst (λ (e : Endpoints). Continues (hosts_in e.names fs) now c.in_ok-closed.closed next) c.loop-lines.invariant.endpoints c.in_ok-closed.ensures in
    let counted = subst (λ (es : List Entry). more.count ≡ lines.count + length es) c.part.ensures c.in_ok-put.ensures.count in
    let put = subst (λ (es : List Entry). more.text.items ≡ lines.text.items ++ lines_from w (lines.count + 1) (events_of es)) c.part.ensures c.in_ok-put.ensures.text in
    let longer = longer_still w hosts first now lines c.loop-lines.invariant c.in_ok-closed.closed next goes more counted put c.in_default.is in
    let steps : next.schedule.steps ≡ first.schedule.steps = ap (λ s. s.steps) (goes.schedule ∙ c.loop-lines.invariant.schedule) in
    let within = next.within in
    omega arith

pub loop-lines-preserved : goal.loop-lines-preserved
loop-lines-preserved g c =
    let w = words c.args.book.now in
    let fs = functions_of c.args.hosts.now in
    let first = c.args.run in
    let now = c.loop-lines.run in
    let next = c.go_on.new.self in
    let lines = c.loop-lines.lines in
    let more = c.put.new.self in
    let hosts = hosts_in first.network.endpoints.names fs in
    let goes = subst (λ (e : Endpoints). Continues (hosts_in e.names fs) now c.in_ok-closed.closed next) c.loop-lines.invariant.endpoints c.in_ok-closed.ensures in
    let counted = subst (λ (es : List Entry). more.count ≡ lines.count + length es) c.part.ensures c.in_ok-put.ensures.count in
    let put = subst (λ (es : List Entry). more.text.items ≡ lines.text.items ++ lines_from w (lines.count + 1) (events_of es)) c.part.ensures c.in_ok-put.ensures.text in
    told_on w hosts first now lines c.loop-lines.invariant c.in_ok-closed.closed next goes more counted put c.in_default.is c.in_ok-put.ensures.ready
