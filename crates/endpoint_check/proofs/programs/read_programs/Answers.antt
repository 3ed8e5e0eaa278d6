use Rattle.chor_host.specs.Functions.{names_of}
use Rattle.chor_host.specs.Tables.{functions_of}
use Rattle.endpoint_reader.proofs.Spelled.{spelled_there}
use Rattle.endpoint_check.specs.Programs.{IsDenialOfPrograms}
use Rattle.endpoint_check.proofs.Denials.{err_is, refused_so, programs_so}
use Rattle.endpoint_check.proofs.programs.read_programs.Goals as goal

pub returns-in_err-written-clause-denied : goal.returns-in_err-written-clause-denied
returns-in_err-written-clause-denied g c =
    let words = names_of (functions_of c.args.hosts.now) in
    let bytes = c.args.bytes.now in
    let denied = c.in_err-written.field-0.0 in
    err_is (IsDenialOfPrograms words bytes) c.from_residual-in_err-written.result denied c.from_residual-in_err-written.ensures.1
    (refused_so words bytes denied c.in_err-written.ensures.denied c.new-names.ensures c.new-texts.ensures c.in_ok-list.ensures.found)

pub returns-clause-programs : goal.returns-clause-programs
returns-clause-programs g c =
    programs_so (names_of (functions_of c.args.hosts.now)) c.args.bytes.now c.in_ok-written.ensures.fine c.new-names.ensures c.new-texts.ensures c.in_ok-list.ensures.found c.in_ok-programs.ensures

pub invariant_of-input : goal.invariant_of-input
invariant_of-input g c = record { known = spelled_there _ _ _ _ c.in_ok-list.ensures.found.spelled }
