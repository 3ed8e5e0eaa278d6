use Rattle.std.proofs.Common.{sym, subst}
use Rattle.chor_base.specs.Faults.{IsFirst}
use Rattle.typing_rules.specs.TypeFaults.{IsTypeFault}
use Rattle.typing_steps.specs.Known.{environment_of}
use Rattle.type_check.proofs.Begins.{main_resolved}
use Rattle.type_check.proofs.Procedures.{file_first}
use Rattle.type_check.proofs.checking.first_type_fault.Goals as goal

pub first_in_body-requires : goal.first_in_body-requires
first_in_body-requires c = main_resolved c.args.file.now c.requires (environment_of c.at_main.result) c.at_main.ensures

pub returns : goal.returns
returns c =
    let f = c.args.file.now in
    subst (λ o. IsFirst (IsTypeFault f) o) (sym c.earlier.ensures)
    (file_first f c.in_ok-main.main c.in_ok-procedures.procedures (environment_of c.at_main.result) c.at_main.ensures c.in_ok-main.ensures c.in_ok-procedures.ensures)
