use Rattle.std.proofs.Common.{ap, ◌∙◌, sym, ◌≡◌, subst}
use Rattle.std.specs.Prelude.{Contains}
use Rattle.std.specs.List.{flat_map}
use Rattle.global_types.specs.Faults.{protocol_faults, procedure_faults, faults_of}
use Rattle.chor_base.specs.Faults.{first_of_all, IsFirst}
use Rattle.chor_base.proofs.Faults.{first_of_two, first_is_first, first_denied}
use Rattle.global_types.proofs.check.check_protocols.Goals as goal

pub returns-in-Some-clause-refused : goal.returns-in-Some-clause-refused
returns-in-Some-clause-refused c =
    let f = c.args.file.now in
    let found : c.earlier-first.result ≡ first_of_all (faults_of f) =
    first_of_two (flat_map (protocol_faults f.protocols) f.protocols) (flat_map (procedure_faults f.protocols) f.procs) _ _ _
    c.earlier-first.ensures
    (c.first_in_protocols.ensures ∙ ap (λ l. first_of_all (flat_map (protocol_faults l) l)) c.as_slice-protocols.ensures)
    (c.first_in_procedures.ensures ∙ ap (λ l. first_of_all (flat_map (procedure_faults c.as_slice-protocols.result.now) l)) c.as_slice.ensures ∙ ap (λ ps. first_of_all (flat_map (procedure_faults ps) f.procs)) c.as_slice-protocols.ensures) in
    first_denied (Contains (faults_of f)) c.in-Some.fault c.denied.result (subst (λ o. IsFirst (Contains (faults_of f)) o) (sym found ∙ c.in-Some.is) (first_is_first (faults_of f))) c.denied.ensures
