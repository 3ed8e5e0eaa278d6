use Rattle.std.proofs.Common.{ap, ◌∙◌}
use Rattle.chor_base.specs.Faults.{first_of_all}
use Rattle.chor_host.specs.Functions.{names_of}
use Rattle.chor_host.specs.Tables.{functions_of}
use Rattle.endpoint_names.specs.Faults.{name_faults}
use Rattle.endpoint_names.proofs.Classes.{setting_is}
use Rattle.endpoint_names.proofs.check.first_of_names.Goals as goal

pub returns : goal.returns
returns g c =
    c.in_ok-first.ensures
    ∙ ap (λ s. first_of_all (name_faults s)) (setting_is _ c.args.written.now _ c.in_ok-functions.functions c.args.names.now (names_of (functions_of c.args.hosts.now)) c.in_ok-declared.ensures.written c.in_ok-declared.ensures.functions c.in_ok-functions.ensures)
