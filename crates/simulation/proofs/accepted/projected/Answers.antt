use Rattle.std.proofs.Common.{subst}
use denote.Param.Send.{sendable}
use Rattle.chor_tree.specs.declared.file.File.{File}
use Rattle.projection.specs.Projects.{Projects}
use Rattle.source_check.specs.Classes.{HasNoMergeFault}
use Rattle.simulation.proofs.Runs.{linear_checked}
use Rattle.simulation.proofs.accepted.projected.Goals as goal

pub project_all-requires : goal.project_all-requires
project_all-requires g c = (search sendable depth 20, record { hosts = c.args.typed.hosts; names = c.file.ensures.fine.names })

pub returns-in-Ok-clause-merges : goal.returns-in-Ok-clause-merges
returns-in-Ok-clause-merges g c = subst HasNoMergeFault c.file.ensures.file (record { branches = c.in-Ok.ensures.clean; starts = c.in-Ok.ensures.served })

pub returns-in-Ok-clause-projects : goal.returns-in-Ok-clause-projects
returns-in-Ok-clause-projects g c = subst (λ (f : File). Projects f c.in-Ok.endpoints) c.file.ensures.file c.in-Ok.ensures.projects

pub invariant_of-result : goal.invariant_of-result
invariant_of-result g c =
    let typed = c.args.typed in
    let e = c.in-Ok.endpoints in
    let projects = subst (λ (f : File). Projects f e) c.file.ensures.file c.in-Ok.ensures.projects in
    let ok = linear_checked typed.hosts typed.file typed.fine c.requires.linear in
    let laws = c.projection_laws.ensures in
    record {
      linear = c.requires.linear;
      merges = subst HasNoMergeFault c.file.ensures.file (record { branches = c.in-Ok.ensures.clean; starts = c.in-Ok.ensures.served });
      above = laws.above typed.file e projects;
      faultless = record {
        faultless = laws.faultless typed.file typed.hosts ok.accepted ok.guarded e projects;
        hosts = laws.asks typed.file typed.hosts ok.accepted.names e projects;
      };
    }
