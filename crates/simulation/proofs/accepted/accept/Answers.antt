use Rattle.std.proofs.Common.{◌∙◌, [], subst}
use denote.Param.Send.{sendable}
use Rattle.chor_base.specs.declared.fault.Fault.{Fault}
use Rattle.chor_host.specs.Functions.{names_of}
use Rattle.chor_host.specs.Tables.{functions_of}
use Rattle.chor_tree.specs.declared.file.File.{File}
use Rattle.linear_check.specs.Class.{IsLinearityFault}
use Rattle.projection.specs.MergeFaults.{IsMergeDenial}
use Rattle.source_check.specs.declared.rules.Class.TheVariants.{Linearity}
use Rattle.source_check.specs.declared.rules.Rules.TheVariants as rules
use Rattle.source_check.specs.Classes.{classes_of, HasNone, HasNoMergeFault, IsFaultless}
use Rattle.source_check.specs.Source.{IsBroken}
use Rattle.simulation.proofs.Judged.{all_fine, merged_broken, answered, refused}
use Rattle.simulation.proofs.accepted.accept.Goals as goal

pub projected-requires : goal.projected-requires
projected-requires g c =
    (search sendable depth 20, subst (λ (f : File). (x : Fault) → IsLinearityFault f x → ⊥) c.file.ensures.file c.in_default-check_linearity.ensures.linear)

pub returns-clause-faultless : goal.returns-clause-faultless
returns-clause-faultless g c =
    let hosts = names_of (functions_of c.args.hosts.now) in
    let file = c.args.file in
    let linear : HasNone [] file Linearity = subst (λ (f : File). (x : Fault) → IsLinearityFault f x → ⊥) (c.file.ensures.file ∙ c.in_ok-typed.ensures.file) c.in_default-check_linearity.ensures.linear in
    answered c.projected.result (HasNoMergeFault c.in_ok-typed.typed.file) (IsFaultless hosts file (classes_of rules.All))
    (λ merges. all_fine hosts file c.in_default.ensures.faultless c.in_ok-typed.ensures.typed linear (subst HasNoMergeFault c.in_ok-typed.ensures.file merges))
    c.projected.ensures.merges

pub returns-clause-denied : goal.returns-clause-denied
returns-clause-denied g c =
    let hosts = names_of (functions_of c.args.hosts.now) in
    let file = c.args.file in
    let linear : HasNone [] file Linearity = subst (λ (f : File). (x : Fault) → IsLinearityFault f x → ⊥) (c.file.ensures.file ∙ c.in_ok-typed.ensures.file) c.in_default-check_linearity.ensures.linear in
    refused c.projected.result (IsMergeDenial c.in_ok-typed.typed.file) (IsBroken (classes_of rules.All) hosts file)
    (λ d h. merged_broken hosts file d c.in_default.ensures.faultless c.in_ok-typed.ensures.typed linear (subst (λ (f : File). IsMergeDenial f d) c.in_ok-typed.ensures.file h))
    c.projected.ensures.denied
