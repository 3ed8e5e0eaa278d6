use Rattle.std.proofs.Common.{◌∙◌, List, subst, sym, ap}
use Rattle.chor_base.specs.declared.names.NameId.{NameId}
use Rattle.endpoint_code.specs.declared.code.CodeId.{CodeId}
use Rattle.endpoint_code.specs.declared.code.CodeNode.TheVariants.{Branch}
use Rattle.renamed_codes.specs.Renames.{relabelled, IsNodeRenamed}
use Rattle.renamed_codes.proofs.Renames.{offer_renamed}
use Rattle.renamed_codes.proofs.node.renamed_node.Goals as goal

pub returns-in_ok-arms-in-Branch : goal.returns-in_ok-arms-in-Branch
returns-in_ok-arms-in-Branch c =
    subst (λ (k : NameId). IsNodeRenamed c.args.names.now c.args.node.now c.args.to.now (Branch k c.in-Branch.a c.in_ok-arms-in-Branch.arms)) (sym c.of.ensures)
    (offer_renamed c.args.names.now c.args.to.now c.requires c.in-Branch.k c.in-Branch.a c.in-Branch.arms c.in_ok-arms-in-Branch.arms c.in-Branch.is
    (c.in_ok-arms-in-Branch.ensures ∙ ap (λ (arms : List (NameId × CodeId)). relabelled arms c.args.to.now) c.as_slice.ensures))
