use Rattle.std.proofs.Common.{◌∙◌, ap, sym, ◌++◌, ◌∷◌, [], get_or}
use Rattle.chor_base.specs.declared.names.NameId.{NameId}
use Rattle.endpoint_code.specs.declared.code.CodeId.{CodeId}
use Rattle.renamed_codes.proofs.Renames.{relabelled_more, relabelled_all}
use Rattle.renamed_codes.proofs.node.relabelled.Goals as goal

abbrev none : NameId × CodeId
none = (record { 0 = 0 }, record { 0 = 0 })

pub loop-place-preserved : goal.loop-place-preserved
loop-place-preserved c =
    let i = c.loop-place.place in
    c.in_ok-push.ensures.ok
    ∙ ap (λ xs. xs ++ ((get_or c.args.arms.now i none).0, get_or c.args.to.now i none.1) ∷ []) c.loop-place.invariant
    ∙ sym (relabelled_more c.args.arms.now c.args.to.now i none none.1 c.loop-place-test.true c.requires)

pub returns : goal.returns
returns c = c.loop-place.invariant ∙ relabelled_all c.args.arms.now c.args.to.now c.loop-place.place c.loop-place-test.false c.requires
