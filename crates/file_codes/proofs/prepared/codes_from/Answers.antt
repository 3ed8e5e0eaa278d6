use Rattle.std.proofs.Common.{List, Option, subst}
use Rattle.std.specs.Prelude.{IfSome}
use Rattle.chor_tree.specs.Source.{body_of}
use Rattle.block_codes.specs.declared.coded.Coded.{Coded}
use Rattle.file_codes.specs.UnitCodes.{MayBeCleanBody, AreScopeCodes}
use Rattle.file_codes.proofs.Appended.{codes_found}
use Rattle.file_codes.proofs.prepared.codes_from.Goals as goal

pub returns-in-Some-clause-codes : goal.returns-in-Some-clause-codes
returns-in-Some-clause-codes c =
    let f = c.args.file.now in
    let found = subst (λ (o : Option (List Coded)). IfSome o (AreScopeCodes f (body_of f c.args.id) c.args.scope.now c.prepared_codes.new.code.nodes)) c.in-Some.is c.in_ok-list.ensures.found in
    codes_found f c.args.id c.args.scope.now c.args.code.now.nodes c.prepared_codes.new.code.nodes c.in-Some.list c.in_ok-list.ensures.kept found (subst (MayBeCleanBody f) (c.is_at.ensures.0 c.if-is_at.true) c.requires.clean)
