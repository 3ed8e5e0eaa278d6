use Rattle.std.proofs.Common.{◌∙◌, sym, ap, List}
use Rattle.std.proofs.lemmas.Result.{IfOk-weaker}
use Rattle.chor_tree.specs.declared.tree.Part.{Part}
use Rattle.chor_semantics.specs.Sources.{served_of}
use Rattle.projection.specs.Projects.{serving}
use Rattle.service_codes.proofs.Codes.{served_there, next_inside, next_clean, start_coded}
use Rattle.service_codes.proofs.start.start_code.Goals as goal

pub unreachable-requires : goal.unreachable-requires
unreachable-requires c =
    served_there c.args.file.now c.requires.names c.requires.clean c.args.served c.requires.declared c.args.start c.requires.start c.at.result.now c.at.ensures
    c.in-Start.channel c.in-Start.session c.in-Start.active c.in-Start.serve c.in-Start.next c.in-Start.is
    (ap (λ (l : List Part). serving c.args.served.role.name (served_of l)) (sym c.as_slice.ensures) ∙ sym c.serving.ensures ∙ c.in_default-serving.is)

pub process_code-requires-clause-inside : goal.process_code-requires-clause-inside
process_code-requires-clause-inside c =
    next_inside c.args.file.now c.requires.names c.requires.clean c.args.served c.requires.declared c.args.start c.requires.start c.at.result.now c.at.ensures
    c.in-Start.channel c.in-Start.session c.in-Start.active c.in-Start.serve c.in-Start.next c.in-Start.is

pub process_code-requires-clause-clean : goal.process_code-requires-clause-clean
process_code-requires-clause-clean c =
    next_clean c.args.file.now c.requires.names c.requires.clean c.args.served c.requires.declared c.args.start c.requires.start c.at.result.now c.at.ensures
    c.in-Start.channel c.in-Start.session c.in-Start.active c.in-Start.serve c.in-Start.next c.in-Start.is c.in-Some.process
    (ap (λ (l : List Part). serving c.args.served.role.name (served_of l)) (sym c.as_slice.ensures) ∙ sym c.serving.ensures ∙ c.in-Some.is)

pub returns : goal.returns
returns c =
    IfOk-weaker c.rename.result _ _
    (λ made h. start_coded c.args.file.now c.requires.names c.requires.clean c.args.served c.requires.declared c.args.start c.requires.start c.at.result.now c.at.ensures
    c.in-Start.channel c.in-Start.session c.in-Start.active c.in-Start.serve c.in-Start.next c.in-Start.is c.in-Some.process c.in_ok-own-in-Start.own made
    (ap (λ (l : List Part). serving c.args.served.role.name (served_of l)) (sym c.as_slice.ensures) ∙ sym c.serving.ensures ∙ c.in-Some.is) c.in_ok-own-in-Start.ensures h)
    c.rename.ensures
