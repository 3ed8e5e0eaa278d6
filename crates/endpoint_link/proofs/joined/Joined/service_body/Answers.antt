use Rattle.std.proofs.Common.{◌≤◌, length, refl, sym, ◌∙◌, arith}
use Rattle.std.proofs.lemmas.List.Elements.{Contains-get_or}
use Rattle.endpoint_link.specs.InTables.{ReplacesServiceIn}
use Rattle.endpoint_link.specs.InTables.{taken, kept}
use Rattle.endpoint_link.specs.Renumbered.{renumbered_name}
use Rattle.endpoint_link.specs.Indexes.{name_of_service, renumbered_unit}
use Rattle.endpoint_link.proofs.Indexes.{none_whole, same_two}
use Rattle.endpoint_link.proofs.Bodies.{none_more, none_there}
use Rattle.endpoint_link.proofs.joined.Joined.service_body.Goals as goal

pub returns-then-is_service : goal.returns-then-is_service
returns-then-is_service c =
    let i = c.loop-other.other-index in
    taken _ (c.part-part.ensures.inside _ (Contains-get_or c.part-part.result.now i _ c.loop-other-test.true)) (c.is_service.ensures.0 c.if-is_service.true) c.in_ok-body.ensures

pub loop-other-preserved : goal.loop-other-preserved
loop-other-preserved c =
    let i = c.loop-other.other-index in
    none_more (λ x. ReplacesServiceIn c.args.self.now x c.args.unit) c.part-part.result.now i _ c.loop-other-test.true c.loop-other.invariant (λ named. let t = c.is_service.ensures.1 named in let f = c.if-is_service.false in absurd cc)

pub returns : goal.returns
returns c =
    let i = c.loop-other.other-index in
    let j = c.args.self.now in
    let part = c.part-part.result.now in
    let l : length part ≤ i = omega (arith, c.loop-other-test.false) in
    kept (none_whole (λ x. renumbered_unit j.numbers (name_of_service x)) c.args.index.now.names c.unit_name.result c.args.given.now part c.requires c.part-part.ensures (λ x. ReplacesServiceIn j x c.args.unit)
    (λ u r. same_two (renumbered_name j.numbers u.channel) c.args.unit.channel (renumbered_name j.numbers u.role) c.args.unit.role r.0 r.1 ∙ sym c.unit_name.ensures)
    (none_there (λ x. ReplacesServiceIn j x c.args.unit) part i l c.loop-other.invariant)) refl
