use Rattle.std.proofs.Common.{◌≡◌, ◌+◌, ◌≤◌, Option, length, take, sym, ap, ◌∙◌, subst, arith}
use Rattle.std.proofs.lemmas.List.{take_all}
use Rattle.endpoint_link.specs.declared.fault.LinkRule.{LinkRule}
use Rattle.endpoint_link.specs.Renumbered.{renumbered_name}
use Rattle.endpoint_link.specs.Indexes.{name_of_channel, renumbered_unit}
use Rattle.endpoint_link.specs.Judged.{IsVerdict}
use Rattle.endpoint_link.specs.InTables.{ReplacesChannelIn, SuitsChannelIn}
use Rattle.endpoint_link.proofs.Indexes.{judged_whole, same_one}
use Rattle.endpoint_link.proofs.Verdicts.{judged_turn}
use Rattle.endpoint_link.proofs.joined.Joined.judge_channel.Goals as goal

pub loop-unit-preserved : goal.loop-unit-preserved
loop-unit-preserved c =
    let j = c.args.self.now in
    let part = c.part-part.result.now in
    let i = c.loop-unit.unit-index in
    subst (λ (v : Option LinkRule). IsVerdict (ReplacesChannelIn j) (SuitsChannelIn j) (take (i + 1) part) c.args.given.now v) (sym c.verdict_after-verdict.ensures)
    (judged_turn (ReplacesChannelIn j) (SuitsChannelIn j) c.args.given.now part i c.unit-item.result c.loop-unit.verdict c.in_ok-compare_channel.field-0 c.loop-unit-test.true c.unit-item.is c.loop-unit.invariant c.in_ok-compare_channel.ensures)

pub returns : goal.returns
returns c =
    let j = c.args.self.now in
    let base = c.args.base.now in
    let part = c.part-part.result.now in
    let i = c.loop-unit.unit-index in
    let v = c.loop-unit.verdict in
    let l : length part ≤ i = omega (arith, c.loop-unit-test.false) in
    let name : c.unit_name-name.result ≡ renumbered_unit j.numbers (name_of_channel c.args.given.now) = c.unit_name-name.ensures ∙ ap (renumbered_unit j.numbers) c.unit_name.ensures in
    judged_whole name_of_channel c.args.index.now.names c.unit_name-name.result base part c.requires.index c.part-part.ensures (ReplacesChannelIn j) (SuitsChannelIn j) c.args.given.now
    (λ u r. same_one u.name (renumbered_name j.numbers c.args.given.now.name) (sym r) ∙ sym name)
    v (subst (λ us. IsVerdict (ReplacesChannelIn j) (SuitsChannelIn j) us c.args.given.now v) (take_all i part l) c.loop-unit.invariant)
