use Rattle.std.proofs.Common.{◌≡◌, ◌+◌, ◌≤◌, Option, length, take, sym, ap, ◌∙◌, subst, arith}
use Rattle.std.proofs.lemmas.List.{take_all}
use Rattle.endpoint_link.specs.declared.fault.LinkRule.{LinkRule}
use Rattle.endpoint_code.specs.declared.endpoints.Process.{Process}
use Rattle.endpoint_link.specs.Renumbered.{renumbered_name}
use Rattle.endpoint_link.specs.Indexes.{name_of_process, renumbered_unit}
use Rattle.endpoint_link.specs.Judged.{IsVerdict}
use Rattle.endpoint_link.specs.InTables.{IsInside, ReplacesProcessIn, SuitsProcessIn}
use Rattle.endpoint_link.proofs.Indexes.{all_part, judged_whole, same_one}
use Rattle.endpoint_link.proofs.Verdicts.{judged_at}
use Rattle.endpoint_link.proofs.joined.Joined.judge_process.Goals as goal

pub loop-unit-preserved : goal.loop-unit-preserved
loop-unit-preserved c =
    let j = c.args.self.now in
    let part = c.part-part.result.now in
    let i = c.loop-unit.unit-index in
    subst (λ (v : Option LinkRule). IsVerdict (ReplacesProcessIn j) (SuitsProcessIn j) (take (i + 1) part) c.args.given v) (sym c.verdict_after-verdict.ensures)
    (judged_at (ReplacesProcessIn j) (SuitsProcessIn j) c.args.given part i _ c.loop-unit.verdict c.in_ok-compare_process.field-0 c.loop-unit-test.true c.loop-unit.invariant c.in_ok-compare_process.ensures)

pub returns : goal.returns
returns c =
    let j = c.args.self.now in
    let base = c.args.base.now in
    let part = c.part-part.result.now in
    let i = c.loop-unit.unit-index in
    let v = c.loop-unit.verdict in
    let l : length part ≤ i = omega (arith, c.loop-unit-test.false) in
    let name : c.unit_name-name.result ≡ renumbered_unit j.numbers (name_of_process c.args.given) = c.unit_name-name.ensures ∙ ap (renumbered_unit j.numbers) c.unit_name.ensures in
    judged_whole name_of_process c.args.index.now.names c.unit_name-name.result base part c.requires.index c.part-part.ensures (ReplacesProcessIn j) (SuitsProcessIn j) c.args.given
    (λ u r. same_one u.name (renumbered_name j.numbers c.args.given.name) (sym r) ∙ sym name)
    v (subst (λ us. IsVerdict (ReplacesProcessIn j) (SuitsProcessIn j) us c.args.given v) (take_all i part l) c.loop-unit.invariant)

pub compare_process-requires-clause-base : goal.compare_process-requires-clause-base
compare_process-requires-clause-base c =
    all_part (λ (u : Process). IsInside c.args.self.now u.body) c.args.index.now.names c.unit_name-name.result c.args.base.now c.part-part.result.now c.part-part.ensures c.requires.base c.loop-unit.unit-index _ c.loop-unit-test.true
