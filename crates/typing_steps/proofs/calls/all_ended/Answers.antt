use Rattle.std.proofs.Common.{List, Bool, drop, ◌+◌, ◌&&◌, ap, ◌∙◌, refl}
use Rattle.std.specs.List.{list_all}
use Rattle.chor_tree.specs.Names.{names_in}
use Rattle.typing_rules.specs.declared.standings.Standing.{Standing}
use Rattle.typing_rules.specs.Checks.{has_ended}
use Rattle.typing_steps.proofs.Searches.{at_item, at_end}
use Rattle.typing_steps.proofs.calls.all_ended.Goals as goal

pub returns-then-not-has_ended : goal.returns-then-not-has_ended
returns-then-not-has_ended c =
    let xs = c.args.standings.now in
    let left : List Standing → Bool = list_all (has_ended c.args.file.now (names_in c.args.passed.now)) in
    let i = c.loop-standing.standing-index in
    ap (λ b. b && left (drop (i + 1) xs)) c.if-not-has_ended.ensures ∙ at_item left xs xs i _ c.standing-item.result refl c.loop-standing-test.true c.standing-item.is c.loop-standing.invariant

pub loop-standing-preserved : goal.loop-standing-preserved
loop-standing-preserved c =
    let xs = c.args.standings.now in
    let left : List Standing → Bool = list_all (has_ended c.args.file.now (names_in c.args.passed.now)) in
    let i = c.loop-standing.standing-index in
    ap (λ b. b && left (drop (i + 1) xs)) c.if-not-has_ended.ensures ∙ at_item left xs xs i _ c.standing-item.result refl c.loop-standing-test.true c.standing-item.is c.loop-standing.invariant

pub returns : goal.returns
returns c =
    let xs = c.args.standings.now in
    at_end (list_all (has_ended c.args.file.now (names_in c.args.passed.now))) xs xs c.loop-standing.standing-index _ refl c.loop-standing-test.false c.loop-standing.invariant
