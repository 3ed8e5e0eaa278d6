use Rattle.std.proofs.Common.{List, Option, Some, drop, ◌+◌, ◌==◌, ap, sym, ◌∙◌, refl}
use Rattle.std.specs.Prelude.{if◌then◌else◌}
use Rattle.typing_rules.specs.declared.standings.Standing.{Standing}
use Rattle.typing_rules.specs.Environment.{standing_of}
use Rattle.typing_steps.proofs.Searches.{at_item}
use Rattle.typing_steps.proofs.standings.standing_of.Goals as goal

pub returns-then-eq : goal.returns-then-eq
returns-then-eq c =
    let left : List Standing → Option Standing = λ l. standing_of l c.args.session in
    let i = c.loop-standing.standing-index in
    ap (λ (s : Standing). Some s) c.standing.view_is ∙ ap (λ b. if b then Some c.standing-item.result else left (drop (i + 1) c.args.standings.now)) (sym c.if-eq.true ∙ c.eq.ensures ∙ ap (λ (s : Standing). s.session.0 == c.args.session.0) c.standing.view_is)
    ∙ at_item left c.args.standings.now c.args.standings.now i _ c.standing-item.result refl c.loop-standing-test.true c.standing-item.is c.loop-standing.invariant

pub loop-standing-preserved : goal.loop-standing-preserved
loop-standing-preserved c =
    let left : List Standing → Option Standing = λ l. standing_of l c.args.session in
    let i = c.loop-standing.standing-index in
    ap (λ b. if b then Some c.standing-item.result else left (drop (i + 1) c.args.standings.now)) (sym c.if-eq.false ∙ c.eq.ensures ∙ ap (λ (s : Standing). s.session.0 == c.args.session.0) c.standing.view_is)
    ∙ at_item left c.args.standings.now c.args.standings.now i _ c.standing-item.result refl c.loop-standing-test.true c.standing-item.is c.loop-standing.invariant
