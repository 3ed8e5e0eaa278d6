use Rattle.std.proofs.Common.{sym, ◌∙◌}
use Rattle.global_types.proofs.Names.{there}
use Rattle.global_types.proofs.states.place_near.Goals as goal

pub returns-in-Some : goal.returns-in-Some
returns-in-Some c =
    let at = c.in-Some.ensures.lookup in
    sym (there c.args.states.now c.args.near c.args.name c.in-Some.state.now at.3.0 at.1 (sym c.eq.ensures ∙ c.if-eq.true))
