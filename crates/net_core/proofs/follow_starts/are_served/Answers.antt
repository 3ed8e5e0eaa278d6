use Rattle.std.proofs.Common.{◌∙◌, ◌&&◌, ◌+◌, Bool, sym, ap, drop}
use Rattle.net_core.specs.Follows.{served_by}
use Rattle.net_core.proofs.Castings.{served_turn}
use Rattle.net_core.proofs.follow_starts.are_served.Goals as goal

pub loop-place-preserved : goal.loop-place-preserved
loop-place-preserved c =
    let i = c.loop-place.place in
    let rs = c.args.roles.now in
    let qs = c.args.parts.now in
    sym (served_turn rs c.args.first qs i _ _ c.is_part.result c.loop-place-test.true c.requires.long c.is_part.ensures ∙ ap (λ (b : Bool). b && served_by (drop (i + 1) rs) (c.args.first + (i + 1)) (drop (i + 1) qs)) c.if-not-is_part.false) ∙ c.loop-place.invariant

pub returns-then-not-is_part : goal.returns-then-not-is_part
returns-then-not-is_part c =
    let i = c.loop-place.place in
    let rs = c.args.roles.now in
    let qs = c.args.parts.now in
    sym (sym c.loop-place.invariant ∙ served_turn rs c.args.first qs i _ _ c.is_part.result c.loop-place-test.true c.requires.long c.is_part.ensures ∙ ap (λ (b : Bool). b && served_by (drop (i + 1) rs) (c.args.first + (i + 1)) (drop (i + 1) qs)) c.if-not-is_part.true)
