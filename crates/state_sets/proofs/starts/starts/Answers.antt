use Rattle.std.proofs.Common.{ℕ, ◌<◌, sym, subst, arith}
use Rattle.global_types.specs.Moves.{IsIn}
use Rattle.state_sets.proofs.TableLoops.{group_among}
use Rattle.state_sets.proofs.Allowed.{starts_more, starts_all}
use Rattle.state_sets.proofs.starts.starts.Goals as goal

pub loop-number-init : goal.loop-number-init
loop-number-init c = record { size = c.in_ok-starts.ensures; done = λ k g e h. absurd (omega (arith, h)) }

pub add_group-requires : goal.add_group-requires
add_group-requires c = λ e m.
    let among = group_among c.args.groups.now c.loop-number.number c.index-groups-number.result c.loop-number-test.true c.index-groups-number.is in
    subst (λ (n : ℕ). e.from < n) (sym c.loop-number.invariant.size) (c.requires c.index-groups-number.result among e (subst (λ l. IsIn e l) c.as_slice.ensures m)).0

pub loop-number-preserved : goal.loop-number-preserved
loop-number-preserved c = starts_more c.args.groups.now c.args.count c.loop-number.number c.loop-number.starts.items c.add_group.new.starts.items c.index-groups-number.result c.loop-number.invariant c.loop-number-test.true c.index-groups-number.is
    c.in_ok-add_group.ensures.more
    (λ e m. c.in_ok-add_group.ensures.added e (subst (λ l. IsIn e l) (sym c.as_slice.ensures) m))

pub returns : goal.returns
returns c = starts_all c.args.groups.now c.args.count c.loop-number.number c.loop-number.starts.items c.loop-number-test.false c.loop-number.invariant
