use Rattle.std.proofs.Common.{◌≡◌, length, refl, arith}
use Rattle.std.specs.List.{zip}
use Rattle.block_codes.specs.declared.coded.Coded.{Coded}
use Rattle.block_codes.specs.Joins.{IsJoined, StopsFirst}
use Rattle.block_codes.proofs.Zips.{zip_done, length-zip, stops_by}
use Rattle.block_codes.proofs.Joins.{first_later, second_later, join_more, stops_first}
use Rattle.branch_merge.proofs.ArmTables.{keeps_both}
use Rattle.block_codes.proofs.joined.join.Goals as goal

abbrev none : Coded
none = record { process = record { 0 = 0 }; code = record { 0 = 0 } }

pub join_one-requires-clause-first : goal.join_one-requires-clause-first
join_one-requires-clause-first c =
    first_later c.args.node.now.form c.args.firsts.now c.args.seconds.now c.loop-place.place none c.loop-place-test.true c.requires.same c.requires.firsts c.requires.seconds c.loop-place.invariant.kept

pub join_one-requires-clause-second : goal.join_one-requires-clause-second
join_one-requires-clause-second c =
    second_later c.args.node.now.form c.args.firsts.now c.args.seconds.now c.loop-place.place none c.loop-place-test.true c.requires.same c.requires.firsts c.requires.seconds c.loop-place.invariant.kept

pub returns-in_err-id-clause-stopped : goal.returns-in_err-id-clause-stopped
returns-in_err-id-clause-stopped c =
    stops_by (StopsFirst c.args.code.now.nodes c.args.node.now (zip c.args.firsts.now c.args.seconds.now)) c.from_residual.result c.in_err-id.field-0.0 c.from_residual.ensures.1
    (stops_first c.args.node.now.form c.args.firsts.now c.args.seconds.now c.loop-place.place none c.loop-place-test.true c.requires.same c.requires.firsts c.requires.seconds c.loop-place.invariant.kept
    c.args.node.now refl c.loop-place.codes c.in_err-id.field-0.0 c.loop-place.invariant.each c.in_err-id.ensures.stopped)

pub loop-place-preserved : goal.loop-place-preserved
loop-place-preserved c =
    let j = c.in_ok-id.ensures.joined in
    record {
      kept = keeps_both c.loop-place.invariant.kept j.kept;
      each =
          join_more c.args.node.now.form c.args.firsts.now c.args.seconds.now c.loop-place.place none c.loop-place-test.true c.requires.same c.requires.firsts c.requires.seconds c.loop-place.invariant.kept
          c.loop-place.codes _ _ c.loop-place.invariant.each j c.in_ok-push.ensures.ok;
    }

pub returns-clause-joined : goal.returns-clause-joined
returns-clause-joined c = record {
  kept = c.loop-place.invariant.kept;
  each =
      let p = c.loop-place.auto.place-end in
      let q = c.loop-place-test.false in
      zip_done (IsJoined c.args.code.now.nodes c.loop-place.code.nodes c.args.node.now.form) (zip c.args.firsts.now c.args.seconds.now) c.loop-place.place c.loop-place.codes
      (let e : length (zip c.args.firsts.now c.args.seconds.now) ≡ length c.args.firsts.now = length-zip c.args.firsts.now c.args.seconds.now c.requires.same in omega arith) c.loop-place.invariant.each;
}
