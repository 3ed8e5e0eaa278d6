use Rattle.std.proofs.Common.{◌≡◌, ℕ, ◌+◌, ◌-◌, ◌<◌, sym, ap, ◌∙◌, arith, length, drop}
use Rattle.std.specs.Prelude.{slice_index_or}
use Rattle.std.specs.FinMap as fin
use Rattle.chor_base.specs.declared.names.NameId.{NameId}
use Rattle.endpoint_code.specs.Network.{passed}
use Rattle.endpoint_machine.proofs.Bound.{passed_none, passed_set, passed_skip}
use Rattle.endpoint_machine.proofs.sessions.Bindings.pass.Goals as goal

nobody : NameId
nobody = record { 0 = 0 }

pub loop-left-init : goal.loop-left-init
loop-left-init c = record {
  made = c.clear.ensures.map ∙ sym (passed_none c.args.params.now c.args.names.now c.args.from.now.map (length c.args.names.now) (omega arith));
  within = omega arith;
  room = omega arith;
}

pub loop-left-preserved-in-Some : goal.loop-left-preserved-in-Some
unfolding nobody
loop-left-preserved-in-Some c =
    let i = c.loop-left.left - 1 in
    let next : i + 1 ≡ c.loop-left.left = omega arith in
    let lt : i < length c.args.params.now = omega arith in
    let lu : i < length c.args.names.now = omega arith in
    record {
      made =
          c.set.ensures.map ∙ ap (λ m. fin.insert m (slice_index_or c.args.params.now i nobody).0 (c.in-Some.sid, c.in-Some.role)) c.loop-left.invariant.made
          ∙ passed_set c.args.params.now c.args.names.now c.args.from.now.map i c.loop-left.left nobody nobody (c.in-Some.sid, c.in-Some.role) next lt lu (sym c.in-Some.is ∙ c.get.ensures);
      within = omega arith;
      room = omega arith;
    }

pub loop-left-preserved : goal.loop-left-preserved
unfolding nobody
loop-left-preserved c =
    let i = c.loop-left.left - 1 in
    let next : i + 1 ≡ c.loop-left.left = omega arith in
    let lt : i < length c.args.params.now = omega arith in
    let lu : i < length c.args.names.now = omega arith in
    record {
      made =
          c.loop-left.invariant.made
          ∙ passed_skip c.args.params.now c.args.names.now c.args.from.now.map i c.loop-left.left nobody nobody next lt lu (sym c.in_default.is ∙ c.get.ensures);
      within = omega arith;
      room = omega arith;
    }

pub returns-clause-map : goal.returns-clause-map
returns-clause-map c =
    let none : c.loop-left.left ≡ 0 = omega arith in
    c.loop-left.invariant.made ∙ ap (λ (i : ℕ). passed (drop i c.args.params.now) (drop i c.args.names.now) c.args.from.now.map) none
