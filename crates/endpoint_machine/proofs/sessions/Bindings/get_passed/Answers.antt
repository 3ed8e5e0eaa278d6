use Rattle.std.proofs.Common.{sym, ◌∙◌, arith, length, ◌<◌}
use Rattle.chor_base.specs.declared.names.NameId.{NameId}
use Rattle.endpoint_machine.proofs.Bound.{passed_here, passed_not_here, passed_lacking, passed_over}
use Rattle.endpoint_machine.proofs.sessions.Bindings.get_passed.Goals.{then-eq+in_default, else-eq}
use Rattle.endpoint_machine.proofs.sessions.Bindings.get_passed.Goals as goal

nobody : NameId
nobody = record { 0 = 0 }

pub returns-in-Some : goal.returns-in-Some
unfolding nobody
returns-in-Some c =
    let i = c.loop-i.i in
    let lt : i < length c.args.params.now = omega arith in
    let lu : i < length c.args.names.now = omega arith in
    sym (c.loop-i.invariant ∙ passed_here c.args.params.now c.args.names.now c.args.self.now.map i c.args.name.0 nobody nobody c.in-Some.found lt lu (sym c.eq.ensures ∙ c.if-eq.true) c.in-Some.ensures)

pub loop-i-preserved : goal.loop-i-preserved
unfolding nobody
loop-i-preserved c =
    let i = c.loop-i.i in
    let lt : i < length c.args.params.now = omega arith in
    let lu : i < length c.args.names.now = omega arith in
    c.loop-i.invariant ∙ elim c.if-eq.branch [
      | then-eq+in_default w ↦ passed_lacking c.args.params.now c.args.names.now c.args.self.now.map i c.args.name.0 nobody nobody lt lu (sym w.in_default.is ∙ w.get.ensures)
      | else-eq w ↦ passed_not_here c.args.params.now c.args.names.now c.args.self.now.map i c.args.name.0 nobody nobody lt lu (sym c.eq.ensures ∙ w.if-eq.false)
    ]

pub returns : goal.returns
returns c = sym (c.loop-i.invariant ∙ passed_over c.args.params.now c.args.names.now c.args.self.now.map c.loop-i.i c.args.name.0 (omega arith))
