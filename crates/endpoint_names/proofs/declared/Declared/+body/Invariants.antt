use Rattle.std.proofs.Common.{◌≡◌, ◌+◌, ◌*◌, drop}
use Rattle.chor_base.specs.Faults.{earlier, first_of_all}
use Rattle.endpoint_names.specs.Bodies.{bodies_of, arms_in}
use Rattle.endpoint_names.specs.Faults.{arms_faults}
use Rattle.endpoint_names.specs.Functions.{setting_of}
use Rattle.endpoint_names.proofs.declared.Declared.+body.Given as goal

abbrev pub decreases-first_in_arms : goal.decreases-first_in_arms
decreases-first_in_arms l = 2 * l.id.0

abbrev pub decreases-first_in_body : goal.decreases-first_in_body
decreases-first_in_body l = 2 * l.id.0 + 1

abbrev pub invariant-first_in_arms-loop-arm : goal.invariant-first_in_arms-loop-arm
invariant-first_in_arms-loop-arm l =
    let s = setting_of l.self.written.now l.self.functions in
    let bs = bodies_of l.self.written.now.lines.items in
    earlier l.first (first_of_all (arms_faults s l.bound (arms_in bs (drop l.arm-index l.arms)))) ≡ first_of_all (arms_faults s l.bound (arms_in bs l.arms))
