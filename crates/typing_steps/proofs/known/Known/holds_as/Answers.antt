use Rattle.std.proofs.Common.{◌∙◌, ap}
use Rattle.typing_steps.specs.Known.{environment_of}
use Rattle.typing_steps.proofs.CheckOrder.{held_by, held_as}
use Rattle.typing_steps.proofs.known.Known.holds_as.Goals as goal

pub returns-in-Some : goal.returns-in-Some
returns-in-Some c =
    let e = environment_of c.args.self.now in
    c.holds.ensures ∙ ap (held_by e c.args.session c.args.listed.0.name) c.in-Some.ensures ∙ held_as e c.args.session c.args.listed.0.name c.args.listed.1.name c.args.params.now c.args.processes.now

pub returns-in-None : goal.returns-in-None
returns-in-None c =
    let e = environment_of c.args.self.now in
    ap (held_by e c.args.session c.args.listed.0.name) c.in-None.ensures ∙ held_as e c.args.session c.args.listed.0.name c.args.listed.1.name c.args.params.now c.args.processes.now
