use Rattle.std.proofs.Common.{ap, ◌∙◌}
use Rattle.std.specs.FinMap as fin
use Rattle.endpoint_machine.specs.Sessions.{sessions_of}
use Rattle.endpoint_machine.proofs.Bound.{removed}
use Rattle.endpoint_machine.proofs.sessions.Bindings.remove.Goals as goal

pub returns-clause-map : goal.returns-clause-map
returns-clause-map c =
    ap sessions_of c.forget.ensures.items ∙ removed c.self.inside.items.items c.args.name.0 ∙ ap (λ v. fin.remove v.map c.args.name.0) c.self.view_is
