use Rattle.std.proofs.Common.{ap, ◌∙◌, ◌++◌, ◌∷◌, [], List}
use Rattle.std.specs.FinMap as fin
use Rattle.endpoint_machine.specs.declared.sessions.Binding.{Binding}
use Rattle.endpoint_machine.specs.Sessions.{sessions_of}
use Rattle.endpoint_machine.proofs.Bound.{put_last}
use Rattle.endpoint_machine.proofs.sessions.Bindings.set.Goals as goal

pub returns-clause-map : goal.returns-clause-map
returns-clause-map c =
    let b : Binding = record { session = c.args.name; sid = c.args.sid; role = c.args.role } in
    ap sessions_of (c.in-Ok.ensures.items ∙ ap (λ (l : List Binding). l ++ b ∷ []) c.forget.ensures.items)
    ∙ put_last c.self.inside.items.items b ∙ ap (λ v. fin.insert v.map c.args.name.0 (c.args.sid, c.args.role)) c.self.view_is
