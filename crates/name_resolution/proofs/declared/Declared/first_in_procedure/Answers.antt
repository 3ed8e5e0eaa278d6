use Rattle.std.proofs.Common.{[], ◌++◌, map}
use Rattle.std.specs.List.{flat_map}
use Rattle.chor_tree.specs.Names.{repeated, session_faults}
use Rattle.chor_base.proofs.Faults.{first_of_two}
use Rattle.name_resolution.proofs.declared.Declared.first_in_procedure.Goals as goal

pub returns : goal.returns
returns c =
    let p = c.args.procedure.now in
    let names = repeated [] (map (λ q. q.name) p.params ++ map (λ k. k.name) p.sessions) in
    let variables = flat_map (λ q. repeated [] (map (λ v. v.0) q.vars)) p.params in
    let sessions = flat_map (session_faults c.args.self.now.file.now (map (λ q. q.name.name) p.params)) p.sessions in
    first_of_two (names ++ variables) sessions _ _ _ c.earlier-2.ensures (first_of_two names variables _ _ _ c.earlier.ensures c.in_ok-names.ensures c.in_ok-variables.ensures) c.in_ok-sessions.ensures
