use Rattle.std.proofs.Common.{ap, ◌∙◌, sym, subst, map, [], ◌++◌}
use Rattle.chor_tree.specs.Names.{is_among, names_in, repeated}
use Rattle.chor_base.specs.Faults.{first_of_all}
use Rattle.name_resolution.specs.Places.{names_of}
use Rattle.name_resolution.specs.Sets.{AreAlike}
use Rattle.chor_base.proofs.Faults.{first_of_two}
use Rattle.name_resolution.proofs.Repeats.{repeated_append, names_in_map}
use Rattle.name_resolution.proofs.procedures.repeated_parameters.Goals as goal

pub returns : goal.returns
returns c =
    let ps = c.args.procedure.now.params in
    let ks = c.args.procedure.now.sessions in
    let known = c.repeated.new.known in
    let alike : AreAlike known ([] ++ names_in (map (λ q. q.name) ps)) =
    (λ y. subst (λ l. AreAlike known (l ++ names_of (λ q. q.name) ps)) c.new-known.ensures c.in_ok-processes.ensures.known y ∙ ap (λ l. is_among l y) (sym (names_in_map (λ q. q.name) ps))) in
    first_of_two (repeated [] (map (λ q. q.name) ps)) (repeated known (map (λ k. k.name) ks)) _ _ _ c.earlier.ensures
    (c.in_ok-processes.ensures.fault ∙ ap (λ l. first_of_all (repeated l (map (λ q. q.name) ps))) c.new-known.ensures)
    c.in_ok-sessions.ensures.fault
    ∙ ap first_of_all (sym (repeated_append [] known (map (λ q. q.name) ps) (map (λ k. k.name) ks) alike))
