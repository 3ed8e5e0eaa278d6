use Rattle.std.proofs.Common.{length, arith}
use Rattle.std.specs.Prelude.{slice_index_or}
use Rattle.std.proofs.lemmas.Option.{slice_get-get_or}
use Rattle.state_sets.specs.declared.graph.Edge.{Edge}
use Rattle.state_sets.proofs.Lists.{in_of_at}
use Rattle.state_sets.proofs.Singles.{singles_kept, number_of_one_so}
use Rattle.state_sets.proofs.numbering.number_after.Goals as goal

pub number_alone-requires-clause-inside : goal.number_alone-requires-clause-inside
number_alone-requires-clause-inside c =
    let d : Edge = record { from = 0; to = 0 } in
    let e : Edge = slice_index_or c.args.edges.now 0 d in
    c.requires.inside e (in_of_at e c.args.edges.now 0 (slice_get-get_or c.args.edges.now 0 d (let t = c.if-edges-eq1.true in omega (arith, t))))

pub returns-then-edges-eq1-clause-number : goal.returns-then-edges-eq1-clause-number
returns-then-edges-eq1-clause-number c =
    number_of_one_so (length c.args.still.now) c.args.still.now c.args.edges.now _ c.args.numbering.now.sets c.number_alone.new.numbering.sets c.number_alone.result c.if-edges-eq1.true c.requires.allowed c.number_alone.ensures.number

pub returns-clause-singles : goal.returns-clause-singles
returns-clause-singles c = singles_kept (length c.args.still.now) c.args.numbering.now.sets c.intern.new.self c.args.numbering.now.singles.items c.as_slice.result.now c.in_ok-number.ensures.ok c.requires.singles
