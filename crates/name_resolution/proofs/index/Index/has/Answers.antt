use Rattle.std.proofs.Common.{ap, ◌∙◌}
use Rattle.std.specs.Prelude.{is_some}
use Rattle.name_resolution.specs.Places.{names_of}
use Rattle.name_resolution.proofs.Indexes.{among_placed}
use Rattle.name_resolution.proofs.index.Index.has.Goals as goal

pub returns : goal.returns
returns g c =
    let i = c.args.self.now in
    c.is_some.ensures ∙ ap is_some (c.get.ensures ∙ i.is_index c.args.name) ∙ among_placed (names_of g.T.HasName.name_of i.items.now) c.args.name
