use Rattle.std.proofs.Common.{ap, ◌∙◌}
use Rattle.std.specs.Prelude.{is_some}
use Rattle.endpoint_names.specs.Keys.{keys_of}
use Rattle.endpoint_names.proofs.Indexes.{known_placed}
use Rattle.endpoint_names.proofs.index.Index.has.Goals as goal

pub returns : goal.returns
returns g c =
    let i = c.args.self.now in
    c.is_some.ensures ∙ ap is_some (c.get.ensures ∙ i.is_index c.args.key) ∙ known_placed (keys_of g.T.HasSign.sign_of i.items.now) c.args.key
