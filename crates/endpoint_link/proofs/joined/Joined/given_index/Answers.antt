use Rattle.std.proofs.Common.{map, ap, ◌∙◌}
use Rattle.endpoint_link.specs.Indexes.{renumbered_unit}
use Rattle.endpoint_link.proofs.Indexes.{mapped_twice}
use Rattle.endpoint_link.proofs.joined.Joined.given_index.Goals as goal

pub returns : goal.returns
returns g c =
    let ren = renumbered_unit c.args.self.now.numbers in
    c.in_ok-index.ensures ∙ c.in_ok-names-2.ensures ∙ ap (map ren) (c.as_slice.ensures ∙ c.in_ok-names.ensures) ∙ mapped_twice g.T.HasUnitName.name_of ren c.args.given.now
