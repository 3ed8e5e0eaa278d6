use Rattle.std.proofs.Common.{Some, ap, ◌∙◌}
use Rattle.std.specs.Prelude.{if◌then◌else◌}
use Rattle.endpoint_link.specs.Indexes.{same_unit, standing_of, standing_after}
use Rattle.endpoint_link.proofs.index.Standings.add.Goals as goal

pub returns : goal.returns
returns c =
    let old = c.args.self.now in
    let x = c.args.name in
    λ k. c.in_ok-insert.ensures.updates.0 k ∙ ap (λ s. if same_unit x k then Some s else standing_of old k) (c.after-standing.ensures ∙ ap (standing_after c.args.place) c.get.ensures)
