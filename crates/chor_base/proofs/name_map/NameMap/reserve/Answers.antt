use Rattle.std.proofs.Common.{◌∙◌, ap}
use Rattle.chor_base.specs.NameMap.{with_first}
use Rattle.chor_base.proofs.NameMaps.{alike_maps}
use Rattle.chor_base.proofs.name_map.NameMap.reserve.Goals as goal

pub returns-clause-map : goal.returns-clause-map
returns-clause-map g c =
    ap (with_first c.self.inside.first) (alike_maps c.reserve.new.self.entries c.self.inside.rest.entries c.in_ok-reserve.ensures.entries.2) ∙ ap (λ v. v.map) c.self.view_is
