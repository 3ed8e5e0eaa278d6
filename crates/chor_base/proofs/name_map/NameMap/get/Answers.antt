use Rattle.std.proofs.Common.{◌≡◌, ◌∙◌, sym, ap}
use Rattle.std.specs.FinMap as fin
use Rattle.chor_base.specs.NameMap.{with_first, takes_first, map_of}
use Rattle.chor_base.proofs.NameMaps.{get_found, get_first, get_other}
use Rattle.chor_base.proofs.name_map.NameMap.get.Goals as goal
use Rattle.chor_base.proofs.name_map.NameMap.get.Goals.{in-Some+else-eq, in_default}

pub returns-then-eq : goal.returns-then-eq
returns-then-eq g c =
    sym (get_first c.self.inside.first (map_of c.self.inside.rest.entries) c.in-Some.first c.args.name c.in-Some.value c.in-Some.is (sym c.eq.ensures ∙ c.if-eq.true))
    ∙ ap (λ v. fin.get v.map c.args.name.0) c.self.view_is

pub returns : goal.returns
returns g c =
    let others = map_of c.self.inside.rest.entries in
    let name = c.args.name in
    let alike : fin.get (with_first c.self.inside.first others) name.0 ≡ fin.get others name.0 = elim c.match-self.branch [
      | in-Some+else-eq w ↦ get_other c.self.inside.first others name (ap (λ f. takes_first f name) w.in-Some.is ∙ sym w.eq.ensures ∙ w.if-eq.false)
      | in_default w ↦ ap (λ f. fin.get (with_first f others) name.0) w.in_default.is
    ] in
    c.copied.ensures ∙ c.get.ensures.value ∙ sym (get_found c.self.inside.rest.entries name) ∙ sym alike ∙ ap (λ v. fin.get v.map name.0) c.self.view_is
