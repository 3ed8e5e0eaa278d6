use Rattle.std.proofs.Common.{◌∙◌, ap, sym, subst, arith, is_some, true, ◌⊎◌, ◌≡◌, ◌≤◌}
use Rattle.std.specs.FinMap as fin
use Rattle.chor_base.specs.NameMap.{NameMapView, with_first, map_of}
use Rattle.chor_base.proofs.NameMaps.{put_found, put_first, put_other, no_room}
use Rattle.chor_base.proofs.name_map.NameMap.set.Goals as goal

pub returns-then-is_first-clause-map : goal.returns-then-is_first-clause-map
returns-then-is_first-clause-map g c =
    put_first c.self.inside.first (map_of c.self.inside.rest.entries) c.args.name c.args.value (sym c.is_first.ensures ∙ c.if-is_first.true)
    ∙ ap (λ v. fin.insert v.map c.args.name.0 c.args.value) c.self.view_is

pub unreachable-requires : goal.unreachable-requires
unreachable-requires g c =
    no_room c.self.inside.first c.self.inside.rest.entries c.args.name _ (sym c.is_first.ensures ∙ c.if-is_first.false) c.in-Err.ensures.absent (λ h. let e = c.in-Err.ensures.succeeds (omega arith) in cc)
    (subst (λ (v : NameMapView _). (is_some (fin.get v.map c.args.name.0) ≡ true) ⊎ (1 ≤ v.spare)) (sym c.self.view_is) c.requires)

pub returns-clause-map : goal.returns-clause-map
returns-clause-map g c =
    ap (with_first c.self.inside.first) (put_found c.self.inside.rest.entries c.insert.new.self.entries c.args.name c.args.value c.in-Ok.ensures.updates.0)
    ∙ put_other c.self.inside.first (map_of c.self.inside.rest.entries) c.args.name c.args.value (sym c.is_first.ensures ∙ c.if-is_first.false)
    ∙ ap (λ v. fin.insert v.map c.args.name.0 c.args.value) c.self.view_is
