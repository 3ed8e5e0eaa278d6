use Rattle.std.proofs.Common.{rules, ◌≡◌, ◌+◌, ◌<◌, ◌≤◌, Some, length, refl, subst, arith}
use Rattle.endpoint_link.specs.declared.index.Standing.TheVariants.{Once}
use Rattle.endpoint_link.specs.Indexes.{standing_of}
use Rattle.endpoint_link.proofs.Indexes.{StandsSo, stands_so, once_inside, cut_part, whole_part}
use Rattle.endpoint_link.proofs.index.Index.part.Goals as goal

pub offset_bounds-units-place : goal.offset_bounds-units-place
offset_bounds-units-place g c =
    let i = c.args.self.now in
    let place = c.in-Some-Once.place in
    let a = c.get.ensures in
    let b = c.in-Some-Once.is in
    let d = c.in-Some-Once.field-0-is in
    let e = c.in-Some-Once.place-is in
    let found : standing_of i.standings c.args.name ≡ Some (Once place) = cc in
    let so : StandsSo i.names c.args.name (Some (Once place)) = subst (StandsSo i.names c.args.name) found (stands_so i.names i.standings i.is_index c.args.name) in
    let l : place < length c.args.units.now = once_inside i.names c.args.name c.args.units.now place so c.requires in
    omega (arith, l)

pub slice_bounds-result-end-in-Some-Once : goal.slice_bounds-result-end-in-Some-Once
slice_bounds-result-end-in-Some-Once g c =
    let i = c.args.self.now in
    let place = c.in-Some-Once.place in
    let a = c.get.ensures in
    let b = c.in-Some-Once.is in
    let d = c.in-Some-Once.field-0-is in
    let e = c.in-Some-Once.place-is in
    let found : standing_of i.standings c.args.name ≡ Some (Once place) = cc in
    let so : StandsSo i.names c.args.name (Some (Once place)) = subst (StandsSo i.names c.args.name) found (stands_so i.names i.standings i.is_index c.args.name) in
    let l : place < length c.args.units.now = once_inside i.names c.args.name c.args.units.now place so c.requires in
    let h : place + 1 ≤ length c.args.units.now = omega (arith, l) in
    search rules

pub returns-in-Some-Once : goal.returns-in-Some-Once
returns-in-Some-Once g c =
    let i = c.args.self.now in
    let place = c.in-Some-Once.place in
    let a = c.get.ensures in
    let b = c.in-Some-Once.is in
    let d = c.in-Some-Once.field-0-is in
    let e = c.in-Some-Once.place-is in
    let found : standing_of i.standings c.args.name ≡ Some (Once place) = cc in
    let so : StandsSo i.names c.args.name (Some (Once place)) = subst (StandsSo i.names c.args.name) found (stands_so i.names i.standings i.is_index c.args.name) in
    cut_part i.names c.args.name c.args.units.now _ place so c.requires refl

pub returns-in-Some-Again : goal.returns-in-Some-Again
returns-in-Some-Again g c = whole_part c.args.self.now.names c.args.name c.args.units.now c.args.units.now refl
