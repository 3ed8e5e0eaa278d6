use Rattle.std.proofs.Common.{sym, ap, subst, ◌∙◌, refl, arith}
use Rattle.std.proofs.lemmas.Grind.{common_steps}
use Rattle.chor_base.specs.NameMap.{with_first}
use Rattle.chor_base.proofs.NameMaps.{alike_maps}
use Rattle.chor_base.proofs.Copies.{IsCopying, copy_goes_on, copy_ends, seen_whole}
use Rattle.chor_base.proofs.name_map.NameMap.copy.Goals as goal

pub loop-name-init : goal.loop-name-init
loop-name-init g c = grind (arith, common_steps)

pub loop-name-preserved : goal.loop-name-preserved
loop-name-preserved g c =
    let all = c.self.inside.rest.entries in
    let old = c.loop-name.rest.entries in
    let so_far = subst (IsCopying (λ v. v) all old) c.in-Some.ensures.steps c.loop-name.invariant in
    copy_goes_on (λ v. v) all old c.insert.new.self.entries c.next.new.self c.in-Some.name.now c.in-Some.value.now c.in-Some.value.now so_far refl c.in_ok-insert.ensures.updates.0

pub returns : goal.returns
returns g c =
    let all = c.self.inside.rest.entries in
    let copy = c.loop-name.rest.entries in
    let so_far = subst (IsCopying (λ v. v) all copy) c.in-None.ensures.steps.0 c.loop-name.invariant in
    ap (with_first c.self.inside.first) (alike_maps copy all (λ q. sym (seen_whole _) ∙ copy_ends (λ v. v) all copy so_far q ∙ seen_whole _)) ∙ ap (λ v. v.map) c.self.view_is
