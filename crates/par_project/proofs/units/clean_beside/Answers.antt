use Rattle.std.proofs.Common.{ap, subst, sym}
use Rattle.std.specs.Prelude.{All}
use Rattle.std.proofs.Crossing.{crosses}
use denote.Param.Send.{sendable}
use Rattle.block_codes.proofs.Zips.{zip_seconds}
use Rattle.chor_tree.specs.declared.file.File.{File}
use Rattle.file_codes.specs.UnitCodes.{MayBeCleanBody}
use Rattle.par_project.proofs.Crossing.{file_sync}
use Rattle.par_project.proofs.units.clean_beside.Goals as goal

pub map-requires-send-F : goal.map-requires-send-F
map-requires-send-F g c κs within = search (sendable, crosses, file_sync) depth 40

pub map-requires-sync-F : goal.map-requires-sync-F
map-requires-sync-F g c κs within = search (sendable, crosses, file_sync) depth 40

pub collect-requires-send-Self : goal.collect-requires-send-Self
collect-requires-send-Self g c κs within = search (sendable, crosses, file_sync) depth 40

pub returns : goal.returns
returns g c =
    let h = c.in_ok-clean.ensures in
    let chain = h.1 in
    let file = c.map.result.f.1.now in
    let made = zip_seconds (λ _ y. MayBeCleanBody file y) (MayBeCleanBody file) (λ _ y p. p) chain.0 h.0 chain.2 in
    subst (λ (f : File). All (MayBeCleanBody f) c.in_ok-clean.clean.items) (ap (λ x. x.1.now) c.map.ensures.f) (subst (All (MayBeCleanBody file)) (sym h.2) made)
