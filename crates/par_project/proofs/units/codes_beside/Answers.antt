use Rattle.std.proofs.Common.{ap, subst, sym}
use Rattle.std.specs.Prelude.{All}
use Rattle.std.proofs.Crossing.{crosses}
use denote.Param.Send.{sendable}
use Rattle.block_codes.proofs.Zips.{zip_seconds}
use Rattle.chor_tree.specs.declared.file.File.{File}
use Rattle.file_codes.specs.UnitCodes.{MayBeUnitCode}
use Rattle.par_project.proofs.Crossing.{file_sync, unit_send}
use Rattle.par_project.proofs.units.codes_beside.Goals as goal

pub map-requires-send-U : goal.map-requires-send-U
map-requires-send-U g c κs within = search (sendable, crosses, unit_send) depth 40

pub map-requires-send-F : goal.map-requires-send-F
map-requires-send-F g c κs within = search (sendable, crosses, file_sync) depth 40

pub map-requires-sync-F : goal.map-requires-sync-F
map-requires-sync-F g c κs within = search (sendable, crosses, file_sync) depth 40

pub collect-requires-send-Self : goal.collect-requires-send-Self
collect-requires-send-Self g c κs within = search (sendable, crosses, file_sync) depth 40

pub collect-requires-send-Self-Item : goal.collect-requires-send-Self-Item
collect-requires-send-Self-Item g c κs within = search (sendable, crosses, unit_send) depth 40

pub collect-requires-send-C : goal.collect-requires-send-C
collect-requires-send-C g c κs within = search (sendable, crosses, unit_send) depth 40

pub returns : goal.returns
returns g c =
    let h = c.in_ok-owns.ensures in
    let chain = h.1 in
    let file = c.map.result.f.1.now in
    let made = zip_seconds (λ _ y. MayBeUnitCode file y) (MayBeUnitCode file) (λ _ y p. p) chain.0 h.0 chain.2 in
    subst (λ (f : File). All (MayBeUnitCode f) c.in_ok-owns.owns.items) (ap (λ x. x.1.now) c.map.ensures.f) (subst (All (MayBeUnitCode file)) (sym h.2) made)
