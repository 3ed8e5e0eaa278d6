use Rattle.std.proofs.Common.{◌≡◌, true, sym}
use Rattle.std.proofs.lemmas.List.Elements.{All-same}
use Rattle.endpoint_code.specs.declared.code.CodeNode.{CodeNode}
use Rattle.endpoint_code.specs.Kept.{has_name, has_text, node_there}
use Rattle.file_codes.proofs.Projected.{units_inside, units_numbered, projects_units}
use Rattle.file_codes.proofs.whole.endpoints.Goals as goal

pub invariant_of-result : goal.invariant_of-result
invariant_of-result c =
    let f = c.args.file.now in
    let P = λ (o : CodeNode). node_there (has_name f.names) (has_text f.texts) o ≡ true in
    let there = All-same P c.args.units.code.nodes c.as_slice.result.now (sym c.as_slice.ensures) (c.are_there.ensures c.if-not-are_there.false) in
    record {
      inside = units_inside f _ _ _ _ c.requires.units.procedures c.requires.services c.requires.units.processes;
      numbered = units_numbered f _ _ _ _ c.requires.units.procedures c.requires.services c.requires.units.processes _ _ _ c.in_ok-copy.ensures c.in_ok-copy-2.ensures c.in_ok-channels.ensures there;
    }

pub returns : goal.returns
returns c = projects_units c.args.file.now _ c.in_ok-copy.ensures c.in_ok-copy-2.ensures c.in_ok-channels.ensures c.requires.units.procedures c.requires.services c.requires.units.processes
