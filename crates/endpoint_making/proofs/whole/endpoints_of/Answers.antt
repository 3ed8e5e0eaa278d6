use Rattle.std.proofs.Common.{map, ap, ◌∙◌}
use Rattle.endpoint_making.specs.Making.{channel_made, procedure_made, service_made, process_made}
use Rattle.endpoint_making.proofs.Kept.{whole_inside, whole_numbered}
use Rattle.endpoint_making.proofs.whole.endpoints_of.Goals as goal

pub invariant_of-result : goal.invariant_of-result
invariant_of-result c =
    let w = c.args.written.now in
    let channels = c.in_ok-channels.ensures ∙ ap (map channel_made) c.as_slice.ensures in
    let procedures = c.in_ok-procedures.ensures ∙ ap (map procedure_made) c.as_slice-2.ensures in
    let services = c.in_ok-services.ensures ∙ ap (map service_made) c.as_slice-3.ensures in
    let processes = c.in_ok-processes.ensures ∙ ap (map process_made) c.as_slice-4.ensures in
    record {
      inside = whole_inside w c.in_ok-code.code.nodes c.in_ok-channels.channels _ _ _ channels procedures services processes c.in_ok-code.ensures.count;
      numbered = whole_numbered w c.in_ok-code.code.nodes _ _ _ _ channels procedures services processes c.args.names c.args.texts c.requires c.in_ok-code.ensures.there;
    }
