use Rattle.std.proofs.Common.{ℕ, List, ◌++◌, sym, ap, ◌∙◌}
use Rattle.std.specs.List.{flat_map}
use Rattle.std.proofs.lemmas.Result.{on_ok_weaker}
use Rattle.chor_print.specs.Parts.{header_text, protocol_text, service_text, proc_text, main_text}
use Rattle.chor_print.proofs.Chains.{five}
use Rattle.chor_print.proofs.Lines.{canonical}
use Rattle.chor_print.proofs.canonical.put_file.Goals as goal

pub returns : goal.returns
returns c =
    let f = c.args.file.now in
    let o = c.args.out.now.items in
    on_ok_weaker c.put_main.result
    (λ last. five o (header_text f.header) (flat_map (protocol_text f.names) f.protocols) (flat_map (service_text f.names) f.services) (flat_map (proc_text f) f.procs) (main_text f)
    c.in_ok-put_header.ensures c.in_ok-put_protocols.ensures c.in_ok-put_services.ensures c.in_ok-put_procs.ensures last
    ∙ ap (λ (t : List ℕ). o ++ t) (sym (canonical f)))
    c.put_main.ensures
