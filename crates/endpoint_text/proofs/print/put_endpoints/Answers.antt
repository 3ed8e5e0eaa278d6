use Rattle.std.proofs.Common.{◌≡◌, ℕ, List, ◌++◌, append_assoc, ap, ◌∙◌}
use Rattle.std.specs.List.{flat_map}
use Rattle.std.proofs.lemmas.Result.{on_ok_weaker}
use Rattle.endpoint_text.specs.Text.{header, channel_line, procedure_line, service_line, process_line}
use Rattle.endpoint_text.proofs.print.put_endpoints.Goals as goal

joined : (o h x y z w : List ℕ) {a b c d last : List ℕ} → a ≡ o ++ h → b ≡ a ++ x → c ≡ b ++ y → d ≡ c ++ z → last ≡ d ++ w → last ≡ o ++ (h ++ x ++ y ++ z ++ w)
joined o h x y z w p q r s t =
    t ∙ ap (λ v. v ++ w) (s ∙ ap (λ v. v ++ z) (r ∙ ap (λ v. v ++ y) (q ∙ ap (λ v. v ++ x) p))) ∙ simp append_assoc

pub returns : goal.returns
returns c =
    let e = c.args.e.now in
    on_ok_weaker c.put_processes.result
    (λ last. joined c.args.out.now.items header (flat_map (channel_line e) e.channels) (flat_map (procedure_line e) e.procedures) (flat_map (service_line e) e.services) (flat_map (process_line e) e.processes)
    (c.in_ok-put_bytes.ensures.ok ∙ ap (λ (t : List ℕ). c.args.out.now.items ++ t) c.as_slice.ensures) c.in_ok-put_channels.ensures c.in_ok-put_procedures.ensures c.in_ok-put_services.ensures last)
    c.put_processes.ensures
