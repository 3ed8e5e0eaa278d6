use Rattle.std.proofs.Common.{◌∙◌, refl, sym}
use Rattle.std.proofs.lemmas.Option.{slice_get_read}
use Rattle.endpoint_machine.proofs.Apart.{found_apart}
use Rattle.endpoint_machine.proofs.machine.procedure_at.Goals as goal

pub returns-in-Some : goal.returns-in-Some
returns-in-Some c =
    let found = c.in-Some.ensures.lookup in
    found_apart _ c.args.place _ _ _ c.requires (slice_get_read _ _ _ _ refl found.3.0 found.1) (sym c.eq.ensures ∙ c.if-eq.true) (sym c.eq-then-eq.ensures ∙ c.if-eq-2.true)
