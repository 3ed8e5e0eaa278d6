use Rattle.std.proofs.Common.{ℕ, ◌≡◌, ◌==◌, ap, sym, ◌∙◌}
use Rattle.std.specs.Bool.{Decides}
use Rattle.std.proofs.lemmas.Bool.Decides.{Decides-eqb}
use Rattle.std.proofs.lemmas.Slice.Eq.{slice_eq-Decides}
use Rattle.chor_base.specs.declared.names.NameId.{NameId}
use Rattle.endpoint_link.proofs.joined.Joined.are_names.Goals as goal

name_decides : (k l : NameId) → Decides (k.0 == l.0) (k ≡ l)
name_decides k l =
    let d = Decides-eqb k.0 l.0 in
    let name : ℕ → NameId = λ n. record { 0 = n } in
    ((λ t. ap name (d.0 t)), (λ e. d.1 (ap (λ m. m.0) e)))

pub returns : goal.returns
returns c =
    let d = slice_eq-Decides name_decides c.as_slice.result.now c.args.names.now c.eq.result c.eq.ensures in
    let same = c.as_slice.ensures ∙ c.in_ok-given.ensures in
    ((λ t. sym same ∙ d.0 t), (λ e. d.1 (same ∙ e)))
