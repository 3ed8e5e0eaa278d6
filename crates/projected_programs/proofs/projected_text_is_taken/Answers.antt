use Rattle.chor_host.specs.Functions.{names_of}
use Rattle.projected_programs.proofs.Checked.{are_faultless}
use Rattle.projected_programs.proofs.projected_text_is_taken.Goals as goal

pub returns : goal.returns
returns c functions bytes f e p r v =
    let words = names_of functions in
    c.text_is_taken.ensures.taken words e r (c.projection_is_writable.ensures.accepted words bytes f p.accepted e p.projects) (are_faultless c.projection_is_faultless.ensures functions bytes f e p)
    (c.projection_asks_known.ensures f words p.accepted.faultless.0 e p.projects) v
