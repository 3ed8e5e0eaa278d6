use Rattle.chor_host.specs.Functions.{names_of}
use Rattle.chor_lexer.proofs.DistinctTables.{distinct_names}
use Rattle.projected_programs.proofs.Checked.{are_faultless}
use Rattle.projected_programs.proofs.RunsBy.{run_transcript}
use Rattle.projected_programs.proofs.projected_text_runs_by_workers.Goals as goal

pub returns : goal.returns
returns c functions bytes f e p e' read cap room steps text stuck t =
    let words = names_of functions in
    let writable = c.projection_is_writable.ensures.accepted words bytes f p.accepted e p.projects in
    let copy = c.text_reads_back.ensures.copies words e e' (record { writable = writable; read = read }) (are_faultless c.projection_is_faultless.ensures functions bytes f e p) in
    let back = c.copies_are_faultless.ensures.back e e' copy in
    let answered = c.asked_functions_answer.ensures f functions (distinct_names p.accepted.file.are) p.answerable p.accepted.faultless.0 in
    run_transcript functions bytes f e p answered c.projection_is_above.ensures c.closed_runs_are_runs.ensures cap room steps text stuck (c.transcripts_by_workers_agree.ensures functions e' e cap steps text stuck back t)
