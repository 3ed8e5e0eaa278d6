use Rattle.std.proofs.Common.{length, refl, arith}
use Rattle.program_runs.specs.Books.{book_of}
use Rattle.event_files.specs.Files.{at_end, at_limit}
use Rattle.transcript_lines.specs.declared.last.Last.TheVariants.{End, Limit}
use Rattle.conforming_logs.proofs.Transcripts.{checked, none_unmatched}
use Rattle.conforming_logs.proofs.laws.transcripts_conform.Goals as goal

pub returns-clause-open : goal.returns-clause-open
returns-clause-open c bytes words f accepted e projects book hosts capacity h run has few i =
    let ok = checked words bytes f accepted in
    none_unmatched f (book_of f) book h has (c.runs_conform_by_role.ensures.conform f words ok e projects hosts capacity h run) (Limit (length h)) (omega (arith, has.1)) (at_limit refl) few i

pub returns-clause-ended : goal.returns-clause-ended
returns-clause-ended c bytes words f accepted e projects book hosts capacity h run has few i =
    let ok = checked words bytes f accepted in
    none_unmatched f (book_of f) book h has (c.runs_conform_by_role.ensures.conform f words ok e projects hosts capacity h (run.0, run.1)) (End (length h)) (omega (arith, has.1)) (at_end refl (c.runs_conform_by_role.ensures.end f words ok accepted.faultless.1.1.0 hosts capacity h run)) few i
