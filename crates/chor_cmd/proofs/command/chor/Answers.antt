use Rattle.std.proofs.Common.{◌≡◌, sym, ◌∙◌, arith}
use Rattle.std.proofs.lemmas.Bool.Decides.{nat_tests}
use Rattle.chor_host.proofs.Answerable.{table_answerable, table_fits}
use Rattle.chor_cmd.proofs.Settles.{is_settled}
use Rattle.chor_cmd.proofs.Headline.{runs_source, runs_projected, accepts_runs, links_programs, orders_run, judges_log, resumes_log, refuses_broken}
use Rattle.chor_cmd.proofs.Exits.{said_ended}
use Rattle.chor_cmd.proofs.NoWorkers.{none_asked}
use Rattle.chor_cmd.proofs.command.chor.Goals as goal

pub alone-requires-then-workers_of-eq0-after_bounds : goal.alone-requires-then-workers_of-eq0-after_bounds
alone-requires-then-workers_of-eq0-after_bounds g c κs within =
    let none : c.workers_of.result ≡ 0 = grind (arith, nat_tests) in
    none_asked c.args.words.now c.in-Some.command c.in-Some.files.now c.in-Some.ensures (sym c.workers_of.ensures ∙ none)

pub returns-clause-ended : goal.returns-clause-ended
returns-clause-ended g c = said_ended _ c.in-Some.command c.in-Some.files.now c.in-Some.ensures c.answer_by.ensures.said

pub returns-clause-settled : goal.returns-clause-settled
returns-clause-settled g c = is_settled _ (said_ended _ c.in-Some.command c.in-Some.files.now c.in-Some.ensures c.answer_by.ensures.said)

pub returns-clause-ran : goal.returns-clause-ran
returns-clause-ran g c = runs_source _ (is_settled _ (said_ended _ c.in-Some.command c.in-Some.files.now c.in-Some.ensures c.answer_by.ensures.said))

pub returns-clause-projected : goal.returns-clause-projected
returns-clause-projected g c =
    runs_projected _ (table_answerable c.args.hosts.now) (table_fits c.args.hosts.now) c.projected_laws.ensures.taken c.projected_laws.ensures.runs c.projected_laws.ensures.runs_by
    (said_ended _ c.in-Some.command c.in-Some.files.now c.in-Some.ensures c.answer_by.ensures.said)

pub returns-clause-replayed : goal.returns-clause-replayed
returns-clause-replayed g c = accepts_runs _ (is_settled _ (said_ended _ c.in-Some.command c.in-Some.files.now c.in-Some.ensures c.answer_by.ensures.said))

pub returns-clause-linked : goal.returns-clause-linked
returns-clause-linked g c = links_programs _ (is_settled _ (said_ended _ c.in-Some.command c.in-Some.files.now c.in-Some.ensures c.answer_by.ensures.said))

pub returns-clause-ordered : goal.returns-clause-ordered
returns-clause-ordered g c = orders_run _ (is_settled _ (said_ended _ c.in-Some.command c.in-Some.files.now c.in-Some.ensures c.answer_by.ensures.said))

pub returns-clause-conformed : goal.returns-clause-conformed
returns-clause-conformed g c = judges_log _ (is_settled _ (said_ended _ c.in-Some.command c.in-Some.files.now c.in-Some.ensures c.answer_by.ensures.said))

pub returns-clause-resumed : goal.returns-clause-resumed
returns-clause-resumed g c = resumes_log _ (is_settled _ (said_ended _ c.in-Some.command c.in-Some.files.now c.in-Some.ensures c.answer_by.ensures.said))

pub returns-clause-refused : goal.returns-clause-refused
returns-clause-refused g c = refuses_broken _ (is_settled _ (said_ended _ c.in-Some.command c.in-Some.files.now c.in-Some.ensures c.answer_by.ensures.said))
