use Rattle.chor_host.proofs.Answerable.{table_answerable, table_fits}
use Rattle.chor_cmd.proofs.Settles.{is_usage, is_settled}
use Rattle.chor_cmd.proofs.Headline.{runs_source, runs_projected, accepts_runs, links_programs, orders_run, judges_log, resumes_log, refuses_broken}
use Rattle.chor_cmd.proofs.Exits.{usage_ended, answer_ended}
use Rattle.chor_cmd.proofs.command.alone.Goals as goal

pub returns-in_default-clause-ended : goal.returns-in_default-clause-ended
returns-in_default-clause-ended g c = usage_ended _ c.in_default.ensures c.as_slice-usage.result.now c.as_slice-usage.ensures c.write.ensures

pub returns-in_default-clause-usage : goal.returns-in_default-clause-usage
returns-in_default-clause-usage g c = is_usage _ (usage_ended _ c.in_default.ensures c.as_slice-usage.result.now c.as_slice-usage.ensures c.write.ensures)

pub returns-clause-ended : goal.returns-clause-ended
returns-clause-ended g c = answer_ended _ c.in-Some.command c.in-Some.files.now c.in-Some.ensures c.answer-answer.result c.answer-answer.ensures.answers c.finish.ensures

pub returns-clause-settled : goal.returns-clause-settled
returns-clause-settled g c = is_settled _ (answer_ended _ c.in-Some.command c.in-Some.files.now c.in-Some.ensures c.answer-answer.result c.answer-answer.ensures.answers c.finish.ensures)

pub returns-clause-ran : goal.returns-clause-ran
returns-clause-ran g c = runs_source _ (is_settled _ (answer_ended _ c.in-Some.command c.in-Some.files.now c.in-Some.ensures c.answer-answer.result c.answer-answer.ensures.answers c.finish.ensures))

pub returns-clause-projected : goal.returns-clause-projected
returns-clause-projected g c =
    runs_projected _ (table_answerable c.args.hosts.now) (table_fits c.args.hosts.now) c.projected_laws.ensures.taken c.projected_laws.ensures.runs c.projected_laws.ensures.runs_by
    (answer_ended _ c.in-Some.command c.in-Some.files.now c.in-Some.ensures c.answer-answer.result c.answer-answer.ensures.answers c.finish.ensures)

pub returns-clause-replayed : goal.returns-clause-replayed
returns-clause-replayed g c = accepts_runs _ (is_settled _ (answer_ended _ c.in-Some.command c.in-Some.files.now c.in-Some.ensures c.answer-answer.result c.answer-answer.ensures.answers c.finish.ensures))

pub returns-clause-linked : goal.returns-clause-linked
returns-clause-linked g c = links_programs _ (is_settled _ (answer_ended _ c.in-Some.command c.in-Some.files.now c.in-Some.ensures c.answer-answer.result c.answer-answer.ensures.answers c.finish.ensures))

pub returns-clause-ordered : goal.returns-clause-ordered
returns-clause-ordered g c = orders_run _ (is_settled _ (answer_ended _ c.in-Some.command c.in-Some.files.now c.in-Some.ensures c.answer-answer.result c.answer-answer.ensures.answers c.finish.ensures))

pub returns-clause-conformed : goal.returns-clause-conformed
returns-clause-conformed g c = judges_log _ (is_settled _ (answer_ended _ c.in-Some.command c.in-Some.files.now c.in-Some.ensures c.answer-answer.result c.answer-answer.ensures.answers c.finish.ensures))

pub returns-clause-resumed : goal.returns-clause-resumed
returns-clause-resumed g c = resumes_log _ (is_settled _ (answer_ended _ c.in-Some.command c.in-Some.files.now c.in-Some.ensures c.answer-answer.result c.answer-answer.ensures.answers c.finish.ensures))

pub returns-clause-refused : goal.returns-clause-refused
returns-clause-refused g c = refuses_broken _ (is_settled _ (answer_ended _ c.in-Some.command c.in-Some.files.now c.in-Some.ensures c.answer-answer.result c.answer-answer.ensures.answers c.finish.ensures))
