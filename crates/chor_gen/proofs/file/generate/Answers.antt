use Rattle.chor_gen.proofs.Procedures.{source_is, file_kept}
use Rattle.chor_gen.proofs.file.generate.Goals as goal

pub returns-clause-source : goal.returns-clause-source
returns-clause-source c = source_is (record {
  some = c.in_ok-words.words.some;
  header_is = c.none.ensures;
  protocols_are = c.in_ok-protocols.ensures;
  services_are = c.in_ok-services.ensures;
  made = c.in_ok-procs.ensures;
  processes_are = c.in_ok-processes.ensures.are;
  adds = c.in_ok-body.ensures;
})

pub invariant_of-result : goal.invariant_of-result
invariant_of-result c = record {
  kept = file_kept (record {
    some = c.in_ok-words.words.some;
    header_is = c.none.ensures;
    protocols_are = c.in_ok-protocols.ensures;
    services_are = c.in_ok-services.ensures;
    made = c.in_ok-procs.ensures;
    processes_are = c.in_ok-processes.ensures.are;
    adds = c.in_ok-body.ensures;
  }) _ c.new-2.ensures;
}
