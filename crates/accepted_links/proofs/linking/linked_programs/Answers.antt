use Rattle.same_programs.specs.Words.{HasDistinctWords}
use Rattle.simulation.proofs.Runs.{checked}
use Rattle.accepted_links.proofs.linking.linked_programs.Goals as goal

pub returns-clause-faultless : goal.returns-clause-faultless
returns-clause-faultless c = record {
  faultless = c.in_ok-programs.ensures.faultless;
  hosts = c.in_ok-programs.ensures.asks c.args.accepted.now.typed.hosts c.endpoints-base.ensures.accepted.faultless.hosts c.requires.hosts;
}

pub returns-clause-runs : goal.returns-clause-runs
returns-clause-runs c =
    let typed = c.args.accepted.now.typed in
    let base = c.endpoints-base.result.now in
    let a = c.endpoints-base.ensures.accepted in
    let linked = c.in_ok-programs.ensures in
    let distinct : HasDistinctWords c.in_ok-programs.programs = record { names = c.len-names.ensures.distinct; texts = c.len-texts.ensures.distinct } in
    (c.linked_runs_are_runs.ensures typed.file typed.hosts (checked typed.hosts typed.file base typed.fine a) base a.above c.args.given.now c.in_ok-programs.programs linked.linked linked.faultless distinct).1
