use Rattle.generated_files.proofs.generate_faultless.Goals as goal

pub returns-clause-faultless : goal.returns-clause-faultless
returns-clause-faultless c =
    let file = c.in_ok-file.ensures in
    c.generated_is_accepted.ensures.faultless c.in_ok-file.file c.args.count (record { some = c.requires.some; few = c.requires.few; names = file.names; source = file.source })
