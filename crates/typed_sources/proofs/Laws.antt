-- What holds of each run of a file without faults of names, protocols and types.
use Rattle.typed_sources.specs.Laws.{RunsConform, EndedRunsEnd, NeverStuck}
use Rattle.typed_sources.proofs.Accepted.{good, main_faultless, procedures_keep}
use Rattle.typed_sources.proofs.Files.{file_conforms, file_ends, file_goes}
use Rattle.typed_sources.proofs.Guarded.{bodies_guarded}

pub conform : RunsConform
conform f words ok hosts capacity h (last, run) =
    file_conforms f (good f words ok.names ok.protocols ok.types) (procedures_keep f words ok.names ok.protocols ok.types) (main_faultless f words ok.names ok.protocols ok.types) hosts capacity h last run

pub end : EndedRunsEnd
end f words ok hosts capacity h (last, run, ended) =
    file_ends f (good f words ok.names ok.protocols ok.types) (procedures_keep f words ok.names ok.protocols ok.types) (main_faultless f words ok.names ok.protocols ok.types) hosts capacity h last run ended

pub goes : NeverStuck
goes f words ok guarded hosts answered capacity h last run =
    let keep = procedures_keep f words ok.names ok.protocols ok.types in
    file_goes f (good f words ok.names ok.protocols ok.types) keep (main_faultless f words ok.names ok.protocols ok.types) hosts
    (bodies_guarded f guarded keep.bodies) answered capacity h last run
