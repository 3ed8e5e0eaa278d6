-- What is proved of the projection of a file without faults, and of the host functions that a file and its projection ask.
use Rattle.std.specs.Prelude.{ℕ, List}
use Rattle.chor_base.specs.declared.fault.Fault.{Fault}
use Rattle.chor_base.specs.Words.{AllDistinct}
use Rattle.chor_tree.specs.declared.file.File.{File}
use Rattle.chor_tree.specs.Names.{IsNameFault}
use Rattle.chor_host.specs.Functions.{Function, names_of, hosts_in, AreAnswerable}
use Rattle.typing_rules.specs.Guarded.{IsGuarded}
use Rattle.endpoint_code.specs.declared.endpoints.Endpoints.{Endpoints}
use Rattle.endpoint_code.specs.Faults.{IsFaultless, AsksKnown, is_listed}
use Rattle.well_formed.specs.Asked.{IsAnswered}
use Rattle.typed_sources.specs.Laws.{IsAccepted}
use Rattle.projection.specs.Projects.{Projects}

-- Whatever host functions there are that have answers, each that a file asks has one, if it has no fault of names with them
abbrev pub AskedFunctionsAnswer : Type 0
AskedFunctionsAnswer =
    (f : File) (functions : List Function) → AllDistinct f.names → AreAnswerable functions → ((x : Fault) → IsNameFault f (names_of functions) x → ⊥)
    → IsAnswered f (hosts_in f.names functions)

-- Each host function that the projection of a file asks has one of these names, where the file has no fault of names with them
abbrev pub ProjectionAsksKnown : Type 0
ProjectionAsksKnown =
    (f : File) (words : List (List ℕ)) → ((x : Fault) → IsNameFault f words x → ⊥)
    → (e : Endpoints) → Projects f e → AsksKnown (is_listed words e) e

-- The projection of a guarded file without faults of names, protocols and types has no fault of names and calls
abbrev pub ProjectionIsFaultless : Type 0
ProjectionIsFaultless = (f : File) (words : List (List ℕ)) → IsAccepted f words → IsGuarded f → (e : Endpoints) → Projects f e → IsFaultless e
