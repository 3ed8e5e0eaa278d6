-- What is proved of the faults of endpoint programs that are the same.
use Rattle.std.specs.Prelude.{ℕ, List}
use Rattle.endpoint_code.specs.declared.endpoints.Endpoints.{Endpoints}
use Rattle.endpoint_code.specs.Faults.{IsFaultless, AsksKnown, is_listed}
use Rattle.same_programs.specs.Programs.{IsCopy}

-- a copy of programs without a fault of names and calls has none
abbrev pub CopiesAreFaultless : Type 0
CopiesAreFaultless = (e e' : Endpoints) → IsCopy e e' → IsFaultless e'

-- so programs are a copy of their copy
abbrev pub CopiesAreMutual : Type 0
CopiesAreMutual = (e e' : Endpoints) → IsCopy e e' → IsCopy e' e

-- a copy asks no other host functions
abbrev pub CopiesAskKnown : Type 0
CopiesAskKnown = (words : List (List ℕ)) (e e' : Endpoints) → IsCopy e e' → AsksKnown (is_listed words e) e → AsksKnown (is_listed words e') e'
