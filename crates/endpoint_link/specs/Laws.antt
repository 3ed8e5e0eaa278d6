-- What is proved of linked endpoint programs.
use Rattle.endpoint_code.specs.declared.endpoints.Endpoints.{Endpoints}
use Rattle.endpoint_code.specs.AboveUnits.{AreUnitsAbove}
use Rattle.endpoint_code.specs.Faults.{IsFaultless}
use Rattle.same_programs.specs.Words.{HasDistinctWords}
use Rattle.endpoint_link.specs.Linked.{IsLinked}

-- Linked programs without a fault are, unit by unit, above the base, where no name and no text is twice in their tables
abbrev pub LinkedIsAbove : Type 0
LinkedIsAbove = (e g r : Endpoints) → IsLinked e g r → IsFaultless r → HasDistinctWords r → AreUnitsAbove e r

-- Linked programs have no fault of names or calls where neither the base nor the given ones have
abbrev pub LinkedIsFaultless : Type 0
LinkedIsFaultless = (e g r : Endpoints) → IsLinked e g r → HasDistinctWords g → HasDistinctWords r → IsFaultless e → IsFaultless g → IsFaultless r
