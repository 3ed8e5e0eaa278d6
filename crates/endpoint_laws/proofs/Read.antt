-- Programs that are read.
use Rattle.std.proofs.Common.{ℕ, List}
use Rattle.endpoint_code.specs.declared.endpoints.Endpoints.{Endpoints}
use Rattle.endpoint_code.specs.Faults.{IsFaultlessWith}
use Rattle.endpoint_check.specs.Programs.{AreProgramsOf}
use Rattle.endpoint_laws.proofs.Asked.{made_asks_known}
use Rattle.endpoint_laws.proofs.Files.{made_is_faultless}

-- They have no fault
pub read_is_faultless : (words : List (List ℕ)) (bytes : List ℕ) (e : Endpoints) → AreProgramsOf words bytes e → IsFaultlessWith words e
read_is_faultless words bytes e p = record {
  faultless = made_is_faultless p.written p.input.names.now p.input.texts.now words e p.made p.fine.faultless;
  hosts = made_asks_known p.written p.input.names.now p.input.texts.now words e p.made p.fine.faultless;
}
