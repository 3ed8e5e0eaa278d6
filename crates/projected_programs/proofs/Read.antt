-- The text of programs without a fault is not refused, and so it is that of programs.
use Rattle.std.proofs.Common.{inl, inr, ◌≤◌, ℕ, List, length}
use Rattle.std.specs.Prelude.{◌^◌}
use Rattle.endpoint_check.specs.Programs.{AreProgramsOf}
use Rattle.endpoint_code.specs.declared.endpoints.Endpoints.{Endpoints}
use Rattle.endpoint_text.specs.Text.{endpoints_text}
use Rattle.projected_programs.specs.Laws.{AreProgramsOrRefused}
use Rattle.endpoint_laws.proofs.Whole.{text_is_taken}
use Rattle.projected_programs.specs.ReadLaws.{TextIsOfPrograms}

pub text_is_of_programs : ((hosts : List (List ℕ)) (bytes : List ℕ) → length bytes ≤ 2 ^ 24 → AreProgramsOrRefused hosts bytes) → TextIsOfPrograms
text_is_of_programs one_or_other words e h fine asks small = go (one_or_other words (endpoints_text e) small)
  where
    go : AreProgramsOrRefused words (endpoints_text e) → (e' : Endpoints) × AreProgramsOf words (endpoints_text e) e'
    go (inl read) = read
    go (inr refused) = absurd (text_is_taken words e refused.0 h fine asks refused.1)
