-- What code does that is above the code of others.
use Rattle.std.specs.Prelude.{ℕ, List}
use Rattle.chor_semantics.specs.Choreography.{Ref, Choreography}
use Rattle.chor_semantics.specs.Sources.{Procedure}
use Rattle.endpoint_code.specs.declared.code.CodeId.{CodeId}
use Rattle.endpoint_code.specs.declared.endpoints.Endpoints.{Endpoints}
use Rattle.endpoint_code.specs.Covers.{IsCovered, AreUnitsCovered}
use Rattle.well_formed.specs.Follows.{SessionMap, Follows}

-- code above code that follows a choreography at process p follows it too, with the same fuel, where also the procedures'
-- codes are above
abbrev pub AboveFollows : Type 0
AboveFollows =
    (e e' : Endpoints) (procs : List Procedure) → AreUnitsCovered e e'
    → (n : ℕ) (p : Ref) (c : Choreography) (q q' : CodeId) (m : SessionMap) → IsCovered e e' q q' → Follows e procs n p c q m → Follows e' procs n p c q' m
