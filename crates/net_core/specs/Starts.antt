-- The partners of a start.
use Rattle.std.specs.Prelude.{ℕ, ◌≡◌, ◌==◌, List, [], ◌∷◌, Option, Some, if◌then◌else◌}
use Rattle.chor_base.specs.declared.names.NameId.{NameId}
use Rattle.endpoint_code.specs.declared.endpoints.Endpoints.{Endpoints}
use Rattle.endpoint_code.specs.Network.{Machine}
use Rattle.endpoint_code.specs.Scheduled.{least_joiner}

-- the process that takes a part in a start that p makes in its own role
abbrev pub partner_for : Endpoints → List Machine → NameId → ℕ → NameId → NameId → Option ℕ
partner_for e ms c p own r = if r.0 == own.0 then Some p else least_joiner e 0 ms c r

-- each role has its process
pub data IsCast (e : Endpoints) (ms : List Machine) (c : NameId) (p : ℕ) (own : NameId) : List NameId → List (NameId × ℕ) → Type 0 where
  no_role : IsCast e ms c p own [] []
  one_role : {r : NameId} {q : ℕ} {rs : List NameId} {ps : List (NameId × ℕ)} → partner_for e ms c p own r ≡ Some q → IsCast e ms c p own rs ps → IsCast e ms c p own (r ∷ rs) ((r, q) ∷ ps)
