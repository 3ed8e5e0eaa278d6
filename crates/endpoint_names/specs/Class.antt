-- The rules of an endpoint file beyond its grammar: names, and then how procedures begin. The first with a fault decides
-- (this project's own).
use Rattle.std.specs.Prelude.{◌≡◌, ◌⊎◌, List, [], ◌∷◌, Contains}
use Rattle.std.specs.List.{flat_map}
use Rattle.chor_base.specs.declared.rule.Rule.TheVariants.{E3}
use Rattle.chor_base.specs.declared.rule.Denied.{Denied}
use Rattle.chor_base.specs.declared.rule.Denied.TheVariants.{Refused, Memory}
use Rattle.chor_base.specs.declared.fault.Fault.{Fault}
use Rattle.chor_base.specs.Faults.{fault, IsDenial}
use Rattle.endpoint_reader.specs.declared.written.Written.{Written}
use Rattle.endpoint_names.specs.Bodies.{Body, Calls, body_at}
use Rattle.endpoint_names.specs.Faults.{Setting, name_faults}

-- E3, at the call with which a body begins
abbrev pub opening_faults : Body → List Fault
opening_faults (Calls p s) = fault E3 p ∷ []
opening_faults _ = []

-- the calls with which bodies of procedures begin (rule E3)
abbrev pub begin_faults : Written → List Fault
begin_faults w = flat_map (λ p. opening_faults (body_at w.lines.items p.body)) w.procedures

-- No rule is violated
pub record IsFaultless (s : Setting) : Type 0 where
  pub names : name_faults s ≡ []
  pub begins : begin_faults s.written ≡ []

-- A refusal tells the first fault of names, or, where there is none, the first of how procedures begin. Want of memory tells nothing
abbrev pub IsBroken : Setting → Denied → Type 0
IsBroken s (Refused r) =
    IsDenial (Contains (name_faults s)) (Refused r)
    ⊎ ((name_faults s ≡ []) × IsDenial (Contains (begin_faults s.written)) (Refused r))
IsBroken s Memory = Unit {0}
