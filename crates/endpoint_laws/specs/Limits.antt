-- Endpoint programs that keep the limits of endpoint files (this project's own).
use Rattle.std.specs.Prelude.{◌<◌, ◌≤◌, ◌+◌, ◌-◌, ℕ, length}
use Rattle.std.specs.List.{AllByRecursion}
use Rattle.chor_base.specs.Expr.{Term}
use Rattle.chor_lexer.specs.Spelling.{expr_symbols}
use Rattle.endpoint_code.specs.declared.code.CodeId.{CodeId}
use Rattle.endpoint_code.specs.declared.endpoints.Channel.{Channel}
use Rattle.endpoint_code.specs.declared.endpoints.Procedure.{Procedure}
use Rattle.endpoint_code.specs.declared.endpoints.Endpoints.{Endpoints}
use Rattle.endpoint_code.specs.Trees.{Action, Sends, Sets, Shows, Asks, CodeTree, Does, Offers, Tests, Calls, Ends, Arms, NoArms, Arm, code_at}

-- an expression of at most 255 tokens
abbrev pub IsShort : Endpoints → Term → Type 0
IsShort e t = length (expr_symbols e.names e.texts t) ≤ 255

abbrev pub IsActionShort : Endpoints → Action → Type 0
IsActionShort e (Sends k b t) = IsShort e t
IsActionShort e (Sets x t) = IsShort e t
IsActionShort e (Shows t) = IsShort e t
IsActionShort e (Asks x f l r) = IsShort e l × IsShort e r
IsActionShort e _ = Unit {0}

abbrev pub HasArm : Arms → Type 0
HasArm NoArms = ⊥
HasArm (Arm l c rest) = Unit {0}

-- The code has at most p nodes on each path, an arm at least in each branch, short expressions, and at most eight sessions in a call
abbrev mutual
  pub Fits : Endpoints → ℕ → CodeTree → Type 0
  Fits e p (Does a rest) = (0 < p) × IsActionShort e a × Fits e (p - 1) rest
  Fits e p (Offers k a arms) = (0 < p) × HasArm arms × EachFits e (p - 1) arms
  Fits e p (Tests t first second) = (0 < p) × IsShort e t × Fits e (p - 1) first × Fits e (p - 1) second
  Fits e p (Calls f x ss) = (0 < p) × (length ss ≤ 8)
  Fits e p Ends = 0 < p

  pub EachFits : Endpoints → ℕ → Arms → Type 0
  EachFits e p NoArms = Unit {0}
  EachFits e p (Arm l c rest) = Fits e p c × EachFits e p rest

abbrev pub IsBodyWithin : Endpoints → CodeId → Type 0
IsBodyWithin e id = Fits e 1024 (code_at e.code.nodes id)

-- a channel has an active role at least, and at most 16 roles
abbrev pub IsChannelWithin : Channel → Type 0
IsChannelWithin c = (0 < length c.active) × (length c.active + length c.serve ≤ 16)

abbrev pub IsProcedureWithin : Endpoints → Procedure → Type 0
IsProcedureWithin e p = (length p.sessions ≤ 8) × IsBodyWithin e p.body

-- The programs keep the limits of endpoint files
pub record AreWithin (e : Endpoints) : Type 0 where
  pub channels : AllByRecursion IsChannelWithin e.channels
  pub procedures : AllByRecursion (IsProcedureWithin e) e.procedures
  pub services : AllByRecursion (λ s. IsBodyWithin e s.body) e.services
  pub processes : AllByRecursion (λ p. IsBodyWithin e p.body) e.processes
  pub few : length e.processes ≤ 64
