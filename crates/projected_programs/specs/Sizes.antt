-- Numbers of 64 bits in endpoint code and in what host functions answer (this project's own).
use Rattle.std.specs.Prelude.{All}
use Rattle.std.specs.List.{AllByRecursion}
use Rattle.chor_base.specs.declared.value.Value.{Value}
use Rattle.chor_base.specs.declared.value.Value.TheVariants.{Int, Bool as Truth, Text, Part as Endpoint}
use Rattle.chor_base.specs.declared.meaning.Meaning.{Meaning}
use Rattle.chor_base.specs.declared.meaning.Meaning.TheVariants.{Exact, Within}
use Rattle.chor_base.specs.Expr.{Term, Constant, Variable, Unary, Binary}
use Rattle.chor_base.specs.Meaning.{Hosts}
use Rattle.endpoint_code.specs.declared.endpoints.Endpoints.{Endpoints}
use Rattle.endpoint_code.specs.Trees.{Action, Sends, Sets, Shows, Asks, CodeTree, Does, Offers, Tests, Calls, Ends, Arms, NoArms, Arm, code_at}
use Rattle.event_reader.specs.Known.{IsInt}

-- a number that is a literal has 64 bits with sign
abbrev pub IsValueSized : Value → Type 0
IsValueSized (Int z) = IsInt z
IsValueSized (Truth b) = Unit {0}
IsValueSized (Text t) = Unit {0}
IsValueSized (Endpoint s r) = Unit {0}

-- so for each literal of an expression
abbrev pub IsTermSized : Term → Type 0
IsTermSized (Constant v) = IsValueSized v
IsTermSized (Variable x) = Unit {0}
IsTermSized (Unary op e) = IsTermSized e
IsTermSized (Binary op e f) = IsTermSized e × IsTermSized f

-- so for each literal of an action
abbrev pub IsActionSized : Action → Type 0
IsActionSized (Sends k b e) = IsTermSized e
IsActionSized (Sets x e) = IsTermSized e
IsActionSized (Shows e) = IsTermSized e
IsActionSized (Asks x f a b) = IsTermSized a × IsTermSized b
IsActionSized _ = Unit {0}

-- so for each literal of a code
abbrev mutual
  pub IsCodeSized : CodeTree → Type 0
  IsCodeSized (Does a rest) = IsActionSized a × IsCodeSized rest
  IsCodeSized (Offers k a arms) = AreArmsSized arms
  IsCodeSized (Tests e first second) = IsTermSized e × IsCodeSized first × IsCodeSized second
  IsCodeSized (Calls f p ss) = Unit {0}
  IsCodeSized Ends = Unit {0}

  pub AreArmsSized : Arms → Type 0
  AreArmsSized NoArms = Unit {0}
  AreArmsSized (Arm l c rest) = IsCodeSized c × AreArmsSized rest

-- Each number that is a literal in a body of these programs has 64 bits with sign
pub record AreLiteralsSized (e : Endpoints) : Type 0 where
  pub procedures : All (λ p. IsCodeSized (code_at e.code.nodes p.body)) e.procedures
  pub services : All (λ s. IsCodeSized (code_at e.code.nodes s.body)) e.services
  pub processes : All (λ p. IsCodeSized (code_at e.code.nodes p.body)) e.processes

-- a range is one of numbers of 64 bits with sign
abbrev pub IsMeaningSized : Meaning → Type 0
IsMeaningSized (Exact op) = Unit {0}
IsMeaningSized (Within low high) = IsInt low × IsInt high

-- The ranges of all host functions are
abbrev pub AreMeaningsSized : Hosts → Type 0
AreMeaningsSized hosts = AllByRecursion (λ h. IsMeaningSized h.1) hosts
