-- When a file is guarded: a procedure passes a parameter on only after a statement that names it (rule U1).
use Rattle.std.specs.Prelude.{◌≡◌, true, false, List, [], ◌∷◌, ◌++◌, map, Contains}
use Rattle.chor_base.specs.declared.names.NameId.{NameId}
use Rattle.chor_base.specs.declared.fault.Fault.{Fault}
use Rattle.chor_base.specs.declared.rule.Rule.TheVariants.{U1}
use Rattle.chor_base.specs.Faults.{fault}
use Rattle.chor_tree.specs.declared.file.File.{File}
use Rattle.chor_tree.specs.declared.file.Proc.{Proc}
use Rattle.chor_tree.specs.declared.file.ProcParam.{ProcParam}
use Rattle.chor_tree.specs.Names.{is_among, names_in}
use Rattle.chor_tree.specs.Source.{Statement, Starts, Sends, Selects, Gives, Sets, Asks, Shows, Block, Then, Either, Calls, Ends, place_of, tails_of, body_of}

-- the processes that a statement names: all of a start, both of a communication, else the one at which it happens
abbrev pub named_in : Statement → List NameId
named_in (Starts c k active serve) = map (λ q. q.process.name) (active ++ serve)
named_in (Sends a x b y k) = a.process.name ∷ b.process.name ∷ []
named_in (Selects a b k l) = a.process.name ∷ b.process.name ∷ []
named_in (Gives a b k given) = a.process.name ∷ b.process.name ∷ []
named_in (Sets p y x) = p.name ∷ []
named_in (Asks p y h x z) = p.name ∷ []
named_in (Shows p x) = p.name ∷ []

-- those that a block's first statement or its condition names
abbrev pub named_by : Block → List NameId
named_by (Then place s next) = named_in s
named_by (Either place p x first second) = p.name ∷ []
named_by (Calls place g ps ks) = []
named_by (Ends place) = []

-- those that a call passes
abbrev pub passed_by : Block → List NameId
passed_by (Calls place g ps ks) = names_in ps
passed_by _ = []

-- x is a call in a block that passes p, where nothing before it on its path names p
pub data IsUnguardedCall (p : NameId) (x : Fault) : Block → Type 0 where
  here : {b : Block} → is_among (passed_by b) p ≡ true → fault U1 (place_of b) ≡ x → IsUnguardedCall p x b
  further : {b next : Block} → is_among (named_by b) p ≡ false → Contains (tails_of b) next → IsUnguardedCall p x next → IsUnguardedCall p x b

-- A call in a procedure's body that passes one of its parameters, where nothing before it on its path names that
pub record IsGuardFault (f : File) (x : Fault) : Type 0 where
  pub procedure : Proc
  pub param : ProcParam
  pub is_declared : Contains f.procs procedure
  pub is_param : Contains procedure.params param
  pub is_call : IsUnguardedCall param.name.name x (body_of f procedure.body)

-- No call passes a parameter that isn't named before
abbrev pub IsGuarded : File → Type 0
IsGuarded f = (x : Fault) → ¬ IsGuardFault f x
