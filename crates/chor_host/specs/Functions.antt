-- What contracts see of host functions. X and g stand for what a function pointer calls.
use Rattle.std.specs.Prelude.{ℕ, ℤ, Bool, List, [], ◌∷◌, ◌++◌, map, Option, Some, None, position, bytes_eq, if◌then◌else◌, All}
use Rattle.std.specs.List.{list_any}
use denote.Param.Members.{Mut}
use Rattle.chor_base.specs.declared.meaning.Meaning.{Meaning}
use Rattle.chor_base.specs.Meaning.{Hosts, IsAllowed}
use Rattle.chor_host.specs.declared.function.HostFn.{HostFn}
use Rattle.chor_host.specs.Answers.{IsSized}

-- a host function by its name, with what it may answer
abbrev pub Function : Type 0
Function = List ℕ × Meaning

-- the names of host functions
abbrev pub names_of : List Function → List (List ℕ)
names_of fs = map (λ f. f.0) fs

-- one of the functions has this name
abbrev pub is_named : List Function → List ℕ → Bool
is_named fs w = list_any (bytes_eq w) (names_of fs)

-- what the first function of this name may answer
abbrev pub meaning_of : List Function → List ℕ → Option Meaning
meaning_of [] w = None
meaning_of (f ∷ fs) w = if bytes_eq w f.0 then Some f.1 else meaning_of fs w

-- the name of a host function, and what it may answer
abbrev pub function_of : {X : Type 0} {g : Mut X (ℤ × (ℤ × Unit {0})) ℤ} → HostFn X g → Function
function_of f = (f.name, f.meaning)

-- what a function with this meaning gives, where its name has a number or none
abbrev pub numbered : Option ℕ → Meaning → Hosts
numbered None m = []
numbered (Some n) m = (record { 0 = n }, m) ∷ []

-- The functions by the numbers that their names have in a table of names. No program can call one whose name isn't there
abbrev pub hosts_in : List (List ℕ) → List Function → Hosts
hosts_in names [] = []
hosts_in names (f ∷ fs) = numbered (position (bytes_eq f.0) names) f.1 ++ hosts_in names fs

-- Each of these functions has an answer that its meaning allows, to any two numbers
abbrev pub AreAnswerable : List Function → Type 0
AreAnswerable functions = All (λ f. (a b : ℤ) → (v : ℤ) × IsAllowed f.1 a b v) functions

-- The ends of the ranges of these functions are numbers of 64 bits with sign
abbrev pub AreSized : List Function → Type 0
AreSized functions = All (λ f. IsSized f.1) functions
