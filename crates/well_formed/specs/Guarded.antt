-- Guarded choreographies: a process acts before a call passes it.
use Rattle.std.specs.Prelude.{ℕ, ◌≡◌, true, false, List, Some}
use Rattle.chor_base.specs.declared.names.NameId.{NameId}
use Rattle.chor_semantics.specs.Choreography.{Ref, Named, ref_eq, among, named_in, Choreography, Then, Either, Calls, Ends}
use Rattle.chor_semantics.specs.Sources.{Procedure}
use Rattle.chor_semantics.specs.Steps.{procedure_named}
use Rattle.well_formed.specs.WellFormed.{names_in_scope}

-- on each path p is named before a call that passes it
abbrev pub IsGuardedFor : Ref → Choreography → Type 0
IsGuardedFor p (Then n rest) = among p (named_in n) ≡ false → IsGuardedFor p rest
IsGuardedFor p (Either r x c d) = ref_eq p r ≡ false → IsGuardedFor p c × IsGuardedFor p d
IsGuardedFor p (Calls f d ps ss) = among p ps ≡ false
IsGuardedFor p Ends = Unit {0}

-- each parameter of each procedure is guarded in the procedure's body
abbrev pub AllGuarded : List Procedure → Type 0
AllGuarded procs = (f : NameId) (q : Procedure) → procedure_named procs f ≡ Some q → (x : ℕ) → among (Named x 0) (names_in_scope q.params) ≡ true → IsGuardedFor (Named x 0) q.body
