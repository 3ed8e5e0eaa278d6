-- A process that a choreography doesn't name, also not in calls.
use Rattle.std.specs.Prelude.{ℕ, ◌≡◌, ◌≤◌, false}
use Rattle.chor_semantics.specs.Choreography.{Ref, Live, Named, ref_eq, among, named_in, Choreography, Then, Either, Calls, Ends}

-- a number, or a name that is no deeper
abbrev pub IsNoDeeper : ℕ → Ref → Type 0
IsNoDeeper d (Live n) = Unit {0}
IsNoDeeper d (Named x c) = c ≤ d

-- no node and no call names p, and no call stands deeper than its name
abbrev pub IsAbsent : Ref → Choreography → Type 0
IsAbsent p (Then n rest) = (among p (named_in n) ≡ false) × IsAbsent p rest
IsAbsent p (Either r x c d) = (ref_eq p r ≡ false) × IsAbsent p c × IsAbsent p d
IsAbsent p (Calls f d ps ss) = (among p ps ≡ false) × IsNoDeeper d p
IsAbsent p Ends = Unit {0}
