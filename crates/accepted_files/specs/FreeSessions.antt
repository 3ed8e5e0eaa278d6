-- A choreography in which neither of two session names gets in the way of the other (this project's own).
use Rattle.std.specs.Prelude.{ℕ, ◌≡◌, ◌==◌, false}
use Rattle.chor_base.specs.declared.names.NameId.{NameId}
use Rattle.chor_semantics.specs.Choreography.{Starts, Communicates, InTransit, Alone, Choreography, Then, Either, Calls, Ends}
use Rattle.projection.specs.Renamed.{IsOther, AreOther, IsOtherContent}

-- no session of it has the name a, and no start binds k
abbrev pub IsFree : ℕ → NameId → Choreography → Type 0
IsFree k a (Then (Starts c e h act srv) rest) = ((h == k) ≡ false) × ((h == a.0) ≡ false) × IsFree k a rest
IsFree k a (Then (Communicates s p x q y w) rest) = IsOther a s × IsOtherContent a w × IsFree k a rest
IsFree k a (Then (InTransit s x y m q) rest) = IsFree k a rest
IsFree k a (Then (Alone p o) rest) = IsFree k a rest
IsFree k a (Either p v c d) = IsFree k a c × IsFree k a d
IsFree k a (Calls h e ps ss) = AreOther a ss
IsFree k a Ends = Unit {0}
