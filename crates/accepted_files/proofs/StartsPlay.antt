-- The services of each start play their roles in what follows it.
use Rattle.std.specs.Prelude.{ℕ, ◌≡◌, ◌==◌, ◌&&◌, Bool, true, false, List, [], ◌∷◌, Some, None, if◌then◌else◌}
use Rattle.chor_base.specs.declared.names.NameId.{NameId}
use Rattle.chor_tree.specs.declared.file.File.{File}
use Rattle.chor_tree.specs.declared.file.Proc.{Proc}
use Rattle.chor_semantics.specs.Choreography.{Ref, Named, ref_eq, Node, Starts, Communicates, InTransit, Alone, Choreography, Then, Either, Calls, Ends}
use Rattle.projection.specs.Codes.{proc_named}
use Rattle.projection.specs.Projects.{serving, service_roles, started_services, body_at}
use Rattle.accepted_files.proofs.Plays.{Plays}
use Rattle.accepted_files.specs.PlayedRoles.{with_role, process_name}
use Rattle.accepted_files.specs.FreeSessions.{IsFree}
use Rattle.well_formed.proofs.Absent.{IsNoDeeper}

abbrev pub has_pair : NameId → NameId → List (NameId × NameId) → Bool
has_pair a r [] = false
has_pair a r (z ∷ zs) = if (z.0.0 == a.0) && (z.1.0 == r.0) then true else has_pair a r zs

-- each new process is its role's, of a channel with that service role, and plays that role in what follows
abbrev pub ServicesPlay : File → NameId → ℕ → List (ℕ × NameId) → Choreography → List (ℕ × NameId) → Type 0
ServicesPlay f c k all rest [] = Unit {0}
ServicesPlay f c k all rest (s ∷ ss) =
    (serving s.1 all ≡ Some (process_name s.0))
    × (has_pair c s.1 (service_roles (started_services f)) ≡ true)
    × Plays f.procs (process_name s.0) rest (with_role (λ y. None) k (Some s.1))
    × ServicesPlay f c k all rest ss

abbrev pub StartPlays : File → Node → Choreography → Type 0
StartPlays f (Starts c e k act srv) rest = IsFree k c rest × ServicesPlay f c k srv rest srv
StartPlays f (Communicates s p a q b w) rest = Unit {0}
StartPlays f (InTransit s a b m q) rest = Unit {0}
StartPlays f (Alone p o) rest = Unit {0}

abbrev pub StartsPlay : File → Choreography → Type 0
StartsPlay f (Then n rest) = StartPlays f n rest × StartsPlay f rest
StartsPlay f (Either p x c d) = StartsPlay f c × StartsPlay f d
StartsPlay f (Calls h d ps ss) = Unit {0}
StartsPlay f Ends = Unit {0}

abbrev pub AllStartsPlay : File → Type 0
AllStartsPlay f = (h : NameId) (x : Proc) → proc_named f.procs h ≡ Some x → StartsPlay f (body_at f x.body)

-- a process at depth d stands only for its own name
abbrev pub IsOwn : ℕ → (ℕ → Ref) → Type 0
IsOwn d F = (x y : ℕ) → (x == y) ≡ false → ref_eq (Named x d) (F y) ≡ false

abbrev pub AreShallow : ℕ → List Ref → Type 0
AreShallow d [] = Unit {0}
AreShallow d (r ∷ rs) = IsNoDeeper d r × AreShallow d rs
