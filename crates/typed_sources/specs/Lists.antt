-- The places of the process parameters that hold the listed roles of a procedure's sessions, as its head says.
use Rattle.std.specs.Prelude.{ℕ, suc, ◌==◌, List, [], ◌∷◌, Option, Some, None, slice_get, if◌then◌else◌}
use Rattle.chor_base.specs.declared.names.NameId.{NameId}
use Rattle.chor_tree.specs.declared.file.File.{File}
use Rattle.chor_tree.specs.declared.file.Named.{Named as Written}
use Rattle.chor_tree.specs.declared.file.Proc.{Proc}
use Rattle.chor_tree.specs.declared.file.ProcParam.{ProcParam}
use Rattle.chor_tree.specs.declared.file.SessionParam.{SessionParam}
use Rattle.chor_tree.specs.Names.{procedure_of}
use Rattle.well_formed.specs.Holders.{ListedHolders}

abbrev pub one_more : Option ℕ → Option ℕ
one_more None = None
one_more (Some j) = Some (suc j)

-- the place of a process parameter
abbrev pub place_of : List ProcParam → NameId → Option ℕ
place_of [] x = None
place_of (q ∷ qs) x = if q.name.name.0 == x.0 then Some 0 else one_more (place_of qs x)

-- the process that a session parameter lists for a role
abbrev pub listed_for : List (Written × Written) → NameId → Option NameId
listed_for [] r = None
listed_for (h ∷ hs) r = if h.0.name.0 == r.0 then Some h.1.name else listed_for hs r

abbrev pub place_for : List ProcParam → Option NameId → Option ℕ
place_for qs None = None
place_for qs (Some x) = place_of qs x

abbrev pub listed_in : List ProcParam → Option SessionParam → NameId → Option ℕ
listed_in qs None r = None
listed_in qs (Some s) r = place_for qs (listed_for s.holders r)

abbrev pub listed_by : Option Proc → ℕ → NameId → Option ℕ
listed_by None i r = None
listed_by (Some p) i r = listed_in p.params (slice_get p.sessions i) r

-- for each procedure, session parameter and role: the place of the process parameter that is listed as its holder
abbrev pub lists_of : File → ListedHolders
lists_of f h = listed_by (procedure_of f h)
