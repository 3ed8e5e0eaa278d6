-- Lists of names as sets.
use Rattle.std.specs.Prelude.{◌≡◌, ◌++◌, ◌∷◌, [], List, if◌then◌else◌, map}
use Rattle.chor_base.specs.declared.names.NameId.{NameId}
use Rattle.chor_tree.specs.declared.file.Named.{Named}
use Rattle.chor_tree.specs.declared.tree.Part.{Part}
use Rattle.chor_tree.specs.Names.{is_among, Scope}

-- the names with this one, which goes last where it isn't among them
abbrev pub with_name : List NameId → NameId → List NameId
with_name xs x = if is_among xs x then xs else xs ++ x ∷ []

-- two lists have the same members
abbrev pub AreAlike : List NameId → List NameId → Type 0
AreAlike xs ys = (x : NameId) → is_among xs x ≡ is_among ys x

-- the same names are in scope
pub record IsSameScope (s t : Scope) : Type 0 where
  pub processes : AreAlike s.processes t.processes
  pub sessions : AreAlike s.sessions t.sessions

-- the second list is the first with more behind it
abbrev pub Grows : List NameId → List NameId → Type 0
Grows xs ys = (more : List NameId) × (ys ≡ xs ++ more)

-- what is bound in the first scope is bound in the second, before all else
pub record BeginsWith (s t : Scope) : Type 0 where
  pub processes : Grows s.processes t.processes
  pub sessions : Grows s.sessions t.sessions

abbrev pub scope_of : List NameId → List NameId → Scope
scope_of ps ks = record { processes = ps; sessions = ks }

-- what is in scope after a start of this session with these new processes
abbrev pub bound_in : Scope → Named → List Part → Scope
bound_in s k serve = scope_of (s.processes ++ map (λ q. q.process.name) serve) (s.sessions ++ k.name ∷ [])
