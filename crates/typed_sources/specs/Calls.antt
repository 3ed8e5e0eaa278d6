-- What a call asks where a choreography of a typed source runs.
use Rattle.std.specs.Prelude.{ℕ, ◌≡◌, ◌<◌, ◌⊎◌, ◌==◌, true, false, List, [], ◌∷◌, length, Option, Some, None, Contains, if◌then◌else◌}
use Rattle.chor_base.specs.declared.names.NameId.{NameId}
use Rattle.chor_base.specs.declared.value.Sort.{Sort}
use Rattle.chor_tree.specs.declared.file.File.{File}
use Rattle.chor_tree.specs.declared.file.Named.{Named as Written}
use Rattle.chor_tree.specs.declared.file.Proc.{Proc}
use Rattle.chor_tree.specs.declared.file.ProcParam.{ProcParam}
use Rattle.chor_tree.specs.declared.file.SessionParam.{SessionParam}
use Rattle.chor_tree.specs.Names.{procedure_of}
use Rattle.chor_semantics.specs.Choreography.{Ref, Named, among}
use Rattle.typed_sources.specs.Context.{Context}
use Rattle.typed_sources.specs.Typing.{AllKnown, HasEnded}
use Rattle.typed_sources.specs.Stands.{states_in, Reached}

-- what stands for a parameter
abbrev pub argument : List ProcParam → List Ref → NameId → Option Ref
argument [] ps x = None
argument (q ∷ qs) [] x = None
argument (q ∷ qs) (p ∷ ps) x = if q.name.name.0 == x.0 then Some p else argument qs ps x

-- the variables of each parameter are set at its argument
abbrev pub AreSet : Context → List ProcParam → List Ref → Type 0
AreSet e [] ps = Unit {0}
AreSet e (q ∷ qs) [] = Unit {0}
AreSet e (q ∷ qs) (p ∷ ps) = ((v : Written × Sort) → Contains q.vars v → e.sorts p v.0.name ≡ Some v.1) × AreSet e qs ps

-- a session is as its parameter asks
pub record IsAsDeclared (f : File) (e : Context) (qs : List ProcParam) (ps : List Ref) (q : SessionParam) (s : Ref) : Type 0 where
  pub protocol : e.protocol s ≡ Some q.protocol.name
  pub reached : Reached (states_in f q.protocol.name) (e.done s) q.state.name
  pub holders : (h : Written × Written) → Contains q.holders h → (r : Ref) × (argument qs ps h.1.name ≡ Some r) × (e.holder s h.0.name ≡ Some r)

-- each of them is
abbrev pub AreAsDeclared : File → Context → List ProcParam → List Ref → List SessionParam → List Ref → Type 0
AreAsDeclared f e qs ps [] ss = Unit {0}
AreAsDeclared f e qs ps (q ∷ rs) [] = Unit {0}
AreAsDeclared f e qs ps (q ∷ rs) (s ∷ ss) = IsAsDeclared f e qs ps q s × AreAsDeclared f e qs ps rs ss

-- none stands twice
abbrev pub AllDiffer : List Ref → Type 0
AllDiffer [] = Unit {0}
AllDiffer (r ∷ rs) = (among r rs ≡ false) × AllDiffer rs

-- What is asked at a call: of the processes and sessions that are passed, and of the sessions that aren't
pub record IsTypedCall (f : File) (e : Context) (h : NameId) (k : ℕ) (ps ss : List Ref) : Type 0 where
  pub procedure : Proc
  pub is : procedure_of f h ≡ Some procedure
  pub many : length ps ≡ length procedure.params
  pub many_sessions : length ss ≡ length procedure.sessions
  pub known : AllKnown e.known ps
  pub differ : AllDiffer ps
  pub sessions_differ : AllDiffer ss
  pub are_set : AreSet e procedure.params ps
  pub fit : AreAsDeclared f e procedure.params ps procedure.sessions ss
  pub others : (t : Ref) (p : NameId) → e.protocol t ≡ Some p → (among t ss ≡ true) ⊎ HasEnded (states_in f p) (e.done t)
  -- names that deeper calls bind aren't in scope
  pub deeper : (x d : ℕ) → k < d → (e.known (Named x d) ≡ false) × (e.protocol (Named x d) ≡ None)
