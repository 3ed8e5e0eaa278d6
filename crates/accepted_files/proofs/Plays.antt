-- A process plays its roles along a choreography: it holds each role that it plays, and all names are in order.
use Rattle.std.specs.Prelude.{ℕ, ◌≡◌, ◌==◌, ◌<◌, length, true, false, List, [], ◌∷◌, Option, Some, None, slice_get}
use Rattle.chor_base.specs.declared.names.NameId.{NameId}
use Rattle.chor_semantics.specs.Choreography.{Ref, Live, Named, ref_eq, Content, OfValue, OfLabel, OfPart, Starts, Communicates, InTransit, Alone, Choreography, Then, Either, Calls, Ends}
use Rattle.chor_tree.specs.declared.file.Named.{Named as Written}
use Rattle.chor_tree.specs.declared.file.Proc.{Proc}
use Rattle.chor_tree.specs.declared.file.ProcParam.{ProcParam}
use Rattle.chor_tree.specs.declared.file.SessionParam.{SessionParam}
use Rattle.chor_tree.specs.declared.tree.Node.{Node as TreeNode}
use Rattle.chor_semantics.specs.Sources.{tree_in, trees_of}
use Rattle.projection.specs.Codes.{is_named, role_in, proc_named, param_for, holds}
use Rattle.well_formed.specs.Follows.{SessionMap}
use Rattle.endpoint_code.specs.declared.code.CodeId.{CodeId}
use Rattle.endpoint_code.specs.declared.endpoints.Endpoints.{Endpoints}
use Rattle.endpoint_code.specs.Trees.{CodeTree, code_at}
use Rattle.endpoint_code.specs.Above.{IsAbove}
use Rattle.endpoint_code.specs.Labels.{HasDistinctLabels}
use Rattle.chor_tree.specs.declared.file.File.{File}
use Rattle.projection.specs.Projects.{body_at}
use Rattle.accepted_files.specs.PlayedRoles.{has_name, roles_of, params_of, Roles, with_role, number, TakesPart, holder_role}

-- a name
abbrev pub IsName : Ref → Type 0
IsName (Named k d) = Unit {0}
IsName (Live n) = ⊥

-- the active processes of a start are names
abbrev pub AreNames : List (Ref × NameId) → Type 0
AreNames [] = Unit {0}
AreNames (q ∷ qs) = IsName q.0 × AreNames qs

-- the session of an endpoint that is sent is a name
abbrev pub IsNamedContent : Content → Type 0
IsNamedContent (OfValue e x) = Unit {0}
IsNamedContent (OfLabel l) = Unit {0}
IsNamedContent (OfPart h r) = IsName h

-- a start's new processes are others than r
abbrev pub OthersNew : NameId → List (ℕ × NameId) → Type 0
OthersNew r [] = Unit {0}
OthersNew r (s ∷ ss) = ((r.0 == s.0) ≡ false) × OthersNew r ss

-- r is passed for p, and for no other parameter
abbrev pub IsPassedFor : NameId → NameId → List ProcParam → List Ref → Type 0
IsPassedFor r p (x ∷ xs) (q ∷ qs) = IsName q × (is_named r q ≡ (p.0 == x.name.name.0)) × IsPassedFor r p xs qs
IsPassedFor r p [] [] = Unit {0}
IsPassedFor r p [] (q ∷ qs) = ⊥
IsPassedFor r p (x ∷ xs) [] = ⊥

-- r isn't passed
abbrev pub IsNotPassed : NameId → List Ref → Type 0
IsNotPassed r [] = Unit {0}
IsNotPassed r (q ∷ qs) = IsName q × (is_named r q ≡ false) × IsNotPassed r qs

-- the passed sessions are as many as the parameters, and it holds in each the role that p holds
abbrev pub PassesRoles : Roles → NameId → List SessionParam → List Ref → Type 0
PassesRoles g p (k ∷ ks) (s ∷ ss) = IsName s × (holds p k.holders ≡ true → g (number s) ≡ holder_role p k.holders) × PassesRoles g p ks ss
PassesRoles g p [] [] = Unit {0}
PassesRoles g p [] (s ∷ ss) = ⊥
PassesRoles g p (k ∷ ks) [] = ⊥

-- it is passed for p, or isn't passed
abbrev pub PlaysPassed : NameId → List Ref → List Ref → Roles → Proc → Option NameId → Type 0
PlaysPassed r ps ss g h None = IsNotPassed r ps
PlaysPassed r ps ss g h (Some p) = IsPassedFor r p h.params ps × PassesRoles g p h.sessions ss

-- at a call
abbrev pub PlaysCall : NameId → List Ref → List Ref → Roles → Option Proc → Type 0
PlaysCall r ps ss g None = ⊥
PlaysCall r ps ss g (Some h) = PlaysPassed r ps ss g h (param_for r h.params ps)

-- along the choreography r plays the roles that it holds
abbrev pub Plays : List Proc → NameId → Choreography → Roles → Type 0
Plays fs r (Then (Starts c e k act srv) rest) = λ g. AreNames act × OthersNew r srv × Plays fs r rest (with_role g k (role_in r act))
Plays fs r (Then (Communicates s p a q b w) rest) = λ g. IsName s × IsName p × IsName q × IsNamedContent w × TakesPart (is_named r p) (is_named r q) g s a b w (Plays fs r rest)
Plays fs r (Then (InTransit s a b m q) rest) = λ g. ⊥
Plays fs r (Then (Alone p o) rest) = λ g. IsName p × Plays fs r rest g
Plays fs r (Either p x c e) = λ g. IsName p × Plays fs r c g × Plays fs r e g
Plays fs r (Calls f e ps ss) = λ g. PlaysCall r ps ss g (proc_named fs f)
Plays fs r Ends = λ g. Unit {0}

-- in each procedure, each of its parameters
abbrev pub ProceduresPlay : List TreeNode → List Proc → Type 0
ProceduresPlay nodes fs = (h p : NameId) (x : Proc) → proc_named fs h ≡ Some x → has_name p (params_of x) ≡ true → Plays fs p (tree_in (trees_of nodes) x.body) (roles_of p x.sessions)

-- a name that is bound at this depth stands for P only if it is r
abbrev pub IsAlike : NameId → Ref → ℕ → Type 0
IsAlike r P d = (x : ℕ) → (r.0 == x) ≡ false → ref_eq P (Named x d) ≡ false

-- where names stand for these, the process is P and no other is
abbrev pub TellsApart : NameId → Ref → (ℕ → Ref) → Type 0
TellsApart r P f = (x : ℕ) → ref_eq P (f x) ≡ (r.0 == x)

-- the session map has at least the sessions that it holds a role in
abbrev pub Knows : Roles → SessionMap → (ℕ → Ref) → Type 0
Knows g m s = (y : ℕ) (t : NameId) → g y ≡ Some t → m y ≡ Some (s y, t)

-- the code at q of e is above this tree
pub record IsOver (e : Endpoints) (q : CodeId) (t : CodeTree) : Type 0 where
  pub inside : q.0 < length e.code.nodes
  pub above : IsAbove (code_at e.code.nodes q) t
  pub distinct : HasDistinctLabels (code_at e.code.nodes q)

-- none of these has the name
abbrev pub AreOthersNamed : Written → List Written → Type 0
AreOthersNamed w [] = Unit {0}
AreOthersNamed w (v ∷ vs) = ((w.name.0 == v.name.0) ≡ false) × AreOthersNamed w vs

-- no two have one name
abbrev pub AreNamedOnce : List Written → Type 0
AreNamedOnce [] = Unit {0}
AreNamedOnce (w ∷ ws) = AreOthersNamed w ws × AreNamedOnce ws

-- each process of main, which has no session at first
abbrev pub MainPlays : File → Type 0
MainPlays f = (p : ℕ) (w : Written) → slice_get f.processes p ≡ Some w → Plays f.procs w.name (body_at f f.body) (λ y. None)
