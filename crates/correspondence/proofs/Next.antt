-- What a process does next, on every path.
use Rattle.std.specs.Prelude.{ℕ, ◌≡◌, true, false, List, [], ◌∷◌, Some, None}
use Rattle.chor_base.specs.declared.names.NameId.{NameId}
use Rattle.chor_base.specs.Expr.{Term}
use Rattle.chor_semantics.specs.Choreography.{Ref, Live, ref_eq, Node, Choreography, Then, Either, Calls}
use Rattle.chor_semantics.specs.Sources.{Procedure}
use Rattle.chor_semantics.specs.Steps.{procedure_named, body_of}
use Rattle.well_formed.specs.Follows.{Joins, act_of}

-- on every path p's next node is one of which Q holds, or its own conditional on an expression of which T holds.
-- It is found after finitely many calls
pub data Next (procs : List Procedure) (p : Ref) (Q : Node → Type 0) (T : Term → Type 0) : Choreography → Type 0 where
  here : {n : Node} {c : Choreography} → Q n → Next procs p Q T (Then n c)
  skip : {n : Node} {c : Choreography} → act_of n p ≡ None → Next procs p Q T c → Next procs p Q T (Then n c)
  decides : {r : Ref} {x : Term} {c d : Choreography} → ref_eq p r ≡ true → T x → Next procs p Q T (Either r x c d)
  fork : {r : Ref} {x : Term} {c d : Choreography} → ref_eq p r ≡ false → Next procs p Q T c → Next procs p Q T d → Next procs p Q T (Either r x c d)
  calls : {f : NameId} {d : ℕ} {ps ss : List Ref} {c : Choreography} → body_of (procedure_named procs f) d ps ss ≡ Some c → Next procs p Q T c → Next procs p Q T (Calls f d ps ss)

-- so it is for what is wider
pub next_more : (procs : List Procedure) (p : Ref) {Q R : Node → Type 0} {T U : Term → Type 0} → ((n : Node) → Q n → R n) → ((y : Term) → T y → U y) → {c : Choreography} → Next procs p Q T c → Next procs p R U c
next_more procs p j k (here {n = n} w) = here (j n w)
next_more procs p j k (skip i w) = skip i (next_more procs p j k w)
next_more procs p j k (decides {x = y} i w) = decides i (k y w)
next_more procs p j k (fork i w z) = fork i (next_more procs p j k w) (next_more procs p j k z)
next_more procs p j k (calls i w) = calls i (next_more procs p j k w)

-- no conditional
abbrev pub NoTerm : Term → Type 0
NoTerm x = ⊥

-- a start of channel a, with p in role r
abbrev pub JoinsAt : NameId → NameId → Ref → Node → Type 0
JoinsAt a r p n = (s : Ref) × (act_of n p ≡ Some (Joins a r s))

-- each of these processes joins a next, in its role
abbrev pub AllNext : List Procedure → NameId → List (NameId × ℕ) → Choreography → Type 0
AllNext procs a [] c = Unit {0}
AllNext procs a ((r, p) ∷ ps) c = Next procs (Live p) (JoinsAt a r (Live p)) NoTerm c × AllNext procs a ps c

abbrev pub AllHere : NameId → List (NameId × ℕ) → Node → Type 0
AllHere a [] n = Unit {0}
AllHere a ((r, p) ∷ ps) n = JoinsAt a r (Live p) n × AllHere a ps n

abbrev pub AllSkip : List (NameId × ℕ) → Node → Type 0
AllSkip [] n = Unit {0}
AllSkip ((r, p) ∷ ps) n = (act_of n (Live p) ≡ None) × AllSkip ps n

-- the processes of a start aren't the one of a conditional
abbrev pub AllApart : List (NameId × ℕ) → Ref → Type 0
AllApart [] r = Unit {0}
AllApart ((a, p) ∷ ps) r = (ref_eq (Live p) r ≡ false) × AllApart ps r

-- all of them join in the same start, on every path
pub data Joint (procs : List Procedure) (a : NameId) (ps : List (NameId × ℕ)) : Choreography → Type 0 where
  at_start : {n : Node} {c : Choreography} → AllHere a ps n → Joint procs a ps (Then n c)
  past : {n : Node} {c : Choreography} → AllSkip ps n → Joint procs a ps c → Joint procs a ps (Then n c)
  in_both : {r : Ref} {x : Term} {c d : Choreography} → AllApart ps r → Joint procs a ps c → Joint procs a ps d → Joint procs a ps (Either r x c d)
  in_body : {f : NameId} {k : ℕ} {qs ss : List Ref} {c : Choreography} → body_of (procedure_named procs f) k qs ss ≡ Some c → Joint procs a ps c → Joint procs a ps (Calls f k qs ss)
