-- Small files whose names have one fault, with the place that was counted by hand.
use Rattle.std.proofs.Common.{◌≡◌, ℕ, List, [], ◌∷◌, refl}
use Rattle.chor_base.specs.declared.names.NameId.{NameId}
use Rattle.chor_base.specs.declared.expr.Expr.{Expr}
use Rattle.chor_base.specs.declared.rule.Rule.TheVariants.{N1, N2, N3}
use Rattle.chor_base.specs.declared.rule.Place.{Place}
use Rattle.chor_base.specs.Faults.{fault}
use Rattle.chor_tree.specs.declared.file.Named.{Named}
use Rattle.chor_tree.specs.declared.file.Service.{Service}
use Rattle.chor_tree.specs.declared.file.File.{File}
use Rattle.chor_tree.specs.declared.protocol.ProtoStep.TheVariants.{End as Last}
use Rattle.chor_tree.specs.Protocols.{Protocol}
use Rattle.chor_tree.specs.declared.tree.NodeId.{NodeId}
use Rattle.chor_tree.specs.declared.tree.Part.{Part}
use Rattle.chor_tree.specs.declared.tree.Form.TheVariants.{Start, Host, Show}
use Rattle.chor_tree.specs.Kept.{Keeps}
use Rattle.chor_tree.specs.Names.{declaration_faults, node_faults}

name : ℕ → NameId
name n = record { 0 = n }

-- the first line, at this column
at : ℕ → Place
at col = record { line = 1; col = col }

named : ℕ → ℕ → Named
named n col = record { name = record { 0 = n }; place = record { line = 1; col = col } }

module _ (f : File) (e : Expr) (next : NodeId) where
  -- main (p, p) { end }
  twice : (kept : Keeps f.header f.names f.texts [] [] [] (named 0 7 ∷ named 0 10 ∷ []) f.tree.nodes f.body)
      → declaration_faults (record f { protocols = []; services = []; procs = []; processes = named 0 7 ∷ named 0 10 ∷ []; kept = kept }) ≡ fault N2 (at 10) ∷ []
  unfolding named at
  twice kept = refl

  -- main (p) { q show 1; end }
  not_in_scope : node_faults f [] (record { processes = record { 0 = 0 } ∷ []; sessions = [] }) (Show (named 1 12) e next) ≡ fault N1 (at 12) ∷ []
  unfolding named at
  not_in_scope = refl

  -- main (p) { p.x := host far(3, 10); p show x; end }, with a function of another name
  no_function : (kept : Keeps f.header ((112 ∷ []) ∷ (102 ∷ []) ∷ []) f.texts f.protocols f.services f.procs f.processes f.tree.nodes f.body)
      → node_faults (record f { names = (112 ∷ []) ∷ (102 ∷ []) ∷ []; kept = kept }) ((103 ∷ []) ∷ []) (record { processes = record { 0 = 0 } ∷ []; sessions = [] }) (Host (named 0 12) (record { 0 = 2 }) (named 1 24) e e next) ≡ fault N1 (at 24) ∷ []
  unfolding named at
  no_function kept = refl

part : Named → Named → Part
part p r = record { process = p; role = r }

-- protocol P (A, B) { s = end; } with the names P, A, B and s from 10 on
one_protocol : Protocol
one_protocol = record { name = named 10 10; roles = named 11 13 ∷ named 12 16 ∷ []; states = (record { name = named 13 21; step = Last }) ∷ [] }

-- service a : P (roles); with a at column 39 and P at 43
service : List Named → List Named → Service
service active serve = record { name = named 20 39; protocol = named 10 43; active = active; serve = serve }

module _ (f : File) (next : NodeId) where
  abbrev IsKeptWith : List Named → List Named → Type 0
  IsKeptWith active serve = Keeps f.header f.names f.texts (one_protocol ∷ []) (service active serve ∷ []) [] (named 0 70 ∷ named 1 73 ∷ []) f.tree.nodes f.body

  with_service : (active serve : List Named) → IsKeptWith active serve → File
  with_service active serve kept = record f { protocols = one_protocol ∷ []; services = service active serve ∷ []; procs = []; processes = named 0 70 ∷ named 1 73 ∷ []; kept = kept }

  -- service a : P (B | A);
  in_any_order : (kept : IsKeptWith (named 12 46 ∷ []) (named 11 50 ∷ [])) → declaration_faults (with_service (named 12 46 ∷ []) (named 11 50 ∷ []) kept) ≡ []
  unfolding with_service service one_protocol named
  in_any_order kept = refl

  -- service a : P (A, B, A);
  role_twice : (kept : IsKeptWith (named 11 46 ∷ named 12 49 ∷ named 11 52 ∷ []) []) → declaration_faults (with_service (named 11 46 ∷ named 12 49 ∷ named 11 52 ∷ []) [] kept) ≡ fault N3 (at 39) ∷ []
  unfolding with_service service one_protocol named at
  role_twice kept = refl

  -- start a(k): p[A] new r[B]; where a is P (A | B)
  well_started : (kept : IsKeptWith (named 11 46 ∷ []) (named 12 50 ∷ [])) → node_faults (with_service (named 11 46 ∷ []) (named 12 50 ∷ []) kept) [] (record { processes = record { 0 = 0 } ∷ record { 0 = 1 } ∷ []; sessions = [] }) (Start (named 20 86) (named 2 88) (part (named 0 92) (named 11 94) ∷ []) (part (named 3 101) (named 12 103) ∷ []) next) ≡ []
  unfolding with_service service one_protocol named part
  well_started kept = refl

  -- start a(a): p[A], r[B] new k[B], q[B]; where q is there, and a is P (A | B)
  ill_started : (kept : IsKeptWith (named 11 46 ∷ []) (named 12 50 ∷ [])) → node_faults (with_service (named 11 46 ∷ []) (named 12 50 ∷ []) kept) [] (record { processes = record { 0 = 0 } ∷ record { 0 = 1 } ∷ []; sessions = [] })
      (Start (named 20 86) (named 20 88) (part (named 0 92) (named 11 94) ∷ part (named 3 98) (named 12 100) ∷ []) (part (named 2 107) (named 12 109) ∷ part (named 1 113) (named 12 115) ∷ []) next)
      ≡ fault N3 (at 86) ∷ fault N1 (at 98) ∷ fault N2 (at 88) ∷ fault N2 (at 113) ∷ []
  unfolding with_service service one_protocol named part at
  ill_started kept = refl
