-- The service started twice is checked, and has a projection.
use Rattle.std.proofs.Common.{◌≡◌, zero, suc, ◌<◌, [], length, refl, sym, subst, Some, arith}
use Rattle.std.specs.Prelude.{Contains}
use Rattle.chor_base.specs.declared.fault.Fault.{Fault}
use Rattle.chor_base.specs.declared.names.NameId.{NameId}
use Rattle.chor_base.specs.Meaning.{Hosts}
use Rattle.chor_tree.specs.declared.file.File.{File}
use Rattle.chor_tree.specs.declared.file.Service.{Service}
use Rattle.chor_tree.specs.Children.{IsClosed as IsClosedTree}
use Rattle.chor_tree.specs.Names.{IsNameFault, in_a_declaration, in_main as name_in_main, in_a_procedure as name_in_a_procedure, declaration_faults}
use Rattle.chor_tree.specs.Source.{body_of}
use Rattle.chor_semantics.specs.Sources.{Procedure, procedures_of}
use Rattle.chor_semantics.specs.Steps.{procedure_named}
use Rattle.chor_semantics.specs.Examples.Source.{nodes_of, node}
use Rattle.chor_semantics.specs.Examples.ServiceTwice.{source}
use Rattle.endpoint_code.specs.Code.{IsClosed}
use Rattle.endpoint_code.specs.Bodies.{AreInside}
use Rattle.endpoint_code.specs.declared.endpoints.Endpoints.{Endpoints}
use Rattle.well_formed.specs.Asked.{IsAnswered}
use Rattle.typing_rules.specs.Environment.{at_main}
use Rattle.typing_rules.specs.TypeFaults.{in_main, in_a_head, in_a_procedure, IsTyped}
use Rattle.typing_rules.specs.Guarded.{IsGuarded}
use Rattle.linearity.specs.OrderFaults.{IsOrderFault}
use Rattle.typed_sources.specs.Laws.{IsAccepted}
use Rattle.projection.specs.Projects.{Projects}
use Rattle.projection.specs.Examples.ServiceTwice as twice
use Rattle.projection.specs.Examples.ServiceTwice.{service, nodes, services, processes, AreKept, endpoints}
use Rattle.accepted_files.specs.Accepted.{IsChecked}
use Rattle.accepted_files.specs.Example.{FileIsKept, file}
use Rattle.accepted_files.proofs.Clear.{no_member, along, at_last, IsClear, no_fault}

module _ (tree : IsClosedTree (nodes_of source)) (kept : FileIsKept) where
  abbrev f : File
  f = file tree kept

  no_declaration : declaration_faults f ≡ []
  no_declaration = refl

  no_names : (x : Fault) → ¬ IsNameFault f [] x
  no_names x (in_a_declaration m) = no_member x (subst (λ l. Contains l x) no_declaration m)
  no_names x (name_in_main h) =
      along f [] x _ (node 6) (node 5) _ refl refl refl
      (along f [] x _ (node 5) (node 4) _ refl refl refl
      (along f [] x _ (node 4) (node 3) _ refl refl refl
      (along f [] x _ (node 3) (node 2) _ refl refl refl
      (along f [] x _ (node 2) (node 1) _ refl refl refl
      (along f [] x _ (node 1) (node 0) _ refl refl refl
      (at_last f [] x _ (node 0) _ refl refl refl)))))) h
  no_names x (name_in_a_procedure m h) = no_member _ m

  clear : IsClear f at_main (body_of f f.body)
  clear = (refl, (refl, (refl, (refl, (refl, (refl, refl))))))

  typed : IsTyped f
  typed x (in_main h) = no_fault f x (body_of f f.body) at_main clear h
  typed x (in_a_head m h) = no_member _ m
  typed x (in_a_procedure m i h) = no_member _ m

  accepted : IsAccepted f []
  accepted = record { names = no_names; protocols = refl; types = typed }

  guarded : IsGuarded f
  guarded x w = no_member w.procedure w.is_declared

  few : (s : Service) → Contains f.services s → 1 < length s.active → ⊥
  few s (zero, l, e) two = one (subst (λ (z : Service). 1 < length z.active) (sym e) two)
    where
      one : 1 < 1 → ⊥
      one i = omega (arith, i)
  few s (suc zero, l, e) two = one (subst (λ (z : Service). 1 < length z.active) (sym e) two)
    where
      one : 1 < 1 → ⊥
      one i = omega (arith, i)
  few s (suc (suc j), l, e) two = absurd (omega (arith, l))

  ordered : (x : Fault) → ¬ IsOrderFault f x
  ordered x w = few w.service w.declared w.several

  pub checked : IsChecked f []
  checked = record { accepted = accepted; guarded = guarded; ordered = ordered }

  pub answered : (hosts : Hosts) → IsAnswered f hosts
  answered hosts = record { main = tt; procedures = λ h p i. absurd (none h p i) }
    where
      none : (h : NameId) (p : Procedure) → procedure_named (procedures_of f) h ≡ Some p → ⊥
      none h p i = cc

  -- the file without its protocol is kept too
  pub kept_without : twice.FileIsKept
  kept_without = record { header = refl; numbered = refl; filled = refl; begin = refl; once = kept.once }

  module _ (code : IsClosed nodes) (inside : AreInside nodes [] services processes) (numbered : AreKept) where
    abbrev e : Endpoints
    e = endpoints code inside numbered

    -- a projection doesn't depend on the protocols
    pub projected : Projects (twice.file tree kept_without) e → Projects f e
    projected pr = record {
      names = pr.names;
      texts = pr.texts;
      channels = pr.channels;
      procedures = tt;
      services = (record { channel = pr.services.0.channel; role = pr.services.0.role; body = pr.services.0.body }, tt);
      processes = (record { name = pr.processes.0.name; body = pr.processes.0.body }, (record { name = pr.processes.1.0.name; body = pr.processes.1.0.body }, tt));
    }
