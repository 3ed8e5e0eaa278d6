-- Linked programs are, unit by unit, above those of the base.
use Rattle.std.proofs.Common.{◌<◌, List, [], ◌∷◌, length}
use Rattle.std.specs.Prelude.{All}
use Rattle.std.specs.List.{AllZip}
use Rattle.std.proofs.lemmas.List.Elements.{All-head, All-tail}
use Rattle.endpoint_code.specs.declared.endpoints.Procedure.{Procedure}
use Rattle.endpoint_code.specs.declared.endpoints.ServiceCode.{ServiceCode}
use Rattle.endpoint_code.specs.declared.endpoints.Process.{Process}
use Rattle.endpoint_code.specs.declared.endpoints.Endpoints.{Endpoints}
use Rattle.endpoint_code.specs.AboveUnits.{IsProcedureAbove, IsServiceAbove, IsProcessAbove, AreUnitsAbove}
use Rattle.endpoint_code.specs.Faults.{IsFaultless, IsScoped}
use Rattle.same_programs.specs.Words.{HasDistinctWords}
use Rattle.same_programs.proofs.Distinct.{scoped_distinct}
use Rattle.endpoint_link.specs.Linked.{IsProcedureLinked, IsServiceLinked, IsProcessLinked, IsLinked}
use Rattle.endpoint_link.proofs.Linked.{IsAboveByNumbers, AreCodesAbove, codes_above}

-- two relations, and what holds of the second list, together
both_zip : {A : Type 0} (R S T : A → A → Type 0) (P Q : A → Type 0) → ((a b : A) → R a b → S a b → P b → Q b → T a b) → (xs ys : List A) → AllZip R xs ys → AllZip S xs ys → All P ys → All Q ys → AllZip T xs ys
both_zip R S T P Q f [] [] u v p q = tt
both_zip R S T P Q f [] (y ∷ ys) u v p q = absurd u
both_zip R S T P Q f (x ∷ xs) [] u v p q = absurd u
both_zip R S T P Q f (x ∷ xs) (y ∷ ys) u v p q = (f x y u.0 v.0 (All-head P y ys p) (All-head Q y ys q), both_zip R S T P Q f xs ys u.1 v.1 (All-tail P y ys p) (All-tail Q y ys q))

pub linked_above : (e g r : Endpoints) → IsLinked e g r → IsFaultless r → HasDistinctWords r → AreUnitsAbove e r
linked_above e g r linked fine differ = record {
  names = linked.names;
  texts = linked.texts;
  channels = linked.channels;
  procedures = both_zip (IsProcedureLinked e g r) (λ p q. IsAboveByNumbers e r p.body q.body) (IsProcedureAbove e r) (λ q. q.body.0 < length r.code.nodes) (λ q. IsScoped r q.body q.sessions) procedure e.procedures r.procedures linked.procedures over.procedures r.inside.in_procedures fine.names.procedure_bodies;
  services = both_zip (IsServiceLinked e g r) (λ s t. IsAboveByNumbers e r s.body t.body) (IsServiceAbove e r) (λ s. s.body.0 < length r.code.nodes) (λ s. IsScoped r s.body (s.channel ∷ [])) service e.services r.services linked.services over.services r.inside.in_services fine.names.service_bodies;
  processes = both_zip (IsProcessLinked e g r) (λ p q. IsAboveByNumbers e r p.body q.body) (IsProcessAbove e r) (λ p. p.body.0 < length r.code.nodes) (λ p. IsScoped r p.body []) process e.processes r.processes linked.processes over.processes r.inside.in_processes fine.names.process_bodies;
}
  where
    over : AreCodesAbove e r
    over = codes_above e g r linked differ

    procedure : (p q : Procedure) → IsProcedureLinked e g r p q → IsAboveByNumbers e r p.body q.body → q.body.0 < length r.code.nodes → IsScoped r q.body q.sessions → IsProcedureAbove e r p q
    procedure p q w above inside scoped = record { name = w.name; param = w.param; sessions = w.sessions; body = record { inside = inside; above = above; distinct = scoped_distinct r scoped } }

    service : (s t : ServiceCode) → IsServiceLinked e g r s t → IsAboveByNumbers e r s.body t.body → t.body.0 < length r.code.nodes → IsScoped r t.body (t.channel ∷ []) → IsServiceAbove e r s t
    service s t w above inside scoped = record { channel = w.channel; role = w.role; body = record { inside = inside; above = above; distinct = scoped_distinct r scoped } }

    process : (p q : Process) → IsProcessLinked e g r p q → IsAboveByNumbers e r p.body q.body → q.body.0 < length r.code.nodes → IsScoped r q.body [] → IsProcessAbove e r p q
    process p q w above inside scoped = record { name = w.name; body = record { inside = inside; above = above; distinct = scoped_distinct r scoped } }
