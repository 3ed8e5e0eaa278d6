-- Programs that are, unit by unit, above programs above others are above those.
use Rattle.std.proofs.Common.{ℕ, List, [], ◌∷◌, ◌++◌, ap, ◌∙◌, append_assoc}
use Rattle.std.specs.List.{AllZip}
use Rattle.endpoint_code.specs.declared.code.CodeId.{CodeId}
use Rattle.endpoint_code.specs.declared.endpoints.Procedure.{Procedure}
use Rattle.endpoint_code.specs.declared.endpoints.ServiceCode.{ServiceCode}
use Rattle.endpoint_code.specs.declared.endpoints.Process.{Process}
use Rattle.endpoint_code.specs.declared.endpoints.Endpoints.{Endpoints}
use Rattle.endpoint_code.specs.AboveUnits.{BeginsWith, IsProcedureAbove, IsServiceAbove, IsProcessAbove, AreUnitsAbove}
use Rattle.endpoint_code.specs.Covers.{IsCovered}
use Rattle.endpoint_code.proofs.AboveOrder as order

module _ {A : Type 0} where
  trans_zip : (R S T : A → A → Type 0) → ((a b c : A) → R a b → S b c → T a c) → (xs ys zs : List A) → AllZip R xs ys → AllZip S ys zs → AllZip T xs zs
  trans_zip R S T f [] [] [] u v = tt
  trans_zip R S T f [] [] (z ∷ zs) u v = absurd v
  trans_zip R S T f [] (y ∷ ys) zs u v = absurd u
  trans_zip R S T f (x ∷ xs) [] zs u v = absurd u
  trans_zip R S T f (x ∷ xs) (y ∷ ys) [] u v = absurd v
  trans_zip R S T f (x ∷ xs) (y ∷ ys) (z ∷ zs) u v = (f x y z u.0 v.0, trans_zip R S T f xs ys zs u.1 v.1)

begins_trans : (xs ys zs : List (List ℕ)) → BeginsWith ys xs → BeginsWith zs ys → BeginsWith zs xs
begins_trans xs ys zs (one, is) (two, same) = (one ++ two, same ∙ ap (λ l. l ++ two) is ∙ append_assoc xs one two)

pub above_trans : (e r s : Endpoints) → AreUnitsAbove e r → AreUnitsAbove r s → AreUnitsAbove e s
above_trans e r s one two = record {
  names = begins_trans e.names r.names s.names one.names two.names;
  texts = begins_trans e.texts r.texts s.texts one.texts two.texts;
  channels = two.channels ∙ one.channels;
  procedures = trans_zip (IsProcedureAbove e r) (IsProcedureAbove r s) (IsProcedureAbove e s) procedure e.procedures r.procedures s.procedures one.procedures two.procedures;
  services = trans_zip (IsServiceAbove e r) (IsServiceAbove r s) (IsServiceAbove e s) service e.services r.services s.services one.services two.services;
  processes = trans_zip (IsProcessAbove e r) (IsProcessAbove r s) (IsProcessAbove e s) process e.processes r.processes s.processes one.processes two.processes;
}
  where
    covered : (p q o : CodeId) → IsCovered e r p q → IsCovered r s q o → IsCovered e s p o
    covered p q o a b = record { inside = b.inside; above = order.above_trans b.above a.above; distinct = b.distinct }

    procedure : (p q o : Procedure) → IsProcedureAbove e r p q → IsProcedureAbove r s q o → IsProcedureAbove e s p o
    procedure p q o a b = record { name = b.name ∙ a.name; param = b.param ∙ a.param; sessions = b.sessions ∙ a.sessions; body = covered p.body q.body o.body a.body b.body }

    service : (p q o : ServiceCode) → IsServiceAbove e r p q → IsServiceAbove r s q o → IsServiceAbove e s p o
    service p q o a b = record { channel = b.channel ∙ a.channel; role = b.role ∙ a.role; body = covered p.body q.body o.body a.body b.body }

    process : (p q o : Process) → IsProcessAbove e r p q → IsProcessAbove r s q o → IsProcessAbove e s p o
    process p q o a b = record { name = b.name ∙ a.name; body = covered p.body q.body o.body a.body b.body }
