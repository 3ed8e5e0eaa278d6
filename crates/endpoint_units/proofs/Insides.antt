-- Bodies begin with lines of the table, also when lines are added.
use Rattle.std.proofs.Common.{◌≡◌, ◌<◌, List, [], ◌∷◌, ◌++◌, All, length, map, refl, sym}
use Rattle.std.proofs.lemmas.List.Elements.{All-head, All-tail, All-push, All-same, All-weaker, All-nil}
use Rattle.endpoint_grammar.specs.Written.{Body}
use Rattle.endpoint_reader.specs.declared.input.Input.{Input}
use Rattle.endpoint_reader.specs.declared.lines.Line.{Line}
use Rattle.endpoint_reader.specs.declared.lines.LineId.{LineId}
use Rattle.endpoint_reader.specs.declared.written.Procedure.{Procedure}
use Rattle.endpoint_reader.specs.declared.written.Service.{Service}
use Rattle.endpoint_reader.specs.declared.written.Process.{Process}
use Rattle.endpoint_reader.specs.Lines.{body_at}
use Rattle.endpoint_reader.specs.Bodies.{Grows}
use Rattle.endpoint_reader.specs.Units.{AreInside}
use Rattle.endpoint_reader.proofs.Tables.{body_stays, no_fewer}
use Rattle.endpoint_units.specs.declared.parts.Parts.{Parts}
use Rattle.endpoint_units.specs.Parts.{ArePartsInside}

-- what was read of bodies stays
pub units_stay : {X Y : Type 0} {old new : List Line} (f : Body → X → Y) (body : X → LineId) (i : Input) (xs : List X) → Grows old new → All (λ x. (body x).0 < length old) xs → map (λ x. f (body_at i old (body x)) x) xs ≡ map (λ x. f (body_at i new (body x)) x) xs
units_stay f body i [] g h = refl
units_stay {X} {old = old} {new = new} f body i (x ∷ xs) g h =
    let Has : X → Type 0 = λ y. (body y).0 < length old in
    let here : body_at i old (body x) ≡ body_at i new (body x) = sym (body_stays i g (All-head Has x xs h)) in
    let rest = units_stay f body i xs g (All-tail Has x xs h) in
    λ j. f (here j) x ∷ rest j

still : {X : Type 0} {old new : List Line} (body : X → LineId) (xs : List X) → Grows old new → All (λ x. (body x).0 < length old) xs → All (λ x. (body x).0 < length new) xs
still {old = old} {new = new} body xs g h = All-weaker (λ x. (body x).0 < length old) (λ x. (body x).0 < length new) (λ x lt. no_fewer {id = body x} g lt) xs h

and_one : {X : Type 0} {old new : List Line} (body : X → LineId) (xs zs : List X) (x : X) → Grows old new → All (λ y. (body y).0 < length old) xs → (body x).0 < length new → zs ≡ xs ++ x ∷ [] → All (λ y. (body y).0 < length new) zs
and_one {old = old} {new = new} body xs zs x g h lt e = All-same (λ y. (body y).0 < length new) zs (xs ++ x ∷ []) e (All-push (λ y. (body y).0 < length new) xs x (still {old = old} {new = new} body xs g h) lt)

module _ {old new : List Line} {ps : List Procedure} {ss : List Service} {qs : List Process} where
  pub procedure_inside : {zs : List Procedure} (p : Procedure) → AreInside old ps ss qs → Grows old new → p.body.0 < length new → zs ≡ ps ++ p ∷ [] → AreInside new zs ss qs
  procedure_inside {zs} p h g lt e = record { procedures = and_one (λ (x : Procedure). x.body) ps zs p g h.procedures lt e; services = still (λ (x : Service). x.body) ss g h.services; processes = still (λ (x : Process). x.body) qs g h.processes }

  pub service_inside : {zs : List Service} (s : Service) → AreInside old ps ss qs → Grows old new → s.body.0 < length new → zs ≡ ss ++ s ∷ [] → AreInside new ps zs qs
  service_inside {zs} s h g lt e = record { procedures = still (λ (x : Procedure). x.body) ps g h.procedures; services = and_one (λ (x : Service). x.body) ss zs s g h.services lt e; processes = still (λ (x : Process). x.body) qs g h.processes }

  pub process_inside : {zs : List Process} (p : Process) → AreInside old ps ss qs → Grows old new → p.body.0 < length new → zs ≡ qs ++ p ∷ [] → AreInside new ps ss zs
  process_inside {zs} p h g lt e = record { procedures = still (λ (x : Procedure). x.body) ps g h.procedures; services = still (λ (x : Service). x.body) ss g h.services; processes = and_one (λ (x : Process). x.body) qs zs p g h.processes lt e }

pub none_inside : (p : Parts) → p.procedures ≡ [] → p.services ≡ [] → p.processes ≡ [] → ArePartsInside p
none_inside p a b c =
    let ls = p.lines.items in
    record {
      procedures = All-same (λ (x : Procedure). x.body.0 < length ls) p.procedures [] a (All-nil (λ (x : Procedure). x.body.0 < length ls));
      services = All-same (λ (x : Service). x.body.0 < length ls) p.services [] b (All-nil (λ (x : Service). x.body.0 < length ls));
      processes = All-same (λ (x : Process). x.body.0 < length ls) p.processes [] c (All-nil (λ (x : Process). x.body.0 < length ls));
    }
