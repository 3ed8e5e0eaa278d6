-- Names, and the room of a process.
use Rattle.std.proofs.Common.{◌≡◌, ℕ, ◌==◌, ◌&&◌, true, ap}
use Rattle.std.specs.Prelude.{nat_lt}
use Rattle.std.proofs.lemmas.Bool.{eqb-true, ltb-true, lt-ltb, and_parts, and_from}
use Rattle.chor_base.specs.declared.names.NameId.{NameId}
use Rattle.endpoint_code.specs.declared.endpoints.Endpoints.{Endpoints}
use Rattle.endpoint_code.specs.Network.{node_at}
use Rattle.endpoint_machine.specs.Views.{MachineView, IsReserved, passes}
use Rattle.session_starts.specs.Machines.{is_reserved}

pub name_same : (a b : NameId) → (a.0 == b.0) ≡ true → a ≡ b
name_same a b h = ap (λ (n : ℕ). let r : NameId = record { 0 = n } in r) (eqb-true a.0 b.0 h)

-- the parts of a process's room
pub reserved_is : (e : Endpoints) (m : MachineView) → is_reserved e m ≡ true → IsReserved e m
reserved_is e m h =
    let parts = and_parts (nat_lt 0 m.room.variables) (nat_lt 0 m.room.sessions && nat_lt (passes (node_at e m.machine.at)) m.room.beyond) h in
    let others = and_parts (nat_lt 0 m.room.sessions) (nat_lt (passes (node_at e m.machine.at)) m.room.beyond) parts.1 in
    record {
      variables = ltb-true 0 m.room.variables parts.0;
      sessions = ltb-true 0 m.room.sessions others.0;
      beyond = ltb-true (passes (node_at e m.machine.at)) m.room.beyond others.1;
    }

pub is_room : (e : Endpoints) (m : MachineView) → IsReserved e m → is_reserved e m ≡ true
is_room e m r =
    and_from _ _ (lt-ltb 0 m.room.variables r.variables)
    (and_from _ _ (lt-ltb 0 m.room.sessions r.sessions) (lt-ltb (passes (node_at e m.machine.at)) m.room.beyond r.beyond))
