use Rattle.std.proofs.Common.{◌∙◌, sym, ap, Bool, cond, List, drop, ◌+◌, ◌<◌, ◌∷◌, length, arith, ℕ}
use Rattle.std.specs.Prelude.{slice_get}
use Rattle.endpoint_code.specs.Scheduled.{listed_from}
use Rattle.net_core.proofs.Turns.{listed_turn, get_next}
use Rattle.net_core.proofs.network.Network.listed_at.Goals as goal
use Rattle.net_core.proofs.network.Network.listed_at.Goals.{then-is_listed+else-left-eq0, else-is_listed}

pub returns-then-left-eq0 : goal.returns-then-left-eq0
returns-then-left-eq0 c =
    let v = c.args.self.now in
    let i = c.loop-pid.pid in
    let within : i < length v.state.machines = omega (arith, c.count-pid-end.ensures.count) in
    let rest = listed_from v.endpoints v.capacity v.state (i + 1) (drop (i + 1) v.state.machines) in
    sym (c.loop-pid.invariant
    ∙ ap (λ (l : List ℕ). slice_get l c.loop-pid.left) (listed_turn v.endpoints v.capacity v.state i c.is_listed.result within c.is_listed.ensures ∙ ap (λ (b : Bool). cond b (i ∷ rest) rest) c.if-is_listed.true)
    ∙ ap (slice_get (i ∷ rest)) c.if-left-eq0.true)

pub loop-pid-preserved : goal.loop-pid-preserved
loop-pid-preserved c =
    let v = c.args.self.now in
    let i = c.loop-pid.pid in
    let within : i < length v.state.machines = omega (arith, c.count-pid-end.ensures.count) in
    let rest = listed_from v.endpoints v.capacity v.state (i + 1) (drop (i + 1) v.state.machines) in
    let here = ap (λ (l : List ℕ). slice_get l c.loop-pid.left) (listed_turn v.endpoints v.capacity v.state i c.is_listed.result within c.is_listed.ensures) in
    c.loop-pid.invariant ∙ here
    ∙ (elim c.if-is_listed.branch [
      | then-is_listed+else-left-eq0 w ↦
          ap (λ (b : Bool). slice_get (cond b (i ∷ rest) rest) c.loop-pid.left) w.if-is_listed.true ∙ get_next i rest c.loop-pid.left c.if-is_listed.left (let a = w.left-is in let b = w.if-left-eq0.false in omega arith)
      | else-is_listed w ↦ ap (λ (b : Bool). slice_get (cond b (i ∷ rest) rest) c.loop-pid.left) w.if-is_listed.false ∙ ap (slice_get rest) (sym w.left-is)
    ])
