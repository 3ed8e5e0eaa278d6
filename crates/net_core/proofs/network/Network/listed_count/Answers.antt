use Rattle.std.proofs.Common.{◌≡◌, ◌≤◌, ap, Bool, cond, List, drop, ◌+◌, ◌<◌, ◌∷◌, length, arith}
use Rattle.std.proofs.lemmas.List.{drop_all}
use Rattle.endpoint_code.specs.Network.{Machine}
use Rattle.endpoint_code.specs.Scheduled.{listed, listed_from}
use Rattle.net_core.proofs.Leaders.{none_listed, empty_of_length}
use Rattle.net_core.proofs.Turns.{listed_turn}
use Rattle.net_core.proofs.network.Network.listed_count.Goals as goal
use Rattle.net_core.proofs.network.Network.listed_count.Goals.{then-is_listed, else-is_listed}

pub loop-pid-preserved : goal.loop-pid-preserved
loop-pid-preserved c =
    let v = c.args.self.now in
    let i = c.loop-pid.pid in
    let within : i < length v.state.machines = omega (arith, c.count-pid-end.ensures.count) in
    let rest = listed_from v.endpoints v.capacity v.state (i + 1) (drop (i + 1) v.state.machines) in
    let all = length (listed v.endpoints v.capacity v.state) in
    let here : length (listed_from v.endpoints v.capacity v.state i (drop i v.state.machines)) ≡ length (cond c.is_listed.result (i ∷ rest) rest) = ap length (listed_turn v.endpoints v.capacity v.state i c.is_listed.result within c.is_listed.ensures) in
    let before : c.loop-pid.count + length (listed_from v.endpoints v.capacity v.state i (drop i v.state.machines)) ≡ all = c.loop-pid.invariant.so_far in
    let few : c.loop-pid.count ≤ i = c.loop-pid.invariant.few in
    elim c.if-is_listed.branch [
      | then-is_listed w ↦
          (let a : length (cond c.is_listed.result (i ∷ rest) rest) ≡ length (i ∷ rest) = ap (λ (b : Bool). length (cond b (i ∷ rest) rest)) w.if-is_listed.true in
          let k = w.count-is in
          record { so_far = omega arith; few = omega arith })
      | else-is_listed w ↦
          (let a : length (cond c.is_listed.result (i ∷ rest) rest) ≡ length rest = ap (λ (b : Bool). length (cond b (i ∷ rest) rest)) w.if-is_listed.false in
          let k = w.count-is in
          record { so_far = omega arith; few = omega arith })
    ]

pub returns-clause-none : goal.returns-clause-none
returns-clause-none c = λ zero_count.
    let v = c.args.self.now in
    none_listed v.endpoints v.capacity v.state c.count-pid-end.ensures.stand (empty_of_length (listed v.endpoints v.capacity v.state)
    (let past : length v.state.machines ≤ c.loop-pid.pid = (let a = c.count-pid-end.ensures.count in let b = c.loop-pid-test.false in omega arith) in
    let rest : length (listed_from v.endpoints v.capacity v.state c.loop-pid.pid (drop c.loop-pid.pid v.state.machines)) ≡ 0 =
    ap (λ (ms : List Machine). length (listed_from v.endpoints v.capacity v.state c.loop-pid.pid ms)) (drop_all c.loop-pid.pid v.state.machines past)
    in
    let all : c.loop-pid.count + length (listed_from v.endpoints v.capacity v.state c.loop-pid.pid (drop c.loop-pid.pid v.state.machines)) ≡ length (listed v.endpoints v.capacity v.state) = c.loop-pid.invariant.so_far in
    omega arith))
