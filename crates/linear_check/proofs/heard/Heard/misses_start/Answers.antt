use Rattle.std.proofs.Common.{◌≡◌, ◌<◌, true, arith}
use Rattle.std.specs.List.{list_all}
use Rattle.linear_check.specs.Heard.{hears}
use Rattle.linear_check.proofs.heard.Heard.misses_start.Goals as goal

pub returns : goal.returns
returns c = (
  λ h. absurd cc,
  λ w.
      let lt : w.0 < c.loop-number.number = (let within = w.1 in let end = c.loop-number-test.false in omega arith) in
      let joined : list_all (λ q. hears c.args.self.now w.0 q.process.name.0) c.args.active.now ≡ true = c.loop-number.invariant w.0 lt w.2 in
      let none = w.3 in absurd cc,
)
