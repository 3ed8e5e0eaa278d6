use Rattle.std.proofs.Common.{◌≡◌, ℕ, ◌<◌, ◌&&◌, drop}
use Rattle.std.specs.List.{list_all}
use Rattle.linearity.specs.Marks.{is_marked}
use Rattle.linear_check.specs.Heard.{hears}
use Rattle.linear_check.proofs.heard.Heard.all_of.Given as goal

abbrev pub invariant-loop-part : goal.invariant-loop-part
invariant-loop-part l = (c : ℕ) → c < 128 → (is_marked l.marks c && list_all (λ q. hears l.self c q.process.name.0) (drop l.part-index l.parts)) ≡ list_all (λ q. hears l.self c q.process.name.0) l.parts
