use Rattle.std.proofs.Common.{◌≡◌, ℕ, ◌||◌, drop}
use Rattle.std.specs.List.{list_any}
use Rattle.linearity.specs.Marks.{is_marked}
use Rattle.linear_check.specs.Heard.{hears}
use Rattle.linear_check.proofs.heard.Heard.any_of.Given as goal

abbrev pub invariant-loop-part : goal.invariant-loop-part
invariant-loop-part l = (c : ℕ) → (is_marked l.marks c || list_any (λ q. hears l.self c q.process.name.0) (drop l.part-index l.parts)) ≡ list_any (λ q. hears l.self c q.process.name.0) l.parts
