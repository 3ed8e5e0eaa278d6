use Rattle.std.proofs.Common.{◌≡◌, ℕ, ◌==◌, ◌||◌, ◌&&◌, drop}
use Rattle.std.specs.List.{list_any}
use Rattle.linearity.specs.Marks.{is_marked}
use Rattle.linear_check.specs.Heard.{hears}
use Rattle.linear_check.proofs.heard.Heard.add_all.Given as goal

abbrev pub invariant-loop-part : goal.invariant-loop-part
invariant-loop-part l = (c x : ℕ) → (hears l.self c x || (list_any (λ q. q.process.name.0 == x) (drop l.part-index l.parts) && is_marked l.marks c)) ≡ (hears l.fn.self c x || (list_any (λ q. q.process.name.0 == x) l.parts && is_marked l.marks c))
