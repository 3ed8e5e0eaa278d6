use Rattle.std.proofs.Common.{◌≡◌, ℕ, ◌==◌, ◌||◌, ◌&&◌, drop}
use Rattle.std.specs.List.{list_any}
use Rattle.linearity.specs.Marks.{is_marked}
use Rattle.linear_check.proofs.heard.kept.Given as goal

abbrev pub invariant-loop-entry : goal.invariant-loop-entry
invariant-loop-entry l = (c x : ℕ) → (list_any (λ e. (e.0.0 == x) && is_marked e.1 c) l.list || (list_any (λ e. (e.0.0 == x) && is_marked e.1 c) (drop l.entry-index l.entries) && is_marked l.marks c)) ≡ (list_any (λ e. (e.0.0 == x) && is_marked e.1 c) l.entries && is_marked l.marks c)
