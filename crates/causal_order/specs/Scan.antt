-- The last events of processes in a scan.
use Rattle.std.specs.Prelude.{ℕ, ◌≡◌, Bool, Option, None, Some, slice_index_or, if◌then◌else◌}
use Rattle.causal_order.specs.declared.scan.Scan.{Scan}

-- the place of the last event of a process
abbrev pub last_event_of : Scan → ℕ → Option ℕ
last_event_of s p = slice_index_or s.last.items p None

-- the last event of each process that passes the test is at this place, and that of each other process is where it was
abbrev pub HasLastAt : Scan → (ℕ → Bool) → ℕ → Scan → Type 0
HasLastAt old test place new = (p : ℕ) → last_event_of new p ≡ (if test p then Some place else last_event_of old p)
