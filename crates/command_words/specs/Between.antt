-- Numbers between two (this project's own).
use Rattle.std.specs.Prelude.{ℕ, ◌≤◌, ◌&&◌, Bool, true, Option, Some, None, nat_lt}

-- from the first number to the second
abbrev pub IsBetween : ℕ → ℕ → ℕ → Type 0
IsBetween least most n = (least ≤ n) × (n ≤ most)

-- a capacity is from 1 to 1,000,000, where there is one
abbrev pub is_capacity : Option ℕ → Bool
is_capacity None = true
is_capacity (Some c) = nat_lt 0 c && nat_lt c 1000001
