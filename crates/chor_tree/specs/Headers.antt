-- Headers, and what each file keeps of its own (this project's own).
use Rattle.std.specs.Prelude.{ℕ, Bool, ◌==◌, ◌&&◌, ◌||◌, Option, Some, None, nat_lt}
use Rattle.chor_base.specs.declared.rule.Place.{Place}
use Rattle.chor_tree.specs.declared.header.Header.{Header}

-- where a file begins
abbrev pub first_place : Place
first_place = record { line = 1; col = 1 }

-- the header of a file without one
abbrev pub no_header : Header
no_header = record { version = 1; capacity = None; place = first_place }

-- a capacity is from 1 to 1000000
abbrev pub is_capacity : ℕ → Bool
is_capacity c = nat_lt 0 c && nat_lt c 1000001

-- the first version declares no capacity
abbrev pub can_declare : (version : ℕ) → Option ℕ → Bool
can_declare version None = version == 1 || version == 2
can_declare version (Some c) = version == 2 && is_capacity c

-- the version is 1 or 2, and a capacity stands only in a file of version 2
abbrev pub header_kept : Header → Bool
header_kept h = can_declare h.version h.capacity
