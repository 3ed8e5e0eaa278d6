-- Room for one more.
use Rattle.std.proofs.Common.{◌≡◌, ◌<◌, ◌≤◌, ℕ, true, false, Some, arith}
use Rattle.std.proofs.lemmas.Bool.Decides.{nat_tests}
use Rattle.grammar.specs.Grammars.{is_full}

pub open_room : (n : ℕ) → 0 < n → is_full (Some n) ≡ false
open_room n h = grind (arith, nat_tests)

pub full_room : (n : ℕ) → n ≤ 0 → is_full (Some n) ≡ true
full_room n h = grind (arith, nat_tests)

pub has_some : (n : ℕ) → is_full (Some n) ≡ false → 0 < n
has_some n h = grind (arith, nat_tests)

pub has_none : (n : ℕ) → is_full (Some n) ≡ true → n ≡ 0
has_none n h = grind (arith, nat_tests)

pub no_room : (n : ℕ) → n ≤ 0 → n ≡ 0
no_room n h = omega arith
