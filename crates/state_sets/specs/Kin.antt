-- Acts that one state of a role's type can have.
use Rattle.std.specs.Prelude.{ℕ, ◌≡◌, List}
use Rattle.global_types.specs.Moves.{IsIn, content_of}
use Rattle.state_sets.specs.declared.act.Act.{Act}
use Rattle.state_sets.specs.declared.act.Act.TheVariants.{Send, Recv, Pick, Branch}
use Rattle.state_sets.specs.declared.table.Arm.{Arm}

-- two acts with the sets after them that one state can have: all is the same, but for labels
abbrev pub IsKin : Act → ℕ → Act → ℕ → Type 0
IsKin (Send b c) n (Send b' c') m = (b ≡ b') × (content_of c ≡ content_of c') × (n ≡ m)
IsKin (Recv a c) n (Recv a' c') m = (a ≡ a') × (content_of c ≡ content_of c') × (n ≡ m)
IsKin (Pick b l) n (Pick b' l') m = b ≡ b'
IsKin (Branch a l) n (Branch a' l') m = a ≡ a'
IsKin _ n _ m = ⊥

abbrev pub AreKin : List Arm → Type 0
AreKin arms = (x y : Arm) → IsIn x arms → IsIn y arms → IsKin x.act x.next y.act y.next
