-- Counts above bits: what holds of them inside, and what the searches through them find.
use Rattle.std.specs.Prelude.{◌≡◌, ℕ, suc, ◌+◌, ◌*◌, ◌<◌, ◌≤◌, ◌^◌, ◌⊎◌, Bool, List, [], ◌∷◌, ◌++◌, length, take, if◌then◌else◌}
use Rattle.std.specs.List.{sum_by}

-- a bit's amount
abbrev pub one : Bool → ℕ
one bit = if bit then 1 else 0

-- a count's amount
abbrev pub itself : ℕ → ℕ
itself n = n

-- what the items before a place come to
abbrev pub before : {X : Type 0} → (X → ℕ) → ℕ → List X → ℕ
before amount place items = sum_by amount (take place items)

-- each count is what 16 items come to, the last count what the rest does
pub record AreSums {X : Type 0} (amount : X → ℕ) (items : List X) (counts : List ℕ) : Type 0 where
  pub cover : length items ≤ 16 * length counts
  pub sums : (j : ℕ) → before itself j counts ≡ before amount (16 * j) items

-- an amount is reached at the item at a place: the items before it come to less by the rest, and with it to more
pub record IsReached {X : Type 0} (amount : X → ℕ) (items : List X) (number place rest : ℕ) : Type 0 where
  pub starts : before amount place items + rest ≡ number
  pub ends : number < before amount (suc place) items

-- a list of counts is the same, or has a count of nothing more
abbrev pub IsGrown : List ℕ → List ℕ → Type 0
IsGrown old new = (new ≡ old) ⊎ (new ≡ old ++ 0 ∷ [])

-- three levels of counts stand above the bits
pub record AreCounted (bits : List Bool) (total : ℕ) (blocks groups tops : List ℕ) : Type 0 where
  pub short : length bits < 2 ^ 32
  pub all : total ≡ sum_by one bits
  pub in_blocks : AreSums one bits blocks
  pub in_groups : AreSums itself blocks groups
  pub in_tops : AreSums itself groups tops

-- and so many set bits stand before the block that is kept
pub record IsKept (bits : List Bool) (total : ℕ) (blocks groups tops : List ℕ) (block start : ℕ) : Type 0 where
  pub counted : AreCounted bits total blocks groups tops
  pub starts : start ≡ before one (16 * block) bits

-- an amount of set bits is reached in a block: those before the block come to less by the rest, and with it to more
pub record IsInBlock (bits : List Bool) (number block rest : ℕ) : Type 0 where
  pub starts : before one (16 * block) bits + rest ≡ number
  pub ends : number < before one (16 * suc block) bits
