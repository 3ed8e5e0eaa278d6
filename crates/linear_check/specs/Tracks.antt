-- What has been heard, beside the sets of processes of the definition.
use Rattle.std.specs.Prelude.{ℕ, ◌≡◌, ◌<◌, Bool, true, false, List, length, slice_index_or, Contains}
use Rattle.chor_base.specs.declared.names.NameId.{NameId}
use Rattle.chor_base.specs.declared.fault.Fault.{Fault}
use Rattle.chor_tree.specs.Source.{Block, Then, Either, Calls, Ends}
use Rattle.chor_semantics.specs.Choreography.{Named}
use Rattle.chor_semantics.specs.Blocks.{node_of}
use Rattle.well_formed.specs.Linear.{Members, members_after, joins_from}
use Rattle.linearity.specs.OrderFaults.{IsUnorderedStart}
use Rattle.linear_check.specs.declared.heard.Heard.{Heard}
use Rattle.linear_check.specs.Heard.{hears}

-- the channel of a number
abbrev pub channel_at : List NameId → ℕ → NameId
channel_at channels c = slice_index_or channels c (record { 0 = 0 })

-- for each channel those who have heard are its members
abbrev pub Tracks : List NameId → Heard → (ℕ → Members) → Type 0
Tracks channels h m = (c : ℕ) → c < length channels → (x : ℕ) → m c (Named x 0) ≡ hears h c x

-- the members after a block's first statement
abbrev pub members_by : NameId → Members → Block → Members
members_by a m (Then place s next) = members_after a m (node_of s)
members_by a m (Either place p e first second) = m
members_by a m (Calls place f ps ss) = m
members_by a m (Ends place) = m

abbrev pub all_members_by : List NameId → (ℕ → Members) → Block → ℕ → Members
all_members_by channels m b = λ c. members_by (channel_at channels c) (m c) b

-- whether a block's first statement, if it is a start of the channel, is by members alone
abbrev pub joins_by : NameId → Members → Block → Bool
joins_by a m (Then place s next) = joins_from a m (node_of s)
joins_by a m (Either place p e first second) = true
joins_by a m (Calls place f ps ss) = true
joins_by a m (Ends place) = true

-- a block's first statement is a start of one of the channels that isn't by its members alone
abbrev pub Misses : List NameId → (ℕ → Members) → Block → Type 0
Misses channels m b = (c : ℕ) × (c < length channels) × (joins_by (channel_at channels c) (m c) b ≡ false)

-- x is an unordered start of one of the channels
abbrev pub IsUnorderedOfAny : List NameId → (ℕ → Members) → Block → Fault → Type 0
IsUnorderedOfAny channels m b x = (c : ℕ) × (c < length channels) × IsUnorderedStart (channel_at channels c) x (m c) b

-- the same in one of these blocks
abbrev pub IsUnorderedAfter : List NameId → (ℕ → Members) → List Block → Fault → Type 0
IsUnorderedAfter channels m bs x = (b : Block) × Contains bs b × IsUnorderedOfAny channels m b x
