-- Numbers of events, counted from 1.
use Rattle.std.specs.Prelude.{ℕ, suc, ◌≡◌, ◌<◌, ◌⊎◌}
use Rattle.command_words.specs.declared.order_form.OrderForm.{OrderForm}
use Rattle.command_words.specs.declared.order_form.OrderForm.TheVariants.{Whole, Pair, Lead}
use Rattle.replay.specs.declared.answer.ReplayFault.{ReplayFault}
use Rattle.replay.specs.declared.answer.ReplayFault.TheVariants.{Unmatched as IsUnmatched, Memory as NoMemory}
use Rattle.accepted_orders.specs.declared.fault.OrderFault.{OrderFault}
use Rattle.accepted_orders.specs.declared.fault.OrderFault.TheVariants.{Unmatched, Beyond, Memory}

-- among so many events, the number is that of the event at this place, counted from 0
pub record IsNumberOf (count number place : ℕ) : Type 0 where
  pub counted : number ≡ suc place
  pub within : place < count

-- none of so many events has this number
abbrev pub IsNoNumber : ℕ → ℕ → Type 0
IsNoNumber count number = (number ≡ 0) ⊎ (count < number)

-- This is the first number asked for that none of so many events has
abbrev pub IsBeyond : OrderForm → ℕ → ℕ → Type 0
IsBeyond Whole count number = ⊥
IsBeyond (Pair first second) count number =
    ((number ≡ first) × IsNoNumber count first) ⊎ ((number ≡ second) × (IsNoNumber count first → ⊥) × IsNoNumber count second)
IsBeyond (Lead event) count number = (number ≡ event) × IsNoNumber count event

-- a fault of a replay
abbrev pub order_fault : ReplayFault → OrderFault
order_fault (IsUnmatched line) = Unmatched line
order_fault NoMemory = Memory

-- the fault is that of a number, or want of memory
abbrev pub IsNumberFault : OrderForm → ℕ → OrderFault → Type 0
IsNumberFault form count (Unmatched line) = ⊥
IsNumberFault form count (Beyond number) = IsBeyond form count number
IsNumberFault form count Memory = Unit {0}
