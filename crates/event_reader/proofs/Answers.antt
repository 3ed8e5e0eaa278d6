-- Readings that find nothing.
use Rattle.std.proofs.Common.{◌≡◌, List, ℕ, Option, Some, None, Err}
use Rattle.event_reader.specs.declared.fault.LineFault.{LineFault}
use Rattle.event_reader.specs.declared.fault.LineFault.TheVariants.{BadLine, Memory}
use Rattle.event_reader.specs.Readings.{IsReading, IsAnswer}

pub no_reading : {A : Type 0} (is : A → Type 0) (text : A → List ℕ) (bs : List ℕ) (r : Option A) → r ≡ None → ((x : A) → is x → bs ≡ text x → ⊥) → IsReading is text bs r
no_reading is text bs None e h = h
no_reading is text bs (Some x) e h = absurd cc

-- a fault that is handed on: where the part is the text of nothing, so is the whole
pub hand_on : {A B : Type 0} (of_part : A → Type 0) (part_text : A → List ℕ) (part : List ℕ) (is : B → Type 0) (text : B → List ℕ) (bs : List ℕ) (f : LineFault)
    → IsAnswer of_part part_text part (Err f)
    → (((x : A) → of_part x → part ≡ part_text x → ⊥) → (y : B) → is y → bs ≡ text y → ⊥)
    → IsAnswer is text bs (Err f)
hand_on of_part part_text part is text bs BadLine h on = on h
hand_on of_part part_text part is text bs Memory h on = tt
