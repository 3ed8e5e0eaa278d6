-- What a reader answers.
use Rattle.std.specs.Borrow.{Bor}
use Rattle.std.specs.Prelude.{◌++◌, ◌∷◌, MatchOption, ◌≡◌, ℕ, List, Option, Some, None, Result, Ok, Err}
use Rattle.event_reader.specs.declared.fault.LineFault.{LineFault}
use Rattle.event_reader.specs.declared.fault.LineFault.TheVariants.{BadLine, Memory}

-- the bytes are the text of this one, which is among those asked for; or they are the text of none of them
abbrev pub IsReading : {A : Type 0} → (A → Type 0) → (A → List ℕ) → List ℕ → Option A → Type 0
IsReading {A} is text bs (Some x) = is x × (bs ≡ text x)
IsReading {A} is text bs None = (x : A) → is x → bs ≡ text x → ⊥

-- the same; or there was no memory
abbrev pub IsAnswer : {A : Type 0} → (A → Type 0) → (A → List ℕ) → List ℕ → Result A LineFault → Type 0
IsAnswer {A} is text bs (Ok x) = is x × (bs ≡ text x)
IsAnswer {A} is text bs (Err BadLine) = (x : A) → is x → bs ≡ text x → ⊥
IsAnswer {A} is text bs (Err Memory) = Unit {0}

-- the text of this one stands first, then the byte, and these bytes follow it
abbrev pub IsFront : {A : Type 0} → (A → Type 0) → (A → List ℕ) → ℕ → List ℕ → A × Bor (List ℕ) → Type 0
IsFront {A} is text end bs r = is r.0 × (bs ≡ text r.0 ++ end ∷ r.1.now)

-- wherever such a text and the byte stand first, what follows them is answered
abbrev pub FindsFronts : {A : Type 0} → (A → Type 0) → (A → List ℕ) → ℕ → List ℕ → Option (A × Bor (List ℕ)) → Type 0
FindsFronts {A} is text end bs result = (x : A) (rest : List ℕ) → is x → bs ≡ text x ++ end ∷ rest → MatchOption result ⊥ (λ r. r.1.now ≡ rest)
