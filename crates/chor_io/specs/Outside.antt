-- What a fetch and a write tell (this project's own).
use Rattle.std.specs.Prelude.{◌≡◌, ◌⊎◌, ◌-◌, ◌^◌, ◌≤◌, ◌<◌, ◌+◌, ℕ, List, [], ◌∷◌, ◌++◌, length, take, min, Option, Some, None, bytes_eq, count_by}
use Rattle.chor_io.specs.declared.outside.Fetched.{Fetched}
use Rattle.chor_io.specs.declared.outside.Fetched.TheVariants as fetched
use Rattle.chor_io.specs.declared.outside.Put.{Put}
use Rattle.chor_io.specs.declared.outside.Put.TheVariants as puts

-- what contracts see of a shelf: the bytes of each file by its name, where they are told, and how often a fetch of each name
-- has failed
pub record ShelfState : Type 0 where
  pub files : Option (List ℕ → Option (List ℕ))
  pub faults : List ℕ → ℕ

-- what contracts see of a sink: the bytes written so far, where they are told, and how often a write has failed
pub record SinkState : Type 0 where
  pub written : Option (List ℕ)
  pub faults : ℕ

-- the count rose, or stands at the greatest number that 64 bits hold
abbrev pub Risen : ℕ → ℕ → Type 0
Risen old new = (old < new) ⊎ (new ≡ 2 ^ 64 - 1)

-- how often a name stands among these
abbrev pub times : List (List ℕ) → List ℕ → ℕ
times names name = count_by (bytes_eq name) names

-- the names of failed calls after this answer
abbrev pub failed_after : List (List ℕ) → List ℕ → Fetched → List (List ℕ)
failed_after failed name fetched.Failed = failed ++ name ∷ []
failed_after failed name fetched.All = failed
failed_after failed name fetched.TooLong = failed
failed_after failed name fetched.Memory = failed

-- one more; the greatest number that 64 bits hold stays
abbrev pub next : ℕ → ℕ
next count = min (count + 1) (2 ^ 64 - 1)

-- how many writes have failed after this answer
abbrev pub failures_after : ℕ → Put → ℕ
failures_after failures puts.All = failures
failures_after failures puts.Failed = next failures

-- new is old followed by a front of these bytes
abbrev pub GrowsByFront : List ℕ → List ℕ → List ℕ → Type 0
GrowsByFront old new bytes = (front : List ℕ) × (rest : List ℕ) × (bytes ≡ front ++ rest) × (new ≡ old ++ front)

-- how far a fetch grows what stood there before, whatever the file has
abbrev pub FetchGrows : ℕ → List ℕ → List ℕ → Fetched → Type 0
FetchGrows limit old new fetched.All = (added : List ℕ) × (new ≡ old ++ added) × (length added ≤ limit)
FetchGrows limit old new fetched.TooLong = (added : List ℕ) × (new ≡ old ++ added) × (length added ≡ limit + 1)
FetchGrows limit old new fetched.Failed = (added : List ℕ) × (new ≡ old ++ added)
FetchGrows limit old new fetched.Memory = (added : List ℕ) × (new ≡ old ++ added)

-- what a fetch of a file with these bytes adds, by its answer; a file that isn't there is a fault
abbrev pub FetchFrom : Option (List ℕ) → ℕ → List ℕ → List ℕ → Fetched → Type 0
FetchFrom (Some bytes) limit old new fetched.All = (new ≡ old ++ bytes) × (length bytes ≤ limit)
FetchFrom (Some bytes) limit old new fetched.TooLong = (new ≡ old ++ take (limit + 1) bytes) × (limit < length bytes)
FetchFrom (Some bytes) limit old new fetched.Failed = GrowsByFront old new bytes
FetchFrom (Some bytes) limit old new fetched.Memory = GrowsByFront old new bytes
FetchFrom None limit old new fetched.All = ⊥
FetchFrom None limit old new fetched.TooLong = ⊥
FetchFrom None limit old new fetched.Failed = new ≡ old
FetchFrom None limit old new fetched.Memory = new ≡ old

-- what a fetch adds where the files are told
abbrev pub FetchTells : Option (List ℕ → Option (List ℕ)) → List ℕ → ℕ → List ℕ → List ℕ → Fetched → Type 0
FetchTells None name limit old new answer = Unit {0}
FetchTells (Some files) name limit old new answer = FetchFrom (files name) limit old new answer

-- what a write adds, by its answer
abbrev pub PutAdds : List ℕ → List ℕ → List ℕ → Put → Type 0
PutAdds old new piece puts.All = new ≡ old ++ piece
PutAdds old new piece puts.Failed = GrowsByFront old new piece

-- what a write adds where the bytes are told; who tells them goes on telling them
abbrev pub PutTells : Option (List ℕ) → Option (List ℕ) → List ℕ → Put → Type 0
PutTells None new piece answer = new ≡ None
PutTells (Some old) new piece answer = (now : List ℕ) × (new ≡ Some now) × PutAdds old now piece answer

-- what a fetch adds over a reader, where the bytes that it has left are known
abbrev pub ReadTells : Option (List ℕ) → ℕ → List ℕ → List ℕ → Fetched → Type 0
ReadTells None limit old new answer = Unit {0}
ReadTells (Some bytes) limit old new answer = FetchFrom (Some bytes) limit old new answer

-- what a write adds over a writer, where the bytes that it holds are known
abbrev pub WriteTells : Option (List ℕ) → Option (List ℕ) → List ℕ → Put → Type 0
WriteTells None new piece answer = Unit {0}
WriteTells (Some old) None piece answer = ⊥
WriteTells (Some old) (Some new) piece answer = PutAdds old new piece answer

-- where the bytes written are told, exactly this text was added
abbrev pub Wrote : Option (List ℕ) → Option (List ℕ) → List ℕ → Type 0
Wrote None new text = Unit {0}
Wrote (Some old) new text = new ≡ Some (old ++ text)

-- where the bytes written are told, a front of this text was added
abbrev pub WroteFront : Option (List ℕ) → Option (List ℕ) → List ℕ → Type 0
WroteFront None new text = Unit {0}
WroteFront (Some old) None text = ⊥
WroteFront (Some old) (Some new) text = GrowsByFront old new text
