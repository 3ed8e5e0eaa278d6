-- What the shelf and the sink in memory answer (this project's own).
use Rattle.std.specs.Prelude.{◌≡◌, ◌⊎◌, ◌-◌, ◌==◌, ℕ, List, [], ◌∷◌, ◌++◌, Option, Some, None, Contains, if◌then◌else◌, length, take, min, nat_lt, bytes_eq, Bool, ◌||◌, is_some, unwrap_or}
use Rattle.chor_io.specs.declared.outside.Fetched.{Fetched}
use Rattle.chor_io.specs.declared.outside.Put.{Put}
use Rattle.chor_io.specs.declared.outside.Put.TheVariants as puts
use Rattle.chor_io.specs.Outside.{failed_after, failures_after, next}
use Rattle.chor_io.specs.Views.{ShelfView, SinkView}

-- the bytes of the first pair with this name
abbrev pub file_of : List (List ℕ × List ℕ) → List ℕ → Option (List ℕ)
file_of [] name = None
file_of (file ∷ files) name = if bytes_eq file.0 name then Some file.1 else file_of files name

-- the next call is to fail, or there is no file of this name
abbrev pub FailsAt : ShelfView → List ℕ → Type 0
FailsAt shelf name = Contains shelf.fails (next shelf.calls) ⊎ (file_of shelf.files name ≡ None)

-- the shelf after a fetch with this answer
abbrev pub after_fetch : ShelfView → List ℕ → Fetched → ShelfView
after_fetch shelf name answer = record shelf { calls = next shelf.calls; failed = failed_after shelf.failed name answer }

-- how many bytes the first pair with this number lets through
abbrev pub allowance_of : List (ℕ × ℕ) → ℕ → Option ℕ
allowance_of [] number = None
allowance_of (pair ∷ pairs) number = if pair.0 == number then Some pair.1 else allowance_of pairs number

-- how many more bytes fit
abbrev pub free : SinkView → ℕ
free sink = sink.room - length sink.written

-- the next call is to fail, or the bytes would exceed the room
abbrev pub is_failing : SinkView → List ℕ → Bool
is_failing sink piece = is_some (allowance_of sink.fails (next sink.calls)) || nat_lt (free sink) (length piece)

-- how many bytes of a piece are taken: what fits, and no more than a failing call lets through
abbrev pub taken_of : SinkView → List ℕ → ℕ
taken_of sink piece = min (unwrap_or (allowance_of sink.fails (next sink.calls)) (length piece)) (min (length piece) (free sink))

-- what a write answers; an empty piece is no call
abbrev pub put_answer : SinkView → List ℕ → Put
put_answer sink piece = if length piece == 0 then puts.All else (if is_failing sink piece then puts.Failed else puts.All)

-- the sink after a write
abbrev pub after_put : SinkView → List ℕ → SinkView
after_put sink piece =
    if length piece == 0 then sink else record sink {
      written = sink.written ++ take (taken_of sink piece) piece;
      calls = next sink.calls;
      failures = failures_after sink.failures (put_answer sink piece);
    }
