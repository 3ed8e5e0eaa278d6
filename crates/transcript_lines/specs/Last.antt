-- The last line of a transcript.
use Rattle.std.specs.Prelude.{ℕ, ◌<◌, ◌^◌, List, ◌++◌, codes}
use Rattle.std.specs.Fmt.{decimal}
use Rattle.transcript_lines.specs.declared.last.Last.{Last}
use Rattle.transcript_lines.specs.declared.last.Last.TheVariants.{End, Limit}

-- the count is a number of 64 bits
abbrev pub HasCount : Last → Type 0
HasCount (End n) = n < 2 ^ 64
HasCount (Limit n) = n < 2 ^ 64

-- `end N` or `limit N`
abbrev pub last_text : Last → List ℕ
last_text (End n) = codes "end " ++ decimal n
last_text (Limit n) = codes "limit " ++ decimal n
