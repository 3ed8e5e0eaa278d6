-- The last line of a transcript (this project's own).
use Rattle.std.specs.Prelude.{ℕ, List, ◌++◌, codes}
use Rattle.std.specs.Fmt.{decimal}
use Rattle.chor_base.specs.declared.names.NameId.{NameId}
use Rattle.chor_base.specs.declared.event.Why.{Why}
use Rattle.chor_base.specs.declared.event.Why.TheVariants.{Empty, Wrong, Full, Absent}
use Rattle.transcript.specs.Text.{Words, name_text, process_text}

-- ` #0 A>B`
abbrev pub lane_text : Words → ℕ → NameId → NameId → List ℕ
lane_text w s a b = codes " #" ++ decimal s ++ codes " " ++ name_text w a ++ codes ">" ++ name_text w b

-- why a process waits: `empty #0 A>B`, `wrong #0 A>B`, `full #0 A>B` or `absent a B`
abbrev pub why_text : Words → Why → List ℕ
why_text w (Empty s a b) = codes "empty" ++ lane_text w s a b
why_text w (Wrong s a b) = codes "wrong" ++ lane_text w s a b
why_text w (Full s a b) = codes "full" ++ lane_text w s a b
why_text w (Absent c r) = codes "absent " ++ name_text w c ++ codes " " ++ name_text w r

-- `stuck 1 p empty #0 B>A`: after n events no process can step, and p, the first that hasn't ended, waits
abbrev pub stuck_text : Words → ℕ → ℕ → Why → List ℕ
stuck_text w n p why = codes "stuck " ++ decimal n ++ codes " " ++ process_text w p ++ codes " " ++ why_text w why
