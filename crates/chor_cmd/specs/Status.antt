-- How a call ends, as a number and as a status that comes with a text (this project's own).
use Rattle.std.specs.Prelude.{ℕ, Bool, true, false}
use Rattle.chor_stream.specs.declared.finish.Finished.{Finished}
use Rattle.chor_stream.specs.declared.finish.Finished.TheVariants as finished
use Rattle.program_runs.specs.declared.streaming.ExecutedTo.{ExecutedTo}
use Rattle.program_runs.specs.declared.streaming.ExecutedTo.TheVariants as executed
use Rattle.chor_cmd.specs.declared.status.Status.{Status}
use Rattle.chor_cmd.specs.declared.status.Status.TheVariants.{Done, Refused, Usage, ReadFault, WriteFault, Memory, Unmatched, Stuck, TooLarge}

-- a run that is stuck has a status of its own
abbrev pub status_of : Bool → Status
status_of true = Stuck
status_of false = Done

-- a run whose transcript was written while it was made
abbrev pub finished_status : Finished → Status
finished_status finished.Written = Done
finished_status finished.Failed = WriteFault
finished_status finished.Memory = Memory

-- and a run of endpoint programs
abbrev pub executed_status : ExecutedTo → Status
executed_status (executed.Written stuck) = status_of stuck
executed_status executed.Failed = WriteFault
executed_status executed.Memory = Memory

-- the exit status of the process
abbrev pub number_of : Status → ℕ
number_of Done = 0
number_of Refused = 1
number_of Usage = 2
number_of ReadFault = 3
number_of WriteFault = 4
number_of Memory = 5
number_of Unmatched = 6
number_of Stuck = 7
number_of TooLarge = 8

-- a whole text was written with it: it is neither that of a failed write nor that of a call that ran out of memory
abbrev pub comes_with_text : Status → Bool
comes_with_text WriteFault = false
comes_with_text Memory = false
comes_with_text Done = true
comes_with_text Refused = true
comes_with_text Usage = true
comes_with_text ReadFault = true
comes_with_text Unmatched = true
comes_with_text Stuck = true
comes_with_text TooLarge = true
