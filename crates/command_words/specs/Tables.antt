-- The tables of commands and of options (this project's own).
use Rattle.std.specs.Prelude.{ℕ, Bool, true, false, List, Option, Some, None, codes}
use Rattle.command_words.specs.declared.command_name.CommandName.{CommandName}
use Rattle.command_words.specs.declared.command_name.CommandName.TheVariants.{Check, Fmt, Types, Project, Run, Exec, Link, Replay, Order, Conform, Resume, Gen}
use Rattle.command_words.specs.declared.option_name.OptionName.{OptionName}
use Rattle.command_words.specs.declared.option_name.OptionName.TheVariants.{Seed, Steps, Workers, Capacity}

-- ---- commands

-- the word of a command
abbrev pub command_word : CommandName → List ℕ
command_word Check = codes "check"
command_word Fmt = codes "fmt"
command_word Types = codes "types"
command_word Project = codes "project"
command_word Run = codes "run"
command_word Exec = codes "exec"
command_word Link = codes "link"
command_word Replay = codes "replay"
command_word Order = codes "order"
command_word Conform = codes "conform"
command_word Resume = codes "resume"
command_word Gen = codes "gen"

-- how many files it names
abbrev pub file_count : CommandName → ℕ
file_count Check = 1
file_count Fmt = 1
file_count Types = 1
file_count Project = 1
file_count Run = 1
file_count Exec = 1
file_count Link = 2
file_count Replay = 2
file_count Order = 2
file_count Conform = 2
file_count Resume = 2
file_count Gen = 0

-- whether it takes an option: a source declares its own capacity, and a run that goes on has no workers
abbrev pub takes : CommandName → OptionName → Bool
takes Exec option = true
takes Run Capacity = false
takes Run option = true
takes Link Capacity = false
takes Link option = true
takes Resume Seed = true
takes Resume Steps = true
takes _ _ = false

-- ---- options

-- the word of an option
abbrev pub option_word : OptionName → List ℕ
option_word Seed = codes "--seed"
option_word Steps = codes "--steps"
option_word Workers = codes "--workers"
option_word Capacity = codes "--capacity"

-- the least number that it is set to
abbrev pub least_of : OptionName → ℕ
least_of Seed = 0
least_of Steps = 1
least_of Workers = 0
least_of Capacity = 1

-- the greatest
abbrev pub most_of : OptionName → ℕ
most_of Seed = 4294967295
most_of Steps = 1000000
most_of Workers = 16
most_of Capacity = 1000000

-- its number where it isn't set, if it has one then
abbrev pub default_of : OptionName → Option ℕ
default_of Seed = Some 0
default_of Steps = Some 100000
default_of Workers = Some 0
default_of Capacity = None
