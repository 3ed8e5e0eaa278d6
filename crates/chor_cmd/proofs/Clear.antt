-- In each row of the table what is judged fine isn't broken.
use Rattle.std.proofs.Common.{ℕ, List}
use Rattle.chor_host.specs.Functions.{Function, names_of}
use Rattle.command_words.specs.declared.words.Command.{Command}
use Rattle.command_words.specs.declared.words.Command.TheVariants.{Check, Fmt, Types, Project, Run, Exec, Link, Replay, Order, Conform, Resume, Gen}
use Rattle.source_check.specs.declared.rules.Rules.{Rules}
use Rattle.source_check.specs.declared.rules.Rules.TheVariants.{All, Grammar, Views}
use Rattle.source_check.specs.Source.{Violates}
use Rattle.source_check.proofs.OneFault as sources
use Rattle.endpoint_check.specs.Programs.{ViolatesPrograms}
use Rattle.endpoint_laws.proofs.Verdicts as programs
use Rattle.chor_cmd.specs.Rows.{IsFineSource, ArePrograms, row_of}
use Rattle.chor_cmd.proofs.Musts.{Excludes, IsClear}

module _ (functions : List Function) where
  sources_exclude : (rules : Rules) (bytes : List ℕ) → Excludes (IsFineSource functions rules bytes) (Violates rules (names_of functions) bytes)
  sources_exclude rules bytes = record {
    one = λ r q v w. sources.one_refusal rules (names_of functions) bytes r q v w;
    never = λ r f v. sources.never_refused rules (names_of functions) bytes f.0 r f.1 v;
  }

  programs_exclude : (bytes : List ℕ) → Excludes (ArePrograms functions bytes) (ViolatesPrograms (names_of functions) bytes)
  programs_exclude bytes = record {
    one = λ r q v w. programs.one_refusal (names_of functions) bytes r q v w;
    never = λ r e v. programs.never_refused (names_of functions) bytes e.0 r e.1 v;
  }

  pub is_clear : (command : Command) → IsClear (row_of functions command)
  is_clear Check = λ bytes. (sources_exclude All bytes, tt)
  is_clear Fmt = λ bytes. (sources_exclude Grammar bytes, tt)
  is_clear Types = λ bytes. (sources_exclude Views bytes, tt)
  is_clear Project = λ bytes. (sources_exclude All bytes, tt)
  is_clear (Run options) = λ bytes. (sources_exclude All bytes, tt)
  is_clear (Exec options) = λ bytes. (programs_exclude bytes, tt)
  is_clear Replay = λ bytes. (sources_exclude All bytes, λ log. tt)
  is_clear (Gen n whole) = tt
  is_clear (Link options) = λ source. (sources_exclude All source, λ units. (programs_exclude units, tt))
  is_clear (Order form) = λ bytes. (sources_exclude All bytes, λ log. tt)
  is_clear Conform = λ bytes. (sources_exclude Views bytes, λ log. tt)
  is_clear (Resume options) = λ bytes. (sources_exclude All bytes, λ log. tt)
