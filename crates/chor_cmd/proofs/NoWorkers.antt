-- Words that ask for no workers.
use Rattle.std.proofs.Common.{◌≡◌, inl, inr, ℕ, List, ap, ◌∙◌, subst}
use Rattle.command_words.specs.declared.words.Words.{Words}
use Rattle.command_words.specs.declared.words.Command.{Command}
use Rattle.command_words.specs.Words.{IsForm, HasNoForm}
use Rattle.command_words.proofs.SameWords.{same_command}
use Rattle.chor_cmd.specs.Runs.{workers_of, AsksNoWorkers, AsksWorkers}
use Rattle.chor_cmd.specs.declared.status.Status.TheVariants.{Memory}
use Rattle.chor_cmd.specs.Calls.{EndsBy}
use Rattle.chor_cmd.specs.Follows.{WritesNothing}

pub no_form_asks_none : (words : Words) → HasNoForm words → AsksNoWorkers words
no_form_asks_none words none command names form = absurd (none (record { command = command; names = names; form = form }))

pub none_asked : (words : Words) (command : Command) (names : List (List ℕ)) → IsForm words command names → workers_of command ≡ 0 → AsksNoWorkers words
none_asked words command names is none d others f = ap workers_of (same_command words d command others names f is) ∙ none

pub asks_none : (words : Words) → AsksNoWorkers words → AsksWorkers words → ⊥
asks_none words none asks = asks.some (none asks.command asks.names asks.form)

pub writes_nothing : WritesNothing
writes_nothing call ended none is = go (subst (EndsBy call) is ended)
  where
    go : EndsBy call Memory → call.sink'.written ≡ call.sink.written
    go (form, inl same) = same
    go (form, inr (asks, part)) = absurd (asks_none call.words none asks)
