-- The words of the command line (this project's own).
use Rattle.std.specs.Prelude.{ℕ, ◌≡◌, ◌≢◌, Bool, true, false, List, [], ◌∷◌, ◌++◌, length, All, Contains, codes}
use Rattle.std.specs.Str.{IsUtf8}
use Rattle.std.specs.Fmt.{decimal}
use Rattle.command_words.specs.declared.command_name.CommandName.{CommandName}
use Rattle.command_words.specs.declared.command_name.CommandName.TheVariants as names
use Rattle.command_words.specs.declared.order_form.OrderForm.{OrderForm}
use Rattle.command_words.specs.declared.order_form.OrderForm.TheVariants.{Whole, Pair, Lead}
use Rattle.command_words.specs.declared.words.Words.{Words}
use Rattle.command_words.specs.declared.words.Command.{Command}
use Rattle.command_words.specs.declared.words.Command.TheVariants.{Check, Fmt, Types, Project, Run, Exec, Link, Replay, Order, Conform, Resume, Gen}
use Rattle.command_words.specs.Tables.{command_word, file_count}
use Rattle.command_words.specs.Options.{IsBetween, AreOptions}

-- ---- files

-- the word doesn't begin as an option does
abbrev pub BeginsPlain : List ℕ → Type 0
BeginsPlain [] = ⊥
BeginsPlain (b ∷ bs) = b ≢ 45

-- a word that names a file: it isn't empty, is UTF-8, and doesn't begin with `-`
pub record IsFileWord (w : List ℕ) : Type 0 where
  pub plain : BeginsPlain w
  pub utf8 : IsUtf8 w

-- ---- what follows the files

-- the words that ask `order` for this
abbrev pub order_words : OrderForm → List (List ℕ)
order_words Whole = []
order_words (Pair i j) = codes "--pair" ∷ decimal i ∷ decimal j ∷ []
order_words (Lead j) = codes "--lead" ∷ decimal j ∷ []

-- an event has a number from 1 to 1,000,000
abbrev pub AreEvents : OrderForm → Type 0
AreEvents Whole = Unit {0}
AreEvents (Pair i j) = IsBetween 1 1000000 i × IsBetween 1 1000000 j
AreEvents (Lead j) = IsBetween 1 1000000 j

-- the words ask `order` for this
pub record IsOrder (rest : List (List ℕ)) (form : OrderForm) : Type 0 where
  pub words_are : rest ≡ order_words form
  pub events : AreEvents form

-- the option that asks `gen` for the text
abbrev pub text_option : Bool → List (List ℕ)
text_option true = codes "--text" ∷ []
text_option false = []

-- a number of rounds from 1 to 4,000 without zeros before it, and maybe the option that asks for the text
pub record AreRounds (rest : List (List ℕ)) (n : ℕ) (whole : Bool) : Type 0 where
  pub words_are : rest ≡ decimal n ∷ text_option whole
  pub within : IsBetween 1 4000 n

-- ---- forms

-- the name of a command
abbrev pub name_of : Command → CommandName
name_of Check = names.Check
name_of Fmt = names.Fmt
name_of Types = names.Types
name_of Project = names.Project
name_of (Run options) = names.Run
name_of (Exec options) = names.Exec
name_of (Link options) = names.Link
name_of Replay = names.Replay
name_of (Order form) = names.Order
name_of Conform = names.Conform
name_of (Resume options) = names.Resume
name_of (Gen n whole) = names.Gen

-- the words that follow a command's files
abbrev pub AreAfter : Command → List (List ℕ) → Type 0
AreAfter Check rest = rest ≡ []
AreAfter Fmt rest = rest ≡ []
AreAfter Types rest = rest ≡ []
AreAfter Project rest = rest ≡ []
AreAfter (Run options) rest = AreOptions names.Run rest options
AreAfter (Exec options) rest = AreOptions names.Exec rest options
AreAfter (Link options) rest = AreOptions names.Link rest options
AreAfter Replay rest = rest ≡ []
AreAfter (Order form) rest = IsOrder rest form
AreAfter Conform rest = rest ≡ []
AreAfter (Resume options) rest = AreOptions names.Resume rest options
AreAfter (Gen n whole) rest = AreRounds rest n whole

-- The words are those of this command, whose files have these names: its word, so many file words, and what follows them
pub record AreForm (words : List (List ℕ)) (command : Command) (names : List (List ℕ)) : Type 0 where
  pub rest : List (List ℕ)
  pub words_are : words ≡ command_word (name_of command) ∷ names ++ rest
  pub count : length names ≡ file_count (name_of command)
  pub files : All IsFileWord names
  pub after : AreAfter command rest

-- the words are those of this command with these file words
abbrev pub IsForm : Words → Command → List (List ℕ) → Type 0
IsForm words command names = AreForm words.items command names

-- the words are of a form
pub record HasForm (words : Words) : Type 0 where
  pub command : Command
  pub names : List (List ℕ)
  pub form : IsForm words command names

-- they are of a form, and name this file
pub record NamesFile (words : Words) (name : List ℕ) : Type 0 where
  pub command : Command
  pub names : List (List ℕ)
  pub form : IsForm words command names
  pub among : Contains names name

-- the words are of no form
abbrev pub HasNoForm : Words → Type 0
HasNoForm words = HasForm words → ⊥

-- ---- a command by its name

-- the command has this name, and these words follow its files
pub record IsCommand (name : CommandName) (rest : List (List ℕ)) (command : Command) : Type 0 where
  pub named : name_of command ≡ name
  pub after : AreAfter command rest

abbrev pub IsNoCommand : CommandName → List (List ℕ) → Type 0
IsNoCommand name rest = (command : Command) → IsCommand name rest command → ⊥
