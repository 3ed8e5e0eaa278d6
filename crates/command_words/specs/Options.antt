-- The options of a run, as they are written (this project's own).
use Rattle.std.specs.Prelude.{ℕ, ◌≡◌, Bool, true, false, cond, List, [], ◌∷◌, ◌++◌, Option, Some}
use Rattle.std.specs.List.{AllByRecursion}
use Rattle.std.specs.Option.{option_to_list, ForSome}
use Rattle.std.specs.Fmt.{decimal}
use Rattle.command_words.specs.declared.command_name.CommandName.{CommandName}
use Rattle.command_words.specs.declared.option_name.OptionName.{OptionName}
use Rattle.command_words.specs.declared.option_name.OptionName.TheVariants.{Seed, Steps, Workers, Capacity}
use Rattle.command_words.specs.declared.options.Options.{Options}
pub use Rattle.command_words.specs.Between.{IsBetween}
use Rattle.command_words.specs.declared.settings.Setting.{Setting}
use Rattle.command_words.specs.declared.settings.Settings.{Settings}
use Rattle.command_words.specs.Tables.{takes, option_word, least_of, most_of, default_of}

-- the words of settings, two for each: the option's, and its number in decimal digits without zeros before it
abbrev pub words_of : List Setting → List (List ℕ)
words_of [] = []
words_of (s ∷ rest) = option_word s.name ∷ decimal s.number ∷ words_of rest

-- the command takes the option, and the number is within the option's bounds
pub record MaySet (command : CommandName) (s : Setting) : Type 0 where
  pub taken : takes command s.name ≡ true
  pub within : IsBetween (least_of s.name) (most_of s.name) s.number

-- two options are the same
abbrev pub is_same : OptionName → OptionName → Bool
is_same Seed Seed = true
is_same Steps Steps = true
is_same Workers Workers = true
is_same Capacity Capacity = true
is_same _ _ = false

-- the number that a setting gives an option, if it is one of that option
abbrev pub set_to : OptionName → Setting → List ℕ
set_to name s = cond (is_same name s.name) (s.number ∷ []) []

-- the numbers that settings give an option
abbrev pub numbers_of : OptionName → List Setting → List ℕ
numbers_of name [] = []
numbers_of name (s ∷ rest) = set_to name s ++ numbers_of name rest

-- the number of an option that is given these, if it has one: its default where it isn't set, and else the only one
abbrev pub IsValue : OptionName → List ℕ → Option ℕ → Type 0
IsValue name [] value = value ≡ default_of name
IsValue name (n ∷ []) value = value ≡ Some n
IsValue name (n ∷ m ∷ ns) value = ⊥

-- the number that options have for an option, if any
abbrev pub number_in : OptionName → Options → Option ℕ
number_in Seed options = Some options.seed
number_in Steps options = Some options.steps
number_in Workers options = Some options.workers
number_in Capacity options = options.capacity

-- The words set options that the command takes, in any order and each at most once, and these are their numbers
pub record AreOptions (command : CommandName) (words : List (List ℕ)) (options : Options) : Type 0 where
  pub settings : List Setting
  pub words_are : words ≡ words_of settings
  pub allowed : AllByRecursion (MaySet command) settings
  pub values : (name : OptionName) → IsValue name (numbers_of name settings) (number_in name options)

-- they are no options of this command
abbrev pub AreNoOptions : CommandName → List (List ℕ) → Type 0
AreNoOptions command words = (options : Options) → AreOptions command words options → ⊥

-- ---- one after another

-- two words are this setting, which the command takes
pub record IsSetting (command : CommandName) (option number : List ℕ) (s : Setting) : Type 0 where
  pub option_is : option ≡ option_word s.name
  pub number_is : number ≡ decimal s.number
  pub allowed : MaySet command s

abbrev pub IsNoSetting : CommandName → List ℕ → List ℕ → Type 0
IsNoSetting command option number = (s : Setting) → IsSetting command option number s → ⊥

-- the number that an option was set to so far
abbrev pub set_in : OptionName → Settings → Option ℕ
set_in Seed settings = settings.seed
set_in Steps settings = settings.steps
set_in Workers settings = settings.workers
set_in Capacity settings = settings.capacity

-- the option was set
abbrev pub IsAmong : Settings → OptionName → Type 0
IsAmong settings name = (n : ℕ) × (set_in name settings ≡ Some n)

-- with this setting more so much is set
abbrev pub Adds : Settings → Setting → Settings → Type 0
Adds settings s more = (name : OptionName) → option_to_list (set_in name more) ≡ option_to_list (set_in name settings) ++ set_to name s

-- each number is within its option's bounds
abbrev pub AreBounded : Settings → Type 0
AreBounded settings = (name : OptionName) → ForSome (set_in name settings) (IsBetween (least_of name) (most_of name))
