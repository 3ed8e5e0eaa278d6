-- A word is that of one command, or of one option.
use Rattle.std.proofs.Common.{◌≡◌, ◌≢◌, ◌<◌, ◌≤◌, ◌^◌, ℕ, List, [], ◌∷◌, length, Option, Some, None, true, refl, sym, ap, ◌∙◌, subst, arith}
use Rattle.std.specs.Prelude.{◌==◌, cond, sum, MatchOption, unwrap_or}
use Rattle.std.specs.List.{AllWithin, HoldsAt}
use Rattle.std.specs.Option.{option_to_list, ForSome}
use Rattle.std.specs.Fmt.{decimal}
use Rattle.std.proofs.lemmas.Bool.Decides.{nat_tests}
use Rattle.command_words.specs.Between.{is_capacity}
use Rattle.std.proofs.lemmas.Fmt.{decimal_injective}
use Rattle.event_reader.specs.Readings.{IsReading}
use Rattle.command_words.specs.declared.command_name.CommandName.{CommandName}
use Rattle.command_words.specs.declared.command_name.CommandName.TheVariants.{Check, Fmt, Types, Project, Run, Exec, Link, Replay, Order, Conform, Resume, Gen}
use Rattle.command_words.specs.declared.option_name.OptionName.{OptionName}
use Rattle.command_words.specs.declared.option_name.OptionName.TheVariants.{Seed, Steps, Workers, Capacity}
use Rattle.command_words.specs.Tables.{command_word, option_word, least_of, most_of, default_of}
use Rattle.command_words.specs.Options.{IsBetween, IsValue}

-- the sums of their words' bytes tell commands apart
abbrev command_with : ℕ → CommandName
command_with n =
    cond (n == sum (command_word Check)) Check (cond (n == sum (command_word Fmt)) Fmt (cond (n == sum (command_word Types)) Types
    (cond (n == sum (command_word Project)) Project (cond (n == sum (command_word Run)) Run (cond (n == sum (command_word Exec)) Exec
    (cond (n == sum (command_word Link)) Link (cond (n == sum (command_word Replay)) Replay (cond (n == sum (command_word Order)) Order
    (cond (n == sum (command_word Conform)) Conform (cond (n == sum (command_word Resume)) Resume Gen))))))))))

told_by_word : (name : CommandName) → command_with (sum (command_word name)) ≡ name
told_by_word Check = refl
told_by_word Fmt = refl
told_by_word Types = refl
told_by_word Project = refl
told_by_word Run = refl
told_by_word Exec = refl
told_by_word Link = refl
told_by_word Replay = refl
told_by_word Order = refl
told_by_word Conform = refl
told_by_word Resume = refl
told_by_word Gen = refl

pub same_command_name : (a b : CommandName) → command_word a ≡ command_word b → a ≡ b
same_command_name a b e = sym (told_by_word a) ∙ ap (λ (w : List ℕ). command_with (sum w)) e ∙ told_by_word b

abbrev option_with : ℕ → OptionName
option_with n = cond (n == sum (option_word Seed)) Seed (cond (n == sum (option_word Steps)) Steps (cond (n == sum (option_word Workers)) Workers Capacity))

option_told_by_word : (name : OptionName) → option_with (sum (option_word name)) ≡ name
option_told_by_word Seed = refl
option_told_by_word Steps = refl
option_told_by_word Workers = refl
option_told_by_word Capacity = refl

pub same_option_name : (a b : OptionName) → option_word a ≡ option_word b → a ≡ b
same_option_name a b e = sym (option_told_by_word a) ∙ ap (λ (w : List ℕ). option_with (sum w)) e ∙ option_told_by_word b

-- the numbers of options have 64 bits
pub most_small : (name : OptionName) → most_of name < 2 ^ 64
most_small Seed = omega arith
most_small Steps = omega arith
most_small Workers = omega arith
most_small Capacity = omega arith

-- ---- the numbers of options

-- the default of an option is within its upper bound
default_bounded : (name : OptionName) (d : ℕ) → default_of name ≡ Some d → d ≤ most_of name
default_bounded Seed d e = let same : 0 ≡ d = cc in omega (arith, same)
default_bounded Steps d e = let same : 100000 ≡ d = cc in omega (arith, same)
default_bounded Workers d e = let same : 0 ≡ d = cc in omega (arith, same)
default_bounded Capacity d e = absurd cc

module _ (name : OptionName) (default : ℕ) (is : default_of name ≡ Some default) where
  pub value_is : (given : Option ℕ) (n : ℕ) → n ≡ unwrap_or given default → IsValue name (option_to_list given) (Some n)
  value_is None n e = ap Some e ∙ sym is
  value_is (Some m) n e = ap Some e

  pub value_bounded : (given : Option ℕ) (n : ℕ) → n ≡ unwrap_or given default → ForSome given (IsBetween (least_of name) (most_of name)) → n ≤ most_of name
  value_bounded None n e within = subst (λ (k : ℕ). k ≤ most_of name) (sym e) (default_bounded name default is)
  value_bounded (Some m) n e within = let few = within m refl in subst (λ (k : ℕ). k ≤ most_of name) (sym e) few.1

pub between_capacity : (c : ℕ) → IsBetween 1 1000000 c → is_capacity (Some c) ≡ true
between_capacity c h = let some = h.0 in let few = h.1 in grind (arith, nat_tests)

-- ---- a search through all commands

abbrev pub all_commands : List CommandName
all_commands = Check ∷ Fmt ∷ Types ∷ Project ∷ Run ∷ Exec ∷ Link ∷ Replay ∷ Order ∷ Conform ∷ Resume ∷ Gen ∷ []

pub is_reading : (w : List ℕ) (r : Option CommandName)
    → MatchOption r (AllWithin (λ n. w ≢ command_word n) all_commands 0 (length all_commands)) (λ x. (w ≡ command_word x) × (i : ℕ) × (i < length all_commands) × HoldsAt (λ y. y ≡ x) all_commands i × AllWithin (λ n. w ≢ command_word n) all_commands 0 i)
    → IsReading (λ name. Unit {0}) command_word w r
is_reading w (Some x) h = (tt, h.0)
is_reading w None h = λ x one. at x
  where
    at : (x : CommandName) → w ≢ command_word x
    at Check = h 0 Check (omega arith) (omega arith)
    at Fmt = h 1 Check (omega arith) (omega arith)
    at Types = h 2 Check (omega arith) (omega arith)
    at Project = h 3 Check (omega arith) (omega arith)
    at Run = h 4 Check (omega arith) (omega arith)
    at Exec = h 5 Check (omega arith) (omega arith)
    at Link = h 6 Check (omega arith) (omega arith)
    at Replay = h 7 Check (omega arith) (omega arith)
    at Order = h 8 Check (omega arith) (omega arith)
    at Conform = h 9 Check (omega arith) (omega arith)
    at Resume = h 10 Check (omega arith) (omega arith)
    at Gen = h 11 Check (omega arith) (omega arith)

-- ---- numbers between two

module _ (word : List ℕ) (k least most : ℕ) (is : word ≡ decimal k) (small : k < 2 ^ 64) (bound : most < 2 ^ 64) where
  same_between : (x : ℕ) → IsBetween least most x → word ≡ decimal x → x ≡ k
  same_between x h e = let few = h.1 in decimal_injective x k (omega arith) small (sym e ∙ is)

  pub too_small : k < least → (x : ℕ) → IsBetween least most x → word ≡ decimal x → ⊥
  too_small less x h e = let same = same_between x h e in let some = h.0 in omega arith

  pub too_large : most < k → (x : ℕ) → IsBetween least most x → word ≡ decimal x → ⊥
  too_large more x h e = let same = same_between x h e in let few = h.1 in omega arith
