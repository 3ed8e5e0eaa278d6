-- Words are of one form.
use Rattle.std.proofs.Common.{◌≡◌, ◌≤◌, ℕ, Bool, true, false, List, ◌∷◌, ◌++◌, length, refl, sym, ap, ◌∙◌, arith}
use Rattle.std.specs.Fmt.{decimal}
use Rattle.std.proofs.lemmas.Fmt.{decimal_injective}
use Rattle.command_words.specs.declared.command_name.CommandName.TheVariants as names
use Rattle.command_words.specs.declared.order_form.OrderForm.{OrderForm}
use Rattle.command_words.specs.declared.order_form.OrderForm.TheVariants.{Whole, Pair, Lead}
use Rattle.command_words.specs.declared.words.Words.{Words}
use Rattle.command_words.specs.declared.words.Command.{Command}
use Rattle.command_words.specs.declared.words.Command.TheVariants.{Check, Fmt, Types, Project, Run, Exec, Link, Replay, Order, Conform, Resume, Gen}
use Rattle.command_words.specs.Tables.{command_word}
use Rattle.command_words.specs.Words.{IsOrder, order_words, AreEvents, AreRounds, text_option, name_of, AreAfter, IsForm}
use Rattle.command_words.proofs.OptionWords.{same_options}
use Rattle.command_words.proofs.Forms.{Begins, begins}

-- ---- what follows the files

same_number : (a b : ℕ) → decimal a ≡ decimal b → a ≤ 1000000 → b ≤ 1000000 → a ≡ b
same_number a b e few few' = decimal_injective a b (omega arith) (omega arith) e

same_order : (rest : List (List ℕ)) (a b : OrderForm) → IsOrder rest a → IsOrder rest b → a ≡ b
same_order rest a b f g = go a b f.events g.events (sym f.words_are ∙ g.words_are)
  where
    go : (a b : OrderForm) → AreEvents a → AreEvents b → order_words a ≡ order_words b → a ≡ b
    go Whole Whole m n e = refl
    go (Pair i j) (Pair k l) m n e = (λ t. Pair (same_number i k (cc) m.0.1 n.0.1 t) (same_number j l (cc) m.1.1 n.1.1 t))
    go (Lead j) (Lead l) m n e = ap Lead (same_number j l (cc) m.1 n.1)
    go a b m n e = absurd (omega (arith, ap length e))

same_option : (a b : Bool) → text_option a ≡ text_option b → a ≡ b
same_option true true e = refl
same_option false false e = refl
same_option true false e = absurd (omega (arith, ap length e))
same_option false true e = absurd (omega (arith, ap length e))

same_rounds : (rest : List (List ℕ)) (n k : ℕ) (a b : Bool) → AreRounds rest n a → AreRounds rest k b → Gen n a ≡ Gen k b
same_rounds rest n k a b f g =
    let wholes : decimal n ∷ text_option a ≡ decimal k ∷ text_option b = sym f.words_are ∙ g.words_are in
    let few = f.within.1 in
    let few' = g.within.1 in
    let numbers : n ≡ k = same_number n k (cc) (omega arith) (omega arith) in
    let asked : a ≡ b = same_option a b (cc) in
    λ i. Gen (numbers i) (asked i)

same_after : (rest : List (List ℕ)) (c d : Command) → name_of c ≡ name_of d → AreAfter c rest → AreAfter d rest → c ≡ d
same_after rest Check Check e f g = refl
same_after rest Fmt Fmt e f g = refl
same_after rest Types Types e f g = refl
same_after rest Project Project e f g = refl
same_after rest (Run o) (Run p) e f g = ap Run (same_options names.Run rest o p f g)
same_after rest (Exec o) (Exec p) e f g = ap Exec (same_options names.Exec rest o p f g)
same_after rest (Link o) (Link p) e f g = ap Link (same_options names.Link rest o p f g)
same_after rest Replay Replay e f g = refl
same_after rest (Order a) (Order b) e f g = ap Order (same_order rest a b f g)
same_after rest Conform Conform e f g = refl
same_after rest (Resume o) (Resume p) e f g = ap Resume (same_options names.Resume rest o p f g)
same_after rest (Gen n a) (Gen k b) e f g = same_rounds rest n k a b f g
same_after rest c d e f g = absurd cc

module _ (words : Words) (c d : Command) (m n : List (List ℕ)) (f : IsForm words c m) (g : IsForm words d n) where
  there : Begins words.items (command_word (name_of c)) (m ++ f.rest) f.words_are (name_of c) refl d n
  there = begins words.items (command_word (name_of c)) (m ++ f.rest) f.words_are (name_of c) refl d n g

  here : Begins words.items (command_word (name_of c)) (m ++ f.rest) f.words_are (name_of c) refl c m
  here = begins words.items (command_word (name_of c)) (m ++ f.rest) f.words_are (name_of c) refl c m f

  -- the words ask for one command
  pub same_command : c ≡ d
  same_command = same_after _ c d (sym there.name_is) here.after_is.after there.after_is.after

  -- and name the same files
  pub same_names : m ≡ n
  same_names = sym here.files_are ∙ there.files_are
