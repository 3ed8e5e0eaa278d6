-- Units by their first words.
use Rattle.std.specs.Prelude.{ℕ, List, codes}
use Rattle.std.proofs.Common.{inl, inr}
use Rattle.chor_lexer.specs.Lexeme.{Lexeme}
use Rattle.grammar.specs.Classes.{a_word}
use Rattle.grammar.specs.Readers.{Lacks}
use Rattle.endpoint_grammar.specs.Written.{Units}
use Rattle.endpoint_grammar.specs.Grammar.{Part, channel, procedure, service, process, units_of}
use Rattle.endpoint_grammar.specs.Values.{Derived, units_from}
use Rattle.endpoint_units.specs.declared.word.UnitWord.{UnitWord}
use Rattle.endpoint_units.specs.declared.word.UnitWord.TheVariants as begun

abbrev pub first_word : UnitWord → List ℕ
first_word begun.Channel = codes "channel"
first_word begun.Procedure = codes "procedure"
first_word begun.Service = codes "service"
first_word begun.Process = codes "process"

-- what comes after the first word, where so many processes may come
abbrev pub rest_of : UnitWord → ℕ → Part
rest_of begun.Channel q = channel q
rest_of begun.Procedure q = procedure q
rest_of begun.Service q = service q
rest_of begun.Process q = process q

-- with the first word it is this
abbrev pub with_word : (w : UnitWord) (q : ℕ) → Derived (rest_of w q) → Derived (units_of q)
with_word begun.Channel q v = inl (tt, v)
with_word begun.Procedure q v = inr (inl (tt, v))
with_word begun.Service q v = inr (inr (inl (tt, v)))
with_word begun.Process q v = inr (inr (inr (inl (tt, v))))

abbrev pub units_by : (w : UnitWord) (q : ℕ) → Derived (rest_of w q) → Units
units_by w q v = units_from q (with_word w q v)

-- no unit begins there
pub record LacksUnit (ts : List Lexeme) : Type 0 where
  pub channel : Lacks (a_word (codes "channel")) ts
  pub procedure : Lacks (a_word (codes "procedure")) ts
  pub service : Lacks (a_word (codes "service")) ts
  pub process : Lacks (a_word (codes "process")) ts
