-- What tokens are, as endpoint files.
use Rattle.std.specs.Prelude.{◌≡◌, List, [], None}
use Rattle.chor_base.specs.declared.rule.Denied.{Denied}
use Rattle.chor_base.specs.declared.rule.Denied.TheVariants.{Refused, Memory}
use Rattle.chor_lexer.specs.Lexeme.{Lexeme}
use Rattle.grammar.specs.Grammars.{nowhere, Derives}
use Rattle.grammar.specs.Faults.{IsFirstFault}
use Rattle.endpoint_grammar.specs.Written.{Units}
use Rattle.endpoint_grammar.specs.Grammar.{endpoints}
use Rattle.endpoint_grammar.specs.Values.{rules, Derived, written_units}

-- The tokens are a file of these units, within all limits
pub record IsWritten (ts : List Lexeme) (u : Units) : Type 0 where
  pub value : Derived endpoints
  pub is : Derives rules nowhere endpoints ts value []
  pub units : written_units value ≡ u

-- A refusal is the first fault of the tokens, and names nobody; want of memory tells nothing
abbrev pub IsRefusal : List Lexeme → Denied → Type 0
IsRefusal ts (Refused f) = IsFirstFault rules endpoints ts f.rule f.place × (f.who ≡ None)
IsRefusal ts Memory = Unit {0}

abbrev pub nameless : Denied → Denied
nameless (Refused f) = Refused (record f { who = None })
nameless Memory = Memory
