-- Tails by their first words.
use Rattle.std.specs.Prelude.{◌≡◌, ℕ, List, codes, true, false}
use Rattle.chor_base.specs.declared.rule.Place.{Place}
use Rattle.chor_lexer.specs.Lexeme.{Symbol, word, Lexeme}
use Rattle.grammar.specs.Classes.{a_word, a_kept_word, is_of}
use Rattle.grammar.specs.Readers.{Stands, HasOne}
use Rattle.endpoint_reader.specs.declared.tail.TailWord.{TailWord}
use Rattle.endpoint_reader.specs.declared.tail.TailWord.TheVariants as begun

-- a word that stands at a place
abbrev pub kept_word : List ℕ → Place → Lexeme
kept_word w p = record { symbol = word w; place = p }

-- a tail begins so there, and these tokens come after its first word
abbrev pub TailStands : TailWord → List Lexeme → List Lexeme → Type 0
TailStands begun.Branch ts us = HasOne (a_word (codes "branch")) ts us
TailStands begun.If ts us = HasOne (a_word (codes "if")) ts us
TailStands (begun.Call p) ts us = Stands (a_kept_word (codes "call")) (kept_word (codes "call") p) ts us
TailStands begun.End ts us = HasOne (a_word (codes "end")) ts us

-- the token is the word with which a tail begins so
abbrev pub IsTailWord : TailWord → Lexeme → Type 0
IsTailWord begun.Branch l = is_of (a_word (codes "branch")) l.symbol ≡ true
IsTailWord begun.If l = is_of (a_word (codes "if")) l.symbol ≡ true
IsTailWord (begun.Call p) l = (is_of (a_word (codes "call")) l.symbol ≡ true) × (l.place ≡ p)
IsTailWord begun.End l = is_of (a_word (codes "end")) l.symbol ≡ true

-- it is no word with which a tail begins
pub record IsNoTailWord (s : Symbol) : Type 0 where
  pub branch : is_of (a_word (codes "branch")) s ≡ false
  pub conditional : is_of (a_word (codes "if")) s ≡ false
  pub end : is_of (a_word (codes "end")) s ≡ false
  pub call : is_of (a_word (codes "call")) s ≡ false
