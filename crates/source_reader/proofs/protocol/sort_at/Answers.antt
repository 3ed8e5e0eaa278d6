use Rattle.std.proofs.Common.{ℕ, List, codes}
use Rattle.chor_base.specs.declared.value.Sort.{Sort}
use Rattle.chor_lexer.specs.declared.token.Token.{Token}
use Rattle.source_grammar.specs.Grammar.{WordIs, SortIs, int, bool, text}
use Rattle.source_reader.proofs.protocol.sort_at.Goals as goal

-- where none of the words stands, no sort does
no_sort : (names : List (List ℕ)) (ts : List Token) → ((rest : List Token) → WordIs names (codes "int") ts rest → ⊥) → ((rest : List Token) → WordIs names (codes "bool") ts rest → ⊥) → ((rest : List Token) → WordIs names (codes "text") ts rest → ⊥) → (s : Sort) (rest : List Token) → SortIs names ts s rest → ⊥
no_sort names ts a b c s rest (int w) = a rest w
no_sort names ts a b c s rest (bool w) = b rest w
no_sort names ts a b c s rest (text w) = c rest w

pub returns-in-Some-clause-found : goal.returns-in-Some-clause-found
returns-in-Some-clause-found c = int c.in-Some.ensures.found

pub returns-in-Some-after_word-clause-found : goal.returns-in-Some-after_word-clause-found
returns-in-Some-after_word-clause-found c = bool c.in-Some-after_word.ensures.found

pub returns-in_err-after-clause-none : goal.returns-in_err-after-clause-none
returns-in_err-after-clause-none c = rw c.from_residual.ensures (no_sort _ _ c.in_default.ensures.none c.in_default-after_word.ensures.none c.in_err-after.ensures.none)

pub returns-clause-found : goal.returns-clause-found
returns-clause-found c = text c.in_ok-after.ensures.found
