-- Lines, and what readers answer.
use Rattle.std.proofs.Common.{◌≡◌, ℕ, List, [], ◌∷◌, ◌++◌, ap, refl}
use Rattle.std.proofs.lemmas.Result.{IfOk-weaker}
use Rattle.std.proofs.Common.{Result, IfOk}
use Rattle.chor_lexer.specs.declared.token.Token.{Token}
use Rattle.chor_base.specs.declared.rule.Place.{Place}
use Rattle.source_reader.specs.declared.block.Line.{Line}
use Rattle.chor_tree.specs.Source.{Block, Then}
use Rattle.source_grammar.specs.Grammar.{WordIs, StandsAt}
use Rattle.source_reader.specs.Reading.{statement_of, with_lines}

pub with_last : (ls : List Line) (l : Line) (b : Block) → with_lines (ls ++ l ∷ []) b ≡ with_lines ls (Then l.place (statement_of l.statement) b)
with_last [] l b = refl
with_last (k ∷ ls) l b = ap (λ (c : Block). Then k.place (statement_of k.statement) c) (with_last ls l b)

-- the place of a token that is read
pub stands_by_word : {names : List (List ℕ)} {w : List ℕ} {ts rest : List Token} {p : Place} → WordIs names w ts rest → ((t : Token) (r : List Token) → ts ≡ t ∷ r → p ≡ t.place) → StandsAt p ts
stands_by_word h f = record { token = h.token; rest = _; parts = h.parts; place = f h.token _ h.parts }

-- what holds of a value that a call answers
pub ok_then : {X Y : Type 0} (r : Result X Y) (P Q : X → Type 0) → IfOk r P → ((x : X) → P x → Q x) → IfOk r Q
ok_then r P Q h f = IfOk-weaker r P Q f h
