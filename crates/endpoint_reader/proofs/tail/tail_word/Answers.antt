use Rattle.std.proofs.Common.{ℕ, refl}
use Rattle.grammar.specs.Readers.{Misses}
use Rattle.endpoint_grammar.specs.Grammar.{tail}
use Rattle.endpoint_grammar.specs.Values.{rules}
use Rattle.endpoint_reader.specs.Tokens.{from}
use Rattle.endpoint_reader.proofs.Operands.{on_none_always}
use Rattle.endpoint_reader.proofs.Tails.{tail_stands, no_tail}
use Rattle.endpoint_reader.proofs.tail.tail_word.Goals as goal

pub returns-clause-found : goal.returns-clause-found
returns-clause-found c = tail_stands _ _ c.in_ok-token.ensures.found c.in_ok-word.ensures.found

pub returns-in_err-token-clause-none : goal.returns-in_err-token-clause-none
returns-in_err-token-clause-none c =
    let h : (p : ℕ) → Misses rules (tail p) (from c.args.input.now c.args.at) = λ p. no_tail p c.in_err-token.ensures.none.is (record { branch = refl; conditional = refl; end = refl; call = refl }) in
    on_none_always _ h

pub returns-in_err-word-clause-none : goal.returns-in_err-word-clause-none
returns-in_err-word-clause-none c =
    let h : (p : ℕ) → Misses rules (tail p) (from c.args.input.now c.args.at) = λ p. no_tail p c.in_ok-token.ensures.found c.in_err-word.ensures.none in
    on_none_always _ h
