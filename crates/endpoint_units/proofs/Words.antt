-- Units by their first words.
use Rattle.std.proofs.Common.{ℕ, inr, List, refl}
use Rattle.chor_lexer.specs.Lexeme.{Lexeme}
use Rattle.grammar.specs.Classes.{a_word, the_end}
use Rattle.grammar.specs.Grammars.{one}
use Rattle.grammar.specs.Readers.{HasOne, Leads}
use Rattle.grammar.proofs.Reading.{leads_on, after_reads, token_comes, token_misses, token_reads, comes_then, misses_then, first_of_two, second_of_two, other_stands}
use Rattle.endpoint_grammar.specs.Grammar.{units_of}
use Rattle.endpoint_grammar.specs.Values.{rules}
use Rattle.endpoint_units.specs.declared.word.UnitWord.{UnitWord}
use Rattle.endpoint_units.specs.declared.word.UnitWord.TheVariants as begun
use Rattle.endpoint_units.specs.Words.{first_word, rest_of, with_word, LacksUnit}

module _ {ts us : List Lexeme} {q : ℕ} where
  pub into_unit : (w : UnitWord) → HasOne (a_word (first_word w)) ts us → Leads rules (units_of q) ts (rest_of w q) us (with_word w q)
  into_unit begun.Channel h = leads_on _ (first_of_two _ (comes_then _ (token_comes _ h.stands))) (after_reads _ (token_reads _ h.stands))
  into_unit begun.Procedure h = leads_on _ (second_of_two _ (misses_then _ (token_misses _ (other_stands rules refl h.stands)))) (leads_on _ (first_of_two _ (comes_then _ (token_comes _ h.stands))) (after_reads _ (token_reads _ h.stands)))
  into_unit begun.Service h = leads_on _ (second_of_two _ (misses_then _ (token_misses _ (other_stands rules refl h.stands)))) (leads_on _ (second_of_two _ (misses_then _ (token_misses _ (other_stands rules refl h.stands)))) (leads_on _ (first_of_two _ (comes_then _ (token_comes _ h.stands))) (after_reads _ (token_reads _ h.stands))))
  into_unit begun.Process h = leads_on _ (second_of_two _ (misses_then _ (token_misses _ (other_stands rules refl h.stands)))) (leads_on _ (second_of_two _ (misses_then _ (token_misses _ (other_stands rules refl h.stands)))) (leads_on _ (second_of_two _ (misses_then _ (token_misses _ (other_stands rules refl h.stands)))) (leads_on _ (first_of_two _ (comes_then _ (token_comes _ h.stands))) (after_reads _ (token_reads _ h.stands)))))

pub no_unit : {ts : List Lexeme} {q : ℕ} → LacksUnit ts → Leads rules (units_of q) ts (one the_end) ts (λ v. inr (inr (inr (inr v))))
no_unit n = leads_on _ (second_of_two _ (misses_then _ (token_misses _ n.channel))) (leads_on _ (second_of_two _ (misses_then _ (token_misses _ n.procedure))) (leads_on _ (second_of_two _ (misses_then _ (token_misses _ n.service))) (second_of_two _ (misses_then _ (token_misses _ n.process)))))
