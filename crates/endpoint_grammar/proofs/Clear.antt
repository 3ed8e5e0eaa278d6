-- In the grammar of endpoint files the next token tells what comes, and all limits have one rule.
use Rattle.std.proofs.Common.{◌≡◌, Bool, true, false, [], refl}
use Rattle.chor_base.specs.declared.rule.Rule.{Rule}
use Rattle.chor_base.specs.declared.rule.Rule.TheVariants.{E4}
use Rattle.grammar.specs.Grammars.{is_clear, furthers, is_finished, is_endless, is_ending, AreClear, AreEnding}
use Rattle.grammar.specs.Singles.{all_limits, is_single, AreSingle}
use Rattle.grammar.proofs.Apart.{IsClear, clear_of}
use Rattle.endpoint_grammar.specs.Grammar.{Nonterminal, units, lines, roles, served, operand, parens, endpoints}
use Rattle.endpoint_grammar.specs.Values.{rules}

pub rules_clear : AreClear rules
rules_clear = record {
  clear = λ n. elim n as (λ n. is_clear (rules.rule n) ≡ true) [ units q ↦ refl | lines p ↦ refl | roles p ↦ refl | served p ↦ refl | operand ↦ refl | parens ↦ refl ];
  closed = λ n. elim n as (λ n. furthers (rules.rule n) ≡ []) [ units q ↦ refl | lines p ↦ refl | roles p ↦ refl | served p ↦ refl | operand ↦ refl | parens ↦ refl ];
  depth = 0;
  finished = λ n. elim n as (λ n. is_finished rules.rule 0 (rules.rule n) ≡ true) [ units q ↦ refl | lines p ↦ refl | roles p ↦ refl | served p ↦ refl | operand ↦ refl | parens ↦ refl ];
}

-- the units end with the end of the file, and no other rule takes it
abbrev pub takes_end : Nonterminal → Bool
takes_end (units q) = true
takes_end _ = false

pub rules_ending : AreEnding rules
rules_ending = record {
  ends = takes_end;
  endless = λ n. elim n as (λ n. takes_end n ≡ false → is_endless takes_end (rules.rule n) ≡ true) [ units q ↦ λ e. absurd cc | lines p ↦ λ e. refl | roles p ↦ λ e. refl | served p ↦ λ e. refl | operand ↦ λ e. refl | parens ↦ λ e. refl ];
  ending = λ n. elim n as (λ n. is_ending takes_end (rules.rule n) ≡ true) [ units q ↦ refl | lines p ↦ refl | roles p ↦ refl | served p ↦ refl | operand ↦ refl | parens ↦ refl ];
}

pub endpoints_clear : IsClear endpoints
endpoints_clear = clear_of endpoints refl

pub endpoints_ending : is_ending takes_end endpoints ≡ true
endpoints_ending = refl

abbrev pub same : Rule → Rule → Bool
same E4 E4 = true
same _ _ = false

is_same : (e f : Rule) → same e f ≡ true → e ≡ f
is_same E4 E4 h = refl
is_same _ _ h = absurd cc

-- an expression has one limit, that of its tokens
abbrev pub free : Nonterminal → Bool
free operand = true
free parens = true
free _ = false

pub rules_single : AreSingle rules
rules_single = record {
  same = same;
  is_same = is_same;
  free = free;
  free_rules = λ n. elim n as (λ n. free n ≡ true → (ok : Rule → Bool) → all_limits free ok (rules.rule n) ≡ true) [ units q ↦ λ e. absurd cc | lines p ↦ λ e. absurd cc | roles p ↦ λ e. absurd cc | served p ↦ λ e. absurd cc | operand ↦ λ e ok. refl | parens ↦ λ e ok. refl ];
  single_rules = λ n. elim n as (λ n. is_single same free (rules.rule n) ≡ true) [ units q ↦ refl | lines p ↦ refl | roles p ↦ refl | served p ↦ refl | operand ↦ refl | parens ↦ refl ];
}

pub endpoints_single : is_single same free endpoints ≡ true
endpoints_single = refl
