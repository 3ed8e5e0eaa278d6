-- In the grammar of sources the next token tells what comes, and no token exceeds limits of two rules.
use Rattle.std.proofs.Common.{◌≡◌, Bool, true, false, [], refl}
use Rattle.chor_base.specs.declared.rule.Rule.{Rule}
use Rattle.chor_base.specs.declared.rule.Rule.TheVariants.{P2, P3}
use Rattle.grammar.specs.Grammars.{is_clear, furthers, is_finished, is_endless, is_ending, AreClear, AreEnding}
use Rattle.grammar.specs.Singles.{all_limits, is_single, AreSingle}
use Rattle.grammar.proofs.Apart.{IsClear, clear_of}
use Rattle.source_rows.specs.Sources.{Nonterminal, lines, roles, served, operand, parens, rule_of, file}
use Rattle.source_rows.specs.Values.{Tables, rules}

module _ (i : Tables) where
  pub rules_clear : AreClear (rules i)
  rules_clear = record {
    clear = λ n. elim n as (λ n. is_clear (rule_of n) ≡ true) [ lines b p ↦ refl | roles p ↦ refl | served p ↦ refl | operand ↦ refl | parens ↦ refl ];
    closed = λ n. elim n as (λ n. furthers (rule_of n) ≡ []) [ lines b p ↦ refl | roles p ↦ refl | served p ↦ refl | operand ↦ refl | parens ↦ refl ];
    depth = 0;
    finished = λ n. elim n as (λ n. is_finished rule_of 0 (rule_of n) ≡ true) [ lines b p ↦ refl | roles p ↦ refl | served p ↦ refl | operand ↦ refl | parens ↦ refl ];
  }

  abbrev pub takes_end : Nonterminal → Bool
  takes_end _ = false

  endless : (n : Nonterminal) → is_endless takes_end (rule_of n) ≡ true
  endless n = elim n as (λ n. is_endless takes_end (rule_of n) ≡ true) [ lines b p ↦ refl | roles p ↦ refl | served p ↦ refl | operand ↦ refl | parens ↦ refl ]

  pub rules_ending : AreEnding (rules i)
  rules_ending = record {
    ends = takes_end;
    endless = λ n e. endless n;
    ending = λ n. elim n as (λ n. is_ending takes_end (rule_of n) ≡ true) [ lines b p ↦ refl | roles p ↦ refl | served p ↦ refl | operand ↦ refl | parens ↦ refl ];
  }

  abbrev pub same : Rule → Rule → Bool
  same P2 P2 = true
  same P3 P3 = true
  same _ _ = false

  is_same : (e f : Rule) → same e f ≡ true → e ≡ f
  is_same P2 P2 h = refl
  is_same P3 P3 h = refl
  is_same _ _ h = absurd cc

  -- an expression has one limit, that of its tokens
  abbrev pub free : Nonterminal → Bool
  free operand = true
  free parens = true
  free _ = false

  pub rules_single : AreSingle (rules i)
  rules_single = record {
    same = same;
    is_same = is_same;
    free = free;
    free_rules = λ n. elim n as (λ n. free n ≡ true → (ok : Rule → Bool) → all_limits free ok (rule_of n) ≡ true) [ lines b p ↦ λ e. absurd cc | roles p ↦ λ e. absurd cc | served p ↦ λ e. absurd cc | operand ↦ λ e ok. refl | parens ↦ λ e ok. refl ];
    single_rules = λ n. elim n as (λ n. is_single same free (rule_of n) ≡ true) [ lines b p ↦ refl | roles p ↦ refl | served p ↦ refl | operand ↦ refl | parens ↦ refl ];
  }

  pub file_clear : IsClear file
  file_clear = clear_of file refl

  pub file_ending : is_ending rules_ending.ends file ≡ true
  unfolding rules_ending
  file_ending = refl

  pub file_single : is_single same free file ≡ true
  file_single = refl
