-- Whole files.
use Rattle.std.proofs.Common.{◌≡◌, List, [], map, refl, sym, ap, ◌∙◌, subst, codes}
use Rattle.chor_base.specs.declared.rule.Denied.{Denied}
use Rattle.chor_base.specs.declared.rule.Denied.TheVariants.{Refused, Memory}
use Rattle.chor_lexer.specs.Lexeme.{Lexeme}
use Rattle.chor_lexer.specs.declared.mark.Mark.TheVariants.{Semicolon}
use Rattle.grammar.specs.Classes.{exactly}
use Rattle.grammar.specs.Grammars.{one, empty}
use Rattle.grammar.specs.Readers.{Reads, Halts, Tells}
use Rattle.grammar.proofs.Reading.{past, reads_past, reads_same, into_rule}
use Rattle.grammar.proofs.Sequences.{then_reads, then_halts}
use Rattle.grammar.proofs.Ways.{one_is}
use Rattle.grammar.proofs.Completed.{first_fault}
use Rattle.endpoint_grammar.specs.Written.{Units}
use Rattle.endpoint_grammar.specs.Grammar.{word, mark, units, units_of, endpoints}
use Rattle.endpoint_grammar.specs.Values.{rules, units_from}
use Rattle.endpoint_grammar.proofs.Clear.{rules_clear, endpoints_clear}
use Rattle.endpoint_reader.specs.declared.input.Input.{Input}
use Rattle.endpoint_reader.specs.Tokens.{lexeme_of, from}
use Rattle.endpoint_reader.proofs.Ends.{from_first}
use Rattle.endpoint_units.specs.Wholes.{IsWritten, IsRefusal, nameless}
use Rattle.endpoint_units.proofs.Entering.{alone}

module _ {ts us vs ws : List Lexeme} where
  pub file_told : {u : Units} → Reads rules (word (codes "endpoints")) ts tt us → Reads rules (one (exactly 1)) us tt vs → Reads rules (mark Semicolon) vs tt ws → Tells rules (units_of 64) (units_from 64) ws u [] → Reads rules endpoints ts (tt, (tt, u)) []
  file_told a b s t = then_reads a (then_reads b (reads_same _ t.is (reads_past _ (into_rule _ (units 64) (one_is _ s.is).stands) t.reads)))

  pub file_halts : {d : Denied} → Reads rules (word (codes "endpoints")) ts tt us → Reads rules (one (exactly 1)) us tt vs → Reads rules (mark Semicolon) vs tt ws → Halts rules (units_of 64) ws d → Halts rules endpoints ts d
  file_halts a b s h = then_halts a (then_halts b (past _ (into_rule _ (units 64) (one_is _ s.is).stands) h))

from_start : (i : Input) → from i 0 ≡ map (lexeme_of i) i.tokens.now.items
from_start i = ap (map (lexeme_of i)) (from_first i.tokens.now.items)

pub written_by : {u : Units} (i : Input) → Reads rules endpoints (from i 0) (tt, (tt, u)) [] → IsWritten (map (lexeme_of i) i.tokens.now.items) u
written_by {u} i r = subst (λ ts. IsWritten ts u) (from_start i) (record { value = (tt, (tt, u)); is = r.is; units = refl })

refusal_of : (ts : List Lexeme) (d : Denied) → Halts rules endpoints ts d → IsRefusal ts (nameless d)
refusal_of ts (Refused f) h = (first_fault rules rules_clear endpoints ts f.rule f.place endpoints_clear (sym (alone rules endpoints ts) ∙ h.by f refl empty), refl)
refusal_of ts Memory h = tt

pub refused_by : (i : Input) (d e : Denied) → Halts rules endpoints (from i 0) d → e ≡ nameless d → IsRefusal (map (lexeme_of i) i.tokens.now.items) e
refused_by i d e h s = subst (λ ts. IsRefusal ts e) (from_start i) (subst (λ x. IsRefusal (from i 0) x) (sym s) (refusal_of (from i 0) d h))
