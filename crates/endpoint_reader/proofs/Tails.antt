-- Tails by their first words.
use Rattle.std.proofs.Common.{◌≡◌, ◌-◌, ◌<◌, ℕ, inl, inr, true, false, List, ◌∷◌, Some, length, codes, refl, sym, ap, ◌∙◌, subst, arith}
use Rattle.std.specs.Prelude.{bytes_eq}
use Rattle.std.proofs.lemmas.Slice.Eq.{bytes_eq-Decides}
use Rattle.chor_base.specs.declared.rule.Place.{Place}
use Rattle.chor_base.specs.declared.rule.Rule.TheVariants.{E4}
use Rattle.chor_base.specs.declared.rule.Denied.{Denied}
use Rattle.chor_base.specs.declared.rule.Denied.TheVariants.{Memory}
use Rattle.chor_lexer.specs.Lexeme.{Symbol, word, number, text, mark, last, Lexeme}
use Rattle.grammar.specs.Classes.{a_word, a_kept_word, is_of}
use Rattle.grammar.specs.Grammars.{within, is_full}
use Rattle.grammar.specs.Readers.{Reads, Halts, Leads, HasOne, Stands, Begins, Misses, Refuses, Tells}
use Rattle.grammar.proofs.Reading.{past, reads_past, leads_on, after_reads, token_comes, token_misses, token_reads, comes_then, comes_first, comes_second, misses_then, misses_both, misses_within, first_of_two, second_of_two, begun_by, begins, has_room, full_halts, missed, memory_halts, other_stands}
use Rattle.endpoint_grammar.specs.Written.{Body, Ends}
use Rattle.endpoint_grammar.specs.Grammar.{tail, branch, conditional, signature}
use Rattle.endpoint_grammar.specs.Values.{rules, last_node}
use Rattle.endpoint_reader.specs.declared.input.Input.{Input}
use Rattle.endpoint_reader.specs.declared.lines.LineId.{LineId}
use Rattle.endpoint_reader.specs.declared.lines.Line.{Line}
use Rattle.endpoint_reader.specs.declared.tail.TailWord.{TailWord}
use Rattle.endpoint_reader.specs.declared.tail.TailWord.TheVariants as begun
use Rattle.endpoint_reader.specs.Tokens.{from}
use Rattle.endpoint_reader.specs.Tails.{kept_word, TailStands, IsTailWord, IsNoTailWord}
use Rattle.endpoint_reader.proofs.Operands.{lacks}
use Rattle.endpoint_reader.specs.Lines.{body_at}
use Rattle.endpoint_reader.specs.Bodies.{IsEndLine, branch_body, conditional_body, call_body}

same_bytes : (w v : List ℕ) → bytes_eq w v ≡ true → w ≡ v
same_bytes w v h = (bytes_eq-Decides w v).0 h

clash : false ≡ true → ⊥
clash h = cc

-- a word that is kept is a word
said_word : (w : List ℕ) (s : Symbol) → is_of (a_word w) s ≡ true → s ≡ word w
said_word w (word v) h = ap word (sym (same_bytes w v h))
said_word w (number n) h = absurd (clash h)
said_word w (text t) h = absurd (clash h)
said_word w (mark m) h = absurd (clash h)
said_word w last h = absurd (clash h)

kept_lacks : (w : List ℕ) (s : Symbol) → is_of (a_word w) s ≡ false → is_of (a_kept_word w) s ≡ false
kept_lacks w (word v) h = h
kept_lacks w (number n) h = refl
kept_lacks w (text t) h = refl
kept_lacks w (mark m) h = refl
kept_lacks w last h = refl

call_stands : {p : Place} {ts us : List Lexeme} (l : Lexeme) → ts ≡ l ∷ us → is_of (a_word (codes "call")) l.symbol ≡ true → l.place ≡ p → Stands (a_kept_word (codes "call")) (kept_word (codes "call") p) ts us
call_stands {us = us} l e i q =
    let s : l.symbol ≡ word (codes "call") = said_word (codes "call") l.symbol i in
    record { parts = e ∙ (λ j. record { symbol = s j; place = q j } ∷ us); is = refl }

pub tail_stands : {ts us : List Lexeme} (l : Lexeme) (w : TailWord) → ts ≡ l ∷ us → IsTailWord w l → TailStands w ts us
tail_stands l begun.Branch e h = record { token = l; stands = record { parts = e; is = h } }
tail_stands l begun.If e h = record { token = l; stands = record { parts = e; is = h } }
tail_stands l (begun.Call p) e h = call_stands l e h.0 h.1
tail_stands l begun.End e h = record { token = l; stands = record { parts = e; is = h } }

pub no_tail : {ts us : List Lexeme} {l : Lexeme} (p : ℕ) → ts ≡ l ∷ us → IsNoTailWord l.symbol → Misses rules (tail p) ts
no_tail {l = l} p e n = misses_both _ (misses_then _ (token_misses _ (lacks e n.branch))) (misses_both _ (misses_then _ (token_misses _ (lacks e n.conditional))) (misses_both _ (misses_then _ (token_misses _ (lacks e (kept_lacks (codes "call") l.symbol n.call)))) (token_misses _ (lacks e n.end))))

tail_begins : {p : ℕ} (ts us : List Lexeme) (w : TailWord) → TailStands w ts us → Begins rules (tail p) ts
tail_begins ts us begun.Branch h = begun_by _ (comes_first _ (comes_then _ (token_comes _ h.stands)))
tail_begins ts us begun.If h = begun_by _ (comes_second _ (misses_then _ (token_misses _ (other_stands rules refl h.stands))) (comes_first _ (comes_then _ (token_comes _ h.stands))))
tail_begins ts us (begun.Call q) s = begun_by _ (comes_second _ (misses_then _ (token_misses _ (other_stands rules refl s))) (comes_second _ (misses_then _ (token_misses _ (other_stands rules refl s))) (comes_first _ (comes_then _ (token_comes _ s)))))
tail_begins ts us begun.End h = begun_by _ (comes_second _ (misses_then _ (token_misses _ (other_stands rules refl h.stands))) (comes_second _ (misses_then _ (token_misses _ (other_stands rules refl h.stands))) (comes_second _ (misses_then _ (token_misses _ (other_stands rules refl h.stands))) (token_comes _ h.stands))))

pub stands_as : {v w : TailWord} (ts us : List Lexeme) → v ≡ w → TailStands v ts us → TailStands w ts us
stands_as ts us e h = subst (λ (x : TailWord). TailStands x ts us) e h

pub stands_shorter : (ts us : List Lexeme) (w : TailWord) → TailStands w ts us → length us < length ts
stands_shorter ts us begun.Branch h = omega (arith, ap length h.stands.parts)
stands_shorter ts us begun.If h = omega (arith, ap length h.stands.parts)
stands_shorter ts us (begun.Call q) s = omega (arith, ap length s.parts)
stands_shorter ts us begun.End h = omega (arith, ap length h.stands.parts)

pub tail_full : {n : ℕ} {d : Denied} (ts us : List Lexeme) (w : TailWord) → is_full (Some n) ≡ true → TailStands w ts us → Refuses E4 ts d → Halts rules (within E4 (Some n) (tail (n - 1))) ts d
tail_full ts us w f h r = full_halts _ f (begins _ (tail_begins ts us w h)) r

pub tail_missed : {n : ℕ} {ts : List Lexeme} {d : Denied} → ((p : ℕ) → Misses rules (tail p) ts) → Refuses rules.wrong ts d → Halts rules (within E4 (Some n) (tail (n - 1))) ts d
tail_missed {n = n} m r = missed _ (misses_within _ (m (n - 1))) r

module _ {ts us : List Lexeme} where
  to_branch : {p : ℕ} → HasOne (a_word (codes "branch")) ts us → Leads rules (tail p) ts (branch p) us (λ v. inl (tt, v))
  to_branch h = leads_on _ (first_of_two _ (comes_then _ (token_comes _ h.stands))) (after_reads _ (token_reads _ h.stands))

  to_conditional : {p : ℕ} → HasOne (a_word (codes "if")) ts us → Leads rules (tail p) ts (conditional p) us (λ v. inr (inl (tt, v)))
  to_conditional h = leads_on _ (second_of_two _ (misses_then _ (token_misses _ (other_stands rules refl h.stands)))) (leads_on _ (first_of_two _ (comes_then _ (token_comes _ h.stands))) (after_reads _ (token_reads _ h.stands)))

  to_call : {p : ℕ} {l : Lexeme} → Stands (a_kept_word (codes "call")) l ts us → Leads rules (tail p) ts signature us (λ v. inr (inr (inl (l, v))))
  to_call s = leads_on _ (second_of_two _ (misses_then _ (token_misses _ (other_stands rules refl s)))) (leads_on _ (second_of_two _ (misses_then _ (token_misses _ (other_stands rules refl s)))) (leads_on _ (first_of_two _ (comes_then _ (token_comes _ s))) (after_reads _ (token_reads _ s))))

  end_reads : {p : ℕ} → HasOne (a_word (codes "end")) ts us → Reads rules (tail p) ts (inr (inr (inr tt))) us
  end_reads h = reads_past _ (second_of_two _ (misses_then _ (token_misses _ (other_stands rules refl h.stands)))) (reads_past _ (second_of_two _ (misses_then _ (token_misses _ (other_stands rules refl h.stands)))) (reads_past _ (second_of_two _ (misses_then _ (token_misses _ (other_stands rules refl h.stands)))) (token_reads _ h.stands)))

  -- ---- where there is room

  module _ {n : ℕ} where
    module _ {vs : List Lexeme} {b : Body} where
      pub branch_told : is_full (Some n) ≡ false → HasOne (a_word (codes "branch")) ts us → Tells rules (branch (n - 1)) (branch_body (n - 1)) us b vs → Tells rules (within E4 (Some n) (tail (n - 1))) (last_node (n - 1)) ts b vs
      branch_told f h t = record { value = inl (tt, t.value); reads = reads_past _ (has_room _ f) (reads_past _ (to_branch h) t.reads); is = t.is }

      pub conditional_told : is_full (Some n) ≡ false → HasOne (a_word (codes "if")) ts us → Tells rules (conditional (n - 1)) (conditional_body (n - 1)) us b vs → Tells rules (within E4 (Some n) (tail (n - 1))) (last_node (n - 1)) ts b vs
      conditional_told f h t = record { value = inr (inl (tt, t.value)); reads = reads_past _ (has_room _ f) (reads_past _ (to_conditional h) t.reads); is = t.is }

      pub call_told : {l : Lexeme} → is_full (Some n) ≡ false → Stands (a_kept_word (codes "call")) l ts us → Tells rules signature (call_body l) us b vs → Tells rules (within E4 (Some n) (tail (n - 1))) (last_node (n - 1)) ts b vs
      call_told {l = l} f s t = record { value = inr (inr (inl (l, t.value))); reads = reads_past _ (has_room _ f) (reads_past _ (to_call s) t.reads); is = t.is }

    end_told : {b : Body} → is_full (Some n) ≡ false → HasOne (a_word (codes "end")) ts us → Ends ≡ b → Tells rules (within E4 (Some n) (tail (n - 1))) (last_node (n - 1)) ts b us
    end_told f h e = record { value = inr (inr (inr tt)); reads = reads_past _ (has_room _ f) (end_reads h); is = e }

    module _ {d : Denied} where
      pub branch_halts : is_full (Some n) ≡ false → HasOne (a_word (codes "branch")) ts us → Halts rules (branch (n - 1)) us d → Halts rules (within E4 (Some n) (tail (n - 1))) ts d
      branch_halts f h t = past _ (has_room _ f) (past _ (to_branch h) t)

      pub conditional_halts : is_full (Some n) ≡ false → HasOne (a_word (codes "if")) ts us → Halts rules (conditional (n - 1)) us d → Halts rules (within E4 (Some n) (tail (n - 1))) ts d
      conditional_halts f h t = past _ (has_room _ f) (past _ (to_conditional h) t)

      pub call_halts : {l : Lexeme} → is_full (Some n) ≡ false → Stands (a_kept_word (codes "call")) l ts us → Halts rules signature us d → Halts rules (within E4 (Some n) (tail (n - 1))) ts d
      call_halts f s t = past _ (has_room _ f) (past _ (to_call s) t)

pub end_line : {n after : ℕ} {ts : List Lexeme} {ls : List Line} {x : LineId × ℕ} (i : Input) → is_full (Some n) ≡ false → HasOne (a_word (codes "end")) ts (from i after) → IsEndLine after ls x → Tells rules (within E4 (Some n) (tail (n - 1))) (last_node (n - 1)) ts (body_at i ls x.0) (from i x.1)
end_line {ts = ts} i f h e = end_told f (subst (λ (k : ℕ). HasOne (a_word (codes "end")) ts (from i k)) (sym e.after) h) (sym (e.body i))

pub memory_tail : {n : ℕ} {ts : List Lexeme} {d : Denied} → d ≡ Memory → Halts rules (within E4 (Some n) (tail (n - 1))) ts d
memory_tail e = memory_halts _ e
