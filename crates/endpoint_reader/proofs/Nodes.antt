-- Nodes by their first words.
use Rattle.std.proofs.Common.{◌≡◌, ℕ, false, true, List, ◌∷◌, Some, OnErr, ◌∙◌, Result, Ok, Err, ap, refl, sym, codes}
use Rattle.chor_base.specs.declared.rule.Rule.TheVariants.{E4}
use Rattle.chor_base.specs.declared.rule.Denied.{Denied}
use Rattle.chor_lexer.specs.Lexeme.{Symbol, Lexeme}
use Rattle.chor_lexer.specs.declared.mark.Mark.TheVariants.{OpenParen, Comma, CloseParen}
use Rattle.grammar.specs.Classes.{a_word, is_of}
use Rattle.grammar.specs.Grammars.{within, is_full}
use Rattle.grammar.specs.Readers.{Reads, Halts, HasOne, Lacks, Stands, Begins, Misses, Tells, Refuses}
use Rattle.grammar.proofs.Reading.{begun_by, begins, token_comes, token_misses, token_reads, comes_then, comes_first, comes_second, misses_then, misses_both, first_of_two, second_of_two, after_reads, past, reads_past, has_room, full_halts, other_stands}
use Rattle.grammar.proofs.Sequences.{then_reads}
use Rattle.endpoint_grammar.specs.Written.{Phrase, Deed, Sends, Sets, Asks}
use Rattle.endpoint_grammar.specs.Grammar.{NAME, node, mark, two_names, three_names, send, set, host, expr}
use Rattle.endpoint_grammar.specs.Values.{rules, deed, phrase}
use Rattle.endpoint_reader.specs.declared.node.Exchange.{Exchange}
use Rattle.endpoint_reader.specs.declared.node.Exchange.TheVariants as exchange
use Rattle.endpoint_reader.specs.declared.node.NodeWord.{NodeWord}
use Rattle.endpoint_reader.specs.declared.node.NodeWord.TheVariants as begun
use Rattle.endpoint_reader.specs.Nodes.{exchange_word, first_word, rest_of, exchanged, deed_by}
use Rattle.endpoint_reader.proofs.Operands.{lacks}

node_comes : {ts us : List Lexeme} {l : Lexeme} (w : NodeWord) → Stands (a_word (first_word w)) l ts us → Begins rules node ts
node_comes begun.Join s = begun_by _ (comes_first _ (comes_then _ (token_comes _ s)))
node_comes begun.Send s = begun_by _ (comes_second _ (misses_then _ (token_misses _ (other_stands rules refl s))) (comes_first _ (comes_then _ (token_comes _ s))))
node_comes (begun.Exchange exchange.Recv) s = begun_by _ (comes_second _ (misses_then _ (token_misses _ (other_stands rules refl s))) (comes_second _ (misses_then _ (token_misses _ (other_stands rules refl s))) (comes_first _ (comes_then _ (token_comes _ s)))))
node_comes (begun.Exchange exchange.Pick) s = begun_by _ (comes_second _ (misses_then _ (token_misses _ (other_stands rules refl s))) (comes_second _ (misses_then _ (token_misses _ (other_stands rules refl s))) (comes_second _ (misses_then _ (token_misses _ (other_stands rules refl s))) (comes_first _ (comes_then _ (token_comes _ s))))))
node_comes (begun.Exchange exchange.Give) s = begun_by _ (comes_second _ (misses_then _ (token_misses _ (other_stands rules refl s))) (comes_second _ (misses_then _ (token_misses _ (other_stands rules refl s))) (comes_second _ (misses_then _ (token_misses _ (other_stands rules refl s))) (comes_second _ (misses_then _ (token_misses _ (other_stands rules refl s))) (comes_first _ (comes_then _ (token_comes _ s)))))))
node_comes (begun.Exchange exchange.Gain) s = begun_by _ (comes_second _ (misses_then _ (token_misses _ (other_stands rules refl s))) (comes_second _ (misses_then _ (token_misses _ (other_stands rules refl s))) (comes_second _ (misses_then _ (token_misses _ (other_stands rules refl s))) (comes_second _ (misses_then _ (token_misses _ (other_stands rules refl s))) (comes_second _ (misses_then _ (token_misses _ (other_stands rules refl s))) (comes_first _ (comes_then _ (token_comes _ s))))))))
node_comes begun.Set s = begun_by _ (comes_second _ (misses_then _ (token_misses _ (other_stands rules refl s))) (comes_second _ (misses_then _ (token_misses _ (other_stands rules refl s))) (comes_second _ (misses_then _ (token_misses _ (other_stands rules refl s))) (comes_second _ (misses_then _ (token_misses _ (other_stands rules refl s))) (comes_second _ (misses_then _ (token_misses _ (other_stands rules refl s))) (comes_second _ (misses_then _ (token_misses _ (other_stands rules refl s))) (comes_first _ (comes_then _ (token_comes _ s)))))))))
node_comes begun.Show s = begun_by _ (comes_second _ (misses_then _ (token_misses _ (other_stands rules refl s))) (comes_second _ (misses_then _ (token_misses _ (other_stands rules refl s))) (comes_second _ (misses_then _ (token_misses _ (other_stands rules refl s))) (comes_second _ (misses_then _ (token_misses _ (other_stands rules refl s))) (comes_second _ (misses_then _ (token_misses _ (other_stands rules refl s))) (comes_second _ (misses_then _ (token_misses _ (other_stands rules refl s))) (comes_second _ (misses_then _ (token_misses _ (other_stands rules refl s))) (comes_first _ (comes_then _ (token_comes _ s))))))))))
node_comes begun.Host s = begun_by _ (comes_second _ (misses_then _ (token_misses _ (other_stands rules refl s))) (comes_second _ (misses_then _ (token_misses _ (other_stands rules refl s))) (comes_second _ (misses_then _ (token_misses _ (other_stands rules refl s))) (comes_second _ (misses_then _ (token_misses _ (other_stands rules refl s))) (comes_second _ (misses_then _ (token_misses _ (other_stands rules refl s))) (comes_second _ (misses_then _ (token_misses _ (other_stands rules refl s))) (comes_second _ (misses_then _ (token_misses _ (other_stands rules refl s))) (comes_second _ (misses_then _ (token_misses _ (other_stands rules refl s))) (comes_then _ (token_comes _ s))))))))))

pub node_begins : {ts us : List Lexeme} (w : NodeWord) → HasOne (a_word (first_word w)) ts us → Begins rules node ts
node_begins w h = node_comes w h.stands

told_after : {ts us vs : List Lexeme} {l : Lexeme} {x : Deed} (w : NodeWord) → Stands (a_word (first_word w)) l ts us → Tells rules (rest_of w) (deed_by w) us x vs → Tells rules node deed ts x vs
told_after begun.Join s t = record { value = _; reads = (reads_past _ (first_of_two _ (comes_then _ (token_comes _ s))) (reads_past _ (after_reads _ (token_reads _ s)) t.reads)); is = t.is }
told_after begun.Send s t = record { value = _; reads = (reads_past _ (second_of_two _ (misses_then _ (token_misses _ (other_stands rules refl s)))) (reads_past _ (first_of_two _ (comes_then _ (token_comes _ s))) (reads_past _ (after_reads _ (token_reads _ s)) t.reads))); is = t.is }
told_after (begun.Exchange exchange.Recv) s t = record { value = _; reads = (reads_past _ (second_of_two _ (misses_then _ (token_misses _ (other_stands rules refl s)))) (reads_past _ (second_of_two _ (misses_then _ (token_misses _ (other_stands rules refl s)))) (reads_past _ (first_of_two _ (comes_then _ (token_comes _ s))) (reads_past _ (after_reads _ (token_reads _ s)) t.reads)))); is = t.is }
told_after (begun.Exchange exchange.Pick) s t = record { value = _; reads = (reads_past _ (second_of_two _ (misses_then _ (token_misses _ (other_stands rules refl s)))) (reads_past _ (second_of_two _ (misses_then _ (token_misses _ (other_stands rules refl s)))) (reads_past _ (second_of_two _ (misses_then _ (token_misses _ (other_stands rules refl s)))) (reads_past _ (first_of_two _ (comes_then _ (token_comes _ s))) (reads_past _ (after_reads _ (token_reads _ s)) t.reads))))); is = t.is }
told_after (begun.Exchange exchange.Give) s t = record { value = _; reads = (reads_past _ (second_of_two _ (misses_then _ (token_misses _ (other_stands rules refl s)))) (reads_past _ (second_of_two _ (misses_then _ (token_misses _ (other_stands rules refl s)))) (reads_past _ (second_of_two _ (misses_then _ (token_misses _ (other_stands rules refl s)))) (reads_past _ (second_of_two _ (misses_then _ (token_misses _ (other_stands rules refl s)))) (reads_past _ (first_of_two _ (comes_then _ (token_comes _ s))) (reads_past _ (after_reads _ (token_reads _ s)) t.reads)))))); is = t.is }
told_after (begun.Exchange exchange.Gain) s t = record { value = _; reads = (reads_past _ (second_of_two _ (misses_then _ (token_misses _ (other_stands rules refl s)))) (reads_past _ (second_of_two _ (misses_then _ (token_misses _ (other_stands rules refl s)))) (reads_past _ (second_of_two _ (misses_then _ (token_misses _ (other_stands rules refl s)))) (reads_past _ (second_of_two _ (misses_then _ (token_misses _ (other_stands rules refl s)))) (reads_past _ (second_of_two _ (misses_then _ (token_misses _ (other_stands rules refl s)))) (reads_past _ (first_of_two _ (comes_then _ (token_comes _ s))) (reads_past _ (after_reads _ (token_reads _ s)) t.reads))))))); is = t.is }
told_after begun.Set s t = record { value = _; reads = (reads_past _ (second_of_two _ (misses_then _ (token_misses _ (other_stands rules refl s)))) (reads_past _ (second_of_two _ (misses_then _ (token_misses _ (other_stands rules refl s)))) (reads_past _ (second_of_two _ (misses_then _ (token_misses _ (other_stands rules refl s)))) (reads_past _ (second_of_two _ (misses_then _ (token_misses _ (other_stands rules refl s)))) (reads_past _ (second_of_two _ (misses_then _ (token_misses _ (other_stands rules refl s)))) (reads_past _ (second_of_two _ (misses_then _ (token_misses _ (other_stands rules refl s)))) (reads_past _ (first_of_two _ (comes_then _ (token_comes _ s))) (reads_past _ (after_reads _ (token_reads _ s)) t.reads)))))))); is = t.is }
told_after begun.Show s t = record { value = _; reads = (reads_past _ (second_of_two _ (misses_then _ (token_misses _ (other_stands rules refl s)))) (reads_past _ (second_of_two _ (misses_then _ (token_misses _ (other_stands rules refl s)))) (reads_past _ (second_of_two _ (misses_then _ (token_misses _ (other_stands rules refl s)))) (reads_past _ (second_of_two _ (misses_then _ (token_misses _ (other_stands rules refl s)))) (reads_past _ (second_of_two _ (misses_then _ (token_misses _ (other_stands rules refl s)))) (reads_past _ (second_of_two _ (misses_then _ (token_misses _ (other_stands rules refl s)))) (reads_past _ (second_of_two _ (misses_then _ (token_misses _ (other_stands rules refl s)))) (reads_past _ (first_of_two _ (comes_then _ (token_comes _ s))) (reads_past _ (after_reads _ (token_reads _ s)) t.reads))))))))); is = t.is }
told_after begun.Host s t = record { value = _; reads = (reads_past _ (second_of_two _ (misses_then _ (token_misses _ (other_stands rules refl s)))) (reads_past _ (second_of_two _ (misses_then _ (token_misses _ (other_stands rules refl s)))) (reads_past _ (second_of_two _ (misses_then _ (token_misses _ (other_stands rules refl s)))) (reads_past _ (second_of_two _ (misses_then _ (token_misses _ (other_stands rules refl s)))) (reads_past _ (second_of_two _ (misses_then _ (token_misses _ (other_stands rules refl s)))) (reads_past _ (second_of_two _ (misses_then _ (token_misses _ (other_stands rules refl s)))) (reads_past _ (second_of_two _ (misses_then _ (token_misses _ (other_stands rules refl s)))) (reads_past _ (second_of_two _ (misses_then _ (token_misses _ (other_stands rules refl s)))) (reads_past _ (after_reads _ (token_reads _ s)) t.reads))))))))); is = t.is }

halts_after : {ts us : List Lexeme} {l : Lexeme} {d : Denied} (w : NodeWord) → Stands (a_word (first_word w)) l ts us → Halts rules (rest_of w) us d → Halts rules node ts d
halts_after begun.Join s h = (past _ (first_of_two _ (comes_then _ (token_comes _ s))) (past _ (after_reads _ (token_reads _ s)) h))
halts_after begun.Send s h = (past _ (second_of_two _ (misses_then _ (token_misses _ (other_stands rules refl s)))) (past _ (first_of_two _ (comes_then _ (token_comes _ s))) (past _ (after_reads _ (token_reads _ s)) h)))
halts_after (begun.Exchange exchange.Recv) s h = (past _ (second_of_two _ (misses_then _ (token_misses _ (other_stands rules refl s)))) (past _ (second_of_two _ (misses_then _ (token_misses _ (other_stands rules refl s)))) (past _ (first_of_two _ (comes_then _ (token_comes _ s))) (past _ (after_reads _ (token_reads _ s)) h))))
halts_after (begun.Exchange exchange.Pick) s h = (past _ (second_of_two _ (misses_then _ (token_misses _ (other_stands rules refl s)))) (past _ (second_of_two _ (misses_then _ (token_misses _ (other_stands rules refl s)))) (past _ (second_of_two _ (misses_then _ (token_misses _ (other_stands rules refl s)))) (past _ (first_of_two _ (comes_then _ (token_comes _ s))) (past _ (after_reads _ (token_reads _ s)) h)))))
halts_after (begun.Exchange exchange.Give) s h = (past _ (second_of_two _ (misses_then _ (token_misses _ (other_stands rules refl s)))) (past _ (second_of_two _ (misses_then _ (token_misses _ (other_stands rules refl s)))) (past _ (second_of_two _ (misses_then _ (token_misses _ (other_stands rules refl s)))) (past _ (second_of_two _ (misses_then _ (token_misses _ (other_stands rules refl s)))) (past _ (first_of_two _ (comes_then _ (token_comes _ s))) (past _ (after_reads _ (token_reads _ s)) h))))))
halts_after (begun.Exchange exchange.Gain) s h = (past _ (second_of_two _ (misses_then _ (token_misses _ (other_stands rules refl s)))) (past _ (second_of_two _ (misses_then _ (token_misses _ (other_stands rules refl s)))) (past _ (second_of_two _ (misses_then _ (token_misses _ (other_stands rules refl s)))) (past _ (second_of_two _ (misses_then _ (token_misses _ (other_stands rules refl s)))) (past _ (second_of_two _ (misses_then _ (token_misses _ (other_stands rules refl s)))) (past _ (first_of_two _ (comes_then _ (token_comes _ s))) (past _ (after_reads _ (token_reads _ s)) h)))))))
halts_after begun.Set s h = (past _ (second_of_two _ (misses_then _ (token_misses _ (other_stands rules refl s)))) (past _ (second_of_two _ (misses_then _ (token_misses _ (other_stands rules refl s)))) (past _ (second_of_two _ (misses_then _ (token_misses _ (other_stands rules refl s)))) (past _ (second_of_two _ (misses_then _ (token_misses _ (other_stands rules refl s)))) (past _ (second_of_two _ (misses_then _ (token_misses _ (other_stands rules refl s)))) (past _ (second_of_two _ (misses_then _ (token_misses _ (other_stands rules refl s)))) (past _ (first_of_two _ (comes_then _ (token_comes _ s))) (past _ (after_reads _ (token_reads _ s)) h))))))))
halts_after begun.Show s h = (past _ (second_of_two _ (misses_then _ (token_misses _ (other_stands rules refl s)))) (past _ (second_of_two _ (misses_then _ (token_misses _ (other_stands rules refl s)))) (past _ (second_of_two _ (misses_then _ (token_misses _ (other_stands rules refl s)))) (past _ (second_of_two _ (misses_then _ (token_misses _ (other_stands rules refl s)))) (past _ (second_of_two _ (misses_then _ (token_misses _ (other_stands rules refl s)))) (past _ (second_of_two _ (misses_then _ (token_misses _ (other_stands rules refl s)))) (past _ (second_of_two _ (misses_then _ (token_misses _ (other_stands rules refl s)))) (past _ (first_of_two _ (comes_then _ (token_comes _ s))) (past _ (after_reads _ (token_reads _ s)) h)))))))))
halts_after begun.Host s h = (past _ (second_of_two _ (misses_then _ (token_misses _ (other_stands rules refl s)))) (past _ (second_of_two _ (misses_then _ (token_misses _ (other_stands rules refl s)))) (past _ (second_of_two _ (misses_then _ (token_misses _ (other_stands rules refl s)))) (past _ (second_of_two _ (misses_then _ (token_misses _ (other_stands rules refl s)))) (past _ (second_of_two _ (misses_then _ (token_misses _ (other_stands rules refl s)))) (past _ (second_of_two _ (misses_then _ (token_misses _ (other_stands rules refl s)))) (past _ (second_of_two _ (misses_then _ (token_misses _ (other_stands rules refl s)))) (past _ (second_of_two _ (misses_then _ (token_misses _ (other_stands rules refl s)))) (past _ (after_reads _ (token_reads _ s)) h)))))))))

pub node_told : {ts us vs : List Lexeme} {n : ℕ} {x : Deed} (w : NodeWord) → is_full (Some n) ≡ false → HasOne (a_word (first_word w)) ts us → Tells rules (rest_of w) (deed_by w) us x vs → Tells rules (within E4 (Some n) node) deed ts x vs
node_told w f h t = let a = told_after w h.stands t in record { value = a.value; reads = reads_past _ (has_room _ f) a.reads; is = a.is }

pub node_halts : {ts us : List Lexeme} {n : ℕ} {d : Denied} (w : NodeWord) → is_full (Some n) ≡ false → HasOne (a_word (first_word w)) ts us → Halts rules (rest_of w) us d → Halts rules (within E4 (Some n) node) ts d
node_halts w f h t = past _ (has_room _ f) (halts_after w h.stands t)

pub node_full : {ts us : List Lexeme} {n : ℕ} {d : Denied} (w : NodeWord) → is_full (Some n) ≡ true → HasOne (a_word (first_word w)) ts us → Refuses E4 ts d → Halts rules (within E4 (Some n) node) ts d
node_full w f h r = full_halts _ f (begins _ (node_begins w h)) r

no_node_word : {ts us : List Lexeme} {l : Lexeme} → ts ≡ l ∷ us → ((w : NodeWord) → is_of (a_word (first_word w)) l.symbol ≡ false) → (w : NodeWord) → Lacks (a_word (first_word w)) ts
no_node_word p n w = lacks p (n w)

pub no_node : {ts us : List Lexeme} {l : Lexeme} → ts ≡ l ∷ us → ((w : NodeWord) → is_of (a_word (first_word w)) l.symbol ≡ false) → Misses rules node ts
no_node {ts = ts} p n =
    let h : (w : NodeWord) → Lacks (a_word (first_word w)) ts = no_node_word p n in
    misses_both _ (misses_then _ (token_misses _ (h begun.Join))) (misses_both _ (misses_then _ (token_misses _ (h begun.Send))) (misses_both _ (misses_then _ (token_misses _ (h (begun.Exchange exchange.Recv)))) (misses_both _ (misses_then _ (token_misses _ (h (begun.Exchange exchange.Pick)))) (misses_both _ (misses_then _ (token_misses _ (h (begun.Exchange exchange.Give)))) (misses_both _ (misses_then _ (token_misses _ (h (begun.Exchange exchange.Gain)))) (misses_both _ (misses_then _ (token_misses _ (h begun.Set))) (misses_both _ (misses_then _ (token_misses _ (h begun.Show))) (misses_then _ (token_misses _ (h begun.Host))))))))))

-- a symbol that is none of these words is none that begins a node
pub no_word : (s : Symbol) → is_of (a_word (codes "join")) s ≡ false → is_of (a_word (codes "send")) s ≡ false → ((w : Exchange) → is_of (a_word (exchange_word w)) s ≡ false) → is_of (a_word (codes "set")) s ≡ false → is_of (a_word (codes "show")) s ≡ false → is_of (a_word (codes "host")) s ≡ false
    → (w : NodeWord) → is_of (a_word (first_word w)) s ≡ false
no_word s j e x t o h begun.Join = j
no_word s j e x t o h begun.Send = e
no_word s j e x t o h (begun.Exchange w) = x w
no_word s j e x t o h begun.Set = t
no_word s j e x t o h begun.Show = o
no_word s j e x t o h begun.Host = h

pub no_exchange : (s : Symbol) → is_of (a_word (codes "recv")) s ≡ false → is_of (a_word (codes "pick")) s ≡ false → is_of (a_word (codes "give")) s ≡ false → is_of (a_word (codes "gain")) s ≡ false
    → (w : Exchange) → is_of (a_word (exchange_word w)) s ≡ false
no_exchange s r p g a exchange.Recv = r
no_exchange s r p g a exchange.Pick = p
no_exchange s r p g a exchange.Give = g
no_exchange s r p g a exchange.Gain = a

-- ---- what comes after the first word

pub exchange_told : {ts us : List Lexeme} {k a x : Lexeme} {y : Deed} (w : Exchange) → Reads rules three_names ts (k, (a, x)) us → y ≡ exchanged w k a x → Tells rules three_names (deed_by (begun.Exchange w)) ts y us
exchange_told {k = k} {a = a} {x = x} w r e = record { value = (k, (a, x)); reads = r; is = sym e }

pub sends_told : {ts us vs : List Lexeme} {k b : Lexeme} {e : Phrase} → Reads rules two_names ts (k, b) us → Tells rules expr phrase us e vs → Tells rules send (deed_by begun.Send) ts (Sends k b e) vs
sends_told {k = k} {b = b} r t = record { value = ((k, b), t.value); reads = then_reads r t.reads; is = ap (Sends k b) t.is }

pub sets_told : {ts us vs : List Lexeme} {x : Lexeme} {e : Phrase} → Reads rules NAME ts x us → Tells rules expr phrase us e vs → Tells rules set (deed_by begun.Set) ts (Sets x e) vs
sets_told {x = x} r t = record { value = (x, t.value); reads = then_reads r t.reads; is = ap (Sets x) t.is }

pub asks_told : {ts us vs ws xs ys zs : List Lexeme} {x f : Lexeme} {d e : Phrase} → Reads rules two_names ts (x, f) us → Reads rules (mark OpenParen) us tt vs → Tells rules expr phrase vs d ws → Reads rules (mark Comma) ws tt xs → Tells rules expr phrase xs e ys → Reads rules (mark CloseParen) ys tt zs
    → Tells rules host (deed_by begun.Host) ts (Asks x f d e) zs
asks_told {x = x} {f = f} {d = d} r o t m u p = record {
  value = ((x, f), (tt, (t.value, (tt, (u.value, tt)))));
  reads = then_reads r (then_reads o (then_reads t.reads (then_reads m (then_reads u.reads p))));
  is = ap (λ y. Asks x f y (phrase u.value)) t.is ∙ ap (Asks x f d) u.is;
}

pub on_err_always : {X : Type 0} {P : Type 0} (r : Result X Denied) → P → OnErr r P
on_err_always (Ok x) p = tt
on_err_always (Err d) p = p
