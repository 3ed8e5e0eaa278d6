-- Bodies: how their readers go on.
use Rattle.std.proofs.Common.{◌≡◌, ◌-◌, ◌<◌, ℕ, inl, inr, List, [], ◌∷◌, ◌++◌, Option, Some, None, IfSome, IfNone, length, length-append, refl, ap, ◌∙◌, sym, subst, map, Result, Ok, Err, OnOk, arith}
use Rattle.chor_base.specs.declared.rule.Rule.TheVariants.{E1, E4}
use Rattle.chor_base.specs.declared.rule.Denied.{Denied}
use Rattle.chor_lexer.specs.Lexeme.{Lexeme}
use Rattle.chor_lexer.specs.declared.mark.Mark.TheVariants.{Semicolon, OpenBrace, CloseBrace}
use Rattle.grammar.specs.Classes.{a_mark}
use Rattle.grammar.specs.Grammars.{within, seq, after}
use Rattle.grammar.specs.Readers.{Reads, Halts, Leads, Begins, Misses, Missed, Tells}
use Rattle.grammar.proofs.Reading.{past, reads_past, reads_same, leads_on, after_reads, first_halts, first_of_two, second_of_two, comes_then, comes_within, misses_then, misses_within, begins, into_rule, missed, rule_misses}
use Rattle.grammar.proofs.Sequences.{then_reads, then_halts, now_halts}
use Rattle.grammar.proofs.Ways.{one_is}
use Rattle.endpoint_grammar.specs.Written.{Body, Does, Deed}
use Rattle.endpoint_grammar.specs.Grammar.{mark, node, tail, lines, lines_of, body}
use Rattle.endpoint_grammar.specs.Values.{rules, deed, body_of, last_node}
use Rattle.endpoint_reader.specs.declared.input.Input.{Input}
use Rattle.endpoint_reader.specs.declared.node.Action.{Action}
use Rattle.endpoint_reader.specs.declared.lines.LineId.{LineId}
use Rattle.endpoint_reader.specs.declared.lines.Line.{Line}
use Rattle.endpoint_reader.specs.declared.lines.Line.TheVariants.{Act}
use Rattle.endpoint_reader.specs.Nodes.{deed_of}
use Rattle.endpoint_reader.specs.Lines.{body_at, does_all, Going}
use Rattle.endpoint_reader.specs.Bodies.{Grows}
use Rattle.endpoint_reader.proofs.Tables.{grows_none, grows_by, grows_on, last_there, body_pushed}

-- ---- { node ";" }

does_push : (i : Input) (xs : List Action) (x : Action) (b : Body) → does_all (map (deed_of i) xs) (Does (deed_of i x) b) ≡ does_all (map (deed_of i) (xs ++ x ∷ [])) b
does_push i [] x b = refl
does_push i (y ∷ ys) x b = ap (Does (deed_of i y)) (does_push i ys x b)

node_comes : {n : ℕ} {ts : List Lexeme} → Begins rules node ts → Leads rules (lines_of n) ts (seq (within E4 (Some n) node) (after (a_mark Semicolon) (lines (n - 1)))) ts inl
node_comes b = first_of_two _ (comes_then _ (comes_within _ (begins _ b)))

module _ {i : Input} {room : ℕ} {ts : List Lexeme} where
  pub going_begins : {xs : List Action} → xs ≡ [] → Going i room ts xs room ts
  going_begins e = record { whole = λ v. v; leads = record { on = λ h. refl; is = λ y rest d. d }; is = λ v. ap (λ ys. does_all (map (deed_of i) ys) (body_of room v)) (sym e) }

  going_on : {xs zs : List Action} {left : ℕ} {us vs ws : List Lexeme} (x : Action) → Going i room ts xs left us → Begins rules node us → Tells rules (within E4 (Some left) node) deed us (deed_of i x) vs → Reads rules (mark Semicolon) vs tt ws → zs ≡ xs ++ x ∷ [] → Going i room ts zs (left - 1) ws
  going_on {xs} {zs} {left} x a b t s e = record {
    whole = λ v. a.whole (inl (t.value, body_of (left - 1) v));
    leads = leads_on _ a.leads (leads_on _ (node_comes b) (leads_on _ (after_reads _ t.reads) (into_rule _ (lines (left - 1)) (one_is _ s.is).stands)));
    is = λ v. a.is (inl (t.value, body_of (left - 1) v)) ∙ ap (λ d. does_all (map (deed_of i) xs) (Does d (body_of (left - 1) v))) t.is
        ∙ does_push i xs x (body_of (left - 1) v) ∙ ap (λ ys. does_all (map (deed_of i) ys) (body_of (left - 1) v)) (sym e);
  }

  pub going_goes : {xs zs : List Action} {left new : ℕ} {us vs ws : List Lexeme} (x : Action) → Going i room ts xs left us → Begins rules node us → Tells rules (within E4 (Some left) node) deed us (deed_of i x) vs → Reads rules (mark Semicolon) vs tt ws → zs ≡ xs ++ x ∷ [] → new ≡ left - 1 → Going i room ts zs new ws
  going_goes {zs = zs} {ws = ws} x a b t s e n = subst (λ (k : ℕ). Going i room ts zs k ws) (sym n) (going_on x a b t s e)

  pub going_halts : {xs : List Action} {left : ℕ} {us : List Lexeme} {d : Denied} → Going i room ts xs left us → Begins rules node us → Halts rules (within E4 (Some left) node) us d → Halts rules (lines_of room) ts d
  going_halts a b h = past _ a.leads (past _ (node_comes b) (first_halts _ h))

  pub going_open : {xs : List Action} {left : ℕ} {us vs : List Lexeme} {x : Deed} {d : Denied} → Going i room ts xs left us → Begins rules node us → Tells rules (within E4 (Some left) node) deed us x vs → Missed E1 (a_mark Semicolon) vs d → Halts rules (lines_of room) ts d
  going_open a b t m = past _ a.leads (past _ (node_comes b) (past _ (after_reads _ t.reads) (missed _ (rule_misses _ m.lacks) m.refuses)))

-- ---- what a reader of a node answered

pub node_there : (i : Input) (left : ℕ) (ts : List Lexeme) (from : ℕ → List Lexeme) (o : Option (Action × ℕ)) (x : Action × ℕ) → IfSome o (λ y. Tells rules (within E4 (Some left) node) deed ts (deed_of i y.0) (from y.1)) → o ≡ Some x → Tells rules (within E4 (Some left) node) deed ts (deed_of i x.0) (from x.1)
node_there i left ts from o x h e = subst (λ (q : Option (Action × ℕ)). IfSome q (λ y. Tells rules (within E4 (Some left) node) deed ts (deed_of i y.0) (from y.1))) e h

pub begins_there : (ts : List Lexeme) (o : Option (Action × ℕ)) (x : Action × ℕ) → IfSome o (λ y. Begins rules node ts) → o ≡ Some x → Begins rules node ts
begins_there ts o x h e = subst (λ (q : Option (Action × ℕ)). IfSome q (λ y. Begins rules node ts)) e h

pub none_there : (ts : List Lexeme) (o : Option (Action × ℕ)) → IfNone o (Misses rules node ts) → o ≡ None → Misses rules node ts
none_there ts o h e = subst (λ (q : Option (Action × ℕ)). IfNone q (Misses rules node ts)) e h

-- ---- "{" { node ";" } tail "}"

-- where no node comes, the tail is left
tail_left : {p : ℕ} {ts : List Lexeme} → Misses rules node ts → Leads rules (lines_of p) ts (within E4 (Some p) (tail (p - 1))) ts inr
tail_left m = second_of_two _ (misses_then _ (misses_within _ m))

pub body_closed : {p : ℕ} {ts : List Lexeme} {d : Denied} → Missed E1 (a_mark OpenBrace) ts d → Halts rules (body p) ts d
body_closed m = now_halts (missed _ (rule_misses _ m.lacks) m.refuses)

module _ {p : ℕ} {ts us : List Lexeme} where
  pub lines_halt : {d : Denied} → Reads rules (mark OpenBrace) ts tt us → Halts rules (lines_of p) us d → Halts rules (body p) ts d
  lines_halt o h = now_halts (past _ (into_rule _ (lines p) (one_is _ o.is).stands) h)

  module _ {i : Input} {left : ℕ} {vs : List Lexeme} {xs : List Action} where
    pub tail_halts : {d : Denied} → Reads rules (mark OpenBrace) ts tt us → Going i p us xs left vs → Misses rules node vs → Halts rules (within E4 (Some left) (tail (left - 1))) vs d → Halts rules (body p) ts d
    tail_halts o g m h = lines_halt o (past _ g.leads (past _ (tail_left m) h))

    module _ {b : Body} {ws : List Lexeme} where
      lines_read : Reads rules (mark OpenBrace) ts tt us → Going i p us xs left vs → Misses rules node vs → Tells rules (within E4 (Some left) (tail (left - 1))) (last_node (left - 1)) vs b ws
          → Reads rules (after (a_mark OpenBrace) (lines p)) ts (does_all (map (deed_of i) xs) b) ws
      lines_read o g m t = reads_same _ (g.is (inr t.value) ∙ ap (does_all (map (deed_of i) xs)) t.is)
          (reads_past _ (into_rule _ (lines p) (one_is _ o.is).stands) (reads_past _ g.leads (reads_past _ (tail_left m) t.reads)))

      pub body_open : {d : Denied} → Reads rules (mark OpenBrace) ts tt us → Going i p us xs left vs → Misses rules node vs → Tells rules (within E4 (Some left) (tail (left - 1))) (last_node (left - 1)) vs b ws
          → Halts rules (mark CloseBrace) ws d → Halts rules (body p) ts d
      body_open o g m t h = then_halts (lines_read o g m t) h

      pub body_told : {whole : Body} {zs : List Lexeme} → Reads rules (mark OpenBrace) ts tt us → Going i p us xs left vs → Misses rules node vs → Tells rules (within E4 (Some left) (tail (left - 1))) (last_node (left - 1)) vs b ws
          → Reads rules (mark CloseBrace) ws tt zs → whole ≡ does_all (map (deed_of i) xs) b → Reads rules (body p) ts (whole, tt) zs
      body_told o g m t c e = then_reads (reads_same _ (sym e) (lines_read o g m t)) c

-- ---- actions before a line

-- what is left to push, before what was pushed
pub record Pushing (first : List Line) (xs : List Action) (last : LineId) (ls : List Line) (left : List Action) (next : LineId) : Type 0 where
  pub body : (i : Input) → does_all (map (deed_of i) left) (body_at i ls next) ≡ does_all (map (deed_of i) xs) (body_at i first last)
  pub there : next.0 < length ls
  pub grows : Grows first ls

pub pushing_begins : {ls : List Line} {xs : List Action} {last : LineId} → last.0 < length ls → Pushing ls xs last ls xs last
pushing_begins {ls = ls} lt = record { body = λ i. refl; there = lt; grows = grows_none ls }

pub pushing_goes : {first ls new : List Line} {xs left rest : List Action} {last next id : LineId} (x : Action) → Pushing first xs last ls left next → left ≡ rest ++ x ∷ [] → new ≡ ls ++ Act x next ∷ [] → id.0 ≡ length ls → Pushing first xs last new rest id
pushing_goes {ls = ls} {rest = rest} {next = next} x p e made at = record {
  body = λ i. ap (does_all (map (deed_of i) rest)) (body_pushed i ls (Act x next) made at) ∙ does_push i rest x (body_at i ls next) ∙ ap (λ ys. does_all (map (deed_of i) ys) (body_at i ls next)) (sym e) ∙ p.body i;
  there = last_there ls (Act x next) made at;
  grows = grows_on p.grows (grows_by (Act x next) made);
}

no_action : (i : Input) (xs : List Action) (b : Body) → length xs ≡ 0 → b ≡ does_all (map (deed_of i) xs) b
no_action i [] b e = refl
no_action i (x ∷ xs) b e = absurd (omega arith)

pub all_pushed : {first ls : List Line} {xs left : List Action} {last next : LineId} → Pushing first xs last ls left next → length left ≡ 0 → (i : Input) → body_at i ls next ≡ does_all (map (deed_of i) xs) (body_at i first last)
all_pushed {ls = ls} {left = left} {next = next} p e i = no_action i left (body_at i ls next) e ∙ p.body i

pub pushed_smaller : {left : List Action} (rest : List Action) (x : Action) → left ≡ rest ++ x ∷ [] → length rest < length left
pushed_smaller rest x e = omega (arith, ap length e, length-append rest (x ∷ []))

pub ok_then : {X : Type 0} {P Q : Type 0} (r : Result X Denied) → OnOk r P → (P → Q) → OnOk r Q
ok_then (Ok x) p f = f p
ok_then (Err d) p f = tt
