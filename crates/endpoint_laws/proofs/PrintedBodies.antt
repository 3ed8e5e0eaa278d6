-- Tokens that say code are a body of an endpoint file.
use Rattle.std.proofs.Common.{inl, inr, ◌≡◌, ◌≤◌, ◌-◌, ℕ, zero, suc, true, List, [], ◌∷◌, ◌++◌, length, map, Some, None, refl, sym, ap, ◌∙◌, subst, arith, codes}
use Rattle.std.proofs.lemmas.List.{length-map}
use Rattle.std.proofs.lemmas.Bool.Decides.{nat_tests}
use Rattle.chor_base.specs.declared.names.NameId.{NameId}
use Rattle.chor_base.specs.declared.rule.Rule.TheVariants.{E4}
use Rattle.chor_base.specs.Expr.{Term}
use Rattle.chor_base.specs.Words.{AllDistinct}
use Rattle.chor_lexer.specs.declared.mark.Mark.TheVariants.{OpenBrace, CloseBrace}
use Rattle.chor_lexer.specs.Lexeme.{Symbol, Lexeme, word, mark}
use Rattle.chor_lexer.specs.Spelling.{expr_symbols, SpellAll}
use Rattle.chor_lexer.specs.Tokens.{AreSpelled}
use Rattle.chor_lexer.proofs.ReadBack.{HaveKinds, expr_kinds, numbered}
use Rattle.chor_lexer.proofs.Spelling.{symbols_read_back}
use Rattle.grammar.specs.Classes.{a_mark, a_word, a_kept_word, is_of}
use Rattle.grammar.specs.Grammars.{one, seq, many, nowhere, AreFew, no_token, a_token, Derives, is_one, in_turn, the_first, the_second, none_of_many, one_of_many, with_room, in_short}
use Rattle.endpoint_grammar.specs.Grammar.{lines, disjunction, expr, three_names, body, node, arm, lines_of}
use Rattle.endpoint_grammar.specs.Values.{rules, phrase, deed, arms_of, body_of}
use Rattle.canonical_laws.proofs.WrittenFiles.{spelled_symbols}
use Rattle.endpoint_code.specs.declared.endpoints.Endpoints.{Endpoints}
use Rattle.endpoint_code.specs.Trees.{Action, Joins, Sends, Receives, Selects, Gives, Gains, Sets, Shows, Asks, CodeTree, Does, Offers, Tests, Calls, Ends, Arms, NoArms, Arm}
use Rattle.endpoint_laws.specs.Symbols.{names, expression, action_symbols, code_symbols, arms_symbols}
use Rattle.endpoint_laws.specs.Spelled.{IsNamed, IsWritable, IsActionSpelled, IsCodeSpelled, AreArmsSpelled}
use Rattle.endpoint_laws.specs.Limits.{IsShort, IsActionShort, Fits, EachFits}
use Rattle.endpoint_laws.specs.Says.{Names, phrase_of, DeedSays, joins, sends, receives, selects, gives, gains, sets, shows, asks, BodySays, does, offers, tests, calls, ends, ArmsSay, no_arm, one_arm}
use Rattle.endpoint_laws.proofs.SymbolReading.{Say, First, first, Reads, mark_reads, word_reads, after_reads, room, any_room, name_reads, sessions_read}
use Rattle.endpoint_laws.proofs.Expressions.{or_said}

-- tokens that say two lists of symbols
record Split (ls : List Lexeme) (ss more : List Symbol) : Type 0 where
  front : List Lexeme
  rest : List Lexeme
  parts : ls ≡ front ++ rest
  are : map (λ l. l.symbol) front ≡ ss
  others : Say rest more

split : (ls : List Lexeme) (ss more : List Symbol) → Say ls (ss ++ more) → Split ls ss more
split ls [] more h = record { front = []; rest = ls; parts = refl; are = refl; others = h }
split ls (s ∷ ss) more h =
    let f = first h in
    let r = split f.rest ss more f.others in
    record { front = f.token ∷ r.front; rest = r.rest; parts = f.parts ∙ ap (λ (us : List Lexeme). f.token ∷ us) r.parts; are = λ i. f.is i ∷ r.are i; others = r.others }

-- so few tokens
few : (n : ℕ) (front rest : List Lexeme) → length front ≤ n → AreFew nowhere E4 (Some n) (front ++ rest) rest
few n [] rest h = no_token refl
few zero (l ∷ front) rest h = absurd (omega (arith, h))
few (suc n) (l ∷ front) rest h = a_token l refl (λ full. grind (arith, nat_tests)) (few n front rest (omega (arith, h)))

module _ (e : Endpoints) (dn : AllDistinct e.names) (dt : AllDistinct e.texts) where
  -- ---- expressions

  expression_reads : (t : Term) → IsWritable e t → IsShort e t → {ls : List Lexeme} {ss : List Symbol} → Say ls (expression e t ss) → Reads expr (λ v. phrase v ≡ phrase_of e t) ls ss
  expression_reads t ok fits {ls} {ss} h =
      let s = split ls (expr_symbols e.names e.texts t) ss h in
      let found = numbered e.names e.texts s.front (subst (HaveKinds e.names e.texts) (sym s.are) (expr_kinds e.names e.texts t ok)) in
      let spelled : SpellAll e.names e.texts found.0 (expr_symbols e.names e.texts t) = subst (SpellAll e.names e.texts found.0) s.are (spelled_symbols e.names e.texts found.0 s.front found.1) in
      let said = or_said e (symbols_read_back e.names e.texts t found.0 dn dt ok spelled) s.front found.1 in
      let size : length s.front ≡ length (expr_symbols e.names e.texts t) = sym (length-map s.front (λ (l : Lexeme). l.symbol)) ∙ ap (λ (us : List Symbol). length us) s.are in
      let is : Derives rules nowhere disjunction (s.front ++ s.rest) said.value s.rest = subst (λ (us : List Lexeme). Derives rules nowhere disjunction (s.front ++ s.rest) said.value (us ++ s.rest)) (none said.left said.others) (said.is s.rest) in
      record {
        value = said.value;
        rest = s.rest;
        is = subst (λ (us : List Lexeme). Derives rules nowhere expr us said.value s.rest) (sym s.parts) (in_short (few 255 s.front s.rest (omega (arith, size, fits))) is);
        says = said.says;
        others = s.others;
      }
    where
      none : (left : List Lexeme) → AreSpelled e.names e.texts [] left → left ≡ []
      none [] h = refl
      none (l ∷ left) h = absurd h

  -- ---- what a process does

  -- three names after a word
  record Three (w : List ℕ) (x y z : NameId) (ls : List Lexeme) (ss : List Symbol) : Type 0 where
    first_name : Lexeme
    second_name : Lexeme
    third_name : Lexeme
    rest : List Lexeme
    is : Derives rules nowhere (seq (one (a_word w)) three_names) ls (tt, (first_name, (second_name, third_name))) rest
    is_first : Names e x first_name
    is_second : Names e y second_name
    is_third : Names e z third_name
    others : Say rest ss

  three_read : (w : List ℕ) → is_of (a_word w) (word w) ≡ true → (x y z : NameId) → IsNamed e x × IsNamed e y × IsNamed e z → {ls : List Lexeme} {ss : List Symbol} → Say ls (word w ∷ names e (x ∷ y ∷ z ∷ []) ss) → Three w x y z ls ss
  three_read w ok x y z h k =
      let o = word_reads ok k in
      let a = name_reads e x h.0 o.others in
      let b = name_reads e y h.1 a.others in
      let c = name_reads e z h.2 b.others in
      record {
        first_name = a.value;
        second_name = b.value;
        third_name = c.value;
        rest = c.rest;
        is = in_turn o.is (in_turn a.is (in_turn b.is c.is));
        is_first = a.says;
        is_second = b.says;
        is_third = c.says;
        others = c.others;
      }

  node_reads : (a : Action) → IsActionSpelled e a → IsActionShort e a → {ls : List Lexeme} {ss : List Symbol} → Say ls (action_symbols e a ss) → Reads node (λ v. DeedSays e a (deed v)) ls ss
  node_reads (Joins c r k) h i s =
      let w = word_reads refl s in
      let x = name_reads e c h.0 w.others in
      let o = mark_reads refl x.others in
      let y = name_reads e r h.1 o.others in
      let p = mark_reads refl y.others in
      let q = mark_reads refl p.others in
      let z = name_reads e k h.2 q.others in
      let d = mark_reads refl z.others in
      record {
        value = inl (tt, ((x.value, (tt, (y.value, tt))), (tt, (z.value, tt))));
        rest = d.rest;
        is = the_first (in_turn w.is (in_turn (in_turn x.is (in_turn o.is (in_turn y.is p.is))) (in_turn q.is (in_turn z.is d.is))));
        says = joins x.says y.says z.says;
        others = d.others;
      }
  node_reads (Sends k b t) h i s =
      let w = word_reads refl s in
      let x = name_reads e k h.0 w.others in
      let y = name_reads e b h.1 x.others in
      let q = expression_reads t h.2 i y.others in
      record { value = inr (inl (tt, ((x.value, y.value), q.value))); rest = q.rest; is = the_second (the_first (in_turn w.is (in_turn (in_turn x.is y.is) q.is))); says = sends x.says y.says q.says; others = q.others }
  node_reads (Receives k a x) h i s =
      let t = three_read (codes "recv") refl k a x h s in
      record { value = inr (inr (inl (tt, (t.first_name, (t.second_name, t.third_name))))); rest = t.rest; is = the_second (the_second (the_first t.is)); says = receives t.is_first t.is_second t.is_third; others = t.others }
  node_reads (Selects k b l) h i s =
      let t = three_read (codes "pick") refl k b l h s in
      record { value = inr (inr (inr (inl (tt, (t.first_name, (t.second_name, t.third_name)))))); rest = t.rest; is = the_second (the_second (the_second (the_first t.is))); says = selects t.is_first t.is_second t.is_third; others = t.others }
  node_reads (Gives k b x) h i s =
      let t = three_read (codes "give") refl k b x h s in
      record { value = inr (inr (inr (inr (inl (tt, (t.first_name, (t.second_name, t.third_name))))))); rest = t.rest; is = the_second (the_second (the_second (the_second (the_first t.is)))); says = gives t.is_first t.is_second t.is_third; others = t.others }
  node_reads (Gains k a x) h i s =
      let t = three_read (codes "gain") refl k a x h s in
      record { value = inr (inr (inr (inr (inr (inl (tt, (t.first_name, (t.second_name, t.third_name)))))))); rest = t.rest; is = the_second (the_second (the_second (the_second (the_second (the_first t.is))))); says = gains t.is_first t.is_second t.is_third; others = t.others }
  node_reads (Sets x t) h i s =
      let w = word_reads refl s in
      let y = name_reads e x h.0 w.others in
      let q = expression_reads t h.1 i y.others in
      record { value = inr (inr (inr (inr (inr (inr (inl (tt, (y.value, q.value)))))))); rest = q.rest; is = the_second (the_second (the_second (the_second (the_second (the_second (the_first (in_turn w.is (in_turn y.is q.is)))))))); says = sets y.says q.says; others = q.others }
  node_reads (Shows t) h i s =
      let w = word_reads refl s in
      let q = expression_reads t h i w.others in
      record { value = inr (inr (inr (inr (inr (inr (inr (inl (tt, q.value)))))))); rest = q.rest; is = the_second (the_second (the_second (the_second (the_second (the_second (the_second (the_first (in_turn w.is q.is)))))))); says = shows q.says; others = q.others }
  node_reads (Asks x f l r) h i s =
      let w = word_reads refl s in
      let y = name_reads e x h.0 w.others in
      let z = name_reads e f h.1 y.others in
      let o = mark_reads refl z.others in
      let a = expression_reads l h.2 i.0 o.others in
      let m = mark_reads refl a.others in
      let b = expression_reads r h.3 i.1 m.others in
      let p = mark_reads refl b.others in
      record {
        value = inr (inr (inr (inr (inr (inr (inr (inr (tt, ((y.value, z.value), (tt, (a.value, (tt, (b.value, tt)))))))))))));
        rest = p.rest;
        is = the_second (the_second (the_second (the_second (the_second (the_second (the_second (the_second (in_turn w.is (in_turn (in_turn y.is z.is) (in_turn o.is (in_turn a.is (in_turn m.is (in_turn b.is p.is)))))))))))));
        says = asks y.says z.says a.says b.says;
        others = p.others;
      }

  -- ---- bodies

  abbrev pub Reading : ℕ → CodeTree → List Lexeme → List Symbol → Type 0
  Reading p c ls ss = Reads (lines_of p) (λ v. BodySays e c (body_of p v)) ls ss

  -- a body between braces
  braced_reads : (p : ℕ) (c : CodeTree) {s : Symbol} {ls : List Lexeme} {mid ss : List Symbol} → (f : First ls s mid) → is_of (a_mark OpenBrace) s ≡ true → Reading p c f.rest (mark CloseBrace ∷ ss) → Reads (body p) (λ v. BodySays e c v.0) ls ss
  braced_reads p c f ok r =
      let b = after_reads {n = lines p} {P = λ v. BodySays e c v} f ok r in
      let d = mark_reads refl b.others in
      record { value = (b.value, tt); rest = d.rest; is = in_turn b.is d.is; says = b.says; others = d.others }

  mutual
    pub code_reads : (p : ℕ) (c : CodeTree) → IsCodeSpelled e c → Fits e p c → {ls : List Lexeme} {ss : List Symbol} → Say ls (code_symbols e c ss) → Reading p c ls ss
    code_reads p (Does a rest) h i {ls} k =
        let n = node_reads a h.0 i.1 k in
        let f = first n.others in
        let r = after_reads {n = lines (p - 1)} {P = λ v. BodySays e rest v} f refl (code_reads (p - 1) rest h.1 i.2 f.others) in
        record { value = inl (n.value, r.value); rest = r.rest; is = the_first (in_turn (with_room (room ls i.0) n.is) r.is); says = does n.says r.says; others = r.others }
    code_reads p (Offers k a NoArms) h i s = absurd i.1
    code_reads p (Offers k a (Arm l c rest)) h i {ls} s =
        let w = word_reads refl s in
        let x = name_reads e k h.0 w.others in
        let y = name_reads e a h.1 x.others in
        let o = mark_reads refl y.others in
        let z = name_reads e l h.2.0 o.others in
        let f = first z.others in
        let b = braced_reads (p - 1) c f refl (code_reads (p - 1) c h.2.1 i.2.0 f.others) in
        let r = arms_read (p - 1) rest h.2.2 i.2.1 b.others in
        let d = mark_reads refl r.others in
        record {
          value = inr (inl (tt, ((x.value, y.value), (tt, ((z.value, b.value), (r.value, tt))))));
          rest = d.rest;
          is = the_second (with_room (room ls i.0) (the_first (in_turn w.is (in_turn (in_turn x.is y.is) (in_turn o.is (in_turn (in_turn z.is b.is) (in_turn r.is d.is)))))));
          says = offers x.says y.says (one_arm z.says b.says r.says);
          others = d.others;
        }
    code_reads p (Tests t c d) h i {ls} s =
        let w = word_reads refl s in
        let q = expression_reads t h.0 i.1 w.others in
        let f = first q.others in
        let a = braced_reads (p - 1) c f refl (code_reads (p - 1) c h.1 i.2 f.others) in
        let v = word_reads refl a.others in
        let g = first v.others in
        let b = braced_reads (p - 1) d g refl (code_reads (p - 1) d h.2 i.3 g.others) in
        record {
          value = inr (inr (inl (tt, (q.value, (a.value, (tt, b.value))))));
          rest = b.rest;
          is = the_second (with_room (room ls i.0) (the_second (the_first (in_turn w.is (in_turn q.is (in_turn a.is (in_turn v.is b.is)))))));
          says = tests q.says a.says b.says;
          others = b.others;
        }
    code_reads p (Calls f x ss) h i {ls} s =
        let w = first s in
        let y = name_reads e f h.0 w.others in
        let z = name_reads e x h.1 y.others in
        let o = mark_reads refl z.others in
        let r = sessions_read e ss h.2 i.1 o.others in
        let d = mark_reads refl r.others in
        let call : is_of (a_kept_word (codes "call")) w.token.symbol ≡ true = subst (λ (u : Symbol). is_of (a_kept_word (codes "call")) u ≡ true) (sym w.is) refl in
        record {
          value = inr (inr (inr (inl (w.token, ((y.value, z.value), (tt, (r.value, tt)))))));
          rest = d.rest;
          is = the_second (with_room (room ls i.0) (the_second (the_second (the_first (in_turn (is_one w.token w.parts call) (in_turn (in_turn y.is z.is) (in_turn o.is (in_turn r.is d.is))))))));
          says = calls y.says z.says r.says;
          others = d.others;
        }
    code_reads p Ends h i {ls} s =
        let w = word_reads refl s in
        record { value = inr (inr (inr (inr tt))); rest = w.rest; is = the_second (with_room (room ls i) (the_second (the_second (the_second w.is)))); says = ends; others = w.others }

    arms_read : (p : ℕ) (arms : Arms) → AreArmsSpelled e arms → EachFits e p arms → {ls : List Lexeme} {ss : List Symbol} → Say ls (arms_symbols e arms (mark CloseBrace ∷ ss))
        → Reads (many E4 None (arm p)) (λ v. ArmsSay e arms (arms_of v)) ls (mark CloseBrace ∷ ss)
    arms_read p NoArms h i {ls} s = record { value = []; rest = ls; is = none_of_many; says = no_arm; others = s }
    arms_read p (Arm l c rest) h i {ls} s =
        let z = name_reads e l h.0 s in
        let f = first z.others in
        let b = braced_reads p c f refl (code_reads p c h.1 i.0 f.others) in
        let r = arms_read p rest h.2 i.1 b.others in
        record { value = (z.value, b.value) ∷ r.value; rest = r.rest; is = one_of_many (any_room ls) (in_turn z.is b.is) r.is; says = one_arm z.says b.says r.says; others = r.others }
