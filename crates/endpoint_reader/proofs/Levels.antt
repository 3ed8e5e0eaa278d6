-- Operands joined by operators of one strength.
use Rattle.std.proofs.Common.{◌≡◌, ◌<◌, ◌-◌, inl, inr, ℕ, false, List, [], ◌∷◌, Some, None, length, refl, sym, ap, ◌∙◌, subst, arith}
use Rattle.chor_base.specs.declared.rule.Rule.TheVariants.{E4}
use Rattle.chor_base.specs.declared.rule.Denied.{Denied}
use Rattle.chor_base.specs.declared.rule.Denied.TheVariants.{Memory}
use Rattle.chor_base.specs.declared.expr.BinOp.{BinOp}
use Rattle.chor_base.specs.Expr.{Term, Binary as Joined, term_of}
use Rattle.chor_lexer.specs.declared.mark.Mark.{Mark}
use Rattle.chor_lexer.specs.Lexeme.{Lexeme}
use Rattle.grammar.specs.Classes.{a_mark}
use Rattle.grammar.specs.Grammars.{seq, many, short, Room, is_nullable}
use Rattle.grammar.specs.Readers.{HasOne, Lacks, Misses, Refuses, Halts, HaltsIn, LeadsIn, Tells}
use Rattle.grammar.proofs.Reading.{begins, begun_by, token_comes, comes_first, comes_second, comes_then, token_misses, misses_then, memory_halts}
use Rattle.grammar.proofs.Progress.{read_shorter}
use Rattle.grammar.proofs.Windows.{on_in, reads_on_in, halts_on_in, token_in, first_in, second_in, nothing_in, item_in, no_item_in, full_in, first_halts_in, after_in, read_whole, halt_whole}
use Rattle.endpoint_grammar.specs.Written.{Phrase, Binary}
use Rattle.endpoint_grammar.specs.Grammar.{Part, operators, level, sum, comparison, comparisons, disjunction, expr}
use Rattle.endpoint_grammar.specs.Values.{rules, Derived, grouped, sum_phrase, comparison_op, comparison_phrase, phrase}
use Rattle.endpoint_reader.specs.declared.input.Input.{Input}
use Rattle.endpoint_reader.specs.declared.expression.Reading.{Reading}
use Rattle.endpoint_reader.specs.declared.expression.Level.{Level}
use Rattle.endpoint_reader.specs.declared.expression.Level.TheVariants as lvl
use Rattle.endpoint_reader.specs.Tokens.{from, written}
use Rattle.endpoint_reader.specs.Phrases.{TellsIn, HasRead, IsOperator, marks_of, operand_of}

pub memory_in : {g : Part} {n : Room} {ts : List Lexeme} {d : Denied} → d ≡ Memory → HaltsIn rules E4 n g ts d
memory_in m = record { by = λ b. memory_halts rules m }

pub told_shorter : {g : Part} {f : Derived g → Phrase} {n m : ℕ} {ts us : List Lexeme} {x : Phrase} → is_nullable g ≡ false → TellsIn g f n ts x m us → length us < length ts
told_shorter {g = g} {n = n} h t = read_shorter {g = short E4 (Some n) g} h (read_whole _ _ t.reads)

-- ---- operators

pub op_last : {m : Mark} {f : Derived (operators (m ∷ [])) → BinOp} {op : BinOp} {ts us : List Lexeme} → f tt ≡ op → HasOne (a_mark m) ts us → IsOperator (m ∷ []) f op ts us
op_last e h = record { value = tt; reads = λ k i. token_in _ _ i h.stands; begins = begun_by _ (token_comes _ h.stands); is = e }

pub op_here : {m j : Mark} {ks : List Mark} {f : Derived (operators (m ∷ j ∷ ks)) → BinOp} {op : BinOp} {ts us : List Lexeme} → f (inl tt) ≡ op → HasOne (a_mark m) ts us → IsOperator (m ∷ j ∷ ks) f op ts us
op_here e h = record { value = inl tt; reads = λ k i. reads_on_in _ _ (first_in _ _ (token_comes _ h.stands)) (token_in _ _ i h.stands); begins = begun_by _ (comes_first _ (token_comes _ h.stands)); is = e }

pub op_after : {m j : Mark} {ks : List Mark} {f : Derived (operators (m ∷ j ∷ ks)) → BinOp} {op : BinOp} {ts us : List Lexeme} → Lacks (a_mark m) ts → IsOperator (j ∷ ks) (λ v. f (inr v)) op ts us → IsOperator (m ∷ j ∷ ks) f op ts us
op_after n h = record { value = inr h.value; reads = λ k i. reads_on_in _ _ (second_in _ _ (token_misses _ n)) (h.reads k i); begins = begun_by _ (comes_second _ (token_misses _ n) (begins _ h.begins)); is = h.is }

pub op_shorter : {ms : List Mark} {f : Derived (operators ms) → BinOp} {op : BinOp} {ts us : List Lexeme} → is_nullable (operators ms) ≡ false → IsOperator ms f op ts us → length us < length ts
op_shorter {ms} i h = let z : 0 < 1 = omega arith in read_shorter {g = short E4 (Some 1) (operators ms)} i (read_whole _ _ (h.reads 1 z))

pub operators_some : (l : Level) → is_nullable (operators (marks_of l)) ≡ false
operators_some lvl.Or = refl
operators_some lvl.And = refl
operators_some lvl.Sum = refl
operators_some lvl.Product = refl

pub operands_some : (l : Level) → is_nullable (operand_of l) ≡ false
operands_some lvl.Or = refl
operands_some lvl.And = refl
operands_some lvl.Sum = refl
operands_some lvl.Product = refl

-- ---- operands joined so far

-- the tokens so far are the phrase x, and the operators that follow go on with it
pub record Grouping (ms : List Mark) (g : Part) (op : Derived (operators ms) → BinOp) (f : Derived g → Phrase) (n : ℕ) (ts : List Lexeme) (x : Phrase) (m : ℕ) (us : List Lexeme) : Type 0 where
  pub whole : List (Derived (operators ms) × Derived g) → Derived (level ms g)
  pub leads : LeadsIn rules E4 (Some n) (level ms g) ts (Some m) (many E4 None (seq (operators ms) g)) us whole
  pub is : (ys : List (Derived (operators ms) × Derived g)) → grouped op f (f (whole ys).0) (whole ys).1 ≡ grouped op f x ys
  pub shorter : length us < length ts

module _ {ms : List Mark} {g : Part} {op : Derived (operators ms) → BinOp} {f : Derived g → Phrase} {n m : ℕ} {ts us : List Lexeme} {x : Phrase} where
  pub group_begins : is_nullable g ≡ false → TellsIn g f n ts x m us → Grouping ms g op f n ts x m us
  group_begins i t = record { shorter = told_shorter i t; whole = λ ys. (t.value, ys); leads = after_in _ _ t.reads; is = λ ys. ap (λ p. grouped op f p ys) t.is }

  pub group_ends : Grouping ms g op f n ts x m us → Misses rules (operators ms) us → TellsIn (level ms g) (λ v. grouped op f (f v.0) v.1) n ts x m us
  group_ends a k = record { value = a.whole []; reads = reads_on_in _ _ a.leads (no_item_in _ _ (misses_then _ k)); is = a.is [] }

  pub group_goes : {o : BinOp} {vs ws : List Lexeme} {y : Phrase} {k : ℕ} → is_nullable (operators ms) ≡ false → is_nullable g ≡ false → Grouping ms g op f n ts x m us → IsOperator ms op o us vs → 0 < m → TellsIn g f (m - 1) vs y k ws → Grouping ms g op f n ts (Binary o x y) k ws
  group_goes {o = o} q w a h i t = record {
    shorter = omega (arith, a.shorter, op_shorter q h, told_shorter w t);
    whole = λ ys. a.whole ((h.value, t.value) ∷ ys);
    leads = on_in _ _ a.leads (on_in _ _ (item_in _ _ (comes_then _ (begins _ h.begins))) (after_in _ _ (reads_on_in _ _ (after_in _ _ (h.reads m i)) t.reads)));
    is = λ ys. a.is ((h.value, t.value) ∷ ys) ∙ ap (λ p. grouped op f (Binary p x (f t.value)) ys) h.is ∙ ap (λ p. grouped op f (Binary o x p) ys) t.is;
  }

  pub group_full : {o : BinOp} {vs : List Lexeme} {d : Denied} → Grouping ms g op f n ts x m us → IsOperator ms op o us vs → m ≡ 0 → Refuses E4 us d → HaltsIn rules E4 (Some n) (level ms g) ts d
  group_full a h z w = halts_on_in _ _ a.leads (halts_on_in _ _ (item_in _ _ (comes_then _ (begins _ h.begins))) (first_halts_in _ _ (first_halts_in _ _ (full_in _ _ z (begins _ h.begins) w))))

  pub group_halts : {o : BinOp} {vs : List Lexeme} {d : Denied} → Grouping ms g op f n ts x m us → IsOperator ms op o us vs → 0 < m → HaltsIn rules E4 (Some (m - 1)) g vs d → HaltsIn rules E4 (Some n) (level ms g) ts d
  group_halts a h i w = halts_on_in _ _ a.leads (halts_on_in _ _ (item_in _ _ (comes_then _ (begins _ h.begins))) (first_halts_in _ _ (halts_on_in _ _ (after_in _ _ (h.reads m i)) w)))

-- ---- comparisons

module _ {n m : ℕ} {ts us : List Lexeme} {x : Phrase} where
  pub compares_none : TellsIn sum sum_phrase n ts x m us → Misses rules (operators comparisons) us → TellsIn comparison comparison_phrase n ts x m us
  compares_none t k = record { value = (t.value, inr tt); reads = reads_on_in _ _ (after_in _ _ t.reads) (nothing_in _ _ (misses_then _ k)); is = t.is }

  pub compares : {o : BinOp} {vs ws : List Lexeme} {y : Phrase} {k : ℕ} → TellsIn sum sum_phrase n ts x m us → IsOperator comparisons comparison_op o us vs → 0 < m → TellsIn sum sum_phrase (m - 1) vs y k ws → TellsIn comparison comparison_phrase n ts (Binary o x y) k ws
  compares {o = o} t h i s = record {
    value = (t.value, inl (h.value, s.value));
    reads = reads_on_in _ _ (after_in _ _ t.reads) (reads_on_in _ _ (first_in _ _ (comes_then _ (begins _ h.begins))) (reads_on_in _ _ (after_in _ _ (h.reads m i)) s.reads));
    is = ap (λ p. Binary p (sum_phrase t.value) (sum_phrase s.value)) h.is ∙ ap (λ p. Binary o p (sum_phrase s.value)) t.is ∙ ap (Binary o x) s.is;
  }

  pub compare_full : {o : BinOp} {vs : List Lexeme} {d : Denied} → TellsIn sum sum_phrase n ts x m us → IsOperator comparisons comparison_op o us vs → m ≡ 0 → Refuses E4 us d → HaltsIn rules E4 (Some n) comparison ts d
  compare_full t h z w = halts_on_in _ _ (after_in _ _ t.reads) (halts_on_in _ _ (first_in _ _ (comes_then _ (begins _ h.begins))) (first_halts_in _ _ (full_in _ _ z (begins _ h.begins) w)))

  pub compare_halts : {o : BinOp} {vs : List Lexeme} {d : Denied} → TellsIn sum sum_phrase n ts x m us → IsOperator comparisons comparison_op o us vs → 0 < m → HaltsIn rules E4 (Some (m - 1)) sum vs d → HaltsIn rules E4 (Some n) comparison ts d
  compare_halts t h i w = halts_on_in _ _ (after_in _ _ t.reads) (halts_on_in _ _ (first_in _ _ (comes_then _ (begins _ h.begins))) (halts_on_in _ _ (after_in _ _ (h.reads m i)) w))

-- ---- by what was read

pub joined : {ms : List Mark} {g : Part} {op : Derived (operators ms) → BinOp} {f : Derived g → Phrase} {n : ℕ} {ts : List Lexeme} {o : BinOp} (input : Input) (left right new : Reading) → Grouping ms g op f n ts (Binary o (written input (term_of left.expr)) (written input (term_of right.expr))) right.room (from input right.at)
    → term_of new.expr ≡ Joined o (term_of left.expr) (term_of right.expr) → (new.at ≡ right.at) × (new.room ≡ right.room) → Grouping ms g op f n ts (written input (term_of new.expr)) new.room (from input new.at)
joined {ms} {g} {op} {f} {n} {ts} {o} input left right new a e p =
    subst (λ (t : Term). Grouping ms g op f n ts (written input t) new.room (from input new.at)) (sym e)
    (subst (λ (i : ℕ). Grouping ms g op f n ts (written input (Joined o (term_of left.expr) (term_of right.expr))) new.room (from input i)) (sym p.0)
    (subst (λ (i : ℕ). Grouping ms g op f n ts (written input (Joined o (term_of left.expr) (term_of right.expr))) i (from input right.at)) (sym p.1) a))

pub read_as : {g : Part} {f : Derived g → Phrase} {n : ℕ} (at : ℕ) (input : Input) (old new : Reading) (t : Term) → TellsIn g f n (from input at) (written input t) old.room (from input old.at) → term_of new.expr ≡ t → (new.at ≡ old.at) × (new.room ≡ old.room) → HasRead input g f n at new
read_as {g} {f} {n} at input old new t a e p =
    subst (λ (u : Term). TellsIn g f n (from input at) (written input u) new.room (from input new.at)) (sym e)
    (subst (λ (i : ℕ). TellsIn g f n (from input at) (written input t) new.room (from input i)) (sym p.0)
    (subst (λ (i : ℕ). TellsIn g f n (from input at) (written input t) i (from input old.at)) (sym p.1) a))

pub told_less : {g : Part} {f : Derived g → Phrase} {k m : ℕ} {ts us : List Lexeme} {x : Phrase} (n : ℕ) → k ≡ n - 1 → TellsIn g f k ts x m us → TellsIn g f (n - 1) ts x m us
told_less {g = g} {f = f} {m = m} {ts = ts} {us = us} {x = x} n e t = subst (λ (i : ℕ). TellsIn g f i ts x m us) e t

pub told_left : {g : Part} {f : Derived g → Phrase} {k n : ℕ} {ts us : List Lexeme} {x : Phrase} (m : ℕ) → k ≡ m - 1 → TellsIn g f n ts x (m - 1) us → TellsIn g f n ts x k us
told_left {g = g} {f = f} {n = n} {ts = ts} {us = us} {x = x} m e t = subst (λ (i : ℕ). TellsIn g f n ts x i us) (sym e) t

pub halts_less : {g : Part} {k : ℕ} {ts : List Lexeme} {d : Denied} (n : ℕ) → k ≡ n - 1 → HaltsIn rules E4 (Some k) g ts d → HaltsIn rules E4 (Some (n - 1)) g ts d
halts_less {g = g} {ts = ts} {d = d} n e t = subst (λ (i : ℕ). HaltsIn rules E4 (Some i) g ts d) e t

pub whole_told : {m : ℕ} {ts us : List Lexeme} {x : Phrase} → TellsIn disjunction phrase 255 ts x m us → Tells rules expr phrase ts x us
whole_told t = record { value = t.value; reads = read_whole _ _ t.reads; is = t.is }

pub whole_halts : {ts : List Lexeme} {d : Denied} → HaltsIn rules E4 (Some 255) disjunction ts d → Halts rules expr ts d
whole_halts h = halt_whole _ _ h
