-- Tokens that say symbols, one by one, and what they derive.
use Rattle.std.proofs.Common.{inl, inr, ◌≡◌, ◌<◌, ◌≤◌, ◌-◌, not, ℕ, true, List, [], ◌∷◌, length, map, Some, None, refl, sym, ap, ◌∙◌, subst, arith}
use Rattle.std.proofs.lemmas.Bool.Decides.{nat_tests}
use Rattle.chor_base.specs.declared.names.NameId.{NameId}
use Rattle.chor_base.specs.declared.rule.Rule.TheVariants.{E4}
use Rattle.chor_lexer.specs.declared.mark.Mark.{Mark}
use Rattle.chor_lexer.specs.declared.mark.Mark.TheVariants.{Comma}
use Rattle.chor_lexer.specs.Lexeme.{Symbol, Lexeme, word, mark}
use Rattle.chor_lexer.proofs.Spelling.{name_of}
use Rattle.grammar.specs.Classes.{Class, a_mark, a_word, a_name, is_of}
use Rattle.grammar.specs.Grammars.{more, after, nowhere, HasRoom, Derives, is_one, in_turn, the_first, the_second, is_empty, no_more, one_more, with_room, by_rule}
use Rattle.endpoint_grammar.specs.Grammar.{Part, Nonterminal, mark as the_mark, word as the_word, NAME, sessions, rule_of}
use Rattle.endpoint_grammar.specs.Values.{Meaning, Derived, rules, make, session_list}
use Rattle.canonical_laws.specs.Symbols.{after_commas, listed}
use Rattle.endpoint_code.specs.declared.endpoints.Endpoints.{Endpoints}
use Rattle.endpoint_laws.specs.Symbols.{name}
use Rattle.endpoint_laws.specs.Spelled.{IsNamed, AreNamed}
use Rattle.endpoint_laws.specs.Says.{Names, AllName}

-- the tokens say these symbols
pub record Say (ls : List Lexeme) (ss : List Symbol) : Type 0 where
  pub are : map (λ l. l.symbol) ls ≡ ss

-- the first one says this, and the others those
pub record First (ls : List Lexeme) (s : Symbol) (ss : List Symbol) : Type 0 where
  pub token : Lexeme
  pub rest : List Lexeme
  pub parts : ls ≡ token ∷ rest
  pub is : token.symbol ≡ s
  pub others : Say rest ss

pub first : {ls : List Lexeme} {s : Symbol} {ss : List Symbol} → Say ls (s ∷ ss) → First ls s ss
first {ls = []} h = let k = h.are in absurd cc
first {ls = l ∷ ls} h = let k = h.are in record { token = l; rest = ls; parts = refl; is = cc; others = record { are = cc } }

-- the first tokens derive a value of which this holds, and the others say these symbols
pub record Reads (g : Part) (P : Derived g → Type 0) (ls : List Lexeme) (ss : List Symbol) : Type 0 where
  pub value : Derived g
  pub rest : List Lexeme
  pub is : Derives rules nowhere g ls value rest
  pub says : P value
  pub others : Say rest ss

abbrev pub Anything : (g : Part) → Derived g → Type 0
Anything g v = Unit {0}

-- ---- single tokens

pub mark_reads : {m : Mark} {ls : List Lexeme} {ss : List Symbol} → is_of (a_mark m) (mark m) ≡ true → Say ls (mark m ∷ ss) → Reads (the_mark m) (Anything (the_mark m)) ls ss
mark_reads {m} h k =
    let f = first k in
    record { value = tt; rest = f.rest; is = is_one f.token f.parts (subst (λ s. is_of (a_mark m) s ≡ true) (sym f.is) h); says = tt; others = f.others }

pub word_reads : {w : List ℕ} {ls : List Lexeme} {ss : List Symbol} → is_of (a_word w) (word w) ≡ true → Say ls (word w ∷ ss) → Reads (the_word w) (Anything (the_word w)) ls ss
word_reads {w} h k =
    let f = first k in
    record { value = tt; rest = f.rest; is = is_one f.token f.parts (subst (λ s. is_of (a_word w) s ≡ true) (sym f.is) h); says = tt; others = f.others }

-- a nonterminal after its token
pub after_reads : {c : Class} {n : Nonterminal} {P : Meaning n → Type 0} {s : Symbol} {ls : List Lexeme} {mid ss : List Symbol} → (f : First ls s mid) → is_of c s ≡ true
    → Reads (rule_of n) (λ v. P (make n v)) f.rest ss → Reads (after c n) P ls ss
after_reads {c} {n} f h r =
    record { value = make n r.value; rest = r.rest; is = by_rule f.token f.parts (subst (λ s. is_of c s ≡ true) (sym f.is) h) r.is refl; says = r.says; others = r.others }

-- there is room
pub room : {n : ℕ} (ls : List Lexeme) → 0 < n → HasRoom nowhere E4 (Some n) ls
room [] h = tt
room {n} (l ∷ ls) h = λ full. grind (arith, nat_tests)

pub any_room : (ls : List Lexeme) → HasRoom nowhere E4 None ls
any_room [] = tt
any_room (l ∷ ls) = λ full. cc

module _ (e : Endpoints) where
  -- ---- names

  pub name_reads : (x : NameId) → IsNamed e x → {ls : List Lexeme} {ss : List Symbol} → Say ls (name e x ss) → Reads NAME (Names e x) ls ss
  name_reads x h {ls} {ss} k =
      let f = first k in
      let named : is_of a_name (word h.spelling) ≡ true = ap not h.name in
      let same : f.token.symbol ≡ word h.spelling = f.is ∙ ap word (name_of e.names x h.spelling h.is) in
      record { value = f.token; rest = f.rest; is = is_one f.token f.parts (subst (λ s. is_of a_name s ≡ true) (sym same) named); says = f.is; others = f.others }

  more_read : (n : ℕ) (xs : List NameId) → AreNamed e xs → length xs ≤ n → {ls : List Lexeme} {ss : List Symbol} → Say ls (after_commas (name e) xs ss)
      → Reads (more E4 (Some n) (a_mark Comma) NAME) (λ v. AllName e xs v) ls ss
  more_read n [] h few {ls} k = record { value = []; rest = ls; is = no_more; says = tt; others = k }
  more_read n (x ∷ xs) h few k =
      let f = first k in
      let a = name_reads x h.0 f.others in
      let r = more_read (n - 1) xs h.1 (omega (arith, few)) a.others in
      record {
        value = a.value ∷ r.value;
        rest = r.rest;
        is = one_more f.token f.parts (subst (λ s. is_of (a_mark Comma) s ≡ true) (sym f.is) refl) (with_room (room f.rest (omega (arith, few))) a.is) r.is;
        says = (a.says, r.says);
        others = r.others;
      }

  -- sessions, with commas between them
  pub sessions_read : (xs : List NameId) → AreNamed e xs → length xs ≤ 8 → {ls : List Lexeme} {ss : List Symbol} → Say ls (listed (name e) xs ss)
      → Reads sessions (λ v. AllName e xs (session_list v)) ls ss
  sessions_read [] h few {ls} k = record { value = inr tt; rest = ls; is = the_second is_empty; says = tt; others = k }
  sessions_read (x ∷ xs) h few {ls} k =
      let a = name_reads x h.0 k in
      let r = more_read 7 xs h.1 (omega (arith, few)) a.others in
      record { value = inl (a.value, r.value); rest = r.rest; is = the_first (in_turn (with_room (room {n = 8} ls (omega arith)) a.is) r.is); says = (a.says, r.says); others = r.others }
