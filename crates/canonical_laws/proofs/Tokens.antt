-- Tokens that spell symbols, one by one.
use Rattle.std.proofs.Common.{◌≡◌, ◌≤◌, ◌<◌, ◌+◌, ◌-◌, ℕ, suc, List, [], ◌∷◌, ◌++◌, length, get_or, Some, refl, sym, ap, ◌∙◌, subst, arith}
use Rattle.std.specs.Prelude.{slice_get}
use Rattle.std.proofs.lemmas.List.{append-nil, length-append}
use Rattle.std.proofs.lemmas.Option.{slice_get-get_or}
use Rattle.chor_base.specs.declared.names.NameId.{NameId}
use Rattle.chor_base.specs.declared.rule.Place.{Place}
use Rattle.chor_base.specs.declared.rule.Rule.{Rule}
use Rattle.chor_base.specs.Expr.{Term}
use Rattle.chor_base.specs.Words.{AllDistinct}
use Rattle.chor_base.specs.Writing.{name_in}
use Rattle.chor_lexer.specs.declared.mark.Mark.{Mark}
use Rattle.chor_lexer.specs.declared.token.Kind.{Kind}
use Rattle.chor_lexer.specs.declared.token.Kind.TheVariants as kind
use Rattle.chor_lexer.specs.declared.token.Token.{Token}
use Rattle.chor_lexer.specs.Lexeme.{Symbol, word, mark, last}
use Rattle.chor_lexer.specs.Tokens.{Spells}
use Rattle.chor_lexer.specs.Grammar.{ExprIs, IsExpr}
use Rattle.chor_lexer.specs.Spelling.{IsSource, expr_symbols, SpellAll}
use Rattle.chor_lexer.proofs.Derivations.{expr_cut}
use Rattle.chor_lexer.proofs.Spelling.{name_of, symbols_read_back}
use Rattle.source_grammar.specs.Symbols.{nowhere, AllowsFirst, Room}
use Rattle.source_grammar.specs.Expressions.{KeepsLength, ExprPart}
use Rattle.chor_tree.specs.declared.file.Named.{Named}
use Rattle.source_grammar.specs.Grammar.{MarkIs, WordIs, NameIs, StandsAt, EndIs}
use Rattle.canonical_laws.specs.Places.{bare_name}
use Rattle.canonical_laws.proofs.Lengths.{expr_length}

-- the tokens spell these symbols
pub record Spelled (names texts : List (List ℕ)) (ts : List Token) (ss : List Symbol) : Type 0 where
  pub all : SpellAll names texts ts ss

-- the first token spells the first symbol
pub record First (names texts : List (List ℕ)) (ts : List Token) (s : Symbol) (more : List Symbol) : Type 0 where
  pub token : Token
  pub rest : List Token
  pub parts : ts ≡ token ∷ rest
  pub is : Spells names texts token.kind s
  pub others : Spelled names texts rest more

pub first : {names texts : List (List ℕ)} {ts : List Token} {s : Symbol} {more : List Symbol} → Spelled names texts ts (s ∷ more) → First names texts ts s more
first {ts = []} h = absurd h.all
first {ts = t ∷ ts} h = record { token = t; rest = ts; parts = refl; is = h.all.0; others = record { all = h.all.1 } }

-- an item was read that is x but for places, and the other tokens spell what follows
pub record Reads (names texts : List (List ℕ)) {A : Type 0} (Item : List Token → A → List Token → Type 0) (bare : A → A) (x : A) (ts : List Token) (more : List Symbol) : Type 0 where
  pub read : A
  pub rest : List Token
  pub is : Item ts read rest
  pub same : bare read ≡ bare x
  pub others : Spelled names texts rest more

-- the first tokens are so
pub record Passes (names texts : List (List ℕ)) (Is : List Token → List Token → Type 0) (ts : List Token) (more : List Symbol) : Type 0 where
  pub rest : List Token
  pub is : Is ts rest
  pub others : Spelled names texts rest more

-- ---- kinds

record WordKind (names : List (List ℕ)) (k : Kind) (w : List ℕ) : Type 0 where
  number : NameId
  kind_is : k ≡ kind.Word number
  word_is : slice_get names number.0 ≡ Some w

word_kind : (names texts : List (List ℕ)) (k : Kind) (w : List ℕ) → Spells names texts k (word w) → WordKind names k w
word_kind names texts (kind.Word n) w h = record { number = n; kind_is = refl; word_is = h }
word_kind names texts _ w h = absurd h

mark_kind : (names texts : List (List ℕ)) (k : Kind) (m : Mark) → Spells names texts k (mark m) → k ≡ kind.Mark m
mark_kind names texts (kind.Mark j) m h = ap kind.Mark h
mark_kind names texts _ m h = absurd h

last_kind : (names texts : List (List ℕ)) (k : Kind) → Spells names texts k last → k ≡ kind.Last
last_kind names texts kind.Last h = refl
last_kind names texts _ h = absurd h

-- ---- single tokens

pub mark_reads : {names texts : List (List ℕ)} {ts : List Token} {m : Mark} {more : List Symbol} → Spelled names texts ts (mark m ∷ more) → Passes names texts (MarkIs m) ts more
mark_reads {names} {texts} {m = m} h =
    let f = first h in
    record { rest = f.rest; is = record { token = f.token; parts = f.parts; is = mark_kind names texts f.token.kind m f.is }; others = f.others }

pub word_reads : {names texts : List (List ℕ)} {ts : List Token} {w : List ℕ} {more : List Symbol} → Spelled names texts ts (word w ∷ more) → Passes names texts (WordIs names w) ts more
word_reads {names} {texts} {w = w} h =
    let f = first h in
    let k = word_kind names texts f.token.kind w f.is in
    record { rest = f.rest; is = record { token = f.token; parts = f.parts; is = record { number = k.number; kind = k.kind_is; word = k.word_is } }; others = f.others }

pub end_reads : {names texts : List (List ℕ)} {ts : List Token} → Spelled names texts ts (last ∷ []) → EndIs ts
end_reads {names} {texts} h = let f = first h in ends f.token f.rest f.parts (last_kind names texts f.token.kind f.is) f.others
  where
    ends : {ts : List Token} (t : Token) (rest : List Token) → ts ≡ t ∷ rest → t.kind ≡ kind.Last → Spelled names texts rest [] → EndIs ts
    ends t [] e k h = record { token = t; alone = e; last = k }
    ends t (u ∷ rest) e k h = absurd h.all

-- some token stands there
pub record Stands (ts : List Token) : Type 0 where
  pub at : Place
  pub is : StandsAt at ts

pub stands : {names texts : List (List ℕ)} {ts : List Token} {s : Symbol} {more : List Symbol} → Spelled names texts ts (s ∷ more) → Stands ts
stands h = let f = first h in record { at = f.token.place; is = record { token = f.token; rest = f.rest; parts = f.parts; place = refl } }

pub mark_begins : {m : Mark} {us vs : List Token} → MarkIs m us vs → Stands us
mark_begins {vs = vs} d = record { at = d.token.place; is = record { token = d.token; rest = vs; parts = d.parts; place = refl } }

pub name_begins : {names : List (List ℕ)} {n : Named} {us vs : List Token} → NameIs names us n vs → Stands us
name_begins {vs = vs} d = record { at = d.token.place; is = record { token = d.token; rest = vs; parts = d.parts; place = refl } }

-- where none of the tokens may be one too many, none of others may
pub room_kept : (rule : Rule) (n : ℕ) {us : List Token} (ts : List Token) → Stands us → Room nowhere rule n us → Room nowhere rule n ts
room_kept rule n ts s room e = absurd (subst (AllowsFirst nowhere rule) s.is.parts (room e))

-- ---- names and expressions

pub name_reads : {names texts : List (List ℕ)} → AllDistinct names → {us vs : List Token} (n : Named) → NameIs names us n vs → {ts : List Token} {more : List Symbol}
    → Spelled names texts ts (word (name_in names n.name) ∷ more) → Reads names texts (NameIs names) bare_name n ts more
name_reads {names} {texts} distinct n d h =
    let f = first h in
    let k = word_kind names texts f.token.kind (name_in names n.name) f.is in
    let known : name_in names n.name ≡ d.is.word = name_of names n.name d.is.word d.is.is in
    let here : slice_get names k.number.0 ≡ Some d.is.word = k.word_is ∙ ap Some known in
    let number : k.number.0 ≡ n.name.0 = distinct k.number.0 n.name.0 d.is.word here d.is.is in
    record {
      read = record { name = k.number; place = f.token.place };
      rest = f.rest;
      is = record { token = f.token; parts = f.parts; is = record { word = d.is.word; kind = k.kind_is; is = here; name = d.is.name }; place = refl };
      same = ap (λ (i : ℕ). bare_name (record { name = record { 0 = i }; place = f.token.place })) number;
      others = f.others;
    }

-- tokens that spell two lists of symbols
record Split (names texts : List (List ℕ)) (ts : List Token) (ss more : List Symbol) : Type 0 where
  front : List Token
  rest : List Token
  parts : ts ≡ front ++ rest
  here : SpellAll names texts front ss
  others : Spelled names texts rest more

split : (names texts : List (List ℕ)) (ts : List Token) (ss more : List Symbol) → SpellAll names texts ts (ss ++ more) → Split names texts ts ss more
split names texts ts [] more h = record { front = []; rest = ts; parts = refl; here = tt; others = record { all = h } }
split names texts [] (s ∷ ss) more h = absurd h
split names texts (t ∷ ts) (s ∷ ss) more h =
    let r = split names texts ts ss more h.1 in
    record { front = t ∷ r.front; rest = r.rest; parts = ap (λ (l : List Token). t ∷ l) r.parts; here = (h.0, r.here); others = r.others }

spelled_length : (names texts : List (List ℕ)) (ts : List Token) (ss : List Symbol) → SpellAll names texts ts ss → length ts ≡ length ss
spelled_length names texts [] [] h = refl
spelled_length names texts [] (s ∷ ss) h = absurd h
spelled_length names texts (t ∷ ts) [] h = absurd h
spelled_length names texts (t ∷ ts) (s ∷ ss) h = ap suc (spelled_length names texts ts ss h.1)

-- an expression that is no longer keeps the limit too
length_kept : (us vs ts rest : List Token) → length ts - length rest ≤ length us - length vs → KeepsLength nowhere us vs → KeepsLength nowhere ts rest
length_kept us vs ts rest h keeps t long there =
    let inside : 255 < length us = omega (arith, h, long) in
    keeps (get_or us 255 t) (omega (arith, h, long)) (slice_get-get_or us 255 t inside)

pub term_reads : {names texts : List (List ℕ)} → AllDistinct names → AllDistinct texts → (e : Term) → IsSource names texts e
    → {us vs : List Token} → ExprIs names us e vs → KeepsLength nowhere us vs → {ts : List Token} {more : List Symbol}
    → Spelled names texts ts (expr_symbols names texts e ++ more) → Passes names texts (λ us vs. ExprPart nowhere names us e vs) ts more
term_reads {names} {texts} dn dt e ok {us} {vs} d keeps {ts} {more} h =
    let s = split names texts ts (expr_symbols names texts e) more h.all in
    let is : IsExpr names s.front e = symbols_read_back names texts e s.front dn dt ok s.here in
    let c = expr_cut names s.front e [] is in
    let whole : s.front ≡ c.written = c.parts ∙ append-nil c.written in
    let moved : ExprIs names (s.front ++ s.rest) e s.rest = subst (λ (w : List Token). ExprIs names (w ++ s.rest) e s.rest) (sym whole) (c.moves s.rest) in
    let front : length s.front ≡ length (expr_symbols names texts e) = spelled_length names texts s.front (expr_symbols names texts e) s.here in
    let all : length ts ≡ length s.front + length s.rest = ap (λ (l : List Token). length l) s.parts ∙ length-append s.front s.rest in
    let short : length ts - length s.rest ≤ length us - length vs = omega (arith, front, all, expr_length names texts us e vs d) in
    record {
      rest = s.rest;
      is = record { is = subst (λ (w : List Token). ExprIs names w e s.rest) (sym s.parts) moved; keeps = length_kept us vs ts s.rest short keeps };
      others = s.others;
    }
