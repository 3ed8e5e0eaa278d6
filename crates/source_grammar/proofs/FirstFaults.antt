-- Whole sources, and the first token at which tokens are none.
use Rattle.std.specs.Prelude.{IsTrue}
use Rattle.std.proofs.Common.{◌≡◌, suc, ℕ, List, [], ◌∷◌, ◌++◌, ap, refl, sym, ◌∙◌, subst, append_assoc, arith}
use Rattle.std.proofs.lemmas.List.{append-nil}
use Rattle.std.specs.List.{AllByRecursion}
use Rattle.chor_base.specs.declared.rule.Place.{Place}
use Rattle.chor_base.specs.declared.rule.Rule.{Rule}
use Rattle.chor_base.specs.declared.rule.Rule.TheVariants.{P1}
use Rattle.chor_base.specs.declared.rule.Denied.{Denied}
use Rattle.chor_base.specs.declared.rule.Denied.TheVariants.{Refused, Memory}
use Rattle.chor_lexer.specs.declared.token.Kind.TheVariants.{Last}
use Rattle.chor_lexer.specs.declared.token.Token.{Token}
use Rattle.chor_lexer.specs.Tokens.{IsKnown, is_ended}
use Rattle.source_grammar.specs.Symbols.{Allowed, anywhere, nowhere, only_at, but_at, Nothing, more_words, AreWhole, Completes, Only, Reads, Reason, wrong, excess, Stops, Halts, RefusesFirst}
use Rattle.source_grammar.proofs.Wholes.{whole_first, whole_after}
use Rattle.source_grammar.proofs.Sequels.{again}
use Rattle.chor_tree.specs.declared.header.Header.{Header}
use Rattle.chor_tree.specs.Source.{Items, Source}
use Rattle.source_grammar.specs.Grammar.{FileIs, a_file, EndIs}
use Rattle.source_grammar.specs.Limits.{Keeps}
use Rattle.source_grammar.specs.Faults.{IsViable, IsFaultAt, unexpected, excess as exceeds, IsFirstFault, IsRefusal, IsWithin}
use Rattle.source_grammar.specs.Files.{Main, SourcePart}
use Rattle.source_grammar.proofs.Files.{source_part}
use Rattle.source_grammar.proofs.Free.{IsFree, file_free}
use Rattle.source_grammar.proofs.ShortParts.{seq}

-- ---- a source and its end

-- a header, what stands before main, and main
abbrev pub Whole : Type 0
Whole = Header × (Items × Main)

abbrev pub source_by : Whole → Source
source_by v = record { header = v.0; items = v.1.0; processes = v.1.1.1.1.0; body = v.1.1.1.1.1.1 }

-- tokens that derive a source that exceeds a limit only where Q allows it
pub record Derives (Q : Allowed) (names : List (List ℕ)) (ts : List Token) (s : Source) : Type 0 where
  pub is : FileIs names ts s
  pub keeps : Keeps Q is

pub record Parts (Q : Allowed) (names : List (List ℕ)) (ts : List Token) (s : Source) : Type 0 where
  pub value : Whole
  pub rest : List Token
  pub is : SourcePart Q names ts value rest
  pub end : EndIs rest
  pub same : s ≡ source_by value

pub into_parts : {Q : Allowed} {names : List (List ℕ)} {ts : List Token} {s : Source} (d : FileIs names ts s) → Keeps Q d → Parts Q names ts s
into_parts (a_file {t7 = t7} {h = h} {is = is} {ps = ps} {b = b} header items w o processes c body e) k = record {
  value = (h, (is, (tt, (tt, (ps, (tt, b))))));
  rest = t7;
  is = record {
    mid = _;
    first = (header, k.0);
    second = record { mid = _; first = (items, k.1); second = seq _ w (seq _ o (record { mid = _; first = (processes, k.2); second = seq _ c (record { is = body; keeps = k.3 }) })) };
  };
  end = e;
  same = refl;
}

pub from_parts : {Q : Allowed} {names : List (List ℕ)} {ts : List Token} {v : Whole} {rest : List Token} → SourcePart Q names ts v rest → EndIs rest → Derives Q names ts (source_by v)
from_parts h e =
    let m = h.second.second in
    let t = m.second.second in
    record {
      is = a_file h.first.0 h.second.first.0 m.first m.second.first t.first.0 t.second.first t.second.second.is e;
      keeps = (h.first.1, h.second.first.1, t.first.1, t.second.second.keeps);
    }

abbrev pub end_token : Token
end_token = record { kind = Last; place = record { line = 1; col = 1 } }

-- ---- viable prefixes

-- tokens that can be completed to a source that exceeds a limit only where Q allows it
pub record CanEnd (Q : Allowed) (names : List (List ℕ)) (ts : List Token) : Type 0 where
  pub words : List (List ℕ)
  pub more : List Token
  pub source : Source
  pub derives : Derives Q (names ++ words) (ts ++ more) source

pub can_end : {Q : Allowed} {p : Place} {names : List (List ℕ)} {ts : List Token} → Completes SourcePart Q p names ts → CanEnd Q names ts
can_end c = record {
  words = more_words;
  more = c.added ++ end_token ∷ [];
  source = source_by c.value;
  derives = from_parts (c.is (end_token ∷ [])) (record { token = end_token; alone = refl; last = refl });
}

pub viable : {Q : Allowed} {names : List (List ℕ)} {ts : List Token} → CanEnd Q names ts → IsViable names ts
viable c = record { words = c.words; more = c.more; source = c.source; is = c.derives.is }

-- fewer tokens of them are viable too
pub viable_front : {names : List (List ℕ)} {all : List Token} (front more : List Token) → all ≡ front ++ more → IsViable names all → IsViable names front
viable_front {names} {all} front more e v = record {
  words = v.words;
  more = more ++ v.more;
  source = v.source;
  is = subst (λ (l : List Token). FileIs (names ++ v.words) l v.source) (ap (λ (l : List Token). l ++ v.more) e ∙ append_assoc front more v.more) v.is;
}

-- ---- what is wider is kept

pub derives_wider : {Q Q' : Allowed} {names : List (List ℕ)} {ts : List Token} {s : Source} → ((rule : Rule) (p : Place) → Q rule p → Q' rule p) → Derives Q names ts s → Derives Q' names ts s
derives_wider {Q' = Q'} {names = names} {ts = ts} w d =
    let p = into_parts d.is d.keeps in
    subst (λ (x : Source). Derives Q' names ts x) (sym p.same) (from_parts (source_part.wider w p.is) p.end)

-- another place than this
abbrev pub other : Place → Place
other p = record { line = suc p.line; col = p.col }

pub other_differs : (p q : Place) → q ≡ other p → q ≡ p → ⊥
other_differs p q e f = let h : suc p.line ≡ p.line = sym (ap (λ (r : Place). r.line) e) ∙ ap (λ (r : Place). r.line) f in absurd (omega arith)

-- tokens that can be completed with no excess but in what is added have no fault
pub no_fault : {names : List (List ℕ)} {before : List Token} → ((p : Place) → CanEnd (only_at p) names before) → (front : List Token) (t : Token) (more : List Token) (r : Rule) → before ≡ front ++ t ∷ more → IsFaultAt names front t r → ⊥
no_fault {names} {before} c front t more r e (unexpected v n) = n (viable_front (front ++ t ∷ []) more (e ∙ sym (append_assoc front (t ∷ []) more)) (viable (c t.place)))
no_fault {names} {before} c front t more r e (exceeds v a) =
    let k = c (other t.place) in
    let shape : before ++ k.more ≡ (front ++ t ∷ []) ++ (more ++ k.more) = ap (λ (l : List Token). l ++ k.more) e ∙ append_assoc front (t ∷ more) k.more ∙ sym (append_assoc front (t ∷ []) (more ++ k.more)) in
    let d : Derives (but_at r t.place) (names ++ k.words) (before ++ k.more) k.source = derives_wider (λ rule p h f g. other_differs t.place p h g) k.derives in
    let d2 : Derives (but_at r t.place) (names ++ k.words) ((front ++ t ∷ []) ++ (more ++ k.more)) k.source = subst (λ (l : List Token). Derives (but_at r t.place) (names ++ k.words) l k.source) shape d in
    a k.words (more ++ k.more) k.source d2.is d2.keeps

-- ---- the first fault

pub wrong_is_free : (place : Place) → IsFree (but_at P1 place)
wrong_is_free place = record { blocks = λ p e f. absurd cc; items = λ p e f. absurd cc }

anywhere_is_free : IsFree anywhere
anywhere_is_free = record { blocks = λ p. tt; items = λ p. tt }

pub fault_of : {names : List (List ℕ)} {ts : List Token} {rule : Rule} {place : Place} (s : Stops SourcePart Nothing names ts rule place) → (r : Rule) → r ≡ rule → Reason SourcePart names s.before s.token r → IsFaultAt names s.before s.token r
fault_of {names} {ts} {rule} {place} s r e wrong =
    unexpected (viable (can_end (s.viable s.token.place))) (λ v.
    let d : FileIs (names ++ v.words) (s.before ++ s.token ∷ v.more) v.source = subst (λ (l : List Token). FileIs (names ++ v.words) l v.source) (append_assoc s.before (s.token ∷ []) v.more) v.is in
    let k : Keeps (but_at P1 place) d = file_free (wrong_is_free place) d in
    let k2 : Keeps (but_at rule place) d = subst (λ (q : Rule). Keeps (but_at q place) d) e k in
    let p = into_parts d k2 in
    s.never v.words v.more p.value p.rest p.is (λ t rest q n. n))
fault_of {names} {ts} {rule} {place} s r e (excess c) =
    exceeds (viable (can_end (c s.token.place))) (λ words more x d k.
    let d2 : Derives (but_at r s.token.place) (names ++ words) (s.before ++ s.token ∷ more) x = subst (λ (l : List Token). Derives (but_at r s.token.place) (names ++ words) l x) (append_assoc s.before (s.token ∷ []) more) (record { is = d; keeps = k }) in
    let d3 : Derives (but_at rule s.token.place) (names ++ words) (s.before ++ s.token ∷ more) x = subst (λ (q : Rule). Derives (but_at q s.token.place) (names ++ words) (s.before ++ s.token ∷ more) x) e d2 in
    let d4 : Derives (but_at rule place) (names ++ words) (s.before ++ s.token ∷ more) x = subst (λ (q : Place). Derives (but_at rule q) (names ++ words) (s.before ++ s.token ∷ more) x) (sym s.at) d3 in
    let p = into_parts d4.is d4.keeps in
    s.never words more p.value p.rest p.is (λ t rest q n. n))

abbrev pub first_fault : {names : List (List ℕ)} {ts : List Token} {rule : Rule} {place : Place} → Stops SourcePart Nothing names ts rule place → IsFirstFault names ts rule place
first_fault {rule = rule} s = record {
  before = s.before;
  token = s.token;
  rest = s.rest;
  parts = s.parts;
  fault = fault_of s rule refl s.reason;
  at = s.at;
  first = λ front t more r e f. no_fault (λ p. can_end (s.viable p)) front t more r e f;
}

-- tokens of a file
pub whole : {names : List (List ℕ)} {ts : List Token} → IsTrue (is_ended ts) → AllByRecursion (IsKnown names) ts → AreWhole names ts
whole e k = record { ended = e; known = k }

pub refusal_is : {names : List (List ℕ)} {ts : List Token} (d : Denied) → AreWhole names ts → Halts SourcePart Nothing names ts d → IsRefusal names ts d
refusal_is Memory w h = tt
refusal_is (Refused r) w h = let s = h.by r refl w in (first_fault s.0, s.1)

-- ---- a token that isn't the end

not_last : {t u : Token} {ts us : List Token} → t ∷ ts ≡ u ∷ us → u.kind ≡ Last → t.kind ≡ Last
not_last {t} {u} {ts} {us} e k = let same : t ≡ u = cc in ap (λ (x : Token). x.kind) same ∙ k

pub after_source : {names : List (List ℕ)} {ts : List Token} {v : Whole} {rest : List Token} → AreWhole names ts → (r : Reads SourcePart Nothing names ts v rest) → (o : Only SourcePart Nothing names ts v rest) → (t : Token) (left : List Token) → rest ≡ t ∷ left → (t.kind ≡ Last → ⊥) → IsFirstFault names ts P1 t.place
after_source {names} {ts} {v} {rest} w r o t left e n =
    let ends : (p : Place) → CanEnd (only_at p) names o.front = λ p. record {
      words = more_words;
      more = end_token ∷ [];
      source = source_by v;
      derives = from_parts (again source_part o r.is (only_at p) more_words (end_token ∷ [])) (record { token = end_token; alone = refl; last = refl });
    } in
    record {
      before = o.front;
      token = t;
      rest = left;
      parts = o.parts ∙ ap (λ (l : List Token). o.front ++ l) e;
      fault = unexpected (viable (ends t.place)) (λ x.
          let d : FileIs (names ++ x.words) (o.front ++ t ∷ x.more) x.source = subst (λ (l : List Token). FileIs (names ++ x.words) l x.source) (append_assoc o.front (t ∷ []) x.more) x.is in
          let p = into_parts {Q = anywhere} d (file_free anywhere_is_free d) in
          let one = o.by x.words (t ∷ x.more) p.value p.rest (record { token = t; one = left; other = x.more; first = e; second = refl }) p.is (λ u us q f. f) in
          n (not_last (sym one.1 ∙ p.end.alone) p.end.last));
      at = refl;
      first = λ front u more q f g. no_fault ends front u more q f g;
    }

pub unended : {names : List (List ℕ)} {ts : List Token} {v : Whole} {rest : List Token} (d : Denied) → AreWhole names ts → Reads SourcePart Nothing names ts v rest → ((t : Token) (left : List Token) → rest ≡ t ∷ left → t.kind ≡ Last → ⊥) → RefusesFirst P1 rest d → IsRefusal names ts d
unended Memory w r n f = tt
unended {names} {ts} {v} {rest} (Refused q) w r n f =
    let first = whole_first (whole_after source_part r.is w) in
    let fault = after_source w r (r.only w) first.token first.rest first.parts (n first.token first.rest first.parts) in
    let here : IsFirstFault names ts P1 q.place = subst (λ (p : Place). IsFirstFault names ts P1 p) (sym (f.at q refl first.token first.rest first.parts)) fault in
    (subst (λ (k : Rule). IsFirstFault names ts k q.place) (sym (f.by q refl).0) here, (f.by q refl).1)

-- ---- laws

pub within : {names : List (List ℕ)} {ts : List Token} {v : Whole} {rest : List Token} → Reads SourcePart Nothing names ts v rest → EndIs rest → IsWithin names ts (source_by v)
within r e = let d = from_parts r.is e in record { is = d.is; keeps = d.keeps }

pub one_source_is : (names : List (List ℕ)) (ts : List Token) (s s' : Source) → FileIs names ts s → FileIs names ts s' → s ≡ s'
one_source_is names ts s s' d e =
    let p = into_parts {Q = anywhere} d (file_free anywhere_is_free d) in
    let q = into_parts {Q = anywhere} e (file_free anywhere_is_free e) in
    let one = source_part.one p.is q.is (λ t rest x n. n) (λ t rest x n. n) in
    p.same ∙ ap source_by one.0 ∙ sym q.same

derives_there : {names : List (List ℕ)} {ts : List Token} {s : Source} (before : List Token) (t : Token) (rest : List Token) → ts ≡ before ++ t ∷ rest → IsWithin names ts s → Derives nowhere (names ++ []) ((before ++ t ∷ []) ++ rest) s
derives_there {names} {ts} {s} before t rest e w =
    let shape : ts ≡ (before ++ t ∷ []) ++ rest = e ∙ sym (append_assoc before (t ∷ []) rest) in
    let d : Derives nowhere names ts s = record { is = w.is; keeps = w.keeps } in
    let d1 : Derives nowhere (names ++ []) ts s = subst (λ (l : List (List ℕ)). Derives nowhere l ts s) (sym (append-nil names)) d in
    subst (λ (l : List Token). Derives nowhere (names ++ []) l s) shape d1

never_at : {names : List (List ℕ)} {ts : List Token} {s : Source} (before : List Token) (t : Token) (rest : List Token) (r : Rule) → ts ≡ before ++ t ∷ rest → IsWithin names ts s → IsFaultAt names before t r → ⊥
never_at {s = s} before t rest r e w (unexpected v n) = n (record { words = []; more = rest; source = s; is = (derives_there before t rest e w).is })
never_at {names} {ts} {s} before t rest r e w (exceeds v a) =
    let d : Derives (but_at r t.place) (names ++ []) ((before ++ t ∷ []) ++ rest) s = derives_wider (λ rule p h. absurd h) (derives_there before t rest e w) in
    a [] rest s d.is d.keeps

pub never_refused_is : (names : List (List ℕ)) (ts : List Token) (s : Source) (rule : Rule) (place : Place) → IsWithin names ts s → IsFirstFault names ts rule place → ⊥
never_refused_is names ts s rule place w f = never_at f.before f.token f.rest rule f.parts w f.fault
