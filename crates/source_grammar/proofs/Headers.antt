-- Numbers and headers as parts of the grammar.
use Rattle.std.proofs.Common.{◌≡◌, ◌⊎◌, inl, inr, ℕ, Bool, true, false, List, [], ◌∷◌, ◌++◌, Option, Some, None, ap, refl, sym, ◌∙◌, subst, codes}
use Rattle.std.specs.Prelude.{pos, negsuc}
use Rattle.chor_base.specs.declared.rule.Place.{Place}
use Rattle.chor_base.specs.declared.rule.Rule.{Rule}
use Rattle.chor_base.specs.declared.rule.Rule.TheVariants.{P1, P3}
use Rattle.chor_base.specs.declared.rule.Denied.{Denied}
use Rattle.chor_lexer.specs.declared.mark.Mark.TheVariants.{Semicolon}
use Rattle.chor_lexer.specs.declared.token.Kind.TheVariants as kind
use Rattle.chor_lexer.specs.declared.token.Token.{Token}
use Rattle.chor_lexer.specs.Keywords.{HasWord}
use Rattle.chor_lexer.specs.Tokens.{IsKnown, is_last, is_ended}
use Rattle.chor_tree.specs.declared.header.Header.{Header}
use Rattle.chor_tree.specs.Headers.{first_place, no_header, is_capacity}
use Rattle.source_grammar.specs.Symbols.{Allowed, nowhere, only_at, but_at, also_at, Part, Further, Nothing, more_words, AreWhole, Fits, Completes, IsPart, Only, Reads, Reason, excess, Stops, Halts, Then, AtMost, without, with, IsStable, Among, Head, Begins, As, Alike, AllowsFirst, One, Sample, IsClass, Says, RefusesFirst}
use Rattle.source_grammar.specs.Grammar as g
use Rattle.source_grammar.specs.Grammar.{StandsAt, WordIs, NumberIs, CapacityIs, HeaderIs}
use Rattle.source_grammar.specs.Limits.{KeepsCapacity, KeepsHeader}
use Rattle.source_grammar.specs.Parts.{MarkPart, WordPart, AWord, Or, IsKeyword}
use Rattle.source_grammar.specs.Files.{NumberPart, CapacityNumber, CapacityPart, HeaderPart, HeaderMore}
use Rattle.source_grammar.proofs.Wholes.{first_of_cons, reads_by_end}
use Rattle.source_grammar.proofs.Sequels.{then_part}
use Rattle.source_grammar.proofs.Choices.{same_part, same_reads, option_part}
use Rattle.source_grammar.proofs.Starts.{then_begins, same_begins, nothing_apart, allows_wider, wrong_halts}
use Rattle.source_grammar.proofs.Singles.{one_part, one_begins, one_reads, says_stable}
use Rattle.source_grammar.proofs.Terminals.{word_class, word_part, word_begins, word_stable, or_left, or_right, or_stable, nothing_among}
use Rattle.source_grammar.proofs.ShortParts.{mark_then, a_mark, and_then, seq}

-- ---- numbers

-- the token is this number
abbrev pub ANumber : ℕ → Further
ANumber n names t = t.kind ≡ kind.Number (pos n)

abbrev pub IsTheNumber : ℕ → Unit {0} → Further
IsTheNumber n x names t = ANumber n names t

pub number_stable : (n : ℕ) → IsStable (ANumber n)
number_stable n = record { stays = λ names words t h. h; back = λ names words t k h. h }

pub number_class : (n : ℕ) → IsClass (IsTheNumber n)
number_class n = record {
  stable = λ x. record { stays = λ names words t h. h; back = λ names words t k h. h };
  one = λ names t x y h k. refl;
  inside = λ names t x h. ap is_last h;
  some = λ p names. record { value = tt; token = record { kind = kind.Number (pos n); place = p }; there = refl; is = refl };
}

pub number_alike : (n : ℕ) → Alike (NumberPart n) (One (IsTheNumber n)) (λ x. x)
number_alike n = record {
  to = λ {Q} {names} {ts} {x} h. record { value = tt; is = record { token = h.token; parts = h.parts; is = h.is }; same = refl };
  from = λ h. record { token = h.token; parts = h.parts; is = h.is };
}

pub number_part : (n : ℕ) → IsPart (NumberPart n) Nothing
number_part n = same_part (one_part (number_class n)) (number_alike n)

pub number_begins : (n : ℕ) → Begins (NumberPart n) (ANumber n)
number_begins n = record { by = λ {Q} {names} {ts} {x} {rest} h. record { token = h.token; rest = rest; parts = h.parts; is = h.is } }

pub number_reads : {n : ℕ} {names : List (List ℕ)} {ts rest : List Token} → NumberIs n ts rest → Reads (NumberPart n) Nothing names ts tt rest
number_reads {n} h = reads_by_end (number_part n) h (λ t rest e x. x)

pub number_halts : {n : ℕ} {names : List (List ℕ)} {ts : List Token} {d : Denied} → ((rest : List Token) → NumberIs n ts rest → ⊥) → RefusesFirst P1 ts d → Halts (NumberPart n) Nothing names ts d
number_halts {n} h f = wrong_halts (number_part n) (number_begins n) (number_stable n) (λ k. h k.rest (record { token = k.token; parts = k.parts; is = k.is })) f

-- ---- the number of a capacity

-- the token is a number
abbrev pub SomeNumber : Further
SomeNumber names t = (n : ℕ) × ANumber n names t

pub number_of : {a b : ℕ} → kind.Number (pos a) ≡ kind.Number (pos b) → a ≡ b
number_of e = cc

pub one_number : {n m : ℕ} {ts rest left : List Token} → NumberIs n ts rest → NumberIs m ts left → (n ≡ m) × (rest ≡ left)
one_number {n} {m} {ts} {rest} {left} h k =
    let e : h.token ∷ rest ≡ k.token ∷ left = sym h.parts ∙ k.parts in
    let same : h.token ≡ k.token = cc in
    let others : rest ≡ left = cc in
    (number_of (sym h.is ∙ ap (λ (t : Token). t.kind) same ∙ k.is), others)

-- what is allowed at the first token doesn't depend on the others
first_allowed : (Q : Allowed) (rule : Rule) (t : Token) {ts rest : List Token} → ts ≡ t ∷ rest → AllowsFirst Q rule ts → Q rule t.place
first_allowed Q rule t e h = subst (λ (l : List Token). AllowsFirst Q rule l) e h

capacity_class : IsClass (λ n. ANumber n)
capacity_class = record {
  stable = λ n. record { stays = λ names words t h. h; back = λ names words t k h. h };
  one = λ names t n m h k. number_of (sym h ∙ k);
  inside = λ names t n h. ap is_last h;
  some = λ p names. record { value = 1; token = record { kind = kind.Number (pos 1); place = p }; there = refl; is = refl };
}

as_one : {Q : Allowed} {names : List (List ℕ)} {ts : List Token} {n : ℕ} {rest : List Token} → NumberIs n ts rest → One (λ m. ANumber m) Q names ts n rest
as_one h = record { token = h.token; parts = h.parts; is = h.is }

pub capacity_number_part : IsPart CapacityNumber Nothing
capacity_number_part = record {
  fits = λ {Q} {names} {ts} {x} {rest} h. record {
    front = h.0.token ∷ [];
    parts = h.0.parts;
    again = λ words more. (record { token = h.0.token; parts = refl; is = h.0.is }, λ e. first_allowed Q P3 h.0.token h.0.parts (h.1 e));
  };
  wider = λ {Q} {Q'} {names} {ts} w h. (h.0, λ e. allows_wider P3 ts w (h.1 e));
  one = λ h k e f. one_number h.0 k.0;
  some = λ p names. record {
    added = record { kind = kind.Number (pos 1); place = p } ∷ [];
    there = (refl, tt);
    value = 1;
    is = λ more. (record { token = record { kind = kind.Number (pos 1); place = p }; parts = refl; is = refl }, λ e. let both : true ≡ false = e in absurd cc);
  };
  ended = λ {Q} {names} h e. (one_part capacity_class).ended {Q = Q} {names = names} (as_one h.0) e;
  back = λ names words t k h. h;
}

pub capacity_number_begins : Begins CapacityNumber SomeNumber
capacity_number_begins = record { by = λ {Q} {names} {ts} {x} {rest} h. record { token = h.0.token; rest = rest; parts = h.0.parts; is = (x, h.0.is) } }

some_number_stable : IsStable SomeNumber
some_number_stable = record { stays = λ names words t h. h; back = λ names words t k h. h }

pub capacity_number_reads : {n : ℕ} {names : List (List ℕ)} {ts rest : List Token} → NumberIs n ts rest → is_capacity n ≡ true → Reads CapacityNumber Nothing names ts n rest
capacity_number_reads h c = reads_by_end capacity_number_part (h, λ e. let both : true ≡ false = sym c ∙ e in absurd cc) (λ t rest e x. x)

pub no_number_halts : {names : List (List ℕ)} {ts : List Token} {d : Denied} → ((n : ℕ) (rest : List Token) → NumberIs n ts rest → ⊥) → RefusesFirst P1 ts d → Halts CapacityNumber Nothing names ts d
no_number_halts h f = wrong_halts capacity_number_part capacity_number_begins some_number_stable (λ k. h k.is.0 k.rest (record { token = k.token; parts = k.parts; is = k.is.1 })) f

-- a number that is no capacity is one too many there
stops_there : {n : ℕ} {names : List (List ℕ)} {ts rest : List Token} (place : Place) → (h : NumberIs n ts rest) → is_capacity n ≡ false → place ≡ h.token.place → Stops CapacityNumber Nothing names ts P3 place
stops_there {n} {names} {ts} {rest} place h c at = record {
  before = [];
  token = h.token;
  rest = rest;
  parts = h.parts;
  at = at;
  viable = λ p. capacity_number_part.some p names;
  never = λ words more m left k e.
      let here : NumberIs n (h.token ∷ more) more = record { token = h.token; parts = refl; is = h.is } in
      k.1 (ap is_capacity (one_number k.0 here).0 ∙ c) refl (sym at);
  reason = excess (λ p. record {
    added = [];
    there = tt;
    value = n;
    is = λ more. (record { token = h.token; parts = refl; is = h.is }, λ e. inr (refl, refl));
  });
}

pub no_capacity_halts : {n : ℕ} {names : List (List ℕ)} {ts rest : List Token} {d : Denied} → NumberIs n ts rest → is_capacity n ≡ false → RefusesFirst P3 ts d → Halts CapacityNumber Nothing names ts d
no_capacity_halts {n} {names} {ts} {rest} h c f = record {
  by = λ r e w.
      let q = f.by r e in
      (subst (λ (k : Rule). Stops CapacityNumber Nothing names ts k r.place) (sym q.0) (stops_there r.place h c (f.at r e h.token rest h.parts)), q.1);
}

-- ---- a word and where it stands

pub record IsTheWordAt (w : List ℕ) (p : Place) (names : List (List ℕ)) (t : Token) : Type 0 where
  pub word : HasWord names w t
  pub place : p ≡ t.place

pub record WordAtIs (w : List ℕ) (Q : Allowed) (names : List (List ℕ)) (ts : List Token) (p : Place) (rest : List Token) : Type 0 where
  pub at : StandsAt p ts
  pub word : WordIs names w ts rest

pub word_at_class : {w : List ℕ} → IsKeyword w → IsClass (IsTheWordAt w)
word_at_class {w} k = record {
  stable = λ p. record {
    stays = λ names words t h. record { word = (word_stable w).stays names words t h.word; place = h.place };
    back = λ names words t i h. record { word = (word_stable w).back names words t i h.word; place = h.place };
  };
  one = λ names t p q h l. h.place ∙ sym l.place;
  inside = λ names t p h. ap is_last h.word.kind;
  some = λ p names.
      let s = (word_class k).some p names in
      record { value = p; token = s.token; there = s.there; is = record { word = s.is; place = sym s.there } };
}

pub word_at_alike : (w : List ℕ) → Alike (WordAtIs w) (One (IsTheWordAt w)) (λ p. p)
word_at_alike w = record {
  to = λ {Q} {names} {ts} {x} h. record {
    value = x;
    is = record {
      token = h.word.token;
      parts = h.word.parts;
      is = record { word = h.word.is; place = h.at.place ∙ ap (λ (t : Token). t.place) (first_of_cons (sym h.at.parts ∙ h.word.parts)) };
    };
    same = refl;
  };
  from = λ {Q} {names} {ts} {y} {rest} h. record {
    at = record { token = h.token; rest = rest; parts = h.parts; place = h.is.place };
    word = record { token = h.token; parts = h.parts; is = h.is.word };
  };
}

pub word_at_part : {w : List ℕ} → IsKeyword w → IsPart (WordAtIs w) Nothing
word_at_part {w} k = same_part (one_part (word_at_class k)) (word_at_alike w)

pub word_at_begins : (w : List ℕ) → Begins (WordAtIs w) (AWord w)
word_at_begins w = record { by = λ {Q} {names} {ts} {x} {rest} h. record { token = h.word.token; rest = rest; parts = h.word.parts; is = h.word.is } }

pub word_at_reads : {w : List ℕ} {names : List (List ℕ)} {ts rest : List Token} {p : Place} → IsKeyword w → StandsAt p ts → WordIs names w ts rest → Reads (WordAtIs w) Nothing names ts p rest
word_at_reads k s h = reads_by_end (word_at_part k) (record { at = s; word = h }) (λ t rest e x. x)

-- ---- capacities

pub chor_keyword : IsKeyword (codes "chor")
chor_keyword = record { index = 19; at = refl; no_name = refl }

pub capacity_keyword : IsKeyword (codes "capacity")
capacity_keyword = record { index = 20; at = refl; no_name = refl }

abbrev pub SomeCapacity : Part (Place × (ℕ × Unit {0}))
SomeCapacity = Then (WordAtIs (codes "capacity")) (Then CapacityNumber (MarkPart Semicolon))

abbrev pub capacity_by : Option (Place × (ℕ × Unit {0})) → Option ℕ × Place
capacity_by None = (None, first_place)
capacity_by (Some v) = (Some v.1.0, v.0)

capacity_to : {Q : Allowed} {names : List (List ℕ)} {ts : List Token} {c : Option ℕ} {p : Place} {rest : List Token} (d : CapacityIs names ts c p rest) → KeepsCapacity Q d → As (AtMost SomeCapacity) capacity_by Q names ts (c, p) rest
capacity_to g.no_capacity k = record { value = None; is = without; same = refl }
capacity_to (g.a_capacity {n = n} {p = p} s w i m) k = record {
  value = Some (p, (n, tt));
  is = with (record { mid = _; first = record { at = s; word = w }; second = record { mid = _; first = (i, k); second = m } });
  same = refl;
}

capacity_from : {Q : Allowed} {names : List (List ℕ)} {ts : List Token} {v : Option (Place × (ℕ × Unit {0}))} {rest : List Token} → AtMost SomeCapacity Q names ts v rest → CapacityPart Q names ts (capacity_by v) rest
capacity_from without = (g.no_capacity, tt)
capacity_from (with h) = (g.a_capacity h.first.at h.first.word h.second.first.0 h.second.second, h.second.first.1)

pub capacity_alike : Alike CapacityPart (AtMost SomeCapacity) capacity_by
capacity_alike = record { to = λ h. capacity_to h.0 h.1; from = λ h. capacity_from h }

pub some_capacity_part : IsPart SomeCapacity Nothing
some_capacity_part = then_part (word_at_part capacity_keyword) (then_part capacity_number_part a_mark nothing_apart) nothing_apart

pub some_capacity_begins : Begins SomeCapacity (AWord (codes "capacity"))
some_capacity_begins = then_begins (word_at_begins (codes "capacity"))

pub same_among : (F : Further) → Among F F
same_among F names t h = h

pub capacity_part : IsPart CapacityPart (AWord (codes "capacity"))
capacity_part = same_part (option_part some_capacity_part some_capacity_begins (nothing_among (AWord (codes "capacity"))) (same_among (AWord (codes "capacity"))) (word_stable (codes "capacity"))) capacity_alike

-- ---- headers

abbrev pub SomeHeader : Part (Unit {0} × (Unit {0} × (Unit {0} × (Option ℕ × Place))))
SomeHeader = Then (WordPart (codes "chor")) (Then (NumberPart 2) (Then (MarkPart Semicolon) CapacityPart))

abbrev pub header_by : Option (Unit {0} × (Unit {0} × (Unit {0} × (Option ℕ × Place)))) → Header
header_by None = no_header
header_by (Some v) = record { version = 2; capacity = v.1.1.1.0; place = v.1.1.1.1 }

header_to : {Q : Allowed} {names : List (List ℕ)} {ts : List Token} {h : Header} {rest : List Token} (d : HeaderIs names ts h rest) → KeepsHeader Q d → As (AtMost SomeHeader) header_by Q names ts h rest
header_to g.without_header k = record { value = None; is = without; same = refl }
header_to (g.a_header {c = c} {p = p} w n m d) k = record {
  value = Some (tt, (tt, (tt, (c, p))));
  is = with (seq _ w (seq _ n (seq _ m (d, k))));
  same = refl;
}

header_from : {Q : Allowed} {names : List (List ℕ)} {ts : List Token} {v : Option (Unit {0} × (Unit {0} × (Unit {0} × (Option ℕ × Place))))} {rest : List Token} → AtMost SomeHeader Q names ts v rest → HeaderPart Q names ts (header_by v) rest
header_from without = (g.without_header, tt)
header_from (with h) = (g.a_header h.first h.second.first h.second.second.first h.second.second.second.0, h.second.second.second.1)

pub header_alike : Alike HeaderPart (AtMost SomeHeader) header_by
header_alike = record { to = λ h. header_to h.0 h.1; from = λ h. header_from h }

pub header_tail : IsPart (Then (NumberPart 2) (Then (MarkPart Semicolon) CapacityPart)) (AWord (codes "capacity"))
header_tail = then_part (number_part 2) (mark_then capacity_part) nothing_apart

pub some_header_part : IsPart SomeHeader (AWord (codes "capacity"))
some_header_part = and_then (word_part chor_keyword) header_tail

pub some_header_begins : Begins SomeHeader (AWord (codes "chor"))
some_header_begins = then_begins (word_begins (codes "chor"))

pub header_more_stable : IsStable HeaderMore
header_more_stable = or_stable (word_stable (codes "chor")) (word_stable (codes "capacity"))

pub chor_more : Among (AWord (codes "chor")) HeaderMore
chor_more = or_left (AWord (codes "chor")) (AWord (codes "capacity"))

pub capacity_more : Among (AWord (codes "capacity")) HeaderMore
capacity_more = or_right (AWord (codes "chor")) (AWord (codes "capacity"))

pub header_part : IsPart HeaderPart HeaderMore
header_part = same_part (option_part some_header_part some_header_begins capacity_more chor_more header_more_stable) header_alike
