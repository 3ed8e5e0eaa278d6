-- Marks, words and names as parts of the grammar.
use Rattle.std.proofs.Common.{◌≡◌, ◌<◌, ◌+◌, ◌-◌, inl, inr, suc, zero, ℕ, Bool, true, false, List, [], ◌∷◌, ◌++◌, length, Some, ap, refl, sym, ◌∙◌, subst, arith, codes, bytes_eq, slice_get}
use Rattle.std.specs.Prelude.{◌↔◌, IsTrue}
use Rattle.std.specs.List.{list_any}
use Rattle.std.proofs.lemmas.Option.{slice_get_within}
use Rattle.chor_base.specs.declared.names.NameId.{NameId}
use Rattle.chor_base.specs.declared.rule.Rule.TheVariants.{P1}
use Rattle.chor_base.specs.declared.rule.Denied.{Denied}
use Rattle.chor_lexer.specs.declared.mark.Mark.{Mark}
use Rattle.chor_lexer.specs.declared.token.Kind.TheVariants as kind
use Rattle.chor_lexer.specs.declared.token.Token.{Token}
use Rattle.chor_lexer.specs.Keywords.{keywords, HasMark, HasWord, HasName}
use Rattle.chor_lexer.specs.Tokens.{IsKnown, is_last}
use Rattle.chor_tree.specs.declared.file.Named.{Named}
use Rattle.source_grammar.specs.Symbols.{Part, Further, Nothing, more_words, IsPart, Reads, Halts, Then, IsStable, Among, AreDistinct, Head, Begins, Opens, Alike, One, IsClass, Says, RefusesFirst, HasRoom, Leads}
use Rattle.source_grammar.proofs.Wholes.{first_of_cons}
use Rattle.source_grammar.proofs.Sequels.{now, leads}
use Rattle.source_grammar.proofs.Choices.{same_part, same_reads}
use Rattle.source_grammar.proofs.Starts.{same_opens, nothing_apart, wrong_halts}
use Rattle.source_grammar.proofs.Singles.{one_part, one_opens, one_reads}
use Rattle.source_grammar.specs.Grammar.{MarkIs, WordIs, NameIs}
use Rattle.source_grammar.specs.Parts.{MarkPart, WordPart, NamePart, AMark, AWord, AName, Or, IsKeyword}

-- ---- words in a longer table

kept : (xs ys : List (List ℕ)) (n : ℕ) → n < length xs → slice_get (xs ++ ys) n ≡ slice_get xs n
kept [] ys n h = absurd (omega arith)
kept (x ∷ xs) ys zero h = refl
kept (x ∷ xs) ys (suc n) h = let k : n < length xs = omega arith in kept xs ys n k

added : (xs ys : List (List ℕ)) (n : ℕ) → slice_get (xs ++ ys) (length xs + n) ≡ slice_get ys n
added [] ys n = let e : 0 + n ≡ n = omega arith in ap (λ (k : ℕ). slice_get ys k) e
added (x ∷ xs) ys n = let e : suc (length xs) + n ≡ suc (length xs + n) = omega arith in ap (λ (k : ℕ). slice_get (x ∷ (xs ++ ys)) k) e ∙ added xs ys n

word_stays : (names words : List (List ℕ)) (n : ℕ) (w : List ℕ) → slice_get names n ≡ Some w → slice_get (names ++ words) n ≡ Some w
word_stays names words n w e = kept names words n (slice_get_within names n w e) ∙ e

-- ---- marks

abbrev pub IsTheMark : Mark → Unit {0} → Further
IsTheMark m x names t = HasMark m t

pub mark_class : (m : Mark) → IsClass (IsTheMark m)
mark_class m = record {
  stable = λ x. record { stays = λ names words t h. h; back = λ names words t k h. h };
  one = λ names t x y h k. refl;
  inside = λ names t x h. ap is_last h;
  some = λ p names. record { value = tt; token = record { kind = kind.Mark m; place = p }; there = refl; is = refl };
}

pub mark_alike : (m : Mark) → Alike (MarkPart m) (One (IsTheMark m)) (λ x. x)
mark_alike m = record {
  to = λ {Q} {names} {ts} {x} h. record { value = tt; is = record { token = h.token; parts = h.parts; is = h.is }; same = refl };
  from = λ h. record { token = h.token; parts = h.parts; is = h.is };
}

pub mark_part : (m : Mark) → IsPart (MarkPart m) Nothing
mark_part m = same_part (one_part (mark_class m)) (mark_alike m)

pub mark_begins : (m : Mark) → Begins (MarkPart m) (AMark m)
mark_begins m = record { by = λ {Q} {names} {ts} {x} {rest} h. record { token = h.token; rest = rest; parts = h.parts; is = h.is } }

pub mark_stable : (m : Mark) → IsStable (AMark m)
mark_stable m = record { stays = λ names words t h. h; back = λ names words t k h. h }

pub mark_reads : {m : Mark} {names : List (List ℕ)} {ts rest : List Token} → MarkIs m ts rest → Reads (MarkPart m) Nothing names ts tt rest
mark_reads {m} h = same_reads (mark_alike m) (one_reads (mark_class m) (record { token = h.token; parts = h.parts; is = h.is }))

pub mark_head : {m : Mark} {names : List (List ℕ)} {ts rest : List Token} → MarkIs m ts rest → Head (AMark m) names ts
mark_head {rest = rest} h = record { token = h.token; rest = rest; parts = h.parts; is = h.is }

pub no_mark_head : {m : Mark} {names : List (List ℕ)} {ts : List Token} → ((rest : List Token) → MarkIs m ts rest → ⊥) → Head (AMark m) names ts → ⊥
no_mark_head n h = n h.rest (record { token = h.token; parts = h.parts; is = h.is })

pub mark_halts : {m : Mark} {names : List (List ℕ)} {ts : List Token} {d : Denied} → ((rest : List Token) → MarkIs m ts rest → ⊥) → RefusesFirst P1 ts d → Halts (MarkPart m) Nothing names ts d
mark_halts {m} n f = wrong_halts (mark_part m) (mark_begins m) (mark_stable m) (λ h. no_mark_head n h) f

-- ---- words

abbrev pub IsTheWord : List ℕ → Unit {0} → Further
IsTheWord w x names t = HasWord names w t

pub word_stable : (w : List ℕ) → IsStable (AWord w)
word_stable w = record {
  stays = λ names words t h. record { number = h.number; kind = h.kind; word = word_stays names words h.number.0 w h.word };
  back = λ names words t k h. record { number = h.number; kind = h.kind; word = sym (kept names words h.number.0 (k h.number h.kind)) ∙ h.word };
}

pub word_class : {w : List ℕ} → IsKeyword w → IsClass (IsTheWord w)
word_class {w} k = record {
  stable = λ x. record { stays = (word_stable w).stays; back = (word_stable w).back };
  one = λ names t x y h l. refl;
  inside = λ names t x h. ap is_last h.kind;
  some = λ p names.
      let n : NameId = record { 0 = length names + k.index } in
      record { value = tt; token = record { kind = kind.Word n; place = p }; there = refl; is = record { number = n; kind = refl; word = added names more_words k.index ∙ k.at } };
}

pub word_alike : (w : List ℕ) → Alike (WordPart w) (One (IsTheWord w)) (λ x. x)
word_alike w = record {
  to = λ {Q} {names} {ts} {x} h. record { value = tt; is = record { token = h.token; parts = h.parts; is = h.is }; same = refl };
  from = λ h. record { token = h.token; parts = h.parts; is = h.is };
}

pub word_part : {w : List ℕ} → IsKeyword w → IsPart (WordPart w) Nothing
word_part {w} k = same_part (one_part (word_class k)) (word_alike w)

pub word_begins : (w : List ℕ) → Begins (WordPart w) (AWord w)
word_begins w = record { by = λ {Q} {names} {ts} {x} {rest} h. record { token = h.token; rest = rest; parts = h.parts; is = h.is } }

pub word_reads : {w : List ℕ} {names : List (List ℕ)} {ts rest : List Token} → IsKeyword w → WordIs names w ts rest → Reads (WordPart w) Nothing names ts tt rest
word_reads {w} k h = same_reads (word_alike w) (one_reads (word_class k) (record { token = h.token; parts = h.parts; is = h.is }))

pub word_head : {w : List ℕ} {names : List (List ℕ)} {ts rest : List Token} → WordIs names w ts rest → Head (AWord w) names ts
word_head {rest = rest} h = record { token = h.token; rest = rest; parts = h.parts; is = h.is }

pub no_word_head : {w : List ℕ} {names : List (List ℕ)} {ts : List Token} → ((rest : List Token) → WordIs names w ts rest → ⊥) → Head (AWord w) names ts → ⊥
no_word_head n h = n h.rest (record { token = h.token; parts = h.parts; is = h.is })

pub word_halts : {w : List ℕ} {names : List (List ℕ)} {ts : List Token} {d : Denied} → IsKeyword w → ((rest : List Token) → WordIs names w ts rest → ⊥) → RefusesFirst P1 ts d → Halts (WordPart w) Nothing names ts d
word_halts {w} k n f = wrong_halts (word_part k) (word_begins w) (word_stable w) (λ h. no_word_head n h) f

-- ---- names

pub name_stable : IsStable AName
name_stable = record {
  stays = λ names words t h. (h.0, record { word = h.1.word; kind = h.1.kind; is = word_stays names words h.0.0 h.1.word h.1.is; name = h.1.name });
  back = λ names words t k h. (h.0, record { word = h.1.word; kind = h.1.kind; is = sym (kept names words h.0.0 (k h.0 h.1.kind)) ∙ h.1.is; name = h.1.name });
}

-- a token that is this name where it stands
pub record IsTheName (n : Named) (names : List (List ℕ)) (t : Token) : Type 0 where
  pub name : HasName names n.name t
  pub place : n.place ≡ t.place

word_of : {a b : NameId} → kind.Word a ≡ kind.Word b → a ≡ b
word_of e = cc

one_name : (names : List (List ℕ)) (t : Token) (m n : Named) → IsTheName m names t → IsTheName n names t → m ≡ n
one_name names t m n h k =
    let x : m.name ≡ n.name = word_of (sym h.name.kind ∙ k.name.kind) in
    let p : m.place ≡ n.place = h.place ∙ sym k.place in
    λ i. record { name = x i; place = p i }

pub name_class : IsClass IsTheName
unfolding name_stable
name_class = record {
  stable = λ n. record {
    stays = λ names words t h. record { name = (name_stable.stays names words t (n.name, h.name)).1; place = h.place };
    back = λ names words t k h. record { name = (name_stable.back names words t k (n.name, h.name)).1; place = h.place };
  };
  one = one_name;
  inside = λ names t n h. ap is_last h.name.kind;
  some = λ p names.
      let n : NameId = record { 0 = length names + 0 } in
      record {
        value = record { name = n; place = p };
        token = record { kind = kind.Word n; place = p };
        there = refl;
        is = record { name = record { word = 97 ∷ []; kind = refl; is = added names more_words 0; name = refl }; place = refl };
      };
}

pub name_alike : Alike NamePart (One IsTheName) (λ n. n)
name_alike = record {
  to = λ {Q} {names} {ts} {x} h. record { value = x; is = record { token = h.token; parts = h.parts; is = record { name = h.is; place = h.place } }; same = refl };
  from = λ h. record { token = h.token; parts = h.parts; is = h.is.name; place = h.is.place };
}

pub name_part : IsPart NamePart Nothing
name_part = same_part (one_part name_class) name_alike

pub name_begins : Begins NamePart AName
name_begins = record { by = λ {Q} {names} {ts} {x} {rest} h. record { token = h.token; rest = rest; parts = h.parts; is = (x.name, h.is) } }

pub said_name : (names : List (List ℕ)) (t : Token) → AName names t → Says IsTheName names t
said_name names t h = (record { name = h.0; place = t.place }, record { name = h.1; place = refl })

pub name_opens : Opens NamePart AName
name_opens = record { by = λ names t p h. (same_opens (one_opens name_class) name_alike).by names t p (said_name names t h) }

pub name_reads : {names : List (List ℕ)} {ts rest : List Token} {n : Named} → NameIs names ts n rest → Reads NamePart Nothing names ts n rest
name_reads h = same_reads name_alike (one_reads name_class (record { token = h.token; parts = h.parts; is = record { name = h.is; place = h.place } }))

pub name_head : {names : List (List ℕ)} {ts rest : List Token} {n : Named} → NameIs names ts n rest → Head AName names ts
name_head {rest = rest} {n = n} h = record { token = h.token; rest = rest; parts = h.parts; is = (n.name, h.is) }

pub no_name_head : {names : List (List ℕ)} {ts : List Token} → ((n : Named) (rest : List Token) → NameIs names ts n rest → ⊥) → Head AName names ts → ⊥
no_name_head n h = n (record { name = h.is.0; place = h.token.place }) h.rest (record { token = h.token; parts = h.parts; is = h.is.1; place = refl })

pub name_halts : {names : List (List ℕ)} {ts : List Token} {d : Denied} → ((n : Named) (rest : List Token) → NameIs names ts n rest → ⊥) → RefusesFirst P1 ts d → Halts NamePart Nothing names ts d
name_halts n f = wrong_halts name_part name_begins name_stable (λ h. no_name_head n h) f

-- ---- one token and then a part

pub after_name : {B : Type 0} {S : Part B} {D : Further} {names : List (List ℕ)} {ts mid : List Token} {n : Named} → NameIs names ts n mid → Leads (Then NamePart S) D names ts S D mid (λ y. (n, y))
after_name h = leads name_part nothing_apart (name_reads h)

pub after_mark : {B : Type 0} {S : Part B} {D : Further} {m : Mark} {names : List (List ℕ)} {ts mid : List Token} → MarkIs m ts mid → Leads (Then (MarkPart m) S) D names ts S D mid (λ y. (tt, y))
after_mark {m = m} h = leads (mark_part m) nothing_apart (mark_reads h)

pub after_word : {B : Type 0} {S : Part B} {D : Further} {w : List ℕ} {names : List (List ℕ)} {ts mid : List Token} → IsKeyword w → WordIs names w ts mid → Leads (Then (WordPart w) S) D names ts S D mid (λ y. (tt, y))
after_word k h = leads (word_part k) nothing_apart (word_reads k h)

-- a refusal of one token before a part
pub at_once : {A B : Type 0} {R : Part A} {S : Part B} {D : Further} {names : List (List ℕ)} {ts : List Token} {d : Denied} → IsPart S D → Halts R Nothing names ts d → Halts (Then R S) D names ts d
at_once q h = now q nothing_apart h

-- ---- which keyword is which

pub protocol_keyword : IsKeyword (codes "protocol")
protocol_keyword = record { index = 1; at = refl; no_name = refl }

pub service_keyword : IsKeyword (codes "service")
service_keyword = record { index = 2; at = refl; no_name = refl }

pub proc_keyword : IsKeyword (codes "proc")
proc_keyword = record { index = 3; at = refl; no_name = refl }

pub main_keyword : IsKeyword (codes "main")
main_keyword = record { index = 4; at = refl; no_name = refl }

pub start_keyword : IsKeyword (codes "start")
start_keyword = record { index = 5; at = refl; no_name = refl }

pub new_keyword : IsKeyword (codes "new")
new_keyword = record { index = 6; at = refl; no_name = refl }

pub if_keyword : IsKeyword (codes "if")
if_keyword = record { index = 7; at = refl; no_name = refl }

pub else_keyword : IsKeyword (codes "else")
else_keyword = record { index = 8; at = refl; no_name = refl }

pub call_keyword : IsKeyword (codes "call")
call_keyword = record { index = 9; at = refl; no_name = refl }

pub end_keyword : IsKeyword (codes "end")
end_keyword = record { index = 10; at = refl; no_name = refl }

pub show_keyword : IsKeyword (codes "show")
show_keyword = record { index = 11; at = refl; no_name = refl }

pub host_keyword : IsKeyword (codes "host")
host_keyword = record { index = 12; at = refl; no_name = refl }

pub then_keyword : IsKeyword (codes "then")
then_keyword = record { index = 13; at = refl; no_name = refl }

pub int_keyword : IsKeyword (codes "int")
int_keyword = record { index = 14; at = refl; no_name = refl }

pub bool_keyword : IsKeyword (codes "bool")
bool_keyword = record { index = 15; at = refl; no_name = refl }

pub text_keyword : IsKeyword (codes "text")
text_keyword = record { index = 16; at = refl; no_name = refl }

-- ---- tokens that differ

pub name_not_word : {w : List ℕ} → IsKeyword w → AreDistinct AName (AWord w)
name_not_word {w} k names t h g =
    let n : h.0 ≡ g.number = word_of (sym h.1.kind ∙ g.kind) in
    let at : slice_get names g.number.0 ≡ Some h.1.word = subst (λ (x : NameId). slice_get names x.0 ≡ Some h.1.word) n h.1.is in
    let same : h.1.word ≡ w = some_same (sym at ∙ g.word) in
    let no : list_any (bytes_eq w) keywords ≡ false = subst (λ (v : List ℕ). list_any (bytes_eq v) keywords ≡ false) same h.1.name in
    let yes = k.no_name in
    absurd cc
  where
    some_same : {x y : List ℕ} → Some x ≡ Some y → x ≡ y
    some_same e = cc

pub word_not_name : {w : List ℕ} → IsKeyword w → AreDistinct (AWord w) AName
word_not_name k names t g h = name_not_word k names t h g

pub mark_not_name : (m : Mark) → AreDistinct (AMark m) AName
mark_not_name m names t h g = let e = g.1.kind in absurd cc

pub name_not_mark : (m : Mark) → AreDistinct AName (AMark m)
name_not_mark m names t g h = mark_not_name m names t h g

pub mark_not_word : (m : Mark) (w : List ℕ) → AreDistinct (AMark m) (AWord w)
mark_not_word m w names t h g = let e = g.kind in absurd cc

pub word_not_mark : (m : Mark) (w : List ℕ) → AreDistinct (AWord w) (AMark m)
word_not_mark m w names t g h = mark_not_word m w names t h g

pub marks_differ : (m n : Mark) → (m ≡ n → ⊥) → AreDistinct (AMark m) (AMark n)
marks_differ m n d names t h g = d (mark_same (sym h ∙ g))
  where
    mark_same : {a b : Mark} → kind.Mark a ≡ kind.Mark b → a ≡ b
    mark_same e = cc

pub words_differ : (v w : List ℕ) → bytes_eq v w ≡ false → bytes_eq v v ≡ true → AreDistinct (AWord v) (AWord w)
words_differ v w differ same_v names t h g =
    let n : h.number ≡ g.number = word_of (sym h.kind ∙ g.kind) in
    let at : slice_get names g.number.0 ≡ Some v = subst (λ (x : NameId). slice_get names x.0 ≡ Some v) n h.word in
    let same : v ≡ w = some_same (sym at ∙ g.word) in
    let both : bytes_eq v v ≡ bytes_eq v w = ap (λ (u : List ℕ). bytes_eq v u) same in
    truth_differs (sym same_v ∙ both ∙ differ)
  where
    some_same : {x y : List ℕ} → Some x ≡ Some y → x ≡ y
    some_same e = cc

    truth_differs : true ≡ false → ⊥
    truth_differs e = absurd cc

-- where one word stands the other doesn't
pub words_apart : {names : List (List ℕ)} {ts rest : List Token} (v w : List ℕ) → bytes_eq v w ≡ false → bytes_eq v v ≡ true → WordIs names w ts rest → Head (AWord v) names ts → ⊥
words_apart {names} v w differ same_v h k = words_differ v w differ same_v names k.token k.is (subst (λ (t : Token). HasWord names w t) (first_of_cons (sym h.parts ∙ k.parts)) h.is)

-- of several tokens
pub or_left : (F G : Further) → Among F (Or F G)
or_left F G names t h = inl h

pub or_right : (F G : Further) → Among G (Or F G)
or_right F G names t h = inr h

pub nothing_among : (F : Further) → Among Nothing F
nothing_among F names t h = absurd h

pub nothing_distinct : (F : Further) → AreDistinct F Nothing
nothing_distinct F names t h n = n

pub or_stable : {F G : Further} → IsStable F → IsStable G → IsStable (Or F G)
or_stable {F} {G} f g = record {
  stays = λ names words t h. stay names words t h;
  back = λ names words t k h. come names words t k h;
}
  where
    stay : (names words : List (List ℕ)) (t : Token) → Or F G names t → Or F G (names ++ words) t
    stay names words t (inl h) = inl (f.stays names words t h)
    stay names words t (inr h) = inr (g.stays names words t h)

    come : (names words : List (List ℕ)) (t : Token) → IsKnown names t → Or F G (names ++ words) t → Or F G names t
    come names words t k (inl h) = inl (f.back names words t k h)
    come names words t k (inr h) = inr (g.back names words t k h)

pub or_distinct : {F G H : Further} → AreDistinct F H → AreDistinct G H → AreDistinct (Or F G) H
or_distinct f g names t (inl h) k = f names t h k
or_distinct f g names t (inr h) k = g names t h k

pub distinct_or : {F G H : Further} → AreDistinct F G → AreDistinct F H → AreDistinct F (Or G H)
distinct_or f g names t h (inl k) = f names t h k
distinct_or f g names t h (inr k) = g names t h k

-- ---- room for a name

-- what a test tells
pub holds_if : {b : Bool} {P : Type 0} → (IsTrue b ↔ P) → b ≡ true → P
holds_if h e = h.0 e

pub fails_if : {b : Bool} {P : Type 0} → (IsTrue b ↔ P) → b ≡ false → P → ⊥
fails_if h e p = let t = h.1 p in absurd cc

pub room_left : {F : Further} {names : List (List ℕ)} {ts : List Token} (limit count : ℕ) → count < limit → HasRoom F names ts (limit - count)
room_left limit count h = record { room = λ e k. absurd (omega arith) }

pub none_comes : {F : Further} {names : List (List ℕ)} {ts : List Token} {n : ℕ} → (Head F names ts → ⊥) → HasRoom F names ts n
none_comes h = record { room = λ e k. h k }
