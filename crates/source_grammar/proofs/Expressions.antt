-- Expressions are a part of a grammar, and what reads them tells where they stop.
use Rattle.std.proofs.Common.{◌≡◌, ◌<◌, ◌≤◌, ◌+◌, ◌-◌, ◌&&◌, inl, inr, suc, zero, ℕ, pos, Bool, true, false, List, [], ◌∷◌, ◌++◌, length, Some, refl, sym, ap, ◌∙◌, subst, arith, append_assoc, length-append, map, not, nat_lt}
use Rattle.std.specs.Prelude.{slice_get}
use Rattle.std.specs.List.{AllZip, AllByRecursion}
use Rattle.std.proofs.lemmas.List.{append-nil}
use Rattle.std.proofs.lemmas.Bool.Decides.{nat_tests}
use Rattle.chor_base.specs.declared.rule.Place.{Place}
use Rattle.chor_base.specs.declared.rule.Rule.TheVariants.{P1, P2}
use Rattle.chor_base.specs.declared.value.Value.TheVariants as value
use Rattle.chor_base.specs.Expr.{Term, Constant}
use Rattle.chor_lexer.specs.declared.token.Kind.{Kind}
use Rattle.chor_lexer.specs.declared.token.Kind.TheVariants as kind
use Rattle.chor_lexer.specs.declared.token.Token.{Token}
use Rattle.chor_lexer.specs.Tokens.{IsKnown, is_ended, is_last}
use Rattle.chor_lexer.specs.Grammar.{ExprIs, IsExpr, IsExprFront, IsLongestFront, a_disjunction, or_done, a_conjunction, and_done, a_comparison, cmp_done, a_sum, sum_done, a_product, prod_done, a_number}
use Rattle.chor_lexer.proofs.Derivations.{expr_cut, one_expression}
use Rattle.chor_lexer.proofs.Longest.{whole_front, longest_before, never_front, derived_is_longest}
use Rattle.source_grammar.specs.Symbols.{Allowed, only_at, but_at, also_at, Ends, more_words, AreWhole, Fits, Completes, IsPart, wrong, excess, Stops}
use Rattle.source_grammar.specs.Expressions.{Operator, ExprPart}
use Rattle.source_grammar.proofs.Derived.{get_left, get_back, word_more, name_more, expr_more_words, Alone, number, text, truth, name, Like, expr_like}

-- ---- lists of tokens

all_left : (P : Token → Type 0) (ts us : List Token) → AllByRecursion P (ts ++ us) → AllByRecursion P ts
all_left P [] us h = tt
all_left P (t ∷ ts) us h = (h.0, all_left P ts us h.1)

zip_append : (R : Token → Token → Type 0) (ts ts' us us' : List Token) → AllZip R ts ts' → AllZip R us us' → AllZip R (ts ++ us) (ts' ++ us')
zip_append R [] [] us us' h k = k
zip_append R [] (t ∷ ts') us us' h k = absurd h
zip_append R (t ∷ ts) [] us us' h k = absurd h
zip_append R (t ∷ ts) (t' ∷ ts') us us' h k = (h.0, zip_append R ts ts' us us' h.1 k)

-- where two fronts have one length
same_front : (a b c d : List Token) → a ++ b ≡ c ++ d → length a ≡ length c → (a ≡ c) × (b ≡ d)
same_front [] b [] d e h = (refl, e)
same_front [] b (t ∷ c) d e h = absurd (omega (arith, h))
same_front (s ∷ a) b [] d e h = absurd (omega (arith, h))
same_front (s ∷ a) b (t ∷ c) d e h =
    let head : s ≡ t = cc in
    let tails : a ++ b ≡ c ++ d = cc in
    let more = same_front a b c d tails (omega (arith, h)) in
    ((λ i. head i ∷ more.0 i), more.1)

-- what stands in the middle
get_there : (P : Token → Type 0) (ts us more : List Token) (n : ℕ) (t : Token) → AllByRecursion P us → length ts ≤ n → n < length ts + length us → slice_get (ts ++ (us ++ more)) n ≡ Some t → P t
get_there P [] [] more n t h l k e = absurd (omega (arith, k))
get_there P [] (u ∷ us) more zero t h l k e = let same : u ≡ t = cc in subst P same h.0
get_there P [] (u ∷ us) more (suc n) t h l k e = get_there P [] us more n t h.1 (omega arith) (omega (arith, k)) e
get_there P (s ∷ ts) us more zero t h l k e = absurd (omega (arith, l))
get_there P (s ∷ ts) us more (suc n) t h l k e = get_there P ts us more n t h (omega (arith, l)) (omega (arith, k)) e

later : (a b : Bool) → (a && b) ≡ true → b ≡ true
later true b e = e
later false b e = absurd cc

ended_after : (w : List Token) (t : Token) (rest : List Token) → is_ended (w ++ t ∷ rest) ≡ true → is_ended (t ∷ rest) ≡ true
ended_after [] t rest e = e
ended_after (s ∷ []) t rest e = later (not (is_last s.kind)) (is_ended (t ∷ rest)) e
ended_after (s ∷ u ∷ w) t rest e = ended_after (u ∷ w) t rest (later (not (is_last s.kind)) (is_ended (u ∷ w ++ t ∷ rest)) e)

-- ---- tokens that can stand for others

-- the same kind, with more words
like_more : (names words : List (List ℕ)) (t : Token) → Like names (names ++ words) t t
like_more names words t = record { mark = λ m h. h; operand = go }
  where
    go : (x : Term) → Alone names t x → (y : Term) × Alone (names ++ words) t y
    go x (number h) = (x, number h)
    go x (text h) = (x, text h)
    go x (truth h) = (x, truth (word_more words h))
    go x (name h) = (x, name (name_more words h))

all_like_more : (names words : List (List ℕ)) (ts : List Token) → AllZip (Like names (names ++ words)) ts ts
all_like_more names words [] = tt
all_like_more names words (t ∷ ts) = (like_more names words t, all_like_more names words ts)

-- with fewer words, where the token's is one of them
like_back : (names words : List (List ℕ)) (t : Token) → IsKnown names t → Like (names ++ words) names t t
like_back names words t k = record { mark = λ m h. h; operand = go }
  where
    go : (x : Term) → Alone (names ++ words) t x → (y : Term) × Alone names t y
    go x (number h) = (x, number h)
    go x (text h) = (x, text h)
    go x (truth h) = (x, truth (record { number = h.number; kind = h.kind; word = get_back names words h.number.0 _ (k h.number h.kind) h.word }))
    go x (name {x = n} h) = (x, name (record { word = h.word; kind = h.kind; is = get_back names words n.0 h.word (k n h.kind) h.is; name = h.name }))

all_like_back : (names words : List (List ℕ)) (ts : List Token) → AllByRecursion (IsKnown names) ts → AllZip (Like (names ++ words) names) ts ts
all_like_back names words [] h = tt
all_like_back names words (t ∷ ts) h = (like_back names words t h.0, all_like_back names words ts h.1)

-- a number for a word
abbrev plain : Kind → Kind
plain (kind.Word n) = kind.Number (pos 0)
plain (kind.Number z) = kind.Number z
plain (kind.Text n) = kind.Text n
plain (kind.Mark m) = kind.Mark m
plain kind.Last = kind.Last

abbrev stand_in : Place → Token → Token
stand_in p t = record { kind = plain t.kind; place = p }

like_stand_in : (names names' : List (List ℕ)) (p : Place) (t : Token) → Like names names' t (stand_in p t)
like_stand_in names names' p t = record { mark = λ m h. ap plain h; operand = go }
  where
    go : (x : Term) → Alone names t x → (y : Term) × Alone names' (stand_in p t) y
    go x (number {z = z} h) = (Constant (value.Int z), number (ap plain h))
    go x (text {n = n} h) = (Constant (value.Text n), text (ap plain h))
    go x (truth h) = (Constant (value.Int (pos 0)), number (ap plain h.kind))
    go x (name h) = (Constant (value.Int (pos 0)), number (ap plain h.kind))

all_like_stand_in : (names names' : List (List ℕ)) (p : Place) (ts : List Token) → AllZip (Like names names') ts (map (stand_in p) ts)
all_like_stand_in names names' p [] = tt
all_like_stand_in names names' p (t ∷ ts) = (like_stand_in names names' p t, all_like_stand_in names names' p ts)

all_there : (p : Place) (ts : List Token) → AllByRecursion (λ t. t.place ≡ p) (map (stand_in p) ts)
all_there p [] = tt
all_there p (t ∷ ts) = (refl, all_there p ts)

-- ---- fronts

-- an expression before other tokens
pub before : (names : List (List ℕ)) (w rest : List Token) (x : Term) → IsExpr names w x → ExprIs names (w ++ rest) x rest
before names w rest x p =
    let c = expr_cut names w x [] p in
    let same : w ≡ c.written = c.parts ∙ append-nil c.written in
    subst (λ (l : List Token). ExprIs names (l ++ rest) x rest) (sym same) (c.moves rest)

-- how a front goes on, with tokens that all stand at one place
record GoesOn (names : List (List ℕ)) (w : List Token) (p : Place) : Type 0 where
  added : List Token
  there : AllByRecursion (λ t. t.place ≡ p) added
  value : Term
  is : IsExpr names (w ++ added) value

goes_on : (names names' : List (List ℕ)) (w : List Token) (p : Place) → IsExprFront names w → AllZip (Like names names') w w → GoesOn names' w p
goes_on names names' w p f l =
    let y = expr_like names names' (w ++ f.0) (w ++ map (stand_in p) f.0) f.1 f.2 (zip_append (Like names names') w w f.0 (map (stand_in p) f.0) l (all_like_stand_in names names' p f.0)) in
    record { added = map (stand_in p) f.0; there = all_there p f.0; value = y.0; is = y.1 }

a_place : Place
a_place = record { line = 1; col = 1 }

front_like : (names names' : List (List ℕ)) (w : List Token) → IsExprFront names w → AllZip (Like names names') w w → IsExprFront names' w
front_like names names' w f l = let g = goes_on names names' w a_place f l in (g.added, g.value, g.is)

front_more : (names words : List (List ℕ)) (w : List Token) → IsExprFront names w → IsExprFront (names ++ words) w
front_more names words w f = front_like names (names ++ words) w f (all_like_more names words w)

-- a front of at most 255 tokens can be completed, with no 256th but in what is added
completes : (Q : Allowed) (p : Place) (names : List (List ℕ)) (w : List Token) → IsExprFront names w → (length w ≤ 255 → (t : Token) → t.place ≡ p → Q P2 t.place) → (255 < length w → (t : Token) → slice_get w 255 ≡ Some t → Q P2 t.place) → Completes ExprPart Q p names w
completes Q p names w f few many =
    let g = goes_on names (names ++ more_words) w p f (all_like_more names more_words w) in
    record {
      added = g.added;
      there = g.there;
      value = g.value;
      is = λ more. record {
        is = subst (λ (l : List Token). ExprIs (names ++ more_words) l g.value more) (append_assoc w g.added more) (before (names ++ more_words) (w ++ g.added) more g.value g.is);
        keeps = λ t long at. go (nat_lt 255 (length w)) refl g.added g.there more t long at;
      };
    }
  where
    go : (b : Bool) → nat_lt 255 (length w) ≡ b → (added : List Token) → AllByRecursion (λ t. t.place ≡ p) added → (more : List Token) (t : Token) → 255 < length (w ++ (added ++ more)) - length more → slice_get (w ++ (added ++ more)) 255 ≡ Some t → Q P2 t.place
    go true e added there more t long at = let size : 255 < length w = grind (arith, nat_tests) in many size t (get_back w (added ++ more) 255 t size at)
    go false e added there more t long at =
        let short : length w ≤ 255 = grind (arith, nat_tests) in
        few short t (get_there (λ u. u.place ≡ p) w added more 255 t there short (omega (arith, long, length-append w (added ++ more), length-append added more)) at)

-- what is derived where no operator follows is the longest front
longest : (names : List (List ℕ)) (w rest : List Token) (x : Term) → IsExpr names w x → Ends Operator names rest → IsLongestFront names w rest (w ++ rest)
longest names w [] x p e = record {
  parts = refl;
  begins = whole_front names w x p;
  longest = λ v u q f. omega (arith, ap length (sym (append-nil w) ∙ q), length-append v u);
}
longest names w (t ∷ rest) x p e = derived_is_longest names w t rest x p (λ op h. e t rest refl (op, h))

-- ---- a part of a grammar

part_fits : {Q : Allowed} {names : List (List ℕ)} {ts : List Token} {x : Term} {rest : List Token} → ExprPart Q names ts x rest → Fits ExprPart Q names ts x rest
part_fits {Q} {names} {ts} {x} {rest} d =
    let c = expr_cut names ts x rest d.is in
    record {
      front = c.written;
      parts = c.parts;
      again = λ words more. record {
        is = expr_more_words words (c.moves more);
        keeps = λ t long at. keeps c.written c.parts more t long at;
      };
    }
  where
    keeps : (w : List Token) → ts ≡ w ++ rest → (more : List Token) (t : Token) → 255 < length (w ++ more) - length more → slice_get (w ++ more) 255 ≡ Some t → Q P2 t.place
    keeps w e more t long at =
        let many : 255 < length w = omega (arith, long, length-append w more) in
        d.keeps t (omega (arith, many, ap length e, length-append w rest)) (ap (λ (l : List Token). slice_get l 255) e ∙ get_left w rest 255 t (get_back w more 255 t many at))

part_one : {Q Q' : Allowed} {names : List (List ℕ)} {ts : List Token} {x y : Term} {rest rest' : List Token} → ExprPart Q names ts x rest → ExprPart Q' names ts y rest' → Ends Operator names rest → Ends Operator names rest' → (x ≡ y) × (rest ≡ rest')
part_one {names = names} {ts = ts} {x = x} {y = y} {rest = rest} {rest' = rest'} d d' e e' =
    let c = expr_cut names ts x rest d.is in
    let c' = expr_cut names ts y rest' d'.is in
    let p : IsExpr names c.written x = subst (λ (l : List Token). IsExpr names l x) (append-nil c.written) (c.moves []) in
    let p' : IsExpr names c'.written y = subst (λ (l : List Token). IsExpr names l y) (append-nil c'.written) (c'.moves []) in
    let both : c.written ++ rest ≡ c'.written ++ rest' = sym c.parts ∙ c'.parts in
    let less = (longest names c.written rest x p e).longest c'.written rest' both (whole_front names c'.written y p') in
    let more = (longest names c'.written rest' y p' e').longest c.written rest (sym both) (whole_front names c.written x p) in
    let same = same_front c.written rest c'.written rest' both (omega (arith, less, more)) in
    (one_expression names c.written x y p (subst (λ (l : List Token). IsExpr names l y) (sym same.0) p'), same.1)

part_some : (p : Place) (names : List (List ℕ)) → Completes ExprPart (only_at p) p names []
part_some p names =
    let zero_at : Token = record { kind = kind.Number (pos 0); place = p } in
    record {
      added = zero_at ∷ [];
      there = (refl, tt);
      value = Constant (value.Int (pos 0));
      is = λ more. record {
        is = a_disjunction (a_conjunction (a_comparison (a_sum (a_product (a_number refl) prod_done) sum_done) cmp_done) and_done) or_done;
        keeps = λ t long at. absurd (omega (arith, long));
      };
    }

part_ended : {Q : Allowed} {names : List (List ℕ)} {ts : List Token} {x : Term} {rest : List Token} → ExprPart Q names ts x rest → is_ended ts ≡ true → is_ended rest ≡ true
part_ended {names = names} {ts = ts} {x = x} {rest = rest} d e =
    let c = expr_cut names ts x rest d.is in
    go rest c.written (subst (λ (l : List Token). is_ended l ≡ true) c.parts e) (c.moves [])
  where
    go : (rest w : List Token) → is_ended (w ++ rest) ≡ true → ExprIs names (w ++ []) x [] → is_ended rest ≡ true
    go [] w h p = absurd (never_front names (w ++ []) h (whole_front names (w ++ []) x p))
    go (t ∷ rest) w h p = ended_after w t rest h

pub expr_part : IsPart ExprPart Operator
expr_part = record {
  fits = part_fits;
  wider = λ more d. record { is = d.is; keeps = λ t long at. more P2 t.place (d.keeps t long at) };
  one = part_one;
  some = part_some;
  ended = part_ended;
  back = λ names words t known c. c;
}

-- ---- where it stops

-- what is derived with the tokens of a longest front, and whatever after it, has these tokens
pub stuck : (Q : Allowed) (names words : List (List ℕ)) (w : List Token) (t : Token) (more : List Token) (y : Term) (left : List Token) → IsExprFront names w → (IsExprFront names (w ++ t ∷ []) → ⊥) → AllByRecursion (IsKnown names) (w ++ t ∷ []) → ExprPart Q (names ++ words) (w ++ t ∷ more) y left → Ends Operator (names ++ words) left → IsExpr (names ++ words) w y × (t ∷ more ≡ left)
stuck Q names words w t more y left f never known d e =
    let all = names ++ words in
    let c = expr_cut all (w ++ t ∷ more) y left d.is in
    let p : IsExpr all c.written y = subst (λ (l : List Token). IsExpr all l y) (append-nil c.written) (c.moves []) in
    let here : IsLongestFront all w (t ∷ more) (w ++ t ∷ more) = longest_before all (w ++ t ∷ more) w more t refl (front_more names words w f) (λ g. never (front_like all names (w ++ t ∷ []) g (all_like_back names words (w ++ t ∷ []) known))) in
    let less = here.longest c.written left c.parts (whole_front all c.written y p) in
    let more_is = (longest all c.written left y p e).longest w (t ∷ more) (sym c.parts) (front_more names words w f) in
    let same = same_front w (t ∷ more) c.written left c.parts (omega (arith, less, more_is)) in
    (subst (λ (l : List Token). IsExpr all l y) (sym same.0) p, same.1)

pub no_longer : {names : List (List ℕ)} {w rest ts : List Token} {t : Token} → IsLongestFront names w (t ∷ rest) ts → IsExprFront names (w ++ t ∷ []) → ⊥
no_longer {names} {w} {rest} {ts} {t} h f =
    let size = h.longest (w ++ t ∷ []) rest (h.parts ∙ sym (append_assoc w (t ∷ []) rest)) f in
    absurd (omega (arith, size, length-append w (t ∷ [])))

pub known_before : {names : List (List ℕ)} {ts : List Token} (w rest : List Token) (t : Token) → ts ≡ w ++ t ∷ rest → AreWhole names ts → AllByRecursion (IsKnown names) (w ++ t ∷ [])
known_before {names} {ts} w rest t e h =
    all_left (IsKnown names) (w ++ t ∷ []) rest (subst (AllByRecursion (IsKnown names)) (e ∙ sym (append_assoc w (t ∷ []) rest)) h.known)

-- after the longest front, where it is no expression
pub stops_unfinished : (names : List (List ℕ)) (ts w rest : List Token) (t : Token) → IsLongestFront names w (t ∷ rest) ts → length w ≤ 255 → ((x : Term) → IsExpr names w x → ⊥) → AreWhole names ts → Stops ExprPart Operator names ts P1 t.place
stops_unfinished names ts w rest t h short none whole = record {
  before = w;
  token = t;
  rest = rest;
  parts = h.parts;
  at = refl;
  viable = λ p. completes (only_at p) p names w h.begins (λ n t e. e) (λ n t e. absurd (omega (arith, n, short)));
  never = λ words more y left d e.
      let known = known_before w rest t h.parts whole in
      let s = stuck (but_at P1 t.place) names words w t more y left h.begins (no_longer h) known d e in
      let x = expr_like (names ++ words) names w w y s.0 (all_like_back names words w (all_left (IsKnown names) w (t ∷ []) known)) in
      none x.0 x.1;
  reason = wrong;
}

-- the tokens up to the one of this number
upto : (n : ℕ) (w : List Token) (t : Token) → slice_get w n ≡ Some t → (front : List Token) × (rest : List Token) × (w ≡ front ++ t ∷ rest) × (length front ≡ n)
upto n [] t e = absurd cc
upto zero (s ∷ w) t e = let same : s ≡ t = cc in ([], w, ap (λ (u : Token). u ∷ w) same, refl)
upto (suc n) (s ∷ w) t e = let more = upto n w t e in (s ∷ more.0, more.1, ap (λ (l : List Token). s ∷ l) more.2, omega (arith, more.3))

get_at : (w : List Token) (t : Token) (rest : List Token) → slice_get (w ++ t ∷ rest) (length w) ≡ Some t
get_at [] t rest = refl
get_at (s ∷ w) t rest = get_at w t rest

pub stops_too_long : (names : List (List ℕ)) (ts w rest : List Token) (t : Token) → IsLongestFront names w rest ts → slice_get w 255 ≡ Some t → AreWhole names ts → Stops ExprPart Operator names ts P2 t.place
stops_too_long names ts w rest t h at whole = go (upto 255 w t at)
  where
    front : (v u : List Token) → w ≡ v ++ u → IsExprFront names v
    front v u e = (u ++ h.begins.0, h.begins.1, subst (λ (l : List Token). IsExpr names l h.begins.1) (ap (λ (l : List Token). l ++ h.begins.0) e ∙ append_assoc v u h.begins.0) h.begins.2)

    go : (front : List Token) × (more : List Token) × (w ≡ front ++ t ∷ more) × (length front ≡ 255) → Stops ExprPart Operator names ts P2 t.place
    go (v, u, e, size) =
        let next : w ≡ (v ++ t ∷ []) ++ u = e ∙ sym (append_assoc v (t ∷ []) u) in
        let begun : IsExprFront names (v ++ t ∷ []) = front (v ++ t ∷ []) u next in
        record {
          before = v;
          token = t;
          rest = u ++ rest;
          parts = h.parts ∙ ap (λ (l : List Token). l ++ rest) e ∙ append_assoc v (t ∷ u) rest;
          at = refl;
          viable = λ p. completes (only_at p) p names v (front v (t ∷ u) e) (λ n s q. q) (λ n s q. absurd (omega (arith, n, size)));
          never = λ words more y left d f. never words more y left v size begun d f;
          reason = excess (λ p. completes (also_at P2 t.place p) p names (v ++ t ∷ []) begun (λ n s q. inl q) (λ n s q. inr (refl, last s (sym (ap (slice_get (v ++ t ∷ [])) (sym size) ∙ get_at v t []) ∙ q))));
        }
      where
        last : (s : Token) → Some t ≡ Some s → s.place ≡ t.place
        last s e = let same : t ≡ s = cc in ap (λ (u : Token). u.place) (sym same)

        never : (words : List (List ℕ)) (more : List Token) (y : Term) (left v : List Token) → length v ≡ 255 → IsExprFront names (v ++ t ∷ []) → ExprPart (but_at P2 t.place) (names ++ words) (v ++ t ∷ more) y left → Ends Operator (names ++ words) left → ⊥
        never words more y left v size begun d f =
            let all = names ++ words in
            let c = expr_cut all (v ++ t ∷ more) y left d.is in
            let p : IsExpr all c.written y = subst (λ (l : List Token). IsExpr all l y) (append-nil c.written) (c.moves []) in
            let whole : (v ++ t ∷ []) ++ more ≡ c.written ++ left = append_assoc v (t ∷ []) more ∙ c.parts in
            let least = (longest all c.written left y p f).longest (v ++ t ∷ []) more (sym whole) (front_more names words (v ++ t ∷ []) begun) in
            let long : 255 < length (v ++ t ∷ more) - length left = omega (arith, ap length c.parts, length-append c.written left, least, length-append v (t ∷ []), size) in
            let there : slice_get (v ++ t ∷ more) 255 ≡ Some t = ap (slice_get (v ++ t ∷ more)) (sym size) ∙ get_at v t more in
            d.keeps t long there refl refl
