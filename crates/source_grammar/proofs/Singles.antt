-- One token.
use Rattle.std.proofs.Common.{◌≡◌, ℕ, Bool, true, false, ◌&&◌, not, List, [], ◌∷◌, ap, refl, sym, ◌∙◌, subst}
use Rattle.chor_base.specs.declared.rule.Place.{Place}
use Rattle.chor_base.specs.declared.rule.Rule.TheVariants.{P1}
use Rattle.chor_base.specs.declared.rule.Denied.{Denied}
use Rattle.chor_lexer.specs.declared.token.Token.{Token}
use Rattle.chor_lexer.specs.Tokens.{is_last, is_ended}
use Rattle.source_grammar.specs.Symbols.{Allowed, nowhere, only_at, Further, Nothing, more_words, Fits, Completes, IsPart, Reads, Halts, IsStable, Begins, Opens, One, IsClass, Says, RefusesFirst}
use Rattle.source_grammar.proofs.Wholes.{reads_by_end}
use Rattle.source_grammar.proofs.Starts.{wrong_halts}

pub says_stable : {A : Type 0} {P : A → Further} → IsClass P → IsStable (Says P)
says_stable c = record {
  stays = λ names words t s. (s.0, (c.stable s.0).stays names words t s.1);
  back = λ names words t k s. (s.0, (c.stable s.0).back names words t k s.1);
}

one_ended : (t : Token) (ts : List Token) → is_last t.kind ≡ false → is_ended (t ∷ ts) ≡ true → is_ended ts ≡ true
one_ended t [] f e = absurd cc
one_ended t (u ∷ ts) f e =
    let g : (not (is_last t.kind) && is_ended (u ∷ ts)) ≡ is_ended (u ∷ ts) = ap (λ (b : Bool). not b && is_ended (u ∷ ts)) f in
    sym g ∙ e

fits_one : {A : Type 0} {P : A → Further} {Q : Allowed} {names : List (List ℕ)} {ts : List Token} {x : A} {rest : List Token} → IsClass P → One P Q names ts x rest → Fits (One P) Q names ts x rest
fits_one {names = names} {x = x} c h = record {
  front = h.token ∷ [];
  parts = h.parts;
  again = λ words more. record { token = h.token; parts = refl; is = (c.stable x).stays names words h.token h.is };
}

one_one : {A : Type 0} {P : A → Further} {Q Q' : Allowed} {names : List (List ℕ)} {ts : List Token} {x y : A} {rest rest' : List Token} → IsClass P → One P Q names ts x rest → One P Q' names ts y rest' → (x ≡ y) × (rest ≡ rest')
one_one {P = P} {names = names} {x = x} {y = y} {rest = rest} {rest' = rest'} c h k =
    let e : h.token ∷ rest ≡ k.token ∷ rest' = sym h.parts ∙ k.parts in
    let same : h.token ≡ k.token = cc in
    let left : rest ≡ rest' = cc in
    (c.one names k.token x y (subst (λ (t : Token). P x names t) same h.is) k.is, left)

some_one : {A : Type 0} {P : A → Further} → IsClass P → (p : Place) (names : List (List ℕ)) → Completes (One P) (only_at p) p names []
some_one c p names =
    let s = c.some p names in
    record {
      added = s.token ∷ [];
      there = (s.there, tt);
      value = s.value;
      is = λ more. record { token = s.token; parts = refl; is = s.is };
    }

ended_one : {A : Type 0} {P : A → Further} {Q : Allowed} {names : List (List ℕ)} {ts : List Token} {x : A} {rest : List Token} → IsClass P → One P Q names ts x rest → is_ended ts ≡ true → is_ended rest ≡ true
ended_one {names = names} {x = x} {rest = rest} c h e = one_ended h.token rest (c.inside names h.token x h.is) (subst (λ (l : List Token). is_ended l ≡ true) h.parts e)

pub one_part : {A : Type 0} {P : A → Further} → IsClass P → IsPart (One P) Nothing
one_part c = record {
  fits = λ h. fits_one c h;
  wider = λ w h. record { token = h.token; parts = h.parts; is = h.is };
  one = λ h k e f. one_one c h k;
  some = λ p names. some_one c p names;
  ended = λ h e. ended_one c h e;
  back = λ names words t k h. h;
}

pub one_begins : {A : Type 0} {P : A → Further} → Begins (One P) (Says P)
one_begins = record { by = λ {Q} {names} {ts} {x} {rest} h. record { token = h.token; rest = rest; parts = h.parts; is = (x, h.is) } }

pub one_opens : {A : Type 0} {P : A → Further} → IsClass P → Opens (One P) (Says P)
one_opens c = record {
  by = λ names t p s. record {
    added = [];
    there = tt;
    value = s.0;
    is = λ more. record { token = t; parts = refl; is = (c.stable s.0).stays names more_words t s.1 };
  };
}

pub one_reads : {A : Type 0} {P : A → Further} {names : List (List ℕ)} {ts : List Token} {x : A} {rest : List Token} → IsClass P → One P nowhere names ts x rest → Reads (One P) Nothing names ts x rest
one_reads c h = reads_by_end (one_part c) h (λ t rest e n. n)

pub one_halts : {A : Type 0} {P : A → Further} {names : List (List ℕ)} {ts : List Token} {d : Denied} → IsClass P → ((x : A) (rest : List Token) → One P nowhere names ts x rest → ⊥) → RefusesFirst P1 ts d → Halts (One P) Nothing names ts d
one_halts c n f = wrong_halts (one_part c) one_begins (says_stable c) (λ h. n h.is.0 h.rest (record { token = h.token; parts = h.parts; is = h.is.1 })) f
