-- Parts whose value is that of the last of them.
use Rattle.std.proofs.Common.{◌≡◌, ◌⊎◌, inl, inr, ℕ, List, [], ◌∷◌, ◌++◌, refl, sym, ap, ◌∙◌, subst}
use Rattle.std.specs.List.{AllByRecursion}
use Rattle.chor_base.specs.declared.rule.Place.{Place}
use Rattle.chor_base.specs.declared.rule.Rule.{Rule}
use Rattle.chor_base.specs.declared.rule.Denied.{Denied}
use Rattle.chor_lexer.specs.declared.token.Token.{Token}
use Rattle.source_grammar.specs.Symbols.{Allowed, anywhere, only_at, but_at, Part, Further, Fits, Completes, IsPart, SameFirst, Reads, Reason, wrong, excess, Halts, ThenBy, Apart, Choice, left, right, OneOf, the_first, the_second, IsStable, AreDistinct, Head, Begins, Opens, As, Alike, Leads}
use Rattle.source_grammar.specs.Values.{After, Either, by_first, by_second, StandsAt, At}
use Rattle.source_grammar.proofs.Wholes.{first_of_cons, same_first, same_first_of, same_first_after}
use Rattle.source_grammar.proofs.Sequels.{by_part, by_now, by_leads, leads_on}
use Rattle.source_grammar.proofs.Choices.{same_part, same_halts, same_leads, choice_part, first_leads, second_leads}
use Rattle.source_grammar.proofs.Starts.{same_opens, then_opens}

-- ---- f of what a part says

pub as_alike : {A B : Type 0} {S : Part B} {f : B → A} → Alike (As S f) S f
as_alike = record { to = λ h. h; from = λ {Q} {names} {ts} {y} h. record { value = y; is = h; same = refl } }

pub as_part : {A B : Type 0} {S : Part B} {f : B → A} {C : Further} → IsPart S C → IsPart (As S f) C
as_part p = same_part p as_alike

pub as_leads : {A B : Type 0} {S : Part B} {C : Further} {names : List (List ℕ)} {ts : List Token} (f : B → A) → Leads (As S f) C names ts S C ts f
as_leads f = same_leads as_alike

pub as_begins : {A B : Type 0} {S : Part B} {f : B → A} {F : Further} → Begins S F → Begins (As S f) F
as_begins b = record { by = λ h. b.by h.is }

pub as_opens : {A B : Type 0} {S : Part B} {f : B → A} {F : Further} → Opens S F → Opens (As S f) F
as_opens o = same_opens o as_alike

-- ---- one part and then another

after_alike : {A B : Type 0} {R : Part A} {S : A → Part B} → Alike (After R S) (ThenBy R S) (λ v. v.1)
after_alike = record {
  to = λ {x = y} h. record { value = (h.said, y); is = record { mid = h.mid; first = h.first; second = h.second }; same = refl };
  from = λ {y = v} h. record { said = v.0; mid = h.mid; first = h.first; second = h.second };
}

some_place : Place
some_place = record { line = 1; col = 1 }

pub after_part : {A B : Type 0} {R : Part A} {S : A → Part B} {C D : Further} → IsPart R C → ((x : A) → IsPart (S x) D) → ((x : A) → Apart C (S x) D) → IsPart (After R S) D
after_part p q a = same_part (by_part p q a (p.some some_place []).value) after_alike

pub after_leads : {A B : Type 0} {R : Part A} {S : A → Part B} {C D : Further} {names : List (List ℕ)} {ts : List Token} {x : A} {mid : List Token} → IsPart R C → ((z : A) → Apart C (S z) D) → Reads R C names ts x mid → Leads (After R S) D names ts (S x) D mid (λ y. y)
after_leads p a r = leads_on (same_leads after_alike) (by_leads p a r)

pub after_now : {A B : Type 0} {R : Part A} {S : A → Part B} {C D : Further} {names : List (List ℕ)} {ts : List Token} {d : Denied} → ((x : A) → IsPart (S x) D) → ((x : A) → Apart C (S x) D) → Halts R C names ts d → Halts (After R S) D names ts d
after_now q a h = same_halts after_alike (by_now q a h)

pub after_begins : {A B : Type 0} {R : Part A} {S : A → Part B} {F : Further} → Begins R F → Begins (After R S) F
after_begins b = record { by = λ h. b.by h.first }

pub after_opens : {A B : Type 0} {R : Part A} {S : A → Part B} {D F : Further} → Opens R F → ((x : A) → IsPart (S x) D) → Opens (After R S) F
after_opens o q = same_opens (then_opens o q) after_alike

-- ---- one of two parts

abbrev merged : {A : Type 0} → Choice A A → A
merged (left x) = x
merged (right x) = x

to_choice : {A : Type 0} {R S : Part A} {Q : Allowed} {names : List (List ℕ)} {ts : List Token} {x : A} {rest : List Token} → Either R S Q names ts x rest → As (OneOf R S) merged Q names ts x rest
to_choice (by_first {x = x} h) = record { value = left x; is = the_first h; same = refl }
to_choice (by_second {x = x} h) = record { value = right x; is = the_second h; same = refl }

from_choice : {A : Type 0} {R S : Part A} {Q : Allowed} {names : List (List ℕ)} {ts : List Token} {v : Choice A A} {rest : List Token} → OneOf R S Q names ts v rest → Either R S Q names ts (merged v) rest
from_choice (the_first h) = by_first h
from_choice (the_second h) = by_second h

either_alike : {A : Type 0} {R S : Part A} → Alike (Either R S) (OneOf R S) merged
either_alike = record { to = λ h. to_choice h; from = λ h. from_choice h }

pub either_part : {A : Type 0} {R S : Part A} {C F G : Further} → IsPart R C → IsPart S C → Begins R F → Begins S G → AreDistinct F G → IsPart (Either R S) C
either_part p q b c d = same_part (choice_part p q b c d) either_alike

pub either_first : {A : Type 0} {R S : Part A} {C F G : Further} {names : List (List ℕ)} {ts : List Token} → Begins S G → IsStable F → AreDistinct F G → Head F names ts → Leads (Either R S) C names ts R C ts (λ x. x)
either_first c f d h = leads_on (same_leads either_alike) (first_leads c f d h)

pub either_second : {A : Type 0} {R S : Part A} {C F : Further} {names : List (List ℕ)} {ts : List Token} → Begins R F → IsStable F → (Head F names ts → ⊥) → Leads (Either R S) C names ts S C ts (λ x. x)
either_second b f n = leads_on (same_leads either_alike) (second_leads b f n)

pub either_begins : {A : Type 0} {R S : Part A} {F G : Further} → Begins R F → Begins S G → Begins (Either R S) (λ names t. F names t ⊎ G names t)
either_begins b c = record { by = λ h. go b c h }
  where
    go : {A : Type 0} {R S : Part A} {F G : Further} {Q : Allowed} {names : List (List ℕ)} {ts : List Token} {x : A} {rest : List Token} → Begins R F → Begins S G → Either R S Q names ts x rest → Head (λ ns t. F ns t ⊎ G ns t) names ts
    go b c (by_first h) = let k = b.by h in record { token = k.token; rest = k.rest; parts = k.parts; is = inl k.is }
    go b c (by_second h) = let k = c.by h in record { token = k.token; rest = k.rest; parts = k.parts; is = inr k.is }

complete_by_first : {A : Type 0} {R S : Part A} {Q : Allowed} {p : Place} {names : List (List ℕ)} {ts : List Token} → Completes R Q p names ts → Completes (Either R S) Q p names ts
complete_by_first c = record { added = c.added; there = c.there; value = c.value; is = λ more. by_first (c.is more) }

complete_by_second : {A : Type 0} {R S : Part A} {Q : Allowed} {p : Place} {names : List (List ℕ)} {ts : List Token} → Completes S Q p names ts → Completes (Either R S) Q p names ts
complete_by_second c = record { added = c.added; there = c.there; value = c.value; is = λ more. by_second (c.is more) }

pub either_opens : {A : Type 0} {R S : Part A} {F G : Further} → Opens R F → Opens S G → Opens (Either R S) (λ names t. F names t ⊎ G names t)
either_opens {R = R} {S = S} {F = F} {G = G} o q = record { by = λ names t p h. go names t p h }
  where
    go : (names : List (List ℕ)) (t : Token) (p : Place) → F names t ⊎ G names t → Completes (Either R S) (only_at p) p names (t ∷ [])
    go names t p (inl h) = complete_by_first (o.by names t p h)
    go names t p (inr h) = complete_by_second (q.by names t p h)

-- ---- a part that is told where it begins

pub same_place : {p q : Place} {ts us : List Token} → StandsAt p ts → StandsAt q us → SameFirst ts us → p ≡ q
same_place {p} {q} h k s =
    let one : h.token ≡ s.token = first_of_cons (sym h.parts ∙ s.first) in
    let other : k.token ≡ s.token = first_of_cons (sym k.parts ∙ s.second) in
    h.place ∙ ap (λ (t : Token). t.place) (one ∙ sym other) ∙ sym k.place

pub begun : {p : Place} {ts : List Token} → StandsAt p ts → SameFirst ts ts
begun h = record { token = h.token; one = h.rest; other = h.rest; first = h.parts; second = h.parts }

stands_front : {F : Further} {names : List (List ℕ)} {p : Place} (front rest more : List Token) → Head F names (front ++ []) → StandsAt p (front ++ rest) → StandsAt p (front ++ more)
stands_front [] rest more h s = let e = h.parts in absurd cc
stands_front (t ∷ front) rest more h s = record { token = t; rest = front ++ more; parts = refl; place = s.place ∙ ap (λ (u : Token). u.place) (first_of_cons (sym s.parts)) }

pub fits_at : {A : Type 0} {S : Place → Part A} {F : Further} {Q : Allowed} {p : Place} {names : List (List ℕ)} {ts : List Token} {x : A} {rest : List Token} → Begins (S p) F → StandsAt p ts → Fits (S p) Q names ts x rest → Fits (At S) Q names ts x rest
fits_at {p = p} {rest = rest} b s f = record {
  front = f.front;
  parts = f.parts;
  again = λ words more. record {
    place = p;
    at = stands_front f.front rest more (b.by (f.again words [])) (subst (λ (l : List Token). StandsAt p l) f.parts s);
    is = f.again words more;
  };
}

-- what is added begins at its place
pub stands_there : {F : Further} {names : List (List ℕ)} {p : Place} (added more : List Token) → AllByRecursion (λ t. t.place ≡ p) added → Head F names (added ++ []) → StandsAt p (added ++ more)
stands_there [] more a h = let e = h.parts in absurd cc
stands_there (t ∷ added) more a h = record { token = t; rest = added ++ more; parts = refl; place = sym a.0 }

some_at : {A : Type 0} {S : Place → Part A} {C F : Further} → ((q : Place) → IsPart (S q) C) → ((q : Place) → Begins (S q) F) → (p : Place) (names : List (List ℕ)) → Completes (At S) (only_at p) p names []
some_at q b p names =
    let c = (q p).some p names in
    record {
      added = c.added;
      there = c.there;
      value = c.value;
      is = λ more. record { place = p; at = stands_there c.added more c.there ((b p).by (c.is [])); is = c.is more };
    }

-- what has begun at a place
complete_at : {A : Type 0} {S : Place → Part A} {Q : Allowed} {p place : Place} {names : List (List ℕ)} {t : Token} {ts : List Token} → place ≡ t.place → Completes (S place) Q p names (t ∷ ts) → Completes (At S) Q p names (t ∷ ts)
complete_at {place = place} {t = t} {ts = ts} e c = record {
  added = c.added;
  there = c.there;
  value = c.value;
  is = λ more. record { place = place; at = record { token = t; rest = ts ++ (c.added ++ more); parts = refl; place = e }; is = c.is more };
}

pub at_part : {A : Type 0} {S : Place → Part A} {C F : Further} → ((q : Place) → IsPart (S q) C) → ((q : Place) → Begins (S q) F) → IsPart (At S) C
at_part {S = S} q b = record {
  fits = λ h. fits_at (b h.place) h.at ((q h.place).fits h.is);
  wider = λ w h. record { place = h.place; at = h.at; is = (q h.place).wider w h.is };
  one = λ {Q' = Q'} {names = names} {ts = ts} {y = y} {rest' = rest'} h k e g. (q h.place).one h.is (subst (λ (p : Place). S p Q' names ts y rest') (sym (same_place h.at k.at (begun h.at))) k.is) e g;
  some = some_at q b;
  ended = λ h e. (q h.place).ended h.is e;
  back = (q some_place).back;
}

place_of_first : {p : Place} {t : Token} {ts us : List Token} → StandsAt p us → us ≡ t ∷ ts → p ≡ t.place
place_of_first h e = h.place ∙ ap (λ (u : Token). u.place) (first_of_cons (sym h.parts ∙ e))

viable_at : {A : Type 0} {S : Place → Part A} {C F : Further} {names : List (List ℕ)} {p place : Place} (before more ts : List Token) → ((q : Place) → IsPart (S q) C) → ((q : Place) → Begins (S q) F) → StandsAt place ts → ts ≡ before ++ more → Completes (S place) (only_at p) p names before → Completes (At S) (only_at p) p names before
viable_at {names = names} {p = p} [] more ts q b s e c = some_at q b p names
viable_at (t ∷ before) more ts q b s e c = complete_at (place_of_first s e) c

opened_at : {A : Type 0} {S : Place → Part A} {Q : Allowed} {names : List (List ℕ)} {p place : Place} (before : List Token) (t : Token) (more ts : List Token) → StandsAt place ts → ts ≡ before ++ t ∷ more → Completes (S place) Q p names (before ++ t ∷ []) → Completes (At S) Q p names (before ++ t ∷ [])
opened_at [] t more ts s e c = complete_at (place_of_first s e) c
opened_at (u ∷ before) t more ts s e c = complete_at (place_of_first s e) c

reason_at : {A : Type 0} {S : Place → Part A} {names : List (List ℕ)} {place : Place} (before : List Token) (t : Token) (more ts : List Token) (rule : Rule) → StandsAt place ts → ts ≡ before ++ t ∷ more → Reason (S place) names before t rule → Reason (At S) names before t rule
reason_at before t more ts rule s e wrong = wrong
reason_at before t more ts rule s e (excess c) = excess (λ p. opened_at before t more ts s e (c p))

at_halts : {A : Type 0} {S : Place → Part A} {C F : Further} {names : List (List ℕ)} {ts : List Token} {place : Place} {d : Denied} → ((q : Place) → IsPart (S q) C) → ((q : Place) → Begins (S q) F) → StandsAt place ts → Halts (S place) C names ts d → Halts (At S) C names ts d
at_halts {S = S} {names = names} {ts = ts} {place = place} q b at h = record {
  by = λ r e w.
      let s = h.by r e w in (
        record {
          before = s.0.before;
          token = s.0.token;
          rest = s.0.rest;
          parts = s.0.parts;
          at = s.0.at;
          viable = λ p. viable_at s.0.before (s.0.token ∷ s.0.rest) ts q b at s.0.parts (s.0.viable p);
          never = λ words more y end k g. s.0.never words more y end (subst (λ (p : Place). S p (but_at r.rule r.place) (names ++ words) (s.0.before ++ s.0.token ∷ more) y end) (sym (same_place at k.at (same_first s.0.parts (same_first_of s.0.before s.0.token s.0.rest more)))) k.is) g;
          reason = reason_at s.0.before s.0.token s.0.rest ts r.rule at s.0.parts s.0.reason;
        },
        s.1,
      );
}

at_reads : {A : Type 0} {S : Place → Part A} {C : Further} {names : List (List ℕ)} {ts : List Token} {place : Place} {x : A} {rest : List Token} → StandsAt place ts → Reads (S place) C names ts x rest → Reads (At S) C names ts x rest
at_reads {S = S} {names = names} {place = place} at r = record {
  is = record { place = place; at = at; is = r.is };
  only = λ w.
      let o = r.only w in
      record {
        front = o.front;
        parts = o.parts;
        by = λ words more y end f k e. o.by words more y end f (subst (λ (p : Place). S p anywhere (names ++ words) (o.front ++ more) y end) (sym (same_place at k.at (same_first o.parts (same_first_after o.front f)))) k.is) e;
      };
}

pub at_leads : {A : Type 0} {S : Place → Part A} {C F : Further} {names : List (List ℕ)} {ts : List Token} {place : Place} → ((q : Place) → IsPart (S q) C) → ((q : Place) → Begins (S q) F) → StandsAt place ts → Leads (At S) C names ts (S place) C ts (λ x. x)
at_leads q b at = record { reads = λ x rest r. at_reads at r; halts = λ d h. at_halts q b at h }

pub at_begins : {A : Type 0} {S : Place → Part A} {F : Further} → ((q : Place) → Begins (S q) F) → Begins (At S) F
at_begins b = record { by = λ h. (b h.place).by h.is }

pub at_opens : {A : Type 0} {S : Place → Part A} {F : Further} → ((q : Place) → Opens (S q) F) → Opens (At S) F
at_opens o = record { by = λ names t p f. complete_at refl ((o t.place).by names t p f) }
