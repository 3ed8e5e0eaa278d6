-- One part and then another.
use Rattle.std.proofs.Common.{◌≡◌, inl, ℕ, List, [], ◌∷◌, ◌++◌, ap, sym, ◌∙◌, subst, append_assoc}
use Rattle.std.proofs.lemmas.List.{append_cancel_right}
use Rattle.chor_base.specs.declared.rule.Place.{Place}
use Rattle.chor_base.specs.declared.rule.Rule.{Rule}
use Rattle.chor_base.specs.declared.rule.Denied.{Denied}
use Rattle.chor_lexer.specs.declared.token.Token.{Token}
use Rattle.chor_lexer.proofs.Each.{each_append}
use Rattle.source_grammar.specs.Symbols.{Allowed, anywhere, nowhere, only_at, but_at, also_at, Part, Further, Ends, more_words, Fits, Completes, IsPart, SameFirst, Only, Reads, Reason, wrong, excess, Stops, Halts, ThenBy, Then, Apart, Leads}
use Rattle.source_grammar.proofs.Wholes.{whole_after, same_first_of, same_first_after, same_first, stops_as}

-- ---- completions

pub complete_first : {A B : Type 0} {R : Part A} {S : A → Part B} {Q : Allowed} {p : Place} {names : List (List ℕ)} {ts : List Token} → Completes R Q p names ts → ((x : A) → Completes (S x) Q p names []) → Completes (ThenBy R S) Q p names ts
complete_first {A} {B} {R} {S} {Q} {p} {names} {ts} c g =
    let d = g c.value in
    record {
      added = c.added ++ d.added;
      there = each_append _ c.added d.added c.there d.there;
      value = (c.value, d.value);
      is = λ more. record {
        mid = d.added ++ more;
        first = subst (λ (l : List Token). R Q (names ++ more_words) (ts ++ l) c.value (d.added ++ more)) (sym (append_assoc c.added d.added more)) (c.is (d.added ++ more));
        second = d.is more;
      };
    }

pub complete_second : {A B : Type 0} {R : Part A} {S : A → Part B} {Q : Allowed} {p : Place} {names : List (List ℕ)} {ts : List Token} (x : A) (front : List Token) → ((more : List Token) → R Q (names ++ more_words) (front ++ more) x more) → Completes (S x) Q p names ts → Completes (ThenBy R S) Q p names (front ++ ts)
complete_second {A} {B} {R} {S} {Q} {p} {names} {ts} x front r c = record {
  added = c.added;
  there = c.there;
  value = (x, c.value);
  is = λ more. record {
    mid = ts ++ (c.added ++ more);
    first = subst (λ (l : List Token). R Q (names ++ more_words) l x (ts ++ (c.added ++ more))) (sym (append_assoc front ts (c.added ++ more))) (r (ts ++ (c.added ++ more)));
    second = c.is more;
  };
}

pub complete_wider : {A : Type 0} {R : Part A} {C : Further} {Q Q' : Allowed} {p : Place} {names : List (List ℕ)} {ts : List Token} → IsPart R C → ((rule : Rule) (q : Place) → Q rule q → Q' rule q) → Completes R Q p names ts → Completes R Q' p names ts
complete_wider p w c = record { added = c.added; there = c.there; value = c.value; is = λ more. p.wider w (c.is more) }

-- ---- a part

fits_both : {A B : Type 0} {R : Part A} {S : A → Part B} {C D : Further} {Q : Allowed} {names : List (List ℕ)} {ts : List Token} {v : A × B} {rest : List Token} → IsPart R C → ((x : A) → IsPart (S x) D) → ThenBy R S Q names ts v rest → Fits (ThenBy R S) Q names ts v rest
fits_both {A} {B} {R} {S} {C} {D} {Q} {names} {ts} {v} {rest} p q h =
    let f = p.fits h.first in
    let g = (q v.0).fits h.second in
    record {
      front = f.front ++ g.front;
      parts = f.parts ∙ ap (λ (l : List Token). f.front ++ l) g.parts ∙ sym (append_assoc f.front g.front rest);
      again = λ words more. record {
        mid = g.front ++ more;
        first = subst (λ (l : List Token). R Q (names ++ words) l v.0 (g.front ++ more)) (sym (append_assoc f.front g.front more)) (f.again words (g.front ++ more));
        second = g.again words more;
      };
    }

one_both : {A B : Type 0} {R : Part A} {S : A → Part B} {C D : Further} {Q Q' : Allowed} {names : List (List ℕ)} {ts : List Token} {v w : A × B} {rest rest' : List Token} → IsPart R C → ((x : A) → IsPart (S x) D) → ((x : A) → Apart C (S x) D) → ThenBy R S Q names ts v rest → ThenBy R S Q' names ts w rest' → Ends D names rest → Ends D names rest' → (v ≡ w) × (rest ≡ rest')
one_both {A} {B} {R} {S} {C} {D} {Q} {Q'} {names} {ts} {v} {w} {rest} {rest'} p q a h k e f =
    let one = p.one h.first k.first ((a v.0).by h.second e) ((a w.0).by k.second f) in
    let s : S v.0 Q' names k.mid w.1 rest' = subst (λ (x : A). S x Q' names k.mid w.1 rest') (sym one.0) k.second in
    let t : S v.0 Q' names h.mid w.1 rest' = subst (λ (l : List Token). S v.0 Q' names l w.1 rest') (sym one.1) s in
    let two = (q v.0).one h.second t e f in
    ((λ i. (one.0 i, two.0 i)), two.1)

pub by_part : {A B : Type 0} {R : Part A} {S : A → Part B} {C D : Further} → IsPart R C → ((x : A) → IsPart (S x) D) → ((x : A) → Apart C (S x) D) → A → IsPart (ThenBy R S) D
by_part {A} {B} {R} {S} {C} {D} p q a x = record {
  fits = λ h. fits_both p q h;
  wider = λ w h. record { mid = h.mid; first = p.wider w h.first; second = (q _).wider w h.second };
  one = λ h k e f. one_both p q a h k e f;
  some = λ place names. complete_first (p.some place names) (λ y. (q y).some place names);
  ended = λ h e. (q _).ended h.second (p.ended h.first e);
  back = (q x).back;
}

pub then_part : {A B : Type 0} {R : Part A} {S : Part B} {C D : Further} → IsPart R C → IsPart S D → Apart C S D → IsPart (Then R S) D
then_part {A} {B} {R} {S} {C} {D} p q a = record {
  fits = λ h. fits_both p (λ x. q) h;
  wider = λ w h. record { mid = h.mid; first = p.wider w h.first; second = q.wider w h.second };
  one = λ h k e f. one_both p (λ x. q) (λ x. a) h k e f;
  some = λ place names. complete_first (p.some place names) (λ y. q.some place names);
  ended = λ h e. q.ended h.second (p.ended h.first e);
  back = q.back;
}

-- ---- a refusal in the first part

reason_first : {A B : Type 0} {R : Part A} {S : A → Part B} {D : Further} {names : List (List ℕ)} {before : List Token} {t : Token} {rule : Rule} → ((x : A) → IsPart (S x) D) → Reason R names before t rule → Reason (ThenBy R S) names before t rule
reason_first q wrong = wrong
reason_first {names = names} q (excess c) = excess (λ p. complete_first (c p) (λ x. complete_wider (q x) (λ rule o e. inl e) ((q x).some p names)))

stops_first : {A B : Type 0} {R : Part A} {S : A → Part B} {C D : Further} {names : List (List ℕ)} {ts : List Token} {rule : Rule} {place : Place} → ((x : A) → IsPart (S x) D) → ((x : A) → Apart C (S x) D) → Stops R C names ts rule place → Stops (ThenBy R S) D names ts rule place
stops_first {names = names} q a s = stops_as s (λ p. complete_first (s.viable p) (λ x. (q x).some p names)) (λ words more y left k e. s.never words more y.0 k.mid k.first ((a y.0).by k.second e)) (reason_first q s.reason)

pub by_now : {A B : Type 0} {R : Part A} {S : A → Part B} {C D : Further} {names : List (List ℕ)} {ts : List Token} {d : Denied} → ((x : A) → IsPart (S x) D) → ((x : A) → Apart C (S x) D) → Halts R C names ts d → Halts (ThenBy R S) D names ts d
by_now q a h = record { by = λ r e w. let s = h.by r e w in (stops_first q a s.0, s.1) }

pub now : {A B : Type 0} {R : Part A} {S : Part B} {C D : Further} {names : List (List ℕ)} {ts : List Token} {d : Denied} → IsPart S D → Apart C S D → Halts R C names ts d → Halts (Then R S) D names ts d
now q a h = by_now (λ x. q) (λ x. a) h

-- ---- a refusal in the second part

reason_second : {A B : Type 0} {R : Part A} {S : A → Part B} {names : List (List ℕ)} {before : List Token} {t : Token} {rule : Rule} (x : A) (front : List Token) → ((Q : Allowed) (more : List Token) → R Q (names ++ more_words) (front ++ more) x more) → Reason (S x) names before t rule → Reason (ThenBy R S) names (front ++ before) t rule
reason_second x front r wrong = wrong
reason_second {A} {B} {R} {S} {names} {before} {t} {rule} x front r (excess c) = excess (λ p. subst (λ (l : List Token). Completes (ThenBy R S) (also_at rule t.place p) p names l) (sym (append_assoc front before (t ∷ []))) (complete_second x front (r (also_at rule t.place p)) (c p)))

never_second : {A B : Type 0} {R : Part A} {S : A → Part B} {C D : Further} {names : List (List ℕ)} {ts : List Token} {x : A} {mid : List Token} {rule : Rule} {place : Place} → IsPart R C → ((y : A) → Apart C (S y) D) → (o : Only R C names ts x mid) → (s : Stops (S x) D names mid rule place) → (words : List (List ℕ)) (more : List Token) (y : A × B) (left : List Token) → ThenBy R S (but_at rule place) (names ++ words) ((o.front ++ s.before) ++ s.token ∷ more) y left → Ends D (names ++ words) left → ⊥
never_second {A} {B} {R} {S} {C} {D} {names} {ts} {x} {mid} {rule} {place} p a o s words more y left k e =
    let here : ThenBy R S (but_at rule place) (names ++ words) (o.front ++ (s.before ++ s.token ∷ more)) y left = subst (λ (l : List Token). ThenBy R S (but_at rule place) (names ++ words) l y left) (append_assoc o.front s.before (s.token ∷ more)) k in
    let same : SameFirst mid (s.before ++ s.token ∷ more) = same_first s.parts (same_first_of s.before s.token s.rest more) in
    let one = o.by words (s.before ++ s.token ∷ more) y.0 here.mid same (p.wider (λ r q h. tt) here.first) ((a y.0).by here.second e) in
    let t : S x (but_at rule place) (names ++ words) here.mid y.1 left = subst (λ (z : A). S z (but_at rule place) (names ++ words) here.mid y.1 left) one.0 here.second in
    let u : S x (but_at rule place) (names ++ words) (s.before ++ s.token ∷ more) y.1 left = subst (λ (l : List Token). S x (but_at rule place) (names ++ words) l y.1 left) one.1 t in
    s.never words more y.1 left u e

-- what was read can be read again, whatever follows, and with more words
pub again : {A : Type 0} {R : Part A} {C : Further} {names : List (List ℕ)} {ts : List Token} {x : A} {mid : List Token} → IsPart R C → (o : Only R C names ts x mid) → (is : R nowhere names ts x mid) → (Q : Allowed) (words : List (List ℕ)) (more : List Token) → R Q (names ++ words) (o.front ++ more) x more
again {A} {R} {C} {names} {ts} {x} {mid} p o is Q words more =
    let f = p.fits is in
    let same : f.front ≡ o.front = append_cancel_right f.front o.front mid (sym f.parts ∙ o.parts) in
    p.wider (λ rule q h. absurd h) (subst (λ (l : List Token). R nowhere (names ++ words) (l ++ more) x more) same (f.again words more))

stops_second : {A B : Type 0} {R : Part A} {S : A → Part B} {C D : Further} {names : List (List ℕ)} {ts : List Token} {x : A} {mid : List Token} {rule : Rule} {place : Place} → IsPart R C → ((y : A) → Apart C (S y) D) → Only R C names ts x mid → R nowhere names ts x mid → Stops (S x) D names mid rule place → Stops (ThenBy R S) D names ts rule place
stops_second {x = x} p a o is s = record {
  before = o.front ++ s.before;
  token = s.token;
  rest = s.rest;
  parts = o.parts ∙ ap (λ (l : List Token). o.front ++ l) s.parts ∙ sym (append_assoc o.front s.before (s.token ∷ s.rest));
  at = s.at;
  viable = λ z. complete_second x o.front (again p o is (only_at z) more_words) (s.viable z);
  never = λ words more y left m e. never_second p a o s words more y left m e;
  reason = reason_second x o.front (λ Q. again p o is Q more_words) s.reason;
}

pub by_later : {A B : Type 0} {R : Part A} {S : A → Part B} {C D : Further} {names : List (List ℕ)} {ts : List Token} {x : A} {mid : List Token} {d : Denied} → IsPart R C → ((y : A) → Apart C (S y) D) → Reads R C names ts x mid → Halts (S x) D names mid d → Halts (ThenBy R S) D names ts d
by_later p a r h = record { by = λ q e w. let s = h.by q e (whole_after p r.is w) in (stops_second p a (r.only w) r.is s.0, s.1) }

pub later : {A B : Type 0} {R : Part A} {S : Part B} {C D : Further} {names : List (List ℕ)} {ts : List Token} {x : A} {mid : List Token} {d : Denied} → IsPart R C → Apart C S D → Reads R C names ts x mid → Halts S D names mid d → Halts (Then R S) D names ts d
later {S = S} p a r h = by_later {S = λ x. S} p (λ y. a) r h

-- ---- both are read

pub by_reads : {A B : Type 0} {R : Part A} {S : A → Part B} {C D : Further} {names : List (List ℕ)} {ts : List Token} {x : A} {y : B} {mid rest : List Token} → IsPart R C → ((z : A) → Apart C (S z) D) → Reads R C names ts x mid → Reads (S x) D names mid y rest → Reads (ThenBy R S) D names ts (x, y) rest
by_reads {A} {B} {R} {S} {C} {D} {names} {ts} {x} {y} {mid} {rest} p a r s = record {
  is = record { mid = mid; first = r.is; second = s.is };
  only = λ w.
      let o = r.only w in
      let t = s.only (whole_after p r.is w) in
      record {
        front = o.front ++ t.front;
        parts = o.parts ∙ ap (λ (l : List Token). o.front ++ l) t.parts ∙ sym (append_assoc o.front t.front rest);
        by = λ words more v left same k e.
            let here : ThenBy R S anywhere (names ++ words) (o.front ++ (t.front ++ more)) v left = subst (λ (l : List Token). ThenBy R S anywhere (names ++ words) l v left) (append_assoc o.front t.front more) k in
            let one = o.by words (t.front ++ more) v.0 here.mid (same_first t.parts (same_first_after t.front same)) here.first ((a v.0).by here.second e) in
            let u : S x anywhere (names ++ words) here.mid v.1 left = subst (λ (z : A). S z anywhere (names ++ words) here.mid v.1 left) one.0 here.second in
            let m : S x anywhere (names ++ words) (t.front ++ more) v.1 left = subst (λ (l : List Token). S x anywhere (names ++ words) l v.1 left) one.1 u in
            let two = t.by words more v.1 left same m e in
            ((λ i. (one.0 i, two.0 i)), two.1);
      };
}

pub then_reads : {A B : Type 0} {R : Part A} {S : Part B} {C D : Further} {names : List (List ℕ)} {ts : List Token} {x : A} {y : B} {mid rest : List Token} → IsPart R C → Apart C S D → Reads R C names ts x mid → Reads S D names mid y rest → Reads (Then R S) D names ts (x, y) rest
then_reads {S = S} p a r s = by_reads {S = λ x. S} p (λ z. a) r s

-- ---- a reader on its way

pub by_leads : {A B : Type 0} {R : Part A} {S : A → Part B} {C D : Further} {names : List (List ℕ)} {ts : List Token} {x : A} {mid : List Token} → IsPart R C → ((z : A) → Apart C (S z) D) → Reads R C names ts x mid → Leads (ThenBy R S) D names ts (S x) D mid (λ y. (x, y))
by_leads p a r = record {
  reads = λ y rest s. by_reads p a r s;
  halts = λ d h. by_later p a r h;
}

pub leads : {A B : Type 0} {R : Part A} {S : Part B} {C D : Further} {names : List (List ℕ)} {ts : List Token} {x : A} {mid : List Token} → IsPart R C → Apart C S D → Reads R C names ts x mid → Leads (Then R S) D names ts S D mid (λ y. (x, y))
leads {A} {B} {R} {S} p a r = by_leads {S = λ x. S} p (λ z. a) r

pub leads_on : {A B E : Type 0} {R : Part A} {S : Part B} {T : Part E} {C D F : Further} {names : List (List ℕ)} {ts mid end : List Token} {f : B → A} {g : E → B} → Leads R C names ts S D mid f → Leads S D names mid T F end g → Leads R C names ts T F end (λ y. f (g y))
leads_on {A} {B} {E} {R} {S} {T} {C} {D} {F} {names} {ts} {mid} {end} {f} {g} l m = record {
  reads = λ y rest r. l.reads (g y) rest (m.reads y rest r);
  halts = λ d h. l.halts d (m.halts d h);
}

pub leads_same : {A B : Type 0} {R : Part A} {S : Part B} {C D : Further} {names : List (List ℕ)} {ts mid : List Token} {f g : B → A} → Leads R C names ts S D mid f → ((y : B) → f y ≡ g y) → Leads R C names ts S D mid g
leads_same {A} {B} {R} {S} {C} {D} {names} {ts} {mid} {f} {g} l e = record {
  reads = λ y rest r. subst (λ (x : A). Reads R C names ts x rest) (e y) (l.reads y rest r);
  halts = l.halts;
}

pub past : {A B : Type 0} {R : Part A} {S : Part B} {C D : Further} {names : List (List ℕ)} {ts mid : List Token} {f : B → A} {d : Denied} → Leads R C names ts S D mid f → Halts S D names mid d → Halts R C names ts d
past {d = d} l h = l.halts d h

pub reads_past : {A B : Type 0} {R : Part A} {S : Part B} {C D : Further} {names : List (List ℕ)} {ts mid : List Token} {f : B → A} {y : B} {rest : List Token} → Leads R C names ts S D mid f → Reads S D names mid y rest → Reads R C names ts (f y) rest
reads_past {y = y} {rest = rest} l r = l.reads y rest r
