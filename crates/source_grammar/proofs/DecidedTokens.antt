-- Tokens up to the end are read, or there is one of them that is refused.
use Rattle.std.proofs.Common.{◌≡◌, ◌⊎◌, inl, inr, ◌<◌, ◌≤◌, ◌-◌, suc, zero, ℕ, List, [], ◌∷◌, ◌++◌, length, None, refl, sym, ap, ◌∙◌, subst, arith, length-append}
use Rattle.chor_base.specs.declared.rule.Place.{Place}
use Rattle.chor_base.specs.declared.rule.Rule.{Rule}
use Rattle.chor_base.specs.declared.rule.Rule.TheVariants.{P1}
use Rattle.chor_base.specs.declared.rule.Refusal.{Refusal}
use Rattle.chor_base.specs.declared.rule.Denied.TheVariants.{Refused}
use Rattle.chor_lexer.specs.declared.token.Token.{Token}
use Rattle.source_grammar.specs.Symbols.{Allowed, nowhere, Part, Further, Nothing, AreWhole, IsPart, Reads, Halts, ThenBy, Then, Apart, OneOf, AtMost, IsStable, Among, AreDistinct, Head, Begins, Within, Opens, As, Alike, One, IsClass, Says, Times, AreRepeated, Leads, RefusesFirst}
use Rattle.source_grammar.specs.Values.{After, Either, At}
use Rattle.source_grammar.proofs.Wholes.{whole_after, whole_first, first_of_cons}
use Rattle.source_grammar.proofs.Sequels.{then_part, by_part, by_leads, by_now}
use Rattle.source_grammar.proofs.Choices.{same_part, same_leads, more_further, halts_further, reads_further, choice_part, first_leads, second_leads, option_part, option_leads, without_reads}
use Rattle.source_grammar.proofs.Starts.{within_part, within_leads, full_halts}
use Rattle.source_grammar.proofs.Singles.{one_part, one_reads, one_halts}
use Rattle.source_grammar.proofs.Values.{as_part, as_leads, after_part, after_leads, after_now, either_part, either_first, either_second, at_part, at_leads}
use Rattle.source_grammar.proofs.Repetitions.{times_part, times_done, times_step, times_now}

-- what comes of tokens
pub data Outcome {A : Type 0} (R : Part A) (C : Further) (names : List (List ℕ)) (ts : List Token) : Type 0 where
  reads : {x : A} {rest : List Token} → Reads R C names ts x rest → Outcome R C names ts
  halts : (r : Refusal) → Halts R C names ts (Refused r) → Outcome R C names ts

-- something comes of each list of fewer than n tokens up to the end
pub record IsDecided {A : Type 0} (n : ℕ) (R : Part A) (C : Further) : Type 1 where
  pub part : IsPart R C
  pub by : (names : List (List ℕ)) (ts : List Token) → length ts < n → AreWhole names ts → Outcome R C names ts

-- whether a token is one of these
pub record Tells (F : Further) : Type 0 where
  pub by : (names : List (List ℕ)) (t : Token) → F names t ⊎ (F names t → ⊥)

pub tells_head : {F : Further} {names : List (List ℕ)} {ts : List Token} → Tells F → AreWhole names ts → Head F names ts ⊎ (Head F names ts → ⊥)
tells_head {F} {names} {ts} t w = go (whole_first w).parts (t.by names (whole_first w).token)
  where
    go : {u : Token} {us : List Token} → ts ≡ u ∷ us → F names u ⊎ (F names u → ⊥) → Head F names ts ⊎ (Head F names ts → ⊥)
    go {u} {us} e (inl h) = inl (record { token = u; rest = us; parts = e; is = h })
    go e (inr n) = inr (λ h. n (subst (λ (v : Token). F names v) (first_of_cons (sym h.parts ∙ e)) h.is))

-- the refusal of the first token
abbrev refused : Rule → Place → Refusal
refused rule place = record { rule = rule; place = place; who = None }

pub refuses_first : {names : List (List ℕ)} {ts : List Token} (rule : Rule) → AreWhole names ts → (r : Refusal) × RefusesFirst rule ts (Refused r)
refuses_first {names} {ts} rule w =
    let f = whole_first w in (
      refused rule f.token.place,
      record {
        by = λ r e. (ap (λ (x : Refusal). x.rule) (sym (same e)), ap (λ (x : Refusal). x.who) (sym (same e)));
        at = λ r e t rest p. ap (λ (x : Refusal). x.place) (sym (same e)) ∙ ap (λ (x : Token). x.place) (first_of_cons (sym f.parts ∙ p));
      },
    )
  where
    same : {a b : Refusal} → Refused a ≡ Refused b → a ≡ b
    same e = cc

pub outcome_leads : {A B : Type 0} {R : Part A} {S : Part B} {C D : Further} {names : List (List ℕ)} {ts mid : List Token} {f : B → A} → Leads R C names ts S D mid f → Outcome S D names mid → Outcome R C names ts
outcome_leads l (reads {x = x} {rest = rest} r) = reads (l.reads x rest r)
outcome_leads l (halts r h) = halts r (l.halts (Refused r) h)

-- ---- no more tokens are left than there were

pub no_longer : {A : Type 0} {R : Part A} {C : Further} {Q : Allowed} {names : List (List ℕ)} {ts : List Token} {x : A} {rest : List Token} → IsPart R C → R Q names ts x rest → length rest ≤ length ts
no_longer {rest = rest} p h = let f = p.fits h in omega (arith, ap length f.parts, length-append f.front rest)

-- and fewer where a token has to come
pub shorter : {A : Type 0} {R : Part A} {C F : Further} {Q : Allowed} {names : List (List ℕ)} {ts : List Token} {x : A} {rest : List Token} → IsPart R C → Begins R F → R Q names ts x rest → length rest < length ts
shorter {F = F} {names = names} {ts = ts} {rest = rest} p b h = let f = p.fits h in go f.front f.parts (b.by (f.again [] []))
  where
    go : (front : List Token) → ts ≡ front ++ rest → Head F (names ++ []) (front ++ []) → length rest < length ts
    go [] e k = let none = k.parts in absurd cc
    go (t ∷ front) e k = omega (arith, ap length e, length-append front rest)

-- ---- parts put together

pub decided_same : {A B : Type 0} {n : ℕ} {R : Part A} {S : Part B} {f : B → A} {C : Further} → IsDecided n S C → Alike R S f → IsDecided n R C
decided_same d a = record { part = same_part d.part a; by = λ names ts s w. outcome_leads (same_leads a) (d.by names ts s w) }

pub decided_as : {A B : Type 0} {n : ℕ} {S : Part B} {f : B → A} {C : Further} → IsDecided n S C → IsDecided n (As S f) C
decided_as {f = f} d = record { part = as_part d.part; by = λ names ts s w. outcome_leads (as_leads f) (d.by names ts s w) }

pub decided_further : {A : Type 0} {n : ℕ} {R : Part A} {C D : Further} → IsDecided n R C → Among C D → IsStable D → IsDecided n R D
decided_further d a s = record {
  part = more_further d.part a s;
  by = λ names ts k w. outcome_leads (record { reads = λ x rest r. reads_further a r; halts = λ d h. halts_further a h }) (d.by names ts k w);
}

by_outcome : {A B : Type 0} {n : ℕ} {R : Part A} {S : A → Part B} {C D : Further} {names : List (List ℕ)} {ts : List Token} → IsPart R C → ((x : A) → IsDecided n (S x) D) → ((x : A) → Apart C (S x) D) → length ts < n → AreWhole names ts → Outcome R C names ts → Outcome (ThenBy R S) D names ts
by_outcome {names = names} {ts = ts} p q a s w (reads {x = x} {rest = mid} r) =
    let k : length mid ≤ length ts = no_longer p r.is in
    outcome_leads (by_leads p a r) ((q x).by names mid (omega (arith, k, s)) (whole_after p r.is w))
by_outcome p q a s w (halts r h) = halts r (by_now (λ x. (q x).part) a h)

pub decided_by : {A B : Type 0} {n : ℕ} {R : Part A} {S : A → Part B} {C D : Further} → IsDecided n R C → ((x : A) → IsDecided n (S x) D) → ((x : A) → Apart C (S x) D) → A → IsDecided n (ThenBy R S) D
decided_by p q a x = record {
  part = by_part p.part (λ y. (q y).part) a x;
  by = λ names ts s w. by_outcome p.part q a s w (p.by names ts s w);
}

pub decided_then : {A B : Type 0} {n : ℕ} {R : Part A} {S : Part B} {C D : Further} → IsDecided n R C → IsDecided n S D → Apart C S D → IsDecided n (Then R S) D
decided_then {S = S} p q a = record {
  part = then_part p.part q.part a;
  by = λ names ts s w. by_outcome {S = λ x. S} p.part (λ x. q) (λ x. a) s w (p.by names ts s w);
}

after_outcome : {A B : Type 0} {R : Part A} {S : A → Part B} {C D : Further} {names : List (List ℕ)} {ts : List Token} → IsPart R C → ((x : A) → IsPart (S x) D) → ((x : A) → Apart C (S x) D) → ((x : A) (mid : List Token) → R nowhere names ts x mid → Outcome (S x) D names mid) → Outcome R C names ts → Outcome (After R S) D names ts
after_outcome p q a on (reads {x = x} {rest = mid} r) = outcome_leads (after_leads p a r) (on x mid r.is)
after_outcome p q a on (halts r h) = halts r (after_now q a h)

pub decided_after : {A B : Type 0} {n : ℕ} {R : Part A} {S : A → Part B} {C D : Further} → IsDecided n R C → ((x : A) → IsDecided n (S x) D) → ((x : A) → Apart C (S x) D) → IsDecided n (After R S) D
decided_after p q a = record {
  part = after_part p.part (λ x. (q x).part) a;
  by = λ names ts s w. after_outcome p.part (λ x. (q x).part) a (λ x mid h. let k = no_longer p.part h in (q x).by names mid (omega (arith, k, s)) (whole_after p.part h w)) (p.by names ts s w);
}

-- after a part that takes a token, so that fewer are left
pub decided_later : {A B : Type 0} {n : ℕ} {R : Part A} {S : A → Part B} {C D F : Further} → IsDecided (suc n) R C → Begins R F → ((x : A) → IsDecided n (S x) D) → ((x : A) → Apart C (S x) D) → IsDecided (suc n) (After R S) D
decided_later p b q a = record {
  part = after_part p.part (λ x. (q x).part) a;
  by = λ names ts s w. after_outcome p.part (λ x. (q x).part) a (λ x mid h. let k = shorter p.part b h in (q x).by names mid (omega (arith, k, s)) (whole_after p.part h w)) (p.by names ts s w);
}

-- ---- one of two parts

pub decided_choice : {A B : Type 0} {n : ℕ} {R : Part A} {S : Part B} {C F G : Further} → IsDecided n R C → IsDecided n S C → Begins R F → Begins S G → IsStable F → Tells F → AreDistinct F G → IsDecided n (OneOf R S) C
decided_choice {A} {B} {n} {R} {S} {C} {F} p q b c f t d = record {
  part = choice_part p.part q.part b c d;
  by = λ names ts s w. go names ts s w (tells_head t w);
}
  where
    go : (names : List (List ℕ)) (ts : List Token) → length ts < n → AreWhole names ts → Head F names ts ⊎ (Head F names ts → ⊥) → Outcome (OneOf R S) C names ts
    go names ts s w (inl h) = outcome_leads (first_leads c f d h) (p.by names ts s w)
    go names ts s w (inr h) = outcome_leads (second_leads b f h) (q.by names ts s w)

pub decided_either : {A : Type 0} {n : ℕ} {R S : Part A} {C F G : Further} → IsDecided n R C → IsDecided n S C → Begins R F → Begins S G → IsStable F → Tells F → AreDistinct F G → IsDecided n (Either R S) C
decided_either {A} {n} {R} {S} {C} {F} p q b c f t d = record {
  part = either_part p.part q.part b c d;
  by = λ names ts s w. go names ts s w (tells_head t w);
}
  where
    go : (names : List (List ℕ)) (ts : List Token) → length ts < n → AreWhole names ts → Head F names ts ⊎ (Head F names ts → ⊥) → Outcome (Either R S) C names ts
    go names ts s w (inl h) = outcome_leads (either_first c f d h) (p.by names ts s w)
    go names ts s w (inr h) = outcome_leads (either_second b f h) (q.by names ts s w)

-- ---- a part or nothing

pub decided_option : {A : Type 0} {n : ℕ} {R : Part A} {C D F : Further} → IsDecided n R C → Begins R F → IsStable F → Tells F → Among C D → Among F D → IsStable D → IsDecided n (AtMost R) D
decided_option {A} {n} {R} {C} {D} {F} p b f t c a s = record {
  part = option_part p.part b c a s;
  by = λ names ts k w. go names ts k w (tells_head t w);
}
  where
    go : (names : List (List ℕ)) (ts : List Token) → length ts < n → AreWhole names ts → Head F names ts ⊎ (Head F names ts → ⊥) → Outcome (AtMost R) D names ts
    go names ts k w (inl h) = outcome_leads (option_leads b f c a h) (p.by names ts k w)
    go names ts k w (inr h) = reads (without_reads b f h)

-- ---- a part for which there has to be room

pub decided_within : {A : Type 0} {n k : ℕ} {rule : Rule} {R : Part A} {C F : Further} → IsDecided n R C → Begins R F → Opens R F → IsStable F → Tells F → IsDecided n (Within rule k R) C
decided_within {A} {n} {k} {rule} {R} {C} {F} p b o f t = record {
  part = within_part p.part b;
  by = λ names ts s w. go names ts k refl s w (tells_head t w);
}
  where
    go : (names : List (List ℕ)) (ts : List Token) (m : ℕ) → k ≡ m → length ts < n → AreWhole names ts → Head F names ts ⊎ (Head F names ts → ⊥) → Outcome (Within rule k R) C names ts
    go names ts m e s w (inr h) = outcome_leads (within_leads b f (λ z. h)) (p.by names ts s w)
    go names ts zero e s w (inl h) = let r = refuses_first rule w in halts r.0 (full_halts e p.part b o h r.1)
    go names ts (suc m) e s w (inl h) = outcome_leads (within_leads b f (λ z. absurd (omega (arith, e, z)))) (p.by names ts s w)

-- ---- a part that is told where it begins

pub decided_at : {A : Type 0} {n : ℕ} {S : Place → Part A} {C F : Further} → ((q : Place) → IsDecided n (S q) C) → ((q : Place) → Begins (S q) F) → IsDecided n (At S) C
decided_at q b = record {
  part = at_part (λ p. (q p).part) b;
  by = λ names ts s w.
      let f = whole_first w in
      outcome_leads (at_leads (λ p. (q p).part) b (record { token = f.token; rest = f.rest; parts = f.parts; place = refl })) ((q f.token.place).by names ts s w);
}

-- ---- one token

pub decided_one : {A : Type 0} {n : ℕ} {P : A → Further} → IsClass P → Tells (Says P) → IsDecided n (One P) Nothing
decided_one {A} {n} {P} c t = record { part = one_part c; by = λ names ts s w. go names ts w (tells_head t w) }
  where
    go : (names : List (List ℕ)) (ts : List Token) → AreWhole names ts → Head (Says P) names ts ⊎ (Head (Says P) names ts → ⊥) → Outcome (One P) Nothing names ts
    go names ts w (inl h) = reads {rest = h.rest} (one_reads {x = h.is.0} c (record { token = h.token; parts = h.parts; is = h.is.1 }))
    go names ts w (inr h) =
        let r = refuses_first P1 w in
        halts r.0 (one_halts c (λ x rest k. h (record { token = k.token; rest = rest; parts = k.parts; is = (x, k.is) })) r.1)

-- ---- as many as there are

times_more : {A : Type 0} {R : ℕ → Part A} {C D F : Further} {names : List (List ℕ)} {ts : List Token} (k : ℕ) → AreRepeated R C D F → AreWhole names ts → Head F names ts → ((mid : List Token) → length mid < length ts → AreWhole names mid → Outcome (Times R (k - 1)) D names mid) → Outcome (R k) C names ts → Outcome (Times R k) D names ts
times_more k r w h on (reads {rest = mid} m) = outcome_leads (times_step k r m) (on mid (shorter (r.part k) (r.begins k) m.is) (whole_after (r.part k) m.is w))
times_more k r w h on (halts q m) = halts q (times_now k r h m)

times_by : {A : Type 0} {n : ℕ} {R : ℕ → Part A} {C D F : Further} → AreRepeated R C D F → ((k : ℕ) → IsDecided n (R k) C) → Tells F → (m k : ℕ) (names : List (List ℕ)) (ts : List Token) → length ts < m → length ts < n → AreWhole names ts → Outcome (Times R k) D names ts
times_by r d t zero k names ts l s w = absurd (omega (arith, l))
times_by {n = n} {R = R} {D = D} {F = F} r d t (suc m) k names ts l s w = go (λ mid h v. times_by r d t m (k - 1) names mid (omega (arith, h, l)) (omega (arith, h, s)) v) (tells_head t w)
  where
    go : ((mid : List Token) → length mid < length ts → AreWhole names mid → Outcome (Times R (k - 1)) D names mid) → Head F names ts ⊎ (Head F names ts → ⊥) → Outcome (Times R k) D names ts
    go on (inl h) = times_more k r w h on ((d k).by names ts s w)
    go on (inr h) = reads (times_done k r h)

pub decided_times : {A : Type 0} {n : ℕ} {R : ℕ → Part A} {C D F : Further} → AreRepeated R C D F → ((k : ℕ) → IsDecided n (R k) C) → Tells F → (k : ℕ) → IsDecided n (Times R k) D
decided_times {n = n} r d t k = record { part = times_part r k; by = λ names ts s w. times_by r d t n k names ts s s w }
