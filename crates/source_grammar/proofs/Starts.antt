-- With which tokens parts begin, and room for one more.
use Rattle.std.proofs.Common.{◌≡◌, inl, inr, ℕ, List, [], ◌∷◌, ◌++◌, Option, refl, sym, ◌∙◌, subst}
use Rattle.std.specs.List.{AllByRecursion}
use Rattle.chor_base.specs.declared.rule.Place.{Place}
use Rattle.chor_base.specs.declared.rule.Rule.{Rule}
use Rattle.chor_base.specs.declared.rule.Rule.TheVariants.{P1}
use Rattle.chor_base.specs.declared.rule.Denied.{Denied}
use Rattle.chor_base.specs.declared.rule.Denied.TheVariants.{Memory}
use Rattle.chor_lexer.specs.declared.token.Token.{Token}
use Rattle.source_grammar.specs.Symbols.{Allowed, only_at, also_at, Part, Further, Nothing, Ends, more_words, AreWhole, Fits, Completes, IsPart, Reads, Reason, wrong, excess, Stops, Halts, ThenBy, Apart, AtMost, without, with, IsStable, Among, AreDistinct, Head, Begins, AllowsFirst, Within, Opens, Alike, RefusesFirst, HasRoom, IsFull, Leads}
use Rattle.source_grammar.proofs.Wholes.{first_of_cons, same_first, same_first_of, head_back, head_known, head_among, ends_among, stops_as, halts_as}
use Rattle.source_grammar.proofs.Sequels.{complete_first}
use Rattle.source_grammar.proofs.Choices.{wrong_start, completes_alike}

-- ---- beginnings

pub then_begins : {A B : Type 0} {R : Part A} {S : A → Part B} {F : Further} → Begins R F → Begins (ThenBy R S) F
then_begins b = record { by = λ h. b.by h.first }

pub within_begins : {A : Type 0} {rule : Rule} {n : ℕ} {R : Part A} {F : Further} → Begins R F → Begins (Within rule n R) F
within_begins b = record { by = λ h. b.by h.is }

pub same_begins : {A B : Type 0} {R : Part A} {S : Part B} {f : B → A} {F : Further} → Begins S F → Alike R S f → Begins R F
same_begins b a = record { by = λ h. b.by (a.to h).is }

pub more_begins : {A : Type 0} {R : Part A} {F G : Further} → Begins R F → Among F G → Begins R G
more_begins b a = record { by = λ h. head_among a (b.by h) }

-- ---- what can be completed after its first token

pub then_opens : {A B : Type 0} {R : Part A} {S : A → Part B} {D F : Further} → Opens R F → ((x : A) → IsPart (S x) D) → Opens (ThenBy R S) F
then_opens o q = record { by = λ names t p f. complete_first (o.by names t p f) (λ x. (q x).some p names) }

pub same_opens : {A B : Type 0} {R : Part A} {S : Part B} {f : B → A} {F : Further} → Opens S F → Alike R S f → Opens R F
same_opens o a = record { by = λ names t p f. completes_alike a (o.by names t p f) }

-- ---- what a second part begins with doesn't go on with the first

pub nothing_apart : {B : Type 0} {S : Part B} {D : Further} → Apart Nothing S D
nothing_apart = record { by = λ h e t rest p c. c }

pub begins_apart : {B : Type 0} {S : Part B} {C D F : Further} → Begins S F → AreDistinct F C → Apart C S D
begins_apart {C = C} b d = record { by = λ {Q} {names} h e t rest p c. let k = b.by h in d names k.token k.is (subst (λ (u : Token). C names u) (first_of_cons (sym p ∙ k.parts)) c) }

pub option_apart : {B : Type 0} {S : Part B} {C D F : Further} → Begins S F → AreDistinct F C → Among C D → Apart C (AtMost S) D
option_apart {B} {S} {C} {D} {F} b d a = record { by = λ h e. go h e }
  where
    go : {Q : Allowed} {names : List (List ℕ)} {ts rest : List Token} {y : Option B} → AtMost S Q names ts y rest → Ends D names rest → Ends C names ts
    go without e = ends_among a e
    go (with h) e = (begins_apart {D = D} b d).by h e

pub then_apart : {A B : Type 0} {R : Part A} {S : A → Part B} {C D E : Further} → Apart C R E → ((x : A) → Apart E (S x) D) → Apart C (ThenBy R S) D
then_apart a b = record { by = λ {Q} {names} {ts} {y} h e. a.by h.first ((b y.0).by h.second e) }

pub same_apart : {A B : Type 0} {R : Part A} {S : Part B} {f : B → A} {C D : Further} → Apart C S D → Alike R S f → Apart C R D
same_apart p a = record { by = λ h e. p.by (a.to h).is e }

-- ---- room for one more

pub allows_wider : {Q Q' : Allowed} (rule : Rule) (ts : List Token) → ((r : Rule) (p : Place) → Q r p → Q' r p) → AllowsFirst Q rule ts → AllowsFirst Q' rule ts
allows_wider rule [] w a = tt
allows_wider rule (t ∷ ts) w a = w _ _ a

-- it is the first of some tokens whatever comes after them
pub allows_front : (Q : Allowed) (rule : Rule) {F : Further} {names : List (List ℕ)} (front rest more ts : List Token) → ts ≡ front ++ rest → Head F names (front ++ []) → AllowsFirst Q rule ts → AllowsFirst Q rule (front ++ more)
allows_front Q rule [] rest more ts e h a = let p = h.parts in absurd cc
allows_front Q rule (t ∷ front) rest more ts e h a = subst (λ (l : List Token). AllowsFirst Q rule l) e a

pub allows_added : (rule : Rule) (p : Place) {F : Further} {names : List (List ℕ)} (added more : List Token) → AllByRecursion (λ (t : Token). t.place ≡ p) added → Head F names (added ++ []) → AllowsFirst (only_at p) rule (added ++ more)
allows_added rule p [] more a h = let p = h.parts in absurd cc
allows_added rule p (t ∷ added) more a h = a.0

fits_room : {A : Type 0} {rule : Rule} {n : ℕ} {R : Part A} {C F : Further} {Q : Allowed} {names : List (List ℕ)} {ts : List Token} {x : A} {rest : List Token} → IsPart R C → Begins R F → Within rule n R Q names ts x rest → Fits (Within rule n R) Q names ts x rest
fits_room {rule = rule} {Q = Q} {ts = ts} {rest = rest} p b h =
    let f = p.fits h.is in
    record {
      front = f.front;
      parts = f.parts;
      again = λ words more. record {
        room = λ e. allows_front Q rule f.front rest more ts f.parts (b.by (f.again words [])) (h.room e);
        is = f.again words more;
      };
    }

some_room : {A : Type 0} {rule : Rule} {n : ℕ} {R : Part A} {C F : Further} → IsPart R C → Begins R F → (p : Place) (names : List (List ℕ)) → Completes (Within rule n R) (only_at p) p names []
some_room {rule = rule} p b place names =
    let c = p.some place names in
    record {
      added = c.added;
      there = c.there;
      value = c.value;
      is = λ more. record { room = λ e. allows_added rule place c.added more c.there (b.by (c.is [])); is = c.is more };
    }

pub within_part : {A : Type 0} {rule : Rule} {n : ℕ} {R : Part A} {C F : Further} → IsPart R C → Begins R F → IsPart (Within rule n R) C
within_part {rule = rule} p b = record {
  fits = λ h. fits_room p b h;
  wider = λ {Q} {Q'} {names} {ts} w h. record { room = λ e. allows_wider rule ts w (h.room e); is = p.wider w h.is };
  one = λ h k e g. p.one h.is k.is e g;
  some = λ place names. some_room p b place names;
  ended = λ h e. p.ended h.is e;
  back = p.back;
}

-- where something has come, there was room for it
complete_room : {A : Type 0} {rule : Rule} {n : ℕ} {R : Part A} {F : Further} {names : List (List ℕ)} {ts : List Token} {p : Place} (before : List Token) (t : Token) (rest : List Token) → ts ≡ before ++ t ∷ rest → Begins R F → IsStable F → (n ≡ 0 → Head F names ts → ⊥) → AreWhole names ts → Completes R (only_at p) p names before → Completes (Within rule n R) (only_at p) p names before
complete_room {rule = rule} {n = n} {F = F} {names = names} {ts = ts} {p = p} before t rest parts b s room w c = record {
  added = c.added;
  there = c.there;
  value = c.value;
  is = λ more. record { room = λ e. go before parts (b.by (c.is [])) more e; is = c.is more };
}
  where
    go : (us : List Token) → ts ≡ us ++ t ∷ rest → Head F (names ++ more_words) (us ++ (c.added ++ [])) → (more : List Token) → n ≡ 0 → AllowsFirst (only_at p) rule (us ++ (c.added ++ more))
    go [] e h more z = allows_added rule p c.added more c.there h
    go (u ∷ us) e h more z = absurd (room z (head_known more_words s w (head_back (same_first e (same_first_of [] u (us ++ t ∷ rest) (us ++ (c.added ++ [])))) h)))

-- where tokens have come, it is the first of them that there was room for
complete_after : {A : Type 0} {rule : Rule} {n : ℕ} {R : Part A} {F : Further} {Q : Allowed} {names : List (List ℕ)} {ts : List Token} {p : Place} (before : List Token) (t : Token) (rest : List Token) → ts ≡ before ++ t ∷ rest → Begins R F → IsStable F → (n ≡ 0 → Head F names ts → ⊥) → AreWhole names ts → Completes R Q p names (before ++ t ∷ []) → Completes (Within rule n R) Q p names (before ++ t ∷ [])
complete_after {rule = rule} {n = n} {F = F} {Q = Q} {names = names} {ts = ts} before t rest parts b s room w c = record {
  added = c.added;
  there = c.there;
  value = c.value;
  is = λ more. record { room = λ e. absurd (room e (head_known more_words s w (go before parts (b.by (c.is []))))); is = c.is more };
}
  where
    go : (us : List Token) → ts ≡ us ++ t ∷ rest → Head F (names ++ more_words) ((us ++ t ∷ []) ++ (c.added ++ [])) → Head F (names ++ more_words) ts
    go [] e h = head_back (same_first e (same_first_of [] t rest (c.added ++ []))) h
    go (u ∷ us) e h = head_back (same_first e (same_first_of [] u (us ++ t ∷ rest) ((us ++ t ∷ []) ++ (c.added ++ [])))) h

reason_room : {A : Type 0} {rule : Rule} {n : ℕ} {R : Part A} {F : Further} {names : List (List ℕ)} {ts : List Token} (before : List Token) (t : Token) (rest : List Token) {r : Rule} → ts ≡ before ++ t ∷ rest → Begins R F → IsStable F → (n ≡ 0 → Head F names ts → ⊥) → AreWhole names ts → Reason R names before t r → Reason (Within rule n R) names before t r
reason_room before t rest parts b s room w wrong = wrong
reason_room before t rest parts b s room w (excess c) = excess (λ p. complete_after before t rest parts b s room w (c p))

pub within_halts : {A : Type 0} {rule : Rule} {n : ℕ} {R : Part A} {C F : Further} {names : List (List ℕ)} {ts : List Token} {d : Denied} → Begins R F → IsStable F → (n ≡ 0 → Head F names ts → ⊥) → Halts R C names ts d → Halts (Within rule n R) C names ts d
within_halts b f room k = halts_as
    (λ rule place w s. stops_as s (λ p. complete_room s.before s.token s.rest s.parts b f room w (s.viable p))
    (λ words more y end m o. s.never words more y end m.is o)
    (reason_room s.before s.token s.rest s.parts b f room w s.reason))
    k

pub within_reads : {A : Type 0} {rule : Rule} {n : ℕ} {R : Part A} {C F : Further} {names : List (List ℕ)} {ts : List Token} {x : A} {rest : List Token} → Begins R F → (n ≡ 0 → Head F names ts → ⊥) → Reads R C names ts x rest → Reads (Within rule n R) C names ts x rest
within_reads b room r = record {
  is = record { room = λ e. absurd (room e (b.by r.is)); is = r.is };
  only = λ w.
      let o = r.only w in
      record { front = o.front; parts = o.parts; by = λ words more y end s k e. o.by words more y end s k.is e };
}

pub within_leads : {A : Type 0} {rule : Rule} {n : ℕ} {R : Part A} {C F : Further} {names : List (List ℕ)} {ts : List Token} → Begins R F → IsStable F → (n ≡ 0 → Head F names ts → ⊥) → Leads (Within rule n R) C names ts R C ts (λ x. x)
within_leads b f room = record { reads = λ x rest r. within_reads b room r; halts = λ d k. within_halts b f room k }

-- ---- refusals of the first token

pub wrong_halts : {A : Type 0} {R : Part A} {C F : Further} {names : List (List ℕ)} {ts : List Token} {d : Denied} → IsPart R C → Begins R F → IsStable F → (Head F names ts → ⊥) → RefusesFirst P1 ts d → Halts R C names ts d
wrong_halts {R = R} {C = C} {names = names} {ts = ts} p b s n f = record {
  by = λ r e w.
      let q = f.by r e in
      (subst (λ (rule : Rule). Stops R C names ts rule r.place) (sym q.0) (wrong_start p b s n r.place (f.at r e) w), q.1);
}

-- one too many is completed with no further excess but in what is added
complete_full : {A : Type 0} {rule : Rule} {n : ℕ} {R : Part A} {C : Further} {names : List (List ℕ)} {t : Token} {p : Place} → IsPart R C → Completes R (only_at p) p names (t ∷ []) → Completes (Within rule n R) (also_at rule t.place p) p names (t ∷ [])
complete_full q c = record {
  added = c.added;
  there = c.there;
  value = c.value;
  is = λ more. record { room = λ e. inr (refl, refl); is = q.wider (λ r o e. inl e) (c.is more) };
}

stops_full : {A : Type 0} {rule : Rule} {n : ℕ} {R : Part A} {C F : Further} {names : List (List ℕ)} {ts : List Token} (place : Place) → n ≡ 0 → IsPart R C → Begins R F → Opens R F → (h : Head F names ts) → place ≡ h.token.place → Stops (Within rule n R) C names ts rule place
stops_full {rule = rule} {n = n} {R = R} {names = names} place z p b o h at = record {
  before = [];
  token = h.token;
  rest = h.rest;
  parts = h.parts;
  at = at;
  viable = λ q. some_room p b q names;
  never = λ words more y end k e. k.room z refl (sym at);
  reason = excess (λ q. complete_full p (o.by names h.token q h.is));
}

pub full_halts : {A : Type 0} {rule : Rule} {n : ℕ} {R : Part A} {C F : Further} {names : List (List ℕ)} {ts : List Token} {d : Denied} → n ≡ 0 → IsPart R C → Begins R F → Opens R F → Head F names ts → RefusesFirst rule ts d → Halts (Within rule n R) C names ts d
full_halts {rule = rule} {n = n} {R = R} {C = C} {names = names} {ts = ts} z p b o h f = record {
  by = λ r e w.
      let q = f.by r e in
      (subst (λ (k : Rule). Stops (Within rule n R) C names ts k r.place) (sym q.0) (stops_full r.place z p b o h (f.at r e h.token h.rest h.parts)), q.1);
}

pub at_full : {A : Type 0} {rule : Rule} {n : ℕ} {R : Part A} {C F : Further} {names : List (List ℕ)} {ts : List Token} {d : Denied} → IsPart R C → Begins R F → Opens R F → IsFull F names ts n rule d → Halts (Within rule n R) C names ts d
at_full p b o f = full_halts f.none p b o f.begins f.refuses

pub into_room : {A : Type 0} {rule : Rule} {n : ℕ} {R : Part A} {C F : Further} {names : List (List ℕ)} {ts : List Token} → Begins R F → IsStable F → HasRoom F names ts n → Leads (Within rule n R) C names ts R C ts (λ x. x)
into_room b f h = within_leads b f h.room

-- want of memory tells nothing
pub memory_halts : {A : Type 0} {R : Part A} {C : Further} {names : List (List ℕ)} {ts : List Token} {d : Denied} → d ≡ Memory → Halts R C names ts d
memory_halts m = record { by = λ r e w. absurd cc }
