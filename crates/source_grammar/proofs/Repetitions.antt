-- Parts one after another.
use Rattle.std.proofs.Common.{◌≡◌, ◌-◌, ℕ, true, List, [], ◌∷◌, ◌++◌, Option, Some, None, ap, refl, sym, ◌∙◌, subst, append_assoc}
use Rattle.chor_base.specs.declared.rule.Place.{Place}
use Rattle.chor_base.specs.declared.rule.Rule.{Rule}
use Rattle.chor_base.specs.declared.rule.Denied.{Denied}
use Rattle.chor_lexer.specs.declared.token.Token.{Token}
use Rattle.chor_lexer.specs.Tokens.{is_ended}
use Rattle.source_grammar.specs.Symbols.{Allowed, Part, Further, Ends, Fits, IsPart, Reads, Halts, Then, Apart, AtMost, without, with, Among, AreDistinct, Head, As, Alike, Repeats, done, again, Times, AreRepeated, Leads}
use Rattle.source_grammar.proofs.Wholes.{first_of_cons, head_among, ends_no_head, ends_among}
use Rattle.source_grammar.proofs.Sequels.{leads, leads_on, now}
use Rattle.source_grammar.proofs.Choices.{same_leads, same_reads, option_leads, without_reads}
use Rattle.source_grammar.proofs.Starts.{then_begins}

fits_times : {A : Type 0} {R : ℕ → Part A} {C D F : Further} {Q : Allowed} {names : List (List ℕ)} {n : ℕ} {ts : List Token} {xs : List A} {rest : List Token} → AreRepeated R C D F → Repeats R Q names n ts xs rest → Fits (Times R n) Q names ts xs rest
fits_times r done = record { front = []; parts = refl; again = λ words more. done }
fits_times {A} {R} {Q = Q} {names = names} {n = n} {rest = rest} r (again {x = x} {xs = xs} h m) =
    let f = (r.part n).fits h in
    let g = fits_times r m in
    record {
      front = f.front ++ g.front;
      parts = f.parts ∙ ap (λ (l : List Token). f.front ++ l) g.parts ∙ sym (append_assoc f.front g.front rest);
      again = λ words more. again (subst (λ (l : List Token). R n Q (names ++ words) l x (g.front ++ more)) (sym (append_assoc f.front g.front more)) (f.again words (g.front ++ more))) (g.again words more);
    }

wider_times : {A : Type 0} {R : ℕ → Part A} {C D F : Further} {Q Q' : Allowed} {names : List (List ℕ)} {n : ℕ} {ts : List Token} {xs : List A} {rest : List Token} → AreRepeated R C D F → ((rule : Rule) (p : Place) → Q rule p → Q' rule p) → Repeats R Q names n ts xs rest → Repeats R Q' names n ts xs rest
wider_times r w done = done
wider_times {n = n} r w (again h m) = again ((r.part n).wider w h) (wider_times r w m)

-- what follows doesn't go on with an item
times_end : {A : Type 0} {R : ℕ → Part A} {C D F : Further} {Q : Allowed} {names : List (List ℕ)} {n : ℕ} {ts : List Token} {xs : List A} {rest : List Token} → AreRepeated R C D F → Repeats R Q names n ts xs rest → Ends D names rest → Ends C names ts
times_end r done e = ends_among r.items e
times_end {C = C} {names = names} {n = n} r (again h m) e = λ t rest p c.
    let k = (r.begins n).by h in
    r.distinct names k.token k.is (subst (λ (u : Token). C names u) (first_of_cons (sym p ∙ k.parts)) c)

one_times : {A : Type 0} {R : ℕ → Part A} {C D F : Further} {Q Q' : Allowed} {names : List (List ℕ)} {n : ℕ} {ts : List Token} {xs ys : List A} {rest rest' : List Token} → AreRepeated R C D F → Repeats R Q names n ts xs rest → Repeats R Q' names n ts ys rest' → Ends D names rest → Ends D names rest' → (xs ≡ ys) × (rest ≡ rest')
one_times r done done e f = (refl, refl)
one_times {n = n} r done (again k m) e f = absurd (ends_no_head e (head_among r.starts ((r.begins n).by k)))
one_times {n = n} r (again h l) done e f = absurd (ends_no_head f (head_among r.starts ((r.begins n).by h)))
one_times {A} {R} {Q' = Q'} {names = names} {n = n} {rest' = rest'} r (again h l) (again {xs = ys} k m) e f =
    let one = (r.part n).one h k (times_end r l e) (times_end r m f) in
    let two = one_times r l (subst (λ (t : List Token). Repeats R Q' names (n - 1) t ys rest') (sym one.1) m) e f in
    ((λ i. one.0 i ∷ two.0 i), two.1)

ended_times : {A : Type 0} {R : ℕ → Part A} {C D F : Further} {Q : Allowed} {names : List (List ℕ)} {n : ℕ} {ts : List Token} {xs : List A} {rest : List Token} → AreRepeated R C D F → Repeats R Q names n ts xs rest → is_ended ts ≡ true → is_ended rest ≡ true
ended_times r done e = e
ended_times {n = n} r (again h m) e = ended_times r m ((r.part n).ended h e)

pub times_part : {A : Type 0} {R : ℕ → Part A} {C D F : Further} → AreRepeated R C D F → (n : ℕ) → IsPart (Times R n) D
times_part r n = record {
  fits = λ h. fits_times r h;
  wider = λ w h. wider_times r w h;
  one = λ h k e f. one_times r h k e f;
  some = λ place names. record { added = []; there = tt; value = []; is = λ more. done };
  ended = λ h e. ended_times r h e;
  back = r.end_stable.back;
}

-- what stands before them doesn't go on with them
apart_times : {A : Type 0} {R : ℕ → Part A} {C D E F : Further} {Q : Allowed} {names : List (List ℕ)} {n : ℕ} {ts : List Token} {xs : List A} {rest : List Token} → AreRepeated R C D F → AreDistinct F E → Among E D → Repeats R Q names n ts xs rest → Ends D names rest → Ends E names ts
apart_times r d a done e = ends_among a e
apart_times {E = E} {names = names} {n = n} r d a (again h m) e = λ t rest p c.
    let k = (r.begins n).by h in
    d names k.token k.is (subst (λ (u : Token). E names u) (first_of_cons (sym p ∙ k.parts)) c)

pub times_apart : {A : Type 0} {R : ℕ → Part A} {C D E F : Further} {n : ℕ} → AreRepeated R C D F → AreDistinct F E → Among E D → Apart E (Times R n) D
times_apart r d a = record { by = λ h e. apart_times r d a h e }

-- ---- the first and those after it, or none

abbrev listed : {A : Type 0} → Option (A × List A) → List A
listed None = []
listed (Some v) = v.0 ∷ v.1

to_option : {A : Type 0} {R : ℕ → Part A} {Q : Allowed} {names : List (List ℕ)} {n : ℕ} {ts : List Token} {xs : List A} {rest : List Token} → Repeats R Q names n ts xs rest → As (AtMost (Then (R n) (Times R (n - 1)))) listed Q names ts xs rest
to_option done = record { value = None; is = without; same = refl }
to_option (again {mid = mid} {x = x} {xs = xs} h m) = record { value = Some (x, xs); is = with (record { mid = mid; first = h; second = m }); same = refl }

from_option : {A : Type 0} {R : ℕ → Part A} {Q : Allowed} {names : List (List ℕ)} {n : ℕ} {ts : List Token} {o : Option (A × List A)} {rest : List Token} → AtMost (Then (R n) (Times R (n - 1))) Q names ts o rest → Repeats R Q names n ts (listed o) rest
from_option without = done
from_option (with h) = again h.first h.second

times_alike : {A : Type 0} (R : ℕ → Part A) (n : ℕ) → Alike (Times R n) (AtMost (Then (R n) (Times R (n - 1)))) listed
times_alike R n = record { to = λ h. to_option h; from = λ h. from_option h }

-- no more of them come
pub times_done : {A : Type 0} {R : ℕ → Part A} {C D F : Further} {names : List (List ℕ)} {ts : List Token} (n : ℕ) → AreRepeated R C D F → (Head F names ts → ⊥) → Reads (Times R n) D names ts [] ts
times_done {R = R} n r h = same_reads (times_alike R n) (without_reads (then_begins (r.begins n)) r.start_stable h)

times_begin : {A : Type 0} {R : ℕ → Part A} {C D F : Further} {names : List (List ℕ)} {ts : List Token} (n : ℕ) → AreRepeated R C D F → Head F names ts → Leads (Times R n) D names ts (Then (R n) (Times R (n - 1))) D ts (λ v. v.0 ∷ v.1)
times_begin {R = R} n r h = leads_on (same_leads (times_alike R n)) (option_leads (then_begins (r.begins n)) r.start_stable (λ names t d. d) r.starts h)

-- one more has come
pub times_step : {A : Type 0} {R : ℕ → Part A} {C D F : Further} {names : List (List ℕ)} {ts : List Token} {x : A} {mid : List Token} (n : ℕ) → AreRepeated R C D F → Reads (R n) C names ts x mid → Leads (Times R n) D names ts (Times R (n - 1)) D mid (λ xs. x ∷ xs)
times_step {R = R} n r h = leads_on (times_begin n r ((r.begins n).by h.is)) (leads (r.part n) (times_apart r r.distinct r.items) h)

-- one that has begun stops
pub times_now : {A : Type 0} {R : ℕ → Part A} {C D F : Further} {names : List (List ℕ)} {ts : List Token} {d : Denied} (n : ℕ) → AreRepeated R C D F → Head F names ts → Halts (R n) C names ts d → Halts (Times R n) D names ts d
times_now {d = d} n r h k = (times_begin n r h).halts d (now (times_part r (n - 1)) (times_apart r r.distinct r.items) k)
