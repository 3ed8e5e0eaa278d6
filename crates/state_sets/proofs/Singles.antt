-- The numbers of sets, and those of the sets of one state that are kept.
use Rattle.std.proofs.Common.{ℕ, ◌≡◌, ◌≢◌, ◌+◌, List, [], ◌∷◌, ◌++◌, Bool, true, false, refl, ap, sym, subst, ◌∙◌, arith, inl, inr, length, zero, suc, length-set, length-append}
use Rattle.std.specs.Prelude.{◌⊎◌, ◌||◌, ◌&&◌, ◌==◌, Option, Some, None, slice_get, slice_set, slice_index_or, bytes_eq, if◌then◌else◌, Result, Ok, Err, IfOk}
use Rattle.std.specs.List.{list_any}
use Rattle.std.proofs.lemmas.Bool.Decides.{nat_tests}
use Rattle.chor_base.specs.Words.{with_word}
use Rattle.global_types.specs.Moves.{IsIn}
use Rattle.state_sets.specs.declared.graph.Edge.{Edge}
use Rattle.state_sets.specs.Sets.{Has, IsSetFor}
use Rattle.state_sets.specs.Numbering.{leads_to, IsNumberOf, AreSingles}
use Rattle.state_sets.proofs.Parts.{get_set}
use Rattle.state_sets.proofs.Sets.{set_same}
use Rattle.state_sets.proofs.Tables.{word_kept}

own_bytes : (w : List ℕ) → bytes_eq w w ≡ true
own_bytes [] = refl
own_bytes (x ∷ w) = ap (λ b. (x == x) && b) (own_bytes w) ∙ grind (arith, nat_tests)

either_true : (b : Bool) → (b || true) ≡ true
either_true true = refl
either_true false = refl

any_there : (ws : List (List ℕ)) (k : ℕ) (w : List ℕ) → slice_get ws k ≡ Some w → list_any (bytes_eq w) ws ≡ true
any_there [] k w h = absurd (cc)
any_there (x ∷ ws) zero w h = let e : x ≡ w = cc in ap (λ v. bytes_eq w v || list_any (bytes_eq w) ws) e ∙ ap (λ b. b || list_any (bytes_eq w) ws) (own_bytes w)
any_there (x ∷ ws) (suc k) w h = ap (λ b. bytes_eq w x || b) (any_there ws k w h) ∙ either_true (bytes_eq w x)

word_there : (ws : List (List ℕ)) (k : ℕ) (w : List ℕ) → slice_get ws k ≡ Some w → ws ≡ with_word ws w
word_there ws k w h = sym (ap (λ b. if b then ws else ws ++ w ∷ []) (any_there ws k w h))

-- ---- the set of one state

pub none_more : (old new : List (Option ℕ)) → new ≡ old ++ None ∷ [] → ((j : ℕ) (o : Option ℕ) → slice_get old j ≡ Some o → o ≡ None) → (j : ℕ) (o : Option ℕ) → slice_get new j ≡ Some o → o ≡ None
none_more old new grows was j o h = go old j was (subst (λ (l : List (Option ℕ)). slice_get l j ≡ Some o) grows h) where
  go : (xs : List (Option ℕ)) (k : ℕ) → ((i : ℕ) (p : Option ℕ) → slice_get xs i ≡ Some p → p ≡ None) → slice_get (xs ++ None ∷ []) k ≡ Some o → o ≡ None
  go [] zero w e = cc
  go [] (suc k) w e = absurd (cc)
  go (x ∷ xs) zero w e = w 0 o e
  go (x ∷ xs) (suc k) w e = go xs k (λ i p f. w (suc i) p f) e

pub one_longer : (old new : List (Option ℕ)) (n : ℕ) → new ≡ old ++ None ∷ [] → length old ≡ n → length new ≡ n + 1
one_longer old new n grows size = let e : length new ≡ length old + 1 = ap (λ (l : List (Option ℕ)). length l) grows ∙ length-append old (None ∷ []) in omega (arith, e, size)

pub singles_begin : (n : ℕ) (sets : List (List ℕ)) (singles : List (Option ℕ)) → length singles ≡ n → ((j : ℕ) (o : Option ℕ) → slice_get singles j ≡ Some o → o ≡ None) → AreSingles n sets singles
singles_begin n sets singles size none = record { size = size; own = λ j i h. absurd (let e = none j (Some i) h in cc) }

pub singles_kept : (n : ℕ) (old new : List (List ℕ)) (singles : List (Option ℕ)) (w : List ℕ) → new ≡ with_word old w → AreSingles n old singles → AreSingles n new singles
singles_kept n old new singles w is was = rw is (record {
  size = was.size;
  own = λ j k h. let o = was.own j k h in (o.0, word_kept old w k o.0 o.1, o.2);
})

pub single_put : (n : ℕ) (sets : List (List ℕ)) (old new : List (Option ℕ)) (state number : ℕ) (word : List ℕ) → new ≡ slice_set old state (Some number) → slice_get sets number ≡ Some word → IsSetFor n (λ i. state ≡ i) word
    → AreSingles n sets old → AreSingles n sets new
single_put n sets old new state number word is at set was = rw is (record {
  size = length-set old state (Some number) ∙ was.size;
  own = λ j k h. own_at j k (get_set old state (Some number) j (Some k) h);
})
  where
    own_at : (j k : ℕ) → ((j ≡ state) × (Some number ≡ Some k)) ⊎ ((j ≢ state) × (slice_get old j ≡ Some (Some k))) → (w : List ℕ) × (slice_get sets k ≡ Some w) × IsSetFor n (λ i. j ≡ i) w
    own_at j k (inl p) =
        let same : number ≡ k = (let e = p.1 in cc) in
        (word, subst (λ (i : ℕ). slice_get sets i ≡ Some word) same at, subst (λ (i : ℕ). IsSetFor n (λ m. i ≡ m) word) (sym p.0) set)
    own_at j k (inr p) = was.own j k p.1

-- a number that was kept
pub number_kept : (n : ℕ) (sets : List (List ℕ)) (singles : List (Option ℕ)) (state number : ℕ) → AreSingles n sets singles → slice_get singles state ≡ Some (Some number) → IsNumberOf n (λ j. state ≡ j) sets sets number
number_kept n sets singles state number are h = let o = are.own state number h in record { word = o.0; set = o.2; added = word_there sets number o.0 o.1; at = o.1 }

-- ---- one exchange

only_one : (es : List Edge) (e d : Edge) → length es ≡ 1 → IsIn e es → slice_index_or es 0 d ≡ e
only_one [] e d h among = absurd among
only_one (x ∷ []) e d h (inl s) = s
only_one (x ∷ []) e d h (inr m) = absurd m
only_one (x ∷ (y ∷ ys)) e d h among = absurd (omega (arith, h))

number_of_one : (n : ℕ) (still : List ℕ) (es : List Edge) (d : Edge) (old new : List (List ℕ)) (number : ℕ) → length es ≡ 1 → ((e : Edge) × IsIn e es × Has still e.from)
    → IsNumberOf n (λ j. (slice_index_or es 0 d).to ≡ j) old new number → IsNumberOf n (leads_to still es) old new number
number_of_one n still es d old new number one p was = record { word = was.word; set = set_same n _ _ was.word was.set there back; added = was.added; at = was.at }
  where
    there : (j : ℕ) → (slice_index_or es 0 d).to ≡ j → leads_to still es j
    there j e = (p.0, p.1, p.2, ap (λ (v : Edge). v.to) (sym (only_one es p.0 d one p.1)) ∙ e)

    back : (j : ℕ) → leads_to still es j → (slice_index_or es 0 d).to ≡ j
    back j q = ap (λ (v : Edge). v.to) (only_one es q.0 d one q.1) ∙ q.3

pub number_of_one_so : {E : Type 0} (n : ℕ) (still : List ℕ) (es : List Edge) (d : Edge) (old new : List (List ℕ)) (o : Result ℕ E) → length es ≡ 1 → ((e : Edge) × IsIn e es × Has still e.from)
    → IfOk o (λ number. IsNumberOf n (λ j. (slice_index_or es 0 d).to ≡ j) old new number) → IfOk o (λ number. IsNumberOf n (leads_to still es) old new number)
number_of_one_so n still es d old new (Ok number) one p was = number_of_one n still es d old new number one p was
number_of_one_so n still es d old new (Err e) one p was = tt
