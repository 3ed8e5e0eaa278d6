-- What is told of a role's actions leads its type to one state.
use Rattle.std.proofs.Common.{◌≡◌, ◌≢◌, ℕ, List, [], ◌∷◌, ◌++◌, map, Some, refl, sym, ap, ◌∙◌, subst, inl, inr}
use Rattle.std.specs.Prelude.{AllPairs}
use Rattle.chor_base.specs.declared.names.NameId.{NameId}
use Rattle.global_types.specs.Moves.{IsIn}
use Rattle.global_types.specs.Paths.{Action, selects, offers}
use Rattle.local_types.specs.declared.local_type.LocalState.{LocalState}
use Rattle.local_types.specs.declared.local_type.LocalState.TheVariants.{End, Send, Recv, Pick, Branch}
use Rattle.local_types.specs.Reading.{acts_of, LeadsTo, labels_in, HasDistinctLabels}
use Rattle.state_sets.proofs.Lists.{in_map}
use Rattle.state_sets.proofs.Pairs.{pairs_first, pairs_rest}
use Rattle.typed_sources.specs.Told.{Act, act_of}

abbrev pub AreApart : List NameId → Type 0
AreApart ls = AllPairs (λ k l. k ≢ l) ls

-- a label that stands once leads to one state
one_label : (ls : List (NameId × ℕ)) (l : NameId) (n m : ℕ) → AreApart (map (λ q. q.0) ls) → IsIn (l, n) ls → IsIn (l, m) ls → n ≡ m
one_label [] l n m apart a b = absurd a
one_label (q ∷ ls) l n m apart (inl i) (inl j) = ap (λ (p : NameId × ℕ). p.1) (sym i ∙ j)
one_label (q ∷ ls) l n m apart (inl i) (inr b) =
    absurd (pairs_first (λ (k : NameId) (l : NameId). k ≢ l) q.0 (map (λ q. q.0) ls) apart l (in_map (λ (p : NameId × ℕ). p.0) (l, m) ls b) (ap (λ (p : NameId × ℕ). p.0) i))
one_label (q ∷ ls) l n m apart (inr a) (inl j) =
    absurd (pairs_first (λ (k : NameId) (l : NameId). k ≢ l) q.0 (map (λ q. q.0) ls) apart l (in_map (λ (p : NameId × ℕ). p.0) (l, n) ls a) (ap (λ (p : NameId × ℕ). p.0) j))
one_label (q ∷ ls) l n m apart (inr a) (inr b) = one_label ls l n m (pairs_rest (λ (k : NameId) (l : NameId). k ≢ l) q.0 (map (λ q. q.0) ls) apart) a b

-- a label among these, by which an action leads on
pub record ByLabel (f : NameId → Action) (ls : List (NameId × ℕ)) (a : Action) (n : ℕ) : Type 0 where
  pub label : NameId
  pub among : IsIn (label, n) ls
  pub is : f label ≡ a

pub by_label : (f : NameId → Action) (ls : List (NameId × ℕ)) (a : Action) (n : ℕ) → IsIn {A = Action × ℕ} (a, n) (map (λ l. (f l.0, l.1)) ls) → ByLabel f ls a n
by_label f [] a n h = absurd h
by_label f (q ∷ ls) a n (inl i) = record { label = q.0; among = inl (λ k. (q.0, (i k).1)); is = ap (λ (p : Action × ℕ). p.0) i }
by_label f (q ∷ ls) a n (inr h) = let w = by_label f ls a n h in record { label = w.label; among = inr w.among; is = w.is }

abbrev one_of : (f : NameId → Action) → ((k l : NameId) → act_of (f k) ≡ act_of (f l) → k ≡ l) → (ls : List (NameId × ℕ)) → AreApart (map (λ q. q.0) ls) → (a b : Action) (n m : ℕ)
    → IsIn {A = Action × ℕ} (a, n) (map (λ l. (f l.0, l.1)) ls) → IsIn {A = Action × ℕ} (b, m) (map (λ l. (f l.0, l.1)) ls) → act_of a ≡ act_of b → n ≡ m
one_of f one ls apart a b n m i j alike =
    let v = by_label f ls a n i in
    let w = by_label f ls b m j in
    let same : v.label ≡ w.label = one v.label w.label (ap act_of v.is ∙ alike ∙ sym (ap act_of w.is)) in
    one_label ls w.label n m apart (subst (λ (l : NameId). IsIn (l, n) ls) same v.among) w.among

pub one_put : (to k l : NameId) → act_of (selects to k) ≡ act_of (selects to l) → k ≡ l
one_put to k l h = cc

pub one_got : (from k l : NameId) → act_of (offers from k) ≡ act_of (offers from l) → k ≡ l
one_got from k l h = cc

pub one_next : (t : LocalState) → AreApart (labels_in t) → (a b : Action) (n m : ℕ) → IsIn (a, n) (acts_of t) → IsIn (b, m) (acts_of t) → act_of a ≡ act_of b → n ≡ m
one_next End apart a b n m i j alike = absurd i
one_next (Send to c k) apart a b n m (inl i) (inl j) alike = ap (λ (p : Action × ℕ). p.1) (sym i ∙ j)
one_next (Send to c k) apart a b n m (inr i) j alike = absurd i
one_next (Send to c k) apart a b n m (inl i) (inr j) alike = absurd j
one_next (Recv from c k) apart a b n m (inl i) (inl j) alike = ap (λ (p : Action × ℕ). p.1) (sym i ∙ j)
one_next (Recv from c k) apart a b n m (inr i) j alike = absurd i
one_next (Recv from c k) apart a b n m (inl i) (inr j) alike = absurd j
one_next (Pick to ls) apart a b n m i j alike = one_of (λ l. selects to l) (one_put to) ls apart a b n m i j alike
one_next (Branch from ls) apart a b n m i j alike = one_of (λ l. offers from l) (one_got from) ls apart a b n m i j alike

some_same : {A : Type 0} (a b : A) → Some a ≡ Some b → a ≡ b
some_same a b h = cc

pub one_state : (ts : List LocalState) → HasDistinctLabels ts → (v w : List Action) (i n m : ℕ) → LeadsTo ts i v n → LeadsTo ts i w m → map act_of v ≡ map act_of w → n ≡ m
one_state ts apart [] [] i n m a b alike = sym a ∙ b
one_state ts apart [] (y ∷ w) i n m a b alike = absurd cc
one_state ts apart (x ∷ v) [] i n m a b alike = absurd cc
one_state ts apart (x ∷ v) (y ∷ w) i n m (t, at, j, among, rest) (u, there, k, inside, more) alike =
    let same : t ≡ u = some_same t u (sym at ∙ there) in
    let first : act_of x ≡ act_of y = cc in
    let others : map act_of v ≡ map act_of w = cc in
    let next : j ≡ k = one_next u (apart i u there) x y j k (subst (λ (s : LocalState). IsIn (x, j) (acts_of s)) same among) inside first in
    one_state ts apart v w k n m (subst (λ (l : ℕ). LeadsTo ts l v n) next rest) more others

-- what is told of actions with one more tells the last
pub record Parted (acts : List Action) (done : List Act) (last : Act) : Type 0 where
  pub first : List Action
  pub action : Action
  pub parts : acts ≡ first ++ action ∷ []
  pub told : map act_of first ≡ done
  pub is : act_of action ≡ last

pub parted : (acts : List Action) (done : List Act) (last : Act) → map act_of acts ≡ done ++ last ∷ [] → Parted acts done last
parted [] [] last h = absurd cc
parted [] (d ∷ ds) last h = absurd cc
parted (a ∷ []) [] last h = let one : act_of a ≡ last = cc in record { first = []; action = a; parts = refl; told = refl; is = one }
parted (a ∷ b ∷ acts) [] last h = absurd (let none : map act_of (b ∷ acts) ≡ [] = cc in cc)
parted (a ∷ acts) (d ∷ ds) last h =
    let one : act_of a ≡ d = cc in
    let more : map act_of acts ≡ ds ++ last ∷ [] = cc in
    let w = parted acts ds last more in
    record { first = a ∷ w.first; action = w.action; parts = ap (λ l. a ∷ l) w.parts; told = ap (λ l. act_of a ∷ l) w.told ∙ ap (λ x. x ∷ ds) one; is = w.is }
