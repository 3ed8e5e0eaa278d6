-- A team before and after its work.
use Rattle.std.proofs.Common.{◌≡◌, ℕ, ◌+◌, ◌<◌, List, [], ◌∷◌, ◌++◌, length, get_or, take, zero, suc, sym, refl, ap, ◌∙◌, subst, arith, length-append}
use Rattle.std.specs.Prelude.{All}
use Rattle.std.proofs.lemmas.List.Elements.{All-push}
use Rattle.turn_lock.specs.declared.parts.Turn.{Turn}
use Rattle.workers.specs.declared.desks.Desk.{Desk}
use Rattle.workers.specs.declared.origin.Origin.{Origin}
use Rattle.workers.specs.Desks.{IsReady, AreSeated, AreToGoOn, HaveWorked, Stays}
use Rattle.workers.proofs.Takes.{after_work, after_chief, take_front, item_last}

-- a list that has an item is what comes before the last one, and that
split_last : {X : Type 0} (xs : List X) (d : X) (n : ℕ) → length xs ≡ n + 1 → xs ≡ take n xs ++ get_or xs n d ∷ []
split_last [] d n h = absurd (omega (arith, h))
split_last (x ∷ []) d zero h = refl
split_last (x ∷ y ∷ ys) d zero h = absurd (omega (arith, h))
split_last (x ∷ xs) d (suc n) h = ap (λ (l : List _). x ∷ l) (split_last xs d n (omega (arith, h)))

length_take : {X : Type 0} (xs : List X) (n : ℕ) → length xs ≡ n + 1 → length (take n xs) ≡ n
length_take [] n h = absurd (omega (arith, h))
length_take (x ∷ xs) zero h = refl
length_take (x ∷ xs) (suc n) h = ap (λ k. suc k) (length_take xs n (omega (arith, h)))

-- lists that end in one item more each are alike where the whole is
module _ {X : Type 0} (xs ys : List X) (x y : X) (is : xs ++ x ∷ [] ≡ ys ++ y ∷ []) where
  long : length xs ≡ length ys
  long = let both : length xs + 1 ≡ length ys + 1 = sym (length-append xs (x ∷ [])) ∙ (ap length is ∙ length-append ys (y ∷ [])) in omega (arith, both)

  pub front_same : xs ≡ ys
  front_same = sym (take_front xs (x ∷ []) (length xs) refl) ∙ (ap (take (length xs)) is ∙ take_front ys (y ∷ []) (length xs) long)

  pub last_same : x ≡ y
  last_same = sym (item_last xs x x) ∙ (ap (λ (l : List X). get_or l (length xs) x) is ∙ (ap (λ k. get_or (ys ++ y ∷ []) k x) long ∙ item_last ys y x))

module _ {T O : Type 0} (origin_of : T → O) (t : Turn T O) where
  -- each desk is ready
  pub all_ready : (ds : List (Desk T O)) → AreSeated origin_of t ds → All (IsReady origin_of t) ds
  all_ready ds s = subst (All (IsReady origin_of t)) (sym s.desks) (All-push (IsReady origin_of t) s.others s.chief (λ i d lt. (s.order i d lt).0) s.ready)

  -- the desks are the same team's after their workers have worked
  pub seated_after : (about : O → Origin) (ds es : List (Desk T O)) → AreSeated origin_of t ds → length es ≡ length ds → HaveWorked origin_of about t ds es → AreSeated origin_of t es
  seated_after about ds es s len changed =
      let worked : (i : ℕ) (d : Desk T O) → i < length ds → IsReady origin_of t (get_or es i d) × Stays (get_or ds i d) (get_or es i d) = λ i d lt. ((changed i d lt).0, (changed i d lt).1) in
      let n = length s.others in
      let count : length es ≡ n + 1 = len ∙ (ap length s.desks ∙ length-append s.others (s.chief ∷ [])) in
      let last = get_or es n s.chief in
      let rest = take n es in
      let cut : es ≡ rest ++ last ∷ [] = split_last es s.chief n count in
      let kept : length rest ≡ n = length_take es n count in
      let chief = after_chief origin_of t s.others ds es rest s.chief last s.desks cut kept worked in
      record {
        others = rest;
        chief = last;
        desks = cut;
        order = after_work origin_of t s.others ds es rest s.chief last s.desks cut kept s.order worked;
        ready = chief.0;
        first = chief.1.0 ∙ s.first;
        made = chief.1.1 ∙ (s.made ∙ ap (λ k. k + 1) (sym kept));
        none = chief.1.2 ∙ s.none;
      }

  -- and may go on where they haven't ended
  pub on_after : (about : O → Origin) (ds es : List (Desk T O)) → length es ≡ length ds → HaveWorked origin_of about t ds es → AreToGoOn origin_of about t es
  on_after about ds es len changed i d lt = (changed i d (omega (arith, len, lt))).2
