-- Whether names are among names, in lists that are the same.
use Rattle.std.proofs.Common.{◌≡◌, Bool, true, false, ◌==◌, List, [], ◌∷◌, map, refl, sym, ◌∙◌, subst, if◌then◌else◌}
use Rattle.std.specs.Prelude.{All}
use Rattle.std.specs.List.{AllZip}
use Rattle.std.proofs.lemmas.List.Elements.{All-nil, All-cons, All-head, All-tail}
use Rattle.chor_base.specs.declared.names.NameId.{NameId}
use Rattle.endpoint_code.specs.Faults.{is_among, AreDistinct, no_name, one_more, without, all_among}
use Rattle.same_programs.proofs.Tests.{TellsNames, both_tests, one_test}

-- what holds of the items of the one list holds of those of the other
pub all_over : {A B : Type 0} (R : A → B → Type 0) (P : A → Type 0) (Q : B → Type 0) → ((x : A) (y : B) → R x y → P x → Q y) → (xs : List A) (ys : List B) → AllZip R xs ys → All P xs → All Q ys
all_over R P Q f [] [] h p = All-nil Q
all_over R P Q f [] (y ∷ ys) h p = absurd h
all_over R P Q f (x ∷ xs) [] h p = absurd h
all_over R P Q f (x ∷ xs) (y ∷ ys) h p = All-cons Q y ys (f x y h.0 (All-head P x xs p)) (all_over R P Q f xs ys h.1 (All-tail P x xs p))

-- a part of each item
pub zip_parts : {A B : Type 0} (R : A → B → Type 0) (N : NameId → NameId → Type 0) (f : A → NameId) (g : B → NameId) → ((x : A) (y : B) → R x y → N (f x) (g y))
    → (xs : List A) (ys : List B) → AllZip R xs ys → AllZip N (map f xs) (map g ys)
zip_parts R N f g h [] [] z = tt
zip_parts R N f g h [] (y ∷ ys) z = absurd z
zip_parts R N f g h (x ∷ xs) [] z = absurd z
zip_parts R N f g h (x ∷ xs) (y ∷ ys) z = (h x y z.0, zip_parts R N f g h xs ys z.1)

module _ (N : NameId → NameId → Type 0) (tell : TellsNames N) where
  pub among_same : (x y : NameId) → N x y → (xs ys : List NameId) → AllZip N xs ys → is_among x xs ≡ is_among y ys
  among_same x y i [] [] h = refl
  among_same x y i [] (w ∷ ys) h = absurd h
  among_same x y i (z ∷ xs) [] h = absurd h
  among_same x y i (z ∷ xs) (w ∷ ys) h = one_test (x.0 == z.0) (y.0 == w.0) (is_among x xs) (is_among y ys) (tell x y z w i h.0) (among_same x y i xs ys h.1)

  pub distinct_same : (xs ys : List NameId) → AllZip N xs ys → AreDistinct xs → AreDistinct ys
  distinct_same [] [] h d = no_name
  distinct_same [] (y ∷ ys) h d = absurd h
  distinct_same (x ∷ xs) [] h d = absurd h
  distinct_same (x ∷ xs) (y ∷ ys) h (one_more n d) = one_more (sym (among_same x y h.0 xs ys h.1) ∙ n) (distinct_same xs ys h.1 d)

  pub without_same : (x y : NameId) → N x y → (xs ys : List NameId) → AllZip N xs ys → AllZip N (without x xs) (without y ys)
  without_same x y i [] [] h = tt
  without_same x y i [] (w ∷ ys) h = absurd h
  without_same x y i (z ∷ xs) [] h = absurd h
  without_same x y i (z ∷ xs) (w ∷ ys) h =
      subst (λ b. AllZip N (if x.0 == z.0 then without x xs else z ∷ without x xs) (if b then without y ys else w ∷ without y ys)) (tell x y z w i h.0)
      (go (x.0 == z.0) (without_same x y i xs ys h.1))
    where
      go : (b : Bool) → AllZip N (without x xs) (without y ys) → AllZip N (if b then without x xs else z ∷ without x xs) (if b then without y ys else w ∷ without y ys)
      go true r = r
      go false r = (h.0, r)

  pub all_among_same : (xs ys zs ws : List NameId) → AllZip N xs ys → AllZip N zs ws → all_among xs zs ≡ all_among ys ws
  all_among_same [] [] zs ws h k = refl
  all_among_same [] (y ∷ ys) zs ws h k = absurd h
  all_among_same (x ∷ xs) [] zs ws h k = absurd h
  all_among_same (x ∷ xs) (y ∷ ys) zs ws h k = both_tests (is_among x zs) (is_among y ws) (all_among xs zs) (all_among ys ws) (among_same x y h.0 zs ws k) (all_among_same xs ys zs ws h.1 k)
