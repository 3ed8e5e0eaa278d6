-- Lists that go along with others, one for one.
use Rattle.std.proofs.Common.{◌≡◌, ℕ, zero, suc, ◌+◌, ◌<◌, List, [], ◌∷◌, ◌++◌, length, take, get_or, refl, sym, ap, subst, arith}
use Rattle.std.specs.Prelude.{All, Result, Ok, Err, IfErr, IsErrAnd}
use Rattle.std.specs.List.{AllZip, zip}
use Rattle.std.proofs.lemmas.List.{take_more}
use Rattle.projection.proofs.Makes.{zip_push}
use Rattle.chor_tree.specs.declared.file.File.{File}
use Rattle.projection.specs.MergeFaults.{Site, IsFirstOf, here, later}
use Rattle.block_codes.specs.declared.stop.Stop.{Stop}
use Rattle.block_codes.specs.declared.stop.Stop.TheVariants.{Memory as NoMemory}
use Rattle.block_codes.specs.Walks.{StopsAt}
use Rattle.std.proofs.lemmas.List.Elements.{All-nil, All-cons, All-head, All-tail}

-- what holds of each pair is enough for more
pub zip_weaker : {A B : Type 0} (R S : A → B → Type 0) → ((x : A) (y : B) → R x y → S x y) → (xs : List A) (ys : List B) → AllZip R xs ys → AllZip S xs ys
zip_weaker R S f [] [] z = tt
zip_weaker R S f [] (y ∷ ys) z = absurd z
zip_weaker R S f (x ∷ xs) [] z = absurd z
zip_weaker R S f (x ∷ xs) (y ∷ ys) z = (f x y z.0, zip_weaker R S f xs ys z.1)

-- one turn of a loop over the first list
pub zip_step : {A B : Type 0} (R : A → B → Type 0) (xs : List A) (i : ℕ) (d : A) (ys zs : List B) (y : B) → i < length xs → AllZip R (take i xs) ys → R (get_or xs i d) y → zs ≡ ys ++ y ∷ [] → AllZip R (take (i + 1) xs) zs
zip_step {A = A} {B = B} R xs i d ys zs y lt z r e =
    subst (λ (us : List A). AllZip R us zs) (sym (take_more xs i d lt))
    (subst (λ (us : List B). AllZip R (take i xs ++ get_or xs i d ∷ []) us) (sym e) (zip_push R (take i xs) ys (get_or xs i d) y z r))

pub zip_done : {A B : Type 0} (R : A → B → Type 0) (xs : List A) (i : ℕ) (ys : List B) → length xs ≡ i → AllZip R (take i xs) ys → AllZip R xs ys
zip_done {A = A} R xs i ys e z = subst (λ (us : List A). AllZip R us ys) (all_taken xs i e) z
  where
    all_taken : {A : Type 0} (xs : List A) (i : ℕ) → length xs ≡ i → take i xs ≡ xs
    all_taken [] zero e = refl
    all_taken [] (suc i) e = refl
    all_taken (x ∷ xs) zero e = absurd (omega arith)
    all_taken (x ∷ xs) (suc i) e = ap (λ us. x ∷ us) (all_taken xs i (omega arith))

pub zip_lengths : {A B : Type 0} (R : A → B → Type 0) (xs : List A) (ys : List B) → AllZip R xs ys → length xs ≡ length ys
zip_lengths R [] [] z = refl
zip_lengths R [] (y ∷ ys) z = absurd z
zip_lengths R (x ∷ xs) [] z = absurd z
zip_lengths R (x ∷ xs) (y ∷ ys) z = ap suc (zip_lengths R xs ys z.1)

-- what each pair tells of its second
pub zip_seconds : {A B : Type 0} (R : A → B → Type 0) (P : B → Type 0) → ((x : A) (y : B) → R x y → P y) → (xs : List A) (ys : List B) → AllZip R xs ys → All P ys
zip_seconds R P f [] [] z = All-nil P
zip_seconds R P f [] (y ∷ ys) z = absurd z
zip_seconds R P f (x ∷ xs) [] z = absurd z
zip_seconds R P f (x ∷ xs) (y ∷ ys) z = All-cons P y ys (f x y z.0) (zip_seconds R P f xs ys z.1)

-- ---- two lists of one length

pub length-zip : {A B : Type 0} (xs : List A) (ys : List B) → length xs ≡ length ys → length (zip xs ys) ≡ length xs
length-zip [] ys e = refl
length-zip (x ∷ xs) [] e = absurd (omega arith)
length-zip (x ∷ xs) (y ∷ ys) e = ap suc (length-zip xs ys (omega arith))

pub get_or-zip : {A B : Type 0} (xs : List A) (ys : List B) (i : ℕ) (d : A) (e : B) → i < length xs → length xs ≡ length ys → get_or (zip xs ys) i (d, e) ≡ (get_or xs i d, get_or ys i e)
get_or-zip [] ys i d e lt s = absurd (omega arith)
get_or-zip (x ∷ xs) [] i d e lt s = absurd (omega arith)
get_or-zip (x ∷ xs) (y ∷ ys) zero d e lt s = refl
get_or-zip (x ∷ xs) (y ∷ ys) (suc i) d e lt s = get_or-zip xs ys i d e (omega arith) (omega arith)

-- ---- the first of a list

-- an item with a property, before which none has it
pub first_at : {X : Type 0} (P : X → Type 0) (xs : List X) (i : ℕ) (d : X) → i < length xs → All (λ x. P x → ⊥) (take i xs) → P (get_or xs i d) → IsFirstOf P (get_or xs i d) xs
first_at P [] i d lt n h = absurd (omega arith)
first_at P (x ∷ xs) zero d lt n h = here h
first_at P (x ∷ xs) (suc i) d lt n h = later (All-head (λ y. P y → ⊥) x (take i xs) n) (first_at P xs i d (omega arith) (All-tail (λ y. P y → ⊥) x (take i xs) n) h)

-- ---- answers

-- what a `?` returns
pub stops_by : {T E : Type 0} (P : E → Type 0) (r : Result T E) (e : E) → IsErrAnd r (λ f. f ≡ e) → P e → IfErr r P
stops_by P (Ok x) e h p = tt
stops_by P (Err f) e h p = subst P (sym h) p

-- a lack of memory names no branches
pub short_of_memory : {T : Type 0} (f : File) (sites : List Site) (r : Result T Stop) → IsErrAnd r (λ e. e ≡ NoMemory) → IfErr r (StopsAt f sites)
short_of_memory f sites r h = stops_by (StopsAt f sites) r NoMemory h tt
