-- The types of roles, one after the other.
use Rattle.std.proofs.Common.{◌≡◌, ℕ, ◌+◌, ◌<◌, List, [], ◌∷◌, ◌++◌, length, take, sym, subst}
use Rattle.std.specs.Prelude.{slice_index_or}
use Rattle.std.proofs.lemmas.List.{take_more}
use Rattle.chor_tree.specs.declared.file.Named.{Named}
use Rattle.chor_tree.specs.Protocols.{Protocol}
use Rattle.local_types.specs.declared.local_type.LocalType.{LocalType}
use Rattle.conform.specs.Progress.{OneByOne, IsRead, AreRead}
use Rattle.conform.proofs.Lists.{one_push}

pub more : {A B : Type 0} (R : A → B → Type 0) (xs seen : List A) (i : ℕ) (d : A) (old new : List B) (b : B) → seen ≡ xs → i < length seen → OneByOne R (take i xs) old → R (slice_index_or seen i d) b → new ≡ old ++ b ∷ [] → OneByOne R (take (i + 1) xs) new
more {A = A} {B = B} R xs seen i d old new b same within so_far one added =
    let here : R (slice_index_or xs i d) b = subst (λ (l : List A). R (slice_index_or l i d) b) same one in
    subst (λ (l : List B). OneByOne R (take (i + 1) xs) l) (sym added)
    (subst (λ (l : List A). OneByOne R l (old ++ b ∷ [])) (sym (take_more xs i d (subst (λ (l : List A). i < length l) same within))) (one_push R (take i xs) old (slice_index_or xs i d) b so_far here))

pub types_more : (p : Protocol) (seen : List Named) (i : ℕ) (d : Named) (old new : List LocalType) (t : LocalType) → seen ≡ p.roles → i < length seen → OneByOne (IsRead p) (take i p.roles) old → IsRead p (slice_index_or seen i d) t → new ≡ old ++ t ∷ [] → OneByOne (IsRead p) (take (i + 1) p.roles) new
types_more p seen i d old new t same within so_far one added = more (IsRead p) p.roles seen i d old new t same within so_far one added

pub protocols_more : (ps seen : List Protocol) (i : ℕ) (p : Protocol) (old new : List (List LocalType)) (row : List LocalType) → seen ≡ ps → i < length seen → p ≡ slice_index_or seen i p → OneByOne AreRead (take i ps) old → AreRead p row → new ≡ old ++ row ∷ [] → OneByOne AreRead (take (i + 1) ps) new
protocols_more ps seen i p old new row same within is so_far one added = more AreRead ps seen i p old new row same within so_far (subst (λ (q : Protocol). AreRead q row) is one) added
