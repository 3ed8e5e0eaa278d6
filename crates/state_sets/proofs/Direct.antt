-- To which states one silent exchange leads, found exchange by exchange.
use Rattle.std.proofs.Common.{ℕ, ◌≡◌, ◌≢◌, ◌+◌, ◌<◌, ◌≤◌, List, [], refl, sym, subst, ◌∙◌, arith, inl, inr, length, take, length-set}
use Rattle.std.specs.declared.alloc.Global.{Global}
use Rattle.std.specs.Prelude.{◌⊎◌, Vec, slice_index_or, slice_set}
use Rattle.std.proofs.lemmas.List.{take_all}
use Rattle.std.proofs.lemmas.Option.{slice_get-get_or}
use Rattle.state_sets.specs.declared.moves.Move.{Move}
use Rattle.state_sets.specs.Moves.{actions_in}
use Rattle.state_sets.specs.Sets.{row_at, IsSetFor}
use Rattle.state_sets.specs.Graph.{HasMove, AreWithin, AreRowsFor, IsPutIn}
use Rattle.state_sets.proofs.Lists.{in_of_at}
use Rattle.state_sets.proofs.Sets.{same_or_not, set_put, set_same, row_is}
use Rattle.state_sets.proofs.Groups.{direct_in, direct_out}
use Rattle.state_sets.proofs.Allowed.{row_written, row_other}

pub alone_row : (n s : ℕ) (marks : List ℕ) → s < n → IsSetFor n (λ i. ⊥) marks → IsSetFor n (λ j. s ≡ j) (slice_set marks s 1)
alone_row n s marks h none = set_same n _ _ _ (set_put n (λ i. ⊥) marks s none h) more (λ j e. inr e)
  where
    more : (j : ℕ) → ⊥ ⊎ (s ≡ j) → s ≡ j
    more j (inl b) = absurd b
    more j (inr e) = e

-- a state comes into a row
pub put_written : (old new : List (Vec ℕ Global)) (k s : ℕ) (was row : Vec ℕ Global) → k < length old → was ≡ slice_index_or old k was → row.items ≡ slice_set was.items s 1 → new ≡ slice_set old k row → IsPutIn k s old new
put_written old new k s was row h at put is = rw is (record {
  size = length-set old k row;
  own = row_written old k row h ∙ put ∙ (let e : was.items ≡ row_at old k = sym (row_is old k was h at) in rw e refl);
  rest = λ i d. row_other old k i row d;
})

pub from_within : (n : ℕ) (ms : List Move) (i : ℕ) (d : Move) (size : ℕ) → size ≡ n → i < length ms → AreWithin n ms → (slice_index_or ms i d).from < size
from_within n ms i d size e h within = let a : (slice_index_or ms i d).from < n = (within (slice_index_or ms i d) (in_of_at (slice_index_or ms i d) ms i (slice_get-get_or ms i d h))).0 in omega (arith, a, e)

abbrev pub AreDirect : ℕ → List Move → List (Vec ℕ Global) → Type 0
AreDirect n ms rows = AreRowsFor n (λ i j. (i ≡ j) ⊎ HasMove ms i [] j) rows

pub direct_begins : (n : ℕ) (ms : List Move) (rows : List (Vec ℕ Global)) → AreRowsFor n (λ i j. i ≡ j) rows → AreDirect n (take 0 ms) rows
direct_begins n ms rows was = record { size = was.size; row = λ i h. set_same n _ _ _ (was.row i h) (λ j e. inl e) (λ j p. less i j p) }
  where
    less : (i j : ℕ) → (i ≡ j) ⊎ HasMove (take 0 ms) i [] j → i ≡ j
    less i j (inl e) = e
    less i j (inr m) = absurd m.among

pub direct_more : (n : ℕ) (ms : List Move) (i : ℕ) (d : Move) (old new : List (Vec ℕ Global)) → i < length ms → AreWithin n ms → actions_in (slice_index_or ms i d).act ≡ []
    → AreDirect n (take i ms) old → IsPutIn (slice_index_or ms i d).from (slice_index_or ms i d).to old new → AreDirect n (take (i + 1) ms) new
direct_more n ms i d old new h within silent was more = record {
  size = more.size ∙ was.size;
  row = λ j less. row_of j less (same_or_not j (slice_index_or ms i d).from);
}
  where
    from : ℕ
    from = (slice_index_or ms i d).from

    here : IsSetFor n (λ q. (from ≡ q) ⊎ HasMove (take (i + 1) ms) from [] q) (row_at new from)
    here = subst (λ l. IsSetFor n (λ q. (from ≡ q) ⊎ HasMove (take (i + 1) ms) from [] q) l) (sym more.own) (direct_in n ms i d from (row_at old from) h within refl silent (was.row from (from_within n ms i d n refl h within)))

    row_of : (j : ℕ) → j < n → (j ≡ from) ⊎ (j ≢ from) → IsSetFor n (λ q. (j ≡ q) ⊎ HasMove (take (i + 1) ms) j [] q) (row_at new j)
    row_of j less (inl e) = subst (λ k. IsSetFor n (λ q. (k ≡ q) ⊎ HasMove (take (i + 1) ms) k [] q) (row_at new k)) (sym e) here
    row_of j less (inr e) = subst (λ l. IsSetFor n (λ q. (j ≡ q) ⊎ HasMove (take (i + 1) ms) j [] q) l) (sym (more.rest j e)) (direct_out n ms i d j (row_at old j) h (λ p. e (sym p.0)) (was.row j less))

pub direct_same : (n : ℕ) (ms : List Move) (i : ℕ) (d : Move) (rows : List (Vec ℕ Global)) → i < length ms → (actions_in (slice_index_or ms i d).act ≡ [] → ⊥) → AreDirect n (take i ms) rows → AreDirect n (take (i + 1) ms) rows
direct_same n ms i d rows h not was = record { size = was.size; row = λ j less. direct_out n ms i d j (row_at rows j) h (λ p. not p.1) (was.row j less) }

pub direct_whole : (n : ℕ) (ms : List Move) (i : ℕ) (rows : List (Vec ℕ Global)) → length ms ≤ i → AreDirect n (take i ms) rows → AreDirect n ms rows
direct_whole n ms i rows h was = subst (λ l. AreDirect n l rows) (take_all i ms h) was
