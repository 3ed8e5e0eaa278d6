-- Whom an event takes out of the lists.
use Rattle.std.proofs.Common.{◌≡◌, ℕ, Bool, true, false, List, [], refl, sym, ap, ◌∙◌, subst, Option, Some, None}
use Rattle.std.specs.Prelude.{if◌then◌else◌}
use Rattle.std.specs.Map.{lookup}
use Rattle.endpoint_machine.specs.declared.head.Head.{Head}
use Rattle.waiting_processes.specs.declared.waits.Awaited.{Awaited}
use Rattle.waiting_processes.specs.declared.lists.WaitingLists.{WaitingLists}
use Rattle.waiting_processes.specs.Waits.{touched_by}
use Rattle.waiting_processes.specs.Lists.{waiting_for, same_awaited, list_of}
use Rattle.waiting_processes.specs.Taken.{IsIn, TakesWaiting}
use Rattle.waiting_processes.proofs.Entries.{is_same, same_itself}

pub in_none : (q : ℕ) → IsIn [] q → ⊥
in_none q (k, h) = cc

-- the list of what the head touches is taken out
pub taken_list : (h : Head) (old new : WaitingLists) (ps : List ℕ) (t : Awaited) → touched_by h ≡ Some t → ps ≡ waiting_for old t
    → ((w : Awaited) → waiting_for new w ≡ (if same_awaited t w then [] else waiting_for old w)) → TakesWaiting h old ps new
taken_list h old new ps t is list rest = record {
  waiting = λ w i. list ∙ ap (waiting_for old) (same w i);
  gone = λ w i. subst (λ (v : Awaited). waiting_for new v ≡ []) (same w i) empty;
  none = λ i. let z : Some t ≡ None = sym is ∙ i in absurd cc;
  others = others;
}
  where
    same : (w : Awaited) → touched_by h ≡ Some w → t ≡ w
    same w i = let z : Some t ≡ Some w = sym is ∙ i in cc

    empty : waiting_for new t ≡ []
    empty = rest t ∙ ap (λ (b : Bool). if b then [] else waiting_for old t) (same_itself t)

    others : (w : Awaited) → (touched_by h ≡ Some w → ⊥) → waiting_for new w ≡ waiting_for old w
    others w apart = rest w ∙ go (same_awaited t w) refl
      where
        go : (b : Bool) → same_awaited t w ≡ b → (if b then [] else waiting_for old w) ≡ waiting_for old w
        go true j = absurd (apart (is ∙ ap (λ (v : Awaited). Some v) (is_same t w j)))
        go false j = refl

-- lists that differ in memory alone
pub same_waiting : (old new : WaitingLists) → new.lists ≡ old.lists → (w : Awaited) → waiting_for new w ≡ waiting_for old w
same_waiting old new same w = ap (λ m. list_of (lookup (same_awaited w) m.entries)) same

-- the head touches nothing
pub taken_none : (h : Head) (old new : WaitingLists) (ps : List ℕ) → touched_by h ≡ None → ps ≡ [] → new.lists ≡ old.lists → TakesWaiting h old ps new
taken_none h old new ps is none same = record {
  waiting = λ w i. let z : None ≡ Some w = sym is ∙ i in absurd cc;
  gone = λ w i. let z : None ≡ Some w = sym is ∙ i in absurd cc;
  none = λ i. none;
  others = λ w apart. same_waiting old new same w;
}

-- nobody has come to a list
pub fewer_wait : (h : Head) (old : WaitingLists) (ps : List ℕ) (new : WaitingLists) → TakesWaiting h old ps new
    → (w : Awaited) (q : ℕ) → IsIn (waiting_for new w) q → IsIn (waiting_for old w) q
fewer_wait h old ps new t w q i = go (touched_by h) refl
  where
    here : (a : Awaited) (b : Bool) → touched_by h ≡ Some a → same_awaited a w ≡ b → IsIn (waiting_for old w) q
    here a true is same = absurd (in_none q (subst (λ (l : List ℕ). IsIn l q) (t.gone w (is ∙ ap (λ (v : Awaited). Some v) (is_same a w same))) i))
    here a false is other = subst (λ (l : List ℕ). IsIn l q) (t.others w (λ j. apart a is other (sym is ∙ j))) i
      where
        apart : (a : Awaited) → touched_by h ≡ Some a → same_awaited a w ≡ false → Some a ≡ Some w → ⊥
        apart a is other j = let k : a ≡ w = cc in let z : true ≡ false = sym (same_itself w) ∙ subst (λ (v : Awaited). same_awaited v w ≡ false) k other in cc

    go : (o : Option Awaited) → touched_by h ≡ o → IsIn (waiting_for old w) q
    go None is = subst (λ (l : List ℕ). IsIn l q) (t.others w (λ j. let z : None ≡ Some w = sym is ∙ j in cc)) i
    go (Some a) is = here a (same_awaited a w) is refl
