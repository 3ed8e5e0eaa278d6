-- Numbers of processes.
use Rattle.std.proofs.Common.{◌≡◌, ℕ, zero, suc, ◌+◌, List, [], ◌∷◌, ◌++◌, length, sym, ap, ◌∙◌, subst, Some, arith, append_assoc, length-append}
use Rattle.std.specs.Prelude.{slice_get, map}
use Rattle.std.proofs.lemmas.List.{map_push, length-map, append-nil}
use Rattle.chor_base.specs.declared.names.NameId.{NameId}
use Rattle.endpoint_code.specs.Network.{served_parts}
use Rattle.endpoint_machine.specs.Views.{MachineView}
use Rattle.session_starts.specs.Machines.{AreCounted, number_of}

counts_push : (k : ℕ) (ms : List ℕ) (m : ℕ) → ((p n : ℕ) → slice_get ms p ≡ Some n → n ≡ k + p) → m ≡ k + length ms → (p n : ℕ) → slice_get (ms ++ m ∷ []) p ≡ Some n → n ≡ k + p
counts_push k [] m all h zero n e = let same : m ≡ n = cc in let i : m ≡ k + 0 = h in omega arith
counts_push k [] m all h (suc p) n e = absurd cc
counts_push k (x ∷ ms) m all h zero n e = all zero n e
counts_push k (x ∷ ms) m all h (suc p) n e =
    let i = counts_push (suc k) ms m (λ q j t. let u = all (suc q) j t in omega arith) (omega arith) p n e in omega arith

-- a process with the next number
pub counted_push : (ms : List MachineView) (m : MachineView) → AreCounted ms → m.number ≡ length ms → AreCounted (ms ++ m ∷ [])
counted_push ms m counted h = λ p n e.
    let i = counts_push 0 (map number_of ms) m.number (λ q j t. let u = counted q j t in omega arith) (let l = length-map ms number_of in omega arith) p n
    (sym (ap (λ (l : List ℕ). slice_get l p) (map_push number_of ms m)) ∙ e) in
    omega arith

-- processes with the next numbers
pub counted_more : (ms ns : List MachineView) (rs : List NameId) → AreCounted ms → map number_of ns ≡ map (λ q. q.1) (served_parts rs (length ms)) → AreCounted (ms ++ ns)
counted_more ms [] rs counted h = subst AreCounted (sym (append-nil ms)) counted
counted_more ms (n ∷ ns) [] counted h = absurd cc
counted_more ms (n ∷ ns) (r ∷ rs) counted h =
    let first : n.number ≡ length ms = cc in
    let rest : map number_of ns ≡ map (λ q. q.1) (served_parts rs (suc (length ms))) = cc in
    let long : suc (length ms) ≡ length (ms ++ n ∷ []) = (let l = length-append ms (n ∷ []) in omega arith) in
    subst AreCounted (append_assoc ms (n ∷ []) ns)
    (counted_more (ms ++ n ∷ []) ns rs (counted_push ms n counted first) (rest ∙ ap (λ (k : ℕ). map (λ q. q.1) (served_parts rs k)) long))

pub counted_same : (ms ns : List MachineView) → map number_of ns ≡ map number_of ms → AreCounted ms → AreCounted ns
counted_same ms ns h counted = λ p n e. counted p n (sym (ap (λ (l : List ℕ). slice_get l p) h) ∙ e)
