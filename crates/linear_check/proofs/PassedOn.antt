-- What a call takes away, place by place.
use Rattle.std.proofs.Common.{◌≡◌, ℕ, zero, suc, ◌+◌, ◌≤◌, ◌==◌, ◌&&◌, ◌||◌, Bool, true, false, nat_lt, List, [], ◌∷◌, length, refl, ap, sym, ◌∙◌, Some, arith}
use Rattle.std.specs.Prelude.{slice_get, if◌then◌else◌}
use Rattle.std.proofs.lemmas.Bool.Decides.{nat_tests}
use Rattle.chor_tree.specs.declared.file.Named.{Named}
use Rattle.linear_check.specs.declared.heard.Heard.{Heard}
use Rattle.linear_check.specs.Heard.{hears}
use Rattle.linear_check.specs.Takes.{is_heard}

module _ (h : Heard) (c : ℕ) where
  heard_at : (ps : List Named) (i : ℕ) (p : Named) → slice_get ps i ≡ Some p → is_heard h c ps i ≡ hears h c p.name.0
  heard_at [] i p e = absurd cc
  heard_at (q ∷ ps) zero p e = let s : q ≡ p = cc in ap (λ (r : Named). hears h c r.name.0) s
  heard_at (q ∷ ps) (suc i) p e = heard_at ps i p e

  heard_past : (ps : List Named) (i : ℕ) → length ps ≤ i → is_heard h c ps i ≡ true
  heard_past [] i l = refl
  heard_past (q ∷ ps) zero l = absurd (omega arith)
  heard_past (q ∷ ps) (suc i) l = heard_past ps i (omega arith)

  later : (i place : ℕ) → nat_lt i place ≡ true → nat_lt i (place + 1) ≡ true
  later i place e = grind (arith, nat_tests)

  apart : (i place : ℕ) → nat_lt i place ≡ true → (place == i) ≡ false
  apart i place e = grind (arith, nat_tests)

  here : (i place : ℕ) → (place == i) ≡ true → nat_lt i (place + 1) ≡ true
  here i place e = grind (arith, nat_tests)

  is_here : (i place : ℕ) → (place == i) ≡ true → place ≡ i
  is_here i place e = grind (arith, nat_tests)

  above : (i place : ℕ) → nat_lt i place ≡ false → (place == i) ≡ false → nat_lt i (place + 1) ≡ false
  above i place e f = grind (arith, nat_tests)

  not_below : (i place : ℕ) → nat_lt i place ≡ false → place ≤ i
  not_below i place e = grind (arith, nat_tests)

  module _ (ps : List Named) (place i : ℕ) (old : Bool) where
    turn_same : (p : Named) (cur new mark : Bool) → slice_get ps place ≡ Some p → mark ≡ hears h c p.name.0
        → cur ≡ (if nat_lt i place then old && is_heard h c ps i else old) → new ≡ (if place == i then cur && mark else cur)
        → new ≡ (if nat_lt i (place + 1) then old && is_heard h c ps i else old)
    turn_same p cur new mark at is_mark e f = go (nat_lt i place) refl (place == i) refl where
      go : (b : Bool) → nat_lt i place ≡ b → (d : Bool) → (place == i) ≡ d → new ≡ (if nat_lt i (place + 1) then old && is_heard h c ps i else old)
      go true lt d eq =
          let u = later i place lt in let v = apart i place lt in
          f ∙ ap (λ x. if x then cur && mark else cur) v ∙ e ∙ ap (λ x. if x then old && is_heard h c ps i else old) (lt ∙ sym u)
      go false lt true eq =
          let u = here i place eq in
          let known : mark ≡ is_heard h c ps i = is_mark ∙ sym (heard_at ps place p at) ∙ ap (is_heard h c ps) (is_here i place eq) in
          let is_cur : cur ≡ old = e ∙ ap (λ x. if x then old && is_heard h c ps i else old) lt in
          f ∙ ap (λ x. if x then cur && mark else cur) eq ∙ (λ k. is_cur k && known k) ∙ ap (λ x. if x then old && is_heard h c ps i else old) (sym u)
      go false lt false eq =
          let u = above i place lt eq in
          f ∙ ap (λ x. if x then cur && mark else cur) eq ∙ e ∙ ap (λ x. if x then old && is_heard h c ps i else old) (lt ∙ sym u)

    pub call_turn : (b : Bool) (p : Named) (cur new mark : Bool) → slice_get ps place ≡ Some p → mark ≡ hears h c p.name.0
        → cur ≡ (if b && nat_lt i place then old && is_heard h c ps i else old) → new ≡ (if b && (place == i) then cur && mark else cur)
        → new ≡ (if b && nat_lt i (place + 1) then old && is_heard h c ps i else old)
    call_turn true p cur new mark at is_mark e f = turn_same p cur new mark at is_mark e f
    call_turn false p cur new mark at is_mark e f = f ∙ e

    and_true : (a : Bool) → a ≡ (a && true)
    and_true true = refl
    and_true false = refl

    pub call_end : (b cur : Bool) → length ps ≤ place → cur ≡ (if b && nat_lt i place then old && is_heard h c ps i else old) → cur ≡ (if b then old && is_heard h c ps i else old)
    call_end false cur l e = e
    call_end true cur l e = go (nat_lt i place) refl where
      go : (b : Bool) → nat_lt i place ≡ b → cur ≡ (old && is_heard h c ps i)
      go true lt = e ∙ ap (λ x. if x then old && is_heard h c ps i else old) lt
      go false lt =
          let past : length ps ≤ i = (let k = not_below i place lt in omega arith) in
          e ∙ ap (λ x. if x then old && is_heard h c ps i else old) lt ∙ and_true old ∙ ap (λ x. old && x) (sym (heard_past ps i past))

pub neither : (a b : Bool) → (a || b) ≡ false → (a ≡ false) × (b ≡ false)
neither true b h = absurd cc
neither false b h = (refl, h)
