-- Labels of choices.
use Rattle.std.proofs.Common.{ℕ, ◌≡◌, ◌+◌, ◌<◌, ◌≤◌, List, Bool, true, false, refl, ap, sym, subst, ◌∙◌, arith, inl, inr, length, take}
use Rattle.std.specs.Prelude.{◌⊎◌, slice_index_or, nat_eq, not}
use Rattle.std.proofs.lemmas.List.{take_all}
use Rattle.std.proofs.lemmas.Bool.Decides.{nat_tests}
use Rattle.chor_base.specs.declared.names.NameId.{NameId}
use Rattle.chor_tree.specs.declared.protocol.ProtoArm.{ProtoArm}
use Rattle.global_types.specs.Moves.{IsIn}
use Rattle.global_types.specs.Views.{labels_of}
use Rattle.state_sets.proofs.Lists.{in_more, in_map, in_map_back, in_of_at}
use Rattle.std.proofs.lemmas.Option.{slice_get-get_or}

abbrev label_of : ProtoArm → NameId
label_of arm = arm.label.name

same_name : (a b : NameId) (t : Bool) → t ≡ nat_eq a.0 b.0 → t ≡ true → a ≡ b
same_name a b t is e = let f : a.0 ≡ b.0 = grind (arith, nat_tests) in ap (λ n. record { 0 = n }) f

other_name : (a b : NameId) (t : Bool) → t ≡ nat_eq a.0 b.0 → t ≡ false → a ≡ b → ⊥
other_name a b t is e f = let g : a.0 ≡ b.0 = ap (λ (n : NameId). n.0) f in grind (arith, nat_tests)

pub label_found : (arms : List ProtoArm) (i : ℕ) (d : ProtoArm) (l : NameId) (t : Bool) → i < length arms → t ≡ nat_eq (slice_index_or arms i d).label.name.0 l.0 → t ≡ true → IsIn l (labels_of arms)
label_found arms i d l t h is e =
    subst (λ n. IsIn n (labels_of arms)) (same_name (slice_index_or arms i d).label.name l t is e) (in_map label_of (slice_index_or arms i d) arms (in_of_at (slice_index_or arms i d) arms i (slice_get-get_or arms i d h)))

pub label_not : (arms : List ProtoArm) (i : ℕ) (d : ProtoArm) (l : NameId) (t : Bool) → i < length arms → t ≡ nat_eq (slice_index_or arms i d).label.name.0 l.0 → t ≡ false
    → (IsIn l (labels_of (take i arms)) → ⊥) → IsIn l (labels_of (take (i + 1) arms)) → ⊥
label_not arms i d l t h is e none m =
    let p = in_map_back label_of l (take (i + 1) arms) m in
    go p.0 p.2 (in_more p.0 arms i d h p.1)
  where
    go : (arm : ProtoArm) → label_of arm ≡ l → IsIn arm (take i arms) ⊎ (slice_index_or arms i d ≡ arm) → ⊥
    go arm f (inl o) = none (subst (λ n. IsIn n (labels_of (take i arms))) f (in_map label_of arm (take i arms) o))
    go arm f (inr s) = other_name (slice_index_or arms i d).label.name l t is e (ap label_of s ∙ f)

pub labels_whole : (arms : List ProtoArm) (i : ℕ) (l : NameId) → length arms ≤ i → IsIn l (labels_of arms) → IsIn l (labels_of (take i arms))
labels_whole arms i l h m = subst (λ a. IsIn l (labels_of a)) (sym (take_all i arms h)) m

pub labels_more : (arms others : List ProtoArm) (i : ℕ) (d : ProtoArm) → i < length arms → IsIn (slice_index_or arms i d).label.name (labels_of others)
    → ((n : NameId) → IsIn n (labels_of (take i arms)) → IsIn n (labels_of others)) → (n : NameId) → IsIn n (labels_of (take (i + 1) arms)) → IsIn n (labels_of others)
labels_more arms others i d h here was n m =
    let p = in_map_back label_of n (take (i + 1) arms) m in
    go p.0 p.2 (in_more p.0 arms i d h p.1)
  where
    go : (arm : ProtoArm) → label_of arm ≡ n → IsIn arm (take i arms) ⊎ (slice_index_or arms i d ≡ arm) → IsIn n (labels_of others)
    go arm f (inl o) = was n (subst (λ v. IsIn v (labels_of (take i arms))) f (in_map label_of arm (take i arms) o))
    go arm f (inr s) = subst (λ v. IsIn v (labels_of others)) (ap label_of s ∙ f) here

pub label_at : (arms : List ProtoArm) (i : ℕ) (d : ProtoArm) → i < length arms → IsIn (slice_index_or arms i d).label.name (labels_of arms)
label_at arms i d h = in_map label_of (slice_index_or arms i d) arms (in_of_at (slice_index_or arms i d) arms i (slice_get-get_or arms i d h))

pub not_both : (b : Bool) → b ≡ true → b ≡ false → ⊥
not_both b e f = absurd (let g : true ≡ false = sym e ∙ f in cc)

pub same_unless : (a b : NameId) → false ≡ not (nat_eq a.0 b.0) → a ≡ b
same_unless a b e = go (nat_eq a.0 b.0) refl e where
  go : (t : Bool) → nat_eq a.0 b.0 ≡ t → false ≡ not t → a ≡ b
  go true is f = same_name a b true (sym is) refl
  go false is f = absurd (cc)
