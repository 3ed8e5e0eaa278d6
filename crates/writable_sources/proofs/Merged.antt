-- The least code above some that can be written can be written.
use Rattle.std.proofs.Common.{ℕ, ◌≤◌, ◌<◌, ◌-◌, List, ◌∷◌, arith}
use Rattle.std.specs.List.{AllByRecursion}
use Rattle.chor_base.specs.declared.names.NameId.{NameId}
use Rattle.endpoint_code.specs.declared.endpoints.Endpoints.{Endpoints}
use Rattle.endpoint_code.specs.Labels.{HasDistinctLabels, ArmIsIn, here, there, IsReordered, does, offers, tests, calls, ends, AreReordered, no_arm, one_arm}
use Rattle.endpoint_code.specs.LeastAbove.{IsLeastAbove}
use Rattle.endpoint_code.specs.Trees.{CodeTree, Does, Offers, Tests, Calls, Ends, Arms, NoArms, Arm}
use Rattle.endpoint_laws.specs.Spelled.{IsCodeSpelled, AreArmsSpelled, IsNamed}
use Rattle.endpoint_laws.specs.Limits.{HasArm, Fits, EachFits}
use Rattle.merged_codes.specs.Merges.{IsMerge, both_do, both_offer, both_test, both_call, both_end, AreMergedArms, left_over, alone, in_both, IsMergeOf, no_other, one_other}
use Rattle.merged_codes.proofs.Least.{least_made}
use Rattle.writable_sources.specs.Written.{IsWritableCode}

module _ (e : Endpoints) where
  -- ---- room for more nodes

  mutual
    pub fits_more : (c : CodeTree) (n m : ℕ) → n ≤ m → Fits e n c → Fits e m c
    fits_more (Does a c) n m h f = let b : 0 < n = f.0 in (omega (arith, h, b), f.1, fits_more c (n - 1) (m - 1) (omega (arith, h)) f.2)
    fits_more (Offers k a arms) n m h f = let b : 0 < n = f.0 in (omega (arith, h, b), f.1, each_fits_more arms (n - 1) (m - 1) (omega (arith, h)) f.2)
    fits_more (Tests t c d) n m h f =
        let b : 0 < n = f.0 in (omega (arith, h, b), f.1, fits_more c (n - 1) (m - 1) (omega (arith, h)) f.2, fits_more d (n - 1) (m - 1) (omega (arith, h)) f.3)
    fits_more (Calls g p ss) n m h f = let b : 0 < n = f.0 in (omega (arith, h, b), f.1)
    fits_more Ends n m h f = omega (arith, h, f)

    each_fits_more : (arms : Arms) (n m : ℕ) → n ≤ m → EachFits e n arms → EachFits e m arms
    each_fits_more NoArms n m h f = tt
    each_fits_more (Arm l c rest) n m h f = (fits_more c n m h f.0, each_fits_more rest n m h f.1)

  -- ---- arms

  fits_in : {l : NameId} {c : CodeTree} {others arms : Arms} (n : ℕ) → ArmIsIn l c others arms → EachFits e n arms → Fits e n c × EachFits e n others
  fits_in n here f = f
  fits_in n (there i) f = let w = fits_in n i f.1 in (w.0, (f.0, w.1))

  spelled_in : {l : NameId} {c : CodeTree} {others arms : Arms} → ArmIsIn l c others arms → AreArmsSpelled e arms → IsNamed e l × IsCodeSpelled e c × AreArmsSpelled e others
  spelled_in here s = s
  spelled_in (there i) s = let w = spelled_in i s.2 in (w.0, w.1, (s.0, s.1, w.2))

  some_arm : {cs ds ms : Arms} → AreMergedArms cs ds ms → HasArm ds → HasArm ms
  some_arm left_over h = h
  some_arm (alone n r) h = tt
  some_arm (in_both i m r) h = tt

  arm_there : {qs ps : Arms} → AreReordered qs ps → HasArm ps → HasArm qs
  arm_there no_arm h = h
  arm_there (one_arm i r rs) h = tt

  -- ---- merging

  mutual
    merge_fits : {c d m : CodeTree} (n : ℕ) → IsMerge c d m → Fits e n c → Fits e n d → Fits e n m
    merge_fits n (both_do m) f g = (f.0, f.1, merge_fits (n - 1) m f.2 g.2)
    merge_fits n (both_offer m) f g = (f.0, some_arm m g.1, arms_fit (n - 1) m f.2 g.2)
    merge_fits n (both_test m k) f g = (f.0, f.1, merge_fits (n - 1) m f.2 g.2, merge_fits (n - 1) k f.3 g.3)
    merge_fits n both_call f g = f
    merge_fits n both_end f g = f

    arms_fit : {cs ds ms : Arms} (n : ℕ) → AreMergedArms cs ds ms → EachFits e n cs → EachFits e n ds → EachFits e n ms
    arms_fit n left_over f g = g
    arms_fit n (alone l r) f g = (f.0, arms_fit n r f.1 g)
    arms_fit n (in_both i m r) f g = let w = fits_in n i g in (merge_fits n m f.0 w.0, arms_fit n r f.1 w.1)

  mutual
    merge_spelled : {c d m : CodeTree} → IsMerge c d m → IsCodeSpelled e c → IsCodeSpelled e d → IsCodeSpelled e m
    merge_spelled (both_do m) s t = (s.0, merge_spelled m s.1 t.1)
    merge_spelled (both_offer m) s t = (s.0, s.1, arms_spelled m s.2 t.2)
    merge_spelled (both_test m k) s t = (s.0, merge_spelled m s.1 t.1, merge_spelled k s.2 t.2)
    merge_spelled both_call s t = s
    merge_spelled both_end s t = s

    arms_spelled : {cs ds ms : Arms} → AreMergedArms cs ds ms → AreArmsSpelled e cs → AreArmsSpelled e ds → AreArmsSpelled e ms
    arms_spelled left_over s t = t
    arms_spelled (alone l r) s t = (s.0, s.1, arms_spelled r s.2 t)
    arms_spelled (in_both i m r) s t = let w = spelled_in i t in (s.0, merge_spelled m s.1 w.1, arms_spelled r s.2 w.2)

  -- ---- the order of labels

  mutual
    order_fits : {q p : CodeTree} (n : ℕ) → IsReordered q p → Fits e n p → Fits e n q
    order_fits n (does r) f = (f.0, f.1, order_fits (n - 1) r f.2)
    order_fits n (offers r) f = (f.0, arm_there r f.1, order_each n r f.2)
    order_fits n (tests r s) f = (f.0, f.1, order_fits (n - 1) r f.2, order_fits (n - 1) s f.3)
    order_fits n calls f = f
    order_fits n ends f = f

    order_each : {qs ps : Arms} (n : ℕ) → AreReordered qs ps → EachFits e (n - 1) ps → EachFits e (n - 1) qs
    order_each n no_arm f = tt
    order_each n (one_arm i r rs) f = let w = fits_in (n - 1) i f in (order_fits (n - 1) r w.0, order_each n rs w.1)

  mutual
    order_spelled : {q p : CodeTree} → IsReordered q p → IsCodeSpelled e p → IsCodeSpelled e q
    order_spelled (does r) s = (s.0, order_spelled r s.1)
    order_spelled (offers r) s = (s.0, s.1, order_arms r s.2)
    order_spelled (tests r k) s = (s.0, order_spelled r s.1, order_spelled k s.2)
    order_spelled calls s = s
    order_spelled ends s = s

    order_arms : {qs ps : Arms} → AreReordered qs ps → AreArmsSpelled e ps → AreArmsSpelled e qs
    order_arms no_arm s = tt
    order_arms (one_arm i r rs) s = let w = spelled_in i s in (w.0, order_spelled r w.1, order_arms rs w.2)

  -- ---- the least above some

  merged_writable : (n : ℕ) (c : CodeTree) (cs : List CodeTree) (m : CodeTree) → IsMergeOf c cs m → IsWritableCode e n c → AllByRecursion (IsWritableCode e n) cs → IsWritableCode e n m
  merged_writable n c cs m no_other w ws = w
  merged_writable n c cs m (one_other {k = k} {cs = rest} b r) w ws =
      merged_writable n k rest m r (record { spelled = merge_spelled b w.spelled ws.0.spelled; fits = merge_fits n b w.fits ws.0.fits }) ws.1

  pub least_writable : (n : ℕ) (c : CodeTree) (cs : List CodeTree) (q : CodeTree) → AllByRecursion HasDistinctLabels (c ∷ cs) → AllByRecursion (IsWritableCode e n) (c ∷ cs) → IsLeastAbove (c ∷ cs) q → IsWritableCode e n q
  least_writable n c cs q d w l =
      let made = least_made c cs q d l in
      let whole = merged_writable n c cs made.code made.merge w.0 w.1 in
      record { spelled = order_spelled made.same whole.spelled; fits = order_fits n made.same whole.fits }
