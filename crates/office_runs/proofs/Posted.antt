-- What is posted for a start, one process after another.
use Rattle.std.proofs.Common.{None, ◌≡◌, ℕ, zero, suc, ◌<◌, List, [], ◌∷◌, length, refl, sym, ap, ◌∙◌, subst, arith}
use Rattle.std.specs.Prelude.{slice_set}
use Rattle.std.proofs.Math.ListN.{length-set}
use Rattle.post_office.specs.declared.desk.Desk.{Desk}
use Rattle.post_office.specs.declared.post.Post.{Post}
use Rattle.post_office.specs.Views.{OfficeView, post_at}
use Rattle.post_office.specs.Answers.{posted}
use Rattle.post_office.specs.Kept.{CanPost}
use Rattle.office_runs.specs.Told.{HasPosted}

pub posted_none : (v : OfficeView) → HasPosted v v
posted_none v = record { same = refl; processes = refl }

pub posted_more : (v w : OfficeView) (p : ℕ) (post : Post) → HasPosted v w → HasPosted v (posted w p post)
posted_more v w p post h =
    let placed : OfficeView → OfficeView = λ u. record u { desks = slice_set w.desks p (record { post = post; joined = None }) } in
    record { same = ap placed h.same; processes = length-set w.desks p (record { post = post; joined = None }) ∙ h.processes }

-- what may be posted may be posted later too
pub may_still : (v w : OfficeView) (p : ℕ) (post : Post) → HasPosted v w → CanPost v p post → CanPost w p post
may_still v w p post h can = subst (λ (u : OfficeView). CanPost u p post) (sym h.same) can

pub posted_own : (ds : List Desk) (p : ℕ) (d : Desk) → p < length ds → post_at (slice_set ds p d) p ≡ d.post
posted_own [] p d h = absurd (omega (arith, h))
posted_own (x ∷ ds) zero d h = refl
posted_own (x ∷ ds) (suc p) d h = posted_own ds p d (omega (arith, h))
