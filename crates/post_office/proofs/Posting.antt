-- An office in which something is posted.
use Rattle.std.proofs.Common.{◌≡◌, ℕ, zero, suc, ◌<◌, ◌==◌, ◌^◌, ◌⊎◌, inl, inr, Bool, true, false, List, [], ◌∷◌, length, refl, sym, ap, ◌∙◌, subst, None}
use Rattle.std.specs.Prelude.{slice_get, slice_set}
use Rattle.std.proofs.lemmas.List.{length-set}
use Rattle.std.proofs.lemmas.Bool.{eqb-true, eqb-false}
use Rattle.post_office.specs.declared.desk.Desk.{Desk}
use Rattle.post_office.specs.declared.post.Post.{Post}
use Rattle.post_office.specs.declared.post.Post.TheVariants.{Busy}
use Rattle.post_office.specs.Views.{OfficeView, post_at}
use Rattle.post_office.specs.Posts.{IsTrueIn}
use Rattle.post_office.specs.Kept.{IsKept, CanPost}
use Rattle.post_office.proofs.Acting.{busy_true, post_other}

own_post : (ds : List Desk) (p : ℕ) (d : Desk) → (post_at (slice_set ds p d) p ≡ d.post) ⊎ (post_at (slice_set ds p d) p ≡ Busy)
own_post [] p d = inr refl
own_post (x ∷ ds) zero d = inl refl
own_post (x ∷ ds) (suc p) d = own_post ds p d

module _ {v : OfficeView} (kept : IsKept v) (p : ℕ) (post : Post) (can : CanPost v p post) where
  pub posted_kept : (desks : List Desk) (room : ℕ) (stopped : Bool) → desks ≡ slice_set v.desks p (record { post = post; joined = None })
      → IsKept (record { endpoints = v.endpoints; hosts = v.hosts; capacity = v.capacity; history = v.history; queues = v.queues; sid = v.sid; desks = desks; room = room; stopped = stopped })
  posted_kept desks room stopped is =
      let long : length desks ≡ length v.desks = ap length is ∙ length-set v.desks p (record { post = post; joined = None }) in
      record {
        faultless = kept.faultless;
        state = kept.state;
        after = kept.after;
        queues = kept.queues;
        sid = kept.sid;
        processes = kept.processes ∙ sym long;
        few = subst (λ n. n < 2 ^ 32) (sym long) kept.few;
        posts = λ q. subst (λ (ds : List Desk). IsTrueIn v.endpoints kept.state q (post_at ds q)) (sym is) (posts q);
      }
    where
      desk : Desk
      desk = record { post = post; joined = None }

      posts : (q : ℕ) → IsTrueIn v.endpoints kept.state q (post_at (slice_set v.desks p desk) q)
      posts q = go (q == p) refl
        where
          own : IsTrueIn v.endpoints kept.state p (post_at (slice_set v.desks p desk) p)
          own = elim (own_post v.desks p desk) [
            | inl e ↦ subst (λ (w : Post). IsTrueIn v.endpoints kept.state p w) (sym e) (can kept.state kept.after)
            | inr e ↦ subst (λ (w : Post). IsTrueIn v.endpoints kept.state p w) (sym e) (busy_true v.endpoints kept.state (slice_get kept.state.machines p))
          ]

          go : (b : Bool) → (q == p) ≡ b → IsTrueIn v.endpoints kept.state q (post_at (slice_set v.desks p desk) q)
          go true h = subst (λ i. IsTrueIn v.endpoints kept.state i (post_at (slice_set v.desks p desk) i)) (sym (eqb-true q p h)) own
          go false h = subst (λ (w : Post). IsTrueIn v.endpoints kept.state q w) (sym (post_other v.desks p q desk (eqb-false q p h))) (kept.posts q)
