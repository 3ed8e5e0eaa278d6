-- Tests, sets, shows and host calls, after which the same is kept.
use Rattle.std.proofs.Common.{◌≡◌, ℕ, Bool, ℤ, List, [], ◌∷◌, ◌++◌, Option, refl, sym, ap, ◌∙◌, subst, inl, inr}
use Rattle.std.specs.Prelude.{◌⊎◌}
use Rattle.std.proofs.lemmas.List.{append-nil}
use Rattle.chor_base.specs.declared.names.NameId.{NameId}
use Rattle.chor_base.specs.declared.value.Value.{Value}
use Rattle.chor_base.specs.declared.event.Event.{Event}
use Rattle.chor_base.specs.declared.event.Event.TheVariants.{Test, Set, Show, Host}
use Rattle.chor_base.specs.Events.{Triple, sent_by, received_by, sent_on, received_on}
use Rattle.chor_tree.specs.declared.file.File.{File}
use Rattle.chor_semantics.specs.Choreography.{Ref, Live}
use Rattle.post_office.specs.Views.{loads_at}
use Rattle.typed_sources.specs.Changes.{event_acts}
use Rattle.typed_sources.specs.History.{Account}
use Rattle.conform.specs.declared.progress.Progress.{Progress}
use Rattle.conform.specs.ByRole.{account_of, MayFollow}
use Rattle.conform.specs.Progress.{IsAfter}
use Rattle.conform.proofs.After.{IsInside, adds_acts, conform_more, count_more, stands_too}
use Rattle.conform.proofs.Told.{sent_more, received_more}

-- the event adds nothing in any session, and may follow any events
record IsQuiet (f : File) (pr : Ref → Option NameId) (x : Event) : Type 0 where
  pub inside : IsInside x
  pub acts : (t : Ref) (r : NameId) → event_acts pr x t r ≡ []
  pub sent : (t : Triple) → sent_by t x ≡ []
  pub received : (t : Triple) → received_by t x ≡ []
  pub may : (h : List Event) → MayFollow f h x

-- the event is a test, a set, a show or a host call
abbrev pub IsAlone : Event → Type 0
IsAlone x =
    ((p : ℕ) × (b : Bool) × (x ≡ Test p b)) ⊎ (((p : ℕ) × (y : NameId) × (v : Value) × (x ≡ Set p y v))
    ⊎ (((p : ℕ) × (v : Value) × (x ≡ Show p v)) ⊎ ((p : ℕ) × (y : NameId) × (g : NameId) × (l : ℤ) × (r : ℤ) × (v : ℤ) × (x ≡ Host p y g l r v))))

is_quiet : (f : File) (pr : Ref → Option NameId) (x : Event) → IsAlone x → IsQuiet f pr x
is_quiet f pr x (inl (p, b, e)) = subst (IsQuiet f pr) (sym e) (record { inside = tt; acts = λ t r. refl; sent = λ t. refl; received = λ t. refl; may = λ h. tt })
is_quiet f pr x (inr (inl (p, y, v, e))) = subst (IsQuiet f pr) (sym e) (record { inside = tt; acts = λ t r. refl; sent = λ t. refl; received = λ t. refl; may = λ h. tt })
is_quiet f pr x (inr (inr (inl (p, v, e)))) = subst (IsQuiet f pr) (sym e) (record { inside = tt; acts = λ t r. refl; sent = λ t. refl; received = λ t. refl; may = λ h. tt })
is_quiet f pr x (inr (inr (inr (p, y, g, l, r, v, e)))) = subst (IsQuiet f pr) (sym e) (record { inside = tt; acts = λ t r. refl; sent = λ t. refl; received = λ t. refl; may = λ h. tt })

pub alone_follows : (f : File) (h : List Event) (p : Progress) → IsAfter f h p → (x : Event) → IsAlone x → MayFollow f h x × IsAfter f (h ++ x ∷ []) p
alone_follows f h p a x alone = (q.may h, kept)
  where
    q : IsQuiet f (account_of f h).protocol x
    q = is_quiet f (account_of f h).protocol x alone

    same : (t : Ref) (r : NameId) → (account_of f (h ++ x ∷ [])).done t r ≡ (account_of f h).done t r
    same t r = ap (λ (z : Account). z.done t r) (adds_acts f h x q.inside) ∙ ap (λ l. (account_of f h).done t r ++ l) (q.acts t r) ∙ append-nil ((account_of f h).done t r)

    kept : IsAfter f (h ++ x ∷ []) p
    kept = record {
      conforms = conform_more f h x a.conforms (q.may h);
      types = a.types;
      count = a.count ∙ sym (count_more h x q.inside);
      protocols = λ s. ap (λ (z : Account). z.protocol s) (adds_acts f h x q.inside) ∙ a.protocols s;
      unstarted = λ n past r. same (Live n) r ∙ a.unstarted n past r;
      sessions = λ n k at. stands_too f p.types ((account_of f h).done (Live n)) ((account_of f (h ++ x ∷ [])).done (Live n)) k (same (Live n)) (a.sessions n k at);
      loads = λ t.
          sent_more t h x ∙ ap (λ z. sent_on t h ++ z) (q.sent t) ∙ append-nil (sent_on t h) ∙ a.loads t
          ∙ ap (λ z. z ++ loads_at p.queues t) (sym (received_more t h x ∙ ap (λ z. received_on t h ++ z) (q.received t) ∙ append-nil (received_on t h)));
    }
