-- Counts go on with one more part, and with one more event.
use Rattle.std.proofs.Common.{◌≡◌, ◌≤◌, ◌<◌, ◌+◌, ◌∙◌, ℕ, suc, List, [], ◌∷◌, ◌++◌, length, take, get_or, refl, sym, ap, arith}
use Rattle.std.proofs.lemmas.List.{take_more, map-append}
use Rattle.std.specs.Prelude.{max}
use Rattle.chor_base.specs.declared.names.NameId.{NameId}
use Rattle.chor_base.specs.declared.event.Event.{Event}
use Rattle.chor_base.specs.declared.event.Entry.{Entry}
use Rattle.chor_base.specs.declared.event.Event.TheVariants.{Start, Send, Recv, Test, Set, Show, Host}
use Rattle.generated_runs.specs.Counts.{events_of, grown, sessions_in, processes_after}

pub grown_more : (n : ℕ) (ps : List (NameId × ℕ)) (p : NameId × ℕ) → grown n (ps ++ p ∷ []) ≡ max (grown n ps) (suc p.1)
grown_more n [] p = refl
grown_more n (q ∷ qs) p = grown_more (max n (suc q.1)) qs p

pub processes_more : (n : ℕ) (xs : List Event) (x : Event) → processes_after n (xs ++ x ∷ []) ≡ processes_after (processes_after n xs) (x ∷ [])
processes_more n [] x = refl
processes_more n (Start c s parts ∷ xs) x = processes_more (grown n parts) xs x
processes_more n (Send p s a b l ∷ xs) x = processes_more n xs x
processes_more n (Recv p s a b l ∷ xs) x = processes_more n xs x
processes_more n (Test p b ∷ xs) x = processes_more n xs x
processes_more n (Set p v e ∷ xs) x = processes_more n xs x
processes_more n (Show p v ∷ xs) x = processes_more n xs x
processes_more n (Host p v f a b r ∷ xs) x = processes_more n xs x

pub sessions_more : (xs : List Event) (x : Event) → sessions_in (xs ++ x ∷ []) ≡ sessions_in xs + sessions_in (x ∷ [])
sessions_more [] x = let zero : sessions_in (x ∷ []) ≡ 0 + sessions_in (x ∷ []) = omega arith in zero
sessions_more (Start c s parts ∷ xs) x = let more = sessions_more xs x in omega (arith, more)
sessions_more (Send p s a b l ∷ xs) x = sessions_more xs x
sessions_more (Recv p s a b l ∷ xs) x = sessions_more xs x
sessions_more (Test p b ∷ xs) x = sessions_more xs x
sessions_more (Set p v e ∷ xs) x = sessions_more xs x
sessions_more (Show p v ∷ xs) x = sessions_more xs x
sessions_more (Host p v f a b r ∷ xs) x = sessions_more xs x

-- one event opens one session at most
pub one_session : (x : Event) → sessions_in (x ∷ []) ≤ 1
one_session (Start c s parts) = omega arith
one_session (Send p s a b l) = omega arith
one_session (Recv p s a b l) = omega arith
one_session (Test p b) = omega arith
one_session (Set p v e) = omega arith
one_session (Show p v) = omega arith
one_session (Host p v f a b r) = omega arith

module _ (es : List Entry) (i : ℕ) (x : Entry) (lt : i < length es) (is : x ≡ get_or es i x) where
  longer : events_of (take (i + 1) es) ≡ events_of (take i es) ++ x.event ∷ []
  longer = ap events_of (take_more es i x lt ∙ ap (λ y. take i es ++ y ∷ []) (sym is)) ∙ map-append (λ e. e.event) (take i es) (x ∷ [])

  pub processes_so : (n k : ℕ) → k ≡ processes_after n (events_of (take i es)) → processes_after k (x.event ∷ []) ≡ processes_after n (events_of (take (i + 1) es))
  processes_so n k e = ap (λ m. processes_after m (x.event ∷ [])) e ∙ sym (processes_more n (events_of (take i es)) x.event) ∙ ap (processes_after n) (sym longer)

  pub sessions_so : (k : ℕ) → k ≡ sessions_in (events_of (take i es)) → k + sessions_in (x.event ∷ []) ≡ sessions_in (events_of (take (i + 1) es))
  sessions_so k e = ap (λ m. m + sessions_in (x.event ∷ [])) e ∙ sym (sessions_more (events_of (take i es)) x.event) ∙ ap sessions_in (sym longer)

pub grown_so : (ps : List (NameId × ℕ)) (i : ℕ) (d : NameId × ℕ) → i < length ps → (n k : ℕ) → k ≡ grown n (take i ps) → max k (let x = get_or ps i d in x.1 + 1) ≡ grown n (take (i + 1) ps)
grown_so ps i d lt n k e =
    let x = get_or ps i d in
    let on : x.1 + 1 ≡ suc x.1 = omega arith in
    (λ j. max (e j) (on j)) ∙ sym (grown_more n (take i ps) x) ∙ ap (grown n) (sym (take_more ps i d lt))
