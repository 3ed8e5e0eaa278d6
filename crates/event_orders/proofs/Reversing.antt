-- Events that aren't ordered come in the other order in some rearrangement.
use Rattle.std.proofs.Common.{◌≡◌, ◌≢◌, ℕ, zero, suc, ◌<◌, ◌≤◌, ◌+◌, Bool, true, List, [], ◌∷◌, ◌++◌, length, refl, sym, ap, ◌∙◌, subst, Option, arith, append_assoc, inl, inr, ◌⊎◌, ◌↔◌}
use Rattle.std.proofs.lemmas.Bool.{cases_lt, cases_eq}
use Rattle.chor_base.specs.declared.event.Event.{Event}
use Rattle.chor_base.specs.Meaning.{Hosts}
use Rattle.endpoint_code.specs.declared.endpoints.Endpoints.{Endpoints}
use Rattle.endpoint_code.specs.Network.{NetworkState, first_state}
use Rattle.endpoint_code.specs.NetworkRuns.{NetworkLeads, IsNetworkRun}
use Rattle.event_orders.specs.Holders.{KeepsRolesExclusive}
use Rattle.event_orders.specs.Orders.{IsPermutationBelow, IsBefore, permuted}
use Rattle.event_orders.specs.HappensBefore.{IsDirectlyBefore, program_order, HappensBefore, directly, through, IsLinearExtension, IsRearrangement}
use Rattle.event_orders.specs.CausalPast.{IsCausalPast, IsRunByItself, BeginsExtension}
use Rattle.event_orders.proofs.Listed.{IsListed, IsAscending, listed_contains, contains_listed, increasing_ascends}
use Rattle.event_orders.proofs.Numbers.{listed_occurs, occurs_listed, occurs, occurs-append, occurs_self, occurs_other, member_occurs, member_at, order_once, order_has, before_from, before_in}
use Rattle.event_orders.proofs.Counting.{permuted-append, leads_cut}
use Rattle.event_orders.proofs.Extending.{IsClosed, PermutedRun, less, whole_permuted_run}
use Rattle.event_orders.proofs.Completing.{AreDistinctBelow, chosen, chosen_distinct, chosen_passes, chosen_has, chosen_before, Completed, complete}
use Rattle.event_orders.proofs.Rearranging.{completed_closed, closed_extends, shared_all}
use Rattle.event_orders.proofs.Deciding.{Decided, either, decision, decision_holds, decision_of, happens}

-- a list of numbers below n in which none comes twice
once_distinct : (n : ℕ) (d : List ℕ) → ((i : ℕ) → occurs i d ≤ 1) → ((i : ℕ) → 0 < occurs i d → i < n) → AreDistinctBelow n d
once_distinct zero [] once within = refl
once_distinct zero (x ∷ d) once within = absurd (let c = within x (let s = occurs_self x d in omega arith) in omega arith)
once_distinct (suc n) d once within = go (cases_lt 0 (occurs n d)) (λ d' o w. once_distinct n d' o w)
  where
    go : (0 < occurs n d) ⊎ (occurs n d ≤ 0) → ((d' : List ℕ) → ((i : ℕ) → occurs i d' ≤ 1) → ((i : ℕ) → 0 < occurs i d' → i < n) → AreDistinctBelow n d') → AreDistinctBelow (suc n) d
    go (inr le) more = inl (more d once (λ i lt. at i lt (cases_eq i n)))
      where
        at : (i : ℕ) → 0 < occurs i d → (i ≡ n) ⊎ (i ≡ n → ⊥) → i < n
        at i lt (inl same) = absurd (let c : occurs i d ≡ occurs n d = ap (λ z. occurs z d) same in omega arith)
        at i lt (inr other) = let differ : i ≢ n = other in let c = within i lt in omega arith
    go (inl some) more = inr (p.0, p.1, p.2, more (p.0 ++ p.1) fewer (λ i lt. at i lt (cases_eq i n)))
      where
        p : (a : List ℕ) × (b : List ℕ) × (d ≡ a ++ n ∷ b)
        p = member_at n d some

        whole : (i : ℕ) → occurs i d ≡ occurs i p.0 + occurs i (n ∷ p.1)
        whole i = ap (occurs i) p.2 ∙ occurs-append i p.0 (n ∷ p.1)

        fewer : (i : ℕ) → occurs i (p.0 ++ p.1) ≤ 1
        fewer i = let a = whole i in let b = occurs-append i p.0 p.1 in let c = once i in omega arith

        at : (i : ℕ) → 0 < occurs i (p.0 ++ p.1) → (i ≡ n) ⊎ (i ≡ n → ⊥) → i < n
        at i lt (inl same) =
            let a = whole n in
            let b = occurs-append n p.0 p.1 in
            let c = once n in
            let s = occurs_self n p.1 in
            let g : occurs i (p.0 ++ p.1) ≡ occurs n (p.0 ++ p.1) = ap (λ z. occurs z (p.0 ++ p.1)) same in
            absurd (omega arith)
        at i lt (inr other) =
            let differ : i ≢ n = other in
            let a = whole i in
            let b = occurs-append i p.0 p.1 in
            let c = occurs_other i n p.1 other in
            let f = within i (omega arith) in
            omega arith

module _ (e : Endpoints) (hosts : Hosts) (cap : Option ℕ) (h : List Event) (exclusive : KeepsRolesExclusive e hosts cap) (last : NetworkState) (run : IsNetworkRun e hosts cap h last) where
  abbrev runs_less : (i j : ℕ) → IsDirectlyBefore h cap i j → i < j
  runs_less = less e hosts cap h last run

  decided : (i j : ℕ) → Decided ((i ≡ j) ⊎ HappensBefore h cap i j)
  decided i j = either (cases_eq i j) (happens h cap runs_less i j)

  abbrev leads_to : ℕ → ℕ → Bool
  leads_to j i = decision (decided i j)

  -- a closed permutation is a rearrangement
  pub closed_rearranges : (o : List ℕ) → IsPermutationBelow (length h) o → IsClosed h cap o → IsRearrangement e hosts cap h o
  closed_rearranges o order closed =
      let by : PermutedRun e hosts cap h exclusive last run last o = whole_permuted_run e hosts cap h exclusive last run o order closed in
      record { whole = order; kept = λ p i j lt a b. closed_extends e hosts cap h exclusive last run o order closed i j (directly (program_order p lt a b)); last = by.state; run = by.leads }

  module _ (j : ℕ) (lt : j < length h) where
    lead : List ℕ
    lead = chosen (leads_to j) (length h)

    lead_closed : IsClosed h cap lead
    unfolding lead
    lead_closed a k b is i before =
        let passes : leads_to j k ≡ true = chosen_passes (leads_to j) (length h) k (subst (λ (z : List ℕ). 0 < occurs k z) (sym is) (member_occurs k a b)) in
        let up : (k ≡ j) ⊎ HappensBefore h cap k j = decision_holds (decided k j) passes in
        chosen_before (leads_to j) (length h) a k b is i (runs_less i k before) (decision_of (decided i j) (inr (go up)))
      where
        go : (k ≡ j) ⊎ HappensBefore h cap k j → HappensBefore h cap i j
        go (inl same) = directly (subst (IsDirectlyBefore h cap i) same before)
        go (inr more) = through k (directly before) more

    c : Completed (length h) lead
    unfolding lead
    c = complete (length h) lead (chosen_distinct (leads_to j) (length h))

    z_closed : IsClosed h cap (lead ++ c.rest)
    z_closed = completed_closed e hosts cap h exclusive last run (length h) lead lead_closed c

    j_in : (a : List ℕ) × (b : List ℕ) × (lead ≡ a ++ j ∷ b)
    unfolding lead
    j_in = member_at j lead (chosen_has (leads_to j) (length h) j lt (decision_of (decided j j) (inl refl)))

    -- what comes before j there is in its causal past
    before_leads : (i : ℕ) → IsBefore (lead ++ c.rest) i j → (0 < occurs i j_in.0) × (leads_to j i ≡ true)
    unfolding lead
    before_leads i before =
        let is : lead ++ c.rest ≡ j_in.0 ++ j ∷ (j_in.1 ++ c.rest) = ap (λ z. z ++ c.rest) j_in.2 ∙ append_assoc j_in.0 (j ∷ j_in.1) c.rest in
        let f : 0 < occurs i j_in.0 = before_in (length h) (lead ++ c.rest) c.order j_in.0 (j_in.1 ++ c.rest) i j is before in
        let g : occurs i lead ≡ occurs i j_in.0 + occurs i (j ∷ j_in.1) = ap (occurs i) j_in.2 ∙ occurs-append i j_in.0 (j ∷ j_in.1) in
        (f, chosen_passes (leads_to j) (length h) i (omega arith))

    pub shared_only : (i : ℕ) → ((o : List ℕ) → IsRearrangement e hosts cap h o → IsBefore o i j) → HappensBefore h cap i j
    shared_only i all = go (decision_holds (decided i j) b.1)
      where
        b : (0 < occurs i j_in.0) × (leads_to j i ≡ true)
        b = before_leads i (all (lead ++ c.rest) (closed_rearranges (lead ++ c.rest) c.order z_closed))

        go : (i ≡ j) ⊎ HappensBefore h cap i j → HappensBefore h cap i j
        go (inl same) =
            let f : 0 < occurs i j_in.0 = b.0 in
            let g : occurs i j_in.0 ≡ occurs j j_in.0 = ap (λ z. occurs z j_in.0) same in
            let k : occurs j lead ≡ occurs j j_in.0 + occurs j (j ∷ j_in.1) = ap (occurs j) j_in.2 ∙ occurs-append j j_in.0 (j ∷ j_in.1) in
            let l = occurs-append j lead c.rest in
            let m = order_once (length h) (lead ++ c.rest) c.order j in
            let s = occurs_self j j_in.1 in
            absurd (omega arith)
        go (inr more) = more

    -- what isn't in the causal past of j comes after it there
    pub behind : (i : ℕ) → i < length h → ((i ≡ j) ⊎ HappensBefore h cap i j → ⊥) → (order : List ℕ) × IsLinearExtension h cap order × IsBefore order j i
    unfolding lead
    behind i within apart = (lead ++ c.rest, record { whole = c.order; extends = closed_extends e hosts cap h exclusive last run (lead ++ c.rest) c.order z_closed }, before_from (lead ++ c.rest) (lead ++ at.0) at.1 j i split in_front)
      where
        not_in : occurs i lead ≡ 0
        not_in = none (cases_lt 0 (occurs i lead))
          where
            none : (0 < occurs i lead) ⊎ (occurs i lead ≤ 0) → occurs i lead ≡ 0
            none (inl lt') = absurd (apart (decision_holds (decided i j) (chosen_passes (leads_to j) (length h) i lt')))
            none (inr le) = omega arith

        at : (a : List ℕ) × (b : List ℕ) × (c.rest ≡ a ++ i ∷ b)
        at = member_at i c.rest (let f = order_has (length h) (lead ++ c.rest) c.order i within in let g = occurs-append i lead c.rest in let k = not_in in omega arith)

        split : lead ++ c.rest ≡ (lead ++ at.0) ++ i ∷ at.1
        split = ap (λ z. lead ++ z) at.2 ∙ sym (append_assoc lead at.0 (i ∷ at.1))

        in_front : 0 < occurs j (lead ++ at.0)
        in_front =
            let f : 0 < occurs j lead = subst (λ (z : List ℕ). 0 < occurs j z) (sym j_in.2) (member_occurs j j_in.0 j_in.1) in
            let g = occurs-append j lead at.0 in
            omega arith

  pub shared : (i j : ℕ) → j < length h → HappensBefore h cap i j ↔ ((o : List ℕ) → IsRearrangement e hosts cap h o → IsBefore o i j)
  shared i j lt = (λ before o re. shared_all e hosts cap h exclusive last run i j before o re, shared_only j lt i)

  -- ---- causal pasts are runs

  ascending_once : (xs : List ℕ) → IsAscending xs → (i : ℕ) → occurs i xs ≤ 1
  ascending_once [] asc i = omega arith
  ascending_once (x ∷ xs) asc i = go (cases_eq i x) (ascending_once xs asc.1 i)
    where
      go : (i ≡ x) ⊎ (i ≡ x → ⊥) → occurs i xs ≤ 1 → occurs i (x ∷ xs) ≤ 1
      go (inl same) more =
          let none : occurs i xs ≤ 0 = at (cases_lt 0 (occurs i xs)) in
          let s : occurs i (x ∷ xs) ≡ suc (occurs i xs) = ap (λ z. occurs i (z ∷ xs)) (sym same) ∙ occurs_self i xs in
          omega arith
        where
          at : (0 < occurs i xs) ⊎ (occurs i xs ≤ 0) → occurs i xs ≤ 0
          at (inl lt) = absurd (let f = asc.0 i (occurs_listed i xs lt) in omega arith)
          at (inr le) = le
      go (inr other) more = let c = occurs_other i x xs other in omega arith

  ascending_behind : (xs a b : List ℕ) (j : ℕ) → IsAscending xs → xs ≡ a ++ j ∷ b → (i : ℕ) → 0 < occurs i b → j < i
  ascending_behind [] a b j asc is i lt = absurd (let c = member_occurs j a b in let d : 0 ≡ occurs j (a ++ j ∷ b) = ap (occurs j) is in omega arith)
  ascending_behind (x ∷ xs) [] b j asc is i lt =
      let first : x ≡ j = cc in
      let rest : xs ≡ b = cc in
      let f = asc.0 i (occurs_listed i xs (subst (λ (z : List ℕ). 0 < occurs i z) (sym rest) lt)) in
      omega arith
  ascending_behind (x ∷ xs) (y ∷ a) b j asc is i lt = let rest : xs ≡ a ++ j ∷ b = cc in ascending_behind xs a b j asc.1 rest i lt

  length_of : (i j : ℕ) → HappensBefore h cap i j → i < j
  length_of i j (directly p) = runs_less i j p
  length_of i j (through k a b) = let f = length_of i k a in let g = length_of k j b in omega arith

  -- the causal past of j and then the others, in ascending order, are a linear extension; and the past is a run by itself
  past_first : (j : ℕ) → j < length h → (d : List ℕ) → IsCausalPast h cap j d → BeginsExtension h cap d × IsRunByItself e hosts cap h d
  past_first j lt d is = (
    (whole.rest, record { whole = whole.order; extends = closed_extends e hosts cap h exclusive last run (d ++ whole.rest) whole.order closed_whole }),
    (cut_z.0, cut_z.1),
  )
    where
      ascends : IsAscending d
      ascends = increasing_ascends d is.ascends

      in_lead : (i : ℕ) → IsListed i d → (i ≡ j) ⊎ HappensBefore h cap i j
      in_lead i l = (is.holds i).0 (listed_contains i d l)

      lead_in : (i : ℕ) → (i ≡ j) ⊎ HappensBefore h cap i j → IsListed i d
      lead_in i b = contains_listed i d ((is.holds i).1 b)

      up : (i : ℕ) → (i ≡ j) ⊎ HappensBefore h cap i j → i < length h
      up i (inl same) = omega arith
      up i (inr before) = let f = length_of i j before in omega arith

      closed : IsClosed h cap d
      closed a k b cut i before = go (cases_lt 0 (occurs i a))
        where
          leads : (k ≡ j) ⊎ HappensBefore h cap k j → HappensBefore h cap i j
          leads (inl same) = directly (subst (IsDirectlyBefore h cap i) same before)
          leads (inr more) = through k (directly before) more

          k_in : IsListed k d
          k_in = occurs_listed k d (subst (λ (z : List ℕ). 0 < occurs k z) (sym cut) (member_occurs k a b))

          i_in : 0 < occurs i d
          i_in = listed_occurs i d (lead_in i (inr (leads (in_lead k k_in))))

          go : (0 < occurs i a) ⊎ (occurs i a ≤ 0) → 0 < occurs i a
          go (inl l) = l
          go (inr le) =
              let f = i_in in
              let less_k : i < k = runs_less i k before in
              let g : occurs i d ≡ occurs i a + occurs i (k ∷ b) = ap (occurs i) cut ∙ occurs-append i a (k ∷ b) in
              let o : occurs i (k ∷ b) ≡ occurs i b = occurs_other i k b (λ same. omega arith) in
              let w = ascending_behind d a b k ascends cut i (omega arith) in
              absurd (omega arith)

      part : AreDistinctBelow (length h) d
      part = once_distinct (length h) d (ascending_once d ascends) (λ i l. up i (in_lead i (occurs_listed i d l)))

      whole : Completed (length h) d
      whole = complete (length h) d part

      closed_whole : IsClosed h cap (d ++ whole.rest)
      closed_whole = completed_closed e hosts cap h exclusive last run (length h) d closed whole

      by : PermutedRun e hosts cap h exclusive last run last (d ++ whole.rest)
      by = whole_permuted_run e hosts cap h exclusive last run (d ++ whole.rest) whole.order closed_whole

      cut_z : (mid : NetworkState) × IsNetworkRun e hosts cap (permuted h d) mid × NetworkLeads e hosts cap mid (permuted h whole.rest) by.state
      cut_z = leads_cut e hosts cap (permuted h d) (permuted h whole.rest) (first_state e) by.state (subst (λ (z : List Event). NetworkLeads e hosts cap (first_state e) z by.state) (permuted-append h d whole.rest) by.leads)

  pub lead_runs : (j : ℕ) → j < length h → (d : List ℕ) → IsCausalPast h cap j d → IsRunByItself e hosts cap h d
  lead_runs j lt d is = (past_first j lt d is).1

  pub lead_begins : (j : ℕ) → j < length h → (d : List ℕ) → IsCausalPast h cap j d → BeginsExtension h cap d
  lead_begins j lt d is = (past_first j lt d is).0
