-- What was written by one call after another.
use Rattle.std.proofs.Common.{◌≡◌, ◌≤◌, ℕ, List, ◌++◌, sym, ap, ◌∙◌, subst, Option, Some, None, inl, inr, arith, append_assoc}
use Rattle.chor_io.specs.Outside.{SinkState, Risen, Wrote, WroteFront}
use Rattle.chor_stream.specs.declared.finish.Finished.{Finished}
use Rattle.chor_stream.specs.declared.finish.Finished.TheVariants.{Written, Failed, Memory}
use Rattle.chor_stream.specs.Lines.{Finishes}

abbrev Told : Type 0
Told = Option (List ℕ)

wrote_then : (a b c : Told) (t u : List ℕ) → Wrote a b t → Wrote b c u → Wrote a c (t ++ u)
wrote_then None b c t u p q = tt
wrote_then (Some old) b c t u p q = subst (λ (x : Told). Wrote x c u) p q ∙ ap (λ (l : List ℕ). Some l) (append_assoc old t u)

front_then : (old : List ℕ) (c : Told) (t u : List ℕ) → WroteFront (Some (old ++ t)) c u → WroteFront (Some old) c (t ++ u)
front_then old None t u q = q
front_then old (Some new) t u q = (t ++ q.0, q.1, ap (λ (l : List ℕ). t ++ l) q.2 ∙ sym (append_assoc t q.0 q.1), q.3 ∙ append_assoc old t q.0)

wrote_then_front : (a b c : Told) (t u : List ℕ) → Wrote a b t → WroteFront b c u → WroteFront a c (t ++ u)
wrote_then_front None b c t u p q = tt
wrote_then_front (Some old) b c t u p q = front_then old c t u (subst (λ (x : Told). WroteFront x c u) p q)

front_of_more : (a b : Told) (t u : List ℕ) → WroteFront a b t → WroteFront a b (t ++ u)
front_of_more None b t u p = tt
front_of_more (Some old) None t u p = p
front_of_more (Some old) (Some new) t u p = (p.0, p.1 ++ u, ap (λ (l : List ℕ). l ++ u) p.2 ∙ append_assoc p.0 p.1 u, p.3)

risen_later : (a b c : ℕ) → a ≤ b → Risen b c → Risen a c
risen_later a b c le (inl more) = inl (omega arith)
risen_later a b c le (inr most) = inr most

-- a text was written, and then another so
pub finishes_then : (answer : Finished) (a b c : SinkState) (t u : List ℕ) → Wrote a.written b.written t → a.faults ≤ b.faults → Finishes answer b c u → Finishes answer a c (t ++ u)
finishes_then Written a b c t u p le q = wrote_then a.written b.written c.written t u p q
finishes_then Failed a b c t u p le q = (risen_later a.faults b.faults c.faults le q.0, wrote_then_front a.written b.written c.written t u p q.1)
finishes_then Memory a b c t u p le q = wrote_then_front a.written b.written c.written t u p q

-- where writing a text failed, or there was no memory, no longer text was written
pub failed_so : (a b : SinkState) (t u : List ℕ) → Finishes Failed a b t → Finishes Failed a b (t ++ u)
failed_so a b t u p = (p.0, front_of_more a.written b.written t u p.1)

pub memory_so : (a b : SinkState) (t u : List ℕ) → Finishes Memory a b t → Finishes Memory a b (t ++ u)
memory_so a b t u p = front_of_more a.written b.written t u p

-- of a text in two parts
module _ (a b : SinkState) (whole t u : List ℕ) (cut : whole ≡ t ++ u) where
  pub part_failed : Finishes Failed a b t → Finishes Failed a b whole
  part_failed p = subst (λ (text : List ℕ). Finishes Failed a b text) (sym cut) (failed_so a b t u p)

  pub part_memory : Finishes Memory a b t → Finishes Memory a b whole
  part_memory p = subst (λ (text : List ℕ). Finishes Memory a b text) (sym cut) (memory_so a b t u p)

  pub part_written : (answer : Finished) (c : SinkState) → Finishes Written a b t → a.faults ≤ b.faults → Finishes answer b c u → Finishes answer a c whole
  part_written answer c p le q = subst (λ (text : List ℕ). Finishes answer a c text) (sym cut) (finishes_then answer a b c t u p le q)
