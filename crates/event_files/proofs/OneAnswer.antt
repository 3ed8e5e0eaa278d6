-- A file has one answer at most.
use Rattle.std.proofs.Common.{◌≡◌, ◌<◌, ◌+◌, ◌^◌, ℕ, suc, Bool, true, false, List, [], ◌∷◌, ◌++◌, length, Result, Ok, Err, refl, sym, ap, ◌∙◌, subst, arith}
use Rattle.std.specs.Prelude.{◌↔◌, IsTrue}
use Rattle.std.specs.List.{AllByRecursion}
use Rattle.chor_base.specs.declared.event.Event.{Event}
use Rattle.transcript.specs.Text.{Words, event_text}
use Rattle.event_reader.specs.Known.{IsBook, HasEvent}
use Rattle.replay.specs.declared.answer.Replayed.{Replayed}
use Rattle.replay.specs.declared.answer.ReplayFault.{ReplayFault}
use Rattle.replay.specs.declared.answer.ReplayFault.TheVariants.{Unmatched, Memory}
use Rattle.transcript_lines.specs.declared.last.Last.TheVariants.{End, Limit}
use Rattle.transcript_lines.specs.Lines.{lines_of}
use Rattle.transcript_lines.specs.Split.{event_lines}
use Rattle.event_files.specs.Files.{Closes, at_end, at_limit, Matches, goes_on, closes, IsClosedBy, IsReplayed, IsUnmatched, ReplaysFile}
use Rattle.event_files.specs.Networks.{TellsMore}
use Rattle.event_files.proofs.EventLines.{few_events, not_last}
use Rattle.event_files.proofs.Compared.{Compared, same, longer, shorter, compared}

-- no event's text closes a run
pub not_closing : (w : Words) (IsEnded : List Event → Type 0) (h : List Event) (i : ℕ) (e : Event) → i < 2 ^ 64 → Closes IsEnded h (event_text w i e) → ⊥
not_closing w IsEnded h i e small (at_end q over) = not_last w i e (End (length h)) small (sym q)
not_closing w IsEnded h i e small (at_limit q) = not_last w i e (Limit (length h)) small (sym q)

not_closed : (w : Words) (IsEnded : List Event → Type 0) (h : List Event) (i : ℕ) (e : Event) (ls : List (List ℕ)) → i < 2 ^ 64 → IsClosedBy IsEnded h (event_text w i e ∷ ls) → ⊥
not_closed w IsEnded h i e [] small c = not_closing w IsEnded h i e small c
not_closed w IsEnded h i e (l ∷ ls) small c = c

head_of : (x y : List ℕ) (xs ys : List (List ℕ)) → x ∷ xs ≡ y ∷ ys → x ≡ y
head_of x y xs ys e = cc

same_truth : (P : Type 0) (a b : Bool) → IsTrue a ↔ P → IsTrue b ↔ P → a ≡ b
same_truth P true true p q = refl
same_truth P true false p q = absurd (let z : false ≡ true = q.1 (p.0 refl) in cc)
same_truth P false true p q = absurd (let z : false ≡ true = p.1 (q.0 refl) in cc)
same_truth P false false p q = refl

same_replay : (a b : Replayed) → a.count ≡ b.count → a.ended ≡ b.ended → a ≡ b
same_replay a b p q = λ i. record { count = p i; ended = q i }

-- a run that goes on is one with each of its events
abbrev pub GoesOnByRuns : (List Event → Type 0) → Type 0
GoesOnByRuns IsRun = (h : List Event) (e : Event) (rest : List Event) → IsRun (h ++ e ∷ rest) → IsRun (h ++ e ∷ [])

module _ (w : Words) (IsRun IsEnded : List Event → Type 0) (book : IsBook w) (on : GoesOnByRuns IsRun) (bytes : List ℕ) (few : length bytes < 2 ^ 64) where
  -- the number of the next line
  small : (h : List Event) (l : List ℕ) (ls t : List (List ℕ)) → lines_of bytes ≡ event_lines w 1 h ++ t → t ≡ l ∷ ls → length h + 1 < 2 ^ 64
  small h l ls t e q =
      let all = few_events w h bytes t e in
      let some : length t ≡ suc (length ls) = ap length q in
      omega (arith, all, some, few)

  compare : (h g : List Event) (t u : List (List ℕ)) → AllByRecursion (HasEvent w) h → AllByRecursion (HasEvent w) g → lines_of bytes ≡ event_lines w 1 h ++ t → lines_of bytes ≡ event_lines w 1 g ++ u → Compared w 1 h g t u
  compare h g t u has have e f =
      let all = few_events w h bytes t e in
      compared w 1 h g t u book has have (omega (arith, all, few)) (sym e ∙ f)

  -- an event's text doesn't close the run before it
  unclosed : (h : List Event) (t : List (List ℕ)) (e : Event) (ls : List (List ℕ)) → lines_of bytes ≡ event_lines w 1 h ++ t → t ≡ event_text w (length h + 1) e ∷ ls → IsClosedBy IsEnded h t → ⊥
  unclosed h t e ls lines q c = not_closed w IsEnded h (length h + 1) e ls (small h _ ls t lines q) (subst (IsClosedBy IsEnded h) q c)

  -- a run that goes on has a line that matches
  goes : (h g : List Event) (rest : List (List ℕ)) (line : List ℕ) (e : Event) (more : List Event) (ls : List (List ℕ)) → IsRun g → g ≡ h ++ e ∷ more → HasEvent w e → line ∷ rest ≡ event_text w (length h + 1) e ∷ ls → Matches w IsRun IsEnded h line rest
  goes h g rest line e more ls run q has r = goes_on e has (head_of line _ rest ls r) (on h e more (subst IsRun q run))

  pub one_replay : (r s : Replayed) → IsReplayed w IsRun IsEnded (lines_of bytes) r → IsReplayed w IsRun IsEnded (lines_of bytes) s → r ≡ s
  one_replay r s a b = go (compare a.history b.history a.closing b.closing a.known b.known a.lines_are b.lines_are)
    where
      go : Compared w 1 a.history b.history a.closing b.closing → r ≡ s
      go (same p q) =
          same_replay r s (a.count ∙ ap (λ (h : List Event). length h) p ∙ sym b.count)
          (same_truth (IsEnded b.history) r.ended s.ended (subst (λ (h : List Event). IsTrue r.ended ↔ IsEnded h) p a.ended) b.ended)
      go (longer e rest p has q) = absurd (unclosed a.history a.closing e _ a.lines_are q a.closed)
      go (shorter e rest p has q) = absurd (unclosed b.history b.closing e _ b.lines_are q b.closed)

  pub not_both : (r : Replayed) (i : ℕ) → IsReplayed w IsRun IsEnded (lines_of bytes) r → IsUnmatched w IsRun IsEnded (lines_of bytes) i → ⊥
  not_both r i a b = go (compare a.history b.history a.closing (b.line ∷ b.rest) a.known b.known a.lines_are b.lines_are)
    where
      closing : IsClosedBy IsEnded b.history (b.line ∷ b.rest) → ⊥
      closing c = last b.rest refl c
        where
          last : (ls : List (List ℕ)) → b.rest ≡ ls → IsClosedBy IsEnded b.history (b.line ∷ ls) → ⊥
          last [] none k = b.none (closes none k)
          last (l ∷ ls) none k = k

      go : Compared w 1 a.history b.history a.closing (b.line ∷ b.rest) → ⊥
      go (same p q) = closing (subst (λ (h : List Event). IsClosedBy IsEnded h (b.line ∷ b.rest)) p (subst (IsClosedBy IsEnded a.history) q a.closed))
      go (longer e rest p has q) = unclosed a.history a.closing e _ a.lines_are q a.closed
      go (shorter e rest p has q) = b.none (goes b.history a.history b.rest b.line e rest _ a.run p has q)

  pub one_line : (i j : ℕ) → IsUnmatched w IsRun IsEnded (lines_of bytes) i → IsUnmatched w IsRun IsEnded (lines_of bytes) j → i ≡ j
  one_line i j a b = go (compare a.history b.history (a.line ∷ a.rest) (b.line ∷ b.rest) a.known b.known a.lines_are b.lines_are)
    where
      go : Compared w 1 a.history b.history (a.line ∷ a.rest) (b.line ∷ b.rest) → i ≡ j
      go (same p q) = a.number ∙ ap (λ (h : List Event). length h + 1) p ∙ sym b.number
      go (longer e rest p has q) = absurd (a.none (goes a.history b.history a.rest a.line e rest _ b.run p has q))
      go (shorter e rest p has q) = absurd (b.none (goes b.history a.history b.rest b.line e rest _ a.run p has q))

  pub one_answer : (a b : Result Replayed ReplayFault) → ReplaysFile w IsRun IsEnded bytes a → ReplaysFile w IsRun IsEnded bytes b → TellsMore a → TellsMore b → a ≡ b
  one_answer (Ok r) (Ok s) x y m n = ap Ok (one_replay r s x y)
  one_answer (Ok r) (Err (Unmatched j)) x y m n = absurd (not_both r j x y)
  one_answer (Ok r) (Err Memory) x y m n = absurd n
  one_answer (Err (Unmatched i)) (Ok s) x y m n = absurd (not_both s i y x)
  one_answer (Err (Unmatched i)) (Err (Unmatched j)) x y m n = ap (λ (k : ℕ). Err (Unmatched k)) (one_line i j x y)
  one_answer (Err (Unmatched i)) (Err Memory) x y m n = absurd n
  one_answer (Err Memory) b x y m n = absurd m
