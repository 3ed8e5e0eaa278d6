-- Events that are the same are written alike.
use Rattle.std.proofs.Common.{◌≡◌, ℕ, zero, suc, List, [], ◌∷◌, ◌++◌, map, refl, sym, ap, ◌∙◌}
use Rattle.std.specs.Prelude.{slice_get, slice_index_or, codes}
use Rattle.std.specs.List.{AllZip}
use Rattle.std.specs.Fmt.{decimal}
use Rattle.std.proofs.lemmas.Option.{get_or_from_slice_get}
use Rattle.chor_base.specs.declared.names.NameId.{NameId}
use Rattle.chor_base.specs.declared.value.Value.{Value}
use Rattle.chor_base.specs.declared.value.Load.{Load}
use Rattle.chor_base.specs.declared.event.Event.{Event}
use Rattle.chor_base.specs.declared.event.Why.{Why}
use Rattle.chor_base.specs.Writing.{literal, truth_text}
use Rattle.endpoint_code.specs.declared.endpoints.Endpoints.{Endpoints}
use Rattle.endpoint_code.specs.declared.endpoints.Process.{Process}
use Rattle.endpoint_code.specs.Scheduled.{Close}
use Rattle.program_runs.specs.Transcripts.{book_of, closing_text, is_stuck}
use Rattle.same_programs.specs.Words.{IsSameWord, SameName, SameText}
use Rattle.same_programs.specs.Codes.{SameValue, number, truth, text, part}
use Rattle.same_programs.specs.Programs.{SamePrograms, SameProcess}
use Rattle.same_programs.specs.States.{SameLoad, carries, picks, SamePart, start, send, recv, test, set, show, host, SameWhy, empty, wrong, full, absent, SameClose, ended, limit, stuck}
use Rattle.same_programs.specs.Laws.{Agrees}
use Rattle.transcript.specs.Text.{Words, name_text, process_named, process_text, value_text, load_text, parts_text, sending, receiving, message_text, numbers_text, said, lines_from, transcript}
use Rattle.transcript.specs.Closing.{lane_text, why_text}

word_alike : (ws vs : List (List ℕ)) (i j : ℕ) → IsSameWord ws vs i j → slice_index_or ws i [] ≡ slice_index_or vs j []
word_alike ws vs i j h = get_or_from_slice_get ws i h.word [] h.here ∙ sym (get_or_from_slice_get vs j h.word [] h.there)

module _ (e e' : Endpoints) (s : SamePrograms e e') where
  abbrev w : Words
  w = book_of e

  abbrev v : Words
  v = book_of e'

  name : {x y : NameId} → SameName e e' x y → name_text (book_of e) x ≡ name_text (book_of e') y
  name {x = x} {y = y} h = word_alike e.names e'.names x.0 y.0 h

  -- ---- processes

  process_at : (ps qs : List Process) → AllZip (SameProcess e e') ps qs → (k p : ℕ)
      → process_named (book_of e) k (slice_get (map (λ p. p.name) ps) p) ≡ process_named (book_of e') k (slice_get (map (λ p. p.name) qs) p)
  process_at [] [] h k p = refl
  process_at [] (q ∷ qs) h k p = absurd h
  process_at (r ∷ ps) [] h k p = absurd h
  process_at (r ∷ ps) (q ∷ qs) h k zero = name h.0.name
  process_at (r ∷ ps) (q ∷ qs) h k (suc p) = process_at ps qs h.1 k p

  process : (p : ℕ) → process_text (book_of e) p ≡ process_text (book_of e') p
  process p = process_at e.processes e'.processes s.processes p p

  -- ---- values and loads

  value : {x y : Value} → SameValue (SameName e e') (SameText e e') x y → value_text (book_of e) x ≡ value_text (book_of e') y
  value number = refl
  value truth = refl
  value (text h) = ap literal (h.here ∙ sym h.there)
  value (part {s = k} h) = let n = name h in λ i. 35 ∷ decimal k ++ 46 ∷ [] ++ n i

  load : {x y : Load} → SameLoad (SameName e e') (SameText e e') x y → load_text (book_of e) x ≡ load_text (book_of e') y
  load (carries h) = value h
  load (picks h) = name h

  sent : {x y : Load} → SameLoad (SameName e e') (SameText e e') x y → sending x ≡ sending y
  sent (carries number) = refl
  sent (carries truth) = refl
  sent (carries (text h)) = refl
  sent (carries (part h)) = refl
  sent (picks h) = refl

  received : {x y : Load} → SameLoad (SameName e e') (SameText e e') x y → receiving x ≡ receiving y
  received (carries number) = refl
  received (carries truth) = refl
  received (carries (text h)) = refl
  received (carries (part h)) = refl
  received (picks h) = refl

  parts : (ps qs : List (NameId × ℕ)) → AllZip (SamePart (SameName e e')) ps qs → parts_text (book_of e) ps ≡ parts_text (book_of e') qs
  parts [] [] h = refl
  parts [] (q ∷ qs) h = absurd h
  parts (p ∷ ps) [] h = absurd h
  parts (p ∷ ps) (q ∷ qs) h =
      let role = name h.0.0 in
      let by = process p.1 ∙ ap (process_text (book_of e')) h.0.1 in
      let rest = parts ps qs h.1 in
      λ i. (32 ∷ role i ++ 61 ∷ [] ++ by i) ++ rest i

  message : (p k : ℕ) {a b c d : NameId} {x y : Load} → SameName e e' a c → SameName e e' b d → SameLoad (SameName e e') (SameText e e') x y
      → message_text (book_of e) p k a b x ≡ message_text (book_of e') p k c d y
  message p k g h l =
      let by = process p in
      let from = name g in
      let to = name h in
      let what = load l in
      λ i. by i ++ codes " #" ++ decimal k ++ codes " " ++ from i ++ codes ">" ++ to i ++ codes " " ++ what i

  -- ---- events

  event : {x y : Event} → Agrees e e' x y → said (book_of e) x ≡ said (book_of e') y
  event (start {s = k} {ps = ps} {qs = qs} c h) =
      let channel = name c in
      let who = parts ps qs h in
      λ i. codes " start " ++ channel i ++ codes " #" ++ decimal k ++ who i
  event (send {p = p} {s = k} a b l) = let kind = sent l in let rest = message p k a b l in λ i. kind i ++ rest i
  event (recv {p = p} {s = k} a b l) = let kind = received l in let rest = message p k a b l in λ i. kind i ++ rest i
  event (test {p = p} {b = b}) = let by = process p in λ i. codes " test " ++ by i ++ codes " " ++ truth_text b
  event (set {p = p} x u) =
      let by = process p in
      let variable = name x in
      let what = value u in
      λ i. codes " set " ++ by i ++ codes " " ++ variable i ++ codes " " ++ what i
  event (show {p = p} u) = let by = process p in let what = value u in λ i. codes " show " ++ by i ++ codes " " ++ what i
  event (host {p = p} {a = a} {b = b} {v = u} x f) =
      let by = process p in
      let variable = name x in
      let function = name f in
      λ i. codes " host " ++ by i ++ codes " " ++ variable i ++ codes " " ++ function i ++ numbers_text a b u

  lines : (n : ℕ) (h k : List Event) → AllZip (Agrees e e') h k → lines_from (book_of e) n h ≡ lines_from (book_of e') n k
  lines n [] [] a = refl
  lines n [] (y ∷ k) a = absurd a
  lines n (x ∷ h) [] a = absurd a
  lines n (x ∷ h) (y ∷ k) a = let one = event a.0 in let rest = lines (suc n) h k a.1 in λ i. ((decimal n ++ one i) ++ 10 ∷ []) ++ rest i

  -- ---- the last line

  lane : (k : ℕ) {a b c d : NameId} → SameName e e' a c → SameName e e' b d → lane_text (book_of e) k a b ≡ lane_text (book_of e') k c d
  lane k g h = let from = name g in let to = name h in λ i. codes " #" ++ decimal k ++ codes " " ++ from i ++ codes ">" ++ to i

  cause : {x y : Why} → SameWhy (SameName e e') x y → why_text (book_of e) x ≡ why_text (book_of e') y
  cause (empty {s = k} g h) = ap (λ t. codes "empty" ++ t) (lane k g h)
  cause (wrong {s = k} g h) = ap (λ t. codes "wrong" ++ t) (lane k g h)
  cause (full {s = k} g h) = ap (λ t. codes "full" ++ t) (lane k g h)
  cause (absent g h) = let channel = name g in let role = name h in λ i. codes "absent " ++ channel i ++ codes " " ++ role i

  closing : (n : ℕ) {x y : Close} → SameClose (SameName e e') x y → closing_text (book_of e) n x ≡ closing_text (book_of e') n y
  closing n ended = refl
  closing n limit = refl
  closing n (stuck {p = p} h) = let by = process p in let why = cause h in λ i. codes "stuck " ++ decimal n ++ codes " " ++ by i ++ codes " " ++ why i

  pub close_kept : {x y : Close} → SameClose (SameName e e') x y → is_stuck x ≡ is_stuck y
  close_kept ended = refl
  close_kept limit = refl
  close_kept (stuck h) = refl

  pub written_alike : (h k : List Event) (n : ℕ) (x y : Close) → AllZip (Agrees e e') h k → SameClose (SameName e e') x y
      → transcript (book_of e) h (closing_text (book_of e) n x) ≡ transcript (book_of e') k (closing_text (book_of e') n y)
  written_alike h k n x y a c = let front = lines 1 h k a in let last = closing n c in λ i. front i ++ last i ++ 10 ∷ []
