-- No event's text has a line feed.
use Rattle.std.proofs.Common.{◌≡◌, ◌<◌, ◌+◌, ◌^◌, ◌==◌, ℕ, not, suc, Bool, true, false, List, [], ◌∷◌, ◌++◌, length, refl, sym, ap, ◌∙◌, subst, arith, append_assoc}
use Rattle.std.specs.List.{AllByRecursion}
use Rattle.std.specs.Fmt.{decimal, signed_decimal}
use Rattle.std.proofs.lemmas.Bool.Decides.{Decides-eqb}
use Rattle.chor_base.specs.Writing.{truth_text, escaped, escaped_byte, literal_in}
use Rattle.chor_base.specs.declared.names.NameId.{NameId}
use Rattle.chor_base.specs.declared.value.Value.{Value}
use Rattle.chor_base.specs.declared.value.Value.TheVariants.{Int, Bool as Truth, Text, Part as Endpoint}
use Rattle.chor_base.specs.declared.value.Load.{Load}
use Rattle.chor_base.specs.declared.value.Load.TheVariants.{Value as Carries, Label as Picks}
use Rattle.chor_base.specs.declared.event.Event.{Event}
use Rattle.chor_base.specs.declared.event.Event.TheVariants.{Start, Send, Recv, Test, Set, Show, Host}
use Rattle.transcript.specs.Text.{Words, name_text, process_text, value_text, load_text, parts_text, event_text, lines_from, transcript}
use Rattle.event_reader.specs.Fields.{IsFree}
use Rattle.event_reader.specs.Known.{AreWords, HasPart, HasValue, HasLoad, HasHead, HasEvent}
use Rattle.event_reader.specs.Bodies.{kind_of, kind_text, session_text, part_text, head_then, body}
use Rattle.event_reader.specs.declared.kind.Kind.{Kind}
use Rattle.event_reader.specs.declared.kind.Kind.TheVariants as kind
use Rattle.event_reader.specs.declared.kind.Content.TheVariants as content
use Rattle.event_reader.proofs.Frees.{free_append, decimal_free, signed_free, session_free, name_free, process_free}
use Rattle.event_reader.proofs.Quoted.{Spells, quote, backslash, feed, itself, spells, is_quoted}
use Rattle.event_reader.proofs.ValueTexts.{endpoint_same}
use Rattle.event_reader.proofs.PartTexts.{parts_text-cons}
use Rattle.event_reader.proofs.EventBodies.{event_parts}
use Rattle.transcript_lines.specs.Lines.{lines_of}
use Rattle.transcript_lines.specs.Split.{event_lines}
use Rattle.transcript_lines.proofs.LineCuts.{ended}

joined : (b : ℕ) (xs ys : List ℕ) → not (b == 10) ≡ true → IsFree 10 xs → IsFree 10 ys → IsFree 10 (xs ++ b ∷ ys)
joined b xs ys free f g = free_append 10 xs (b ∷ ys) f (free, g)

other_byte : (b : ℕ) → (b ≡ 10 → ⊥) → not (b == 10) ≡ true
other_byte b differs = go (b == 10) refl
  where
    go : (v : Bool) → (b == 10) ≡ v → not (b == 10) ≡ true
    go true e = absurd (differs ((Decides-eqb b 10).0 e))
    go false e = ap not e

byte_free : (b : ℕ) (v : List ℕ) → Spells b v → IsFree 10 v
byte_free b v (quote p) = (refl, (refl, tt))
byte_free b v (backslash p) = (refl, (refl, tt))
byte_free b v (feed p) = (refl, (refl, tt))
byte_free b v (itself x y z) = (other_byte b z, tt)

escaped_free : (t : List ℕ) → IsFree 10 (escaped t)
escaped_free [] = tt
escaped_free (b ∷ t) = free_append 10 (escaped_byte b) (escaped t) (byte_free b (escaped_byte b) (spells b)) (escaped_free t)

value_free : (w : Words) (v : Value) → AreWords w.names → HasValue w v → IsFree 10 (value_text w v)
value_free w (Int z) words h = signed_free 10 z refl refl h
value_free w (Truth true) words h = (refl, (refl, (refl, (refl, tt))))
value_free w (Truth false) words h = (refl, (refl, (refl, (refl, (refl, tt)))))
value_free w (Text t) words h =
    let q = is_quoted w.texts (literal_in w.texts t) t h refl in
    subst (IsFree 10) (sym q.is) (refl, joined 34 (escaped q.bytes) [] refl (escaped_free q.bytes) tt)
value_free w (Endpoint s r) words h = subst (IsFree 10) (sym (endpoint_same w s r)) (joined 46 (session_text s) (name_text w r) refl (session_free 10 s refl refl h.0) (name_free w 10 r words refl h.1))

load_free : (w : Words) (l : Load) → AreWords w.names → HasLoad w l → IsFree 10 (load_text w l)
load_free w (Carries v) words h = value_free w v words h
load_free w (Picks x) words h = name_free w 10 x words refl h

parts_free : (w : Words) (qs : List (NameId × ℕ)) → AreWords w.names → AllByRecursion (HasPart w) qs → IsFree 10 (parts_text w qs)
parts_free w [] words h = tt
parts_free w (q ∷ qs) words h =
    subst (IsFree 10) (sym (parts_text-cons w q qs))
    (refl, free_append 10 (part_text w q) (parts_text w qs) (joined 61 (name_text w q.0) (process_text w q.1) refl (name_free w 10 q.0 words refl h.0.0) (process_free w 10 q.1 words refl refl refl h.0.1)) (parts_free w qs words h.1))

head_free : (w : Words) (p s : ℕ) (a b : NameId) (rest : List ℕ) → AreWords w.names → HasHead w p s a b → IsFree 10 rest → IsFree 10 (head_then w p s a b rest)
head_free w p s a b rest words h free =
    joined 32 (process_text w p) _ refl (process_free w 10 p words refl refl refl h.0)
    (joined 32 (session_text s) _ refl (session_free 10 s refl refl h.1)
    (joined 62 (name_text w a) _ refl (name_free w 10 a words refl h.2)
    (joined 32 (name_text w b) rest refl (name_free w 10 b words refl h.3) free)))

body_free : (w : Words) (e : Event) → AreWords w.names → HasEvent w e → IsFree 10 (body w e)
body_free w (Start c s ps) words h =
    joined 32 (name_text w c) _ refl (name_free w 10 c words refl h.0) (free_append 10 (session_text s) (parts_text w ps) (session_free 10 s refl refl h.1) (parts_free w ps words h.2))
body_free w (Send p s a b l) words h = head_free w p s a b (load_text w l) words h.0 (load_free w l words h.1)
body_free w (Recv p s a b l) words h = head_free w p s a b (load_text w l) words h.0 (load_free w l words h.1)
body_free w (Test p b) words h = joined 32 (process_text w p) (truth_text b) refl (process_free w 10 p words refl refl refl h) (value_free w (Truth b) words tt)
body_free w (Set p x v) words h =
    joined 32 (process_text w p) _ refl (process_free w 10 p words refl refl refl h.0) (joined 32 (name_text w x) (value_text w v) refl (name_free w 10 x words refl h.1) (value_free w v words h.2))
body_free w (Show p v) words h = joined 32 (process_text w p) (value_text w v) refl (process_free w 10 p words refl refl refl h.0) (value_free w v words h.1)
body_free w (Host p x f a b v) words h =
    joined 32 (process_text w p) _ refl (process_free w 10 p words refl refl refl h.0)
    (joined 32 (name_text w x) _ refl (name_free w 10 x words refl h.1)
    (joined 32 (name_text w f) _ refl (name_free w 10 f words refl h.2)
    (joined 32 (signed_decimal a) _ refl (signed_free 10 a refl refl h.3) (joined 32 (signed_decimal b) (signed_decimal v) refl (signed_free 10 b refl refl h.4) (signed_free 10 v refl refl h.5)))))

kind_free : (k : Kind) → IsFree 10 (kind_text k)
kind_free kind.Start = (refl, (refl, (refl, (refl, (refl, tt)))))
kind_free (kind.Send content.Value) = (refl, (refl, (refl, (refl, tt))))
kind_free (kind.Send content.Label) = (refl, (refl, (refl, (refl, tt))))
kind_free (kind.Send content.Endpoint) = (refl, (refl, (refl, (refl, tt))))
kind_free (kind.Recv content.Value) = (refl, (refl, (refl, (refl, tt))))
kind_free (kind.Recv content.Label) = (refl, (refl, (refl, (refl, (refl, (refl, tt))))))
kind_free (kind.Recv content.Endpoint) = (refl, (refl, (refl, (refl, tt))))
kind_free kind.Test = (refl, (refl, (refl, (refl, tt))))
kind_free kind.Set = (refl, (refl, (refl, tt)))
kind_free kind.Show = (refl, (refl, (refl, (refl, tt))))
kind_free kind.Host = (refl, (refl, (refl, (refl, tt))))

event_free : (w : Words) (i : ℕ) (e : Event) → AreWords w.names → i < 2 ^ 64 → HasEvent w e → IsFree 10 (event_text w i e)
event_free w i e words small h =
    subst (IsFree 10) (sym (event_parts w i e))
    (joined 32 (decimal i) _ refl (decimal_free 10 i refl small) (joined 32 (kind_text (kind_of e)) (body w e) refl (kind_free (kind_of e)) (body_free w e words h)))

splits_from : (w : Words) (i : ℕ) (h : List Event) (rest : List ℕ) → AreWords w.names → AllByRecursion (HasEvent w) h → length h + i < 2 ^ 64 → lines_of (lines_from w i h ++ rest) ≡ event_lines w i h ++ lines_of rest
splits_from w i [] rest words has fits = refl
splits_from w i (e ∷ es) rest words has fits =
    let parts : lines_from w i (e ∷ es) ++ rest ≡ event_text w i e ++ 10 ∷ (lines_from w (suc i) es ++ rest) =
    append_assoc (event_text w i e ++ 10 ∷ []) (lines_from w (suc i) es) rest ∙ append_assoc (event_text w i e) (10 ∷ []) (lines_from w (suc i) es ++ rest) in
    ap lines_of parts
    ∙ ended (event_text w i e) (lines_from w (suc i) es ++ rest) (event_free w i e words (omega arith) has.0)
    ∙ ap (λ (l : List (List ℕ)). event_text w i e ∷ l) (splits_from w (suc i) es rest words has.1 (omega arith))

pub transcript_splits : (w : Words) (h : List Event) (last : List ℕ) → AreWords w.names → AllByRecursion (HasEvent w) h → length h + 1 < 2 ^ 64 → IsFree 10 last → lines_of (transcript w h last) ≡ event_lines w 1 h ++ last ∷ []
transcript_splits w h last words has fits free =
    ap lines_of (append_assoc (lines_from w 1 h) last (10 ∷ []))
    ∙ splits_from w 1 h (last ++ 10 ∷ []) words has fits
    ∙ ap (λ (l : List (List ℕ)). event_lines w 1 h ++ l) (ended last [] free)
