-- Lines are cut in one way.
use Rattle.std.proofs.Common.{◌≡◌, ◌<◌, ◌^◌, ℕ, List, [], ◌∷◌, ◌++◌, Result, Ok, Err, refl, sym, ap, ◌∙◌, append_assoc, codes}
use Rattle.std.specs.Prelude.{bytes_eq, if◌then◌else◌}
use Rattle.std.specs.Fmt.{decimal, signed_decimal}
use Rattle.std.specs.List.{AllByRecursion}
use Rattle.chor_base.specs.declared.names.NameId.{NameId}
use Rattle.chor_base.specs.declared.value.Value.TheVariants.{Int, Bool as Truth, Text, Part as Endpoint}
use Rattle.chor_base.specs.declared.value.Load.{Load}
use Rattle.chor_base.specs.declared.value.Load.TheVariants.{Value as Carries, Label as Picks}
use Rattle.chor_base.specs.declared.event.Event.{Event}
use Rattle.chor_base.specs.declared.event.Event.TheVariants.{Start, Send, Recv, Test, Set, Show, Host}
use Rattle.transcript.specs.Text.{Words, name_text, process_text, load_text, parts_text, message_text, sending, receiving, said, event_text}
use Rattle.event_reader.specs.declared.fault.LineFault.{LineFault}
use Rattle.event_reader.specs.declared.fault.LineFault.TheVariants.{BadLine, Memory}
use Rattle.event_reader.specs.declared.kind.Content.{Content}
use Rattle.event_reader.specs.declared.kind.Content.TheVariants as content
use Rattle.event_reader.specs.declared.kind.Kind.{Kind}
use Rattle.event_reader.specs.declared.kind.Kind.TheVariants as kind
use Rattle.event_reader.specs.declared.bodies.Message.{Message}
use Rattle.event_reader.specs.Fields.{IsFree, BeginsWith}
use Rattle.event_reader.specs.Known.{IsSmall, HasName, HasPart, HasEvent}
use Rattle.event_reader.specs.Bodies.{content_of, kind_of, kind_text, session_text, head_then, body}
use Rattle.event_reader.specs.Fronts.{HasMessage}
use Rattle.event_reader.specs.Fronts as fronts
use Rattle.event_reader.specs.Readings.{IsAnswer}
use Rattle.event_reader.proofs.Cuts.{SameParts, one_cut, one_field}
use Rattle.event_reader.proofs.Frees.{decimal_free, session_free}
use Rattle.event_reader.proofs.PartTexts.{parts_begin}

-- ---- the word for the kind

pub kind_free : (k : Kind) → IsFree 32 (kind_text k)
kind_free kind.Start = (refl, (refl, (refl, (refl, (refl, tt)))))
kind_free (kind.Send content.Value) = (refl, (refl, (refl, (refl, tt))))
kind_free (kind.Send content.Label) = (refl, (refl, (refl, (refl, tt))))
kind_free (kind.Send content.Endpoint) = (refl, (refl, (refl, (refl, tt))))
kind_free (kind.Recv content.Value) = (refl, (refl, (refl, (refl, tt))))
kind_free (kind.Recv content.Label) = (refl, (refl, (refl, (refl, (refl, (refl, tt))))))
kind_free (kind.Recv content.Endpoint) = (refl, (refl, (refl, (refl, tt))))
kind_free kind.Test = (refl, (refl, (refl, (refl, tt))))
kind_free kind.Set = (refl, (refl, (refl, tt)))
kind_free kind.Show = (refl, (refl, (refl, (refl, tt))))
kind_free kind.Host = (refl, (refl, (refl, (refl, tt))))

abbrev kind_from : List ℕ → Kind
kind_from bs = if bytes_eq bs (codes "start") then kind.Start else (if bytes_eq bs (codes "send") then (kind.Send content.Value) else (if bytes_eq bs (codes "pick") then (kind.Send content.Label) else (if bytes_eq bs (codes "give") then (kind.Send content.Endpoint) else (if bytes_eq bs (codes "recv") then (kind.Recv content.Value) else (if bytes_eq bs (codes "branch") then (kind.Recv content.Label) else (if bytes_eq bs (codes "gain") then (kind.Recv content.Endpoint) else (if bytes_eq bs (codes "test") then kind.Test else (if bytes_eq bs (codes "set") then kind.Set else (if bytes_eq bs (codes "show") then kind.Show else (kind.Host))))))))))

kind_back : (k : Kind) → kind_from (kind_text k) ≡ k
kind_back kind.Start = refl
kind_back (kind.Send content.Value) = refl
kind_back (kind.Send content.Label) = refl
kind_back (kind.Send content.Endpoint) = refl
kind_back (kind.Recv content.Value) = refl
kind_back (kind.Recv content.Label) = refl
kind_back (kind.Recv content.Endpoint) = refl
kind_back kind.Test = refl
kind_back kind.Set = refl
kind_back kind.Show = refl
kind_back kind.Host = refl

pub kind_one : (j k : Kind) → kind_text j ≡ kind_text k → j ≡ k
kind_one j k e = sym (kind_back j) ∙ ap kind_from e ∙ kind_back k

-- ---- the text in parts

message_parts : (w : Words) (p s : ℕ) (a b : NameId) (l : Load) → message_text w p s a b l ≡ head_then w p s a b (load_text w l)
message_parts w p s a b l = simp append_assoc

sending_parts : (l : Load) → sending l ≡ 32 ∷ (kind_text (kind.Send (content_of l)) ++ 32 ∷ [])
sending_parts (Carries (Int z)) = refl
sending_parts (Carries (Truth b)) = refl
sending_parts (Carries (Text t)) = refl
sending_parts (Carries (Endpoint s r)) = refl
sending_parts (Picks l) = refl

receiving_parts : (l : Load) → receiving l ≡ 32 ∷ (kind_text (kind.Recv (content_of l)) ++ 32 ∷ [])
receiving_parts (Carries (Int z)) = refl
receiving_parts (Carries (Truth b)) = refl
receiving_parts (Carries (Text t)) = refl
receiving_parts (Carries (Endpoint s r)) = refl
receiving_parts (Picks l) = refl

numbers_parts : (a b v : List ℕ) → (codes " " ++ a) ++ (codes " " ++ b) ++ (codes " " ++ v) ≡ 32 ∷ (a ++ 32 ∷ (b ++ 32 ∷ v))
numbers_parts a b v = simp append_assoc

host_parts : (p x f r : List ℕ) → codes " host " ++ p ++ codes " " ++ x ++ codes " " ++ f ++ r ≡ 32 ∷ (codes "host" ++ 32 ∷ (p ++ 32 ∷ (x ++ 32 ∷ (f ++ r))))
host_parts p x f r = simp append_assoc

said_parts : (w : Words) (e : Event) → said w e ≡ 32 ∷ (kind_text (kind_of e) ++ 32 ∷ body w e)
said_parts w (Start c s parts) = simp append_assoc
said_parts w (Send p s a b l) = (λ i. sending_parts l i ++ message_parts w p s a b l i) ∙ ap (λ (r : List ℕ). 32 ∷ r) (append_assoc (kind_text (kind.Send (content_of l))) (32 ∷ []) (head_then w p s a b (load_text w l)))
said_parts w (Recv p s a b l) = (λ i. receiving_parts l i ++ message_parts w p s a b l i) ∙ ap (λ (r : List ℕ). 32 ∷ r) (append_assoc (kind_text (kind.Recv (content_of l))) (32 ∷ []) (head_then w p s a b (load_text w l)))
said_parts w (Test p b) = simp append_assoc
said_parts w (Set p x v) = simp append_assoc
said_parts w (Show p v) = simp append_assoc
said_parts w (Host p x f a b v) =
    ap (λ (r : List ℕ). codes " host " ++ process_text w p ++ codes " " ++ name_text w x ++ codes " " ++ name_text w f ++ r) (numbers_parts (signed_decimal a) (signed_decimal b) (signed_decimal v))
    ∙ host_parts (process_text w p) (name_text w x) (name_text w f) (32 ∷ (signed_decimal a ++ 32 ∷ (signed_decimal b ++ 32 ∷ signed_decimal v)))

pub event_parts : (w : Words) (i : ℕ) (e : Event) → event_text w i e ≡ decimal i ++ 32 ∷ (kind_text (kind_of e) ++ 32 ∷ body w e)
event_parts w i e = ap (λ (r : List ℕ). decimal i ++ r) (said_parts w e)

-- ---- lines

pub line_cut : (w : Words) (i : ℕ) (line digits rest : List ℕ) (e : Event) → i < 2 ^ 64 → line ≡ digits ++ 32 ∷ rest → IsFree 32 digits → line ≡ event_text w i e → SameParts digits (decimal i) rest (kind_text (kind_of e) ++ 32 ∷ body w e)
line_cut w i line digits rest e small parts free q = one_cut 32 digits (decimal i) rest (kind_text (kind_of e) ++ 32 ∷ body w e) free (decimal_free 32 i refl small) (sym parts ∙ (q ∙ event_parts w i e))

pub word_cut : (w : Words) (rest word after : List ℕ) (e : Event) → rest ≡ word ++ 32 ∷ after → IsFree 32 word → rest ≡ kind_text (kind_of e) ++ 32 ∷ body w e → SameParts word (kind_text (kind_of e)) after (body w e)
word_cut w rest word after e parts free q = one_cut 32 word (kind_text (kind_of e)) after (body w e) free (kind_free (kind_of e)) (sym parts ∙ q)

pub event_answer : (w : Words) (i : ℕ) (line digits rest word after : List ℕ) (k : Kind) (r : Result Event LineFault)
    → i < 2 ^ 64 → line ≡ digits ++ 32 ∷ rest → IsFree 32 digits → digits ≡ decimal i → rest ≡ word ++ 32 ∷ after → IsFree 32 word → word ≡ kind_text k
    → IsAnswer (λ e. (kind_of e ≡ k) × HasEvent w e) (body w) after r → IsAnswer (HasEvent w) (event_text w i) line r
event_answer w i line digits rest word after k (Ok e) small parts free is cut wordly named h =
    (h.0.1, parts ∙ (λ j. is j ++ 32 ∷ rest) ∙ ap (λ (r : List ℕ). decimal i ++ 32 ∷ r) (cut ∙ (λ j. (named ∙ ap kind_text (sym h.0.0)) j ++ 32 ∷ h.1 j)) ∙ sym (event_parts w i e))
event_answer w i line digits rest word after k (Err BadLine) small parts free is cut wordly named h = λ e has q.
    let m = line_cut w i line digits rest e small parts free q in
    let n = word_cut w rest word after e cut wordly m.rest in
    h e (kind_one (kind_of e) k (sym n.front ∙ named), has) n.rest
event_answer w i line digits rest word after k (Err Memory) small parts free is cut wordly named h = tt

-- ---- one kind of event

pub only_sent : (w : Words) (bs : List ℕ) (k : Content) → ((m : Message) → HasMessage w k m → bs ≡ fronts.message_text w m → ⊥) → (e : Event) → (kind_of e ≡ kind.Send k) × HasEvent w e → bs ≡ body w e → ⊥
only_sent w bs k f (Send p s a b l) h q = let same : content_of l ≡ k = send_one (content_of l) k h.0 in f (record { head = record { pid = p; sid = s; from = a; to = b }; load = l }) (same, h.1.0, h.1.1) q
  where
    send_one : (j k : Content) → kind.Send j ≡ kind.Send k → j ≡ k
    send_one j k e = cc
only_sent w bs k f _ h q = let no_kind = h.0 in absurd cc

pub only_received : (w : Words) (bs : List ℕ) (k : Content) → ((m : Message) → HasMessage w k m → bs ≡ fronts.message_text w m → ⊥) → (e : Event) → (kind_of e ≡ kind.Recv k) × HasEvent w e → bs ≡ body w e → ⊥
only_received w bs k f (Recv p s a b l) h q = let same : content_of l ≡ k = recv_one (content_of l) k h.0 in f (record { head = record { pid = p; sid = s; from = a; to = b }; load = l }) (same, h.1.0, h.1.1) q
  where
    recv_one : (j k : Content) → kind.Recv j ≡ kind.Recv k → j ≡ k
    recv_one j k e = cc
only_received w bs k f _ h q = let no_kind = h.0 in absurd cc

pub only_start : (w : Words) (bs : List ℕ) → ((c : NameId) (s : ℕ) (parts : List (NameId × ℕ)) → HasName w c → IsSmall s → AllByRecursion (HasPart w) parts → bs ≡ name_text w c ++ 32 ∷ (session_text s ++ parts_text w parts) → ⊥) → (e : Event) → (kind_of e ≡ kind.Start) × HasEvent w e → bs ≡ body w e → ⊥
only_start w bs f (Start c s parts) h q = f c s parts h.1.0 h.1.1 h.1.2 q
only_start w bs f _ h q = let no_kind = h.0 in absurd cc

pub session_cut : (w : Words) (rest session after : List ℕ) (s : ℕ) (parts : List (NameId × ℕ)) → IsSmall s → rest ≡ session ++ after → IsFree 32 session → BeginsWith 32 after → rest ≡ session_text s ++ parts_text w parts → SameParts session (session_text s) after (parts_text w parts)
session_cut w rest session after s parts small cut free begins q = one_field 32 session (session_text s) after (parts_text w parts) free (session_free 32 s refl refl small) begins (parts_begin w parts) (sym cut ∙ q)
