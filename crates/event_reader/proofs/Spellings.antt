-- Each event has one spelling.
use Rattle.std.proofs.Common.{◌≡◌, ◌<◌, ◌≤◌, ◌^◌, ◌==◌, ℕ, ℤ, pos, negsuc, Bool, true, false, List, [], ◌∷◌, ◌++◌, length, get_or, Option, Some, None, refl, sym, ap, ◌∙◌, arith}
use Rattle.std.specs.Prelude.{slice_get, if◌then◌else◌}
use Rattle.std.specs.Fmt.{decimal, signed_decimal}
use Rattle.std.specs.List.{AllByRecursion}
use Rattle.std.proofs.lemmas.Bool.Decides.{nat_tests}
use Rattle.std.proofs.lemmas.Fmt.{decimal_injective, signed_decimal_injective}
use Rattle.chor_base.specs.Writing.{truth_text, literal_in}
use Rattle.chor_base.specs.declared.names.NameId.{NameId}
use Rattle.chor_base.specs.declared.value.Value.{Value}
use Rattle.chor_base.specs.declared.value.Value.TheVariants.{Int, Bool as Truth, Text, Part as Endpoint}
use Rattle.chor_base.specs.declared.value.Load.{Load}
use Rattle.chor_base.specs.declared.value.Load.TheVariants.{Value as Carries, Label as Picks}
use Rattle.chor_base.specs.declared.event.Event.{Event}
use Rattle.chor_base.specs.declared.event.Event.TheVariants.{Start, Send, Recv, Test, Set, Show, Host}
use Rattle.transcript.specs.Text.{Words, name_text, process_named, process_text, value_text, load_text, parts_text, event_text}
use Rattle.event_reader.specs.declared.kind.Content.{Content}
use Rattle.event_reader.specs.declared.kind.Content.TheVariants as content
use Rattle.event_reader.specs.declared.kind.Kind.TheVariants as kind
use Rattle.event_reader.specs.Known.{IsBook, IsSmall, IsInt, HasName, HasNameOf, HasProcess, HasPart, HasValue, HasLoad, HasHead, HasEvent}
use Rattle.event_reader.specs.Bodies.{content_of, kind_of, kind_text, session_text, part_text, head_then, body}
use Rattle.event_reader.proofs.Cuts.{one_cut, one_field}
use Rattle.event_reader.proofs.Numerals.{first_digit}
use Rattle.event_reader.proofs.Frees.{name_there, name_free, no_percent, process_free, part_free, session_free, signed_free, decimal_free}
use Rattle.event_reader.proofs.Quoted.{is_quoted, escaped_one, quoted_one}
use Rattle.event_reader.proofs.ValueTexts.{endpoint_same}
use Rattle.event_reader.proofs.PartTexts.{parts_text-cons, parts_begin}
use Rattle.event_reader.proofs.EventBodies.{kind_one, event_parts, kind_free}

tail_of : (x y : ℕ) (xs ys : List ℕ) → x ∷ xs ≡ y ∷ ys → xs ≡ ys
tail_of x y xs ys e = cc

-- ---- names and processes

pub name_one : (w : Words) (x y : NameId) → IsBook w → HasName w x → HasName w y → name_text w x ≡ name_text w y → x ≡ y
name_one w x y book h k e =
    let same : x.0 ≡ y.0 = book.names x.0 y.0 (name_text w y) (name_there w x h ∙ ap Some e) (name_there w y k) in
    ap (λ (i : ℕ). record { 0 = i }) same

pub process_one : (w : Words) (p q : ℕ) → IsBook w → HasProcess w p → HasProcess w q → process_text w p ≡ process_text w q → p ≡ q
process_one w p q book h k e = go (slice_get w.processes p) (slice_get w.processes q) refl refl h.1 k.1 e
  where
    go : (o r : Option NameId) → slice_get w.processes p ≡ o → slice_get w.processes q ≡ r → HasNameOf w o → HasNameOf w r → process_named w p o ≡ process_named w q r → p ≡ q
    go (Some x) (Some y) at to has has' t = book.processes p q y (at ∙ ap Some (name_one w x y book has has' t)) to
    go (Some x) None at to has has' t = absurd (no_percent w x (decimal q) book.words has (sym t))
    go None (Some y) at to has has' t = absurd (no_percent w y (decimal p) book.words has' t)
    go None None at to has has' t = let small = h.0 in let less = k.0 in decimal_injective p q (omega arith) (omega arith) (tail_of 37 37 _ _ t)

pub session_one : (s t : ℕ) → IsSmall s → IsSmall t → session_text s ≡ session_text t → s ≡ t
session_one s t h k e = decimal_injective s t (omega arith) (omega arith) (tail_of 35 35 _ _ e)

pub int_one : (y z : ℤ) → IsInt y → IsInt z → signed_decimal y ≡ signed_decimal z → y ≡ z
int_one (pos m) (pos n) h k e = signed_decimal_injective (pos m) (pos n) h k e
int_one (pos m) (negsuc n) h k e = signed_decimal_injective (pos m) (negsuc n) h k e
int_one (negsuc m) (pos n) h k e = signed_decimal_injective (negsuc m) (pos n) h k e
int_one (negsuc m) (negsuc n) h k e = signed_decimal_injective (negsuc m) (negsuc n) h k e

-- ---- values

-- how a value begins: 1 a truth value, 2 a text, 3 an endpoint, 0 a number
abbrev class_at : ℕ → ℕ
class_at b = if b == 116 then 1 else (if b == 102 then 1 else (if b == 34 then 2 else (if b == 35 then 3 else 0)))

abbrev class_of : List ℕ → ℕ
class_of [] = 0
class_of (b ∷ bs) = class_at b

abbrev value_class : Value → ℕ
value_class (Int z) = 0
value_class (Truth b) = 1
value_class (Text t) = 2
value_class (Endpoint s r) = 3

digit_class : (b : ℕ) → 48 ≤ b → b ≤ 57 → class_at b ≡ 0
digit_class b h k = grind (arith, nat_tests)

number_class : (bs : List ℕ) (n : ℕ) → n < 2 ^ 64 → bs ≡ decimal n → class_of bs ≡ 0
number_class [] n h e = refl
number_class (b ∷ bs) n h e = let d = first_digit n b bs h e in digit_class b d.0 d.1

pub class_is : (w : Words) (v : Value) → HasValue w v → class_of (value_text w v) ≡ value_class v
class_is w (Int (pos n)) h = number_class (decimal n) n (omega arith) refl
class_is w (Int (negsuc n)) h = refl
class_is w (Truth true) h = refl
class_is w (Truth false) h = refl
class_is w (Text t) h = let q = is_quoted w.texts (literal_in w.texts t) t h refl in ap class_of q.is
class_is w (Endpoint s r) h = refl

truth_one : (a b : Bool) → truth_text a ≡ truth_text b → a ≡ b
truth_one true true e = refl
truth_one false false e = refl
truth_one true false e = let h : 116 ≡ 102 = ap (λ (l : List ℕ). get_or l 0 0) e in absurd (omega (arith, h))
truth_one false true e = let h : 102 ≡ 116 = ap (λ (l : List ℕ). get_or l 0 0) e in absurd (omega (arith, h))

text_one : (w : Words) (t u : ℕ) → IsBook w → t < length w.texts → u < length w.texts → literal_in w.texts t ≡ literal_in w.texts u → t ≡ u
text_one w t u book h k e =
    let q = is_quoted w.texts (literal_in w.texts t) t h refl in
    let r = is_quoted w.texts (literal_in w.texts t) u k e in
    let same : q.bytes ≡ r.bytes = escaped_one q.bytes r.bytes (quoted_one _ _ (sym q.is ∙ r.is)) in
    book.texts t u r.bytes (q.there ∙ ap Some same) r.there

endpoint_one : (w : Words) (s t : ℕ) (x y : NameId) → IsBook w → HasValue w (Endpoint s x) → HasValue w (Endpoint t y) → value_text w (Endpoint s x) ≡ value_text w (Endpoint t y) → Endpoint s x ≡ Endpoint t y
endpoint_one w s t x y book h k e =
    let m = one_cut 46 (session_text s) (session_text t) (name_text w x) (name_text w y) (session_free 46 s refl refl h.0) (session_free 46 t refl refl k.0) (sym (endpoint_same w s x) ∙ (e ∙ endpoint_same w t y)) in
    λ i. Endpoint (session_one s t h.0 k.0 m.front i) (name_one w x y book h.1 k.1 m.rest i)

pub value_one : (w : Words) (v u : Value) → IsBook w → HasValue w v → HasValue w u → value_text w v ≡ value_text w u → v ≡ u
value_one w v u book h k e = go v u h k e (sym (class_is w v h) ∙ ap class_of e ∙ class_is w u k)
  where
    go : (v u : Value) → HasValue w v → HasValue w u → value_text w v ≡ value_text w u → value_class v ≡ value_class u → v ≡ u
    go (Int y) (Int z) h k e c = ap Int (int_one y z h k e)
    go (Truth a) (Truth b) h k e c = ap Truth (truth_one a b e)
    go (Text t) (Text s) h k e c = ap Text (text_one w t s book h k e)
    go (Endpoint s x) (Endpoint t y) h k e c = endpoint_one w s t x y book h k e
    go (Int y) _ h k e c = absurd (omega (arith, c))
    go (Truth a) _ h k e c = absurd (omega (arith, c))
    go (Text t) _ h k e c = absurd (omega (arith, c))
    go (Endpoint s x) _ h k e c = absurd (omega (arith, c))

pub load_one : (w : Words) (l m : Load) → IsBook w → content_of l ≡ content_of m → HasLoad w l → HasLoad w m → load_text w l ≡ load_text w m → l ≡ m
load_one w (Carries v) (Carries u) book c h k e = ap Carries (value_one w v u book h k e)
load_one w (Picks x) (Picks y) book c h k e = ap Picks (name_one w x y book h k e)
load_one w (Carries (Int z)) (Picks y) book c h k e = let q : content.Value ≡ content.Label = c in absurd cc
load_one w (Carries (Truth b)) (Picks y) book c h k e = let q : content.Value ≡ content.Label = c in absurd cc
load_one w (Carries (Text t)) (Picks y) book c h k e = let q : content.Value ≡ content.Label = c in absurd cc
load_one w (Carries (Endpoint s r)) (Picks y) book c h k e = let q : content.Endpoint ≡ content.Label = c in absurd cc
load_one w (Picks x) (Carries (Int z)) book c h k e = let q : content.Label ≡ content.Value = c in absurd cc
load_one w (Picks x) (Carries (Truth b)) book c h k e = let q : content.Label ≡ content.Value = c in absurd cc
load_one w (Picks x) (Carries (Text t)) book c h k e = let q : content.Label ≡ content.Value = c in absurd cc
load_one w (Picks x) (Carries (Endpoint s r)) book c h k e = let q : content.Label ≡ content.Endpoint = c in absurd cc

-- ---- parts of a start

part_one : (w : Words) (q r : NameId × ℕ) → IsBook w → HasPart w q → HasPart w r → part_text w q ≡ part_text w r → q ≡ r
part_one w q r book h k e =
    let m = one_cut 61 (name_text w q.0) (name_text w r.0) (process_text w q.1) (process_text w r.1) (name_free w 61 q.0 book.words refl h.0) (name_free w 61 r.0 book.words refl k.0) e in
    λ i. (name_one w q.0 r.0 book h.0 k.0 m.front i, process_one w q.1 r.1 book h.1 k.1 m.rest i)

pub parts_one : (w : Words) (qs rs : List (NameId × ℕ)) → IsBook w → AllByRecursion (HasPart w) qs → AllByRecursion (HasPart w) rs → parts_text w qs ≡ parts_text w rs → qs ≡ rs
parts_one w [] [] book h k e = refl
parts_one w [] (r ∷ rs) book h k e = absurd cc
parts_one w (q ∷ qs) [] book h k e = absurd cc
parts_one w (q ∷ qs) (r ∷ rs) book h k e =
    let m = one_field 32 (part_text w q) (part_text w r) (parts_text w qs) (parts_text w rs) (part_free w q book.words h.0) (part_free w r book.words k.0) (parts_begin w qs) (parts_begin w rs) (tail_of 32 32 _ _ (sym (parts_text-cons w q qs) ∙ (e ∙ parts_text-cons w r rs))) in
    λ i. part_one w q r book h.0 k.0 m.front i ∷ parts_one w qs rs book h.1 k.1 m.rest i

-- ---- events

process_cut : (w : Words) (p q : ℕ) (r s : List ℕ) → IsBook w → HasProcess w p → HasProcess w q → process_text w p ++ 32 ∷ r ≡ process_text w q ++ 32 ∷ s → (p ≡ q) × (r ≡ s)
process_cut w p q r s book h k e =
    let m = one_cut 32 (process_text w p) (process_text w q) r s (process_free w 32 p book.words refl refl refl h) (process_free w 32 q book.words refl refl refl k) e in
    (process_one w p q book h k m.front, m.rest)

name_cut : (w : Words) (x y : NameId) (r s : List ℕ) → IsBook w → HasName w x → HasName w y → name_text w x ++ 32 ∷ r ≡ name_text w y ++ 32 ∷ s → (x ≡ y) × (r ≡ s)
name_cut w x y r s book h k e =
    let m = one_cut 32 (name_text w x) (name_text w y) r s (name_free w 32 x book.words refl h) (name_free w 32 y book.words refl k) e in
    (name_one w x y book h k m.front, m.rest)

int_cut : (y z : ℤ) (r s : List ℕ) → IsInt y → IsInt z → signed_decimal y ++ 32 ∷ r ≡ signed_decimal z ++ 32 ∷ s → (y ≡ z) × (r ≡ s)
int_cut y z r s h k e =
    let m = one_cut 32 (signed_decimal y) (signed_decimal z) r s (signed_free 32 y refl refl h) (signed_free 32 z refl refl k) e in
    (int_one y z h k m.front, m.rest)

-- who acts in which session, from which role to which, and what follows
record SameHead (p q s t : ℕ) (a c b d : NameId) (r z : List ℕ) : Type 0 where
  actor : p ≡ q
  session : s ≡ t
  from : a ≡ c
  to : b ≡ d
  rest : r ≡ z

head_one : (w : Words) (p q s t : ℕ) (a c b d : NameId) (r z : List ℕ) → IsBook w → HasHead w p s a b → HasHead w q t c d → head_then w p s a b r ≡ head_then w q t c d z → SameHead p q s t a c b d r z
head_one w p q s t a c b d r z book h k e =
    let m = process_cut w p q _ _ book h.0 k.0 e in
    let n = one_cut 32 (session_text s) (session_text t) _ _ (session_free 32 s refl refl h.1) (session_free 32 t refl refl k.1) m.1 in
    let o = one_cut 62 (name_text w a) (name_text w c) _ _ (name_free w 62 a book.words refl h.2) (name_free w 62 c book.words refl k.2) n.rest in
    let l = name_cut w b d r z book h.3 k.3 o.rest in
    record { actor = m.0; session = session_one s t h.1 k.1 n.front; from = name_one w a c book h.2 k.2 o.front; to = l.0; rest = l.1 }

send_one : (j k : Content) → kind.Send j ≡ kind.Send k → j ≡ k
send_one j k e = cc

recv_one : (j k : Content) → kind.Recv j ≡ kind.Recv k → j ≡ k
recv_one j k e = cc

body_one : (w : Words) (e f : Event) → IsBook w → kind_of e ≡ kind_of f → HasEvent w e → HasEvent w f → body w e ≡ body w f → e ≡ f
body_one w (Start c s ps) (Start d t qs) book same h k e =
    let m = name_cut w c d _ _ book h.0 k.0 e in
    let n = one_field 32 (session_text s) (session_text t) (parts_text w ps) (parts_text w qs) (session_free 32 s refl refl h.1) (session_free 32 t refl refl k.1) (parts_begin w ps) (parts_begin w qs) m.1 in
    λ i. Start (m.0 i) (session_one s t h.1 k.1 n.front i) (parts_one w ps qs book h.2 k.2 n.rest i)
body_one w (Send p s a b l) (Send q t c d m) book same h k e =
    let n = head_one w p q s t a c b d (load_text w l) (load_text w m) book h.0 k.0 e in
    λ i. Send (n.actor i) (n.session i) (n.from i) (n.to i) (load_one w l m book (send_one _ _ same) h.1 k.1 n.rest i)
body_one w (Recv p s a b l) (Recv q t c d m) book same h k e =
    let n = head_one w p q s t a c b d (load_text w l) (load_text w m) book h.0 k.0 e in
    λ i. Recv (n.actor i) (n.session i) (n.from i) (n.to i) (load_one w l m book (recv_one _ _ same) h.1 k.1 n.rest i)
body_one w (Test p b) (Test q c) book same h k e =
    let m = process_cut w p q _ _ book h k e in
    λ i. Test (m.0 i) (truth_one b c m.1 i)
body_one w (Set p x v) (Set q y u) book same h k e =
    let m = process_cut w p q _ _ book h.0 k.0 e in
    let n = name_cut w x y _ _ book h.1 k.1 m.1 in
    λ i. Set (m.0 i) (n.0 i) (value_one w v u book h.2 k.2 n.1 i)
body_one w (Show p v) (Show q u) book same h k e =
    let m = process_cut w p q _ _ book h.0 k.0 e in
    λ i. Show (m.0 i) (value_one w v u book h.1 k.1 m.1 i)
body_one w (Host p x f a b v) (Host q y g c d u) book same h k e =
    let m = process_cut w p q _ _ book h.0 k.0 e in
    let n = name_cut w x y _ _ book h.1 k.1 m.1 in
    let o = name_cut w f g _ _ book h.2 k.2 n.1 in
    let l = int_cut a c _ _ h.3 k.3 o.1 in
    let r = int_cut b d _ _ h.4 k.4 l.1 in
    λ i. Host (m.0 i) (n.0 i) (o.0 i) (l.0 i) (r.0 i) (int_one v u h.5 k.5 r.1 i)
body_one w _ _ book same h k e = absurd cc

pub one_spelling : (w : Words) (i j : ℕ) (e f : Event) → IsBook w → i < 2 ^ 64 → j < 2 ^ 64 → HasEvent w e → HasEvent w f → event_text w i e ≡ event_text w j f → (i ≡ j) × (e ≡ f)
one_spelling w i j e f book small less h k q =
    let m = one_cut 32 (decimal i) (decimal j) _ _ (decimal_free 32 i refl small) (decimal_free 32 j refl less) (sym (event_parts w i e) ∙ (q ∙ event_parts w j f)) in
    let n = one_cut 32 (kind_text (kind_of e)) (kind_text (kind_of f)) (body w e) (body w f) (kind_free (kind_of e)) (kind_free (kind_of f)) m.rest in
    (decimal_injective i j small less m.front, body_one w e f book (kind_one (kind_of e) (kind_of f) n.front) h k n.rest)
