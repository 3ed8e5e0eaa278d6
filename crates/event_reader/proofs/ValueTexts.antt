-- Values and loads of messages are spelled in one way.
use Rattle.std.proofs.Common.{◌≡◌, ◌<◌, ℕ, ℤ, Bool, List, [], ◌∷◌, length, Result, Ok, Err, refl, sym, ◌∙◌, append_assoc}
use Rattle.std.specs.Fmt.{decimal, signed_decimal}
use Rattle.chor_base.specs.declared.names.NameId.{NameId}
use Rattle.chor_base.specs.declared.value.Value.{Value}
use Rattle.chor_base.specs.declared.value.Value.TheVariants.{Int, Bool as Truth, Text, Part as Endpoint}
use Rattle.chor_base.specs.declared.value.Load.{Load}
use Rattle.chor_base.specs.declared.value.Load.TheVariants.{Value as Carries, Label as Picks}
use Rattle.chor_base.specs.Writing.{truth_text, literal_in}
use Rattle.transcript.specs.Text.{Words, name_text, value_text, load_text}
use Rattle.event_reader.specs.declared.fault.LineFault.{LineFault}
use Rattle.event_reader.specs.declared.fault.LineFault.TheVariants.{BadLine, Memory}
use Rattle.event_reader.specs.declared.kind.Content.TheVariants as content
use Rattle.event_reader.specs.Known.{IsInt, HasName, HasEndpoint, HasValue, HasLoad}
use Rattle.event_reader.specs.Bodies.{HasPlain, content_of, endpoint_text}
use Rattle.event_reader.specs.Readings.{IsAnswer}

pub endpoint_same : (w : Words) (s : ℕ) (r : NameId) → value_text w (Endpoint s r) ≡ endpoint_text w (s, r)
endpoint_same w s r = append_assoc (35 ∷ decimal s) (46 ∷ []) (name_text w r)

plain_value : (w : Words) (v : Value) → HasPlain w v → HasValue w v
plain_value w (Int z) h = h
plain_value w (Truth b) h = h
plain_value w (Text t) h = h
plain_value w (Endpoint s r) h = absurd h

pub value_answer : (w : Words) (field : List ℕ) (r : Result Value LineFault) → ((q : ℕ × NameId) → HasEndpoint w q → field ≡ endpoint_text w q → ⊥) → IsAnswer (HasPlain w) (value_text w) field r → IsAnswer (HasValue w) (value_text w) field r
value_answer w field (Ok v) none h = (plain_value w v h.0, h.1)
value_answer w field (Err BadLine) none h = λ v has e. go v has e
  where
    go : (v : Value) → HasValue w v → field ≡ value_text w v → ⊥
    go (Int z) has e = h (Int z) has e
    go (Truth b) has e = h (Truth b) has e
    go (Text t) has e = h (Text t) has e
    go (Endpoint s r) has e = none (s, r) has (e ∙ endpoint_same w s r)
value_answer w field (Err Memory) none h = tt

pub endpoint_value : (w : Words) (field : List ℕ) (q : ℕ × NameId) → HasEndpoint w q → field ≡ endpoint_text w q → HasValue w (Endpoint q.0 q.1) × (field ≡ value_text w (Endpoint q.0 q.1))
endpoint_value w field q h e = (h, e ∙ sym (endpoint_same w q.0 q.1))

pub not_plain : (w : Words) (field : List ℕ) → ((z : ℤ) → IsInt z → field ≡ signed_decimal z → ⊥) → ((b : Bool) → Unit {0} → field ≡ truth_text b → ⊥) → ((t : ℕ) → t < length w.texts → field ≡ literal_in w.texts t → ⊥) → (v : Value) → HasPlain w v → field ≡ value_text w v → ⊥
not_plain w field f g h (Int z) has e = f z has e
not_plain w field f g h (Truth b) has e = g b tt e
not_plain w field f g h (Text t) has e = h t has e
not_plain w field f g h (Endpoint s r) has e = has

-- ---- loads

pub only_plain : (w : Words) (field : List ℕ) → ((v : Value) → HasPlain w v → field ≡ value_text w v → ⊥) → (l : Load) → (content_of l ≡ content.Value) × HasLoad w l → field ≡ load_text w l → ⊥
only_plain w field f (Carries (Int z)) h e = f (Int z) h.1 e
only_plain w field f (Carries (Truth b)) h e = f (Truth b) h.1 e
only_plain w field f (Carries (Text t)) h e = f (Text t) h.1 e
only_plain w field f (Carries (Endpoint s r)) h e = let q : content.Endpoint ≡ content.Value = h.0 in absurd cc
only_plain w field f (Picks l) h e = let q : content.Label ≡ content.Value = h.0 in absurd cc

pub plain_load : (w : Words) (field : List ℕ) (v : Value) → HasPlain w v → field ≡ value_text w v → ((content_of (Carries v) ≡ content.Value) × HasLoad w (Carries v)) × (field ≡ load_text w (Carries v))
plain_load w field (Int z) h e = ((refl, h), e)
plain_load w field (Truth b) h e = ((refl, h), e)
plain_load w field (Text t) h e = ((refl, h), e)
plain_load w field (Endpoint s r) h e = absurd h

pub only_label : (w : Words) (field : List ℕ) → ((x : NameId) → HasName w x → field ≡ name_text w x → ⊥) → (l : Load) → (content_of l ≡ content.Label) × HasLoad w l → field ≡ load_text w l → ⊥
only_label w field f (Carries (Int z)) h e = let q : content.Value ≡ content.Label = h.0 in absurd cc
only_label w field f (Carries (Truth b)) h e = let q : content.Value ≡ content.Label = h.0 in absurd cc
only_label w field f (Carries (Text t)) h e = let q : content.Value ≡ content.Label = h.0 in absurd cc
only_label w field f (Carries (Endpoint s r)) h e = let q : content.Endpoint ≡ content.Label = h.0 in absurd cc
only_label w field f (Picks l) h e = f l h.1 e

pub only_endpoint : (w : Words) (field : List ℕ) → ((q : ℕ × NameId) → HasEndpoint w q → field ≡ endpoint_text w q → ⊥) → (l : Load) → (content_of l ≡ content.Endpoint) × HasLoad w l → field ≡ load_text w l → ⊥
only_endpoint w field f (Carries (Int z)) h e = let q : content.Value ≡ content.Endpoint = h.0 in absurd cc
only_endpoint w field f (Carries (Truth b)) h e = let q : content.Value ≡ content.Endpoint = h.0 in absurd cc
only_endpoint w field f (Carries (Text t)) h e = let q : content.Value ≡ content.Endpoint = h.0 in absurd cc
only_endpoint w field f (Carries (Endpoint s r)) h e = f (s, r) h.1 (e ∙ endpoint_same w s r)
only_endpoint w field f (Picks l) h e = let q : content.Label ≡ content.Endpoint = h.0 in absurd cc
