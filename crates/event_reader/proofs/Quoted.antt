-- Texts between quotes are spelled in one way.
use Rattle.std.proofs.Common.{◌≡◌, ◌≢◌, ◌<◌, ◌==◌, ◌++◌, ℕ, Bool, true, false, List, [], ◌∷◌, length, Some, refl, sym, ap, ◌∙◌, arith, append_assoc, length-append}
use Rattle.std.specs.Prelude.{slice_get, if◌then◌else◌}
use Rattle.std.proofs.lemmas.Bool.Decides.{Decides-eqb}
use Rattle.std.proofs.lemmas.List.{append-nil}
use Rattle.std.proofs.lemmas.Option.{slice_get_within, slice_get-get_or}
use Rattle.std.proofs.lemmas.Bool.{eqb-false}
use Rattle.chor_base.specs.Words.{Lacks}
use Rattle.chor_base.specs.Writing.{escaped, escaped_byte, literal, literal_in}
use Rattle.chor_base.proofs.WordTables.{put_absent, put_present}

-- how a byte is written
pub data Spells (b : ℕ) : List ℕ → Type 0 where
  quote : b ≡ 34 → Spells b (92 ∷ 34 ∷ [])
  backslash : b ≡ 92 → Spells b (92 ∷ 92 ∷ [])
  feed : b ≡ 10 → Spells b (92 ∷ 110 ∷ [])
  itself : b ≢ 34 → b ≢ 92 → b ≢ 10 → Spells b (b ∷ [])

pub spells : (b : ℕ) → Spells b (escaped_byte b)
spells b = first (b == 34) refl
  where
    third : (v : Bool) → (b == 10) ≡ v → (b == 34) ≡ false → (b == 92) ≡ false → Spells b (if v then 92 ∷ 110 ∷ [] else b ∷ [])
    third true e f g = feed ((Decides-eqb b 10).0 e)
    third false e f g = itself (eqb-false b 34 f) (eqb-false b 92 g) (eqb-false b 10 e)

    second : (v : Bool) → (b == 92) ≡ v → (b == 34) ≡ false → Spells b (if v then 92 ∷ 92 ∷ [] else (if b == 10 then 92 ∷ 110 ∷ [] else b ∷ []))
    second true e f = backslash ((Decides-eqb b 92).0 e)
    second false e f = third (b == 10) refl f e

    first : (v : Bool) → (b == 34) ≡ v → Spells b (if v then 92 ∷ 34 ∷ [] else (if b == 92 then 92 ∷ 92 ∷ [] else (if b == 10 then 92 ∷ 110 ∷ [] else b ∷ [])))
    first true e = quote ((Decides-eqb b 34).0 e)
    first false e = second (b == 92) refl e

-- the byte that stands first, and what follows it
pub record SameByte (b c : ℕ) (r s : List ℕ) : Type 0 where
  pub byte : b ≡ c
  pub rest : r ≡ s

-- two bytes
one_spelled : (b c : ℕ) (v w r s : List ℕ) → Spells b v → Spells c w → v ++ r ≡ w ++ s → SameByte b c r s
one_spelled b c v w r s (quote p) (quote q) e = record { byte = p ∙ sym q; rest = cc }
one_spelled b c v w r s (backslash p) (backslash q) e = record { byte = p ∙ sym q; rest = cc }
one_spelled b c v w r s (feed p) (feed q) e = record { byte = p ∙ sym q; rest = cc }
one_spelled b c v w r s (itself x y z) (itself i j k) e = record { byte = cc; rest = cc }
one_spelled b c v w r s (itself x y z) (quote q) e = let h : b ≡ 92 = cc in absurd (y h)
one_spelled b c v w r s (itself x y z) (backslash q) e = let h : b ≡ 92 = cc in absurd (y h)
one_spelled b c v w r s (itself x y z) (feed q) e = let h : b ≡ 92 = cc in absurd (y h)
one_spelled b c v w r s (quote q) (itself x y z) e = let h : c ≡ 92 = cc in absurd (y h)
one_spelled b c v w r s (backslash q) (itself x y z) e = let h : c ≡ 92 = cc in absurd (y h)
one_spelled b c v w r s (feed q) (itself x y z) e = let h : c ≡ 92 = cc in absurd (y h)
one_spelled b c v w r s (quote p) (backslash q) e = let h : 34 ≡ 92 = cc in absurd (eqb-false 34 92 refl h)
one_spelled b c v w r s (quote p) (feed q) e = let h : 34 ≡ 110 = cc in absurd (eqb-false 34 110 refl h)
one_spelled b c v w r s (backslash p) (quote q) e = let h : 92 ≡ 34 = cc in absurd (eqb-false 92 34 refl h)
one_spelled b c v w r s (backslash p) (feed q) e = let h : 92 ≡ 110 = cc in absurd (eqb-false 92 110 refl h)
one_spelled b c v w r s (feed p) (quote q) e = let h : 110 ≡ 34 = cc in absurd (eqb-false 110 34 refl h)
one_spelled b c v w r s (feed p) (backslash q) e = let h : 110 ≡ 92 = cc in absurd (eqb-false 110 92 refl h)

pub one_byte : (b c : ℕ) (r s : List ℕ) → escaped_byte b ++ r ≡ escaped_byte c ++ s → SameByte b c r s
one_byte b c r s e = one_spelled b c (escaped_byte b) (escaped_byte c) r s (spells b) (spells c) e

pub nonempty : (b : ℕ) (r : List ℕ) → [] ≡ escaped_byte b ++ r → ⊥
nonempty b r e = go (escaped_byte b) (spells b) e
  where
    go : (v : List ℕ) → Spells b v → [] ≡ v ++ r → ⊥
    go v (quote p) q = absurd cc
    go v (backslash p) q = absurd cc
    go v (feed p) q = absurd cc
    go v (itself x y z) q = absurd cc

pub escaped_one : (t u : List ℕ) → escaped t ≡ escaped u → t ≡ u
escaped_one [] [] e = refl
escaped_one [] (c ∷ u) e = absurd (nonempty c (escaped u) e)
escaped_one (b ∷ t) [] e = absurd (nonempty b (escaped t) (sym e))
escaped_one (b ∷ t) (c ∷ u) e =
    let m = one_byte b c (escaped t) (escaped u) e in
    same b c t u m.byte (escaped_one t u m.rest)
  where
    same : (b c : ℕ) (t u : List ℕ) → b ≡ c → t ≡ u → b ∷ t ≡ c ∷ u
    same b c t u p q = cc

pub escaped-append : (t : List ℕ) (b : ℕ) → escaped (t ++ b ∷ []) ≡ escaped t ++ escaped_byte b
escaped-append [] b = append-nil (escaped_byte b)
escaped-append (x ∷ t) b = ap (λ (l : List ℕ). escaped_byte x ++ l) (escaped-append t b) ∙ sym (append_assoc (escaped_byte x) (escaped t) (escaped_byte b))

-- ---- a text as it is read

-- the text so far, and what follows it
pub record IsUnescaped (body rest text : List ℕ) : Type 0 where
  pub so_far : body ≡ escaped text ++ rest
  pub all : (t : List ℕ) → body ≡ escaped t → (more : List ℕ) × (rest ≡ escaped more)

pub begun : (body : List ℕ) → IsUnescaped body body []
begun body = record { so_far = refl; all = λ t e. (t, e) }

pub byte_more : (body rest more text new : List ℕ) (b : ℕ) → IsUnescaped body rest text → rest ≡ escaped_byte b ++ more → new ≡ text ++ b ∷ [] → IsUnescaped body more new
byte_more body rest more text new b u e n = record {
  so_far = u.so_far ∙ ap (λ (l : List ℕ). escaped text ++ l) e ∙ sym (append_assoc (escaped text) (escaped_byte b) more) ∙ ap (λ (l : List ℕ). l ++ more) (sym (escaped-append text b) ∙ ap escaped (sym n));
  all = λ t q. let a = u.all t q in go a.0 (sym e ∙ a.1);
}
  where
    go : (t : List ℕ) → escaped_byte b ++ more ≡ escaped t → (left : List ℕ) × (more ≡ escaped left)
    go [] q = absurd (nonempty b more (sym q))
    go (c ∷ t) q = (t, (one_byte b c more (escaped t) q).rest)

pub no_byte : (body rest text : List ℕ) → IsUnescaped body rest text → ([] ≡ rest → ⊥) → ((b : ℕ) (more : List ℕ) → rest ≢ escaped_byte b ++ more) → (t : List ℕ) → body ≡ escaped t → ⊥
no_byte body rest text u some none t e = let a = u.all t e in go a.0 a.1
  where
    go : (t : List ℕ) → rest ≡ escaped t → ⊥
    go [] q = some (sym q)
    go (b ∷ t) q = none b (escaped t) q

pub unescaped_all : (body rest text : List ℕ) → IsUnescaped body rest text → rest ≡ [] → body ≡ escaped text
unescaped_all body rest text u e = u.so_far ∙ ap (λ (l : List ℕ). escaped text ++ l) e ∙ append-nil (escaped text)

-- ---- literals

pub quoted_one : (a b : List ℕ) → 34 ∷ a ++ 34 ∷ [] ≡ (34 ∷ b) ++ 34 ∷ [] → a ≡ b
quoted_one a b e = ends a b (tail_of _ _ _ _ e)
  where
    tail_of : (x y : ℕ) (xs ys : List ℕ) → x ∷ xs ≡ y ∷ ys → xs ≡ ys
    tail_of x y xs ys q = cc

    ends : (a b : List ℕ) → a ++ 34 ∷ [] ≡ b ++ 34 ∷ [] → a ≡ b
    ends [] [] q = refl
    ends [] (y ∷ b) q = let h : [] ≡ b ++ 34 ∷ [] = cc in absurd (omega (arith, ap length h, length-append b (34 ∷ [])))
    ends (x ∷ a) [] q = let h : a ++ 34 ∷ [] ≡ [] = cc in absurd (omega (arith, ap length h, length-append a (34 ∷ [])))
    ends (x ∷ a) (y ∷ b) q = let p : x ≡ y = cc in let t : a ++ 34 ∷ [] ≡ b ++ 34 ∷ [] = cc in same x y a b p (ends a b t)
      where
        same : (x y : ℕ) (a b : List ℕ) → x ≡ y → a ≡ b → x ∷ a ≡ y ∷ b
        same x y a b p q = cc

-- what a text that is there means between its quotes
pub record IsQuoted (texts : List (List ℕ)) (field : List ℕ) (t : ℕ) : Type 0 where
  pub bytes : List ℕ
  pub there : slice_get texts t ≡ Some bytes
  pub is : field ≡ 34 ∷ escaped bytes ++ 34 ∷ []

pub is_quoted : (texts : List (List ℕ)) (field : List ℕ) (t : ℕ) → t < length texts → field ≡ literal_in texts t → IsQuoted texts field t
is_quoted texts field t h e =
    let at = slice_get-get_or texts t [] h in
    record { bytes = _; there = at; is = e ∙ ap literal at }

pub unquoted : (texts : List (List ℕ)) (field : List ℕ) → ((body : List ℕ) → field ≢ 34 ∷ body ++ 34 ∷ []) → (t : ℕ) → t < length texts → field ≡ literal_in texts t → ⊥
unquoted texts field none t h e = let q = is_quoted texts field t h e in none (escaped q.bytes) q.is

pub not_escaped : (texts : List (List ℕ)) (field body : List ℕ) → field ≡ 34 ∷ body ++ 34 ∷ [] → ((t : List ℕ) → body ≢ escaped t) → (t : ℕ) → t < length texts → field ≡ literal_in texts t → ⊥
not_escaped texts field body f none t h e = let q = is_quoted texts field t h e in none q.bytes (quoted_one body (escaped q.bytes) (sym f ∙ q.is))

pub not_there : (texts : List (List ℕ)) (field body text : List ℕ) → field ≡ 34 ∷ body ++ 34 ∷ [] → body ≡ escaped text → Lacks texts text → (t : ℕ) → t < length texts → field ≡ literal_in texts t → ⊥
not_there texts field body text f b none t h e =
    let q = is_quoted texts field t h e in
    let same : text ≡ q.bytes = escaped_one text q.bytes (sym b ∙ quoted_one body (escaped q.bytes) (sym f ∙ q.is)) in
    let more : texts ≡ texts ++ text ∷ [] = sym (put_present texts text t (q.there ∙ ap Some (sym same))) ∙ put_absent texts text none in
    omega (arith, ap length more, length-append texts (text ∷ []))

pub literal_there : (texts : List (List ℕ)) (field body text : List ℕ) (t : ℕ) → field ≡ 34 ∷ body ++ 34 ∷ [] → body ≡ escaped text → slice_get texts t ≡ Some text → (t < length texts) × (field ≡ literal_in texts t)
literal_there texts field body text t f b at = (slice_get_within texts t text at, f ∙ ap (λ (l : List ℕ). 34 ∷ l ++ 34 ∷ []) b ∙ ap literal (sym at))
