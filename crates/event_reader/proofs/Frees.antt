-- In which texts a separating byte never stands.
use Rattle.std.proofs.Common.{◌≡◌, ◌<◌, ◌^◌, ◌==◌, ℕ, ℤ, pos, negsuc, suc, not, Bool, true, false, List, [], ◌∷◌, ◌++◌, Option, Some, None, refl, sym, ap, subst, arith, rules}
use Rattle.std.specs.Prelude.{slice_get}
use Rattle.std.specs.Char.{is_ascii_digit}
use Rattle.std.specs.Fmt.{decimal, signed_decimal}
use Rattle.std.specs.Str.Parse.{digits_value}
use Rattle.std.proofs.lemmas.Bool.Decides.{Decides-eqb}
use Rattle.std.proofs.lemmas.Fmt.{digits_decimal}
use Rattle.std.proofs.lemmas.Option.{slice_get-get_or}
use Rattle.std.proofs.lemmas.Str.Parse.{IsNumeralModel, numerals_by_value}
use Rattle.chor_base.specs.declared.names.NameId.{NameId}
use Rattle.chor_lexer.specs.Lexeme.{word, is_word_byte}
use Rattle.chor_lexer.proofs.Runs.{Passes}
use Rattle.chor_lexer.proofs.Pieces.{word_passes}
use Rattle.transcript.specs.Text.{Words, name_text, process_named, process_text}
use Rattle.event_reader.specs.Fields.{IsFree}
use Rattle.event_reader.specs.Known.{AreWords, IsSmall, IsInt, HasName, HasNameOf, HasProcess, HasPart}
use Rattle.event_reader.specs.Bodies.{session_text, part_text}

-- bytes that pass a test that the separator fails
pub passes_free : (p : ℕ → Bool) (c : ℕ) → p c ≡ false → (w : List ℕ) → Passes p w → IsFree c w
passes_free p c out [] h = tt
passes_free p c out (b ∷ w) h = (go (b == c) refl, passes_free p c out w h.1)
  where
    go : (v : Bool) → (b == c) ≡ v → not (b == c) ≡ true
    go true e = let yes : p c ≡ true = subst (λ k. p k ≡ true) ((Decides-eqb b c).0 e) h.0 in absurd cc
    go false e = ap not e

pub free_append : (c : ℕ) (a b : List ℕ) → IsFree c a → IsFree c b → IsFree c (a ++ b)
free_append c [] b f g = g
free_append c (x ∷ a) b f g = (f.0, free_append c a b f.1 g)

digits : IsNumeralModel (λ ds. Passes is_ascii_digit ds) (digits_value 10)
digits = numerals_by_value _ (search rules)

pub decimal_free : (c n : ℕ) → is_ascii_digit c ≡ false → n < 2 ^ 64 → IsFree c (decimal n)
decimal_free c n out h = passes_free is_ascii_digit c out (decimal n) (digits_decimal digits n h)

pub signed_free : (c : ℕ) (z : ℤ) → is_ascii_digit c ≡ false → not (45 == c) ≡ true → IsInt z → IsFree c (signed_decimal z)
signed_free c (pos n) out minus h = decimal_free c n out (omega arith)
signed_free c (negsuc n) out minus h = (minus, decimal_free c (suc n) out (omega arith))

pub session_free : (c s : ℕ) → is_ascii_digit c ≡ false → not (35 == c) ≡ true → IsSmall s → IsFree c (session_text s)
session_free c s out mark h = (mark, decimal_free c s out (omega arith))

-- the word of a name
pub name_there : (w : Words) (x : NameId) → HasName w x → slice_get w.names x.0 ≡ Some (name_text w x)
name_there w x h = slice_get-get_or w.names x.0 [] h

pub name_free : (w : Words) (c : ℕ) (x : NameId) → AreWords w.names → is_word_byte c ≡ false → HasName w x → IsFree c (name_text w x)
name_free w c x words out h = passes_free is_word_byte c out (name_text w x) (word_passes (word (name_text w x)) (name_text w x) (words x.0 (name_text w x) (name_there w x h)) refl)

pub process_free : (w : Words) (c p : ℕ) → AreWords w.names → is_word_byte c ≡ false → is_ascii_digit c ≡ false → not (37 == c) ≡ true → HasProcess w p → IsFree c (process_text w p)
process_free w c p words out none mark h = go (slice_get w.processes p) h.1
  where
    go : (o : Option NameId) → HasNameOf w o → IsFree c (process_named w p o)
    go (Some x) k = name_free w c x words out k
    go None k = (mark, decimal_free c p none (let small = h.0 in omega arith))

pub part_free : (w : Words) (q : NameId × ℕ) → AreWords w.names → HasPart w q → IsFree 32 (part_text w q)
part_free w q words h = free_append 32 (name_text w q.0) (61 ∷ process_text w q.1) (name_free w 32 q.0 words refl h.0) (refl, process_free w 32 q.1 words refl refl refl h.1)

-- no name begins with a percent sign
pub no_percent : (w : Words) (x : NameId) (rest : List ℕ) → AreWords w.names → HasName w x → 37 ∷ rest ≡ name_text w x → ⊥
no_percent w x rest words h e = let free : IsFree 37 (37 ∷ rest) = subst (IsFree 37) (sym e) (name_free w 37 x words refl h) in absurd (clash free.0)
  where
    clash : not (37 == 37) ≡ true → ⊥
    clash q = absurd cc
