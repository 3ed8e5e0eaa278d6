-- Numbers have one spelling.
use Rattle.std.proofs.Common.{◌≡◌, ◌≢◌, ◌<◌, ◌≤◌, ◌+◌, ◌-◌, ◌/◌, ◌%◌, ◌^◌, ◌++◌, ℕ, ℤ, pos, negsuc, suc, zero, List, [], ◌∷◌, length, get_or, Option, Some, None, Result, Ok, Err, sym, ap, ◌∙◌, subst, arith}
use Rattle.std.specs.Prelude.{slice_get, IsTrue, ◌↔◌, ◌==◌}
use Rattle.std.proofs.lemmas.Bool.Decides.{nat_tests}
use Rattle.std.specs.Option.{SomeIff}
use Rattle.std.specs.Result.{result_ok}
use Rattle.std.specs.Fmt.{decimal, signed_decimal}
use Rattle.std.specs.Str.Parse.{AllDigits, digits_value, ParsesUnsigned}
use Rattle.std.proofs.lemmas.Fmt.{decimal_nonempty, decimal_digit, decimal_step, first_decimal, digits_decimal, decimal_injective, decimal-digits_value, parse-decimal}
use Rattle.std.proofs.lemmas.List.{append_cancel_right}
use Rattle.std.proofs.lemmas.Str.Parse.{IsNumeralModel, numerals_by_value, tells_digits, digit_from_value, parse_plain}
use Rattle.event_reader.specs.Known.{IsInt}
use Rattle.event_reader.specs.Readings.{IsReading}

pub numeral : IsNumeralModel (AllDigits 10) (digits_value 10)
numeral = numerals_by_value (AllDigits 10) tells_digits

-- a number begins with a digit
pub first_digit : (n f : ℕ) (rest : List ℕ) → n < 2 ^ 64 → f ∷ rest ≡ decimal n → (48 ≤ f) × (f ≤ 57)
first_digit n f rest h e = go (subst (AllDigits 10) (sym e) (digits_decimal numeral n h))
  where
    go : AllDigits 10 (f ∷ rest) → (48 ≤ f) × (f ≤ 57)
    go d = let r = digit_from_value f d.0 in (omega (arith, r), omega (arith, r))

pub some_digits : (bs : List ℕ) (n : ℕ) → n < 2 ^ 64 → slice_get bs 0 ≡ None → bs ≡ decimal n → ⊥
some_digits [] n h at e = let l = decimal_nonempty n h in absurd (omega (arith, ap length e))
some_digits (b ∷ bs) n h at e = absurd cc

pub no_plus : (bs : List ℕ) (f n : ℕ) → slice_get bs 0 ≡ Some f → f ≡ 43 → n < 2 ^ 64 → bs ≡ decimal n → ⊥
no_plus [] f n at p h e = absurd cc
no_plus (b ∷ bs) f n at p h e = let same : b ≡ f = cc in let d = first_digit n b bs h e in absurd (omega arith)

pub no_zeros : (bs : List ℕ) (f n : ℕ) → slice_get bs 0 ≡ Some f → f ≡ 48 → 1 < length bs → n < 2 ^ 64 → bs ≡ decimal n → ⊥
no_zeros [] f n at z long h e = absurd cc
no_zeros (b ∷ bs) f zero at z long h e = absurd (omega (arith, ap length (e ∙ decimal_digit 0 (omega arith))))
no_zeros (b ∷ bs) f (suc n) at z long h e =
    let same : b ≡ f = cc in
    let first = first_decimal (suc n) (omega arith) h in
    let head : get_or (decimal (suc n)) 0 0 ≡ b = ap (λ (l : List ℕ). get_or l 0 0) (sym e) in
    absurd (omega arith)

pub parsed : (E : Type 0) (bs : List ℕ) (f : ℕ) (r : Result ℕ E) (o : Option ℕ) → o ≡ result_ok r → ParsesUnsigned 64 10 bs r → slice_get bs 0 ≡ Some f → f ≢ 43 → (f ≡ 48 → length bs ≤ 1) → IsReading (λ n. n < 2 ^ 64) decimal bs o
parsed E [] f r o e p at plus zeros = absurd cc
parsed E (b ∷ bs) f (Ok x) (Some y) e p at plus zeros =
    let same : b ≡ f = cc in
    let h = parse_plain numeral {E = E} 64 (b ∷ bs) (Ok x) p (λ q. plus (sym same ∙ q)) in
    let is : y ≡ digits_value 10 (b ∷ bs) = same_some y x e ∙ h.1 in
    let small = h.0.2 in
    (omega arith, sym (ap decimal is ∙ decimal-digits_value numeral (b ∷ bs) h.0.0 (omega arith) (λ q. let l = zeros (sym same ∙ q) in omega arith) small))
  where
    same_some : (y x : ℕ) → Some y ≡ Some x → y ≡ x
    same_some y x e = cc
parsed E (b ∷ bs) f (Ok x) None e p at plus zeros = absurd cc
parsed E (b ∷ bs) f (Err x) (Some y) e p at plus zeros = absurd cc
parsed E (b ∷ bs) f (Err x) None e p at plus zeros = λ n h q. let g = parse-decimal 64 n (b ∷ bs) (Err x) h h q p in absurd cc

-- one digit
pub digit_read : (d : ℕ) → 48 ≤ d → d ≤ 57 → IsReading (λ n. n < 2 ^ 64) decimal (d ∷ []) (Some (d - 48))
digit_read d low high =
    let same : 48 + (d - 48) ≡ d = omega arith in
    (omega arith, sym (decimal_digit (d - 48) (omega arith) ∙ ap (λ (b : ℕ). b ∷ []) same))

pub no_digit : (d : ℕ) → ((48 ≤ d) × (d ≤ 57) → ⊥) → IsReading (λ n. n < 2 ^ 64) decimal (d ∷ []) None
no_digit d none = λ n h e. none (first_digit n d [] h e)

-- ---- a number that is given

-- these bytes are those of the one number where those are of the other
pub record SameTexts (digits : List ℕ) (number : ℕ) (rest : List ℕ) (left : ℕ) : Type 0 where
  pub small : left < 2 ^ 64
  pub on : digits ≡ decimal number → rest ≡ decimal left
  pub back : rest ≡ decimal left → digits ≡ decimal number

pub before_last : (digits rest front : List ℕ) (number left : ℕ) → SameTexts digits number rest left → 10 ≤ left → rest ≡ front ++ (48 + left % 10) ∷ [] → SameTexts digits number front (left / 10)
before_last digits rest front number left s large cut =
    let step = decimal_step left large s.small in
    record {
      small = omega (arith, s.small);
      on = λ e. append_cancel_right front (decimal (left / 10)) ((48 + left % 10) ∷ []) (sym cut ∙ s.on e ∙ step);
      back = λ e. s.back (cut ∙ ap (λ (l : List ℕ). l ++ (48 + left % 10) ∷ []) e ∙ sym step);
    }

pub no_last : (digits rest : List ℕ) (number left : ℕ) → SameTexts digits number rest left → 10 ≤ left → ((front : List ℕ) → rest ≢ front ++ (48 + left % 10) ∷ []) → digits ≡ decimal number → ⊥
no_last digits rest number left s large none e = none (decimal (left / 10)) (s.on e ∙ decimal_step left large s.small)

has_one : (digits rest : List ℕ) (number left : ℕ) → SameTexts digits number rest left → left < 10 → digits ≡ decimal number → rest ≡ (48 + left) ∷ []
has_one digits rest number left s small e = s.on e ∙ decimal_digit left small

-- the only digit that is left
pub one_left : (digits rest : List ℕ) (number left : ℕ) → SameTexts digits number rest left → left < 10 → length rest ≡ 1 → IsTrue (get_or rest 0 0 == 48 + left) ↔ (digits ≡ decimal number)
one_left digits [] number left s small one = absurd cc
one_left digits (b ∷ []) number left s small one = (is, back)
  where
    is : IsTrue (b == 48 + left) → digits ≡ decimal number
    is t = let same : b ≡ 48 + left = grind (arith, nat_tests) in s.back (ap (λ (c : ℕ). c ∷ []) same ∙ sym (decimal_digit left small))

    back : digits ≡ decimal number → IsTrue (b == 48 + left)
    back e = let cut = has_one digits (b ∷ []) number left s small e in let same : b ≡ 48 + left = cc in grind (arith, nat_tests)
one_left digits (b ∷ c ∷ rest) number left s small one = absurd (omega (arith, one))

pub not_one_left : (digits rest : List ℕ) (number left : ℕ) → SameTexts digits number rest left → left < 10 → digits ≡ decimal number → length rest ≡ 1
not_one_left digits rest number left s small e = ap length (has_one digits rest number left s small e)

pub too_great : (bs : List ℕ) (n m : ℕ) → n < 2 ^ 64 → bs ≡ decimal n → 2 ^ 32 ≤ n → m < 2 ^ 32 → bs ≡ decimal m → ⊥
too_great bs n m h e great less q = let same = decimal_injective n m h (omega arith) (sym e ∙ q) in omega arith

-- ---- with a sign

minus_tail : (x y : ℕ) (xs ys : List ℕ) → x ∷ xs ≡ y ∷ ys → xs ≡ ys
minus_tail x y xs ys e = cc

pub no_below : (field digits : List ℕ) → field ≡ 45 ∷ digits → ((n : ℕ) → n < 2 ^ 64 → digits ≡ decimal n → ⊥) → (z : ℤ) → IsInt z → field ≡ signed_decimal z → ⊥
no_below field digits p none (pos n) h e = let d = first_digit n 45 digits (omega arith) (sym p ∙ e) in omega arith
no_below field digits p none (negsuc n) h e = none (suc n) (omega arith) (minus_tail 45 45 digits (decimal (suc n)) (sym p ∙ e))

pub below : (field digits : List ℕ) (size : ℕ) (o : Option ℤ) → field ≡ 45 ∷ digits → size < 2 ^ 64 → digits ≡ decimal size → SomeIff o ((0 < size) × (size ≤ 2 ^ 63)) (negsuc (size - 1)) → IsReading IsInt signed_decimal field o
below field digits size (Some z) p h e s =
    let low = s.0.0 in
    let high = s.0.1 in
    let less : size - 1 < 2 ^ 63 = omega arith in
    let whole : suc (size - 1) ≡ size = omega arith in
    (subst IsInt (sym s.1) less, p ∙ ap (λ (l : List ℕ). 45 ∷ l) (e ∙ ap decimal (sym whole)) ∙ ap signed_decimal (sym s.1))
below field digits size None p h e s = λ z is q. go z is q
  where
    go : (z : ℤ) → IsInt z → field ≡ signed_decimal z → ⊥
    go (pos n) is q = let d = first_digit n 45 digits (omega arith) (sym p ∙ q) in omega arith
    go (negsuc n) is q =
        let same = decimal_injective size (suc n) h (omega arith) (sym e ∙ minus_tail 45 45 digits (decimal (suc n)) (sym p ∙ q)) in
        s (omega arith, omega arith)

pub no_above : (field : List ℕ) → ((rest : List ℕ) → field ≢ 45 ∷ rest) → ((n : ℕ) → n < 2 ^ 64 → field ≡ decimal n → ⊥) → (z : ℤ) → IsInt z → field ≡ signed_decimal z → ⊥
no_above field p none (pos n) h e = none n (omega arith) e
no_above field p none (negsuc n) h e = p (decimal (suc n)) e

pub above : (field : List ℕ) (size : ℕ) (o : Option ℤ) → ((rest : List ℕ) → field ≢ 45 ∷ rest) → size < 2 ^ 64 → field ≡ decimal size → SomeIff o (size < 2 ^ 63) (pos size) → IsReading IsInt signed_decimal field o
above field size (Some z) p h e s = (subst IsInt (sym s.1) s.0, e ∙ ap signed_decimal (sym s.1))
above field size None p h e s = λ z is q. go z is q
  where
    go : (z : ℤ) → IsInt z → field ≡ signed_decimal z → ⊥
    go (pos n) is q = let same = decimal_injective size n h (omega arith) (sym e ∙ q) in s (omega arith)
    go (negsuc n) is q = p (decimal (suc n)) q
