use Rattle.std.proofs.Common.{◌≡◌, ℕ, sym, arith, subst, List}
use Rattle.std.specs.Str.Parse.{ParsesUnsigned}
use Rattle.std.proofs.lemmas.Str.{IsUtf8-from_ascii}
use Rattle.std.proofs.lemmas.Fmt.{IsAscii-decimal}
use Rattle.std.specs.Str.{IsUtf8}
use Rattle.event_reader.proofs.Answers.{no_reading}
use Rattle.event_reader.proofs.Numerals.{some_digits, no_plus, no_zeros, parsed}
use Rattle.event_reader.proofs.numbers.long_of.Goals as goal

pub returns-in_err-first : goal.returns-in_err-first
returns-in_err-first c = no_reading _ _ _ _ c.from_residual.ensures (λ n h e. some_digits c.args.digits.now n h (sym c.in_err-first.ensures.value) e)

pub returns-then-first-eq43 : goal.returns-then-first-eq43
returns-then-first-eq43 c = λ n h e. no_plus c.args.digits.now _ n (sym c.in_ok-first.ensures.value) c.if-first-eq43.true h e

pub returns-then-digits-gt1 : goal.returns-then-digits-gt1
returns-then-digits-gt1 c = λ n h e. no_zeros c.args.digits.now _ n (sym c.in_ok-first.ensures.value) c.if-first-eq48.true c.if-digits-gt1.true h e

pub returns-in-Ok : goal.returns-in-Ok
returns-in-Ok c =
    let same : c.in-Ok.text.now ≡ c.args.digits.now = c.in-Ok.ensures.cases.0 in
    parsed _ c.args.digits.now _ _ _ c.ok.ensures.value (subst (λ (bs : List ℕ). ParsesUnsigned 64 10 bs c.parse.result) same c.parse.ensures.value.0) (sym c.in_ok-first.ensures.value) c.if-first-eq43.false (λ zero. omega (arith, c.else-first-eq48.either))

pub returns-in-Err : goal.returns-in-Err
returns-in-Err c = λ n h e. c.in-Err.ensures.cases.0 (subst IsUtf8 (sym e) (IsUtf8-from_ascii _ (IsAscii-decimal n h)))
