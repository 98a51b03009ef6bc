use Rattle.std.proofs.Common.{◌≡◌, ◌+◌, ◌*◌, ◌^◌, ◌<◌, ◌≤◌, true, length, take, get_or, refl, sym, ap, ◌∙◌, Some, arith}
use Rattle.std.specs.List.{list_all}
use Rattle.std.specs.Char.{is_ascii_digit, digit_value}
use Rattle.std.specs.Str.Parse.{digits_value}
use Rattle.std.proofs.lemmas.Bool.{eqb-false}
use Rattle.std.proofs.lemmas.List.{take_all}
use Rattle.std.proofs.lemmas.List.Folds.{list_all_more}
use Rattle.std.proofs.lemmas.Int.Digits.{digits_value_more}
use Rattle.dl_app.proofs.Numbers.{bad_digit, overflows, is_number, digit_of}
use Rattle.dl_app.proofs.words.number.Goals as goal

pub returns-then-not-is_ascii_digit : goal.returns-then-not-is_ascii_digit
returns-then-not-is_ascii_digit c =
    sym (bad_digit c.args.word.now c.loop-byte.byte-index c.loop-byte-test.true
    (sym c.is_ascii_digit.ensures.value ∙ c.if-not-is_ascii_digit.true))

pub returns-in_err-checked_mul : goal.returns-in_err-checked_mul
returns-in_err-checked_mul c =
    let word = c.args.word.now in
    let i = c.loop-byte.byte-index in
    let large : 2 ^ 64 ≤ digits_value 10 (take i word) * 10 + digit_value (get_or word i 0) =
    omega (arith, c.in_err-checked_mul.ensures, c.loop-byte.invariant.value) in
    c.from_residual.ensures ∙ sym (overflows word i c.loop-byte-test.true large)

pub returns-in_err-number : goal.returns-in_err-number
returns-in_err-number c =
    let word = c.args.word.now in
    let i = c.loop-byte.byte-index in
    let digit = digit_of (get_or word i 0) (sym c.is_ascii_digit.ensures.value ∙ c.if-not-is_ascii_digit.false) in
    let large : 2 ^ 64 ≤ digits_value 10 (take i word) * 10 + digit_value (get_or word i 0) =
    omega (arith, digit, c.in_err-number.ensures, c.in_ok-checked_mul.ensures, c.from-digit.ensures, c.loop-byte.invariant.value) in
    c.from_residual-in_err-number.ensures ∙ sym (overflows word i c.loop-byte-test.true large)

pub loop-byte-preserved : goal.loop-byte-preserved
loop-byte-preserved c =
    let word = c.args.word.now in
    let i = c.loop-byte.byte-index in
    let is_digit : is_ascii_digit (get_or word i 0) ≡ true = sym c.is_ascii_digit.ensures.value ∙ c.if-not-is_ascii_digit.false in
    let digit = digit_of (get_or word i 0) is_digit in
    let more = digits_value_more 10 word i c.loop-byte-test.true in
    record {
      digits = list_all_more is_ascii_digit word i 0 c.loop-byte-test.true ∙ rw (c.loop-byte.invariant.digits, is_digit) refl;
      value = omega (arith, digit, more, c.in_ok-number.ensures, c.in_ok-checked_mul.ensures, c.from-digit.ensures, c.loop-byte.invariant.value);
      fits = omega (arith, c.in_ok-number.ensures);
    }

pub returns : goal.returns
returns c =
    let word = c.args.word.now in
    let all : take c.loop-byte.byte-index word ≡ word = take_all c.loop-byte.byte-index word (omega arith) in
    let filled : length word ≡ 0 → ⊥ = eqb-false (length word) 0 (sym c.if-is_empty.ensures) in
    let some : 0 < length word = omega arith in
    let value : c.loop-byte.number ≡ digits_value 10 word = c.loop-byte.invariant.value ∙ ap (digits_value 10) all in
    let small : digits_value 10 word < 2 ^ 64 = omega (arith, value, c.loop-byte.invariant.fits) in
    let digits : list_all is_ascii_digit word ≡ true = sym (ap (list_all is_ascii_digit) all) ∙ c.loop-byte.invariant.digits in
    ap Some value ∙ sym (is_number word some digits small)
