use Rattle.std.proofs.Common.{rules, ◌≡◌, ◌≢◌, ℕ, None, codes}
use Rattle.dl_app.proofs.Forms.{none_holds}
use Rattle.dl_app.specs.Words.{number_in, small_of}
use Rattle.dl_app.proofs.Sizes.{none_some, no_wrap}
use Rattle.dl_app.proofs.words.size.Goals as goal

pub returns-in_err-number-2-clause-none : goal.returns-in_err-number-2-clause-none
returns-in_err-number-2-clause-none c =
    let other : c.args.word.now ≢ codes "inf" = search rules in
    let none : number_in c.in-Some.bytes.now ≡ None = search rules in
    none_holds _ _ (no_wrap c.args.word.now c.in-Some.bytes.now c.in-Some.files.now other c.in-Some.ensures.parts.0 c.in-Some.ensures.parts.1 (λ (bytes files : ℕ) first second. none_some _ bytes none first))

pub returns-in_err-small_number-clause-none : goal.returns-in_err-small_number-clause-none
returns-in_err-small_number-clause-none c =
    let other : c.args.word.now ≢ codes "inf" = search rules in
    let none : small_of (number_in c.in-Some.files.now) ≡ None = search rules in
    none_holds _ _ (no_wrap c.args.word.now c.in-Some.bytes.now c.in-Some.files.now other c.in-Some.ensures.parts.0 c.in-Some.ensures.parts.1 (λ (bytes files : ℕ) first second. none_some _ files none second))
