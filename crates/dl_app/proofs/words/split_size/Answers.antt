use Rattle.std.proofs.Common.{rules, ◌≡◌, ℕ, ◌+◌, Option, Some, None, subst}
use Rattle.std.proofs.lemmas.List.{take_rest}
use Rattle.memchr.specs.Find.{IsFirstByte, is_byte}
use Rattle.dl_app.proofs.Forms.{none_holds}
use Rattle.dl_app.proofs.Sizes.{first_parts, no_parts}
use Rattle.dl_app.proofs.words.split_size.Goals as goal

pub returns-in_err-end-clause-none : goal.returns-in_err-end-clause-none
returns-in_err-end-clause-none c =
    let is : c.memchr.result ≡ None = search rules in
    none_holds _ _ (no_parts c.args.word.now (subst (λ (r : Option ℕ). IsFirstByte (is_byte 120) c.args.word.now r) is c.memchr.ensures))

pub returns-clause-parts : goal.returns-clause-parts
returns-clause-parts c =
    let is : c.memchr.result ≡ Some c.in_ok-end.end = search rules in
    let at = subst (λ (r : Option ℕ). IsFirstByte (is_byte 120) c.args.word.now r) is c.memchr.ensures in
    rw (take_rest c.args.word.now (c.in_ok-end.end + 1)) (first_parts c.args.word.now c.in_ok-end.end at)
