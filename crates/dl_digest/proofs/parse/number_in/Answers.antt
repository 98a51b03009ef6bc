use Rattle.std.proofs.Common.{◌≡◌, Ok, Some, None, sym, ◌∙◌, ap}
use Rattle.std.specs.Fmt.{decimal}
use Rattle.std.proofs.lemmas.Fmt.{parse-decimal}
use Rattle.dl_digest.proofs.parse.number_in.Goals as goal

pub returns-in_err-number-clause-read : goal.returns-in_err-number-clause-read
returns-in_err-number-clause-read c n small is =
    let parsed : c.parse.result ≡ Ok n = parse-decimal 64 n c.args.word.now c.parse.result small small (sym is) c.parse.ensures.value.0 in
    let was : c.ok.result ≡ None = c.in_err-number.was in
    let h = rw parsed at c.ok.ensures.value in
    cc (h, was)

pub returns-then-is_written-clause-read : goal.returns-then-is_written-clause-read
returns-then-is_written-clause-read c n small is =
    let parsed : c.parse.result ≡ Ok n = parse-decimal 64 n c.args.word.now c.parse.result small small (sym is) c.parse.ensures.value.0 in
    let was : c.ok.result ≡ Some c.in_ok-number.number = c.in_ok-number.was in
    let h = rw parsed at c.ok.ensures.value in
    cc (h, was)

pub returns-else-is_written-clause-read : goal.returns-else-is_written-clause-read
returns-else-is_written-clause-read c n small is =
    let parsed : c.parse.result ≡ Ok n = parse-decimal 64 n c.args.word.now c.parse.result small small (sym is) c.parse.ensures.value.0 in
    let was : c.ok.result ≡ Some c.in_ok-number.number = c.in_ok-number.was in
    let h = rw parsed at c.ok.ensures.value in
    let same : c.in_ok-number.number ≡ n = cc (h, was) in
    let t = c.is_written.ensures.1 (ap decimal same ∙ is) in
    cc (t, c.if-is_written.false)
