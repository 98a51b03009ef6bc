use Rattle.std.proofs.Common.{◌≡◌, ◌<◌, ◌∷◌, [], sym, ◌∙◌, refl, arith}
use Rattle.std.specs.Char.{digit_value}
use Rattle.std.proofs.lemmas.Slice.Eq.{bytes_eq-Decides}
use Rattle.dl_digest.specs.declared.line.Extent.{Extent}
use Rattle.dl_digest.specs.declared.line.Extent.TheVariants as extent
use Rattle.dl_digest.specs.Line.{extent_text, IsExtent}
use Rattle.dl_digest.proofs.Words.{decimal_begins}
use Rattle.dl_digest.proofs.parse.extent_in.Goals as goal

-- the word `all` is of all items alone
all_alone : (e : Extent) → IsExtent e → extent_text e ≡ 97 ∷ 108 ∷ 108 ∷ [] → extent.All ≡ e
all_alone (extent.File generation) is text =
    let h : digit_value 97 < 10 = decimal_begins generation 97 (108 ∷ 108 ∷ []) is text in absurd (omega (arith, h))
all_alone extent.All is text = refl

pub returns-then-eq-clause-read : goal.returns-then-eq-clause-read
returns-then-eq-clause-read c e is text =
    let word : c.args.word.now ≡ 97 ∷ 108 ∷ 108 ∷ [] = (bytes_eq-Decides c.args.word.now (97 ∷ 108 ∷ 108 ∷ [])).0 (sym c.eq.ensures ∙ c.if-eq.true) in
    let one : extent.All ≡ e = all_alone e is (text ∙ word) in
    cc (one)
