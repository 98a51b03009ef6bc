use Rattle.std.proofs.Common.{◌≡◌, ◌++◌, ℕ, List, sym, ap, ◌∙◌, subst, append_assoc}
use Rattle.std.specs.List.{flat_map}
use Rattle.std.specs.Slice.Iter.{chunks_rest}
use Rattle.std.specs.Io.KnownBytes.{Appends}
use Rattle.std.proofs.KnownBytes.{Appends-trans}
use Rattle.std.proofs.lemmas.List.Concat.{flat_map-append}
use Rattle.dl_lines.specs.Digits.{hex}
use Rattle.dl_app.proofs.script.show_bytes.Goals as goal

pub loop-part-preserved : goal.loop-part-preserved
loop-part-preserved g c =
    let done = c.loop-part.invariant.0 in
    let part = c.in-Some.part.now in
    let text : c.as_slice.result.now ≡ flat_map hex part =
    c.as_slice.ensures.value ∙ c.in_ok-push_hex.ensures ∙ ap (λ (l : List ℕ). l ++ flat_map hex part) c.clear.ensures.items in
    let old = g.W.Write.contents c.args.output.now in
    let new = g.W.Write.contents c.write_answer.new.output in
    let written = subst (Appends (g.W.Write.contents c.loop-part.output) new) text c.in_ok-write_answer.ensures.written in (
      done ++ part,
      c.loop-part.invariant.1 ∙ ap (λ (l : List ℕ). done ++ l) c.in-Some.ensures.steps.1.0 ∙ sym (append_assoc done part (chunks_rest c.next.new.self)),
      subst (Appends old new) (sym (flat_map-append hex done part)) (Appends-trans _ _ _ (flat_map hex done) (flat_map hex part) c.loop-part.invariant.2 written),
    )
