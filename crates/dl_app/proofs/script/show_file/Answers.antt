use Rattle.std.proofs.Common.{◌≡◌, ◌++◌, ◌∷◌, [], ℕ, List, Some, None, Ok, Err, OnOk, refl, sym, ap, ◌∙◌, subst, codes}
use Rattle.std.specs.List.{flat_map}
use Rattle.std.specs.Prelude.{option_map}
use Rattle.std.specs.Io.KnownBytes.{Appends}
use Rattle.dl_hub.specs.declared.fault.FileFault.TheVariants.{Device}
use Rattle.dl_lines.specs.Digits.{hex}
use Rattle.dl_app.specs.Answers.{IsLineOf}
use Rattle.dl_app.specs.Script.{HasRead, IsShown, ShowsFile}
use Rattle.dl_app.proofs.Scripts.{answered}
use Rattle.dl_app.proofs.script.show_file.Goals as goal

pub returns-in-Ok-Some-clause-shown : goal.returns-in-Ok-Some-clause-shown
returns-in-Ok-Some-clause-shown g c =
    let D = g.D.Disk in
    let file = c.args.file in
    let bytes = c.in-Ok-Some.bytes in
    let old = g.W.Write.contents c.args.output.now in
    let new = g.W.Write.contents c.show_bytes.new.output in
    let read : HasRead D.state file c.args.hub.now c.read_file.new.self (Ok (Some bytes.items)) = record {
      logs = c.read_file.ensures.logs;
      lingering = c.read_file.ensures.lingering;
      cache = c.read_file.ensures.cache;
      owners = c.read_file.ensures.owners;
      opened = c.read_file.ensures.opened;
      files = c.read_file.ensures.content;
      acts = c.read_file.ensures.acts;
      text = λ h. sym (ap (option_map (λ v. v.items)) c.in-Ok-Some.field-0-is) ∙ c.in-Ok-Some.ensures.text h;
      fault = λ is. let bad : ⊥ = cc in absurd bad;
    } in
    let value : c.as_slice.result.now ≡ bytes.items = cc (c.as_slice.ensures.value, c.in-Ok-Some.bytes-is) in
    answered c.show_bytes.result (ShowsFile D.state file c.args.hub.now c.read_file.new.self) (Appends old new) (flat_map hex bytes.items ++ 10 ∷ [])
    (Ok (Some bytes.items), read, (flat_map hex bytes.items, refl, refl))
    (subst (λ (l : List ℕ). OnOk c.show_bytes.result (Appends old new (flat_map hex l ++ 10 ∷ []))) value c.show_bytes.ensures.shown)

pub returns-in-Ok-None-clause-shown : goal.returns-in-Ok-None-clause-shown
returns-in-Ok-None-clause-shown g c =
    let D = g.D.Disk in
    let file = c.args.file in
    let read : HasRead D.state file c.args.hub.now c.read_file.new.self (Ok None) = record {
      logs = c.read_file.ensures.logs;
      lingering = c.read_file.ensures.lingering;
      cache = c.read_file.ensures.cache;
      owners = c.read_file.ensures.owners;
      opened = c.read_file.ensures.opened;
      files = c.read_file.ensures.content;
      acts = c.read_file.ensures.acts;
      text = λ h. sym (ap (option_map (λ v. v.items)) c.in-Ok-None.field-0-is) ∙ c.in-Ok-None.ensures.text h;
      fault = λ is. let bad : ⊥ = cc in absurd bad;
    } in
    answered c.write_answer.result (ShowsFile D.state file c.args.hub.now c.read_file.new.self)
    (Appends (g.W.Write.contents c.args.output.now) (g.W.Write.contents c.write_answer.new.output)) (codes "no file" ++ 10 ∷ [])
    (Ok None, read, (codes "no file", refl, refl)) c.write_answer.ensures.written

pub returns-in_ok-put_refusal-in-Err-Device-clause-shown :
    goal.returns-in_ok-put_refusal-in-Err-Device-clause-shown
returns-in_ok-put_refusal-in-Err-Device-clause-shown g c =
    let D = g.D.Disk in
    let file = c.args.file in
    let read : HasRead D.state file c.args.hub.now c.read_file.new.self (Err Device) = record {
      logs = c.read_file.ensures.logs;
      lingering = c.read_file.ensures.lingering;
      cache = c.read_file.ensures.cache;
      owners = c.read_file.ensures.owners;
      opened = c.read_file.ensures.opened;
      files = c.read_file.ensures.content;
      acts = c.read_file.ensures.acts;
      text = λ h. tt;
      fault = λ is. c.in-Err-Device.ensures.fault (ap Err c.in-Err-Device.field-0-is);
    } in
    let line = subst (IsLineOf (IsShown file (Err Device))) (sym c.as_slice-in-Err-Device.ensures.value) c.in_ok-put_refusal-in-Err-Device.ensures.line in
    answered c.write_answer-in-Err-Device.result (ShowsFile D.state file c.args.hub.now c.read_file.new.self)
    (Appends (g.W.Write.contents c.args.output.now) (g.W.Write.contents c.write_answer-in-Err-Device.new.output)) c.as_slice-in-Err-Device.result.now
    (Err Device, read, line) c.write_answer-in-Err-Device.ensures.written
