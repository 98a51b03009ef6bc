use Rattle.std.proofs.Common.{◌≡◌, ◌∙◌, List, [], true, None, position, get_or, subst, sym, ap}
use Rattle.std.specs.List.{list_any}
use Rattle.dl_types.specs.declared.file.FileName.{FileName}
use Rattle.dl_types.specs.declared.file.Part.TheVariants.{Halt}
use Rattle.dl_disk.specs.Owed.{is_beside, is_known}
use Rattle.dl_disk.proofs.Owed.{base_beside, eq, found_at, known_under, none_found}
use Rattle.dl_disk.proofs.folder.by_base.FilesByBase.beside.Goals as goal

pub returns-in-Some-position_beside-clause-some : goal.returns-in-Some-position_beside-clause-some
returns-in-Some-position_beside-clause-some c =
    let names = c.as_slice-names.result.now in
    let other = get_or names c.in-Some-position_beside.at (record { base = record { text = [] }; part = Halt }) in
    let found = found_at (is_beside c.args.file) names c.in-Some-position_beside.at (record { base = record { text = [] }; part = Halt }) c.in-Some-position_beside.ensures.value in
    let here : list_any (eq other) c.in-Some.files.now.keys ≡ true = subst (λ (ks : List FileName). list_any (eq other) ks ≡ true) c.as_slice-names.ensures.keys found.1 in
    (known_under c.args.self.now c.args.file.base other (base_beside c.args.file other found.0) ∙ ap (λ o. is_known o other) (sym c.in-Some.ensures.value) ∙ here, found.0)

pub returns-in-None-clause-none : goal.returns-in-None-clause-none
returns-in-None-clause-none c other is =
    let none = subst (λ (ks : List FileName). None ≡ position (is_beside c.args.file) ks) c.as_slice-names.ensures.keys c.in-None.ensures.value in
    known_under c.args.self.now c.args.file.base other (base_beside c.args.file other is) ∙ ap (λ o. is_known o other) (sym c.in-Some.ensures.value)
    ∙ none_found (is_beside c.args.file) c.in-Some.files.now.keys none other is
