use Rattle.std.proofs.Common.{◌≡◌, ℕ, List, true, sym, ◌∙◌, subst, refl}
use Rattle.dl_app.specs.declared.options.Setting.{Setting}
use Rattle.dl_app.specs.declared.options.Settings.{Settings}
use Rattle.dl_app.specs.Words.{words_left}
use Rattle.dl_app.specs.Settings.{no_settings, is_set}
use Rattle.dl_app.proofs.Forms.{none_holds}
use Rattle.dl_app.proofs.Chosen.{none_given, ReadOn, both_ways, read_gives, read_more, read_less, set_alike}
use Rattle.dl_app.proofs.Written.{same_sort}
use Rattle.dl_app.proofs.options.settings_in.Goals as goal

pub returns-in_err-setting_in-clause-none : goal.returns-in_err-setting_in-clause-none
returns-in_err-setting_in-clause-none c =
    none_holds _ _
    (none_given (words_left c.args.options) c.loop-option.settings (words_left c.loop-option.option-iterator) c.in-Some.option.now (words_left c.next.new.self) c.in-Some.ensures.steps c.loop-option.invariant.back
    (λ (s : Setting) writes unset. c.in_err-setting_in.ensures.none s writes))

pub returns-in_err-add-clause-none : goal.returns-in_err-add-clause-none
returns-in_err-add-clause-none c =
    let all = c.loop-option.settings in
    let option = c.in-Some.option.now in
    let again = c.in_ok-setting_in.field-0 in
    let set : is_set all again ≡ true = c.in_err-add.ensures.twice in
    none_holds _ _
    (none_given (words_left c.args.options) all (words_left c.loop-option.option-iterator) option (words_left c.next.new.self) c.in-Some.ensures.steps c.loop-option.invariant.back
    (λ (s : Setting) writes unset. both_ways (is_set all again) set (sym (set_alike all s again (same_sort option s again writes c.in_ok-setting_in.ensures.form)) ∙ unset)))

pub returns-clause-form : goal.returns-clause-form
returns-clause-form c =
    let last : ReadOn c.loop-option.settings (words_left c.loop-option.option-iterator) c.loop-option.settings =
    subst (λ (l : List (List ℕ)). ReadOn c.loop-option.settings l c.loop-option.settings) (sym c.in-None.ensures.steps.0) refl in
    let read = read_gives no_settings (words_left c.args.options) c.loop-option.settings (c.loop-option.invariant.on c.loop-option.settings last) in
    (read.0, read.1, read.3)

pub loop-option-preserved : goal.loop-option-preserved
loop-option-preserved c =
    let all = c.loop-option.settings in
    let left = words_left c.loop-option.option-iterator in
    let option = c.in-Some.option.now in
    let rest = words_left c.next.new.self in
    let s = c.in_ok-setting_in.field-0 in
    let next = c.add.new.self in
    let fresh = c.in_ok-add.ensures.added in
    record {
      on = λ (new : Settings) read. c.loop-option.invariant.on new (read_more all left option rest s next new c.in-Some.ensures.steps c.in_ok-setting_in.ensures.form fresh.0 fresh.1 read);
      back = λ read. read_less all left option rest s next c.in-Some.ensures.steps c.in_ok-setting_in.ensures.form fresh.1 (c.loop-option.invariant.back read);
    }
