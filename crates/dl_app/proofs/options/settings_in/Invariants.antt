-- If the options that are left are read on from the settings so far, all options are read from no settings; and if all can be read, so can those that are left.
use Rattle.dl_app.specs.declared.options.Settings.{Settings}
use Rattle.dl_app.specs.Words.{words_left}
use Rattle.dl_app.specs.Settings.{no_settings}
use Rattle.dl_app.proofs.Chosen.{ReadOn, CanRead}
use Rattle.dl_app.proofs.options.settings_in.Given as goal

abbrev pub invariant-loop-option : goal.invariant-loop-option
invariant-loop-option l = record {
  on : (new : Settings) → ReadOn l.settings (words_left l.option-iterator) new → ReadOn no_settings (words_left l.options) new;
  back : CanRead no_settings (words_left l.options) → CanRead l.settings (words_left l.option-iterator);
}
