-- What options have set so far.
use Rattle.std.specs.Prelude.{Bool, Some, None, is_some, unwrap_or}
use Rattle.dl_types.specs.declared.size.OpenArgs.{OpenArgs}
use Rattle.dl_app.specs.declared.options.Setting.{Setting}
use Rattle.dl_app.specs.declared.options.Setting.TheVariants as setting
use Rattle.dl_app.specs.declared.options.Settings.{Settings}
use Rattle.dl_app.specs.Items.{head_bytes}

-- nothing is set
abbrev pub no_settings : Settings
no_settings = record { base = None; size = None; mode = None; repair = None; head = None; notify = None; link = None; hold = None }

-- a setting of this sort is among them
abbrev pub is_set : Settings → Setting → Bool
is_set all (setting.Base base) = is_some all.base
is_set all (setting.Size size) = is_some all.size
is_set all (setting.Mode mode) = is_some all.mode
is_set all (setting.Repair repair) = is_some all.repair
is_set all (setting.Head head) = is_some all.head
is_set all (setting.Notify notify) = is_some all.notify
is_set all (setting.Link link) = is_some all.link
is_set all (setting.Hold blocks) = is_some all.hold

-- settings and one more
abbrev pub also_set : Settings → Setting → Settings
also_set all (setting.Base base) = record all { base = Some base }
also_set all (setting.Size size) = record all { size = Some size }
also_set all (setting.Mode mode) = record all { mode = Some mode }
also_set all (setting.Repair repair) = record all { repair = Some repair }
also_set all (setting.Head head) = record all { head = Some head }
also_set all (setting.Notify notify) = record all { notify = Some notify }
also_set all (setting.Link link) = record all { link = Some link }
also_set all (setting.Hold blocks) = record all { hold = Some blocks }

-- arguments of no base, no size, no head item and no number of blocks, with these settings
abbrev pub args_of : {Z : Type 0} → Settings → OpenArgs Z → OpenArgs Z
args_of all args = record {
  base = all.base;
  kind = args.kind;
  size = all.size;
  mode = unwrap_or all.mode args.mode;
  repair = unwrap_or all.repair args.repair;
  head = head_bytes all.head;
  notify = unwrap_or all.notify args.notify;
  link = unwrap_or all.link args.link;
  hold = all.hold;
}
