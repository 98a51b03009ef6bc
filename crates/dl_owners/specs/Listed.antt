-- Lists of logs that have something that most have not, so that no log is looked up for it while its list is empty.
use Rattle.std.specs.Prelude.{◌≡◌, List, Bool, true, is_some}
use Rattle.std.specs.List.{list_any}
use Rattle.dl_types.specs.declared.name.Name.{Name}
use Rattle.dl_types.specs.Members.{Members}
use Rattle.dl_types.specs.Name.{same_name}
use Rattle.dl_owners.specs.Table.{OwnerTable, members_of}

-- a log is one of these
abbrev pub is_listed : List Name → Name → Bool
is_listed names log = list_any (same_name log) names

-- somebody blocks the log
abbrev pub is_blocked : Members → Bool
is_blocked m = is_some m.blocker

-- an owner of the log wants notices
abbrev pub is_told : Members → Bool
is_told m = list_any (λ o. o.notify) m.owners

-- each log with such members is one of these
abbrev pub AreListed : (Members → Bool) → OwnerTable → List Name → Type 0
AreListed such table names = (log : Name) → such (members_of table log) ≡ true → is_listed names log ≡ true
