-- Sets of files in which one file is put, or taken out of.
use Rattle.std.proofs.Common.{◌≡◌, Bool, true, false, ◌&&◌, not, cond, refl, sym, ◌∙◌, ap, IsTrue, Result, Ok, Err, IsOk, OnOk}
use Rattle.dl_types.specs.declared.file.FileName.{FileName}
use Rattle.dl_types.proofs.Keys.{file_eq_decides}
use Rattle.dl_disk.proofs.Owed.{eq}

-- what is in doubt and not running stays so where a file comes to be in doubt and is not running
pub lost_with : (same doubtful running doubtful' running' : Bool) → doubtful' ≡ cond same true doubtful → running' ≡ cond same false running
    → IsTrue (doubtful && not running) → IsTrue (doubtful' && not running')
lost_with true doubtful running doubtful' running' added gone is = rw added (rw gone refl)
lost_with false doubtful running doubtful' running' added gone is = rw added (rw gone is)

-- it stays so where a file that was running is taken out of both
pub lost_apart : (same doubtful running doubtful' running' : Bool) → (same ≡ true → running ≡ true) → doubtful' ≡ cond same false doubtful → running' ≡ cond same false running
    → IsTrue (doubtful && not running) → IsTrue (doubtful' && not running')
lost_apart true doubtful running doubtful' running' was added gone is = by doubtful running (was refl) is
  where
    by : (a b : Bool) → b ≡ true → IsTrue (a && not b) → IsTrue (doubtful' && not running')
    by true true t lost = cc
    by false true t lost = cc
    by true false t lost = cc
    by false false t lost = cc
lost_apart false doubtful running doubtful' running' was added gone is = rw added (rw gone is)

-- what is true of a file is true of one with its name
pub same_named : (has : FileName → Bool) (file other : FileName) → has file ≡ true → eq file other ≡ true → has other ≡ true
same_named has file other is same = sym (ap has ((file_eq_decides file other).0 same)) ∙ is

-- what holds of a call that succeeds, where it succeeded
pub held : {T E : Type 0} (r : Result T E) (P : Type 0) → IsOk r → OnOk r P → P
held (Ok x) P ok holds = holds
held (Err y) P ok holds = cc
