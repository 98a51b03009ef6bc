-- Calls are read where they are written.
use Rattle.std.proofs.Common.{◌≡◌, ℕ, List, [], ◌++◌, Ok, refl, sym, subst}
use Rattle.dl_types.specs.declared.call.Call.{Call}
use Rattle.dl_types.specs.declared.call.Act.TheVariants as act
use Rattle.dl_types.specs.declared.call.Call.TheVariants as call
use Rattle.dl_types.specs.declared.name.Name.{Name}
use Rattle.dl_wire.specs.declared.op.Verb.{Verb}
use Rattle.dl_wire.specs.declared.op.Verb.TheVariants as verb
use Rattle.dl_wire.specs.Decode.{call_at}
use Rattle.dl_wire.specs.Fits.{IsCall}
use Rattle.dl_wire.specs.Request.{call_code, call_text}
use Rattle.dl_wire.proofs.Items.{reads_item, reads_list}
use Rattle.dl_wire.proofs.Names.{reads_base}
use Rattle.dl_wire.proofs.Opens.{reads_open}
use Rattle.dl_wire.proofs.Parts.{IsBytes, done, ok_is, Takes, TakesAs, one_takes, one_again, two_takes, two_again, reads_u64, reads_option}
use Rattle.dl_wire.proofs.Places.{reads_bool, reads_size, reads_i32, reads_place}

-- the number of a call
abbrev pub verb_code : Verb → ℕ
verb_code verb.Open = 1
verb_code verb.Log = 2
verb_code verb.Alog = 3
verb_code verb.Chunk = 4
verb_code verb.ChunkStep = 5
verb_code verb.Truncate = 6
verb_code verb.Reopen = 7
verb_code verb.NextFile = 8
verb_code verb.ChangeSize = 9
verb_code verb.Sync = 10
verb_code verb.Block = 11
verb_code verb.Unblock = 12
verb_code verb.Info = 13
verb_code verb.Close = 14

module _ {Z : Type 0} where
  -- which call it is
  abbrev pub verb_of : Call Z → Verb
  verb_of (call.Open args) = verb.Open
  verb_of (call.Act (act.Log items)) = verb.Log
  verb_of (call.Alog items) = verb.Alog
  verb_of (call.Act (act.Chunk from most)) = verb.Chunk
  verb_of (call.Act (act.ChunkStep from by)) = verb.ChunkStep
  verb_of (call.Act (act.Truncate head)) = verb.Truncate
  verb_of (call.Reopen target head) = verb.Reopen
  verb_of (call.Act act.NextFile) = verb.NextFile
  verb_of (call.Act (act.ChangeSize size)) = verb.ChangeSize
  verb_of (call.Act act.Sync) = verb.Sync
  verb_of (call.Block queue) = verb.Block
  verb_of call.Unblock = verb.Unblock
  verb_of (call.Act act.Info) = verb.Info
  verb_of call.Close = verb.Close

  pub code_of_verb : (c : Call Z) → verb_code (verb_of c) ≡ call_code c
  code_of_verb (call.Open args) = refl
  code_of_verb (call.Act (act.Log items)) = refl
  code_of_verb (call.Alog items) = refl
  code_of_verb (call.Act (act.Chunk from most)) = refl
  code_of_verb (call.Act (act.ChunkStep from by)) = refl
  code_of_verb (call.Act (act.Truncate head)) = refl
  code_of_verb (call.Reopen target head) = refl
  code_of_verb (call.Act act.NextFile) = refl
  code_of_verb (call.Act (act.ChangeSize size)) = refl
  code_of_verb (call.Act act.Sync) = refl
  code_of_verb (call.Block queue) = refl
  code_of_verb call.Unblock = refl
  code_of_verb (call.Act act.Info) = refl
  code_of_verb call.Close = refl

  -- a call of this verb on the log of this name
  abbrev pub IsOf : Verb → Name → Call Z → Type 0
  IsOf verb log c = IsCall log c × (call_code c ≡ verb_code verb)

  -- a call with no parts
  bare_takes : (verb : Verb) (log : Name) (c : Call Z) → call_text c ≡ [] → IsOf verb log c → (bytes : List ℕ) (x : Call Z × List ℕ) → IsBytes bytes → done (c, bytes) ≡ Ok x → TakesAs call_text (IsOf verb log) bytes x
  bare_takes verb log c none is bytes x fits e =
      subst (λ (y : Call Z × List ℕ). TakesAs call_text (IsOf verb log) bytes y) (ok_is (c, bytes) x e)
      (subst (λ (t : List ℕ). Takes bytes t bytes) (sym none) (record { parts = refl; rest_fits = fits }), is)

  pub call_takes : (verb : Verb) (log : Name) (bytes : List ℕ) (x : Call Z × List ℕ) → IsBytes bytes → call_at verb log bytes ≡ Ok x → TakesAs call_text (IsOf verb log) bytes x
  unfolding call_at
  call_takes verb.Open log = one_takes reads_open call.Open call_text (IsOf verb.Open log) (λ x fit. refl) (λ x fit. (fit, refl))
  call_takes verb.Log log = one_takes reads_list (λ x. call.Act (act.Log x)) call_text (IsOf verb.Log log) (λ x fit. refl) (λ x fit. (fit, refl))
  call_takes verb.Alog log = one_takes reads_list call.Alog call_text (IsOf verb.Alog log) (λ x fit. refl) (λ x fit. (fit, refl))
  call_takes verb.Chunk log = two_takes (reads_place log) reads_u64 (λ x z. call.Act (act.Chunk x z)) call_text (IsOf verb.Chunk log) (λ x z. refl) (λ x z fit also. ((fit, also), refl))
  call_takes verb.ChunkStep log = two_takes (reads_place log) reads_i32 (λ x z. call.Act (act.ChunkStep x z)) call_text (IsOf verb.ChunkStep log) (λ x z. refl) (λ x z fit also. ((fit, also), refl))
  call_takes verb.Truncate log = one_takes (reads_option reads_item) (λ x. call.Act (act.Truncate x)) call_text (IsOf verb.Truncate log) (λ x fit. refl) (λ x fit. (fit, refl))
  call_takes verb.Reopen log = two_takes reads_base (reads_option reads_item) call.Reopen call_text (IsOf verb.Reopen log) (λ x z. refl) (λ x z fit also. ((fit, also), refl))
  call_takes verb.NextFile log = bare_takes verb.NextFile log (call.Act act.NextFile) refl (tt, refl)
  call_takes verb.ChangeSize log = one_takes reads_size (λ x. call.Act (act.ChangeSize x)) call_text (IsOf verb.ChangeSize log) (λ x fit. refl) (λ x fit. (fit, refl))
  call_takes verb.Sync log = bare_takes verb.Sync log (call.Act act.Sync) refl (tt, refl)
  call_takes verb.Block log = one_takes reads_bool call.Block call_text (IsOf verb.Block log) (λ x fit. refl) (λ x fit. (fit, refl))
  call_takes verb.Unblock log = bare_takes verb.Unblock log call.Unblock refl (tt, refl)
  call_takes verb.Info log = bare_takes verb.Info log (call.Act act.Info) refl (tt, refl)
  call_takes verb.Close log = bare_takes verb.Close log call.Close refl (tt, refl)

  pub call_again : (log : Name) (c : Call Z) (rest : List ℕ) → IsCall log c → call_at (verb_of c) log (call_text c ++ rest) ≡ Ok (c, rest)
  unfolding call_at
  call_again log (call.Open args) rest fit = one_again reads_open call.Open args rest fit
  call_again log (call.Act (act.Log items)) rest fit = one_again reads_list (λ x. call.Act (act.Log x)) items rest fit
  call_again log (call.Alog items) rest fit = one_again reads_list call.Alog items rest fit
  call_again log (call.Act (act.Chunk from most)) rest fit = two_again (reads_place log) reads_u64 (λ x z. call.Act (act.Chunk x z)) from most rest fit.0 fit.1
  call_again log (call.Act (act.ChunkStep from by)) rest fit = two_again (reads_place log) reads_i32 (λ x z. call.Act (act.ChunkStep x z)) from by rest fit.0 fit.1
  call_again log (call.Act (act.Truncate head)) rest fit = one_again (reads_option reads_item) (λ x. call.Act (act.Truncate x)) head rest fit
  call_again log (call.Reopen target head) rest fit = two_again reads_base (reads_option reads_item) call.Reopen target head rest fit.0 fit.1
  call_again log (call.Act act.NextFile) rest fit = refl
  call_again log (call.Act (act.ChangeSize size)) rest fit = one_again reads_size (λ x. call.Act (act.ChangeSize x)) size rest fit
  call_again log (call.Act act.Sync) rest fit = refl
  call_again log (call.Block queue) rest fit = one_again reads_bool call.Block queue rest fit
  call_again log call.Unblock rest fit = refl
  call_again log (call.Act act.Info) rest fit = refl
  call_again log call.Close rest fit = refl
