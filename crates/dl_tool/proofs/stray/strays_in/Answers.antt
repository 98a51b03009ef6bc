use Rattle.std.proofs.Common.{◌≡◌, true, ◌++◌, ◌∷◌, [], List, get_or, take, sym, subst, arith, ◌↔◌, IfSome}
use Rattle.dl_tool.proofs.Words.{ArePicked, Content, FileName, index_of, take_more}
use Rattle.std.proofs.lemmas.List.{take_all}
use Rattle.dl_types.specs.declared.file.Part.TheVariants.{Halt}
use Rattle.dl_tool.specs.Named.{IsLeftOut, Knows}
use Rattle.dl_tool.proofs.Strays.{only_none, only_log, only_then, picked_more, picked_none}
use Rattle.dl_tool.proofs.stray.strays_in.Goals as goal

-- any file
abbrev none : FileName
none = record { base = record { text = [] }; part = Halt }

pub judge-requires : goal.judge-requires
judge-requires g c h =
    let so_far = c.loop-name.invariant in
    subst (λ (m : Content). IfSome c.loop-name.known (Knows m)) (sym (so_far.reads.same h)) (so_far.knows h)

pub loop-name-init : goal.loop-name-init
loop-name-init g c = record { reads = only_none (g.D.Disk.state c.args.disk.now); knows = λ h. tt; picked = λ h. subst (ArePicked (g.D.Disk.state c.args.disk.now).content []) (sym c.new-files.ensures.items) (picked_none (g.D.Disk.state c.args.disk.now).content) }

pub loop-name-preserved : goal.loop-name-preserved
loop-name-preserved g c =
    let state = g.D.Disk.state in
    let so_far = c.loop-name.invariant in
    let old = state c.args.disk.now in
    let mid = state c.loop-name.disk in
    let new = state c.judge.new.disk in
    let names = take c.loop-name.name-index c.args.names.now in
    let x = get_or c.args.names.now c.loop-name.name-index none in
    let judged = c.in_ok-judged.judged in
    let next = sym (take_more c.args.names.now c.loop-name.name-index none c.loop-name-test.true) in
    record {
      reads = only_then old mid new so_far.reads (only_log x.base mid new c.judge.result c.judge.ensures.reads);
      knows = λ h. subst (λ (m : Content). IfSome judged.known (Knows m)) (so_far.reads.same (c.judge.ensures.reads.acts.stayed h)) (c.in_ok-judged.ensures.knows h);
      picked = λ h.
          let before = c.judge.ensures.reads.acts.stayed h in
          let more = picked_more old.content names c.loop-name.files.items x judged.is_stray (subst (λ (m : Content). judged.is_stray ≡ true ↔ IsLeftOut (index_of m x.base) x.part) (so_far.reads.same before) (c.in_ok-judged.ensures.stray h)) (so_far.picked before) in
          subst (λ (ns : List FileName). ArePicked old.content ns c.push_if.new.files.items) next (subst (ArePicked old.content (names ++ x ∷ [])) (sym c.in_ok-push_if.ensures) more);
    }

pub returns-in_err-judged-clause-reads : goal.returns-in_err-judged-clause-reads
returns-in_err-judged-clause-reads g c =
    let state = g.D.Disk.state in
    let x = get_or c.args.names.now c.loop-name.name-index none in
    only_then _ _ _ c.loop-name.invariant.reads (only_log x.base (state c.loop-name.disk) (state c.judge.new.disk) c.judge.result c.judge.ensures.reads)

pub returns-clause-strays : goal.returns-clause-strays
returns-clause-strays g c honest =
    let names = c.args.names.now in
    let i = c.loop-name.name-index in
    subst (λ (ns : List FileName). ArePicked (g.D.Disk.state c.args.disk.now).content ns c.loop-name.files.items) (take_all i names (omega (arith, c.loop-name-test.false))) (c.loop-name.invariant.picked honest)
