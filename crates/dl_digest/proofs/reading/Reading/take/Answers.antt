use Rattle.std.proofs.Common.{◌++◌, ◌∷◌, [], ℕ, List, sym, subst}
use Rattle.dl_pipe.specs.Reading.{items_of}
use Rattle.dl_digest.specs.declared.digest.Hashing.{Hashing}
use Rattle.dl_digest.specs.declared.files.FileDigests.{FileDigests}
use Rattle.dl_digest.specs.Digest.{Holds}
use Rattle.dl_digest.specs.Files.{by_file, parts_of, HoldsFiles}
use Rattle.dl_digest.proofs.Taken.{files_next, all_next, gap_next}
use Rattle.dl_digest.proofs.reading.Reading.take.Goals as goal

pub returns-clause-taken : goal.returns-clause-taken
returns-clause-taken g c given o is held =
    let items = c.args.items.now in
    let next = c.args.next in
    let bad = c.args.bad in
    let same = c.note_gap.ensures.same in
    let files = subst (λ (xs : List (List ℕ)). HoldsFiles c.add.new.self (by_file (parts_of given ++ record { generation = next.generation; items = xs } ∷ []))) c.as_slice.ensures (c.in_ok-add.ensures (parts_of given) held.files) in
    let all = subst (λ (xs : List (List ℕ)). Holds c.add-2.new.self (items_of given ++ xs)) c.as_slice-2.ensures (c.add-2.ensures (items_of given) held.all) in
    record {
      files = subst (λ (f : FileDigests g.row.A.Denot). HoldsFiles f (by_file (parts_of (given ++ o ∷ [])))) (sym same.1) (files_next given o next items bad is c.add.new.self files);
      all = subst (λ (h : Hashing). Holds h (items_of (given ++ o ∷ []))) (sym same.2) (all_next given o next items bad is c.add-2.new.self all);
      gaps = gap_next given o next items bad is c.args.self.now.gaps.items c.note_gap.new.self.gaps.items held.gaps (c.in_ok-note_gap.ensures.gaps (items_of given ++ items) all);
    }
