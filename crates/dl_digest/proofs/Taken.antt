-- What was taken of chunks, and of one chunk more.
use Rattle.std.proofs.Common.{◌≡◌, ◌+◌, ℕ, List, [], ◌∷◌, ◌++◌, length, refl, sym, ap, ◌∙◌, subst, append_assoc, append-nil, length-append, arith}
use Rattle.std.specs.List.{flat_map}
use Rattle.dl_types.specs.declared.place.Continuation.{Continuation}
use Rattle.dl_types.specs.declared.reply.Outcome.{Outcome}
use Rattle.dl_types.specs.declared.reply.Reply.{Reply}
use Rattle.dl_types.specs.declared.reply.Reply.TheVariants as reply
use Rattle.dl_pipe.specs.declared.dump.Gap.{Gap}
use Rattle.dl_pipe.specs.Reading.{bad_in, gap_after, gaps_of, items_in, items_of}
use Rattle.dl_pipe.proofs.Readings.{gaps_end, gaps_more, items_more}
use Rattle.dl_digest.specs.declared.digest.Hashing.{Hashing}
use Rattle.dl_digest.specs.declared.files.FileDigests.{FileDigests}
use Rattle.dl_digest.specs.declared.reading.Reading.{Reading}
use Rattle.dl_digest.specs.Digest.{Holds}
use Rattle.dl_digest.specs.Files.{by_file, part_in, parts_of, FileItems, HoldsFiles}
use Rattle.dl_digest.specs.Reading.{HasTaken}

module _ {Z : Type 0} where
  pub parts_more : (os : List (Outcome Z)) (o : Outcome Z) → parts_of (os ++ o ∷ []) ≡ parts_of os ++ part_in o.reply
  parts_more [] o = append-nil (part_in o.reply)
  parts_more (p ∷ os) o = ap (λ (l : List FileItems). part_in p.reply ++ l) (parts_more os o) ∙ sym (append_assoc (part_in p.reply) (parts_of os) (part_in o.reply))

  -- a chunk that found the end
  pub taken_end : (reading : Reading Z) (given : List (Outcome Z)) (o : Outcome Z) → o.reply ≡ reply.Eof → HasTaken reading given → HasTaken reading (given ++ o ∷ [])
  taken_end reading given o is held =
      let parts : parts_of given ≡ parts_of (given ++ o ∷ []) = sym (parts_more given o ∙ ap (λ (r : Reply Z). parts_of given ++ part_in r) is ∙ append-nil (parts_of given)) in
      let items : items_of given ≡ items_of (given ++ o ∷ []) = sym (items_more given o ∙ ap (λ (r : Reply Z). items_of given ++ items_in r) is ∙ append-nil (items_of given)) in
      record {
        files = subst (λ (l : List FileItems). HoldsFiles reading.files (by_file l)) parts held.files;
        all = subst (Holds reading.all) items held.all;
        gaps = gaps_end given o reading.gaps.items is held.gaps;
      }

  module _ (given : List (Outcome Z)) (o : Outcome Z) (next : Continuation) (items : List (List ℕ)) (bad : ℕ) (is : o.reply ≡ reply.Items next items bad) where
    -- the items of a chunk, file by file
    pub files_next : (files : FileDigests Z) → HoldsFiles files (by_file (parts_of given ++ record { generation = next.generation; items = items } ∷ [])) → HoldsFiles files (by_file (parts_of (given ++ o ∷ [])))
    files_next files held = subst (λ (l : List FileItems). HoldsFiles files (by_file l)) (sym (parts_more given o ∙ ap (λ (r : Reply Z). parts_of given ++ part_in r) is)) held

    -- and in all
    pub all_next : (all : Hashing) → Holds all (items_of given ++ items) → Holds all (items_of (given ++ o ∷ []))
    all_next all held = subst (Holds all) (sym (items_more given o ∙ ap (λ (r : Reply Z). items_of given ++ items_in r) is)) held

    -- and its bad bytes
    pub gap_next : (old new : List Gap) → old ≡ gaps_of 0 given → new ≡ old ++ gap_after (length (items_of given ++ items)) bad → new ≡ gaps_of 0 (given ++ o ∷ [])
    gap_next old new before after =
        let count : length (items_of given ++ items) ≡ 0 + length (items_of given) + length items = omega (arith, length-append (items_of given) items) in
        after ∙ ap (λ (l : List Gap). l ++ gap_after (length (items_of given ++ items)) bad) before ∙ ap (λ (n : ℕ). gaps_of 0 given ++ gap_after n bad) count
        ∙ sym (gaps_more 0 given o ∙ ap (λ (r : Reply Z). gaps_of 0 given ++ gap_after (0 + length (items_of given) + length (items_in r)) (bad_in r)) is)

  part_items : (r : Reply Z) (rest : List FileItems) → flat_map (λ (f : FileItems). f.items) (part_in r ++ rest) ≡ items_in r ++ flat_map (λ (f : FileItems). f.items) rest
  part_items (reply.Items next items bad) rest = refl
  part_items other rest = refl

  -- the items of the chunks' parts are the chunks' items
  pub parts_items : (given : List (Outcome Z)) → flat_map (λ (f : FileItems). f.items) (parts_of given) ≡ items_of given
  parts_items [] = refl
  parts_items (o ∷ os) = part_items o.reply (parts_of os) ∙ ap (λ (l : List (List ℕ)). items_in o.reply ++ l) (parts_items os)
