use Rattle.std.proofs.Common.{rules, ◌≡◌, codes}
use Rattle.dl_app.specs.Words.{words_left}
use Rattle.dl_app.proofs.Forms.{none_maps, no_open, no_chunk, no_step, no_truncate, no_reopen, no_size, no_block}
use Rattle.dl_app.proofs.verbs.other_of.Goals as goal

pub returns-then-eq-clause-none : goal.returns-then-eq-clause-none
returns-then-eq-clause-none c =
    let is : c.args.verb.now ≡ codes "open" = search rules in
    none_maps _ _ _ (no_open c.args.verb.now (words_left c.args.words) is) c.open_of.ensures.none

pub returns-then-eq-3-clause-none : goal.returns-then-eq-3-clause-none
returns-then-eq-3-clause-none c =
    let is : c.args.verb.now ≡ codes "chunk" = search rules in
    none_maps _ _ _ (no_chunk c.args.verb.now (words_left c.args.words) is) c.chunk_of.ensures.none

pub returns-then-eq-4-clause-none : goal.returns-then-eq-4-clause-none
returns-then-eq-4-clause-none c =
    let is : c.args.verb.now ≡ codes "step" = search rules in
    none_maps _ _ _ (no_step c.args.verb.now (words_left c.args.words) is) c.step_of.ensures.none

pub returns-then-eq-5-clause-none : goal.returns-then-eq-5-clause-none
returns-then-eq-5-clause-none c =
    let is : c.args.verb.now ≡ codes "truncate" = search rules in
    none_maps _ _ _ (no_truncate c.args.verb.now (words_left c.args.words) is) c.truncate_of.ensures.none

pub returns-then-eq-6-clause-none : goal.returns-then-eq-6-clause-none
returns-then-eq-6-clause-none c =
    let is : c.args.verb.now ≡ codes "reopen" = search rules in
    none_maps _ _ _ (no_reopen c.args.verb.now (words_left c.args.words) is) c.reopen_of.ensures.none

pub returns-then-eq-7-clause-none : goal.returns-then-eq-7-clause-none
returns-then-eq-7-clause-none c =
    let is : c.args.verb.now ≡ codes "size" = search rules in
    none_maps _ _ _ (no_size c.args.verb.now (words_left c.args.words) is) c.size_of.ensures.none

pub returns-then-eq-8-clause-none : goal.returns-then-eq-8-clause-none
returns-then-eq-8-clause-none c =
    let is : c.args.verb.now ≡ codes "block" = search rules in
    none_maps _ _ _ (no_block c.args.verb.now (words_left c.args.words) is) c.block_of.ensures.none
