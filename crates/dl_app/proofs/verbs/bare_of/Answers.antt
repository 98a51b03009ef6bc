use Rattle.std.proofs.Common.{rules, ◌≡◌, codes}
use Rattle.dl_app.specs.declared.command.Request.{Request}
use Rattle.dl_app.specs.declared.command.Request.TheVariants.{NextFile, Sync, Unblock, Info, Close}
use Rattle.dl_app.specs.Command.{GivesRequest, request_word}
use Rattle.dl_app.specs.Words.{words_left}
use Rattle.dl_app.proofs.Forms.{if_ended}
use Rattle.dl_app.proofs.verbs.bare_of.Goals as goal

pub returns-then-eq-clause-form : goal.returns-then-eq-clause-form
returns-then-eq-clause-form c =
    let is : c.args.verb.now ≡ codes "nextfile" = search rules in
    if_ended (λ (request : Request). (c.args.verb.now ≡ request_word request) × GivesRequest (words_left c.args.words) request) NextFile (words_left c.args.words) (λ ended. (is, ended)) _ c.is_empty.ensures _
    c.then_some.ensures

pub returns-then-eq-2-clause-form : goal.returns-then-eq-2-clause-form
returns-then-eq-2-clause-form c =
    let is : c.args.verb.now ≡ codes "sync" = search rules in
    if_ended (λ (request : Request). (c.args.verb.now ≡ request_word request) × GivesRequest (words_left c.args.words) request) Sync (words_left c.args.words) (λ ended. (is, ended)) _ c.is_empty-then-eq-2.ensures _
    c.then_some-then-eq-2.ensures

pub returns-then-eq-3-clause-form : goal.returns-then-eq-3-clause-form
returns-then-eq-3-clause-form c =
    let is : c.args.verb.now ≡ codes "unblock" = search rules in
    if_ended (λ (request : Request). (c.args.verb.now ≡ request_word request) × GivesRequest (words_left c.args.words) request) Unblock (words_left c.args.words) (λ ended. (is, ended)) _ c.is_empty-then-eq-3.ensures _
    c.then_some-then-eq-3.ensures

pub returns-then-eq-4-clause-form : goal.returns-then-eq-4-clause-form
returns-then-eq-4-clause-form c =
    let is : c.args.verb.now ≡ codes "info" = search rules in
    if_ended (λ (request : Request). (c.args.verb.now ≡ request_word request) × GivesRequest (words_left c.args.words) request) Info (words_left c.args.words) (λ ended. (is, ended)) _ c.is_empty-then-eq-4.ensures _
    c.then_some-then-eq-4.ensures

pub returns-then-eq-5-clause-form : goal.returns-then-eq-5-clause-form
returns-then-eq-5-clause-form c =
    let is : c.args.verb.now ≡ codes "close" = search rules in
    if_ended (λ (request : Request). (c.args.verb.now ≡ request_word request) × GivesRequest (words_left c.args.words) request) Close (words_left c.args.words) (λ ended. (is, ended)) _ c.is_empty-then-eq-5.ensures _
    c.then_some-then-eq-5.ensures
