use Rattle.std.proofs.Common.{◌≡◌, ◌+◌, ◌∷◌, ◌∙◌, [], List, true, false, drop, refl, sym, ap, subst, append-nil, arith, inl, inr}
use Rattle.std.proofs.lemmas.List.{drop_all}
use Rattle.dl_types.specs.declared.place.Place.TheVariants.{Start}
use Rattle.dl_types.specs.Name.{same_client}
use Rattle.dl_app.specs.declared.command.Command.TheVariants as command
use Rattle.dl_app.specs.Places.{place_of}
use Rattle.dl_threads.specs.Commands.{calls_of}
use Rattle.dl_threads.specs.Played.{MakesAll, IsSame}
use Rattle.dl_threads.proofs.Commands.{calls_at, own_call, other_call, own_exit, other_exit}
use Rattle.dl_threads.proofs.Played.{passed, called, ended}
use Rattle.dl_threads.proofs.client.make_all.Goals as goal
use Rattle.dl_threads.proofs.client.make_all.Goals.{in-Call+then-eq+in_ok-make-in-Call, in-Call+else-eq, in-Exit+else-eq-2, in-File}

pub loop-command-init : goal.loop-command-init
loop-command-init g c =
    let start : place_of c.new-places.result ≡ (λ client log. Start) = λ i client log. c.new-places.ensures client log i in
    record {
      same = record { id = refl; kept = refl };
      made = λ kept. ([], sym (append-nil c.args.client.now.did), λ later all. subst (λ places. MakesAll c.args.client.now.id (calls_of c.args.own c.args.commands.now) places later) start all);
    }

pub returns-then-eq-2-clause-made : goal.returns-then-eq-2-clause-made
returns-then-eq-2-clause-made g c = λ kept.
    let own = c.args.own in
    let commands = c.args.commands.now in
    let i = c.loop-command.command-index in
    let own_is : same_client c.in-Exit.caller own ≡ true = sym c.eq-in-Exit.ensures ∙ c.if-eq-2.true in
    let left : calls_of own (drop i commands) ≡ [] = calls_at own commands i _ (command.Exit c.in-Exit.caller) (omega (arith, c.loop-command-test.true)) c.in-Exit.is ∙ own_exit own c.in-Exit.caller (drop (i + 1) commands) own_is in
    ended c.args.client.now c.loop-command.client (calls_of own commands) (calls_of own (drop i commands)) (place_of c.loop-command.places) left (c.loop-command.invariant.made kept)

pub loop-command-preserved : goal.loop-command-preserved
loop-command-preserved g c =
    let own = c.args.own in
    let commands = c.args.commands.now in
    let i = c.loop-command.command-index in
    let old = c.args.client.now in
    let mid = c.loop-command.client in
    let new = c.match-command.client in
    let inv = c.loop-command.invariant in
    let before = place_of c.loop-command.places in
    let after = place_of c.match-command.places in
    let rest = calls_of own (drop i commands) in
    let others = calls_of own (drop (i + 1) commands) in elim c.match-command.branch [
      | in-Call+then-eq+in_ok-make-in-Call w ↦
          let own_is : same_client w.in-Call.caller own ≡ true = sym w.eq.ensures ∙ w.if-eq.true in
          let calls : rest ≡ record { log = w.in-Call.log; request = w.in-Call.request } ∷ others = calls_at own commands i _ (command.Call w.in-Call.caller w.in-Call.log w.in-Call.request) (omega (arith, c.loop-command-test.true)) w.in-Call.is
          ∙ own_call own w.in-Call.caller w.in-Call.log w.in-Call.request (drop (i + 1) commands) own_is in
          let made = w.in_ok-make-in-Call.ensures.made in record {
            same = subst (IsSame old) (sym w.client-is) (record { id = w.make.ensures.same.id ∙ inv.same.id; kept = w.make.ensures.same.kept ∙ inv.same.kept });
            made = λ kept. called old mid w.make.new.client new (calls_of own commands) rest others (record { log = w.in-Call.log; request = w.in-Call.request }) before (place_of w.make.new.places) after w.client-is (ap place_of w.places-is) calls inv.same.id
                (inv.made kept) (made (inv.same.kept ∙ kept));
          }
      | in-Call+else-eq w ↦
          let own_is : same_client w.in-Call.caller own ≡ false = sym w.eq.ensures ∙ w.if-eq.false in
          let calls : rest ≡ others = calls_at own commands i _ (command.Call w.in-Call.caller w.in-Call.log w.in-Call.request) (omega (arith, c.loop-command-test.true)) w.in-Call.is
          ∙ other_call own w.in-Call.caller w.in-Call.log w.in-Call.request (drop (i + 1) commands) own_is in record {
            same = subst (IsSame old) (sym w.client-is) inv.same;
            made = λ kept. passed old mid new (calls_of own commands) rest others before after w.client-is (ap place_of w.places-is) calls (inv.made kept);
          }
      | in-Exit+else-eq-2 w ↦
          let own_is : same_client w.in-Exit.caller own ≡ false = sym w.eq-in-Exit.ensures ∙ w.if-eq-2.false in
          let calls : rest ≡ others = calls_at own commands i _ (command.Exit w.in-Exit.caller) (omega (arith, c.loop-command-test.true)) w.in-Exit.is ∙ other_exit own w.in-Exit.caller (drop (i + 1) commands) own_is in record {
            same = subst (IsSame old) (sym w.client-is) inv.same;
            made = λ kept. passed old mid new (calls_of own commands) rest others before after w.client-is (ap place_of w.places-is) calls (inv.made kept);
          }
      | in-File w ↦
          let calls : rest ≡ others = elim w.in-File.is [
            | inl file ↦ calls_at own commands i _ (command.File file.0) (omega (arith, c.loop-command-test.true)) file.1
            | inr flush ↦ calls_at own commands i _ command.Flush (omega (arith, c.loop-command-test.true)) flush
          ] in record {
            same = subst (IsSame old) (sym w.client-is) inv.same;
            made = λ kept. passed old mid new (calls_of own commands) rest others before after w.client-is (ap place_of w.places-is) calls (inv.made kept);
          }
    ]

pub returns-clause-made : goal.returns-clause-made
returns-clause-made g c = λ kept.
    let own = c.args.own in
    let commands = c.args.commands.now in
    let i = c.loop-command.command-index in
    let left : calls_of own (drop i commands) ≡ [] = ap (calls_of own) (drop_all i commands (omega (arith, c.loop-command-test.false))) in
    ended c.args.client.now c.loop-command.client (calls_of own commands) (calls_of own (drop i commands)) (place_of c.loop-command.places) left (c.loop-command.invariant.made kept)
