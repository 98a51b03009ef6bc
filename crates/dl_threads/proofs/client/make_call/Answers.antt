use Rattle.std.proofs.Common.{rules, sym, subst}
use Rattle.dl_types.specs.declared.event.Event.TheVariants as event
use Rattle.dl_app.specs.Places.{place_of}
use Rattle.dl_server.specs.Calls.{IsAnswered}
use Rattle.dl_threads.proofs.Played.{answers_same, asked}
use Rattle.dl_threads.proofs.client.make_call.Goals as goal

pub returns-in_ok-had_memory-in_default : goal.returns-in_ok-had_memory-in_default
returns-in_ok-had_memory-in_default g c =
    let old = c.args.client.now in
    let new = c.ask-reply.new.client in
    let reply = c.ask-reply.result in
    let other : IsAnswered c.in_default.call = search rules in
    let answered : IsAnswered c.args.call = subst IsAnswered (sym c.in_default.call-is) other in record {
      same = answers_same old new (event.Call old.id c.args.log c.args.call) reply c.ask-reply.ensures.did;
      made = asked c.keep_after.result old new c.id.result c.args.log c.args.call (place_of c.args.places.now) (place_of c.keep_after.new.self) reply answered c.ask-reply.ensures.did
          c.in_ok-had_memory-in_default.ensures c.id.ensures c.keep_after.ensures;
    }
