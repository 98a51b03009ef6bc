use Rattle.std.proofs.Common.{◌≡◌, ◌++◌, List, ℕ, Result, Ok, Err, OnOk, length, arith}
use Rattle.dl_wire.specs.Answer.{frame_text}
use Rattle.dl_wire.specs.Unsynced.{unsynced_answer}
use Rattle.dl_wire.proofs.Frames.{begun, begun_long}
use Rattle.dl_wire.proofs.unsynced.push_unsynced.Goals as goal

-- what holds on success, and what follows from it
ok_then : {T E : Type 0} (r : Result T E) (P Q : Type 0) → OnOk r P → (P → Q) → OnOk r Q
ok_then (Ok x) P Q h f = f h
ok_then (Err e) P Q h f = tt

pub end-requires : goal.end-requires
end-requires g c =
    let long = begun_long c.args.out.now.items c.push_u32.new.out.items c.push_unsynced_text.new.out.items _ c.in_ok-push_u32.ensures c.in_ok-push_unsynced_text.ensures in
    omega (arith, c.len-start.ensures, long)

pub returns : goal.returns
returns g c =
    let text : List ℕ = unsynced_answer c.args.tag c.args.unsynced.now in
    let was = c.args.out.now.items in
    let start : length was ≡ c.len-start.result = omega (arith, c.len-start.ensures) in
    let whole = begun was c.push_u32.new.out.items c.push_unsynced_text.new.out.items text c.in_ok-push_u32.ensures c.in_ok-push_unsynced_text.ensures in
    ok_then c.end.result _ (c.end.new.out.items ≡ was ++ frame_text text) c.end.ensures.ended (λ ended. ended was text start whole)
