use Rattle.std.proofs.Common.{arith}
use Rattle.dl_wire.proofs.Frames.{begun_long}
use Rattle.dl_wire.proofs.logs.push_logs.Goals as goal

pub end-requires : goal.end-requires
end-requires g c =
    let long = begun_long c.args.out.now.items c.push_u32.new.out.items c.push_logs_text.new.out.items _ c.in_ok-push_u32.ensures c.in_ok-push_logs_text.ensures in
    omega (arith, c.len-start.ensures, long)
