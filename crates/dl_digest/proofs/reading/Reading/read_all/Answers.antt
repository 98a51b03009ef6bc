use Rattle.std.proofs.Common.{rules, ◌≡◌, ◌++◌, ◌∷◌, [], Err, refl, ◌∙◌, inl, inr, arith}
use Rattle.dl_pipe.proofs.Readings.{run_chunk, left_next, place_next, has_next, no_chunk}
use Rattle.dl_digest.proofs.Taken.{taken_end}
use Rattle.dl_digest.proofs.reading.Reading.read_all.Goals as goal

pub loop-preserved : goal.loop-preserved
loop-preserved g c =
    let so_far = c.loop.invariant in
    let o = c.step-outcome.result in
    let took = c.in_ok-take-in-Items.ensures in
    let from = c.args.self.now in
    record {
      given = so_far.given ++ o ∷ [];
      run = run_chunk g.D.Disk.state c.args.hub.now c.loop.hub c.step-outcome.new.self c.args.log from.place from.left so_far.given o c.loop.self.place c.loop.self.left so_far.run so_far.place so_far.left c.step-outcome.ensures.step;
      items = has_next so_far.given o _ _ _ c.in-Items.is so_far.items;
      place = took.place.0 ∙ place_next so_far.given o _ _ _ c.in-Items.is _;
      left = left_next so_far.given o _ _ _ c.in-Items.is _ _ _ so_far.left took.place.1;
      taken = took.taken so_far.given o c.in-Items.is so_far.taken;
    }

pub returns-in_err-take-in-Items-clause-stopped : goal.returns-in_err-take-in-Items-clause-stopped
returns-in_err-take-in-Items-clause-stopped g c =
    let so_far = c.loop.invariant in
    let o = c.step-outcome.result in
    let from = c.args.self.now in
    let is : c.from_residual.result ≡ Err c.in_err-take-in-Items.field-0.0 = search rules in
    rw is (
      so_far.given ++ o ∷ [],
      run_chunk g.D.Disk.state c.args.hub.now c.loop.hub c.step-outcome.new.self c.args.log from.place from.left so_far.given o c.loop.self.place c.loop.self.left so_far.run so_far.place so_far.left c.step-outcome.ensures.step,
      inr (inl c.in_err-take-in-Items.ensures.fault),
    )

pub returns-in-Eof-clause-read : goal.returns-in-Eof-clause-read
returns-in-Eof-clause-read g c =
    let so_far = c.loop.invariant in
    let o = c.step-outcome.result in
    let from = c.args.self.now in (
      so_far.given ++ o ∷ [],
      run_chunk g.D.Disk.state c.args.hub.now c.loop.hub c.step-outcome.new.self c.args.log from.place from.left so_far.given o c.loop.self.place c.loop.self.left so_far.run so_far.place so_far.left c.step-outcome.ensures.step,
      inl (record { read = so_far.given; end = o; whole = refl; items = so_far.items; eof = c.in-Eof.is }),
      taken_end c.loop.self so_far.given o c.in-Eof.is so_far.taken,
    )

pub returns-in_default : goal.returns-in_default
returns-in_default g c =
    let so_far = c.loop.invariant in
    let o = c.step-outcome.result in
    let from = c.args.self.now in
    record {
      read = tt;
      stopped = (
        so_far.given ++ o ∷ [],
        run_chunk g.D.Disk.state c.args.hub.now c.loop.hub c.step-outcome.new.self c.args.log from.place from.left so_far.given o c.loop.self.place c.loop.self.left so_far.run so_far.place so_far.left c.step-outcome.ensures.step,
        inl (record {
          read = so_far.given;
          last = o;
          whole = refl;
          none = no_chunk o.reply c.in_default.not-Items c.in_default.not-Eof;
          fault = c.fault_for.ensures;
        }),
      );
    }

-- as many items as were asked for were given
pub returns-then-self-eq0-clause-read : goal.returns-then-self-eq0-clause-read
returns-then-self-eq0-clause-read g c =
    let so_far = c.loop.invariant in
    let none : c.loop.self.left ≡ 0 = search rules in
    (so_far.given, so_far.run, inr (record { items = so_far.items; enough = omega (arith, so_far.left, none) }), so_far.taken)

pub returns-clause-stopped : goal.returns-clause-stopped
returns-clause-stopped g c =
    let so_far = c.loop.invariant in
    (so_far.given, so_far.run, inr (inr refl))
