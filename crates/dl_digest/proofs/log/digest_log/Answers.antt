use Rattle.std.proofs.Common.{rules, ◌≡◌, ℕ, Err, subst, refl, inl, inr}
use Rattle.dl_pipe.specs.declared.fault.PipeFault.TheVariants.{OutOfMemory}
use Rattle.dl_pipe.specs.Reading.{IsReadOut}
use Rattle.dl_pipe.proofs.Readings.{is_dump, opened_step}
use Rattle.dl_pipe.proofs.Written.{err_is}
use Rattle.dl_digest.specs.Log.{dump_args}
use Rattle.dl_digest.proofs.log.digest_log.Goals as goal

pub returns-in_err-check_opened-clause-cut : goal.returns-in_err-check_opened-clause-cut
returns-in_err-check_opened-clause-cut g c =
    let is : c.from_residual.result ≡ Err c.in_err-check_opened.field-0.0 = search rules in
    rw is (inl (
    record {
      opened = c.step-opened.result;
      run = (c.step-opened.new.self, opened_step g.D.Disk.state _ _ c.args.log c.args.args.kind _ _ c.reading_args.ensures c.step-opened.ensures.step, refl);
      not_open = c.in_err-check_opened.ensures.closed;
      fault = c.in_err-check_opened.ensures.fault;
    }
    ))

pub returns-in_err-read-clause-cut : goal.returns-in_err-read-clause-cut
returns-in_err-read-clause-cut g c =
    let is : c.from_residual-in_err-read.result ≡ Err c.in_err-read.field-0.0 = err_is c.from_residual-in_err-read.result c.in_err-read.field-0.0 c.from_residual-in_err-read.ensures.1 in
    let read = c.in_err-read.ensures.stopped in
    rw is (inr (record {
      given = read.0;
      closed = c.step-closed.result;
      dump = is_dump g.D.Disk.state _ _ _ _ c.args.log (dump_args c.args.args) _ _ _ _ read.0 _ c.in_ok-check_opened.ensures.opened c.reading_args.ensures c.step-opened.ensures.step c.new-reading.ensures.args.0 c.new-reading.ensures.args.1 read.1 c.step-closed.ensures.step;
      fault = inl read.2;
    }))

pub returns-in_err-check_done-clause-cut : goal.returns-in_err-check_done-clause-cut
returns-in_err-check_done-clause-cut g c =
    let is : c.from_residual-in_err-check_done.result ≡ Err c.in_err-check_done.field-0.0 = err_is c.from_residual-in_err-check_done.result c.in_err-check_done.field-0.0 c.from_residual-in_err-check_done.ensures.1 in
    let read = c.in_ok-read.ensures.read in
    rw is (inr (record {
      given = read.0;
      closed = c.step-closed.result;
      dump = is_dump g.D.Disk.state _ _ _ _ c.args.log (dump_args c.args.args) _ _ _ _ read.0 _ c.in_ok-check_opened.ensures.opened c.reading_args.ensures c.step-opened.ensures.step c.new-reading.ensures.args.0 c.new-reading.ensures.args.1 read.1 c.step-closed.ensures.step;
      fault = inr c.in_err-check_done.ensures.fault;
    }))

pub returns-in_err-finish-clause-cut : goal.returns-in_err-finish-clause-cut
returns-in_err-finish-clause-cut g c =
    let is : c.from_residual-in_err-finish.result ≡ Err OutOfMemory = err_is c.from_residual-in_err-finish.result OutOfMemory c.from_residual-in_err-finish.ensures.1 in
    let read = c.in_ok-read.ensures.read in
    rw is (inr (record {
      given = read.0;
      closed = c.step-closed.result;
      dump = is_dump g.D.Disk.state _ _ _ _ c.args.log (dump_args c.args.args) _ _ _ _ read.0 _ c.in_ok-check_opened.ensures.opened c.reading_args.ensures c.step-opened.ensures.step c.new-reading.ensures.args.0 c.new-reading.ensures.args.1 read.1 c.step-closed.ensures.step;
      fault = inl (inr (inl refl));
    }))

pub returns-clause-whole : goal.returns-clause-whole
returns-clause-whole g c =
    let read = c.in_ok-read.ensures.read in
    record {
      given = read.0;
      closed = c.step-closed.result;
      dump = is_dump g.D.Disk.state _ _ _ _ c.args.log (dump_args c.args.args) _ _ _ _ read.0 _ c.in_ok-check_opened.ensures.opened c.reading_args.ensures c.step-opened.ensures.step c.new-reading.ensures.args.0 c.new-reading.ensures.args.1 read.1 c.step-closed.ensures.step;
      read_out = subst (λ (n : ℕ). IsReadOut n read.0) c.new-reading.ensures.args.1 read.2;
      is_closed = c.in_ok-check_done.ensures.done;
      taken = c.in_ok-finish.ensures read.0 read.3;
    }
