use Rattle.std.proofs.Common.{◌≡◌, ◌∙◌, ◌↔◌, List, IsOk, true, ap, sym, subst}
use Rattle.dl_server.specs.declared.client.Done.{Done}
use Rattle.dl_settle.specs.Settled.{IsSettled}
use Rattle.dl_threads.proofs.Told.{contrary, settled_in}
use Rattle.dl_threads.proofs.script.run_lines.Goals as goal
use Rattle.dl_threads.proofs.script.run_lines.Goals.{then-kept, else-kept}

pub returns-clause-settled : goal.returns-clause-settled
returns-clause-settled g c = λ kept.
    let is_kept : c.is_kept-kept.result ≡ true = c.is_kept-kept.ensures ∙ kept in
    let ran = c.in-Ok.ensures.played is_kept in
    let hub = c.stop-hub.result in elim c.if-kept.branch [
      | then-kept w ↦
          let same = w.result-is ∙ w.is_ok.ensures.value in
          let exact = subst (λ (dones : List (Done _)). IsOk w.settle.result ↔ ((hub.kept ≡ true) × IsSettled hub.trail dones)) w.as_slice.ensures.value w.settle.ensures.exact in record {
            commands = ran.0;
            dones = c.in-Ok.dones.items;
            hub = hub;
            given = ran.1;
            played = ran.2;
            legal = c.stop-hub.ensures;
            compared = (λ settled. exact.0 (sym same ∙ settled), λ is. same ∙ exact.1 is);
          }
      | else-kept w ↦ absurd (contrary c.is_kept-kept.result is_kept w.if-kept.false)
    ]

pub returns-clause-kept : goal.returns-clause-kept
returns-clause-kept g c = λ is. elim c.if-kept.branch [
  | then-kept w ↦ sym c.is_kept-kept.ensures ∙ w.if-kept.true
  | else-kept w ↦ absurd (contrary c.if-kept.result (ap settled_in is) (w.result-is ∙ w.if-kept.false))
]
