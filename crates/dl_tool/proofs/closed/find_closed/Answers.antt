use Rattle.std.proofs.Common.{◌≡◌, ℕ, Some, sym, ◌∙◌, subst}
use Rattle.dl_tool.proofs.Words.{Content, text_at}
use Rattle.dl_tool.specs.Closed.{closed_count}
use Rattle.dl_tool.proofs.Closeds.{closed_is, headless_not_closed, uncounted_not_closed}
use Rattle.dl_tool.proofs.Newers.{IsHeadOf}
use Rattle.dl_tool.proofs.closed.find_closed.Goals as goal

pub returns-in_default-2-clause-closed : goal.returns-in_default-2-clause-closed
returns-in_default-2-clause-closed g c honest closed =
    let content = (g.D.Disk.state c.args.disk.now).content in
    let mid = c.head_of.ensures.reads.acts.stayed honest in
    let found = c.in_ok-head.field-0 in
    let heads = subst (λ (m : Content). IsHeadOf found (text_at m c.in-Some.last.file)) (c.last_file.ensures.reads.same mid) (c.in_ok-head.ensures.head honest) in
    ((λ e. cc e), (λ is. absurd (headless_not_closed content c.args.log c.in_ok-last.field-0 (c.in_ok-last.ensures.last mid) c.in-Some.last c.in-Some.is found heads c.in_default-2.not-Some closed is)))

pub returns-in_default-closed_count-clause-closed : goal.returns-in_default-closed_count-clause-closed
returns-in_default-closed_count-clause-closed g c honest closed =
    let content = (g.D.Disk.state c.args.disk.now).content in
    let mid = c.head_of.ensures.reads.acts.stayed honest in
    let found = c.in_ok-head.field-0 in
    let heads = subst (λ (m : Content). IsHeadOf found (text_at m c.in-Some.last.file)) (c.last_file.ensures.reads.same mid) (c.in_ok-head.ensures.head honest) in
    let none : (items : ℕ) → closed_count c.in-Some.last.generation c.in-Some-2.head ≡ Some items → ⊥ = λ items e. c.in_default-closed_count.not-Some items (c.closed_count.ensures ∙ e) in
    ((λ e. cc e), (λ is. absurd (uncounted_not_closed content c.args.log c.in_ok-last.field-0 (c.in_ok-last.ensures.last mid) c.in-Some.last c.in-Some.is found heads c.in-Some-2.head c.in-Some-2.is none closed is)))

pub returns-clause-closed : goal.returns-clause-closed
returns-clause-closed g c honest closed =
    let content = (g.D.Disk.state c.args.disk.now).content in
    let mid = c.head_of.ensures.reads.acts.stayed honest in
    let found = c.in_ok-head.field-0 in
    let heads = subst (λ (m : Content). IsHeadOf found (text_at m c.in-Some.last.file)) (c.last_file.ensures.reads.same mid) (c.in_ok-head.ensures.head honest) in
    closed_is content c.args.log c.in_ok-last.field-0 (c.in_ok-last.ensures.last mid) c.in-Some.last c.in-Some.is found heads c.in-Some-2.head c.in-Some-2.is c.in-Some-closed_count.items (sym c.closed_count.ensures ∙ c.in-Some-closed_count.is) closed
