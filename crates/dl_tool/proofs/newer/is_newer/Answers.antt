use Rattle.std.proofs.Common.{◌≡◌, ◌<◌, true, ap, subst, arith, ◌↔◌, nat_lt}
use Rattle.dl_tool.proofs.Words.{Base, Content, index_of, IsNamed, Named, text_at}
use Rattle.dl_tool.proofs.Newers.{headless_not_newer, newer_if, newer_only, IsHeadOf}
use Rattle.dl_tool.proofs.newer.is_newer.Goals as goal

pub returns-in_default-2-clause-newer : goal.returns-in_default-2-clause-newer
returns-in_default-2-clause-newer g c honest =
    let state = g.D.Disk.state in
    let content = (state c.args.disk.now).content in
    let mid = c.head_of.ensures.reads.acts.stayed honest in
    let found = c.in_ok-head.field-0 in
    let is = subst (λ (m : Content). IsHeadOf found (text_at m c.args.file)) (c.known_of.ensures.reads.same mid) (c.in_ok-head.ensures.head honest) in
    ((λ t. cc t), (λ n. absurd (headless_not_newer content c.args.file found is c.in_default-2.not-Some n)))

pub returns-clause-newer : goal.returns-clause-newer
returns-clause-newer g c honest =
    let state = g.D.Disk.state in
    let content = (state c.args.disk.now).content in
    let mid = c.head_of.ensures.reads.acts.stayed honest in
    let found = c.in_ok-head.field-0 in
    let is = subst (λ (m : Content). IsHeadOf found (text_at m c.args.file)) (c.known_of.ensures.reads.same mid) (c.in_ok-head.ensures.head honest) in
    let own = subst (λ (b : Base). IsNamed (index_of content b) c.in_ok-known.known.named) c.in_ok-known.ensures.base (c.in_ok-known.ensures.knows mid) in
    let named = subst (λ (k : Named g.row.A.Denot). IsNamed (index_of content c.args.file.base) k) c.in-Index.is own in
    let newest = ap (λ e. e.generation) c.current-newest.ensures.same in
    let above = newer_if content c.args.file c.in-Index.index named.0 named.1 named.2 found is c.in-Some.head c.in-Some.is in
    let only = newer_only content c.args.file c.in-Index.index named.0 named.1 named.2 found is c.in-Some.head c.in-Some.is in
    let told : nat_lt c.current-newest.result.generation c.in-Some.head.generation ≡ true ↔ (c.current-newest.result.generation < c.in-Some.head.generation) = ((λ t. grind (arith, t)), (λ l. grind (arith, l))) in
    ((λ t. let lt = told.0 t in above (omega (arith, lt, newest))), (λ n. let lt = only n in told.1 (omega (arith, lt, newest))))
