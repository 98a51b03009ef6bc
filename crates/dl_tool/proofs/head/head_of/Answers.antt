use Rattle.std.proofs.Common.{◌≡◌, ℕ, List, take, sym, ◌∙◌, ap, subst}
use Rattle.dl_tool.proofs.Words.{Content, text_at}
use Rattle.dl_types.specs.Frame.{IsHead}
use Rattle.dl_frame.proofs.Heads.{head_of_front}
use Rattle.dl_tool.proofs.head.head_of.Goals as goal

pub returns-in-Ok-read_at-clause-head : goal.returns-in-Ok-read_at-clause-head
returns-in-Ok-read_at-clause-head g c honest says =
    let content = (g.D.Disk.state c.args.disk.now).content in
    let text = text_at content c.args.file in
    let same : take c.in-Ok-read_at.n c.read_at.new.buffer ≡ take 24 text = c.in-Ok-read_at.ensures.read honest ∙ ap (λ (m : Content). take 24 (text_at m c.args.file)) c.in-Ok.ensures.content in (
      (λ is. (head_of_front text says).0 (subst (λ (l : List ℕ). IsHead l says) same ((c.read_head.ensures says).0 is))),
      (λ h. (c.read_head.ensures says).1 (subst (λ (l : List ℕ). IsHead l says) (sym same) ((head_of_front text says).1 h))),
    )
