use Rattle.dl_lines.proofs.Positions.{is_position}
use Rattle.dl_app.proofs.words.first_space.Goals as goal

pub returns-clause-value : goal.returns-clause-value
returns-clause-value c = is_position 32 c.args.text.now c.memchr.result c.memchr.ensures
