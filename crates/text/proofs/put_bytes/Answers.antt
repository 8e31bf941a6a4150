-- `text::put_bytes` meets its contract.
use Rattle.text.proofs.Texts.{copied}
use Rattle.text.proofs.put_bytes.Goals as goal

pub returns : goal.returns
returns c = copied c.args.text.now c.args.at c.args.s.now c.requires c.copy_from_slice.ensures.after
