use Rattle.std.proofs.Common.{rules}
use Rattle.network_file.proofs.SlotLaws.{slot_halves}
use Rattle.network_file.proofs.prefix.slot_word.Goals as goal

pub returns : goal.returns
returns c = slot_halves c.args.entry.now c.args.s c.from_le_bytes.result (search rules)
