-- What `load` answers, in document 01's numbers and values.
-- Assumes nothing.
use Rattle.std.specs.Prelude.{Result, Ok, Err}
use Rattle.std.proofs.Math.Option.{Option, none, some}
use Rattle.lfa.specs.Refusal.{FileRow, bad_length, bad_check, bad_head, bad_block_count, bad_block, bad_link, parallel_link, bad_prefix, router_twice, Decided, decided, in_file}
use Rattle.lfa.specs.Answer.{Answer, accepted, refusal}
use Rattle.network_file.specs.declared.Fault.{Fault}
use Rattle.network_file.specs.declared.Fault.TheVariants.{Length, Check, Head, BlockCount, Block, Link, ParallelLink, Prefix, RouterTwice}

-- the row of each fault, with the value that it returns
unfoldable pub fault_row : Fault → Decided FileRow
fault_row Length = decided bad_length 0
fault_row (Check i) = decided bad_check i
fault_row Head = decided bad_head 0
fault_row (BlockCount n) = decided bad_block_count n
fault_row (Block i) = decided bad_block i
fault_row (Link k) = decided bad_link k
fault_row (ParallelLink k) = decided parallel_link k
fault_row (Prefix p) = decided bad_prefix p
fault_row (RouterTwice p) = decided router_twice p

unfoldable pub fault_of : Fault → Answer
fault_of f = refusal (in_file (fault_row f))

-- document 01's answer where a file is accepted, whatever is handed over then, or turned away
unfoldable pub answer_of : {T : Type 0} → Result T Fault → Answer
answer_of (Ok held) = accepted
answer_of (Err f) = fault_of f

-- the row that decides, with the value that it returns
unfoldable pub verdict_decided : {T : Type 0} → Result T Fault → Option (Decided FileRow)
verdict_decided (Ok held) = none
verdict_decided (Err f) = some (fault_row f)
