-- The member sought is the one with `left` members before it from r on.
use Rattle.std.proofs.Common.{◌≡◌, get_or}
use Rattle.options.specs.Options.{members_of}
use Rattle.options.proofs.MemberLaws.{from}
use Rattle.options.proofs.member.Given as goal

abbrev pub invariant-loop-r : goal.invariant-loop-r
invariant-loop-r l = get_or (from l.set l.r) l.left 0 ≡ get_or (members_of l.set) l.k 0
