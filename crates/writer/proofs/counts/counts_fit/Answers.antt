-- Each count is tested.
-- Assumes nothing.
use Rattle.std.proofs.Common.{rules}
use Rattle.writer.proofs.WriteLaws.{many_routers, many_links, many_prefixes, few_counted}
use Rattle.writer.proofs.counts.counts_fit.Goals as goal

pub returns-then-network-gt64 : goal.returns-then-network-gt64
returns-then-network-gt64 c = many_routers _ c.if-network-gt64.true

pub returns-then-network-gt128 : goal.returns-then-network-gt128
returns-then-network-gt128 c = many_links _ c.if-network-gt128.true

pub returns-then-prefixes-gt128 : goal.returns-then-prefixes-gt128
returns-then-prefixes-gt128 c = many_prefixes _ c.if-prefixes-gt128.true

pub returns : goal.returns
returns c = few_counted _ _ (search rules) c.if-network-gt64.false c.if-network-gt128.false c.if-prefixes-gt128.false c.entries_fit.ensures
