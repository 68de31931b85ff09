-- The limits of the head's numbers, one by one.
-- Assumes nothing.
use borrow.Author.Tests.{le-leb, lt-leb}
use Rattle.lfa.specs.File.{routers_of, links_of, prefixes_of, byte_at}
use Rattle.block.specs.Head.{counts_good}
use Rattle.block.proofs.head.counts_good.Goals as goal

pub returns-then-routers-lt1 : goal.returns-then-routers-lt1
unfolding counts_good routers_of byte_at
returns-then-routers-lt1 c = rw (counts_good, lt-leb _ _ c.if-routers-lt1.true)

pub returns-then-routers-gt64 : goal.returns-then-routers-gt64
unfolding counts_good routers_of byte_at
returns-then-routers-gt64 c = rw (counts_good, le-leb _ _ c.if-routers-lt1.false, lt-leb _ _ c.if-routers-gt64.true)

pub returns-then-word_at-gt128 : goal.returns-then-word_at-gt128
unfolding counts_good routers_of links_of byte_at
returns-then-word_at-gt128 c = rw (counts_good, le-leb _ _ c.if-routers-lt1.false, le-leb _ _ c.if-routers-gt64.false, ← c.word_at.ensures, lt-leb _ _ c.if-word_at-gt128.true)

pub returns : goal.returns
unfolding counts_good routers_of links_of prefixes_of byte_at
returns c = rw (counts_good, le-leb _ _ c.if-routers-lt1.false, le-leb _ _ c.if-routers-gt64.false, ← c.word_at.ensures, le-leb _ _ c.if-word_at-gt128.false, ← c.word_at-2.ensures)
