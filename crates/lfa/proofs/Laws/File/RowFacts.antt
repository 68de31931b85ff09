-- What it tells that a test of rows 1 to 9 passes, row by row: facts about bytes and numbers.
-- Assumes nothing.
use Rattle.std.specs.Prelude.{ℕ, ◌+◌, ◌-◌, ◌*◌, ◌%◌, ◌≤◌, ◌<◌, ◌≡◌, true, false, not, ◌&&◌, ◌⊎◌, eqb, length, drop}
use Rattle.std.proofs.Common.{inl, inr, ltb-true, leb-true, eqb-true, eq-eqb, le-leb}
use Rattle.std.proofs.lemmas.Bool.{eqb-false, not-true, lt-leb}
use Rattle.lfa.specs.Lists.{every_below}
use Rattle.lfa.specs.Network.{Link, link}
use Rattle.lfa.specs.FileOf.{JoinSame}
use Rattle.lfa.specs.File.{Bytes, byte_at, word_at, part_of, all_zero, blocks_in, block_of, check_of, routers_of, links_of, prefixes_of, link_blocks, prefix_blocks, blocks_needed}
use Rattle.lfa.specs.File.{link_of, attachments, slot_router, slot, prefix_in, length_good, check_good, head_good, block_count_good, later_good, entries_in, sound_block, block_good}
use Rattle.lfa.specs.File.{sound_link, join_same, link_new, slot_good, sound_prefix, slot_new}
use Rattle.lfa.proofs.Laws.Test.{and_left, and_right, and_make, or_cases, or_left, or_right, not_gives}
use Rattle.lfa.proofs.Laws.List.{every_gives}
use Rattle.lfa.proofs.Laws.Counting.{length_map_below}

-- ---- row 1

-- the length is a multiple of 512
pub length_fact : (b : Bytes) → length_good b ≡ true → length b % 512 ≡ 0
unfolding length_good
length_fact b e = search (eqb-true, and_left, and_right)

-- ---- row 2

pub check_fact : (b : Bytes) (i : ℕ) → check_good b i ≡ true → check_of (block_of b i) ≡ word_at (block_of b i) 510
unfolding check_good
check_fact b i e = eqb-true _ _ e

-- ---- row 3

pub record HeadFacts (b : Bytes) : Type 0 where
  pub kind : byte_at b 0 ≡ 1
  pub entries : byte_at b 1 ≡ 0
  pub number : word_at b 2 ≡ 0
  pub some_routers : 1 ≤ routers_of b
  pub few_routers : routers_of b ≤ 64
  pub zero_byte : byte_at b 5 ≡ 0
  pub few_links : links_of b ≤ 128
  pub few_prefixes : prefixes_of b ≤ 128
  pub rest_zero : all_zero (part_of b 10 500) ≡ true

pub head_facts : (b : Bytes) → head_good b ≡ true → HeadFacts b
unfolding head_good
head_facts b e = search (leb-true, eqb-true, and_left, and_right) depth 12

-- ---- row 4

pub count_fact : (b : Bytes) → block_count_good b ≡ true → blocks_in b ≡ 1 + link_blocks (links_of b) + prefix_blocks (prefixes_of b)
unfolding block_count_good blocks_needed
count_fact b e = eqb-true _ _ e

-- ---- row 5

-- one block
pub record LaterFacts (e : Bytes) (number kind n size : ℕ) : Type 0 where
  pub number_right : word_at e 2 ≡ number
  pub kind_right : byte_at e 0 ≡ kind
  pub entries_right : byte_at e 1 ≡ n
  pub tail_zero : all_zero (part_of e (4 + size * n) (506 - size * n)) ≡ true

pub later_facts : (e : Bytes) (number kind n size : ℕ) → later_good e number kind n size ≡ true → LaterFacts e number kind n size
unfolding later_good
later_facts e number kind n size g = search (eqb-true, and_left, and_right) depth 12

-- which test a link block takes, and which a prefix block
pub link_block_fact : (b : Bytes) (i : ℕ) → i ≤ link_blocks (links_of b) → block_good b i ≡ true → later_good (block_of b i) i 2 (entries_in 84 (links_of b) (i - 1)) 6 ≡ true
unfolding block_good sound_block
link_block_fact b i h e = rw (le-leb i (link_blocks (links_of b)) h, sound_block) at e

pub prefix_block_fact : (b : Bytes) (i : ℕ) → link_blocks (links_of b) < i → block_good b i ≡ true →
    later_good (block_of b i) i 3 (entries_in 14 (prefixes_of b) (i - 1 - link_blocks (links_of b))) 34 ≡ true
unfolding block_good sound_block
prefix_block_fact b i h e = rw (lt-leb i (link_blocks (links_of b)) h, sound_block) at e

-- ---- row 6

pub record LinkFacts (n a b ab ba : ℕ) : Type 0 where
  pub a_in : a < n
  pub b_in : b < n
  pub two : eqb a b ≡ false
  pub out_some : 1 ≤ ab
  pub back_some : 1 ≤ ba

pub link_facts : (n a b ab ba : ℕ) → sound_link n (link a b ab ba) ≡ true → LinkFacts n a b ab ba
unfolding sound_link
link_facts n a b ab ba e = search (ltb-true, leb-true, not-true, and_left, and_right) depth 12

-- ---- row 7

-- link k and an earlier one
-- the test of row 7 decides whether two links join the same routers
pub same_make : (l m : Link) → JoinSame l m → join_same l m ≡ true
unfolding join_same
same_make (link a b ab ba) (link c d cd dc) (inl e) = or_left (eqb a c && eqb b d) _ (and_make _ _ (eq-eqb a c e.0) (eq-eqb b d e.1))
same_make (link a b ab ba) (link c d cd dc) (inr e) = or_right (eqb a c && eqb b d) _ (and_make _ _ (eq-eqb a d e.0) (eq-eqb b c e.1))

pub same_gives : (l m : Link) → join_same l m ≡ true → JoinSame l m
unfolding join_same
same_gives (link a b ab ba) (link c d cd dc) e = go (or_cases (eqb a c && eqb b d) (eqb a d && eqb b c) e)
  where
    go : ((eqb a c && eqb b d) ≡ true) ⊎ ((eqb a d && eqb b c) ≡ true) → ((a ≡ c) × (b ≡ d)) ⊎ ((a ≡ d) × (b ≡ c))
    go (inl t) = inl (search (eqb-true, and_left, and_right))
    go (inr t) = inr (search (eqb-true, and_left, and_right))

pub not_parallel : (b : Bytes) (k i : ℕ) → link_new b k ≡ true → i < k → JoinSame (link_of b k) (link_of b i) → ⊥
unfolding link_new
not_parallel b k i e h s = not_gives _ (every_gives (λ j. not (join_same (link_of b k) (link_of b j))) k e i h) (same_make (link_of b k) (link_of b i) s)

-- ---- row 8

-- one entry
pub record PrefixFacts (n : ℕ) (entry : Bytes) : Type 0 where
  pub some : 1 ≤ attachments entry
  pub few : attachments entry ≤ 8
  pub zero_byte : byte_at entry 1 ≡ 0
  pub slots : every_below (slot_good n entry) (attachments entry) ≡ true
  pub unused_zero_lem : all_zero (drop (2 + 4 * attachments entry) entry) ≡ true

pub prefix_facts : (n : ℕ) (entry : Bytes) → sound_prefix n entry ≡ true → PrefixFacts n entry
unfolding sound_prefix
prefix_facts n entry e = search (leb-true, eqb-true, and_left, and_right) depth 12

-- one of its used slots
pub slot_facts : (n : ℕ) (entry : Bytes) (s : ℕ) → slot_good n entry s ≡ true → (slot_router entry s < n) × (byte_at entry (3 + 4 * s) ≡ 0)
unfolding slot_good
slot_facts n entry s e = search (ltb-true, eqb-true, and_left, and_right) depth 12

-- the prefix that an entry holds has as many attachments as the entry says
pub prefix_length : (entry : Bytes) → length (prefix_in entry) ≡ attachments entry
unfolding prefix_in
prefix_length entry = length_map_below (slot entry) (attachments entry)

-- ---- row 9

-- two slots of one entry
pub routers_differ : (entry : Bytes) (i j : ℕ) → every_below (slot_new entry) (attachments entry) ≡ true →
    i < j → j < attachments entry → slot_router entry j ≡ slot_router entry i → ⊥
unfolding slot_new
routers_differ entry i j e h k =
    eqb-false _ _ (not-true _ (every_gives (λ i. not (eqb (slot_router entry j) (slot_router entry i))) j (every_gives (slot_new entry) (attachments entry) e j k) i h))
