-- The file as it is put together in a buffer of zeros that has room for the largest one, and the columns for which it has.
-- Assumes nothing.
use Rattle.std.specs.Prelude.{ℕ, ◌≤◌, ◌<◌, ◌≡◌, length, get_or}
use Rattle.lfa.specs.File.{Bytes}
use Rattle.lfa.specs.FileOf.{pad}
use Rattle.network_file.specs.declared.network.Network.{Network}

-- 13 blocks that hold these bytes, and zeros after them
abbrev pub Holds : Bytes → Bytes → Type 0
Holds bytes file = (file ≡ pad 6656 bytes) × (length file ≡ 6656)

-- so many routers, links, prefixes, and attachments of each prefix as a file has room for
pub record Small (network : Network) : Type 0 where
  pub few_routers : network.links.routers ≤ 64
  pub few_links : network.links.links ≤ 128
  pub few_prefixes : network.links.prefixes ≤ 128
  pub few_attached : (p : ℕ) → p < network.links.prefixes → get_or network.attached p 0 ≤ 8
