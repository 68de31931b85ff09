-- The network by value, as document 01's network gives it: columns of numbers, zeros past the last.
-- Assumes nothing.
use Rattle.std.specs.Prelude.{ℕ, zero, suc, ◌+◌, List, map, length, set}
use Rattle.lfa.specs.Lists.{below, flat}
use Rattle.lfa.specs.Network as lfa
use Rattle.lfa.specs.Network.{Link, link, Attachment, at, Target}
use Rattle.lfa.specs.File.{Bytes, link_of, prefix_of}
use Rattle.lfa.specs.FileOf.{pad}
use Rattle.network_file.specs.declared.network.Network.{Network}
use Rattle.metric.specs.declared.columns.Links.{Links}

-- ---- one number of a link or of an attachment

unfoldable pub from_of : Link → ℕ
from_of (link a b ab ba) = a

unfoldable pub to_of : Link → ℕ
to_of (link a b ab ba) = b

unfoldable pub out_of : Link → ℕ
out_of (link a b ab ba) = ab

unfoldable pub back_of : Link → ℕ
back_of (link a b ab ba) = ba

unfoldable pub router_of : Attachment → ℕ
router_of (at r c) = r

unfoldable pub cost_of : Attachment → ℕ
cost_of (at r c) = c

-- ---- columns

-- f 0, f 1, .., f (n - 1), and zeros after them, `size` numbers in all
unfoldable pub column : ℕ → ℕ → (ℕ → ℕ) → List ℕ
column size n f = pad size (map f (below n))

-- a column after n stores, from cell k on
unfoldable pub stored : ℕ → ℕ → (ℕ → ℕ) → List ℕ → List ℕ
stored k zero f cells = cells
stored k (suc n) f cells = set (stored k n f cells) (k + n) (f n)

-- one number of each link
unfoldable pub link_column : (Link → ℕ) → List Link → List ℕ
link_column f links = pad 128 (map f links)

-- one number of each attachment, eight cells to a prefix
unfoldable pub slot_column : (Attachment → ℕ) → List Target → List ℕ
slot_column f prefixes = pad 1024 (flat (map (λ to. pad 8 (map f to)) prefixes))

-- how many attachments each prefix has
unfoldable pub attached_column : List Target → List ℕ
attached_column prefixes = pad 128 (map length prefixes)

-- ---- structs

-- the counts and the links of a network, by value
unfoldable pub links_struct_of : lfa.Network → Links
links_struct_of net =
    record {
      routers = net.routers;
      links = length net.links;
      prefixes = length net.prefixes;
      from = link_column from_of net.links;
      to = link_column to_of net.links;
      out = link_column out_of net.links;
      back = link_column back_of net.links;
    }

-- the network by value: its counts and its links, and its attachments
unfoldable pub struct_of : lfa.Network → Network
struct_of net =
    record {
      links = links_struct_of net;
      attached = attached_column net.prefixes;
      at = slot_column router_of net.prefixes;
      own = slot_column cost_of net.prefixes;
    }

-- the counts and the links of a network by value
abbrev pub link_part : Network → Links
link_part network = network.links

-- ---- what a file holds

-- its first n links, and its first n prefixes
unfoldable pub links_in : Bytes → ℕ → List Link
links_in b n = map (link_of b) (below n)

unfoldable pub prefixes_in : Bytes → ℕ → List Target
prefixes_in b n = map (prefix_of b) (below n)
