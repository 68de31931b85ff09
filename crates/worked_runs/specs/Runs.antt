-- Runs of Router-LSAs, byte by byte as RFC 2328, A.4.2 lays them out. Their checksums were worked out by another program.
-- Assumes nothing.
use Rattle.std.specs.Prelude.{ℕ, [], ◌∷◌, ◌++◌}
use Rattle.lfa.specs.File.{Bytes}

-- ---- the parts of an LSA

-- an address
abbrev address : (a b c d : ℕ) → Bytes
address a b c d = a ∷ b ∷ c ∷ d ∷ []

-- the first 24 bytes: age 1, options 2, LS type 1, Link State ID and advertising router, sequence number, checksum, length, no flags, links
unfoldable pub head : (router : Bytes) (c₀ c₁ size links : ℕ) → Bytes
head router c₀ c₁ size links = 0 ∷ 1 ∷ 2 ∷ 1 ∷ router ++ router ++ 128 ∷ 0 ∷ 0 ∷ 1 ∷ c₀ ∷ c₁ ∷ 0 ∷ size ∷ 0 ∷ 0 ∷ 0 ∷ links ∷ []

-- a point-to-point link and a stub link, of metrics below 256
unfoldable pub to_router : (router : Bytes) (info metric : ℕ) → Bytes
to_router router info metric = router ++ 0 ∷ 0 ∷ 0 ∷ info ∷ 1 ∷ 0 ∷ 0 ∷ metric ∷ []

unfoldable pub to_stub : (network mask : Bytes) (metric : ℕ) → Bytes
to_stub network mask metric = network ++ mask ++ 3 ∷ 0 ∷ 0 ∷ metric ∷ []

-- routers 10.0.0.1 to 10.0.0.3 and 192.168.0.1; network 11.0.0.0; the masks of /8 and /16
unfoldable pub r1 : Bytes
r1 = address 10 0 0 1

unfoldable pub r2 : Bytes
r2 = address 10 0 0 2

unfoldable pub r3 : Bytes
r3 = address 10 0 0 3

unfoldable pub far : Bytes
far = address 192 168 0 1

unfoldable pub net8 : Bytes
net8 = address 11 0 0 0

unfoldable pub mask8 : Bytes
mask8 = address 255 0 0 0

unfoldable pub mask16 : Bytes
mask16 = address 255 255 0 0

-- ---- runs that mean a network

-- three routers, not in order; one link and one that is one-sided; one prefix of two routers, of which one has it twice, and one of another mask
unfoldable pub simple : Bytes
simple =
    (head r2 184 73 48 2 ++ to_router r1 1 20 ++ to_stub net8 mask8 0)
    ++ (head r1 102 57 84 5 ++ to_router r2 9 10 ++ to_router r3 3 5 ++ to_stub net8 mask8 7 ++ to_stub net8 mask8 4 ++ to_stub net8 mask16 1)
    ++ head r3 114 214 24 0

-- one router alone
unfoldable pub lone : Bytes
lone = head far 177 220 24 0

-- fields that turn nothing away and drop nothing, each at an end of its range: age (3,600 too), options, advertising router, sequence number,
-- flags, Link Data; the largest metrics, a stub metric of 0, network and mask 0
unfoldable pub other_fields : Bytes
other_fields =
    (255 ∷ 255 ∷ 255 ∷ 1 ∷ r1 ++ address 0 0 0 7 ++ address 0 0 0 0 ++ 52 ∷ 107 ∷ 0 ∷ 48 ∷ 255 ∷ 0 ∷ 0 ∷ 2 ∷ []
    ++ r2 ++ address 0 0 0 0 ++ address 1 0 255 255 ++ net8 ++ address 0 0 0 0 ++ address 3 0 255 255)
    ++ 14 ∷ 16 ∷ 2 ∷ 1 ∷ r2 ++ r1 ++ address 128 0 0 1 ++ 135 ∷ 154 ∷ 0 ∷ 48 ∷ 0 ∷ 0 ∷ 0 ∷ 2 ∷ []
    ++ r1 ++ address 255 255 255 255 ++ address 1 0 0 1 ++ to_stub (address 0 0 0 0) (address 0 0 0 0) 0

-- routers, links, prefixes and attachments none of which stand in order
unfoldable pub unordered : Bytes
unordered =
    (head far 218 85 60 3 ++ to_router r3 1 4 ++ to_router r1 2 5 ++ to_stub net8 mask16 3)
    ++ (head r3 122 16 60 3 ++ to_router r1 1 6 ++ to_router far 2 7 ++ to_stub net8 mask8 2)
    ++ (head r2 143 128 48 2 ++ to_stub (address 0 0 0 0) mask8 9 ++ to_stub (address 10 255 255 255) (address 255 255 255 255) 8)
    ++ head r1 106 32 60 3 ++ to_router far 1 8 ++ to_router r3 1 9 ++ to_stub net8 mask8 1

-- links that are one-sided, to a router with an LSA and to one without
unfoldable pub one_sided : Bytes
one_sided = (head r1 253 176 48 2 ++ to_router r2 1 5 ++ to_router far 1 5) ++ head r2 130 200 24 0

-- ---- LSAs that are bad after a good one

unfoldable pub good : Bytes
good = head r1 77 210 36 1 ++ to_router r2 9 10

-- a link of type 2
unfoldable pub transit : Bytes
transit = head r2 47 255 36 1 ++ r1 ++ address 0 0 0 1 ++ address 2 0 0 1

unfoldable pub metric_zero : Bytes
metric_zero = head r2 14 35 36 1 ++ to_router r1 1 0

unfoldable pub to_itself : Bytes
to_itself = head r2 42 5 36 1 ++ to_router r2 1 1

unfoldable pub named_before : Bytes
named_before = head r1 146 186 24 0

-- a link with one TOS metric
unfoldable pub tos_metric : Bytes
tos_metric = head r2 41 245 40 1 ++ r1 ++ address 0 0 0 1 ++ address 1 1 0 1 ++ address 8 0 0 4

-- two links told of, one there
unfoldable pub too_few : Bytes
too_few = head r2 38 9 36 2 ++ to_router r1 1 1

unfoldable pub several : Bytes
several = head r2 190 56 60 3 ++ to_router r1 1 1 ++ to_stub net8 mask8 1 ++ to_router r1 2 2

-- LS type 2
unfoldable pub other_type : Bytes
other_type = 0 ∷ 1 ∷ 2 ∷ 2 ∷ r2 ++ r2 ++ address 128 0 0 1 ++ address 116 213 0 24 ++ address 0 0 0 0

unfoldable pub wrong_sums : Bytes
wrong_sums = head r2 130 201 24 0

-- a checksum of zero, under which the sums are 0
unfoldable pub zero_checksum : Bytes
zero_checksum = 0 ∷ 1 ∷ 2 ∷ 1 ∷ r2 ++ r2 ++ address 213 245 0 1 ++ address 0 0 0 24 ++ address 0 0 0 0

-- the last byte is missing
unfoldable pub cut_short : Bytes
cut_short = 0 ∷ 1 ∷ 2 ∷ 1 ∷ r2 ++ r2 ++ address 128 0 0 1 ++ address 130 200 0 24 ++ 0 ∷ 0 ∷ 0 ∷ []

-- a run whose first LSA is bad too
unfoldable pub both_bad : Bytes
both_bad = (head r1 48 2 36 1 ++ to_router r1 1 1) ++ to_itself
