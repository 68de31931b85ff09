-- The network that a run of Router-LSAs means, in words: relations, of which nothing is computed.
-- Assumes nothing.
use Rattle.std.specs.Prelude.{ℕ, ◌≤◌, ◌<◌, ◌≡◌, ◌⊎◌, ◌↔◌, get_or, length}
use mathlib.Core.List.{List, Memᴰ}
use Rattle.lfa.specs.Network.{Link, link, Attachment, at, Target, Network}
use Rattle.ospf.specs.Order.{Ascending, Paired}
use Rattle.ospf.specs.Lsa.{Entry, entry, Lsa, lsa}

-- ---- the orders

-- the network and mask of a stub link: its Link ID, as it stands there, and its Link Data
pub data Name : Type 0 where
  name : (network mask : ℕ) → Name

-- prefixes are "ordered by network, then mask"
abbrev pub NameBefore : Name → Name → Type 0
NameBefore (name n m) (name n' m') = (n < n') ⊎ ((n ≡ n') × (m < m'))

-- links have "the lower router as a", and are "ordered by it, then the higher"
abbrev pub LinkBefore : Link → Link → Type 0
LinkBefore (link a b ab ba) (link a' b' ab' ba') = (a < a') ⊎ ((a ≡ a') × (b < b'))

-- "attachments by router"
abbrev pub AttachmentBefore : Attachment → Attachment → Type 0
AttachmentBefore (at a c) (at a' c') = a < a'

module _ (run : List Lsa) where
  -- ---- what the LSAs say

  -- router r has an LSA
  pub record HasLsa (r : ℕ) : Type 0 where
    pub entries : List Entry
    pub among : Memᴰ (lsa r entries) run

  -- the LSA of router r has this link
  pub record HasEntry (r : ℕ) (e : Entry) : Type 0 where
    pub entries : List Entry
    pub among : Memᴰ (lsa r entries) run
    pub has : Memᴰ e entries

  -- the LSA of x describes a point-to-point link to y at this metric
  pub record Describes (x y metric : ℕ) : Type 0 where
    pub info : ℕ
    pub described : HasEntry x (entry y info 1 0 metric)

  -- the LSA of x has a stub link for this network and mask at this metric
  pub data HasStub (x : ℕ) (metric : ℕ) : Name → Type 0 where
    has_stub : {network mask : ℕ} → HasEntry x (entry network mask 3 0 metric) → HasStub x metric (name network mask)

  -- "Two stub entries of one router for one network and mask keep the lower metric."
  pub record LeastStub (x : ℕ) (metric : ℕ) (p : Name) : Type 0 where
    pub some : HasStub x metric p
    pub least : (m : ℕ) → HasStub x m p → metric ≤ m

  -- ---- the network

  -- "Routers are numbered by ascending Link State ID": element a of the list is the Link State ID of router a
  pub record Numbering (ids : List ℕ) : Type 0 where
    pub ascending : Ascending ◌<◌ ids
    pub just : (r : ℕ) → Memᴰ r ids ↔ HasLsa r

  -- "Point-to-point links become links when both sides describe each other, the lower router as a .. a one-sided one is dropped (section
  -- 16.1)": one to a router without an LSA too
  pub record Joins (ids : List ℕ) (a b ab ba : ℕ) : Type 0 where
    pub lower : a < b
    pub higher : b < length ids
    pub out : Describes (get_or ids a 0) (get_or ids b 0) ab
    pub back : Describes (get_or ids b 0) (get_or ids a 0) ba

  -- the routers attached to a prefix: each that has such a stub link, at its least metric, "attachments by router"
  pub record Attaches (ids : List ℕ) (p : Name) (to : Target) : Type 0 where
    pub ascending : Ascending AttachmentBefore to
    pub just : (a c : ℕ) → Memᴰ (at a c) to ↔ ((a < length ids) × LeastStub (get_or ids a 0) c p)

  -- the network "holds just these routers, links and prefixes"
  pub record Means (net : Network) : Type 0 where
    -- a router for each LSA
    pub ids : List ℕ
    pub numbering : Numbering ids
    pub one_each : length ids ≡ length run
    pub routers : net.routers ≡ length ids
    -- a link exactly where both LSAs describe each other, with these two metrics
    pub links_ascending : Ascending LinkBefore net.links
    pub links_just : (a b ab ba : ℕ) → Memᴰ (link a b ab ba) net.links ↔ Joins ids a b ab ba
    -- "Stub links become prefixes": one exactly where some LSA has a stub link of that network and mask
    pub names : List Name
    pub names_ascending : Ascending NameBefore names
    pub names_just : (p : Name) → Memᴰ p names ↔ ((r : ℕ) × (m : ℕ) × HasStub r m p)
    pub prefixes : Paired (Attaches ids) names net.prefixes
