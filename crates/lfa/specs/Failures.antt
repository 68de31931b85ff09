-- "Several failures together" (Point 9): packets for one prefix while any links are down. Each router sends a packet on by itself, without
-- knowing which other links are down. This page has the words and what is promised; `Laws/Failures.antt` proves it.
-- Assumes nothing.
use Rattle.std.specs.Prelude.{ℕ, suc, ◌≤◌, ◌<◌, ◌≡◌, ◌⊎◌, get_or, length}
use mathlib.Core.List.{List, [], Memᴰ}
use Rattle.lfa.specs.Network.{Arc, Target, arcs}
use Rattle.lfa.specs.File.{Bytes, network_of}
use Rattle.lfa.specs.Distance.{distances, distance_in, towards}
use Rattle.lfa.specs.Walk.{Step, WalkBy}
use Rattle.lfa.specs.Space.{under_maintenance, Protected, protected}
use Rattle.lfa.specs.Repair.{IsPair, Serves, HasClass, Told}
use Rattle.lfa.specs.Question.{Question, ask_prefix, ask_prefix_with}
use Rattle.lfa.specs.Refusal.{Posed}
use Rattle.lfa.specs.Answer.{repair, answer_to}

-- ---- the network of a file, its costs, and the prefix

abbrev pub hops_of : Bytes → List Arc
hops_of b = arcs (network_of b)

abbrev pub costs_of : Bytes → ℕ → ℕ → ℕ
costs_of b = distance_in (distances (network_of b))

abbrev pub prefix_of : Bytes → ℕ → Target
prefix_of b p = get_or (network_of b).prefixes p []

-- a link of the file and one of its ends
abbrev pub link_of : Bytes → (link end : ℕ) → Protected
link_of b link end = protected under_maintenance (network_of b) link end

-- ---- how a router sends a packet on: "by a usual step of the walk, or by a neighbour repair for that prefix that is downstream"

-- A neighbour repair for the prefix: x is the router S of some link and end, whether or not that link has failed, and (z, z) is a pair that
-- serves the prefix, its first hop z reached over link l. Any such pair, not only the one that a table of ranks puts first. "Tunnels aren't
-- meant": the first hop is the endpoint.
pub record NeighbourRepair (b : Bytes) (p x z l : ℕ) : Type 0 where
  pub link : ℕ
  pub end : ℕ
  pub link_in_lem : link < length (network_of b).links
  pub end_in : end ≤ 1
  pub near_is : (link_of b link end).near ≡ x
  pub cost : ℕ
  pub candidate : IsPair (network_of b).routers (hops_of b) (link_of b link end) (record { hop = record { router = z; cost = cost; over = l }; endpoint = z })
  pub serves : Serves (hops_of b) (costs_of b) (link_of b link end) (prefix_of b p) z z

-- "downstream (classes 0 and 4)"
abbrev pub Downstream : ℕ → Type 0
Downstream class = (class ≡ 0) ⊎ (class ≡ 4)

pub record DownstreamRepair (b : Bytes) (p x z l : ℕ) : Type 0 where
  pub repairs : NeighbourRepair b p x z l
  pub class : ℕ
  pub class_is : HasClass (hops_of b) (costs_of b) (link_of b repairs.link repairs.end) (prefix_of b p) z z class
  pub downstream : Downstream class

-- what a router x may do with the packet: to send it on to z, over link l
abbrev pub MaySend : Bytes → (p x z l : ℕ) → Type 0
MaySend b p x z l = Step (hops_of b) (costs_of b) (prefix_of b p) x z l ⊎ DownstreamRepair b p x z l

-- It sends the packet over a link that has not failed: "in any mixture", so each router may choose anew for each packet.
pub record Sends (b : Bytes) (p : ℕ) (failed : List ℕ) (x z l : ℕ) : Type 0 where
  pub is_up : Memᴰ l failed → ⊥
  pub way : MaySend b p x z l

-- what is said of the answer to a prefix repair question about a link and end
abbrev pub AnswerSends : Bytes → (p link end : ℕ) → Question → Type 0
AnswerSends b p link end q =
    (t : Told) → Posed q → answer_to q ≡ repair t → Downstream t.class → (t.endpoint ≡ t.first) × ((l : ℕ) × DownstreamRepair b p (link_of b link end).near t.first l)

-- ---- what is promised

-- For every accepted file, every prefix, and "whichever links have failed"; links may fail while the packet is on its way, since the empty
-- list of failed links allows most. The packet may stop anywhere: "a router with neither choice drops the packet".
pub record SeveralFailures (b : Bytes) (p : ℕ) : Type 0 where
  -- "no packet for that prefix ever visits a router twice": from whichever router x on its way, it does not come back to it
  pub never_twice : (failed : List ℕ) (x k : ℕ) → WalkBy (Sends b p failed) x x (suc k) → ⊥
  -- so it takes fewer hops than there are routers
  pub fewer_hops : (failed : List ℕ) (x u k : ℕ) → x < (network_of b).routers → WalkBy (Sends b p failed) x u k → k < (network_of b).routers
  -- Nothing is left out that a router may do: over a link that is up it may take any usual step, and use any neighbour repair whose first
  -- hop is nearer to the prefix than the router itself ..
  pub each_step : (failed : List ℕ) (x z l : ℕ) → (Memᴰ l failed → ⊥) → Step (hops_of b) (costs_of b) (prefix_of b p) x z l → Sends b p failed x z l
  pub each_repair : (failed : List ℕ) (x z l : ℕ) → (Memᴰ l failed → ⊥) → NeighbourRepair b p x z l →
      towards (costs_of b) (prefix_of b p) z < towards (costs_of b) (prefix_of b p) x → Sends b p failed x z l
  -- .. and what the planner answers, under any ranks, with class 0 or 4, is such a repair, over some link; by its own fill or a lent table
  pub answer_sends : (area link end : ℕ) (ranks : List ℕ) → AnswerSends b p link end (ask_prefix b area ranks link end p)
  pub answer_sends_with : (link end : ℕ) (table ranks : List ℕ) → AnswerSends b p link end (ask_prefix_with b table ranks link end p)
