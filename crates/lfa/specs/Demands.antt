-- The three demands of the co-operative, in its words and its order, about the definitions that the contracts of the public calls cite:
-- `answer_to` and `exit_of` of a question, `network_loaded`, `link_part` and `prefix_part` of a file, `size_of` of a set, `Drilled` and `Wrote`
-- of a buffer. Statements only: `Laws/Demands.antt` proves the last type of this page.
-- Assumes nothing.
use Rattle.std.specs.Prelude.{ℕ, ◌+◌, ◌*◌, ◌%◌, ◌≤◌, ◌<◌, ◌≡◌, ◌⊎◌, ◌↔◌, true, ◌&&◌, not, get_or, length, take, drop}
use mathlib.Core.List.{List, [], ◌∷◌, ◌++◌, map, Memᴰ}
use Rattle.lfa.specs.Lists.{count_up, member_of, HowMany}
use Rattle.lfa.specs.Network.{Arc, arc, at, Target, Attached, Network, router, arcs}
use Rattle.lfa.specs.File.{Bytes, byte_at, links_of, prefixes_of, link_entry, prefix_entry}
use Rattle.lfa.specs.FileOf.{file_of, WithinLimits}
use Rattle.lfa.specs.Distance.{unreachable, LeastCosts, distances, distance_in, towards}
use Rattle.lfa.specs.Walk.{Step, Delivers, WalkBy, Walk, CrossesBy, ArrivesBy}
use Rattle.lfa.specs.Former.{FormerStep, FormerDelivers, OwnCostsBelow}
use Rattle.lfa.specs.Space.{under_maintenance, FirstHop, IsFirstHop, Space, has, size_of, Member}
use Rattle.lfa.specs.Ranks.{rank_of, Arrangement, ascending}
use Rattle.lfa.specs.Repair.{Pair, IsPair, HasBaseClass, Told, Tells, Keys, First, MayCross}
use Rattle.lfa.specs.Route.{deliver, AreOptionsBy, AreOptions, options, NamedRoute}
use Rattle.lfa.specs.Question.{Question, Source, own_fill, lent_table, Call, load, fill, link_repair, prefix_repair, route, space, loading, filling, ask_space, ask_link, ask_prefix, ask_route, ask_link_with, ask_prefix_with, ask_route_with, to_prefix_repair, has_input, without_maintenance, with_ranks, with_table, LooksAtFirstHops, Buffer, work_area, route_buffer, a_table, a_rank_table, a_link, a_prefix, lent, HasInput, network_asked, link_asked, prefix_asked}
use Rattle.lfa.specs.Refusal.{Row, no_pair, Applies, entry_of, rows_tried, Decides, Accepted, Posed}
use Rattle.lfa.specs.Writing.{Wrote}
use Rattle.lfa.specs.Failures.{SeveralFailures}
use Rattle.lfa.specs.Drill.{IsDrill, Drilled}
use Rattle.lfa.specs.Answer.{Answer, refused, accepted, done, untouched, unreached, set, repair, played, answer_to, leave, written_to, exit_of, network_loaded, link_part, prefix_part}

-- ---- demand 1: "every public call takes every input, always returns" (no contract has a `requires`, and each function is proved to
-- end), "gives the refusal that the table in document 01 states, and leaves each lent buffer as that table says"

-- no row that the call tries applies
abbrev pub NoRow : Question → Type 0
NoRow q = (r : Row) (v : ℕ) → Memᴰ r (rows_tried q.call) → Applies q r v → ⊥

-- of every question
pub record ByTheTable (q : Question) : Type 0 where
  -- the first row that applies is the refusal given, and nothing else is refused
  pub refusal_given : (r : Row) (v : ℕ) → Decides q r v → answer_to q ≡ refused (entry_of r).number v
  pub refusal_stated : (k v : ℕ) → answer_to q ≡ refused k v → (r : Row) × ((entry_of r).number ≡ k) × Decides q r v
  -- it leaves each buffer that the call is lent as the table says; where no row applies, the call writes the buffer
  pub row_leaves : (r : Row) (v : ℕ) → Decides q r v → (x : Buffer) → HasInput q (lent x) → (before : List ℕ) → exit_of q x before ≡ leave ((entry_of r).left x) before (written_to q x before)
  pub no_row_leaves : NoRow q → (x : Buffer) → HasInput q (lent x) → (before : List ℕ) → exit_of q x before ≡ written_to q x before
  -- a file without a fault is accepted, and distances are computed
  pub loaded : q.call ≡ load → NoRow q → answer_to q ≡ accepted
  pub filled : q.call ≡ fill → NoRow q → answer_to q ≡ done

-- of the calls for the bytes of one entry: "for a refused file or a link or prefix number too large that part, its whole answer, is empty"
pub record PartGiven (b : Bytes) (k count : ℕ) (entry part : Bytes) : Type 0 where
  pub whole : ((r : Row) (v : ℕ) → Decides (loading b) r v → ⊥) → k < count → part ≡ entry
  pub refused_file : (r : Row) (v : ℕ) → Decides (loading b) r v → part ≡ []
  pub too_large : count ≤ k → part ≡ []

-- the numbers of the rows that a call tries, in the order of trying
abbrev pub numbers_tried : Call → List ℕ
numbers_tried c = map (λ r. (entry_of r).number) (rows_tried c)

-- "A call tries only the rows it has inputs for"
pub record EachCallTries : Type 0 where
  pub load : numbers_tried load ≡ count_up 1 9
  pub distances : numbers_tried fill ≡ count_up 1 10
  pub space : (s : Space) → numbers_tried (space s) ≡ count_up 1 10 ++ 12 ∷ []
  pub link_repair_lem : numbers_tried (link_repair own_fill) ≡ count_up 1 10 ++ 15 ∷ 12 ∷ 14 ∷ []
  pub prefix_repair_lem : numbers_tried (prefix_repair own_fill) ≡ count_up 1 10 ++ 15 ∷ 12 ∷ 13 ∷ 14 ∷ []
  -- Point 7: number 18 is "tried after 10 in the second call"
  pub link_repair_with : numbers_tried (link_repair lent_table) ≡ count_up 1 10 ++ 18 ∷ 15 ∷ 12 ∷ 14 ∷ []
  pub prefix_repair_with : numbers_tried (prefix_repair lent_table) ≡ count_up 1 10 ++ 18 ∷ 15 ∷ 12 ∷ 13 ∷ 14 ∷ []
  pub route_with : numbers_tried (route lent_table) ≡ count_up 1 10 ++ 18 ∷ 11 ∷ 15 ∷ 12 ∷ 13 ∷ 14 ∷ []
  pub route : numbers_tried (route own_fill) ≡ count_up 1 11 ++ 15 ∷ 12 ∷ 13 ∷ 14 ∷ []

-- which calls are lent a buffer to write: a work area those that try row 10 and are lent no table, which is only read; a route buffer those
-- that try row 11
pub record EachIsLent : Type 0 where
  pub area : (c : Call) → has_input c (lent work_area) ≡ (member_of 10 (numbers_tried c) && not (member_of 18 (numbers_tried c)))
  pub route : (c : Call) → has_input c (lent route_buffer) ≡ member_of 11 (numbers_tried c)

-- a question of this call about this file, with so many cells for distances, and with these ranks, link, end and prefix
abbrev pub Holds : Question → Call → Bytes → (cells : ℕ) → (ranks : List ℕ) → (link end prefix : ℕ) → Type 0
Holds q c b cells ranks l e p = (q.call ≡ c) × (q.file ≡ b) × (q.cells ≡ cells) × (q.ranks ≡ ranks) × (q.link ≡ l) × (q.end ≡ e) × (q.prefix ≡ p)

-- Each question holds what the call is given. With a table it is the question of the single call, put to the second one, and the route
-- question is about the same as the prefix repair question.
pub record EachQuestion : Type 0 where
  pub of_load : (b : Bytes) → Holds (loading b) load b 0 [] 0 0 0
  pub of_distances : (b : Bytes) (area : ℕ) → Holds (filling b area) fill b area [] 0 0 0
  pub of_space : (s : Space) (b : Bytes) (area l e : ℕ) → Holds (ask_space s b area l e) (space s) b area [] l e 0
  pub of_link : (b : Bytes) (area l e : ℕ) (ranks : List ℕ) → Holds (ask_link b area ranks l e) (link_repair own_fill) b area ranks l e 0
  pub of_prefix : (b : Bytes) (area l e p : ℕ) (ranks : List ℕ) → Holds (ask_prefix b area ranks l e p) (prefix_repair own_fill) b area ranks l e p
  pub of_route : (b : Bytes) (area buffer l e p : ℕ) (ranks choices : List ℕ) →
      Holds (ask_route b area buffer ranks l e p choices) (route own_fill) b area ranks l e p
      × ((ask_route b area buffer ranks l e p choices).buffer ≡ buffer) × ((ask_route b area buffer ranks l e p choices).choices ≡ choices)
  pub of_link_with : (b : Bytes) (area l e : ℕ) (table ranks : List ℕ) →
      ((ask_link_with b table ranks l e).call ≡ link_repair lent_table) × (ask_link_with b table ranks l e ≡ with_table table (ask_link b area ranks l e))
  pub of_prefix_with : (b : Bytes) (area l e p : ℕ) (table ranks : List ℕ) →
      ((ask_prefix_with b table ranks l e p).call ≡ prefix_repair lent_table) × (ask_prefix_with b table ranks l e p ≡ with_table table (ask_prefix b area ranks l e p))
  pub of_route_with : (b : Bytes) (area buffer l e p : ℕ) (table ranks choices : List ℕ) →
      ((ask_route_with b table buffer ranks l e p choices).call ≡ route lent_table)
      × (ask_route_with b table buffer ranks l e p choices ≡ with_table table (ask_route b area buffer ranks l e p choices))
  pub with_table_lem : (table : List ℕ) (q : Question) → Holds (with_table table q) (with_table table q).call q.file (length table) q.ranks q.link q.end q.prefix
      × ((with_table table q).table ≡ table) × ((with_table table q).buffer ≡ q.buffer) × ((with_table table q).choices ≡ q.choices) × ((with_table table q).maintenance ≡ q.maintenance)
  pub route_prefix : (b : Bytes) (area buffer l e p : ℕ) (ranks choices : List ℕ) → to_prefix_repair own_fill (ask_route b area buffer ranks l e p choices) ≡ ask_prefix b area ranks l e p
  pub route_prefix_with : (b : Bytes) (buffer l e p : ℕ) (table ranks choices : List ℕ) →
      to_prefix_repair lent_table (ask_route_with b table buffer ranks l e p choices) ≡ ask_prefix_with b table ranks l e p

-- rows 1 to 9 together: accepted files and networks within the limits of document 01 are the same thing
pub record FilesAndNetworks : Type 0 where
  pub written : (net : Network) → WithinLimits net → Accepted (file_of net) × (network_loaded (file_of net) ≡ net)
  pub read : (b : Bytes) → Accepted b → WithinLimits (network_loaded b) × (file_of (network_loaded b) ≡ b)

pub record Demand1 : Type 0 where
  pub rows : EachCallTries
  pub buffers : EachIsLent
  pub questions : EachQuestion
  pub files : FilesAndNetworks
  pub by_the_table : (q : Question) → ByTheTable q
  pub link_given : (b : Bytes) (k : ℕ) → PartGiven b k (links_of b) (link_entry b k) (link_part b k)
  pub prefix_given : (b : Bytes) (k : ℕ) → PartGiven b k (prefixes_of b) (prefix_entry b k) (prefix_part b k)

-- ---- what demands 2 and 3 speak of: the routers, hops and D(x,t) of the question's network

abbrev pub N : Question → ℕ
N q = (network_asked q).routers

abbrev pub Hops : Question → List Arc
Hops q = arcs (network_asked q)

abbrev pub D : Question → ℕ → ℕ → ℕ
D q = distance_in (distances (network_asked q))

-- "Whichever equal-cost hop each router takes, every walk by pre-failure costs from first hop to endpoint, and every one from
-- endpoint to prefix, arrives, each leg in fewer hops than there are routers, and crosses the link in neither direction."
pub record HasThisBy (steps : Target → ℕ → ℕ → ℕ → Type 0) (ends : Target → ℕ → Type 0) (routers link : ℕ) (to : Target) (n y : ℕ) : Type 0 where
  pub first_leg_arrives : ArrivesBy (steps (router y)) (ends (router y)) routers n
  pub first_leg_misses : (u v : ℕ) → CrossesBy (steps (router y)) n link u v → ⊥
  pub second_leg_arrives : ArrivesBy (steps to) (ends to) routers y
  pub second_leg_misses : (u v : ℕ) → CrossesBy (steps to) y link u v → ⊥

-- by the walks of the question's network
abbrev pub HasThis : Question → Target → ℕ → ℕ → Type 0
HasThis q = HasThisBy (Step (Hops q) (D q)) (Delivers (D q)) (N q) q.link

-- "no neighbour of that end but the far end, paired with any router other than the two ends"; Point 1: "extended P and the "exactly" of 14
-- follow the new meaning of neighbour"
abbrev pub Candidate : Question → Pair → Type 0
Candidate q p = IsPair (N q) (Hops q) (link_asked q) p

-- what a repair would tell of a pair
abbrev pub TellsOf : Question → Target → Pair → Told → Type 0
TellsOf q to p t = Tells (Hops q) (D q) (link_asked q) to p t

-- what the order of document 01 looks at: class, D(S,y), y, tunnel cost, n
abbrev pub keys_by_class : Question → Told → Keys
keys_by_class q t = record { rank = t.class; distance = D q (link_asked q).near t.endpoint; endpoint = t.endpoint; cost = t.cost; first = t.first }

-- what the order of repairs looks at since Point 2: "rank replaces class as the first key"
abbrev pub keys : Question → Told → Keys
keys q t = record { rank = rank_of q.ranks t.class; distance = D q (link_asked q).near t.endpoint; endpoint = t.endpoint; cost = t.cost; first = t.first }

-- what is told is of a candidate that has this, and by these keys none that has this comes before it
pub record IsFirst (q : Question) (by : Told → Keys) (has : ℕ → ℕ → Type 0) (to : Target) (t : Told) : Type 0 where
  pub pair : Pair
  pub candidate : Candidate q pair
  pub tells : TellsOf q to pair t
  pub has_this : has t.first t.endpoint
  pub earliest : (p : Pair) (other : Told) → Candidate q p → TellsOf q to p other → has other.first other.endpoint → First (by t) (by other)

-- "A repair is a first hop and an endpoint, the pair that document 01 puts first", by the ranks since Point 2, with its class and tunnel
-- cost
abbrev pub IsRepair : Question → Target → Told → Type 0
IsRepair q to t = IsFirst q (keys q) (HasThis q to) to t

-- ---- demand 2: "Distances are least path costs; the P, extended P and Q spaces hold exactly the routers that the remote LFA papers
-- put there; the repair given is the first in the order of document 01, and a played route is the one its choices name."

-- the set of a space, and its size
pub record SpaceHeld (q : Question) (s : Space) : Type 0 where
  pub members : ℕ
  pub answered : answer_to q ≡ set members
  pub exactly : (r : ℕ) → (has members r ≡ true) ↔ ((r < N q) × Member s (Hops q) (D q) (link_asked q) r)
  pub size : HowMany (Member s (Hops q) (D q) (link_asked q)) (N q) (size_of members)

-- the route written is the only one that the choice bytes name, and the count is that of the routers written
pub record RouteNamed (q : Question) (n y : ℕ) : Type 0 where
  pub routers : List ℕ
  pub named : NamedRoute (N q) (Hops q) (D q) (prefix_asked q) q.choices (link_asked q).near n y routers
  pub only : (other : List ℕ) → NamedRoute (N q) (Hops q) (D q) (prefix_asked q) q.choices (link_asked q).near n y other → other ≡ routers
  pub fits : length routers ≤ 2 * N q
  pub count : answer_to q ≡ played (length routers)
  pub written : (buffer : List ℕ) → exit_of q route_buffer buffer ≡ routers ++ drop (length routers) buffer

pub record Demand2 (q : Question) : Type 0 where
  pub least_costs : LeastCosts (Hops q) (D q)
  pub distances_left : HasInput q (lent work_area) → (area : List ℕ) (x t : ℕ) → x < N q → t < N q → get_or (exit_of q work_area area) (x * N q + t) 0 ≡ D q x t
  pub later_cells_untouched : HasInput q (lent work_area) → (area : List ℕ) (k : ℕ) → N q * N q ≤ k → get_or (exit_of q work_area area) k 0 ≡ get_or area k 0
  pub space_held : (s : Space) → q.call ≡ space s → SpaceHeld q s
  pub link_repair_first : {from : Source} → q.call ≡ link_repair from → (t : Told) → answer_to q ≡ repair t → IsRepair q (router (link_asked q).far) t
  pub prefix_repair_first : {from : Source} → q.call ≡ prefix_repair from → (t : Told) → answer_to q ≡ repair t → MayCross (Hops q) (D q) (link_asked q) (prefix_asked q) × IsRepair q (prefix_asked q) t
  -- "unreachable when D(S,p) is unreachable, untouched when no walk from S towards p crosses the link from S to E"
  pub unreachable_when : HasInput q a_prefix → (answer_to q ≡ unreached) ↔ (towards (D q) (prefix_asked q) (link_asked q).near ≡ unreachable)
  pub untouched_when : HasInput q a_prefix →
      (answer_to q ≡ untouched) ↔ ((towards (D q) (prefix_asked q) (link_asked q).near < unreachable) × (MayCross (Hops q) (D q) (link_asked q) (prefix_asked q) → ⊥))
  pub write_nothing : HasInput q (lent route_buffer) → (answer_to q ≡ unreached) ⊎ (answer_to q ≡ untouched) → (buffer : List ℕ) → exit_of q route_buffer buffer ≡ buffer
  -- the options at a router; a route has a pair just where the prefix repair has one, and this pair is played
  pub options_are : (to : Target) (x : ℕ) → AreOptions (Hops q) (D q) to x (options (N q) (Hops q) (D q) to x)
  pub route_14 : {from : Source} → q.call ≡ route from → (answer_to q ≡ refused 14 0) ↔ (answer_to (to_prefix_repair from q) ≡ refused 14 0)
  pub route_named : {from : Source} → q.call ≡ route from → (t : Told) → answer_to (to_prefix_repair from q) ≡ repair t → IsRepair q (prefix_asked q) t × RouteNamed q t.first t.endpoint

-- ---- demand 3

-- a question is answered with a repair or with refusal 14, a repair is first by these keys, and 14 comes exactly when no candidate has
-- this
pub record RepairedBy (q : Question) (by : Told → Keys) (has : ℕ → ℕ → Type 0) (to : Target) (answer : Answer) : Type 0 where
  pub repair_or_14 : ((t : Told) × (answer ≡ repair t)) ⊎ (answer ≡ refused 14 0)
  pub is_repair : (t : Told) → answer ≡ repair t → IsFirst q by has to t
  pub exactly : (answer ≡ refused 14 0) ↔ ((p : Pair) → Candidate q p → has p.hop.router p.endpoint → ⊥)

pub record Demand3By (q : Question) (by : Told → Keys) (answer : Answer) : Type 0 where
  -- "every prefix whose traffic from that end may cross the link: asked for this prefix with work area enough, the planner answers
  -- with a repair or refusal 14. .. Refusal 14 comes exactly when no neighbour of that end but the far end, paired with any router
  -- other than the two ends, has this."
  pub prefix_repaired : {from : Source} → q.call ≡ prefix_repair from → MayCross (Hops q) (D q) (link_asked q) (prefix_asked q) → RepairedBy q by (HasThis q (prefix_asked q)) (prefix_asked q) answer
  -- "The link repair question, given work area enough, is answered with that repair or with 14, and with 14 exactly when no such
  -- pair has this for the far end."
  pub link_repaired : {from : Source} → q.call ≡ link_repair from → RepairedBy q by (HasThis q (router (link_asked q).far)) (router (link_asked q).far) answer
  -- "A link's own repair, at either end, has this for every such prefix, and for the far end in the prefix's place."
  pub link_has_this : {from : Source} → q.call ≡ link_repair from → (t : Told) → answer ≡ repair t →
      HasThis q (router (link_asked q).far) t.first t.endpoint
      × ((p : ℕ) → p < length (network_asked q).prefixes →
      MayCross (Hops q) (D q) (link_asked q) (get_or (network_asked q).prefixes p []) → HasThis q (get_or (network_asked q).prefixes p []) t.first t.endpoint)

-- by the keys of the question
abbrev pub Repaired : Question → Target → Answer → Type 0
Repaired q to answer = RepairedBy q (keys q) (HasThis q to) to answer

abbrev pub Demand3 : Question → Answer → Type 0
Demand3 q answer = Demand3By q (keys q) answer

-- ---- Point 1: "From now on a neighbour counts as a first hop only when the cost from S to it is below 65,535." Candidates and extended P
-- are made of first hops; nothing else changes.

-- a neighbour of S that is not E, with the cost from S to it and the link that leads there
abbrev pub IsNeighbour : Question → FirstHop → Type 0
IsNeighbour q f = Memᴰ (arc (link_asked q).near f.router f.cost f.over) (Hops q) × (f.router ≡ (link_asked q).far → ⊥)

-- the answer, and what is left in each buffer that the call is lent, are the same
pub record SameReply (q other : Question) : Type 0 where
  pub answer : answer_to q ≡ answer_to other
  pub exit : (x : Buffer) → HasInput q (lent x) → (before : List ℕ) → exit_of q x before ≡ exit_of other x before

-- "below 65,535": at every call a link is under maintenance at a cost of 65,535
abbrev pub PutAt65535 : Type 0
PutAt65535 =
    (b : Bytes) (area buffer l e p : ℕ) (table ranks choices : List ℕ) (s : Space) (q : Question) →
    Memᴰ q (loading b ∷ filling b area ∷ ask_space s b area l e ∷ ask_link b area ranks l e ∷ ask_prefix b area ranks l e p ∷ ask_route b area buffer ranks l e p choices
    ∷ ask_link_with b table ranks l e ∷ ask_prefix_with b table ranks l e p ∷ ask_route_with b table buffer ranks l e p choices ∷ []) → q.maintenance ≡ 65535

pub record Point1 (q : Question) : Type 0 where
  -- a first hop now, and before
  pub first_hop : (f : FirstHop) → IsFirstHop (Hops q) (link_asked q) f ↔ (IsNeighbour q f × (f.cost < 65535))
  pub before : Accepted q.file → (f : FirstHop) → IsFirstHop (Hops q) (link_asked (without_maintenance q)) f ↔ IsNeighbour q f
  -- distances, P and Q do not change on any file; no other question does whose links from S, but to E, all cost less than 65,535 from S
  pub nothing_changes : (LooksAtFirstHops q.call → Posed q → (f : FirstHop) → IsNeighbour q f → f.cost < 65535) → SameReply q (without_maintenance q)
  pub same_distances : HasInput q (lent work_area) → (area : List ℕ) → exit_of q work_area area ≡ exit_of (without_maintenance q) work_area area

-- ---- Point 2: "The four classes get a table of four ranks, lent with each repair question." Since Point 5 there are eight of both. The
-- order by ranks is in `keys`, the cause of number 15 in `Causes`, its place in `EachCallTries`, and that demand 3 is for questions that it
-- does not turn away in `Posed`.

-- "lent with each repair question": with another table of ranks the question is the same but for it (that it holds the one that is lent is in
-- `EachQuestion`)
pub record RanksLent : Type 0 where
  pub link_other : (b : Bytes) (area l e : ℕ) (ranks others : List ℕ) → with_ranks others (ask_link b area ranks l e) ≡ ask_link b area others l e
  pub prefix_other : (b : Bytes) (area l e p : ℕ) (ranks others : List ℕ) → with_ranks others (ask_prefix b area ranks l e p) ≡ ask_prefix b area others l e p
  pub route_other : (b : Bytes) (area buffer l e p : ℕ) (ranks others choices : List ℕ) → with_ranks others (ask_route b area buffer ranks l e p choices) ≡ ask_route b area buffer others l e p choices
  pub with_table_lem : (table others : List ℕ) (q : Question) → with_ranks others (with_table table q) ≡ with_table table (with_ranks others q)

-- two answers of one kind: the same answer, or two repairs, or two routes
pub data SameKind : Answer → Answer → Type 0 where
  one_answer : {a b : Answer} → a ≡ b → SameKind a b
  two_repairs : {t u : Told} → SameKind (repair t) (repair u)
  two_routes : {m k : ℕ} → SameKind (played m) (played k)

-- "Numbers 15 and 18 to 20 write nothing", and 15 and 18 have "value 0"
abbrev pub WritesNothing : Question → ℕ → Type 0
WritesNothing q k = (v : ℕ) → answer_to q ≡ refused k v → (v ≡ 0) × ((x : Buffer) → HasInput q (lent x) → (before : List ℕ) → exit_of q x before ≡ before)

pub record Point2 (q : Question) : Type 0 where
  -- "Who gets a repair and who gets 14 is the same under every such table", and so is every other refusal, what is unreachable or untouched,
  -- and the work area
  pub same_who : Arrangement q.ranks → (ranks : List ℕ) → Arrangement ranks → SameKind (answer_to q) (answer_to (with_ranks ranks q))
  pub same_work : Arrangement q.ranks → (ranks : List ℕ) → Arrangement ranks → HasInput q (lent work_area) → (area : List ℕ) → exit_of q work_area area ≡ exit_of (with_ranks ranks q) work_area area
  pub writes_nothing : WritesNothing q 15
  -- with ascending ranks demand 3 is what it was before the Point: a repair is the first by class
  pub as_before : q.ranks ≡ ascending → Posed q → Demand3By q (keys_by_class q) (answer_to q)
  -- which leaves no choice: only one repair is first by class, and only one by the ranks
  pub one_by_class : (to : Target) (t u : Told) → IsFirst q (keys_by_class q) (HasThis q to) to t → IsFirst q (keys_by_class q) (HasThis q to) to u → t ≡ u
  pub one_by_rank : (to : Target) (t u : Told) → IsRepair q to t → IsRepair q to u → t ≡ u
  -- a call that takes no table answers and writes the same whatever stands in its place
  pub none_taken : (HasInput q a_rank_table → ⊥) → (ranks : List ℕ) → SameReply q (with_ranks ranks q)

-- ---- Point 4: "So a walk towards a prefix now ends at the first attached router on it, however dear that attachment is." `Walk.Step` and
-- `Walk.Delivers` say so. Demands 2 and 3 speak of these walks: "The third promise means these shorter walks, a link's own repair included."

-- what a pair had before, and whether traffic might cross the link, by the walks of then
abbrev pub FormerlyHasThis : Question → Target → ℕ → ℕ → Type 0
FormerlyHasThis q = HasThisBy (FormerStep (Hops q) (D q)) (FormerDelivers (D q)) (N q) q.link

abbrev pub FormerlyMayCross : Question → Target → Type 0
FormerlyMayCross q to = CrossesBy (FormerStep (Hops q) (D q) to) (link_asked q).near (link_asked q).number (link_asked q).near (link_asked q).far

-- Steps and deliveries towards a target are what they were, and so are the options at a router, whether traffic may cross the link, and
-- which pairs have this.
pub record AsBefore (q : Question) (to : Target) : Type 0 where
  pub steps : (x z l : ℕ) → Step (Hops q) (D q) to x z l ↔ FormerStep (Hops q) (D q) to x z l
  pub deliveries : (x : ℕ) → Delivers (D q) to x ↔ FormerDelivers (D q) to x
  pub options_were : (x : ℕ) → AreOptionsBy (FormerStep (Hops q) (D q) to) (FormerDelivers (D q) to) x (options (N q) (Hops q) (D q) to x)
  pub may_cross_lem : MayCross (Hops q) (D q) (link_asked q) to ↔ FormerlyMayCross q to
  pub has_this : (n y : ℕ) → HasThis q to n y ↔ FormerlyHasThis q to n y
  -- So what an answer owes by the walks of today it owes by those of then; and only one answer could meet what was owed then.
  pub repaired : (answer : Answer) → Repaired q to answer → RepairedBy q (keys q) (FormerlyHasThis q to) to answer
  pub only_answer : (answer other : Answer) → RepairedBy q (keys q) (FormerlyHasThis q to) to answer → RepairedBy q (keys q) (FormerlyHasThis q to) to other → answer ≡ other

pub record Point4 (q : Question) : Type 0 where
  -- "a walk towards a prefix now ends at the first attached router on it, however dear that attachment is": a step of today is one of then
  -- from a router that is not attached, and every attached router within reach delivers
  pub steps_are : (to : Target) (x z l : ℕ) → Step (Hops q) (D q) to x z l ↔ (FormerStep (Hops q) (D q) to x z l × (Attached to x → ⊥))
  pub deliveries_are : (to : Target) (x : ℕ) → Delivers (D q) to x ↔ (Attached to x × (towards (D q) to x < unreachable))
  -- "An attached S is untouched"
  pub near_untouched : HasInput q a_prefix → Attached (prefix_asked q) (link_asked q).near → answer_to q ≡ untouched
  -- "an attached first hop serves as its own endpoint"
  pub hop_serves : HasInput q a_prefix → (f : FirstHop) → IsFirstHop (Hops q) (link_asked q) f → Attached (prefix_asked q) f.router →
      Candidate q (record { hop = f; endpoint = f.router }) × HasThis q (prefix_asked q) f.router f.router
  -- at an attached router delivery is the only option
  pub only_delivery : HasInput q a_prefix → (x : ℕ) → Attached (prefix_asked q) x → options (N q) (Hops q) (D q) (prefix_asked q) x ≡ deliver ∷ []
  -- A walk of today is the beginning of one of then, so that a pair that had this has it still: 14 comes only where no pair had this.
  pub walks_were : (to : Target) (x u k : ℕ) → Walk (Hops q) (D q) to x u k → WalkBy (FormerStep (Hops q) (D q) to) x u k
  pub still_has_this : (to : Target) (p : Pair) → Candidate q p → FormerlyHasThis q to p.hop.router p.endpoint → HasThis q to p.hop.router p.endpoint
  pub none_had_this : {from : Source} → q.call ≡ prefix_repair from → MayCross (Hops q) (D q) (link_asked q) (prefix_asked q) → answer_to q ≡ refused 14 0 →
      (p : Pair) → Candidate q p → FormerlyHasThis q (prefix_asked q) p.hop.router p.endpoint → ⊥
  -- Nothing changes towards routers; nor where no tight hop leaves an attached router, as with attachments of one cost, or one attachment.
  pub routers_as_before : (t : ℕ) → AsBefore q (router t)
  pub below_as_before : (to : Target) → OwnCostsBelow (Hops q) (D q) to → AsBefore q to
  pub one_cost_as_before : HasInput q a_prefix → (cost : ℕ) → ((x own : ℕ) → Memᴰ (at x own) (prefix_asked q) → own ≡ cost) → AsBefore q (prefix_asked q)

-- ---- Point 5: "A storm takes the far router, not only the link." `Repair.NodeProtecting` says which pairs survive that, `Repair.HasClass`
-- what class a pair has. Demands 2 and 3 speak of this class wherever a repair tells one, and of its rank wherever pairs are ordered.

-- "no walk from n to y, nor from y to delivery, visits E": none has E for its start, its end or any router between
pub record MissesFar (q : Question) (to : Target) (n y : ℕ) : Type 0 where
  pub first_leg : (k : ℕ) → Walk (Hops q) (D q) (router y) n (link_asked q).far k → ⊥
  pub second_leg : (k : ℕ) → Walk (Hops q) (D q) to y (link_asked q).far k → ⊥

-- "The table of Point 2 now has eight ranks, 0 to 7 once each", and in ascending ranks class c has rank c
pub record EightRanks : Type 0 where
  pub once_each : (ranks : List ℕ) → Arrangement ranks ↔ ((length ranks ≡ 8) × ((k : ℕ) → k ≤ 7 → HowMany (λ class. get_or ranks class 0 ≡ k) 8 1))
  pub ascending_is : (class : ℕ) → class ≤ 7 → get_or ascending class 0 ≡ class
  pub ascending_arranged : Arrangement ascending

-- what the order looked at while there were four classes: a class without the 4 that may have been added
abbrev pub keys_by_former_class : Question → Told → Keys
keys_by_former_class q t = record { rank = t.class % 4; distance = D q (link_asked q).near t.endpoint; endpoint = t.endpoint; cost = t.cost; first = t.first }

-- a class "in 4 to 7"
abbrev pub From4To7 : ℕ → Type 0
From4To7 class = (4 ≤ class) × (class ≤ 7)

pub record Point5 (q : Question) : Type 0 where
  -- "Classes 0 to 3 are for node-protecting pairs; any other pair has 4 added": a class is one of eight, it is below 4 exactly for
  -- node-protecting pairs, and modulo 4 it is the class of before
  pub eight_classes : (to : Target) (p : Pair) (t : Told) → TellsOf q to p t → t.class ≤ 7
  pub below_4_exactly : (to : Target) (p : Pair) (t : Told) → TellsOf q to p t → (t.class < 4) ↔ MissesFar q to p.hop.router p.endpoint
  pub class_of_before : (to : Target) (p : Pair) (t : Told) → TellsOf q to p t → HasBaseClass (D q) (link_asked q) to p.hop.router p.endpoint (t.class % 4)
  -- "A link's own target is E, so its pairs are in 4 to 7": every pair that serves it, and the one that is answered
  pub link_pairs : HasInput q a_link → (p : Pair) (t : Told) → Candidate q p → HasThis q (router (link_asked q).far) p.hop.router p.endpoint → TellsOf q (router (link_asked q).far) p t → From4To7 t.class
  pub link_class : {from : Source} → q.call ≡ link_repair from → (t : Told) → answer_to q ≡ repair t → From4To7 t.class
  -- so that with ascending ranks a link's own repair is the pair that it was before, and only one pair is
  pub link_as_before : {from : Source} → q.call ≡ link_repair from → q.ranks ≡ ascending → (t : Told) → answer_to q ≡ repair t →
      IsFirst q (keys_by_former_class q) (HasThis q (router (link_asked q).far)) (router (link_asked q).far) t
  pub one_by_former_class : (to : Target) (t u : Told) → IsFirst q (keys_by_former_class q) (HasThis q to) to t → IsFirst q (keys_by_former_class q) (HasThis q to) to u → t ≡ u
  -- "With the ranks ascending, a prefix repair's class below 4 tells a user that every walk misses E" (it does with other ranks too), "and 4
  -- or more that no serving pair is node-protecting."
  pub class_below_4 : {from : Source} → q.call ≡ prefix_repair from → (t : Told) → answer_to q ≡ repair t → t.class < 4 → MissesFar q (prefix_asked q) t.first t.endpoint
  pub class_from_4 : {from : Source} → q.call ≡ prefix_repair from → q.ranks ≡ ascending → (t : Told) → answer_to q ≡ repair t → 4 ≤ t.class →
      (p : Pair) → Candidate q p → HasThis q (prefix_asked q) p.hop.router p.endpoint → MissesFar q (prefix_asked q) p.hop.router p.endpoint → ⊥

-- ---- Point 7: "Split each repair question in two: one call fills the distance table, the other takes the file, a table and the question."
-- Demands 1 to 3 are of both calls: a call is a `link_repair`, a `prefix_repair` or a `route` from either `Source`.

-- the second call, lent this table, answers as the single call of the question, and leaves the same in the route buffer
abbrev pub TwoTogether : Question → (table : List ℕ) → Type 0
TwoTogether q table =
    (answer_to (with_table table q) ≡ answer_to q)
    × (HasInput q (lent route_buffer) → (before : List ℕ) → exit_of (with_table table q) route_buffer before ≡ exit_of q route_buffer before)

pub record Point7 (q : Question) : Type 0 where
  -- "It accepts the table exactly when its first N × N cells are the file's distances, whoever filled it"; "Number 18, value 0, for a table
  -- that isn't the file's"
  pub refused_18 : HasInput q a_table → Accepted q.file → N q * N q ≤ q.cells → q.cells ≡ length q.table →
      (answer_to q ≡ refused 18 0) ↔ (((x t : ℕ) → x < N q → t < N q → get_or q.table (x * N q + t) 0 ≡ D q x t) → ⊥)
  pub writes_nothing : WritesNothing q 18
  -- "Single calls become the two together and answer and write as they did": with the table that the first call leaves in an area, the
  -- second answers as the single call does with this area, whatever is asked
  pub two_together : (HasInput q a_table → ⊥) → (area : List ℕ) → length area ≡ q.cells → TwoTogether q (exit_of (filling q.file (length area)) work_area area)
  -- and so it does with any table of that length that holds the file's distances, "whoever filled it"
  pub any_right_table : (HasInput q a_table → ⊥) → (table : List ℕ) → length table ≡ q.cells →
      (Accepted q.file → (x t : ℕ) → x < N q → t < N q → get_or table (x * N q + t) 0 ≡ D q x t) → TwoTogether q table

-- ---- Point 13: calls that make a network file in a lent buffer

-- What a call leaves that is lent the buffer `before`: it has a file to write or none, of so many bytes, which holds such a network.
pub record FileMade (Has : Type 0) (size : ℕ) (Holds : Network → Type 0) (count : ℕ) (before after : Bytes) : Type 0 where
  -- "The call returns the bytes written, 0 and none .. with a buffer shorter than the file."
  pub whole : Has → size ≤ length before → count ≡ size
  pub none : (Has → ⊥) ⊎ (length before < size) → (count ≡ 0) × (after ≡ before)
  pub later_untouched : drop count after ≡ drop count before
  -- the reader accepts what is written ("every drill")
  pub read : 0 < count → Accepted (take count after) × Holds (network_loaded (take count after))

pub record Point13 : Type 0 where
  -- "A drill of N routers, 3 to 64, is the ring of document 01 .."; there is only one for each seed and N. Its file has 1,024 bytes.
  pub drill_made : (seed n count : ℕ) (before after : Bytes) → Drilled seed n count before after →
      FileMade ((3 ≤ n) × (n ≤ 64)) 1024 (IsDrill seed n) count before after
  pub one_drill : (seed n : ℕ) (net other : Network) → IsDrill seed n net → IsDrill seed n other → net ≡ other
  -- the call that writes a network: those within the limits
  pub network_made : (net : Network) (count : ℕ) (before after : Bytes) → Wrote net count before after →
      FileMade (WithinLimits net) (length (file_of net)) (λ other. other ≡ net) count before after

-- ---- the demands: 1 of every question at all; 2 and 3 of those that no row before 14 turns away, "for every accepted file, every link and
-- end of it, and every prefix .. with work area enough"

pub record Demands : Type 0 where
  pub demand_1 : Demand1
  pub demand_2 : (q : Question) → Posed q → Demand2 q
  pub demand_3 : (q : Question) → Posed q → Demand3 q (answer_to q)
  pub put_at_65535 : PutAt65535
  pub point_1 : (q : Question) → q.maintenance ≡ under_maintenance → ((i : ℕ) → byte_at q.file i < 256) → Point1 q
  pub ranks_lent : RanksLent
  pub eight_ranks : EightRanks
  pub point_2 : (q : Question) → Point2 q
  pub point_4 : (q : Question) → Posed q → Point4 q
  pub point_5 : (q : Question) → Posed q → Point5 q
  pub point_7 : (q : Question) → ((i : ℕ) → byte_at q.file i < 256) → Point7 q
  -- Point 9: "no packet for that prefix ever visits a router twice, whichever links have failed" (page `Failures`)
  pub point_9 : (b : Bytes) → Accepted b → (p : ℕ) → SeveralFailures b p
  pub point_13 : Point13
  -- of a file of bytes, that is what `Posed` means
  pub posed_when : (q : Question) → ((i : ℕ) → byte_at q.file i < 256) →
      Posed q ↔ ((r : Row) (v : ℕ) → Memᴰ r (rows_tried q.call) → (r ≡ no_pair → ⊥) → Applies q r v → ⊥)
