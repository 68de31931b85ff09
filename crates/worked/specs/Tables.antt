-- The hand-worked networks and the answers that are worked out of them: document 01's starred rows as one table, and others for what ranks do
-- (Point 2), where walks end (Point 4), which pairs miss the far router (Point 5) and what a lent table of distances does (Point 7). Each is
-- asked through the definitions that the public contracts cite, from the bytes of its network's file.
-- Assumes nothing.
use Rattle.std.specs.Prelude.{ℕ, ◌+◌, ◌^◌, List, [], ◌∷◌}
use Rattle.lfa.specs.Network.{Network, link, Target, at}
use Rattle.lfa.specs.FileOf.{file_of}
use Rattle.lfa.specs.Ring.{ring_of}
use Rattle.lfa.specs.Space.{Space, p_space, extended_p, q_space}
use Rattle.lfa.specs.Ranks.{ascending}
use Rattle.lfa.specs.Question.{Question, loading, ask_space, ask_link, ask_prefix, ask_route, ask_link_with, ask_prefix_with, ask_route_with}
use Rattle.lfa.specs.Answer.{Answer, refused, accepted, set, repair, played, untouched}

-- ---- the networks

-- "Ring k: routers 0 to k−1, link i joins i and i+1, the last joins k−1 and 0, all costs 1."
unfoldable pub ring : ℕ → List Target → Network
ring k prefixes = ring_of k (λ i. 1) (λ i. 1) prefixes

-- ring 4, "prefix at 1 and 2, cost 0 each"
unfoldable pub ring4prefix : Network
ring4prefix = ring 4 ((at 1 0 ∷ at 2 0 ∷ []) ∷ [])

-- ring 5, "Prefix at 1, cost 0"
unfoldable pub ring5prefix : Network
ring5prefix = ring 5 ((at 1 0 ∷ []) ∷ [])

-- ring 4, prefix at 1 for 0, and at one router more
unfoldable pub ring4attached : (router cost : ℕ) → Network
ring4attached r c = ring 4 ((at 1 0 ∷ at r c ∷ []) ∷ [])

-- ring 5, prefix at 1 for 0 and at 3 for 9
unfoldable pub ring5attached : Network
ring5attached = ring 5 ((at 1 0 ∷ at 3 9 ∷ []) ∷ [])

-- ring 4 with link 0 costing 3 both ways, prefix at 1 for 0 and at 3 for 100
unfoldable pub ring4cost3 : Network
ring4cost3 = record { routers = 4; links = link 0 1 3 3 ∷ link 1 2 1 1 ∷ link 2 3 1 1 ∷ link 3 0 1 1 ∷ []; prefixes = (at 1 0 ∷ at 3 100 ∷ []) ∷ [] }

-- S is 0 and E is 1, the prefix is at 3, and all costs are 1: 2 reaches 3 over E only
unfoldable pub behind_far : Network
behind_far = record { routers = 4; links = link 0 1 1 1 ∷ link 0 2 1 1 ∷ link 2 1 1 1 ∷ link 1 3 1 1 ∷ []; prefixes = (at 3 0 ∷ []) ∷ [] }

-- the same with router 4, over which 2 reaches 3 as well
unfoldable pub beside_far : Network
beside_far = record { routers = 5; links = link 0 1 1 1 ∷ link 0 2 1 1 ∷ link 2 1 1 1 ∷ link 1 3 1 1 ∷ link 2 4 1 1 ∷ link 4 3 1 1 ∷ []; prefixes = (at 3 0 ∷ []) ∷ [] }

-- ring 3, "With cost 2 from 2 to 1"
unfoldable pub ring3cost2 : Network
ring3cost2 = record { routers = 3; links = link 0 1 1 1 ∷ link 1 2 1 2 ∷ link 2 0 1 1 ∷ []; prefixes = [] }

-- "Ring 4 with link 2 costing 10 both ways"
unfoldable pub ring4cost10 : Network
ring4cost10 = record { routers = 4; links = link 0 1 1 1 ∷ link 1 2 1 1 ∷ link 2 3 10 10 ∷ link 3 0 1 1 ∷ []; prefixes = [] }

-- "Two routers, one link"
unfoldable pub two_routers : Network
two_routers = record { routers = 2; links = link 0 1 1 1 ∷ []; prefixes = [] }

-- "One router alone"
unfoldable pub one_router : Network
one_router = record { routers = 1; links = []; prefixes = [] }

-- ---- the table

-- the set of some routers
unfoldable pub members : List ℕ → ℕ
members [] = 0
members (r ∷ rs) = 2 ^ r + members rs

-- a question about the file of a network, and the answer that document 01 works out; of a route also the routers that it writes
pub data Worked : Type 0 where
  asked : (question : Question) (answer : Answer) → Worked
  route : (question : Question) (answer : Answer) (routers : List ℕ) → Worked

-- a repair with this first hop, endpoint, class and tunnel cost
unfoldable pub told : (first endpoint class cost : ℕ) → Answer
told n y k c = repair (record { first = n; endpoint = y; class = k; cost = c })

-- the questions, about link 0 from its end 0 and prefix 0 where nothing else is said: the work area has 64 × 64 cells, the route buffer
-- 128 bytes, the ranks ascend, and there are no choice bytes
abbrev pub for_space : Space → Network → Question
for_space s net = ask_space s (file_of net) 4096 0 0

abbrev pub for_link : Network → Question
for_link net = ask_link (file_of net) 4096 ascending 0 0

abbrev pub for_prefix : (link end : ℕ) → Network → Question
for_prefix l e net = ask_prefix (file_of net) 4096 ascending l e 0

abbrev pub for_route : Network → Question
for_route net = ask_route (file_of net) 4096 128 ascending 0 0 0 []

-- Point 5: "A link's own target is E, so its pairs are in 4 to 7, in .. document 01's link rows too": the classes of the three link
-- repairs are 4 more than document 01 has. Its prefix repair is node-protecting, and stays.
unfoldable pub starred : List Worked
starred =
    asked (for_space p_space (ring 4 [])) (set (members (0 ∷ 3 ∷ [])))
    ∷ asked (for_space extended_p (ring 4 [])) (set (members (0 ∷ 2 ∷ 3 ∷ [])))
    ∷ asked (for_space q_space (ring 4 [])) (set (members (1 ∷ 2 ∷ [])))
    ∷ asked (for_link (ring 4 [])) (told 3 2 7 2)
    ∷ asked (for_prefix 0 0 ring4prefix) (told 3 3 1 1)
    ∷ route (for_route ring4prefix) (played 3) (0 ∷ 3 ∷ 2 ∷ [])
    ∷ asked (for_prefix 1 1 ring4prefix) untouched
    ∷ asked (for_link (ring 5 [])) (told 4 2 7 3)
    ∷ route (for_route ring5prefix) (played 5) (0 ∷ 4 ∷ 3 ∷ 2 ∷ 1 ∷ [])
    ∷ asked (for_link (ring 3 [])) (told 2 2 5 1)
    ∷ asked (for_link ring3cost2) (refused 14 0)
    ∷ asked (for_link ring4cost10) (refused 14 0)
    ∷ asked (for_link two_routers) (refused 14 0)
    ∷ asked (loading (file_of one_router)) accepted
    ∷ []

-- Point 2 on ring 4: the neighbour repair (3, 3) is of class 1, the tunnel (3, 2) of class 2. A table that ranks class 2 first puts the
-- tunnel first, and its answer tells class 2; read the other way, as the class of each rank, it would rank class 1 first. What is no
-- arrangement of eight ranks (Point 5), such as the four of before, is number 15, after 10 and 11 and before 12.
abbrev pub with_table : (area : ℕ) → (ranks : List ℕ) → (link : ℕ) → Question
with_table area ranks l = ask_prefix (file_of ring4prefix) area ranks l 0 0

-- the table by which class 2 comes first
abbrev pub class2first : List ℕ
class2first = 1 ∷ 2 ∷ 0 ∷ 3 ∷ 4 ∷ 5 ∷ 6 ∷ 7 ∷ []

unfoldable pub ranked : List Worked
ranked =
    asked (with_table 4096 class2first 0) (told 3 2 2 2)
    ∷ route (ask_route (file_of ring4prefix) 4096 128 class2first 0 0 0 []) (played 3) (0 ∷ 3 ∷ 2 ∷ [])
    ∷ asked (with_table 4096 (0 ∷ 1 ∷ 2 ∷ 3 ∷ []) 0) (refused 15 0)
    ∷ asked (with_table 4096 (0 ∷ 0 ∷ 1 ∷ 2 ∷ 3 ∷ 4 ∷ 5 ∷ 6 ∷ []) 0) (refused 15 0)
    ∷ asked (with_table 4096 (0 ∷ 1 ∷ 2 ∷ 3 ∷ 4 ∷ 5 ∷ 6 ∷ []) 0) (refused 15 0)
    ∷ asked (with_table 4096 (0 ∷ 1 ∷ 2 ∷ 3 ∷ 4 ∷ 5 ∷ 6 ∷ 8 ∷ []) 0) (refused 15 0)
    ∷ asked (with_table 4096 (0 ∷ 1 ∷ 2 ∷ 3 ∷ 4 ∷ 5 ∷ 6 ∷ 7 ∷ 8 ∷ []) 9) (refused 15 0)
    ∷ asked (with_table 15 [] 0) (refused 10 16)
    ∷ asked (ask_route (file_of ring4prefix) 4096 7 [] 0 0 0 []) (refused 11 8)
    ∷ []

-- a table of the distances of ring 4, where the first cell is 0 and the last two are 1 and 0
abbrev pub ring4table : (first before last : ℕ) → List ℕ
ring4table first before last = first ∷ 1 ∷ 2 ∷ 1 ∷ 1 ∷ 0 ∷ 1 ∷ 2 ∷ 2 ∷ 1 ∷ 0 ∷ 1 ∷ 1 ∷ 2 ∷ before ∷ last ∷ []

-- With a table of the file's distances the second call answers as the single call does, also where more cells follow. A table in which one
-- cell is off gets 18, before 11, 15 and 12 are tried, and one that is too short 10, whatever it holds.
unfoldable pub tabled : List Worked
tabled =
    asked (ask_link_with (file_of ring4prefix) (ring4table 0 1 0) ascending 0 0) (told 3 2 7 2)
    ∷ asked (ask_link_with (file_of ring4prefix) (0 ∷ 1 ∷ 2 ∷ 1 ∷ 1 ∷ 0 ∷ 1 ∷ 2 ∷ 2 ∷ 1 ∷ 0 ∷ 1 ∷ 1 ∷ 2 ∷ 1 ∷ 0 ∷ 9 ∷ []) ascending 0 0) (told 3 2 7 2)
    ∷ asked (ask_prefix_with (file_of ring4prefix) (ring4table 0 1 0) ascending 0 0 0) (told 3 3 1 1)
    ∷ asked (ask_prefix_with (file_of ring4prefix) (ring4table 0 1 0) class2first 0 0 0) (told 3 2 2 2)
    ∷ asked (ask_link_with (file_of ring4prefix) (ring4table 0 1 0) ascending 0 1) (told 2 3 7 2)
    ∷ route (ask_route_with (file_of ring4prefix) (ring4table 0 1 0) 8 ascending 0 0 0 []) (played 3) (0 ∷ 3 ∷ 2 ∷ [])
    ∷ asked (ask_link_with (file_of ring4prefix) (ring4table 1 1 0) ascending 0 0) (refused 18 0)
    ∷ asked (ask_link_with (file_of ring4prefix) (ring4table 0 1 1) ascending 0 0) (refused 18 0)
    ∷ asked (ask_prefix_with (file_of ring4prefix) (ring4table 0 2 0) [] 9 9 9) (refused 18 0)
    ∷ route (ask_route_with (file_of ring4prefix) (ring4table 0 2 0) 7 ascending 0 0 0 []) (refused 18 0) []
    ∷ asked (ask_route_with (file_of ring4prefix) (ring4table 0 1 0) 7 [] 0 0 0 []) (refused 11 8)
    ∷ asked (ask_link_with (file_of ring4prefix) (0 ∷ 1 ∷ 2 ∷ 1 ∷ 1 ∷ 0 ∷ 1 ∷ 2 ∷ 2 ∷ 1 ∷ 0 ∷ 1 ∷ 1 ∷ 2 ∷ 1 ∷ []) ascending 0 0) (refused 10 16)
    ∷ asked (ask_link_with (file_of ring4prefix) [] [] 9 9) (refused 10 16)
    ∷ []

-- the table by which class 7 comes first
abbrev pub class7first : List ℕ
class7first = 1 ∷ 2 ∷ 3 ∷ 4 ∷ 5 ∷ 6 ∷ 7 ∷ 0 ∷ []

-- Point 4: a first hop that is attached serves as its own endpoint, though its own cost is 100 and a walk from it crossed the link before:
-- D(3,0) + 1 + D(1,p) = D(3,p). An attached S is untouched. The class goes by D(3,p), which is 2 and below D(0,p), not by the own cost 100.
-- A tunnel passes an attached router: that of ring 5 leads from 4 over 3 to 2, and comes first where class 7 does.
unfoldable pub ended : List Worked
ended =
    asked (for_prefix 0 0 (ring4attached 3 100)) (told 3 3 1 1)
    ∷ route (for_route (ring4attached 3 100)) (played 2) (0 ∷ 3 ∷ [])
    ∷ asked (for_prefix 3 0 (ring4attached 3 100)) untouched
    ∷ asked (for_prefix 2 1 (ring4attached 3 100)) untouched
    ∷ asked (for_prefix 0 0 (ring4attached 0 50)) untouched
    ∷ asked (for_prefix 0 0 ring4cost3) (told 3 3 0 1)
    ∷ asked (ask_prefix (file_of ring5attached) 4096 class7first 0 0 0) (told 4 2 7 3)
    ∷ route (ask_route (file_of ring5attached) 4096 128 class7first 0 0 0 []) (played 5) (0 ∷ 4 ∷ 3 ∷ 2 ∷ 1 ∷ [])
    ∷ []

-- Point 5: with E alone attached no pair is node-protecting. Behind E, 2 reaches 3 over E only: the second leg of (2, 2) visits E, class 5,
-- and so does the first leg of (2, 3), class 6. Beside E, one of two equal walks from 2 to 3 visits E, so that the tunnel to 4 comes first.
-- On ring 5 the walk from 3 ends there, and (4, 3) comes before (4, 2), which delivers at E.
unfoldable pub missed : List Worked
missed =
    asked (for_prefix 0 0 ring5prefix) (told 4 2 7 3)
    ∷ asked (for_prefix 0 0 behind_far) (told 2 2 5 1)
    ∷ asked (for_prefix 0 0 beside_far) (told 2 4 2 2)
    ∷ asked (for_prefix 0 0 ring5attached) (told 4 3 3 2)
    ∷ route (for_route ring5attached) (played 3) (0 ∷ 4 ∷ 3 ∷ [])
    ∷ []
