-- "Members choose the order" (Point 2): the table that gives each class its rank. Point 5 made eight classes of four.
-- Assumes nothing.
use Rattle.std.specs.Prelude.{ℕ, ◌<◌, ◌≡◌, Bool, ◌&&◌, List, [], ◌∷◌, eqb, get_or, length}
use Rattle.lfa.specs.Lists.{every_below, count, HowMany}

-- Point 5: the classes are 0 to 7, "0 to 3 .. for node-protecting pairs; any other pair has 4 added"
abbrev pub classes : ℕ
classes = 8

-- the rank that a table gives to a class
abbrev pub rank_of : (ranks : List ℕ) → (class : ℕ) → ℕ
rank_of ranks class = get_or ranks class 0

-- Point 5: "The table of Point 2 now has eight ranks, 0 to 7 once each": it gives a rank to each class and to nothing else, and each rank
-- to just one class
pub record Arrangement (ranks : List ℕ) : Type 0 where
  pub for_each_class : length ranks ≡ classes
  pub once_each : (k : ℕ) → k < classes → HowMany (λ class. rank_of ranks class ≡ k) classes 1

-- "ascending ranks": class c has rank c
abbrev pub ascending : List ℕ
ascending = 0 ∷ 1 ∷ 2 ∷ 3 ∷ 4 ∷ 5 ∷ 6 ∷ 7 ∷ []

-- ---- the computation

-- the number of classes to which a table gives rank k
unfoldable pub times_given : List ℕ → ℕ → ℕ
times_given ranks k = count (λ class. eqb (rank_of ranks class) k) (length ranks)

unfoldable pub is_arrangement : List ℕ → Bool
is_arrangement ranks = eqb (length ranks) classes && every_below (λ k. eqb (times_given ranks k) 1) classes
