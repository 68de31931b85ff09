-- The network: "Routers, links and prefixes count from 0 in file order."
-- Assumes nothing.
use Rattle.std.specs.Prelude.{ℕ, suc, Bool, eqb}
use mathlib.Core.List.{List, [], ◌∷◌, Memᴰ}
use Rattle.lfa.specs.Lists.{any_of}

-- link: router a, router b, cost a to b, cost b to a
pub data Link : Type 0 where
  link : (a b ab ba : ℕ) → Link

-- attachment of a prefix: the attached router and its own cost to the prefix
pub data Attachment : Type 0 where
  at : (router cost : ℕ) → Attachment

-- target of traffic: the attached routers, each with its own cost. A prefix is its attachments.
abbrev pub Target : Type 0
Target = List Attachment

-- router x is attached to the target, at its own cost
pub record Attached (to : Target) (x : ℕ) : Type 0 where
  pub own : ℕ
  pub listed : Memᴰ (at x own) to

-- and the test of it: some attachment is x's
unfoldable pub attachment_of : ℕ → Attachment → Bool
attachment_of x (at a c) = eqb a x

unfoldable pub is_attached : Target → ℕ → Bool
is_attached to x = any_of (attachment_of x) to

pub record Network : Type 0 where
  pub routers : ℕ
  pub links : List Link
  pub prefixes : List Target

-- a router as a target: it alone delivers, at no cost
unfoldable pub router : ℕ → Target
router t = at t 0 ∷ []

-- one direction of one link: a hop from a router to a neighbour, its cost, and the number of the link that it is over.
-- "Two routers that a link joins are neighbours."
pub data Arc : Type 0 where
  arc : (from to cost over : ℕ) → Arc

-- both directions of each link, the links counting from i
unfoldable pub arcs_from : ℕ → List Link → List Arc
arcs_from i [] = []
arcs_from i (link a b ab ba ∷ rest) = arc a b ab i ∷ arc b a ba i ∷ arcs_from (suc i) rest

unfoldable pub arcs : Network → List Arc
arcs net = arcs_from 0 net.links
