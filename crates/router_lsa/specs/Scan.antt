-- What the functions that go over a run answer, and what they keep at hand.
-- Assumes nothing.
use Rattle.std.specs.Prelude.{ℕ, suc, ◌<◌, min, ◌≡◌, Bool, true, false, not, Option, Some, None, Result, Ok, Err, List, eqb, get_or}
use Rattle.lfa.specs.Lists.{every_below}
use Rattle.lfa.specs.File.{Bytes}
use Rattle.ospf.specs.Lsa.{router_field}
use Rattle.ospf.specs.Run.{lsa_bytes, begin_of, lsa_good, Scanned, bad_at, whole}
use Rattle.router_lsa.specs.declared.Bad.{Bad}

-- a result as what the scan finds
unfoldable pub scanned : Result ℕ Bad → Scanned
scanned (Ok n) = whole n
scanned (Err e) = bad_at e.0

-- no LSA before i is that of this router
unfoldable pub new_router : Bytes → (i router : ℕ) → Bool
new_router b i router = every_below (λ j. not (eqb router (router_field (lsa_bytes b j)))) i

-- none of the first n numbers is this router
unfoldable pub new_among : List ℕ → (n router : ℕ) → Bool
new_among ids n router = every_below (λ j. not (eqb router (get_or ids j 0))) n

-- where the next LSA begins after a good one, and nothing if LSA i is bad
unfoldable pub next_after : Bytes → ℕ → Option ℕ
next_after b i = elim (lsa_good b i) [ true ↦ Some (begin_of b (suc i)) | false ↦ None ]

-- what is kept after i LSAs: the identifiers of the first 64 of them, and where the next one begins after those
pub record AtHand (b : Bytes) (i : ℕ) (ids : List ℕ) (start : ℕ) : Type 0 where
  pub held : (j : ℕ) → j < min i 64 → get_or ids j 0 ≡ router_field (lsa_bytes b j)
  pub begins : start ≡ begin_of b (min i 64)
