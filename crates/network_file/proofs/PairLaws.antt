-- Row 7: the table of the pairs of routers that links join.
-- Assumes nothing.
use Prim.Native.Nat.{ℕ, zero, suc, ◌+◌, ◌<◌}
use mathlib.Core.Path.{◌≡◌, refl, sym, ◌∙◌}
use mathlib.Core.Bool.{Bool, true, false, not, ◌&&◌, ◌||◌}
use mathlib.Core.List.{List}
use native.Mathlib.Omega.{arith}
use native.Mathlib.Numerals.{add-one}
use lib.Dec.{eqb}
use lib.ListN.{length, get_or, set, replicate, length-set, length-replicate, get_or-replicate}
use borrow.Author.Tests.{not-true, not-false}
use Rattle.lfa.specs.Lists.{every_below}
use Rattle.lfa.specs.Network.{link}
use Rattle.lfa.specs.File.{join_same}
use Rattle.metric.specs.declared.columns.Links.{Links}
use Rattle.network_file.specs.Entry.{EndsBelow, link_at, pair_new, pair_cell}
use Rattle.network_file.proofs.TableLaws.{mark, cell_small, cell_same}

-- the table after k links: true at the cell of each pair that one of them joins
unfoldable pub joined_by : Links → ℕ → List Bool
joined_by l zero = replicate 4096 false
joined_by l (suc k) = set (joined_by l k) (pair_cell (get_or l.from k 0) (get_or l.to k 0)) true

pub joined_none : (l : Links) → replicate 4096 false ≡ joined_by l 0
unfolding joined_by
joined_none l = refl

pub joined_length : (l : Links) (k : ℕ) → length (joined_by l k) ≡ 4096
unfolding joined_by
joined_length l zero = length-replicate 4096 false
joined_length l (suc k) = simp length-set (joined_length l k)

-- The cell of x and y is true exactly when one of the first k links joins them. By recursion on k: link k sets the cell of its
-- pair.
joined_cell : (l : Links) (x y xy yx k : ℕ) → x < 64 → y < 64 → ((j : ℕ) → j < k → (get_or l.from j 0 < 64) × (get_or l.to j 0 < 64)) →
    get_or (joined_by l k) (pair_cell x y) false ≡ not (every_below (λ j. not (join_same (link x y xy yx) (link_at l j))) k)
unfolding joined_by every_below join_same link_at
joined_cell l x y xy yx zero hx hy ends = get_or-replicate 4096 (pair_cell x y) false false (cell_small x y hx hy)
joined_cell l x y xy yx (suc k) hx hy ends =
    go (get_or l.from k 0) (get_or l.to k 0) (ends k (omega arith)) (every_below (λ j. not (join_same (link x y xy yx) (link_at l j))) k)
    (joined_cell l x y xy yx k hx hy (λ j h. ends j (omega arith)))
  where
    go : (a b' : ℕ) → (a < 64) × (b' < 64) → (p : Bool) → get_or (joined_by l k) (pair_cell x y) false ≡ not p →
        get_or (set (joined_by l k) (pair_cell a b') true) (pair_cell x y) false ≡ not (p && not ((eqb x a && eqb y b') || (eqb x b' && eqb y a)))
    go a b' h p e =
        rw (← cell_same x y a b' hx hy h.0 h.1)
        (mark (joined_by l k) (pair_cell a b') (pair_cell x y) p (omega (arith, joined_length l k, cell_small a b' h.0 h.1)) e)

-- What a look at the table tells of link k, where the routers of the links are below 64: the cell of its pair is true exactly when an
-- earlier link joins the pair.
module _ (l : Links) (k : ℕ) (table : List Bool) (ends : EndsBelow l) (h : k < l.links) (filled : table ≡ joined_by l k)
    {cell : ℕ} (at : cell ≡ pair_cell (get_or l.from k 0) (get_or l.to k 0)) where
  seen : get_or table cell false ≡ not (pair_new l k)
  unfolding pair_new link_at
  seen =
      let here = ends k h in
      rw (filled, at)
      (joined_cell l (get_or l.from k 0) (get_or l.to k 0) (get_or l.out k 0) (get_or l.back k 0) k here.0 here.1 (λ j m. ends j (omega arith)))

  pub not_new : get_or table cell false ≡ true → pair_new l k ≡ false
  not_new e = not-true _ (sym seen ∙ e)

  pub is_new : get_or table cell false ≡ false → pair_new l k ≡ true
  is_new e = not-false _ (sym seen ∙ e)

  -- the cell of the pair is set
  pub joined_more : set table cell true ≡ joined_by l (k + 1)
  unfolding joined_by
  joined_more = rw (filled, at, add-one k)
