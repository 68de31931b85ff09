-- The LSA that begins at the place of a router is its own.
-- Assumes nothing.
use Prim.Native.Nat.{ℕ, zero, suc, ◌+◌, ◌≤◌, ◌<◌}
use mathlib.Core.Path.{◌≡◌, sym, ap}
use mathlib.Core.Logic.{◌⊎◌, inl, inr}
use mathlib.Core.Bool.{true, false}
use mathlib.Core.List.Memᴰ
use mathlib.Core.List.{List, map, Memᴰ}
use native.Mathlib.Omega.{arith}
use lib.Dec.{eqb}
use borrow.Author.Tests.{eqb-true, eqb-false}
use Rattle.lfa.specs.Lists.{count_up, below, select}
use Rattle.lfa.specs.File.{Bytes}
use Rattle.lfa.proofs.Laws.Test.{decide}
use Rattle.ospf.specs.Lsa.{Entry, Lsa, lsa_in, router_field, links_field}
use Rattle.ospf.specs.Run.{begin_of, lsa_bytes, lsas_of}
use Rattle.ospf.specs.Network.{router_of, links_in, entries_of, metric_of, is_towards, towards}
use Rattle.router_links.specs.Read.{links_from, first_or0, metric_to, place_of}

abbrev lsa_at : Bytes → ℕ → Lsa
lsa_at b i = lsa_in (lsa_bytes b i)

-- LSA j is that of router x, and its links are those of x
pub record LsaOf (b : Bytes) (i n x j : ℕ) : Type 0 where
  pub from : i ≤ j
  pub to : j < i + n
  pub place : place_of b i n x ≡ begin_of b j
  pub router : router_field (lsa_bytes b j) ≡ x
  pub links : entries_of (map (lsa_at b) (count_up i n)) x ≡ links_from (lsa_bytes b j) 0 (links_field (lsa_bytes b j))

lsa_from_lem : (b : Bytes) (i n x : ℕ) → Memᴰ x (map router_of (map (lsa_at b) (count_up i n))) → (j : ℕ) × LsaOf b i n x j
unfolding count_up
lsa_from_lem b i zero x m = absurd (Memᴰ.not-nil m)
lsa_from_lem b i (suc n) x m = go (decide (eqb (router_field (lsa_bytes b i)) x)) (lsa_from_lem b (suc i) n x)
  where
    here : eqb (router_field (lsa_bytes b i)) x ≡ true → LsaOf b i (suc n) x i
    here t = unfold place_of entries_of router_of links_in lsa_in links_from below count_up in record {
      from = omega arith;
      to = omega arith;
      place = rw (place_of, t);
      router = eqb-true (router_field (lsa_bytes b i)) x t;
      links = rw (entries_of, t);
    }

    later : eqb (router_field (lsa_bytes b i)) x ≡ false → (r : (j : ℕ) × LsaOf b (suc i) n x j) → LsaOf b i (suc n) x r.0
    later t r = unfold place_of entries_of router_of links_in lsa_in count_up in record {
      from = omega (arith, r.1.from);
      to = omega (arith, r.1.to);
      place = rw (place_of, t) r.1.place;
      router = r.1.router;
      links = rw (entries_of, t) r.1.links;
    }

    in_rest : eqb (router_field (lsa_bytes b i)) x ≡ false → (x ≡ router_of (lsa_at b i)) ⊎ Memᴰ x (map router_of (map (lsa_at b) (count_up (suc i) n))) → Memᴰ x (map router_of (map (lsa_at b) (count_up (suc i) n)))
    in_rest t (inl e) = unfold router_of lsa_in in absurd (eqb-false (router_field (lsa_bytes b i)) x t (sym e))
    in_rest t (inr k) = k

    go : (eqb (router_field (lsa_bytes b i)) x ≡ true) ⊎ (eqb (router_field (lsa_bytes b i)) x ≡ false) →
        (Memᴰ x (map router_of (map (lsa_at b) (count_up (suc i) n))) → (j : ℕ) × LsaOf b (suc i) n x j) → (j : ℕ) × LsaOf b i (suc n) x j
    go (inl t) rest = (i, here t)
    go (inr t) rest = let r = rest (in_rest t (Memᴰ.cases_cons m)) in (r.0, later t r)

-- The LSA that begins at the place of a router of the run is its own: what is read there is what the run says of the router.
pub lsa_of : (b : Bytes) (n x : ℕ) → Memᴰ x (map router_of (lsas_of b n)) → (j : ℕ) × LsaOf b 0 n x j
unfolding lsas_of below
lsa_of b n x m = lsa_from_lem b 0 n x m

pub metric_read : (b : Bytes) (n x y j : ℕ) → LsaOf b 0 n x j → metric_to (lsa_bytes b j) (links_field (lsa_bytes b j)) y ≡ first_or0 (towards (lsas_of b n) x y)
unfolding metric_to towards lsas_of below
metric_read b n x y j h = ap (λ (l : List Entry). first_or0 (map metric_of (select (is_towards y) l))) (sym h.links)
