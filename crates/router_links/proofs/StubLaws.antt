-- The least metric of a router's stub links of a network and mask, by what is read at its place.
-- Assumes nothing.
use Prim.Native.Nat.{ℕ, zero, suc, ◌+◌, ◌*◌, min}
use mathlib.Core.Path.{◌≡◌, refl, sym, ap, ◌∙◌}
use mathlib.Core.Bool.{Bool, true, false, ◌&&◌}
use mathlib.Core.List.{List, map, Memᴰ}
use lib.Dec.{eqb}
use borrow.Author.Tests.{eqb-true, eq-eqb}
use Rattle.lfa.specs.Lists.{count_up, below, select, keep_if}
use Rattle.lfa.specs.File.{Bytes}
use Rattle.lfa.proofs.Laws.Test.{and_left, and_right, and_make, same_test}
use Rattle.lfa.proofs.Laws.List.{map_gives}
use Rattle.lfa.proofs.Laws.File.Passes.{AreBytes}
use Rattle.metric.proofs.Laws.List.{select_same}
use Rattle.ospf.specs.Lsa.{Entry, entry, entry_at, links_field}
use Rattle.ospf.specs.Run.{lsa_bytes, lsas_of}
use Rattle.ospf.specs.Means.{Name, name}
use Rattle.ospf.specs.Network.{metric_of, name_of, is_stub, is_stub_of, stubs_of}
use Rattle.ospf.proofs.Laws.SoundRun.{be32_small}
use Rattle.router_links.specs.Read.{links_from, key_of, is_stub_key, least_step, stub_least}
use Rattle.router_links.proofs.KeyLaws.{SmallMask, key_same}
use Rattle.router_links.proofs.MetricLaws.{least_below}
use Rattle.router_links.proofs.PlaceLaws.{LsaOf}

-- the loop keeps the least of the metrics of such links
least_over : (key best : ℕ) (l : Bytes) (k n : ℕ) → stub_least key best l k n ≡ least_below best (map metric_of (select (is_stub_key key) (links_from l k n)))
unfolding stub_least links_from count_up select least_below
least_over key best l k zero = refl
least_over key best l k (suc n) = go (is_stub_key key (entry_at l k)) refl (λ z. least_over key z l (suc k) n)
  where
    go : (t : Bool) → is_stub_key key (entry_at l k) ≡ t → ((z : ℕ) → stub_least key z l (suc k) n ≡ least_below z (map metric_of (select (is_stub_key key) (links_from l (suc k) n)))) →
        stub_least key (least_step key best (entry_at l k)) l (suc k) n ≡ least_below best (map metric_of (keep_if t (entry_at l k) (select (is_stub_key key) (links_from l (suc k) n))))
    go true e more = unfold least_step least_below in rw (least_step, e) (more (min best (metric_of (entry_at l k))))
    go false e more = unfold least_step least_below in rw (least_step, e) (more best)

-- a stub link has this number exactly where it has this network and mask
key_test : (p : Name) (e : Entry) → SmallMask p → SmallMask (name_of e) → is_stub_key (key_of p) e ≡ is_stub_of p e
unfolding is_stub_key is_stub_of is_stub name_of
key_test (name n m) (entry id info kind tos metric) s t = same_test _ _ gives makes
  where
    same : key_of (name id info) ≡ key_of (name n m) → name id info ≡ name n m
    same q = key_same (name id info) (name n m) t s q

    gives : (eqb kind 3 && eqb (key_of (name id info)) (key_of (name n m))) ≡ true → (eqb kind 3 && eqb id n && eqb info m) ≡ true
    gives u =
        let q = same (eqb-true _ _ (and_right (eqb kind 3) _ u)) in
        let i : id ≡ n = cc in
        let j : info ≡ m = cc in
        and_make _ _ (and_make _ _ (and_left (eqb kind 3) _ u) (eq-eqb id n i)) (eq-eqb info m j)

    makes : (eqb kind 3 && eqb id n && eqb info m) ≡ true → (eqb kind 3 && eqb (key_of (name id info)) (key_of (name n m))) ≡ true
    makes u =
        let i : id ≡ n = eqb-true id n (and_right (eqb kind 3) _ (and_left (eqb kind 3 && eqb id n) _ u)) in
        let j : info ≡ m = eqb-true info m (and_right (eqb kind 3 && eqb id n) _ u) in
        let q : key_of (name id info) ≡ key_of (name n m) = cc in
        and_make _ _ (and_left (eqb kind 3) _ (and_left (eqb kind 3 && eqb id n) _ u)) (eq-eqb _ _ q)

mask_at : (l : Bytes) → AreBytes l → (e : Entry) (k n : ℕ) → Memᴰ e (links_from l k n) → SmallMask (name_of e)
unfolding links_from name_of entry_at
mask_at l a e k n m = let r = map_gives (entry_at l) (count_up k n) m in rw r.2 (be32_small l (28 + 12 * r.0) a)

-- What is read at the place of a router is the least metric that the run gives it for this network and mask, or 65,536.
pub stub_read : (b : Bytes) (n x j : ℕ) (p : Name) → LsaOf b 0 n x j → AreBytes (lsa_bytes b j) → SmallMask p →
    stub_least (key_of p) 65536 (lsa_bytes b j) 0 (links_field (lsa_bytes b j)) ≡ least_below 65536 (stubs_of (lsas_of b n) x p)
unfolding stubs_of lsas_of below
stub_read b n x j p h bytes small =
    let l = lsa_bytes b j in
    least_over (key_of p) 65536 l 0 (links_field l)
    ∙ ap (λ (es : List Entry). least_below 65536 (map metric_of es)) (select_same (is_stub_key (key_of p)) (is_stub_of p) (links_from l 0 (links_field l)) (λ e m. key_test p e small (mask_at l bytes e 0 (links_field l) m)))
    ∙ ap (λ (es : List Entry). least_below 65536 (map metric_of (select (is_stub_of p) es))) (sym h.links)
