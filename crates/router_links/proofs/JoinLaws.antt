-- The links of a router to higher routers, one after the other, by what is read at the places of the routers.
-- Assumes nothing.
use Prim.Native.Nat.{ℕ, suc, ◌+◌, ◌-◌, ◌≤◌, ◌<◌}
use mathlib.Core.Path.{◌≡◌, refl, sym, ap, ap₂, ◌∙◌}
use mathlib.Core.List.{List, [], ◌∷◌, ◌++◌, map, append_assoc, append-nil}
use native.Mathlib.Omega.{arith}
use lib.ListN.{get_or, length, take, length-take, length-map}
use lib.Seq.{get_or-take}
use Rattle.lfa.specs.Lists.{below, count_up, flat}
use Rattle.lfa.specs.Network.{Link}
use Rattle.lfa.specs.File.{Bytes, part_of}
use Rattle.lfa.proofs.Laws.List.{get_d_in}
use Rattle.lfa.proofs.Laws.Chunks.{element_mapped}
use Rattle.lfa.proofs.Laws.File.Passes.{AreBytes}
use Rattle.lfa.proofs.Laws.File.Parts.{flat_append}
use Rattle.metric.proofs.Laws.List.{map_below_more}
use Rattle.metric.proofs.Laws.Column.{pad_at}
use Rattle.ospf.specs.Lsa.{links_field}
use Rattle.ospf.specs.Run.{begin_of, lsa_bytes, lsas_of, WholeRun}
use Rattle.ospf.specs.Network.{towards, joining, links_up, ids_of, network_with, network_from}
use Rattle.ospf.proofs.Laws.Run.{good_long}
use Rattle.ospf.proofs.Laws.SoundRun.{run_sound}
use Rattle.ospf.proofs.Laws.Reading.{size_at}
use Rattle.router_links.specs.Read.{first_or0, metric_to, place_of, front, RoutersHeld}
use Rattle.router_links.specs.Gather.{lsa_from, StandsAt, link_if, LinksHeld}
use Rattle.metric.specs.declared.columns.Links.{Links}
use Rattle.router_links.specs.declared.router.Routers.{Routers}
use Rattle.router_links.proofs.RouterLaws.{ids_long, from_ids}
use Rattle.router_links.proofs.PlaceLaws.{LsaOf, lsa_of, metric_read}
use Rattle.router_links.proofs.MetricLaws.{joining_found}

-- ---- a cell of an array that a list fills from its front

pub front_at : (size : ℕ) (l : List ℕ) (k : ℕ) → k < length l → k < size → get_or (front size l) k 0 ≡ get_or l k 0
unfolding front
front_at size l k h s = pad_at size (take size l) k 0 (omega (arith, length-take size l)) ∙ get_or-take size l k 0 s

-- the links of router a with the j routers after it
unfoldable pub up_to : Bytes → (n a j : ℕ) → List Link
up_to b n a j = flat (map (λ k. joining (lsas_of b n) (ids_of (lsas_of b n)) a (suc a + k)) (below j))

up_none : (b : Bytes) (n a : ℕ) (held : List Link) → held ++ up_to b n a 0 ≡ held
unfolding up_to below count_up flat
up_none b n a held = append-nil held

pub up_starts : (b : Bytes) (n a : ℕ) (held : List Link) (s : Links) → LinksHeld held s → LinksHeld (held ++ up_to b n a (a + 1 - (a + 1))) s
up_starts b n a held s h = let z : a + 1 - (a + 1) ≡ 0 = omega arith in rw (z, up_none b n a held) h

-- ---- the LSA of router a, at its place

from_begin : (b : Bytes) (j : ℕ) → lsa_from b (begin_of b j) ≡ lsa_bytes b j
unfolding lsa_from lsa_bytes
from_begin b j = refl

module _ (b : Bytes) (bytes : AreBytes b) (n : ℕ) (w : WholeRun b n) (s : Routers) (held : RoutersHeld b n s) (few : n ≤ 64) where
  abbrev ids : List ℕ
  ids = ids_of (lsas_of b n)

  pub id_at : (a : ℕ) → a < n → get_or s.id a 0 ≡ get_or ids a 0
  id_at a h =
      let long = ids_long b bytes n w in
      rw held.id_is (front_at 64 ids a (omega arith) (omega arith))

  place_is : (a : ℕ) → a < n → get_or s.at a 0 ≡ place_of b 0 n (get_or ids a 0)
  place_is a h =
      let long = ids_long b bytes n w in
      let m = length-map ids (place_of b 0 n) in
      rw held.at_is (front_at 64 (map (place_of b 0 n) ids) a (omega arith) (omega arith) ∙ element_mapped (place_of b 0 n) ids a 0 0 (omega arith))

  lsa_at_lem : (a : ℕ) → a < n → (j : ℕ) × LsaOf b 0 n (get_or ids a 0) j
  lsa_at_lem a h = let long = ids_long b bytes n w in lsa_of b n (get_or ids a 0) (from_ids b bytes n w _ (get_d_in ids a 0 (omega arith)))

  begins : (a : ℕ) → (h : a < n) → get_or s.at a 0 ≡ begin_of b (lsa_at_lem a h).0
  begins a h = place_is a h ∙ (lsa_at_lem a h).1.place

  pub stands_at : (a : ℕ) → a < n → StandsAt b (get_or s.at a 0)
  unfolding lsa_bytes part_of
  stands_at a h =
      let r = lsa_at_lem a h in
      let g = w.good r.0 (omega (arith, r.1.to)) in
      let l = good_long b r.0 g in
      let z = size_at b r.0 in
      let f = g.sound.filled in
      rw (begins a h) (record {
        inside = omega (arith, l.1);
        some = omega (arith, l.0);
        links = rw (from_begin b r.0) (omega (arith, l.2));
      })

  -- what is read there towards router y is what the run says
  metric_at : (a y : ℕ) → a < n → (m : ℕ) → m ≡ metric_to (lsa_from b (get_or s.at a 0)) (links_field (lsa_from b (get_or s.at a 0))) y →
      m ≡ first_or0 (towards (lsas_of b n) (get_or ids a 0) y)
  metric_at a y h m e =
      let r = lsa_at_lem a h in
      let q : lsa_from b (get_or s.at a 0) ≡ lsa_bytes b r.0 = ap (lsa_from b) (begins a h) ∙ from_begin b r.0 in
      e ∙ ap (λ (l : Bytes). metric_to l (links_field l) y) q ∙ metric_read b n (get_or ids a 0) y r.0 r.1

  -- the link of two routers by the two metrics that are read
  joined : (a c out back : ℕ) → a < n → c < n →
      out ≡ metric_to (lsa_from b (get_or s.at a 0)) (links_field (lsa_from b (get_or s.at a 0))) (get_or s.id c 0) →
      back ≡ metric_to (lsa_from b (get_or s.at c 0)) (links_field (lsa_from b (get_or s.at c 0))) (get_or s.id a 0) →
      link_if a c out back ≡ joining (lsas_of b n) ids a c
  joined a c out back h k p q =
      let o : out ≡ first_or0 (towards (lsas_of b n) (get_or ids a 0) (get_or ids c 0)) = metric_at a (get_or s.id c 0) h out p ∙ ap (λ (y : ℕ). first_or0 (towards (lsas_of b n) (get_or ids a 0) y)) (id_at c k) in
      let r : back ≡ first_or0 (towards (lsas_of b n) (get_or ids c 0) (get_or ids a 0)) = metric_at c (get_or s.id a 0) k back q ∙ ap (λ (y : ℕ). first_or0 (towards (lsas_of b n) (get_or ids c 0) y)) (id_at a h) in
      ap₂ (link_if a c) o r ∙ sym (joining_found (lsas_of b n) (run_sound b n w) ids a c)

  -- the links of router a, one router after the other
  up_more : (a j c out back : ℕ) (held : List Link) → c ≡ a + 1 + j → a < n → c < n →
      out ≡ metric_to (lsa_from b (get_or s.at a 0)) (links_field (lsa_from b (get_or s.at a 0))) (get_or s.id c 0) →
      back ≡ metric_to (lsa_from b (get_or s.at c 0)) (links_field (lsa_from b (get_or s.at c 0))) (get_or s.id a 0) →
      (held ++ up_to b n a j) ++ link_if a c out back ≡ held ++ up_to b n a (j + 1)
  unfolding up_to flat
  up_more a j c out back held e h k p q =
      let z : c ≡ suc a + j = omega arith in
      let one : link_if a c out back ≡ joining (lsas_of b n) ids a (suc a + j) = joined a c out back h k p q ∙ ap (joining (lsas_of b n) ids a) z in
      let last : flat (joining (lsas_of b n) ids a (suc a + j) ∷ []) ≡ joining (lsas_of b n) ids a (suc a + j) = append-nil _ in
      rw (one, map_below_more (λ k. joining (lsas_of b n) ids a (suc a + k)) j, flat_append (map (λ k. joining (lsas_of b n) ids a (suc a + k)) (below j)) (joining (lsas_of b n) ids a (suc a + j) ∷ []), last)
      (append_assoc held _ _)

  up_ends : (a : ℕ) → up_to b n a (n - (a + 1)) ≡ links_up (lsas_of b n) ids a
  unfolding up_to links_up
  up_ends a =
      let long = ids_long b bytes n w in
      let z : n - (a + 1) ≡ length ids - suc a = omega arith in
      ap (λ (j : ℕ). flat (map (λ k. joining (lsas_of b n) ids a (suc a + k)) (below j))) z

  pub up_next : (a c out back : ℕ) (before : List Link) (columns : Links) → a < c → c < n →
      out ≡ metric_to (lsa_from b (get_or s.at a 0)) (links_field (lsa_from b (get_or s.at a 0))) (get_or s.id c 0) →
      back ≡ metric_to (lsa_from b (get_or s.at c 0)) (links_field (lsa_from b (get_or s.at c 0))) (get_or s.id a 0) →
      LinksHeld ((before ++ up_to b n a (c - (a + 1))) ++ link_if a c out back) columns → LinksHeld (before ++ up_to b n a (c + 1 - (a + 1))) columns
  up_next a c out back before columns h k p q f =
      let j = c - (a + 1) in
      let z : c + 1 - (a + 1) ≡ c - (a + 1) + 1 = omega arith in
      rw z (rw (up_more a (c - (a + 1)) c out back before (omega arith) (omega arith) k p q) at f)

  pub up_done : (a c : ℕ) (before : List Link) (columns : Links) → c ≤ n → n ≤ c → LinksHeld (before ++ up_to b n a (c - (a + 1))) columns →
      LinksHeld (before ++ links_up (lsas_of b n) ids a) columns
  up_done a c before columns h k f =
      let z : c ≡ n = omega arith in
      rw (← up_ends a) (rw z at f)

-- ---- the links of all routers

module _ (f : ℕ → List Link) where
  -- columns with nothing in them
  pub none_held : (s : Links) → s.links ≡ 0 → length s.from ≡ 128 → length s.to ≡ 128 → length s.out ≡ 128 → length s.back ≡ 128 → LinksHeld (flat (map f (below 0))) s
  unfolding below count_up flat
  none_held s c p q r t =
      record { count_is = omega arith; from_long = p; to_long = q; out_long = r; back_long = t; cells = λ k h l. absurd (omega arith) }

  pub all_more : (a : ℕ) (s : Links) → LinksHeld (flat (map f (below a)) ++ f a) s → LinksHeld (flat (map f (below (a + 1)))) s
  unfolding flat
  all_more a s h =
      let last : flat (f a ∷ []) ≡ f a = append-nil (f a) in
      rw (map_below_more f a, flat_append (map f (below a)) (f a ∷ []), last) h

pub all_links : (b : Bytes) → AreBytes b → (n : ℕ) → WholeRun b n → (a : ℕ) (s : Links) → a ≤ n → n ≤ a →
    LinksHeld (flat (map (links_up (lsas_of b n) (ids_of (lsas_of b n))) (below a))) s → LinksHeld (network_from (lsas_of b n)).links s
unfolding network_from network_with
all_links b bytes n w a s h k f =
    let z : a ≡ length (ids_of (lsas_of b n)) = omega (arith, ids_long b bytes n w) in
    rw z at f
