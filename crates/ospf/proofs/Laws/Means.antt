-- The computed network is what the run means, and nothing else is.
-- Assumes nothing.
use Prim.Native.Nat.{ℕ, ◌<◌}
use Rattle.std.specs.Prelude.{◌≡◌, refl, ◌↔◌, length}
use Rattle.std.proofs.Common.{sym, ap, ◌∙◌}
use mathlib.Core.List.{List, map, Memᴰ}
use Rattle.std.proofs.Math.Dec.{ltb}
use Rattle.std.proofs.Math.ListN.{length-map}
use borrow.Author.Tests.{ltb-true}
use Rattle.lfa.specs.Network.{Link, link, Attachment, at, Target, Network}
use Rattle.lfa.proofs.Laws.List.{map_gives, map_make}
use Rattle.ospf.specs.Order.{Pairwise, Ascending, none, first, Paired, next}
use Rattle.ospf.specs.Lsa.{Lsa, lsa}
use Rattle.ospf.specs.Run.{Differ, SoundRun}
use Rattle.ospf.specs.Means.{Name, NameBefore, LinkBefore, AttachmentBefore, HasLsa, Numbering, Joins, Attaches, Means}
use Rattle.ospf.specs.Network.{name_less, router_of, stub_names, ids_of, names_of, network_with, network_from}
use Rattle.ospf.proofs.Laws.Order.{ascending_unique}
use Rattle.ospf.proofs.Laws.Sort.{ascend_gives, ascend_make, ascend_ascending, ascend_length}
use Rattle.ospf.proofs.Laws.Before.{below_self, below_trans, below_total, name_self, name_trans, less_gives, less_total, link_self, link_trans, attachment_self, attachment_trans}
use Rattle.ospf.proofs.Laws.Said.{names_gives, names_make}
use Rattle.ospf.proofs.Laws.Links.{links_gives, links_make, links_ascending}
use Rattle.ospf.proofs.Laws.Attachments.{each_attaches}

-- ---- the routers

differ_routers : {run : List Lsa} → Pairwise Differ run → Pairwise (λ x y. x ≡ y → ⊥) (map router_of run)
unfolding router_of
differ_routers none = none
differ_routers (first {x = lsa r es} {l = run} f h) = first (λ y m. let p = map_gives router_of run m in go y p.0 p.1 p.2) (differ_routers h)
  where
    go : (y : ℕ) (l : Lsa) → Memᴰ l run → y ≡ router_of l → r ≡ y → ⊥
    go y (lsa q fs) m e = λ s. f (lsa q fs) m (s ∙ e)

pub router_has : (run : List Lsa) (l : Lsa) (r : ℕ) → Memᴰ l run → r ≡ router_of l → HasLsa run r
unfolding router_of
router_has run (lsa q es) r m e = rw e (record { entries = es; among = m })

module _ (run : List Lsa) (sound : SoundRun run) where
  pub numbered : Numbering run (ids_of run)
  unfolding ids_of router_of
  numbered = record {
    ascending = ascend_ascending ltb ◌<◌ ltb-true below_trans below_total (map router_of run);
    just = λ r. (
      λ m. let p = map_gives router_of run (ascend_gives ltb ◌<◌ ltb-true below_trans below_total (map router_of run) m) in router_has run p.0 r p.1 p.2,
      λ h. ascend_make ltb ◌<◌ ltb-true below_trans below_total (map_make router_of h.among),
    );
  }

  pub each_router : length (ids_of run) ≡ length run
  unfolding ids_of
  each_router = ascend_length ltb ◌<◌ ltb-true below_trans below_total (differ_routers sound.once) ∙ length-map run router_of

-- ---- the names

module _ (run : List Lsa) where
  pub names_in_order : Ascending NameBefore (names_of run)
  unfolding names_of
  names_in_order = ascend_ascending name_less NameBefore less_gives name_trans less_total (stub_names run)

  pub names_from : {p : Name} → Memᴰ p (names_of run) → Memᴰ p (stub_names run)
  unfolding names_of
  names_from m = ascend_gives name_less NameBefore less_gives name_trans less_total (stub_names run) m

  pub names_to : {p : Name} → Memᴰ p (stub_names run) → Memᴰ p (names_of run)
  unfolding names_of
  names_to m = ascend_make name_less NameBefore less_gives name_trans less_total m

-- ---- the network

module _ (run : List Lsa) (sound : SoundRun run) where
  -- The network computed from a run of sound LSAs is what the run means: since no router has two LSAs, what is found in the LSA of a router
  -- is what the run says of it; putting in order keeps just the elements; and links and attachments are listed by router.
  pub network_means : Means run (network_from run)
  unfolding network_from network_with names_of
  network_means = record {
    ids = ids_of run;
    numbering = numbered run sound;
    one_each = each_router run sound;
    routers = refl;
    links_ascending = links_ascending run sound (ids_of run);
    links_just = λ a b ab ba. (links_gives run sound (ids_of run) a b ab ba, links_make run sound (ids_of run) a b ab ba);
    names = names_of run;
    names_ascending = names_in_order run;
    names_just = λ p. (λ m. names_gives run sound p (names_from run m), λ s. names_to run (names_make run sound s.2));
    prefixes = each_attaches run sound (ids_of run) (names_of run);
  }

-- ---- a run means one network only

same_network : (m n : Network) → m.routers ≡ n.routers → m.links ≡ n.links → m.prefixes ≡ n.prefixes → m ≡ n
same_network m n p q r = λ i. record { routers = p i; links = q i; prefixes = r i }

module _ (run : List Lsa) where
  attaches_unique : (ids : List ℕ) (p : Name) (s t : Target) → Attaches run ids p s → Attaches run ids p t → s ≡ t
  attaches_unique ids p s t f g = ascending_unique AttachmentBefore attachment_self attachment_trans f.ascending g.ascending same
    where
      same : (x : Attachment) → Memᴰ x s ↔ Memᴰ x t
      same (at a c) = (λ m. (g.just a c).1 ((f.just a c).0 m), λ m. (f.just a c).1 ((g.just a c).0 m))

  prefixes_unique : (ids : List ℕ) {names : List Name} {s t : List Target} → Paired (Attaches run ids) names s → Paired (Attaches run ids) names t → s ≡ t
  prefixes_unique ids Paired.none Paired.none = refl
  prefixes_unique ids (next {x = p} {y = s} f h) (next {y = t} g k) =
      let e = attaches_unique ids p s t f g in
      let r = prefixes_unique ids h k in
      cc

  links_unique : (ids : List ℕ) (s t : List Link) → Ascending LinkBefore s → Ascending LinkBefore t →
      ((a b ab ba : ℕ) → Memᴰ (link a b ab ba) s ↔ Joins run ids a b ab ba) → ((a b ab ba : ℕ) → Memᴰ (link a b ab ba) t ↔ Joins run ids a b ab ba) → s ≡ t
  links_unique ids s t f g h k = ascending_unique LinkBefore link_self link_trans f g same
    where
      same : (x : Link) → Memᴰ x s ↔ Memᴰ x t
      same (link a b ab ba) = (λ m. (k a b ab ba).1 ((h a b ab ba).0 m), λ m. (h a b ab ba).1 ((k a b ab ba).0 m))

  -- Two networks that a run means are the same: each list ascends in a strict order and holds just what the LSAs say, and an ascending list
  -- is told by its elements (`Laws.Order.ascending_unique`). The numbering comes first, since links and attachments name routers by number.
  pub means_unique : (m n : Network) → Means run m → Means run n → m ≡ n
  means_unique m n f g =
      let ids : f.ids ≡ g.ids = ascending_unique ◌<◌ below_self below_trans f.numbering.ascending g.numbering.ascending
      (λ r. (λ k. (g.numbering.just r).1 ((f.numbering.just r).0 k), λ k. (f.numbering.just r).1 ((g.numbering.just r).0 k))) in
      let names : f.names ≡ g.names = ascending_unique NameBefore name_self name_trans f.names_ascending g.names_ascending
      (λ p. (λ k. (g.names_just p).1 ((f.names_just p).0 k), λ k. (f.names_just p).1 ((g.names_just p).0 k))) in
      same_network m n
      (f.routers ∙ ap length ids ∙ sym g.routers)
      (links_unique f.ids m.links n.links f.links_ascending g.links_ascending f.links_just (rw (← ids) at g.links_just))
      (prefixes_unique f.ids f.prefixes (rw (← ids, ← names) at g.prefixes))
