-- Point 5 holds: what a class tells of the far router, of a link's own repair and, with ascending ranks, of all pairs that serve a prefix.
-- Assumes nothing.
use Rattle.std.specs.Prelude.{ℕ, ◌+◌, ◌≤◌, ◌<◌, ◌%◌, ◌≡◌}
use Rattle.std.proofs.Common.{ap, ap₂, inl, inr, arith}
use Rattle.lfa.specs.Network.{Target, router}
use Rattle.lfa.specs.Ranks.{ascending}
use Rattle.lfa.specs.Repair.{NodeProtecting, Pair, Told, told_of, Keys, First, by_rank, by_distance, by_endpoint, by_tunnel, by_hop}
use Rattle.lfa.specs.Question.{Question, a_link, HasInput, link_asked, prefix_asked}
use Rattle.lfa.specs.Refusal.{Posed}
use Rattle.lfa.specs.Demands.{N, Hops, D, HasThis, Candidate, TellsOf, IsFirst, IsRepair, Demand2, MissesFar, keys_by_former_class, From4To7, Point5}
use Rattle.lfa.proofs.Laws.Class.{class_few, class_protects, protects_class, class_base, far_class}
use Rattle.lfa.proofs.Laws.Repair.{told_tells}
use Rattle.lfa.proofs.Laws.HasThis.{sound, least_costs, serves_it}
use Rattle.lfa.proofs.Laws.Replies.{link_has_link}
use Rattle.lfa.proofs.Laws.OnlyOne.{only_one}
use Rattle.lfa.proofs.Laws.Point2.{first_by_class}

-- ---- the first key

-- what comes first has no higher rank
first_rank : {a b : Keys} → First a b → a.rank ≤ b.rank
first_rank (inl (by_rank h)) = omega arith
first_rank (inl (by_distance e h)) = omega arith
first_rank (inl (by_endpoint e f h)) = omega arith
first_rank (inl (by_tunnel e f g h)) = omega arith
first_rank (inl (by_hop e f g i h)) = omega arith
first_rank (inr e) = omega (arith, ap (λ (k : Keys). k.rank) e)

-- the same keys with another rank
abbrev ranked : ℕ → Keys → Keys
ranked k a = record { rank = k; distance = a.distance; endpoint = a.endpoint; cost = a.cost; first = a.first }

-- where 4 was added to both ranks, the order is that of before
without_4 : {a b : Keys} {i j : ℕ} → a.rank ≡ i + 4 → b.rank ≡ j + 4 → First a b → First (ranked i a) (ranked j b)
without_4 p r (inl (by_rank h)) = inl (by_rank (omega arith))
without_4 p r (inl (by_distance e h)) = inl (by_distance (omega arith) h)
without_4 p r (inl (by_endpoint e f h)) = inl (by_endpoint (omega arith) f h)
without_4 p r (inl (by_tunnel e f g h)) = inl (by_tunnel (omega arith) f g h)
without_4 p r (inl (by_hop e f g i h)) = inl (by_hop (omega arith) f g i h)
without_4 {i = i} {j = j} p r (inr e) = let same : i ≡ j = omega (arith, ap (λ (k : Keys). k.rank) e) in inr (ap₂ ranked same e)

-- ---- the Point

-- a pair misses E exactly when it is node-protecting
module _ {q : Question} {to : Target} {n y : ℕ} where
  protecting_misses : NodeProtecting (Hops q) (D q) (link_asked q) to n y → MissesFar q to n y
  protecting_misses p = record { first_leg = λ k w. p.tunnel (record { count = k; walk = w }); second_leg = λ k w. p.onward (record { count = k; walk = w }) }

  misses_protecting : MissesFar q to n y → NodeProtecting (Hops q) (D q) (link_asked q) to n y
  misses_protecting m = record { tunnel = λ v. m.first_leg v.count v.walk; onward = λ v. m.second_leg v.count v.walk }

module _ (q : Question) (p : Posed q) (d2 : Demand2 q) where
  -- the walks of a pair that has this for E arrive there
  link_pairs : HasInput q a_link → (r : Pair) (t : Told) → HasThis q (router (link_asked q).far) r.hop.router r.endpoint → TellsOf q (router (link_asked q).far) r t → From4To7 t.class
  link_pairs l r t h tells =
      let reached = (serves_it q p l (router (link_asked q).far) r.hop.router r.endpoint h).onward.reachable in
      (far_class (N q) (Hops q) (D q) (link_asked q) (sound q p) (least_costs q p) reached tells.class_is, omega (arith, class_few tells.class_is))

  -- what is told of the first pair, or of any that has this
  told_pairs : HasInput q a_link → (r : Pair) (t : Told) → TellsOf q (router (link_asked q).far) r t → HasThis q (router (link_asked q).far) t.first t.endpoint → From4To7 t.class
  told_pairs l r t tells h = link_pairs l r t (rw (tells.first_is, tells.endpoint_is) at h) tells

  -- Every class of a pair that serves E has 4 added, so that the order by classes is that of before.
  link_as_before : HasInput q a_link → q.ranks ≡ ascending → (t : Told) → IsRepair q (router (link_asked q).far) t → IsFirst q (keys_by_former_class q) (HasThis q (router (link_asked q).far)) (router (link_asked q).far) t
  link_as_before l e t f = record {
    pair = f.pair;
    candidate = f.candidate;
    tells = f.tells;
    has_this = f.has_this;
    earliest = λ r u is told h.
        let a = told_pairs l f.pair t f.tells f.has_this in
        let b = told_pairs l r u told h in
        without_4 (omega (arith, a.0, a.1)) (omega (arith, b.0, b.1)) ((first_by_class q e f).earliest r u is told h);
  }

  class_below_4 : (t : Told) → IsRepair q (prefix_asked q) t → t.class < 4 → MissesFar q (prefix_asked q) t.first t.endpoint
  class_below_4 t f h = rw (f.tells.first_is, f.tells.endpoint_is) (protecting_misses (class_protects f.tells.class_is h))

  -- The class is the first key: were a serving pair node-protecting, its class would be below 4, and no lower than that of the first.
  class_from_4 : q.ranks ≡ ascending → (t : Told) → IsRepair q (prefix_asked q) t → 4 ≤ t.class → (r : Pair) → Candidate q r → HasThis q (prefix_asked q) r.hop.router r.endpoint →
      MissesFar q (prefix_asked q) r.hop.router r.endpoint → ⊥
  unfolding told_of
  class_from_4 e t f h r is has misses =
      let tells = told_tells (N q) (Hops q) (D q) (link_asked q) (prefix_asked q) r (sound q p) is in
      let first = first_rank ((first_by_class q e f).earliest r _ is tells has) in
      omega (arith, protects_class tells.class_is (misses_protecting misses))

  pub point_5 : Point5 q
  point_5 = record {
    eight_classes = λ to r t tells. omega (arith, class_few tells.class_is);
    below_4_exactly = λ to r t tells. (λ h. protecting_misses (class_protects tells.class_is h), λ m. protects_class tells.class_is (misses_protecting m));
    class_of_before = λ to r t tells. class_base tells.class_is;
    link_pairs = λ l r t is h tells. link_pairs l r t h tells;
    link_class = λ c t e. let f = d2.link_repair_first c t e in told_pairs (link_has_link q p c) f.pair t f.tells f.has_this;
    link_as_before = λ c ranks t e. link_as_before (link_has_link q p c) ranks t (d2.link_repair_first c t e);
    one_by_former_class = λ to. only_one q (λ t. t.class % 4) (HasThis q to) to;
    class_below_4 = λ c t e h. class_below_4 t (d2.prefix_repair_first c t e).1 (omega (arith, h));
    class_from_4 = λ c ranks t e. class_from_4 ranks t (d2.prefix_repair_first c t e).1;
  }
