-- Point 9 holds: a usual step lowers the distance to the prefix, since its hop costs something, and so does a downstream neighbour repair, by
-- what downstream means. So the distance falls at every hop, whoever chose it and whichever links are down.
-- Assumes nothing.
use Rattle.std.specs.Prelude.{ℕ, ◌<◌, ◌≡◌, length}
use Rattle.std.proofs.Math.Path.{refl, sym, subst}
use Rattle.std.proofs.Common.{◌∙◌, arith}
use Rattle.std.proofs.Math.Logic.{inl, inr}
use mathlib.Core.List.{List, []}
use Rattle.lfa.specs.Lists.{any_of, member_of}
use Rattle.lfa.specs.Network.{Arc, Target}
use Rattle.lfa.specs.File.{Bytes, network_of}
use Rattle.lfa.specs.Distance.{towards}
use Rattle.lfa.specs.Space.{under_maintenance, Protected}
use Rattle.lfa.specs.Repair.{Pair, IsPair, Serves, HasBaseClass, neighbour_downstream, neighbour_other, tunnel_downstream, tunnel_other, HasClass, node_protecting, any_other, class_of}
use Rattle.lfa.specs.Question.{Question, Source, own_fill, lent_table, prefix_repair, ask_prefix, ask_prefix_with, a_link, inputs_of, input_number, has_input, HasInput, network_asked, link_asked, prefix_asked}
use Rattle.lfa.specs.Refusal.{Accepted, Posed}
use Rattle.lfa.specs.Demands.{Demand2}
use Rattle.lfa.specs.Failures.{hops_of, costs_of, prefix_of, link_of, NeighbourRepair, Downstream, DownstreamRepair, MaySend, Sends, AnswerSends, SeveralFailures}
use Rattle.lfa.proofs.Laws.Class.{class_base, class_has}
use Rattle.lfa.proofs.Laws.Walk.{measure, step_lowers}
use Rattle.lfa.specs.Sound.{level}
use Rattle.lfa.proofs.Laws.Arrive.{WithinBy, FallsBy, walk_few_by, never_twice_by}
use Rattle.lfa.proofs.Laws.Accepted.{accepted_descend, accepted_sound}
use Rattle.lfa.proofs.Laws.HasThis.{serves_it}

-- ---- classes

module _ {d : ℕ → ℕ → ℕ} {q : Protected} {to : Target} {n y : ℕ} where
  base_downstream : HasBaseClass d q to n y 0 → (y ≡ n) × (towards d to y < towards d to q.near)
  base_downstream (neighbour_downstream e h) = (e, h)

  -- the endpoint of a pair of class 0 or 4 is its first hop, and nearer to the target than S ..
  downstream_nearer : {hops : List Arc} {k : ℕ} → HasClass hops d q to n y k → Downstream k → (y ≡ n) × (towards d to y < towards d to q.near)
  downstream_nearer c (inl e) = base_downstream (rw e at (class_base c))
  downstream_nearer c (inr e) = base_downstream (rw e at (class_base c))

  -- .. and a pair of which this is so has class 0 or 4
  nearer_downstream : {hops : List Arc} {k : ℕ} → HasClass hops d q to n y k → y ≡ n → towards d to y < towards d to q.near → Downstream k
  nearer_downstream (node_protecting p (neighbour_downstream e h)) s low = inl refl
  nearer_downstream (node_protecting p (neighbour_other e h)) s low = absurd (omega (arith, h, low))
  nearer_downstream (node_protecting p (tunnel_downstream e h)) s low = absurd (e s)
  nearer_downstream (node_protecting p (tunnel_other e h)) s low = absurd (e s)
  nearer_downstream (any_other p (neighbour_downstream e h)) s low = inr refl
  nearer_downstream (any_other p (neighbour_other e h)) s low = absurd (omega (arith, h, low))
  nearer_downstream (any_other p (tunnel_downstream e h)) s low = absurd (e s)
  nearer_downstream (any_other p (tunnel_other e h)) s low = absurd (e s)

-- the same of equal routers
class_same : {hops : List Arc} {d : ℕ → ℕ → ℕ} {q : Protected} {to : Target} {n m y z k : ℕ} → n ≡ m → y ≡ z → HasClass hops d q to n y k → HasClass hops d q to m z k
class_same e f c = rw (e, f) at c

-- a pair whose first hop and endpoint are one router
own_endpoint : {n : ℕ} {hops : List Arc} {q : Protected} {z : ℕ} (p : Pair) → p.hop.router ≡ z → p.endpoint ≡ z → IsPair n hops q p →
    IsPair n hops q (record { hop = record { router = z; cost = p.hop.cost; over = p.hop.over }; endpoint = z })
own_endpoint p e f is = record {
  first_hop = record { joined = rw e at is.first_hop.joined; not_far = rw e at is.first_hop.not_far; in_service = is.first_hop.in_service };
  end_in = rw f at is.end_in;
  end_not_near = rw f at is.end_not_near;
  end_not_far = rw f at is.end_not_far;
}

-- ---- the Point

module _ (b : Bytes) (a : Accepted b) (p : ℕ) where
  -- the number that falls
  abbrev far : ℕ → ℕ
  far = measure level (costs_of b) (prefix_of b p)

  nearer : {x z l : ℕ} → MaySend b p x z l → far z < far x
  nearer (inl t) = step_lowers (accepted_descend b a) t
  nearer (inr r) = let low = rw r.repairs.near_is at (downstream_nearer r.class_is r.downstream).1 in omega (arith, low)

  inside : {x z l : ℕ} → MaySend b p x z l → z < (network_of b).routers
  inside (inl t) = (accepted_sound b a).within.to t.joined
  inside (inr r) = r.repairs.candidate.end_in

  -- a neighbour repair that leads nearer is downstream
  repair_downstream : {x z l : ℕ} → NeighbourRepair b p x z l → towards (costs_of b) (prefix_of b p) z < towards (costs_of b) (prefix_of b p) x → DownstreamRepair b p x z l
  repair_downstream {x} {z} {l} r low =
      let pair : Pair = record { hop = record { router = z; cost = r.cost; over = l }; endpoint = z } in
      let q = link_of b r.link r.end in
      let has = class_has (network_of b).routers (hops_of b) (costs_of b) q (prefix_of b p) pair (accepted_sound b a) r.candidate.end_in r.candidate.end_in in
      record {
        repairs = r;
        class = class_of (network_of b).routers (hops_of b) (costs_of b) q (prefix_of b p) pair;
        class_is = has;
        downstream = nearer_downstream has refl (rw r.near_is low);
      }

  -- the prefix repair question about the file and the prefix
  about : (from : Source) (cells link end : ℕ) (table ranks : List ℕ) → Question
  about from cells link end table ranks = record { call = prefix_repair from; file = b; cells = cells; table = table; buffer = 0; ranks = ranks; link = link; end = end; prefix = p; choices = []; maintenance = under_maintenance }

  -- what a call tells is of a candidate that has this, and so serves
  answered : ((q : Question) → Posed q → Demand2 q) → (from : Source) (cells link end : ℕ) (table ranks : List ℕ) → AnswerSends b p link end (about from cells link end table ranks)
  unfolding about network_asked link_asked prefix_asked has_input inputs_of input_number member_of any_of
  answered demand_2 from cells link end table ranks t posed e downstream =
      let q = about from cells link end table ranks in
      let named : HasInput q a_link = refl in
      let first = ((demand_2 q posed).prefix_repair_first refl t e).1 in
      let tells = first.tells in
      let pair = first.pair in
      let own = (downstream_nearer tells.class_is downstream).0 in
      let endpoint : t.endpoint ≡ t.first = tells.endpoint_is ∙ own ∙ sym tells.first_is in
      let told : NeighbourRepair b p (link_of b link end).near t.first pair.hop.over = record {
        link = link;
        end = end;
        link_in_lem = posed.link named;
        end_in = posed.end named;
        near_is = refl;
        cost = pair.hop.cost;
        candidate = own_endpoint pair (sym tells.first_is) (own ∙ sym tells.first_is) first.candidate;
        serves = subst (λ y. Serves (hops_of b) (costs_of b) (link_of b link end) (prefix_of b p) t.first y) endpoint (serves_it q posed named (prefix_of b p) t.first t.endpoint first.has_this);
      } in (
        endpoint,
        (
          pair.hop.over,
          record {
            repairs = told;
            class = t.class;
            class_is = class_same (sym tells.first_is) (sym tells.endpoint_is ∙ endpoint) tells.class_is;
            downstream = downstream;
          },
        ),
      )

  pub several_failures : ((q : Question) → Posed q → Demand2 q) → SeveralFailures b p
  unfolding ask_prefix ask_prefix_with about
  several_failures demand_2 =
      let within : (failed : List ℕ) → WithinBy (Sends b p failed) (network_of b).routers = λ failed. record { to = λ s. inside s.way } in
      let falls : (failed : List ℕ) → FallsBy (Sends b p failed) far = λ failed. record { fall = λ s. nearer s.way } in
      record {
        never_twice = λ failed x k w. never_twice_by (Sends b p failed) (network_of b).routers far (within failed) (falls failed) w;
        fewer_hops = λ failed x u k i w. walk_few_by (Sends b p failed) (network_of b).routers far (within failed) (falls failed) i w;
        each_step = λ failed x z l up s. record { is_up = up; way = inl s };
        each_repair = λ failed x z l up r low. record { is_up = up; way = inr (repair_downstream r low) };
        answer_sends = λ area link end ranks. answered demand_2 own_fill area link end [] ranks;
        answer_sends_with = λ link end table ranks. answered demand_2 lent_table (length table) link end table ranks;
      }
