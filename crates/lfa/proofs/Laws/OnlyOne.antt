-- Only one repair is the first by some keys, and so only one answer meets what demand 3 asks for, whichever walks it speaks of.
-- Assumes nothing.
use Rattle.std.specs.Prelude.{ℕ, ◌≡◌, ◌⊎◌}
use Rattle.std.proofs.Common.{sym, ◌∙◌, inl, inr}
use Rattle.std.proofs.Math.Path.{ap}
use mathlib.Core.List.{List}
use Rattle.std.proofs.Math.ListN.{get_or}
use Rattle.lfa.specs.Network.{Target}
use Rattle.lfa.specs.Repair.{HasClass, Told, Keys, keys_at, key}
use Rattle.lfa.specs.Question.{Question, link_asked}
use Rattle.lfa.specs.Answer.{Answer, refused, repair}
use Rattle.lfa.specs.Demands.{Hops, D, IsFirst, RepairedBy}
use Rattle.lfa.proofs.Laws.Order.{first_both}
use Rattle.lfa.proofs.Laws.Class.{class_once}

module _ (q : Question) (rank : Told → ℕ) (has : ℕ → ℕ → Type 0) (to : Target) where
  abbrev ranked : Told → Keys
  ranked t = keys_at (rank t) (D q) (link_asked q) t

  -- Neither of two comes before the other, so that they have the same keys; the first hop, the endpoint and the cost are among them, and
  -- the class is that of the first hop and the endpoint.
  pub only_one : (t u : Told) → IsFirst q ranked has to t → IsFirst q ranked has to u → t ≡ u
  unfolding key
  only_one t u f g =
      let e = first_both (ranked t) (ranked u) (f.earliest g.pair u g.candidate g.tells g.has_this) (g.earliest f.pair t f.candidate f.tells f.has_this) in
      let firsts : t.first ≡ u.first = ap (λ (l : List ℕ). get_or l 4 0) e in
      let endpoints : t.endpoint ≡ u.endpoint = ap (λ (l : List ℕ). get_or l 2 0) e in
      let costs : t.cost ≡ u.cost = ap (λ (l : List ℕ). get_or l 3 0) e in
      let class-t : HasClass (Hops q) (D q) (link_asked q) to t.first t.endpoint t.class = rw (f.tells.first_is, f.tells.endpoint_is) f.tells.class_is in
      let class-u : HasClass (Hops q) (D q) (link_asked q) to t.first t.endpoint u.class = rw (firsts, endpoints, g.tells.first_is, g.tells.endpoint_is) g.tells.class_is in
      let classes : t.class ≡ u.class = class_once class-t class-u in
      let same : record { first = t.first; endpoint = t.endpoint; class = t.class; cost = t.cost } ≡ u = rw (firsts, endpoints, classes, costs) in
      same

  -- A repair shows a candidate that has this, and 14 that none has: so two answers are two repairs, or both are 14.
  pub only_answer : (answer other : Answer) → RepairedBy q ranked has to answer → RepairedBy q ranked has to other → answer ≡ other
  only_answer answer other r o = by r.repair_or_14 o.repair_or_14
    where
      never : {one two : Answer} → RepairedBy q ranked has to one → RepairedBy q ranked has to two → (t : Told) → one ≡ repair t → two ≡ refused 14 0 → ⊥
      never a b t e f =
          let first = a.is_repair t e in
          b.exactly.0 f first.pair first.candidate (rw (← first.tells.first_is, ← first.tells.endpoint_is) first.has_this)

      by : ((t : Told) × (answer ≡ repair t)) ⊎ (answer ≡ refused 14 0) → ((t : Told) × (other ≡ repair t)) ⊎ (other ≡ refused 14 0) → answer ≡ other
      by (inl (t, e)) (inl (u, f)) = e ∙ ap repair (only_one t u (r.is_repair t e) (o.is_repair u f)) ∙ sym f
      by (inl (t, e)) (inr f) = absurd (never r o t e f)
      by (inr e) (inl (u, f)) = absurd (never o r u f e)
      by (inr e) (inr f) = e ∙ sym f
