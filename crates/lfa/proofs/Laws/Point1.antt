-- Point 1 holds: what a first hop is now and was before, and that nothing else changes. A question that a row before 14 turns away is turned
-- away alike; of the others, `Laws/Maintenance.antt` compares what is searched for.
-- Assumes nothing.
use Rattle.std.specs.Prelude.{ℕ, ◌<◌, ◌≡◌, ◌⊎◌, ◌↔◌}
use Rattle.std.proofs.Math.Path.{refl, sym, ap, subst}
use Rattle.std.proofs.Common.{◌∙◌, inl, inr, arith}
use Rattle.std.proofs.Math.Option.{Option, none, some}
use mathlib.Core.List.Memᴰ
use mathlib.Core.List.{List, ◌∷◌, map, Memᴰ}
use Rattle.lfa.specs.File.{byte_at}
use Rattle.lfa.specs.Space.{under_maintenance, Protected, FirstHop, IsFirstHop}
use Rattle.lfa.specs.Question.{Question, loading, filling, ask_space, ask_link, ask_prefix, ask_route, ask_link_with, ask_prefix_with, ask_route_with, without_maintenance, LooksAtFirstHops, Buffer, work_area, route_buffer, lent, HasInput, network_asked, link_asked}
use Rattle.lfa.specs.Refusal.{Row, early, Decided, early_rows, tries, returned, file_refusal, or_later, early_refusal, Accepted, Posed}
use Rattle.lfa.specs.Answer.{exit_of}
use Rattle.lfa.specs.Demands.{Hops, IsNeighbour, PutAt65535, SameReply, Point1}
use Rattle.lfa.proofs.Laws.Rows.{same_decides}
use Rattle.lfa.proofs.Laws.List.{map_gives}
use Rattle.lfa.proofs.Laws.Causes.{early_numbers}
use Rattle.lfa.proofs.Laws.Asked.{posed_work}
use Rattle.lfa.proofs.Laws.Accepted.{accepted_sound}
use Rattle.lfa.proofs.Laws.Turned.{early_turned_away, early_posed}
use Rattle.lfa.proofs.Laws.Maintenance.{unlimited, asked_unlimited, limit_asked, reply_same, InService}

-- of a list of questions that all are put at 65,535, one more at its head
one_more : {q head : Question} {rest : List Question} → head.maintenance ≡ 65535 → (Memᴰ q rest → q.maintenance ≡ 65535) → Memᴰ q (head ∷ rest) → q.maintenance ≡ 65535
one_more {q} {head} {rest} at others member = either (Memᴰ.cases_cons member)
  where
    either : (q ≡ head) ⊎ Memᴰ q rest → q.maintenance ≡ 65535
    either (inl e) = rw (e) at
    either (inr m) = others m

pub put_at_65535 : PutAt65535
unfolding loading filling ask_space ask_link ask_prefix ask_route ask_link_with ask_prefix_with ask_route_with
put_at_65535 b area buffer l e p table ranks choices s q =
    one_more refl (one_more refl (one_more refl (one_more refl (one_more refl (one_more refl (one_more refl (one_more refl (one_more refl (λ n. absurd (Memᴰ.not-nil n))))))))))

module _ (q : Question) (at : q.maintenance ≡ under_maintenance) (bytes : (i : ℕ) → byte_at q.file i < 256) where
  first_hop : (f : FirstHop) → IsFirstHop (Hops q) (link_asked q) f ↔ (IsNeighbour q f × (f.cost < 65535))
  first_hop f = (
    λ is. ((is.joined, is.not_far), omega (arith, is.in_service, limit_asked q at)),
    λ n. record { joined = n.0.0; not_far = n.0.1; in_service = omega (arith, n.1, limit_asked q at) },
  )

  -- no cost is above 65,535
  before : Accepted q.file → (f : FirstHop) → IsFirstHop (Hops q) (link_asked (without_maintenance q)) f ↔ IsNeighbour q f
  unfolding network_asked
  before a f = subst (λ (r : Protected). IsFirstHop (Hops q) r f ↔ IsNeighbour q f) (sym (asked_unlimited q at)) (unfold unlimited in
      (λ is. (is.joined, is.not_far), λ n. record { joined = n.0; not_far = n.1; in_service = omega (arith, (accepted_sound q.file a).capped n.0) }))

  -- the rows before 14 do not look at first hops
  same_on : (r : Row) → Memᴰ r (map early early_rows) → returned (without_maintenance q) r ≡ returned q r
  unfolding returned network_asked without_maintenance
  same_on r m =
      let g = map_gives early early_rows m in
      subst (λ (r : Row). returned (without_maintenance q) r ≡ returned q r) (sym g.2) (early_numbers _ _ _ _ q q.call q.file q.choices 65536 g.0)

  early_same : early_refusal (without_maintenance q) ≡ early_refusal q
  unfolding early_refusal without_maintenance
  early_same = ap (or_later (file_refusal q.file)) (same_decides (returned (without_maintenance q)) (returned q) (tries q.call) (map early early_rows) (λ r m t. same_on r m))

  -- turned away before the search, or posed
  decided_early : (o : Option (Decided Row)) → early_refusal q ≡ o → (LooksAtFirstHops q.call → Posed q → InService q at) → SameReply q (without_maintenance q)
  decided_early (some d) e small =
      let t = early_turned_away q d e in
      let u = early_turned_away (without_maintenance q) d (early_same ∙ e) in
      record { answer = t.answered ∙ sym u.answered; exit = λ x h lent. left x lent }
    where
      left : (x : Buffer) (held : List ℕ) → exit_of q x held ≡ exit_of (without_maintenance q) x held
      left work_area held = (early_turned_away q d e).area_left held ∙ sym ((early_turned_away (without_maintenance q) d (early_same ∙ e)).area_left held)
      left route_buffer held = (early_turned_away q d e).buffer_left held ∙ sym ((early_turned_away (without_maintenance q) d (early_same ∙ e)).buffer_left held)
  decided_early none e small = reply_same q at (λ looks. small looks (early_posed q bytes e))

  -- the work area holds the distances of the same network, whatever is found
  same_distances : HasInput q (lent work_area) → (area : List ℕ) → exit_of q work_area area ≡ exit_of (without_maintenance q) work_area area
  unfolding network_asked without_maintenance
  same_distances h area = go (early_refusal q) refl
    where
      go : (o : Option (Decided Row)) → early_refusal q ≡ o → exit_of q work_area area ≡ exit_of (without_maintenance q) work_area area
      go (some d) e = (early_turned_away q d e).area_left area ∙ sym ((early_turned_away (without_maintenance q) d (early_same ∙ e)).area_left area)
      go none e = posed_work q (early_posed q bytes e) area ∙ sym (posed_work (without_maintenance q) (early_posed (without_maintenance q) bytes (early_same ∙ e)) area)

  pub point_1 : Point1 q
  point_1 = record { first_hop = first_hop; before = before; nothing_changes = λ small. decided_early (early_refusal q) refl small; same_distances = same_distances }
