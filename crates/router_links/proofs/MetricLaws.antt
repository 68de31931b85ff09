-- A missing metric as a number: the links and attachments of a run by the metrics that are found, for the columns of the network.
-- Assumes nothing.
use Prim.Native.Nat.{ℕ, ◌≤◌, min}
use mathlib.Core.Path.{◌≡◌, refl, sym, ap, ◌∙◌}
use mathlib.Core.Bool.{true, false}
use mathlib.Core.List.{List, [], ◌∷◌, Memᴰ}
use native.Mathlib.Omega.{arith}
use lib.Dec.{ltb}
use lib.ListN.{get_or}
use borrow.Author.Tests.{lt-ltb, ne_eqb}
use Rattle.lfa.specs.Network.{at, Target}
use Rattle.ospf.specs.Lsa.{entry, Lsa, SoundEntry, point_to_point}
use Rattle.ospf.specs.Run.{SoundRun}
use Rattle.ospf.specs.Means.{Describes}
use Rattle.ospf.specs.Network.{towards, pair_up, joining, least_of, attachment}
use Rattle.ospf.proofs.Laws.Said.{AtMostOne, no_element, one_element, towards_most, towards_gives}
use Rattle.router_links.specs.Read.{first_or0}
use Rattle.router_links.specs.Gather.{link_if}

pair_once : (a b : ℕ) {outs backs : List ℕ} → AtMostOne outs → AtMostOne backs → ((m : ℕ) → Memᴰ m outs → 1 ≤ m) → ((m : ℕ) → Memᴰ m backs → 1 ≤ m) →
    pair_up a b outs backs ≡ link_if a b (first_or0 outs) (first_or0 backs)
unfolding pair_up link_if first_or0
pair_once a b no_element q f g = refl
pair_once a b (one_element {x}) no_element f g = rw (link_if, ne_eqb x 0 (λ e. omega (arith, f x (Memᴰ.head refl))))
pair_once a b (one_element {x}) (one_element {x = y}) f g =
    rw (link_if, ne_eqb x 0 (λ e. omega (arith, f x (Memᴰ.head refl))), ne_eqb y 0 (λ e. omega (arith, g y (Memᴰ.head refl))))

-- the least of the metrics, and `most` if there is none below it
unfoldable pub least_below : ℕ → List ℕ → ℕ
least_below most [] = most
least_below most (m ∷ ms) = least_below (min most m) ms

least_same : (m : ℕ) (ms : List ℕ) → least_below m ms ≡ least_of m ms
unfolding least_below least_of
least_same m [] = refl
least_same m (k ∷ ms) = least_same (min m k) ms

least_small : (m : ℕ) (ms : List ℕ) → least_below m ms ≤ m
unfolding least_below
least_small m [] = omega arith
least_small m (k ∷ ms) = omega (arith, least_small (min m k) ms)

-- the attachment of a router by its least metric, where there is one: metrics are below 65,536
unfoldable pub attach_if : ℕ → ℕ → Target
attach_if a c = elim (ltb c 65536) [ true ↦ at a c ∷ [] | false ↦ [] ]

pub attachment_least : (a : ℕ) (ms : List ℕ) → ((m : ℕ) → Memᴰ m ms → m ≤ 65535) → attachment a ms ≡ attach_if a (least_below 65536 ms)
unfolding attachment attach_if least_below
attachment_least a [] f = refl
attachment_least a (m ∷ ms) f =
    let h = f m (Memᴰ.head refl) in
    let e : min 65536 m ≡ m = omega arith in
    let s = least_small m ms in
    let t : attach_if a (least_below m ms) ≡ at a (least_below m ms) ∷ [] = rw (attach_if, lt-ltb (least_below m ms) 65536 (omega arith)) in
    ap (λ (c : ℕ). at a c ∷ []) (sym (least_same m ms)) ∙ sym t ∙ ap (λ (c : ℕ). attach_if a (least_below c ms)) (sym e)

-- a point-to-point link of a run has a metric
some_metric : (r id info metric : ℕ) → SoundEntry r (entry id info 1 0 metric) → 1 ≤ metric
some_metric r id info metric (point_to_point p q) = p

metric_some : (run : List Lsa) → SoundRun run → (x y m : ℕ) → Describes run x y m → 1 ≤ m
metric_some run sound x y m d =
    let h = d.described in
    some_metric x y d.info m (sound.entries x h.entries h.among (entry y d.info 1 0 m) h.has)

-- The link between two routers, if any, is that of the two metrics found.
pub joining_found : (run : List Lsa) → SoundRun run → (ids : List ℕ) (a b : ℕ) →
    joining run ids a b ≡ link_if a b (first_or0 (towards run (get_or ids a 0) (get_or ids b 0))) (first_or0 (towards run (get_or ids b 0) (get_or ids a 0)))
unfolding joining
joining_found run sound ids a b =
    pair_once a b (towards_most run sound (get_or ids a 0) (get_or ids b 0)) (towards_most run sound (get_or ids b 0) (get_or ids a 0))
    (λ m k. metric_some run sound (get_or ids a 0) (get_or ids b 0) m (towards_gives run sound (get_or ids a 0) (get_or ids b 0) m k))
    (λ m k. metric_some run sound (get_or ids b 0) (get_or ids a 0) m (towards_gives run sound (get_or ids b 0) (get_or ids a 0) m k))
