-- One link more in the columns, and the part of the run that is the LSA at an offset.
-- Assumes nothing.
use Prim.Native.Nat.{ℕ, ◌+◌, ◌-◌, ◌*◌, ◌≤◌, ◌<◌}
use mathlib.Core.Path.{◌≡◌, sym, ap, ◌∙◌}
use mathlib.Core.List.{List, [], ◌∷◌, ◌++◌, append-nil}
use native.Mathlib.Omega.{arith}
use native.Mathlib.Decide.{ℕ_discrete}
use lib.Dec.{eqb}
use lib.ListN.{get_or, length, take, drop, set, length-set, length-append, get_or-append}
use lib.Seq.{get_or-set_same, get_or-set_other, get_or-append-add}
use borrow.Author.Tests.{eq-eqb, ne_eqb}
use Rattle.lfa.specs.Network.{Link, link}
use Rattle.lfa.specs.File.{Bytes, part_of}
use Rattle.lfa.proofs.Laws.Test.{or_right}
use Rattle.ospf.specs.Lsa.{be16, length_field, links_field}
use Rattle.ospf.proofs.Laws.Reading.{half_at, part_long}
use Rattle.router_links.specs.Gather.{lsa_from, StandsAt, link_if, LinksHeld}
use Rattle.metric.specs.declared.columns.Links.{Links}

-- ---- the LSA at an offset

module _ (b : Bytes) (at size : ℕ) (stands : StandsAt b at) (e : size ≡ be16 b (at + 18)) where
  pub from_is : take (at + size - at) (drop at b) ≡ lsa_from b at
  unfolding lsa_from part_of length_field
  from_is =
      let d : at + size - at ≡ be16 (drop at b) 18 = omega (arith, half_at b at 18) in
      ap (λ (n : ℕ). take n (drop at b)) d

  pub from_links : (links : ℕ) → links ≡ be16 (take (at + size - at) (drop at b)) 22 → (links ≡ links_field (lsa_from b at)) × (24 + 12 * links ≤ length (take (at + size - at) (drop at b)))
  unfolding links_field
  from_links links q =
      let w : links ≡ be16 (lsa_from b at) 22 = q ∙ ap (λ (l : Bytes). be16 l 22) from_is in
      (w, omega (arith, part_long b at size (omega (arith, stands.inside)), stands.links))

-- ---- one link more

-- no link where a metric is missing
pub no_out : (a b out back : ℕ) → out ≡ 0 → link_if a b out back ≡ []
unfolding link_if
no_out a b out back e = rw (link_if, eq-eqb out 0 e)

pub no_back : (a b out back : ℕ) → back ≡ 0 → link_if a b out back ≡ []
unfolding link_if
no_back a b out back e = rw (link_if, or_right (eqb out 0) (eqb back 0) (eq-eqb back 0 e))

is_link : (a b out back : ℕ) → (out ≡ 0 → ⊥) → (back ≡ 0 → ⊥) → link_if a b out back ≡ link a b out back ∷ []
unfolding link_if
is_link a b out back p q = rw (link_if, ne_eqb out 0 p, ne_eqb back 0 q)

pub nothing_added : (held more : List Link) (s : Links) → more ≡ [] → LinksHeld held s → LinksHeld (held ++ more) s
nothing_added held more s e h = rw (e, append-nil held) h

module _ (held : List Link) (x : Link) where
  abbrev longer : List Link
  longer = held ++ x ∷ []

  longer_is : length longer ≡ length held + 1
  longer_is = length-append held (x ∷ [])

  early : (k : ℕ) → k < length held → get_or longer k (link 0 0 0 0) ≡ get_or held k (link 0 0 0 0)
  early k h = get_or-append held (x ∷ []) (link 0 0 0 0) k h

  last : get_or longer (length held) (link 0 0 0 0) ≡ x
  last = let e : length held + 0 ≡ length held = omega arith in rw e at (get_or-append-add held (x ∷ []) 0 (link 0 0 0 0))

-- the columns are full
pub full_more : (held : List Link) (a b out back : ℕ) (s : Links) → (out ≡ 0 → ⊥) → (back ≡ 0 → ⊥) → 128 ≤ s.links → LinksHeld held s →
    LinksHeld (held ++ link_if a b out back) (record { routers = s.routers; links = 129; prefixes = s.prefixes; from = s.from; to = s.to; out = s.out; back = s.back })
full_more held a b out back s p q full h =
    rw (is_link a b out back p q) (record {
      count_is = omega (arith, longer_is held (link a b out back), h.count_is);
      from_long = h.from_long;
      to_long = h.to_long;
      out_long = h.out_long;
      back_long = h.back_long;
      cells = λ k j l. h.cells k (omega (arith, h.count_is)) l ∙ sym (early held (link a b out back) k (omega (arith, h.count_is)));
    })

-- there is room
pub put_more : (held : List Link) (a b out back : ℕ) (s : Links) → (out ≡ 0 → ⊥) → (back ≡ 0 → ⊥) → s.links < 128 → LinksHeld held s →
    LinksHeld (held ++ link_if a b out back)
    (record { routers = s.routers; links = s.links + 1; prefixes = s.prefixes; from = set s.from s.links a; to = set s.to s.links b; out = set s.out s.links out; back = set s.back s.links back })
put_more held a b out back s p q room h =
    let n : s.links ≡ length held = omega (arith, h.count_is) in
    rw (is_link a b out back p q) (record {
      count_is = omega (arith, longer_is held (link a b out back), h.count_is);
      from_long = simp length-set h.from_long;
      to_long = simp length-set h.to_long;
      out_long = simp length-set h.out_long;
      back_long = simp length-set h.back_long;
      cells = λ k j l. go k (omega (arith, longer_is held (link a b out back))) l (ℕ_discrete k s.links);
    })
  where
    same : (k u v w z u' v' w' z' : ℕ) → u ≡ u' → v ≡ v' → w ≡ w' → z ≡ z' → link u v w z ≡ link u' v' w' z'
    same k u v w z u' v' w' z' e f g i = cc

    cell : (c : List ℕ) (v : ℕ) → length c ≡ 128 → get_or (set c s.links v) s.links 0 ≡ v
    cell c v t = get_or-set_same c s.links v 0 (omega arith)

    go : (k : ℕ) → k < length held + 1 → k < 128 → Dec (k ≡ s.links) →
        link (get_or (set s.from s.links a) k 0) (get_or (set s.to s.links b) k 0) (get_or (set s.out s.links out) k 0) (get_or (set s.back s.links back) k 0)
        ≡ get_or (held ++ link a b out back ∷ []) k (link 0 0 0 0)
    go k j l (yes e) =
        let n : s.links ≡ length held = omega (arith, h.count_is) in
        rw e (same k _ _ _ _ _ _ _ _ (cell s.from a h.from_long) (cell s.to b h.to_long) (cell s.out out h.out_long) (cell s.back back h.back_long)
        ∙ sym (rw (← n) at (last held (link a b out back))))
    go k j l (no e) =
        let n : s.links ≡ length held = omega (arith, h.count_is) in
        same k _ _ _ _ _ _ _ _ (get_or-set_other s.from s.links k a 0 e) (get_or-set_other s.to s.links k b 0 e) (get_or-set_other s.out s.links k out 0 e) (get_or-set_other s.back s.links k back 0 e)
        ∙ h.cells k (omega arith) l ∙ sym (early held (link a b out back) k (omega arith))
