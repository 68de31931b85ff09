-- The arcs that are kept, arc by arc and link by link.
-- Assumes nothing.
use Prim.Native.Nat.{ℕ, zero, suc, ◌+◌, ◌*◌, ◌%◌, ◌^◌, ◌≤◌, ◌<◌}
use mathlib.Core.Path.{◌≡◌, refl, sym, ap, subst, ◌∙◌}
use mathlib.Core.Logic.{◌⊎◌, inl, inr}
use mathlib.Core.Bool.{Bool, true, false≢true}
use mathlib.Core.List.{List, map, Memᴰ}
use native.Mathlib.Omega.{arith}
use native.Mathlib.Nat.{one-mul}
use native.Mathlib.Decide.{ℕ_discrete}
use lib.Bits.{bit_or}
use lib.Pow.{shl_exact}
use lib.ListN.{length, get_or, set, replicate, length-set, length-replicate}
use lib.Seq.{get_or-set_same, get_or-set_other}
use Rattle.lfa.specs.Lists.{below}
use Rattle.lfa.specs.Network.{arc, Link, link}
use Rattle.lfa.specs.Space.{has}
use Rattle.lfa.proofs.Laws.Test.{or_cases, or_left, or_right}
use Rattle.lfa.proofs.Laws.Counting.{length_map_below, map_below_at}
use Rattle.lfa.proofs.Laws.Network.{arcs_give, arcs_have, Direction}
use Rattle.metric.specs.Area.{area_cell}
use Rattle.metric.specs.Columns.{links_in, arcs_in}
use Rattle.metric.proofs.Laws.Set.{has_or, has_self, has_other, has_none}
use Rattle.table.specs.Rows.{Way, Over, Kept, Undercut, ArcKept}
use Rattle.table.proofs.ArcLaws.{HopIn}

-- ---- one arc

module _ {n a b cost : ℕ} {table before : List ℕ} where
  pub arc_equal : cost ≡ area_cell n table a b → a < length before → b < 64 → ArcKept n a b cost table before (set before a (bit_or (get_or before a 0) ((1 * 2 ^ b) % 2 ^ 64))) true
  arc_equal e ha hb = record {
    long = length-set before a new;
    under = λ f. absurd (false≢true (sym f));
    enough = λ _. omega arith;
    put = λ _ _. rw here (has_or old (2 ^ b) b ∙ or_right (has old b) _ (has_self b));
    stays = λ x z s. stays x z s (ℕ_discrete x a);
    only = λ x z s. only x z s (ℕ_discrete x a);
  }
    where
      old : ℕ
      old = get_or before a 0

      new : ℕ
      new = bit_or old ((1 * 2 ^ b) % 2 ^ 64)

      here : get_or (set before a new) a 0 ≡ bit_or old (2 ^ b)
      here = get_or-set_same before a new 0 ha ∙ ap (bit_or old) (shl_exact 1 b 64 (omega arith) (omega arith) ∙ one-mul (2 ^ b))

      stays : (x z : ℕ) → has (get_or before x 0) z ≡ true → Dec (x ≡ a) → has (get_or (set before a new) x 0) z ≡ true
      stays x z s (yes f) = rw (f, here) (has_or old (2 ^ b) z ∙ or_left _ _ (rw f at s))
      stays x z s (no f) = rw (get_or-set_other before a x new 0 f) s

      added : (x z : ℕ) → x ≡ a → Dec (z ≡ b) → (has old z ≡ true) ⊎ (has (2 ^ b) z ≡ true) → (has (get_or before x 0) z ≡ true) ⊎ ((x ≡ a) × (z ≡ b) × (cost ≡ area_cell n table a b))
      added x z f _ (inl s) = inl (rw f s)
      added x z f (yes g) (inr s) = inr (f, g, e)
      added x z f (no g) (inr s) = absurd (false≢true (sym (has_other b z g) ∙ s))

      only : (x z : ℕ) → has (get_or (set before a new) x 0) z ≡ true → Dec (x ≡ a) → (has (get_or before x 0) z ≡ true) ⊎ ((x ≡ a) × (z ≡ b) × (cost ≡ area_cell n table a b))
      only x z s (yes f) = added x z f (ℕ_discrete z b) (or_cases _ _ (sym (has_or old (2 ^ b) z) ∙ (rw (f, here) at s)))
      only x z s (no f) = inl (rw (get_or-set_other before a x new 0 f) at s)

-- ---- the arcs

module _ {n : ℕ} {table : List ℕ} where
  pub kept_same : {P Q : ℕ → ℕ → ℕ → Type 0} {heads : List ℕ} → ((x z c : ℕ) → P x z c → Q x z c) → ((x z c : ℕ) → Q x z c → P x z c) → Kept P n table heads → Kept Q n table heads
  kept_same f g q = record { long = q.long; each = λ x z c h. q.each x z c (g x z c h); only = λ x z h. let o = q.only x z h in (o.0, f x z o.0 o.1, o.2) }

  -- one arc more
  kept_more : {P : ℕ → ℕ → ℕ → Type 0} {a b cost : ℕ} {before after : List ℕ} {r : Bool} → Kept P n table before → ArcKept n a b cost table before after r → r ≡ true →
      Kept (λ x z c. P x z c ⊎ ((x ≡ a) × (z ≡ b) × (c ≡ cost))) n table after
  kept_more {P} {a} {b} {cost} {before} {after} q k e = record { long = k.long ∙ q.long; each = each; only = λ x z h. only x z (k.only x z h) }
    where
      each : (x z c : ℕ) → P x z c ⊎ ((x ≡ a) × (z ≡ b) × (c ≡ cost)) → (area_cell n table x z ≤ c) × (c ≡ area_cell n table x z → has (get_or after x 0) z ≡ true)
      each x z c (inl p) = let o = q.each x z c p in (o.0, λ e. k.stays x z (o.1 e))
      each x z c (inr (ex, ez, ec)) = rw (ex, ez, ec) (k.enough e, k.put e)

      only : (x z : ℕ) → (has (get_or before x 0) z ≡ true) ⊎ ((x ≡ a) × (z ≡ b) × (cost ≡ area_cell n table a b)) →
          (c : ℕ) × (P x z c ⊎ ((x ≡ a) × (z ≡ b) × (c ≡ cost))) × (c ≡ area_cell n table x z)
      only x z (inl h) = let o = q.only x z h in (o.0, inl o.1, o.2)
      only x z (inr (ex, ez, s)) = (cost, inr (ex, ez, refl), rw (ex, ez) s)

-- ---- the links

zeros : (k x : ℕ) → get_or (replicate {A = ℕ} k 0) x 0 ≡ 0
zeros zero x = refl
zeros (suc k) zero = refl
zeros (suc k) (suc x) = zeros k x

module _ (from to out back : List ℕ) {n : ℕ} {table : List ℕ} where
  pub links_none : Kept (Over from to out back 0) n table (replicate 64 0)
  links_none = record {
    long = length-replicate {A = ℕ} 64 0;
    each = λ x z c h. absurd (omega (arith, h.1));
    only = λ x z h. absurd (false≢true (sym (ap (λ (s : ℕ). has s z) (zeros 64 x) ∙ has_none z) ∙ h));
  }

  -- one link more: both of its arcs
  pub links_more : {k a b c d : ℕ} {before middle after : List ℕ} {r s : Bool} → a ≡ get_or from k 0 → b ≡ get_or to k 0 → c ≡ get_or out k 0 → d ≡ get_or back k 0 →
      Kept (Over from to out back k) n table before → ArcKept n a b c table before middle r → r ≡ true → ArcKept n b a d table middle after s → s ≡ true → Kept (Over from to out back (k + 1)) n table after
  links_more {k} {a} {b} {c} {d} ea eb ec ed q there e-there returning e-returning = kept_same gives takes (kept_more (kept_more q there e-there) returning e-returning)
    where
      Both : ℕ → ℕ → ℕ → Type 0
      Both x z e = (Over from to out back k x z e ⊎ ((x ≡ a) × (z ≡ b) × (e ≡ c))) ⊎ ((x ≡ b) × (z ≡ a) × (e ≡ d))

      gives : (x z e : ℕ) → Both x z e → Over from to out back (k + 1) x z e
      gives x z e (inl (inl (j, h, w))) = (j, omega arith, w)
      gives x z e (inl (inr (ex, ez, ee))) = (k, omega arith, inl (ex ∙ ea, ez ∙ eb, ee ∙ ec))
      gives x z e (inr (ex, ez, ee)) = (k, omega arith, inr (ex ∙ eb, ez ∙ ea, ee ∙ ed))

      last : (x z e : ℕ) → Way from to out back k x z e → Both x z e
      last x z e (inl (ex, ez, ee)) = inl (inr (ex ∙ sym ea, ez ∙ sym eb, ee ∙ sym ec))
      last x z e (inr (ex, ez, ee)) = inr (ex ∙ sym eb, ez ∙ sym ea, ee ∙ sym ed)

      takes : (x z e : ℕ) → Over from to out back (k + 1) x z e → Both x z e
      takes x z e (j, h, w) = go (ℕ_discrete j k)
        where
          go : Dec (j ≡ k) → Both x z e
          go (yes s) = last x z e (subst (λ (i : ℕ). Way from to out back i x z e) s w)
          go (no s) = inl (inl (j, omega arith, w))

-- an arc of a link that costs less than its cell
pub links_under : (from to out back : List ℕ) (n : ℕ) (table : List ℕ) {links k x z c : ℕ} → k < links → Way from to out back k x z c → c < area_cell n table x z → Undercut (Over from to out back links) n table
links_under from to out back n table {links} {k} {x} {z} {c} h w u = (x, z, c, (k, h, w), u)

-- ---- the arcs of the links, as a list

module _ (from to out back : List ℕ) (links : ℕ) where
  held : ℕ → Link
  held k = link (get_or from k 0) (get_or to k 0) (get_or out k 0) (get_or back k 0)

  pub over_in : (x z c : ℕ) → Over from to out back links x z c → HopIn (arcs_in from to out back links) x z c
  unfolding arcs_in links_in held
  over_in x z c (j, h, w) = (0 + j, go w)
    where
      both : Memᴰ (arc (get_or from j 0) (get_or to j 0) (get_or out j 0) (0 + j)) (arcs_in from to out back links) × Memᴰ (arc (get_or to j 0) (get_or from j 0) (get_or back j 0) (0 + j)) (arcs_in from to out back links)
      both = arcs_have 0 (map held (below links)) j _ _ _ _ (omega (arith, length_map_below held links)) (map_below_at held (link 0 0 0 0) links j h)

      go : Way from to out back j x z c → Memᴰ (arc x z c (0 + j)) (arcs_in from to out back links)
      go (inl (ex, ez, ec)) = rw (ex, ez, ec) both.0
      go (inr (ex, ez, ec)) = rw (ex, ez, ec) both.1

  pub in_over : (x z c : ℕ) → HopIn (arcs_in from to out back links) x z c → Over from to out back links x z c
  unfolding arcs_in links_in held
  in_over x z c (l, m) =
      let r = arcs_give 0 (map held (below links)) m in
      let h : r.0 < links = omega (arith, r.2, length_map_below held links) in
      (r.0, h, subst (λ (k : Link). Direction k x z c) (map_below_at held (link 0 0 0 0) links r.0 h) r.4)
