-- The sums, from the cleared ones on, arc by arc.
-- Assumes nothing.
use Prim.Native.Nat.{ℕ, ◌+◌, ◌*◌, ◌≤◌, ◌<◌, min}
use mathlib.Core.Path.{◌≡◌, refl, sym, ap, ◌∙◌}
use mathlib.Core.Logic.{◌⊎◌, inl, inr}
use mathlib.Core.List.Memᴰ
use mathlib.Core.List.{List, [], ◌∷◌, ◌++◌, append_assoc, Memᴰ}
use native.Mathlib.Omega.{arith}
use native.Mathlib.Decide.{ℕ_discrete, dec_lt}
use lib.ListN.{length, get_or, set, replicate, length-set, length-replicate, get_or-replicate}
use lib.Seq.{get_or-set_same, get_or-set_other}
use Rattle.lfa.specs.Lists as lists
use Rattle.lfa.specs.Network.{Arc, arc, arcs_from}
use Rattle.metric.specs.Columns.{links_in, arcs_in}
use Rattle.metric.proofs.Laws.Columns.{arcs_in_more}
use Rattle.table.specs.Sums.{Form, cell_of, Limited, Cleared, RowLowered, Summed, LeastSums}
use Rattle.table.proofs.CellLaws.{cell_few, one_place}

-- ---- the diagonal

pub cleared_none : (f : Form) → f.width ≤ 64 → Cleared f 0 (replicate 4096 f.limit)
cleared_none f few = record {
  long = length-replicate {A = ℕ} 4096 f.limit;
  diagonal = λ x h. absurd (omega arith);
  rest = λ x t hx ht _. get_or-replicate 4096 (x * f.width + t) f.limit 0 (cell_few few hx ht);
}

pub cleared_more : {f : Form} {m : ℕ} {sums : List ℕ} → f.width ≤ 64 → m < f.width → Cleared f m sums → Cleared f (m + 1) (set sums (m * f.width + m) 0)
cleared_more {f} {m} {sums} few h q = record {
  long = length-set sums (m * f.width + m) 0 ∙ q.long;
  diagonal = λ x k hx. diagonal x k hx (ℕ_discrete x m);
  rest = λ x t hx ht k. get_or-set_other sums (m * f.width + m) (x * f.width + t) 0 0 (λ e. apart x t ht k e) ∙ q.rest x t hx ht (λ e. omega (arith, k e));
}
  where
    apart : (x t : ℕ) → t < f.width → (x ≡ t → m + 1 ≤ x) → x * f.width + t ≡ m * f.width + m → ⊥
    apart x t ht k e = let p = one_place ht h e in omega (arith, k (p.0 ∙ sym p.1), p.0)

    diagonal : (x : ℕ) → x < m + 1 → x < f.width → Dec (x ≡ m) → cell_of f (set sums (m * f.width + m) 0) x x ≡ 0
    diagonal x k hx (yes e) = rw e (get_or-set_same sums (m * f.width + m) 0 0 (omega (arith, q.long, cell_few few h h)))
    diagonal x k hx (no e) = get_or-set_other sums (m * f.width + m) (x * f.width + x) 0 0 (λ s. e (one_place hx h s).0) ∙ q.diagonal x (omega arith) hx

-- ---- one row

module _ {f : Form} {a b cost : ℕ} {cells before : List ℕ} where
  -- one cell more
  pub row_more : {m v : ℕ} {after : List ℕ} → f.width ≤ 64 → length before ≡ 4096 → a < f.width → m < f.width → RowLowered f a b cost m cells before after →
      v ≡ min (cell_of f after a m) (min cost f.top + cell_of f cells b m) → RowLowered f a b cost (m + 1) cells before (set after (a * f.width + m) v)
  row_more {m} {v} {after} few long ha h q e = record {
    long = length-set after (a * f.width + m) v ∙ q.long;
    low = λ t k. low t k (ℕ_discrete t m);
    rest = λ x t ht k. get_or-set_other after (a * f.width + m) (x * f.width + t) v 0 (λ s. apart x t ht k s) ∙ q.rest x t ht (λ s. omega (arith, k s));
  }
    where
      apart : (x t : ℕ) → t < f.width → (x ≡ a → m + 1 ≤ t) → x * f.width + t ≡ a * f.width + m → ⊥
      apart x t ht k s = let p = one_place ht h s in omega (arith, k p.0, p.1)

      low : (t : ℕ) → t < m + 1 → Dec (t ≡ m) → cell_of f (set after (a * f.width + m) v) a t ≡ min (cell_of f before a t) (min cost f.top + cell_of f cells b t)
      low t k (yes s) = rw s (get_or-set_same after (a * f.width + m) v 0 (omega (arith, q.long, cell_few few ha h)) ∙ omega (arith, e, q.rest a m h (λ _. omega arith)))
      low t k (no s) = get_or-set_other after (a * f.width + m) (a * f.width + t) v 0 (λ p. omega arith) ∙ q.low t (omega arith)

-- ---- one arc

-- The least sums over one arc more: only the row of the router that the arc leaves falls. A sum that falls is made up by the arc, and any
-- other is shown as before.
module _ {f : Form} {hops : List Arc} {cells first before after : List ℕ} (a b c l : ℕ) (few : c ≤ 65535) (q : LeastSums f hops cells first before) (row : RowLowered f a b c f.width cells before after) where
  -- no other row falls
  other : (x t : ℕ) → t < f.width → (x ≡ a → ⊥) → cell_of f after x t ≡ cell_of f before x t
  other x t h ne = row.rest x t h (λ e. absurd (ne e))

  lower : (x t : ℕ) → t < f.width → cell_of f after x t ≤ cell_of f before x t
  lower x t h = go (ℕ_discrete x a)
    where
      go : Dec (x ≡ a) → cell_of f after x t ≤ cell_of f before x t
      go (yes e) = rw e (omega (arith, row.low t h))
      go (no e) = omega (arith, other x t h e)

  pub sums_more : LeastSums f (hops ++ (arc a b c l ∷ [])) cells first after
  sums_more = record {
    long = row.long ∙ q.long;
    capped = λ m. capped (Memᴰ.append_cases hops m);
    falls = λ x t h. omega (arith, lower x t h, q.falls x t h);
    bound = λ t h m. bound t h (Memᴰ.append_cases hops m);
    shown = λ x t h. shown x t h (ℕ_discrete x a) (q.shown x t h);
  }
    where
      capped : {x z d k : ℕ} → Memᴰ (arc x z d k) hops ⊎ Memᴰ (arc x z d k) (arc a b c l ∷ []) → d ≤ 65535
      capped (inl m) = q.capped m
      capped {x} {z} {d} {k} (inr m) = let e : arc x z d k ≡ arc a b c l = Memᴰ.eq_of_singleton m in let same : d ≡ c = cc in omega arith

      bound : {x z d k : ℕ} (t : ℕ) → t < f.width → Memᴰ (arc x z d k) hops ⊎ Memᴰ (arc x z d k) (arc a b c l ∷ []) → cell_of f after x t ≤ min d f.top + cell_of f cells z t
      bound {x} t h (inl m) = omega (arith, lower x t h, q.bound t h m)
      bound {x} {z} {d} {k} t h (inr m) =
          let e : arc x z d k ≡ arc a b c l = Memᴰ.eq_of_singleton m in
          let ex : x ≡ a = cc in
          let ez : z ≡ b = cc in
          let ed : d ≡ c = cc in
          rw (ex, ez, ed) (omega (arith, row.low t h))

      kept : (x t : ℕ) → cell_of f after x t ≡ cell_of f before x t → (cell_of f before x t ≡ cell_of f first x t) ⊎ Summed f hops cells before x t →
          (cell_of f after x t ≡ cell_of f first x t) ⊎ Summed f (hops ++ (arc a b c l ∷ [])) cells after x t
      kept x t e (inl s) = inl (e ∙ s)
      kept x t e (inr (z, d, k, m, s)) = inr (z, d, k, Memᴰ.append_left (arc a b c l ∷ []) m, s ∙ sym e)

      shown : (x t : ℕ) → t < f.width → Dec (x ≡ a) → (cell_of f before x t ≡ cell_of f first x t) ⊎ Summed f hops cells before x t →
          (cell_of f after x t ≡ cell_of f first x t) ⊎ Summed f (hops ++ (arc a b c l ∷ [])) cells after x t
      shown x t ht (no ne) s = kept x t (other x t ht ne) s
      shown x t ht (yes e) s = go (dec_lt (min c f.top + cell_of f cells b t) (cell_of f before a t))
        where
          go : Dec (min c f.top + cell_of f cells b t < cell_of f before a t) → (cell_of f after x t ≡ cell_of f first x t) ⊎ Summed f (hops ++ (arc a b c l ∷ [])) cells after x t
          go (no k) = kept x t (rw e (omega (arith, row.low t ht))) s
          go (yes k) = inr (b, c, l, Memᴰ.append_right hops (Memᴰ.head (ap (λ (u : ℕ). arc u b c l) e)), rw e (omega (arith, row.low t ht)))

pub sums_limited : {f : Form} {hops : List Arc} {cells first sums : List ℕ} → Limited f first → LeastSums f hops cells first sums → Limited f sums
sums_limited w q = record { few = w.few; long = q.long ∙ w.long; small = λ x t hx ht. omega (arith, q.falls x t ht, w.small x t hx ht) }

-- ---- one link

module _ (from to out back : List ℕ) where
  pub links_none : {f : Form} (cells sums : List ℕ) → LeastSums f (arcs_in from to out back 0) cells sums sums
  unfolding arcs_in links_in arcs_from lists.count_up lists.below
  links_none cells sums = record {
    long = refl;
    capped = λ m. absurd (Memᴰ.not-nil m);
    falls = λ x t h. omega arith;
    bound = λ t h m. absurd (Memᴰ.not-nil m);
    shown = λ x t h. inl refl;
  }

  pub links_more : (k : ℕ) {f : Form} {a b c d : ℕ} {cells first before middle after : List ℕ} → a ≡ get_or from k 0 → b ≡ get_or to k 0 → c ≡ get_or out k 0 → d ≡ get_or back k 0 →
      LeastSums f (arcs_in from to out back k) cells first before → (c ≤ 65535) × RowLowered f a b c f.width cells before middle → (d ≤ 65535) × RowLowered f b a d f.width cells middle after →
      LeastSums f (arcs_in from to out back (k + 1)) cells first after
  links_more k {f} {a} {b} {c} {d} ea eb ec ed q there returning =
      rw (arcs_in_more from to out back k, ← ea, ← eb, ← ec, ← ed)
      (rw append_assoc at (sums_more b a d k returning.0 (sums_more a b c k there.0 q there.1) returning.1))

-- ---- all links

-- what shows sum (x, t) for n routers: it is on their diagonal, or the limit, or made up by an arc
abbrev pub Shown : Form → List Arc → (n : ℕ) → (cells sums : List ℕ) → ℕ → ℕ → Type 0
Shown f hops n cells sums x t = ((x ≡ t) × (x < n)) ⊎ ((cell_of f sums x t ≡ f.limit) ⊎ Summed f hops cells sums x t)

-- The sums were cleared at first, so that each is 0 on the diagonal, at most the limit, and the limit where no arc makes it up.
module _ {f : Form} {n : ℕ} {first : List ℕ} (clear : Cleared f n first) where
  cases : (x t : ℕ) → x < f.width → t < f.width → ((x ≡ t) × (x < n)) ⊎ (cell_of f first x t ≡ f.limit)
  cases x t hx ht = go (ℕ_discrete x t) (dec_lt x n)
    where
      go : Dec (x ≡ t) → Dec (x < n) → ((x ≡ t) × (x < n)) ⊎ (cell_of f first x t ≡ f.limit)
      go (yes e) (yes h) = inl (e, h)
      go (yes e) (no h) = inr (clear.rest x t hx ht (λ _. omega arith))
      go (no e) _ = inr (clear.rest x t hx ht (λ s. absurd (e s)))

  pub first_most : (x t : ℕ) → x < f.width → t < f.width → cell_of f first x t ≤ f.limit
  first_most x t hx ht = go (cases x t hx ht)
    where
      go : ((x ≡ t) × (x < n)) ⊎ (cell_of f first x t ≡ f.limit) → cell_of f first x t ≤ f.limit
      go (inl (e, h)) = rw (← e) (omega (arith, clear.diagonal x h hx))
      go (inr e) = omega arith

  module _ {hops : List Arc} {cells sums : List ℕ} (q : LeastSums f hops cells first sums) where
    pub sum_diagonal : (x : ℕ) → x < n → x < f.width → cell_of f sums x x ≡ 0
    sum_diagonal x h hx = omega (arith, q.falls x x hx, clear.diagonal x h hx)

    pub sum_most : (x t : ℕ) → x < f.width → t < f.width → cell_of f sums x t ≤ f.limit
    sum_most x t hx ht = omega (arith, q.falls x t ht, first_most x t hx ht)

    pub sum_shown : (x t : ℕ) → x < f.width → t < f.width → Shown f hops n cells sums x t
    sum_shown x t hx ht = go (q.shown x t ht) (cases x t hx ht)
      where
        go : (cell_of f sums x t ≡ cell_of f first x t) ⊎ Summed f hops cells sums x t → ((x ≡ t) × (x < n)) ⊎ (cell_of f first x t ≡ f.limit) → Shown f hops n cells sums x t
        go (inl e) (inl s) = inl s
        go (inl e) (inr s) = inr (inl (e ∙ s))
        go (inr s) _ = inr (inr s)
