-- Each row of the table is computed as its words say, and the row that is found is the one that decides.
-- Assumes nothing.
use Rattle.std.specs.Prelude.{ℕ, ◌-◌, ◌*◌, ◌%◌, ◌≤◌, ◌<◌, ◌≡◌, refl, ◌⊎◌, ◌↔◌, Bool, true, false, not, ◌&&◌, List, eqb, ltb, leb, length}
use Rattle.std.proofs.Common.{inl, inr, arith, ltb-false, le-ltb, leb-false, eqb-true, eq-eqb, ne_eqb}
use Rattle.std.proofs.Math.Option.{Option, none, some}
use Rattle.std.proofs.lemmas.Bool.{lt-leb, eqb-false}
use Rattle.lfa.specs.Lists.{unless, first_failing, FirstFails}
use Rattle.lfa.specs.File.{Bytes, routers_of, links_of, prefixes_of, blocks_in, blocks_needed, length_good, check_good, head_good, block_count_good, block_good, link_good, link_new, prefix_good, routers_new}
use Rattle.lfa.specs.Distance.{holds_distances}
use Rattle.lfa.specs.Ranks.{is_arrangement}
use Rattle.lfa.specs.Repair.{Outcome, prefix_unreachable, prefix_untouched, none_serves, serving}
use Rattle.lfa.specs.Question.{Question, Call, same_numbers, network_asked, searched, if_none}
use Rattle.lfa.specs.Refusal.{FileRow, bad_length, bad_check, bad_head, bad_block_count, bad_block, bad_link, parallel_link, bad_prefix, router_twice, FileApplies, file_returned, EarlyRow, short_area, wrong_table, short_buffer, bad_ranks, no_such_link, no_such_prefix, EarlyApplies, Row, of_file, early, no_pair, Applies, returned, rows_tried, Decides, decided, refusal_of, sized_returned}
use Rattle.lfa.proofs.Laws.Test.{and_fails, fails_left, fails_right, not_fails}
use Rattle.lfa.proofs.Laws.Ranks.{no_arrangement}
use Rattle.lfa.proofs.Laws.Holds.{holds_not}
use Rattle.lfa.proofs.Laws.FirstFailing.{first_failing_lem, failing_first}
use Rattle.lfa.proofs.Laws.Rows.{FirstFound, first_found, found_first}

-- ---- tests

unless_some : (good : Bool) (w v : ℕ) → unless good w ≡ some v → (good ≡ false) × (v ≡ w)
unfolding unless
unless_some true w v e = ((cc), (cc))
unless_some false w v e = (refl, cc)

unless_bad : (good : Bool) (w v : ℕ) → good ≡ false → v ≡ w → unless good w ≡ some v
unfolding unless
unless_bad good w v e p = rw (e, p, unless)

-- a row that tests once
tested : {P : Type 0} (good : Bool) (w v : ℕ) → (good ≡ false → P) → (P → good ≡ false) → (unless good w ≡ some v) ↔ (P × (v ≡ w))
tested good w v to from = (λ e. let r = unless_some good w v e in (to r.0, r.1), λ p. unless_bad good w v (from p.0) p.1)

-- a row that tests each of some
tested_each : (good : ℕ → Bool) (i n v : ℕ) → (first_failing good i n ≡ some v) ↔ FirstFails good i n v
tested_each good i n v = (first_failing_lem good i n v, failing_first good i n v)

none_found : (o : Option Outcome) (v : ℕ) → (if_none o 0 ≡ some v) ↔ ((o ≡ some none_serves) × (v ≡ 0))
unfolding if_none
none_found none v = (λ e. ((cc), (cc)), λ p. let e = p.0 in cc)
none_found (some prefix_unreachable) v = (λ e. ((cc), (cc)), λ p. let e = p.0 in cc)
none_found (some prefix_untouched) v = (λ e. ((cc), (cc)), λ p. let e = p.0 in cc)
none_found (some none_serves) v = (λ e. (refl, cc), λ p. let e = p.1 in cc)
none_found (some (serving t)) v = (λ e. ((cc), (cc)), λ p. let e = p.0 in cc)

length_fails : (n : ℕ) → ((not (eqb n 0) && eqb (n % 512) 0) && leb n 6656) ≡ false → (n ≡ 0) ⊎ ((n % 512 ≡ 0 → ⊥) ⊎ (6656 < n))
length_fails n e = go (and_fails (not (eqb n 0) && eqb (n % 512) 0) (leb n 6656) e)
  where
    first : (not (eqb n 0) ≡ false) ⊎ (eqb (n % 512) 0 ≡ false) → (n ≡ 0) ⊎ ((n % 512 ≡ 0 → ⊥) ⊎ (6656 < n))
    first (inl e) = inl (eqb-true n 0 (not_fails (eqb n 0) e))
    first (inr e) = inr (inl (eqb-false (n % 512) 0 e))

    go : ((not (eqb n 0) && eqb (n % 512) 0) ≡ false) ⊎ (leb n 6656 ≡ false) → (n ≡ 0) ⊎ ((n % 512 ≡ 0 → ⊥) ⊎ (6656 < n))
    go (inl e) = first (and_fails (not (eqb n 0)) (eqb (n % 512) 0) e)
    go (inr e) = inr (inr (leb-false n 6656 e))

fails_length : (n : ℕ) → (n ≡ 0) ⊎ ((n % 512 ≡ 0 → ⊥) ⊎ (6656 < n)) → ((not (eqb n 0) && eqb (n % 512) 0) && leb n 6656) ≡ false
fails_length n (inl e) = fails_left (not (eqb n 0) && eqb (n % 512) 0) (leb n 6656) (fails_left (not (eqb n 0)) (eqb (n % 512) 0) (rw (eq-eqb n 0 e)))
fails_length n (inr (inl h)) = fails_left (not (eqb n 0) && eqb (n % 512) 0) (leb n 6656) (fails_right (not (eqb n 0)) (eqb (n % 512) 0) (ne_eqb (n % 512) 0 h))
fails_length n (inr (inr h)) = fails_right (not (eqb n 0) && eqb (n % 512) 0) (leb n 6656) (lt-leb n 6656 h)

pub link_fails : (l e links : ℕ) → (ltb l links && leb e 1) ≡ false → (links ≤ l) ⊎ (1 < e)
link_fails l e links h = go (and_fails (ltb l links) (leb e 1) h)
  where
    go : (ltb l links ≡ false) ⊎ (leb e 1 ≡ false) → (links ≤ l) ⊎ (1 < e)
    go (inl t) = inl (ltb-false l links t)
    go (inr t) = inr (leb-false e 1 t)

fails_link : (l e links : ℕ) → (links ≤ l) ⊎ (1 < e) → (ltb l links && leb e 1) ≡ false
fails_link l e links (inl h) = fails_left (ltb l links) (leb e 1) (le-ltb l links h)
fails_link l e links (inr h) = fails_right (ltb l links) (leb e 1) (lt-leb e 1 h)

-- ---- the rows

-- What is returned is the table's: each row applies in just its cause, with the value that the table states.
pub file_row_applies : (b : Bytes) (r : FileRow) (v : ℕ) → (file_returned b r ≡ some v) ↔ FileApplies b r v
unfolding file_returned length_good block_count_good
file_row_applies b bad_length v = tested (length_good b) 0 v (length_fails (length b)) (fails_length (length b))
file_row_applies b bad_check v = tested_each (check_good b) 0 (blocks_in b) v
file_row_applies b bad_head v = tested (head_good b) 0 v (λ e. e) (λ e. e)
file_row_applies b bad_block_count v = tested (eqb (blocks_in b) (blocks_needed (links_of b) (prefixes_of b))) _ v (λ e. eqb-false _ _ e) (λ h. ne_eqb _ _ h)
file_row_applies b bad_block v = tested_each (block_good b) 1 (blocks_in b - 1) v
file_row_applies b bad_link v = tested_each (link_good b) 0 (links_of b) v
file_row_applies b parallel_link v = tested_each (link_new b) 0 (links_of b) v
file_row_applies b bad_prefix v = tested_each (prefix_good b) 0 (prefixes_of b) v
file_row_applies b router_twice v = tested_each (routers_new b) 0 (prefixes_of b) v

pub early_row_applies : (q : Question) (r : EarlyRow) (v : ℕ) → (sized_returned (routers_of q.file) (links_of q.file) (prefixes_of q.file) (holds_distances (network_asked q) q.table) q r ≡ some v) ↔ EarlyApplies q r v
unfolding sized_returned
early_row_applies q short_area v = tested (leb (routers_of q.file * routers_of q.file) q.cells) _ v (λ e. leb-false _ _ e) (λ h. lt-leb _ _ h)
early_row_applies q wrong_table v = tested (holds_distances (network_asked q) q.table) 0 v (holds_not (network_asked q) q.table).0 (holds_not (network_asked q) q.table).1
early_row_applies q short_buffer v = tested (leb (2 * routers_of q.file) q.buffer) _ v (λ e. leb-false _ _ e) (λ h. lt-leb _ _ h)
early_row_applies q bad_ranks v = tested (is_arrangement q.ranks) 0 v (no_arrangement q.ranks).0 (no_arrangement q.ranks).1
early_row_applies q no_such_link v = tested (ltb q.link (links_of q.file) && leb q.end 1) _ v (link_fails q.link q.end (links_of q.file)) (fails_link q.link q.end (links_of q.file))
early_row_applies q no_such_prefix v = tested (ltb q.prefix (prefixes_of q.file)) _ v (λ e. ltb-false _ _ e) (λ h. le-ltb _ _ h)

-- these look at the numbers alone
pub early_numbers : (n l p : ℕ) (right : Bool) (q : Question) (c : Call) (b : Bytes) (choices : List ℕ) (m : ℕ) (r : EarlyRow) → sized_returned n l p right (same_numbers q c b choices m) r ≡ sized_returned n l p right q r
unfolding sized_returned
early_numbers n l p right q c b choices m short_area = refl
early_numbers n l p right q c b choices m wrong_table = refl
early_numbers n l p right q c b choices m short_buffer = refl
early_numbers n l p right q c b choices m bad_ranks = refl
early_numbers n l p right q c b choices m no_such_link = refl
early_numbers n l p right q c b choices m no_such_prefix = refl

pub row_applies : (q : Question) (r : Row) (v : ℕ) → (returned q r ≡ some v) ↔ Applies q r v
unfolding returned
row_applies q (of_file r) v = file_row_applies q.file r v
row_applies q (early r) v = early_row_applies q r v
row_applies q no_pair v = none_found (searched q q.call) v

-- ---- the row that decides

module _ (q : Question) where
  -- a row that does not apply returns nothing
  pub returns_none : (r : Row) → ((v : ℕ) → Applies q r v → ⊥) → returned q r ≡ none
  returns_none r h = go (returned q r) refl
    where
      go : (o : Option ℕ) → returned q r ≡ o → returned q r ≡ none
      go none p = p
      go (some v) p = absurd (h v ((row_applies q r v).0 p))

  pub never_applies : (r : Row) (v : ℕ) → returned q r ≡ none → Applies q r v → ⊥
  never_applies r v e a = let s = (row_applies q r v).1 a in let z : ◌≡◌ {A = ℕ} 0 1 = cc in omega arith

  -- The row that decides is found, and the row that is found decides.
  pub decides_found : (r : Row) (v : ℕ) → Decides q r v → refusal_of q ≡ some (decided r v)
  unfolding refusal_of
  decides_found r v f =
      rw f.tried (found_first (returned q) f.before f.after r v (λ s m. returns_none s (λ w. f.passed s w m)) ((row_applies q r v).1 f.applies))

  pub found_decides : (r : Row) (v : ℕ) → refusal_of q ≡ some (decided r v) → Decides q r v
  unfolding refusal_of
  found_decides r v e = by (first_found (returned q) (rows_tried q.call) r v e)
    where
      by : FirstFound (returned q) (rows_tried q.call) r v → Decides q r v
      by f = record {
        before = f.before;
        after = f.after;
        tried = f.tried;
        passed = λ s w m. never_applies s w (f.passed s m);
        applies = (row_applies q r v).0 f.applies;
      }
