-- Point 7 holds: a lent table is turned away exactly where it is not the file's; with the table that the first call leaves, and with any that
-- holds the file's distances, the second call answers as the single call does.
-- Assumes nothing.
use Rattle.std.specs.Prelude.{ℕ, ◌*◌, ◌≤◌, ◌<◌, ◌≡◌, ◌⊎◌, ◌↔◌, true}
use Rattle.std.proofs.Math.Path.{refl, ap}
use Rattle.std.proofs.Common.{◌∙◌, subst, inl, inr, arith}
use Rattle.std.proofs.Math.Bool.{false≢true}
use Rattle.std.proofs.Math.Option.{Option, none, some}
use mathlib.Core.List.Memᴰ
use mathlib.Core.List.{List, [], ◌∷◌, Memᴰ}
use Rattle.std.proofs.Math.ListN.{length}
use Rattle.lfa.specs.Lists.{any_of, member_of}
use Rattle.lfa.specs.File.{Bytes, byte_at, network_of}
use Rattle.lfa.specs.Distance.{HoldsDistances}
use Rattle.lfa.specs.Question.{Question, filling, work_area, a_table, inputs_of, input_number, has_input, HasInput, network_asked}
use Rattle.lfa.specs.Refusal.{EarlyRow, EarlyApplies, tries_early, early_refusal, Posed, Row, early, short_area, wrong_table, short_buffer, bad_ranks, no_such_link, no_such_prefix, entry_of, early_rows, tries, Decided, Decides, Accepted}
use Rattle.lfa.specs.Answer.{refused, answer_to, exit_of}
use Rattle.lfa.specs.Demands.{N, Point7}
use Rattle.lfa.proofs.Laws.FileRows.{same_number, accepted_passes_rows}
use Rattle.lfa.proofs.Laws.PosedWhen.{NoEarlyRow, passes_posed}
use Rattle.lfa.proofs.Laws.Turned.{early_turned_away, early_given, early_posed}
use Rattle.lfa.proofs.Laws.Answers.{refusal_stated}
use Rattle.lfa.proofs.Laws.Asked.{posed_work}
use Rattle.lfa.proofs.Laws.Work.{work_cell, work_length}
use Rattle.lfa.proofs.Laws.Point2.{writes_nothing}
use Rattle.lfa.proofs.Laws.TwoTogether.{refused_alike, two_together}

-- ---- the first call

-- it leaves as many cells as it was lent, and in them the distances, where the file is accepted and the cells are enough
module _ (b : Bytes) (bytes : (i : ℕ) → byte_at b i < 256) (area : List ℕ) where
  abbrev first : Question
  first = filling b (length area)

  abbrev pub Left : List ℕ
  Left = exit_of first work_area area

  fill_posed : Accepted b → (network_of b).routers * (network_of b).routers ≤ length area → Posed first
  unfolding filling network_asked network_of tries entry_of has_input inputs_of input_number member_of any_of
  fill_posed a enough = passes_posed first a by
    where
      by : NoEarlyRow first
      by short_area v t h = omega (arith, enough, h.0)
      by wrong_table v t h = false≢true t
      by short_buffer v t h = false≢true t
      by bad_ranks v t h = false≢true t
      by no_such_link v t h = false≢true t
      by no_such_prefix v t h = false≢true t

  pub left_holds : Accepted b → (network_of b).routers * (network_of b).routers ≤ length area → HoldsDistances (network_of b) Left
  unfolding filling network_asked
  left_holds a enough = let full = posed_work first (fill_posed a enough) area in record {
    enough = rw (full, work_length (network_of b) area enough) enough;
    each = λ x t hx ht. rw (full) (work_cell (network_of b) area x t hx ht);
  }

  pub left_length : length Left ≡ length area
  unfolding filling network_asked has_input inputs_of input_number member_of any_of
  left_length = go (early_refusal first) refl
    where
      go : (o : Option (Decided Row)) → early_refusal first ≡ o → length Left ≡ length area
      go (some d) e = ap length ((early_turned_away first d e).area_left area)
      go none e = let p = early_posed first bytes e in ap length (posed_work first p area) ∙ work_length (network_of b) area (p.cells refl)

-- ---- the Point

module _ (q : Question) (bytes : (i : ℕ) → byte_at q.file i < 256) where
  -- row 18 is the answer exactly where the table is not the file's: the rows before it do not apply
  refused_18 : HasInput q a_table → Accepted q.file → N q * N q ≤ q.cells → (answer_to q ≡ refused 18 0) ↔ (HoldsDistances (network_asked q) q.table → ⊥)
  unfolding network_asked network_of entry_of tries early_rows
  refused_18 h a enough = (told, given)
    where
      told : answer_to q ≡ refused 18 0 → HoldsDistances (network_asked q) q.table → ⊥
      told e = let s = refusal_stated q 18 0 e in (subst (λ (r : Row). Decides q r 0) (same_number s.0 (early wrong_table) s.1) s.2).applies.0

      before : (s : EarlyRow) (w : ℕ) → Memᴰ s (short_area ∷ []) → tries_early q.call s ≡ true → EarlyApplies q s w → ⊥
      before s w m t e = by (Memᴰ.cases_cons m)
        where
          by : (s ≡ short_area) ⊎ Memᴰ s [] → ⊥
          by (inl is) = omega (arith, enough, (subst (λ (s : EarlyRow). EarlyApplies q s w) is e).0)
          by (inr m) = Memᴰ.not-nil m

      given : (HoldsDistances (network_asked q) q.table → ⊥) → answer_to q ≡ refused 18 0
      given wrong = early_given q (short_area ∷ []) _ wrong_table 0 refl (accepted_passes_rows q.file a) before h (wrong, refl)

  pub point_7 : Point7 q
  unfolding network_asked
  point_7 = record {
    refused_18 = λ h a enough long.
        let by = refused_18 h a enough in
        (λ e each. by.0 e (record { enough = omega (arith, long, enough); each = each }), λ wrong. by.1 (λ right. wrong right.each));
    writes_nothing = writes_nothing q wrong_table (λ v h. h.1);
    two_together = λ single area long.
        let same = left_length q.file bytes area in
        two_together q (Left q.file bytes area) (same ∙ long) single (refused_alike q (Left q.file bytes area) (same ∙ long) single bytes (λ a enough. left_holds q.file bytes area a (omega (arith, same, enough))));
    any_right_table = λ single table long right. two_together q table long single (refused_alike q table long single bytes (λ a enough. record { enough = enough; each = right a }));
  }
