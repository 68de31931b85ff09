-- Point 13: what the calls leave that make a network file in a lent buffer.
-- Assumes nothing.
use Rattle.std.specs.Prelude.{ℕ, ◌≤◌, ◌<◌, ◌≡◌, refl, ◌⊎◌, Bool, true, ◌&&◌, leb, length}
use Rattle.std.proofs.Common.{sym, subst, ◌∙◌, inl, inr, arith, leb-true, le-leb}
use Rattle.lfa.specs.Network.{Network}
use Rattle.lfa.specs.File.{Bytes}
use Rattle.lfa.specs.FileOf.{file_of}
use Rattle.lfa.specs.Refusal.{Accepted}
use Rattle.lfa.specs.Answer.{network_loaded}
use Rattle.lfa.specs.Writing.{Written, file_fits}
use Rattle.lfa.specs.Drill.{IsDrill, drill_of, drill_fits}
use Rattle.lfa.specs.Demands.{FileMade, Point13}
use Rattle.lfa.proofs.Laws.Test.{and_left, and_right, and_make, fails_make}
use Rattle.lfa.proofs.Laws.Accepted.{written_accepted, written_loaded}
use Rattle.lfa.proofs.Laws.Writing.{written_whole, written_nothing, written_fits, written_file, written_rest, has_limits, limits_have}
use Rattle.lfa.proofs.Laws.Drill.{size_gives, size_make, drill_is, is_drill, drill_limits, drill_long}

-- A call that writes a file of so many bytes just where a test passes and the buffer is long enough, and whose file the reader accepts there
module _ {Has : Type 0} {size : ℕ} {Holds : Network → Type 0} {test : Bool} {file : Bytes}
    (make : Has → test ≡ true) (give : test ≡ true → Has) (long : Has → length file ≡ size)
    (holds : Has → Accepted file × Holds (network_loaded file)) where
  file_made : {count : ℕ} {before after : Bytes} → Written (test && leb (length file) (length before)) file count before after →
      FileMade Has size Holds count before after
  file_made {count} {before} {after} w = record {
    whole = λ h l. (written_whole w (and_make _ _ (make h) (le-leb (length file) (length before) (omega (arith, long h))))).0 ∙ long h;
    none = λ n. written_nothing w (fails_make _ (λ t. refuse (give (and_left test _ t)) (leb-true _ _ (and_right test _ t)) n));
    later_untouched = written_rest w;
    read = λ h.
        let e = written_file w h in
        let r = holds (give (and_left test _ (written_fits w h))) in
        (subst Accepted (sym e) r.0, subst (λ b. Holds (network_loaded b)) (sym e) r.1);
  }
    where
      refuse : Has → length file ≤ length before → (Has → ⊥) ⊎ (length before < size) → ⊥
      refuse h l (inl n) = n h
      refuse h l (inr s) = omega (arith, long h)

-- a drill's file, read back, is the drill
drill_read : (seed n : ℕ) → (3 ≤ n) × (n ≤ 64) → Accepted (file_of (drill_of seed n)) × IsDrill seed n (network_loaded (file_of (drill_of seed n)))
drill_read seed n h =
    let w = drill_limits seed n h.0 h.1 in
    (written_accepted (drill_of seed n) w, subst (IsDrill seed n) (sym (written_loaded (drill_of seed n) w)) (drill_is seed n h.0 h.1))

pub point_13 : Point13
unfolding drill_fits file_fits
point_13 = record {
  drill_made = λ seed n count before after w. file_made (size_make n) (size_gives n) (λ h. drill_long seed n h.0 h.1) (drill_read seed n) w;
  one_drill = λ seed n net other d e. is_drill seed n net d ∙ sym (is_drill seed n other e);
  network_made = λ net count before after w. file_made (limits_have net) (has_limits net) (λ h. refl) (λ h. (written_accepted net h, written_loaded net h)) w;
}
