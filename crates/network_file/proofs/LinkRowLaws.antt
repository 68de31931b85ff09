-- Row 6 over the columns of the links: two tests of all links, of their routers and of their costs, pass exactly where no link is
-- turned down.
-- Assumes nothing.
use Prim.Native.Nat.{ℕ, ◌+◌, ◌≤◌, min}
use mathlib.Core.Path.{◌≡◌, refl, sym, ◌∙◌}
use mathlib.Core.Bool.{Bool, true, false, not, ◌&&◌}
use mathlib.Core.Option.{none}
use native.Mathlib.Omega.{arith}
use native.Mathlib.Numerals.{add-one}
use lib.Dec.{eqb, ltb, leb}
use lib.ListN.{get_or}
use borrow.Author.Tests.{leb-true, le-leb}
use Rattle.lfa.specs.Lists.{every_below, first_failing}
use Rattle.lfa.specs.File.{sound_link}
use Rattle.lfa.proofs.Laws.Test.{and_left, and_right, and_make, same_test}
use Rattle.lfa.proofs.Laws.List.{every_gives}
use Rattle.lfa.proofs.Laws.FirstFailing.{all_passing, none_failing}
use Rattle.lfa.proofs.Laws.File.RowFacts.{link_facts}
use Rattle.metric.specs.declared.columns.Links.{Links}
use Rattle.network_file.specs.Entry.{FewLinks, EndsBelow, link_at, link_sound, ends_good, costs_good}

-- ---- the least cost

-- The lesser of two numbers is above 0 exactly where both are.
both_some_lem : (a b : ℕ) → leb 1 (min a b) ≡ (leb 1 a && leb 1 b)
both_some_lem a b =
    same_test _ _
    (λ t. let h : 1 ≤ min a b = leb-true 1 (min a b) t in and_make _ _ (le-leb 1 a (omega arith)) (le-leb 1 b (omega arith)))
    (λ t. le-leb 1 (min a b) (omega (arith, leb-true 1 a (and_left _ _ t), leb-true 1 b (and_right (leb 1 a) _ t))))

-- One turn of the loop: the least cost of the links before k becomes that of the links up to k.
pub least_more : (l : Links) (k least : ℕ) {here next : ℕ} → leb 1 least ≡ every_below (costs_good l) k →
    here ≡ min (get_or l.out k 0) (get_or l.back k 0) → next ≡ min least here → leb 1 next ≡ every_below (costs_good l) (k + 1)
unfolding every_below costs_good
least_more l k least inv here next =
    rw (next, here, both_some_lem least (min (get_or l.out k 0) (get_or l.back k 0)), both_some_lem (get_or l.out k 0) (get_or l.back k 0), inv, add-one k)

-- ---- row 6 at a link, and at all

parts : (a b c d e : Bool) → (a && b && c && d && e) ≡ ((a && b && c) && (d && e))
parts true true true d e = refl
parts true true false d e = refl
parts true false c d e = refl
parts false b c d e = refl

-- the two tests of one link, of its routers and of its costs, are row 6's
pub sound_split : (l : Links) (k : ℕ) → link_sound l k ≡ (ends_good l k && costs_good l k)
unfolding link_sound link_at ends_good costs_good sound_link
sound_split l k =
    parts (ltb (get_or l.from k 0) l.routers) (ltb (get_or l.to k 0) l.routers) (not (eqb (get_or l.from k 0) (get_or l.to k 0)))
    (leb 1 (get_or l.out k 0)) (leb 1 (get_or l.back k 0))

-- Where both pass at all links, row 6 passes each link, so that the first one that it turns down is none.
pub none_bad : (l : Links) → true ≡ every_below (ends_good l) l.links → true ≡ every_below (costs_good l) l.links → none ≡ first_failing (link_sound l) 0 l.links
none_bad l ends costs =
    sym (all_passing (link_sound l) 0 l.links (λ k _ h.
    sound_split l k ∙ rw (every_gives _ l.links (sym ends) k (omega arith), every_gives _ l.links (sym costs) k (omega arith))))

-- Where row 6 turns none down, the routers are below 64.
pub ends_below : (l : Links) → FewLinks l → none ≡ first_failing (link_sound l) 0 l.links → EndsBelow l
unfolding link_sound link_at
ends_below l few e k h =
    let f = link_facts _ _ _ _ _ (none_failing (link_sound l) 0 l.links (sym e) k (omega arith) (omega arith)) in
    (omega (arith, f.a_in, few.few_routers), omega (arith, f.b_in, few.few_routers))
