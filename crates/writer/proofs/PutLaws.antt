-- Laws of bytes put into a buffer at a place: stores one after the other are one put, and a put where a padded list ends makes it longer.
-- Assumes nothing.
use Prim.Native.Nat.{ℕ, zero, suc, ◌+◌, ◌-◌, ◌≤◌, ◌<◌}
use mathlib.Core.Path.{◌≡◌, refl, sym, ap, ◌∙◌}
use mathlib.Core.List.{[], ◌∷◌, ◌++◌, append_assoc}
use native.Mathlib.Omega.{arith}
use native.Mathlib.Numerals.{add-one}
use lib.ListN.{length, take, drop, set, replicate, length-append, length-take, length-drop}
use lib.Seq.{set_split, take_at, drop-append-add, drop-drop}
use Rattle.lfa.specs.File.{Bytes}
use Rattle.lfa.specs.FileOf.{pad}
use Rattle.writer.specs.Put.{put_at}

-- ---- stores

pub put_length : (at : ℕ) (v b : Bytes) → at + length v ≤ length b → length (put_at at v b) ≡ length b
unfolding put_at
put_length at v b h = simp (length-append, length-take, length-drop) (omega arith)

-- one store
pub put_one : (at x : ℕ) (b : Bytes) → at < length b → set b at x ≡ put_at at (x ∷ []) b
unfolding put_at
put_one at x b h = let e : at + 1 ≡ suc at = add-one at in set_split b at x h ∙ rw e

-- Bytes put where others end are one put with them.
pub put_after : (at next : ℕ) (v w b : Bytes) → at + length v ≡ next → next + length w ≤ length b →
    put_at next w (put_at at v b) ≡ put_at at (v ++ w) b
unfolding put_at
put_after at next v w b e h =
    let front : Bytes = take at b ++ v in
    let rest : Bytes = drop (at + length v) b in
    let long : length front ≡ next = simp (length-append, length-take) (omega arith) in
    let whole : take at b ++ (v ++ rest) ≡ front ++ rest = sym (append_assoc (take at b) v rest) in
    let same : at + length v + length w ≡ at + length (v ++ w) = omega (arith, length-append v w) in
    let after : drop (next + length w) (front ++ rest) ≡ drop (at + length (v ++ w)) b =
    ap (λ (k : ℕ). drop (k + length w) (front ++ rest)) (sym long) ∙ drop-append-add front rest (length w)
    ∙ drop-drop (length w) (at + length v) b
    ∙ ap (λ (k : ℕ). drop k b) same in
    rw (whole, take_at front rest next long, after) (
    append_assoc (take at b) v (w ++ drop (at + length (v ++ w)) b)
    ∙ ap (λ (r : Bytes). take at b ++ r) (sym (append_assoc v w (drop (at + length (v ++ w)) b))))

-- two stores, and bytes put after them
pub put_two : (at x y : ℕ) (b : Bytes) → at + 2 ≤ length b → set (set b at x) (at + 1) y ≡ put_at at (x ∷ y ∷ []) b
put_two at x y b h =
    let long : length (put_at at (x ∷ []) b) ≡ length b = put_length at (x ∷ []) b (omega arith) in
    rw (put_one at x b (omega arith), put_one (at + 1) y (put_at at (x ∷ []) b) (omega arith))
    (put_after at (at + 1) (x ∷ []) (y ∷ []) b refl (omega arith))

pub put_two_more : (at x y : ℕ) (w b : Bytes) → at + 2 + length w ≤ length b →
    put_at (at + 2) w (set (set b at x) (at + 1) y) ≡ put_at at (x ∷ y ∷ w) b
put_two_more at x y w b h = rw (put_two at x y b (omega arith)) (put_after at (at + 2) (x ∷ y ∷ []) w b refl h)

-- ---- padding

drop_zeros : (k n : ℕ) → drop {A = ℕ} k (replicate n 0) ≡ replicate (n - k) 0
drop_zeros zero n = let e : n - 0 ≡ n = omega arith in rw e
drop_zeros (suc k) zero = let e : 0 - suc k ≡ 0 = omega arith in rw e
drop_zeros (suc k) (suc n) = let e : suc n - suc k ≡ n - k = omega arith in rw e (drop_zeros k n)

-- Bytes put into a padded list where the padding starts make the list longer.
pub put_padded : (n at : ℕ) (b w : Bytes) → length b ≡ at → at + length w ≤ n → put_at at w (pad n b) ≡ pad n (b ++ w)
unfolding put_at pad
put_padded n at b w e h =
    let zeros : Bytes = replicate (n - length b) 0 in
    let left : n - length b - length w ≡ n - length (b ++ w) = omega (arith, length-append b w) in
    let after : drop (at + length w) (b ++ zeros) ≡ replicate (n - length (b ++ w)) 0 =
    ap (λ (k : ℕ). drop (k + length w) (b ++ zeros)) (sym e) ∙ drop-append-add b zeros (length w) ∙ drop_zeros (length w) (n - length b)
    ∙ ap {B = Bytes} (λ m. replicate m 0) left in
    rw (take_at b zeros at e, after) (sym (append_assoc b w (replicate (n - length (b ++ w)) 0)))
