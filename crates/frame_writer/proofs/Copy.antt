-- Bits copied one by one, and a frame copied out of a slice of its own. Assumes nothing.
use mathlib.Core.Bool.{Bool}
use mathlib.Core.List.{List, [], ◌∷◌, ◌++◌}
use mathlib.Core.Path.{◌≡◌, sym, ap, ap₂, subst, ◌∙◌}
use Prim.Native.Nat.{ℕ, ◌+◌, ◌%◌, ◌<◌, ◌≤◌}
use native.Mathlib.Nat.{mod-eq_of_lt}
use native.Mathlib.Numerals.{add-one}
use native.Mathlib.Omega.{arith}
use lib.ListN.{length, get_or, set, take, drop, drop_of_length-le}
use lib.Seq.{sets, drop-cons, get_or-take, length-take-le, take_at, sets-eq}
use Rattle.bits.specs.Bits.{bits_of}
use Rattle.bits.proofs.Bits.{length-bits, bits-bits}
use Rattle.modulation.specs.Sync.{FS}
use Rattle.frame_sync.proofs.Writing.{Left, left-none, left-more, left-all, left-length, same-slice}
use Rattle.frame.specs.Frame.{frame}
use Rattle.frame_writer.specs.steps.Written.{FrameWritten}
use Rattle.frame.proofs.Frame.{length-frame}

-- k of the first 1,932 bits of the bytes are copied
pub record Copied (bytes first : List ℕ) (at : ℕ) (now : List ℕ) (k : ℕ) : Type 0 where
  pub within : k ≤ 1932
  pub left : Left (bits_of first) at (take 1932 (bits_of bytes)) (bits_of now) (at + k) (drop k (take 1932 (bits_of bytes)))

module _ {bytes first : List ℕ} {at : ℕ} where
  pub copied_none : Copied bytes first at first 0
  copied_none = record { within = omega arith; left = left-none (omega arith) }

  module _ {now : List ℕ} {k : ℕ} (c : Copied bytes first at now k) where
    pub copied_more : {b : ℕ} {after : List ℕ} → length bytes ≡ 242 → k < 1932 → b ≡ get_or (bits_of bytes) k 0 → bits_of after ≡ set (bits_of now) (at + k) (b % 2)
        → Copied bytes first at after (k + 1)
    copied_more {b} {after} size h e w =
        let f = take 1932 (bits_of bytes) in
        let long : length f ≡ 1932 = length-take-le 1932 (bits_of bytes) (omega (arith, length-bits bytes)) in
        let bit : get_or f k 0 ≡ b % 2 = get_or-take 1932 (bits_of bytes) k 0 h ∙ sym e ∙ sym (mod-eq_of_lt (rw e (bits-bits bytes k))) in
        let front : drop k f ≡ (b % 2 ∷ []) ++ drop (k + 1) f = drop-cons f k 0 (omega arith) ∙ ap₂ (λ (x n : ℕ). x ∷ drop n f) bit (sym (add-one k)) in
        record {
          within = omega arith;
          left = left-more (b % 2 ∷ []) w (omega arith) (subst (Left (bits_of first) at f (bits_of now) (at + k)) front c.left);
        }

    pub copied_all : length bytes ≡ 242 → 1932 ≤ k → bits_of now ≡ sets (bits_of first) at (take 1932 (bits_of bytes))
    copied_all size h =
        let f = take 1932 (bits_of bytes) in
        let long : length f ≡ 1932 = length-take-le 1932 (bits_of bytes) (omega (arith, length-bits bytes)) in
        left-all (subst (Left (bits_of first) at f (bits_of now) (at + k)) (drop_of_length-le f {i = k} (omega arith)) c.left)

    pub copied-length : length now ≡ length first
    copied-length = same-slice now first (left-length c.left)

-- a frame written into a slice of its own and copied
pub frame-copied : {n : FS} {hash r : Bool} {row : List ℕ} {dc at : ℕ} {blank own before after : List ℕ} → length blank ≡ 242 → FrameWritten n hash row dc blank 0 own r
    → bits_of after ≡ sets (bits_of before) at (take 1932 (bits_of own)) → FrameWritten n hash row dc before at after r
frame-copied {n} {hash} {r} {row} {dc} {at} {blank} {own} {before} {after} size w c =
    let f = frame hash n row dc in
    let whole : take 1932 (bits_of own) ≡ f =
    ap (take 1932) (w.bits_are ∙ sets-eq f (bits_of blank) 0 (omega (arith, length-bits blank, length-frame hash n row dc)))
    ∙ take_at (take 0 (bits_of blank) ++ f) (drop (0 + length f) (bits_of blank)) 1932 (length-frame hash n row dc) in
    record { bits_are = c ∙ ap (sets (bits_of before) at) whole; next-is = w.next-is }
