-- Values written one after the other: those still to be written, over what stands there, give the whole. A frame sync is written so,
-- group by group. Assumes nothing.
use mathlib.Core.Bool.{Bool}
use mathlib.Core.List.{List, [], ◌++◌}
use mathlib.Core.Path.{◌≡◌, sym, ap, ap₂, subst, ◌∙◌}
use Prim.Native.Nat.{ℕ, suc, ◌+◌, ◌*◌, ◌<◌, ◌≤◌}
use native.Mathlib.Omega.{arith}
use native.Mathlib.Numerals.{add-one}
use lib.ListN.{length, drop, drop_of_length-le}
use lib.Seq.{sets, length-sets, drop-cons}
use Rattle.bits.specs.Bits.{bits_of, number, three_of}
use Rattle.bits.proofs.Bits.{length-bits}
use Rattle.modulation.specs.Modulation.{Three, m000}
use Rattle.modulation.specs.Bits.{bits}
use Rattle.modulation.specs.Sync.{FS, sync}
use Rattle.modulation.proofs.Streams.{length-sync}
use Rattle.frame_sync.specs.Sync.{group_of}
use Rattle.frame_sync.specs.steps.Written.{SyncWritten}
use Rattle.frame_sync.proofs.SyncTables.{sync_group, group_at}
use Rattle.laws.proofs.Fill.{sets-append}

-- of `all`, to be written over `first` from `at` on, vs are still to be written over l, from p on
pub record Left (first : List ℕ) (at : ℕ) (all l : List ℕ) (p : ℕ) (vs : List ℕ) : Type 0 where
  pub written : sets l p vs ≡ sets first at all

module _ {first : List ℕ} {at : ℕ} {all : List ℕ} where
  pub left-none : {p : ℕ} → p ≡ at → Left first at all first p all
  left-none e = record { written = ap (λ (k : ℕ). sets first k all) e }

  pub left-more : {l after : List ℕ} {p q : ℕ} (a : List ℕ) {vs : List ℕ} → after ≡ sets l p a → q ≡ p + length a → Left first at all l p (a ++ vs)
      → Left first at all after q vs
  left-more {l} {after} {p} {q} a {vs} e eq r =
      record { written = ap₂ (λ (k : List ℕ) (j : ℕ). sets k j vs) e eq ∙ sym (sets-append a vs l p) ∙ r.written }

  pub left-all : {l : List ℕ} {p : ℕ} → Left first at all l p [] → l ≡ sets first at all
  left-all r = r.written

  pub left-length : {l : List ℕ} {p : ℕ} {vs : List ℕ} → Left first at all l p vs → length l ≡ length first
  left-length {l} {p} {vs} r = sym (length-sets l p vs) ∙ ap length r.written ∙ length-sets first at all

-- a slice whose bits keep their number keeps its length
pub same-slice : (out first : List ℕ) → length (bits_of out) ≡ length (bits_of first) → length out ≡ length first
same-slice out first e = omega (arith, length-bits out, length-bits first)

-- ---- a frame sync

-- j of its groups are written; its bits make `word`
pub record SyncUpto (n : FS) (hash : Bool) (before : List ℕ) (at word : ℕ) (out : List ℕ) (j : ℕ) : Type 0 where
  pub word-is : word ≡ number (bits (sync hash n))
  pub left : Left (bits_of before) at (bits (sync hash n)) (bits_of out) (at + 3 * j) (bits (drop j (sync hash n)))

module _ {n : FS} {hash : Bool} {before : List ℕ} {at word : ℕ} where
  pub sync-none : word ≡ number (bits (sync hash n)) → SyncUpto n hash before at word before 0
  sync-none e = record { word-is = e; left = left-none (omega arith) }

  module _ {out : List ℕ} {j : ℕ} (u : SyncUpto n hash before at word out j) where
    pub sync-more : {after : List ℕ} {v : ℕ} → j < 10 → v ≡ group_of word j → bits_of after ≡ sets (bits_of out) (at + 3 * j) (three_of v)
        → SyncUpto n hash before at word after (j + 1)
    unfolding sync_group
    sync-more {after} {v} h is w =
        let ms = sync hash n in
        let next : j < length ms = omega (arith, length-sync hash n) in
        let e : v ≡ sync_group n hash j = group_at hash n j word v h u.word-is is in
        let front : bits (drop j ms) ≡ three_of v ++ bits (drop (j + 1) ms) =
        rw (add-one, drop-cons ms j m000 next) (ap (λ (x : ℕ). three_of x ++ bits (drop (suc j) ms)) (sym e)) in
        record { word-is = u.word-is; left = left-more (three_of v) w (omega arith) (subst (Left (bits_of before) at (bits ms) (bits_of out) (at + 3 * j)) front u.left) }

    pub sync-all : 10 ≤ j → SyncWritten n hash before at out
    sync-all h =
        let end : drop j (sync hash n) ≡ [] = drop_of_length-le (sync hash n) {i = j} (omega (arith, length-sync hash n)) in
        record { bits_are = left-all (subst (λ (l : List Three). Left (bits_of before) at (bits (sync hash n)) (bits_of out) (at + 3 * j) (bits l)) end u.left) }

    pub sync-length : length out ≡ length before
    sync-length = same-slice out before (left-length u.left)
