-- A run of frames determines # of its first sync and the data bits of each frame: # stands first in each sync, and says how the frame
-- before it ended. Assumes nothing.
use mathlib.Core.Bool.{Bool, true, false}
use mathlib.Core.List.{List, [], ◌∷◌}
use mathlib.Core.Path.{◌≡◌, refl, sym, ap, ◌∙◌}
use Prim.Native.Nat.{ℕ, suc, ◌*◌, ◌/◌, ◌<◌, ◌≤◌}
use native.Mathlib.Omega.{arith}
use lib.Dec.{eqb}
use lib.ListN.{take, drop}
use lib.Seq.{drop_at}
use Rattle.modulation.specs.Modulation.{Three, three_number, last_bit}
use Rattle.modulation.specs.Bits.{bits}
use Rattle.modulation.specs.Sync.{FS, sync, sync_id}
use Rattle.modulation.specs.Stream.{Recording, modulated, hash, stream, Full}
use Rattle.modulation.proofs.Bits.{bits-injective}
use Rattle.modulation.proofs.Demodulator.{injective}
use Rattle.modulation.proofs.Streams.{length-sync, frame_at, sync-at}

-- the first bit is a one
lead : List Three → Bool
lead [] = false
lead (m ∷ ms) = eqb (three_number m / 4) 1

lead-sync : (h : Bool) (n : FS) → lead (sync h n) ≡ h
unfolding lead
lead-sync true n = refl
lead-sync false n = refl

module _ (c d : Recording) (n : ℕ) (full-c : Full c n) (full-d : Full d n) (e : stream c n ≡ stream d n) where
  same-hash : (k : ℕ) → k ≤ n → hash c k ≡ hash d k
  same-hash k h =
      sym (lead-sync (hash c k) (c.number k))
      ∙ ap lead (sym (sync-at c n k full-c h) ∙ ap (λ (l : List Three). take 10 (drop (644 * k) l)) e ∙ sync-at d n k full-d h)
      ∙ lead-sync (hash d k) (d.number k)

  same-groups : (k : ℕ) → k < n → (modulated (c.number k) (c.frames k)).groups ≡ (modulated (d.number k) (d.frames k)).groups
  same-groups k h =
      sym (drop_at (sync (hash c k) (c.number k)) (modulated (c.number k) (c.frames k)).groups 10 (length-sync (hash c k) (c.number k)))
      ∙ ap (drop 10) (sym (frame_at c n k (sync (hash c n) (c.number n)) full-c h)
      ∙ ap (λ (l : List Three). take 644 (drop (644 * k) l)) e
      ∙ frame_at d n k (sync (hash d n) (d.number n)) full-d h)
      ∙ drop_at (sync (hash d k) (d.number k)) (modulated (d.number k) (d.frames k)).groups 10 (length-sync (hash d k) (d.number k))

  same-frame : (k : ℕ) → k < n → c.number k ≡ d.number k → c.frames k ≡ d.frames k
  same-frame k h number =
      injective (last_bit false (sync_id (c.number k))) (c.frames k) (d.frames k)
      ((λ i. record { groups = same-groups k h i; terminated = same-hash (suc k) h i }) ∙ ap (λ (m : FS). modulated m (d.frames k)) (sym number))

-- runs of n full frames with the same sync numbers
pub unique : (c d : Recording) (n : ℕ) → ((k : ℕ) → k < n → c.number k ≡ d.number k) → Full c n → Full d n → bits (stream c n) ≡ bits (stream d n)
    → (c.first ≡ d.first) × ((k : ℕ) → k < n → c.frames k ≡ d.frames k)
unique c d n number full-c full-d e =
    let e' = bits-injective (stream c n) (stream d n) e in
    (same-hash c d n full-c full-d e' 0 (omega arith), λ k h. same-frame c d n full-c full-d e' k h (number k h))
