-- Laws of data frames: their parts, their sums, the test of the code in both directions, and that a scrambled one gives its user bytes back. Assumes nothing.
use mathlib.Core.Path.{◌≡◌, sym, ap, subst, ◌∙◌}
use mathlib.Core.Bool.{true}
use mathlib.Core.List.{List, ◌++◌}
use Prim.Native.Nat.{ℕ, ◌+◌, ◌<◌}
use native.Mathlib.Omega.{arith}
use borrow.Author.Tests.{eq-eqb, eqb-true}
use lib.ListN.{length, get_or, take, drop, length-append, length-drop, take-append-drop, get_or-append}
use lib.Seq.{take_at, drop_at}
use Rattle.laws.specs.Bytes.{Bytes}
use Rattle.laws.specs.Combined.{combined}
use Rattle.laws.proofs.Bytes.{bytes-append, bytes_drop}
use Rattle.laws.proofs.Combined.{combined-append}
use Rattle.bits.specs.Bits.{bits_of, number}
use Rattle.bits.proofs.Bits.{length-bits}
use Rattle.edc.specs.Edc.{MultipleOfG, edc_of, edc_bytes}
use Rattle.scrambling.specs.Scrambling.{scrambling_of, scrambled}
use Rattle.sector.specs.DataFrame.{data_frame, sector_frame, edc_right}
use Rattle.bits.proofs.Concat.{bytes-equal}
use Rattle.edc.proofs.Detection.{length-edc, bytes-edc, number-edc, edc-completes, edc-only, code-completes, complete-is-code}
use Rattle.edc.proofs.Linear.{edc-bytes-combined}
use Rattle.scrambling.proofs.Stream.{length-scrambled, bytes-scrambled, bytes-scrambling, scrambled-both, scrambled-twice, scrambled-inj}

-- ---- the parts of a data frame

pub length-frame : (user : List ℕ) → length (data_frame user) ≡ length user + 4
unfolding data_frame
length-frame user = length-append user (edc_bytes user) ∙ ap (λ (n : ℕ). length user + n) (length-edc user)

pub bytes-frame : (user : List ℕ) → Bytes user → Bytes (data_frame user)
unfolding data_frame
bytes-frame user b = bytes-append user (edc_bytes user) b (bytes-edc user)

pub get_d-user : (user : List ℕ) (k : ℕ) → k < length user → get_or (data_frame user) k 0 ≡ get_or user k 0
unfolding data_frame
get_d-user user k h = get_or-append user (edc_bytes user) 0 k h

module _ (user : List ℕ) (size : length user ≡ 2048) where
  pub take-frame : take 2048 (data_frame user) ≡ user
  unfolding data_frame
  take-frame = take_at user (edc_bytes user) 2048 size

  drop-frame : drop 2048 (data_frame user) ≡ edc_bytes user
  unfolding data_frame
  drop-frame = drop_at user (edc_bytes user) 2048 size

  pub frame-size : length (data_frame user) ≡ 2052
  frame-size = omega (arith, length-frame user)

  -- the 16,416 bits of a data frame are a multiple of G(x)
  pub frame-bits : length (bits_of (data_frame user)) ≡ 16416
  frame-bits = omega (arith, length-bits (data_frame user), frame-size)

  pub frame-multiple : MultipleOfG (number (bits_of (data_frame user)))
  unfolding data_frame
  frame-multiple = edc-completes user

  -- and no other four bytes make them one
  pub frame-only : (e : List ℕ) → length e ≡ 4 → Bytes e → MultipleOfG (number (bits_of (user ++ e))) → user ++ e ≡ data_frame user
  unfolding data_frame
  frame-only e four bytes m = ap (λ (l : List ℕ). user ++ l) (edc-only user e four bytes m)

  pub frame_right : edc_right (data_frame user) ≡ true
  unfolding edc_right
  frame_right = rw (eq-eqb (length (data_frame user)) 2052 frame-size, drop-frame, take-frame) (eq-eqb (number (bits_of (edc_bytes user))) (edc_of user) (number-edc user))

-- combined sectors have the combined data frames
pub frame-combined : (u v : List ℕ) → length u ≡ length v → data_frame (combined u v) ≡ combined (data_frame u) (data_frame v)
unfolding data_frame
frame-combined u v same = ap (◌++◌ (combined u v)) (edc-bytes-combined u v same) ∙ sym (combined-append u v (edc_bytes u) (edc_bytes v) same)

-- equal data frames hold equal user bytes
pub frame-inj : (u v : List ℕ) → length u ≡ 2048 → length v ≡ 2048 → data_frame u ≡ data_frame v → u ≡ v
frame-inj u v hu hv e = sym (take-frame u hu) ∙ ap (take 2048) e ∙ take-frame v hv

-- ---- the test of the code

module _ (frame : List ℕ) (size : length frame ≡ 2052) where
  right-code : edc_right frame ≡ true → number (bits_of (drop 2048 frame)) ≡ edc_of (take 2048 frame)
  unfolding edc_right
  right-code e =
      eqb-true (number (bits_of (drop 2048 frame))) (edc_of (take 2048 frame)) (rw (eq-eqb (length frame) 2052 size) at e)

  code-right : number (bits_of (drop 2048 frame)) ≡ edc_of (take 2048 frame) → edc_right frame ≡ true
  unfolding edc_right
  code-right e = rw (eq-eqb (length frame) 2052 size) (eq-eqb (number (bits_of (drop 2048 frame))) (edc_of (take 2048 frame)) e)

  code-size : length (drop 2048 frame) ≡ 4
  code-size = omega (arith, length-drop 2048 frame)

  -- it passes where the bits are a multiple of G(x), and only there
  pub right-multiple : edc_right frame ≡ true → MultipleOfG (number (bits_of frame))
  right-multiple e = subst (λ (l : List ℕ). MultipleOfG (number (bits_of l))) (take-append-drop 2048 frame) (code-completes (take 2048 frame) (drop 2048 frame) code-size (right-code e))

  pub multiple-right : MultipleOfG (number (bits_of frame)) → edc_right frame ≡ true
  multiple-right m =
      code-right (complete-is-code (take 2048 frame) (drop 2048 frame) code-size (subst (λ (l : List ℕ). MultipleOfG (number (bits_of l))) (sym (take-append-drop 2048 frame)) m))

  -- what passes is the data frame of its first 2,048 bytes
  pub right-frame : Bytes frame → edc_right frame ≡ true → frame ≡ data_frame (take 2048 frame)
  unfolding data_frame
  right-frame bytes e =
      let user : List ℕ = take 2048 frame in
      let code : drop 2048 frame ≡ edc_bytes user = bytes-equal (drop 2048 frame) (edc_bytes user) (bytes_drop 2048 frame bytes) (bytes-edc user) (code-size ∙ sym (length-edc user)) (right-code e ∙ sym (number-edc user)) in
      sym (take-append-drop 2048 frame) ∙ ap (λ (l : List ℕ). user ++ l) code

-- ---- scrambled data frames

-- of two sectors under one PSN: scrambling drops out
pub sector-combined : (psn : ℕ) (u v : List ℕ) → length u ≡ length v → combined (sector_frame psn u) (sector_frame psn v) ≡ data_frame (combined u v)
sector-combined psn u v same =
    scrambled-both (scrambling_of psn) (data_frame u) (data_frame v) (omega (arith, length-frame u, length-frame v)) ∙ sym (frame-combined u v same)

module _ (psn : ℕ) (user : List ℕ) where
  pub length-sector : length user ≡ 2048 → length (sector_frame psn user) ≡ 2052
  length-sector size = length-scrambled (scrambling_of psn) (data_frame user) ∙ frame-size user size

  pub bytes-sector : Bytes user → Bytes (sector_frame psn user)
  bytes-sector b = bytes-scrambled (scrambling_of psn) (data_frame user) (bytes-scrambling psn) (bytes-frame user b)

  -- scrambling undone gives the data frame
  pub sector-back : scrambled (scrambling_of psn) (sector_frame psn user) ≡ data_frame user
  sector-back = scrambled-twice (scrambling_of psn) (data_frame user)

-- equal scrambled data frames of one PSN come from equal user bytes
pub sector-inj : (psn : ℕ) (u v : List ℕ) → length u ≡ 2048 → length v ≡ 2048 → sector_frame psn u ≡ sector_frame psn v → u ≡ v
sector-inj psn u v hu hv e = frame-inj u v hu hv (scrambled-inj (scrambling_of psn) (data_frame u) (data_frame v) e)

-- what the reader accepts is the scrambled data frame of the user bytes that it gives
pub sector-accepted : (psn : ℕ) (f : List ℕ) → length f ≡ 2052 → Bytes f → edc_right (scrambled (scrambling_of psn) f) ≡ true
    → f ≡ sector_frame psn (take 2048 (scrambled (scrambling_of psn) f))
sector-accepted psn f size bytes e =
    let stream : List ℕ = scrambling_of psn in
    sym (scrambled-twice stream f)
    ∙ ap (scrambled stream) (right-frame (scrambled stream f) (length-scrambled stream f ∙ size) (bytes-scrambled stream f (bytes-scrambling psn) bytes) e)
