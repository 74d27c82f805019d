-- The steps of encoding: data frames, code words, BIS cluster make the ECC cluster. Assumes nothing.
use mathlib.Core.Path.{◌≡◌, sym, ap, ap₂, ◌∙◌}
use mathlib.Core.Bool.{Bool, true}
use mathlib.Core.List.{List, ◌++◌}
use Prim.Native.Nat.{ℕ, ◌+◌, ◌*◌, ◌-◌, ◌/◌, ◌%◌, ◌<◌}
use native.Mathlib.Decide.{ℕ_discrete}
use native.Mathlib.Omega.{arith}
use borrow.Author.Tests.{eq-eqb, ne_eqb}
use lib.ListN.{length, get_or, take, drop, length-drop}
use lib.Seq.{length-take-le}
use Rattle.laws.proofs.Fill.{Upto, upto-part}
use Rattle.laws.proofs.Tabulate.{is-tabulate}
use Rattle.sector.specs.DataFrame.{Framed, framed, framed_of, data_frame}
use Rattle.scrambling.specs.Scrambling.{scrambled, scrambling_of}
use Rattle.sector.proofs.Frame.{frame-size}
use Rattle.scrambling.proofs.Stream.{length-scrambled}
use Rattle.ldc.specs.LdcBlock.{data_byte, code_word}
use Rattle.ldc.specs.LdcCluster.{ldc_byte}
use Rattle.bis.specs.BisBlock.{bis_block}
use Rattle.bis.specs.BisCluster.{bis_byte}
use Rattle.cluster.specs.Multiplex.{bis_index, row_byte, multiplexed}
use Rattle.cluster.specs.steps.Places.{word_index}
use Rattle.cluster.specs.EccCluster.{sector_of, scrambled_frames, ecc_cluster}
use Rattle.bis_cluster.specs.steps.Written.{BisPut}
use Rattle.ldc_words.specs.steps.Eighth.{LdcPut}
use Rattle.cluster.proofs.Multiplex.{index-of-bis}
use Rattle.cluster.proofs.Places.{origin_at, origin-word-lt, origin-byte-lt, origin-place, word-no-bis}

-- ---- data frames

-- the data frame that `data_frame` leaves, where the lengths are right
framed-frame : (user stream entry exit : List ℕ) (r : Bool) → length user ≡ 2048 → length entry ≡ 2052 → framed r exit ≡ framed_of user stream entry → exit ≡ scrambled stream (data_frame user)
unfolding framed_of
framed-frame user stream entry exit r h g e =
    let done : framed r exit ≡ framed true (scrambled stream (data_frame user)) = rw (eq-eqb (length user) 2048 h, eq-eqb (length entry) 2052 g) at e in
    ap (λ (f : Framed). f.frame) done

-- data frame f of eighth e, of m = 2,048 user bytes from a on, to its part of n = 2,052 bytes
pub frame-more : (user stream four part : List ℕ) (r : Bool) (e f a m n i : ℕ) → length user ≡ 65536 → e < 8 → f < 4 → a ≡ 8192 * e + 2048 * f → m ≡ 2048 → n ≡ 2052 → i ≡ 2052 * (f + 1)
    → framed r part ≡ framed_of (take m (drop a user)) stream (take n (drop (2052 * f) four))
    → Upto 0 (λ p. data_byte (scrambled_frames stream user) (8208 * e + p)) 8208 (2052 * f) four
    → Upto 0 (λ p. data_byte (scrambled_frames stream user) (8208 * e + p)) 8208 i (take (2052 * f) four ++ (part ++ drop n (drop (2052 * f) four)))
frame-more user stream four part r e f a m n i size he hf ha hm hn hi made u =
    rw hn (upto-part 2052 part (omega arith) (omega arith) (ap (length {A = ℕ}) is-frame ∙ length-frame) byte u)
  where
    start : 8192 * e + 2048 * f ≡ 2048 * (4 * e + f)
    start = omega arith

    sector : take m (drop a user) ≡ sector_of user (4 * e + f)
    sector = ap₂ (λ (x y : ℕ). take x (drop y user)) hm (ha ∙ start)

    length-sector : length (sector_of user (4 * e + f)) ≡ 2048
    length-sector = length-take-le 2048 (drop (2048 * (4 * e + f)) user) (omega (arith, length-drop (2048 * (4 * e + f)) user))

    room : length (take n (drop (2052 * f) four)) ≡ 2052
    room = ap (λ (x : ℕ). length (take x (drop (2052 * f) four))) hn ∙ length-take-le 2052 (drop (2052 * f) four) (omega (arith, length-drop (2052 * f) four, u.size))

    is-frame : part ≡ scrambled_frames stream user (4 * e + f)
    is-frame = framed-frame (take m (drop a user)) stream (take n (drop (2052 * f) four)) part r (ap (length {A = ℕ}) sector ∙ length-sector) room made ∙ ap (λ (l : List ℕ). scrambled stream (data_frame l)) sector

    length-frame : length (scrambled_frames stream user (4 * e + f)) ≡ 2052
    length-frame = length-scrambled stream (data_frame (sector_of user (4 * e + f))) ∙ frame-size (sector_of user (4 * e + f)) length-sector

    byte : (k : ℕ) → k < 2052 → get_or part k 0 ≡ data_byte (scrambled_frames stream user) (8208 * e + (2052 * f + k))
    byte k h =
        let number : 4 * e + f ≡ (8208 * e + (2052 * f + k)) / 2052 = omega arith in
        let place : k ≡ (8208 * e + (2052 * f + k)) % 2052 = omega arith in
        ap (λ (l : List ℕ). get_or l k 0) is-frame ∙ ap₂ (λ (F i : ℕ). get_or (scrambled_frames stream user F) i 0) number place

-- ---- the whole cluster

module _ (frames : ℕ → List ℕ) (block : List (List ℕ)) (completed after : List ℕ) (size : length completed ≡ 76880)
    (words : (L N : ℕ) → L < 304 → N < 248 → get_or completed (word_index L N) 0 ≡ get_or (code_word frames L) N 0) (put : BisPut completed block after) where
  in-bis : (k : ℕ) → k < 76880 → k % 155 % 39 ≡ 38 → get_or after k 0 ≡ bis_byte block (k / 155) (k % 155 / 39)
  in-bis k h e =
      let row = k / 155 in
      let column = k % 155 / 39 in
      let m : ℕ = 3 * row + column in
      let hc : column < 3 = omega arith in
      let r : m / 3 ≡ row = omega arith in
      let c : m % 3 ≡ column = omega arith in
      sym (ap (λ (i : ℕ). get_or after i 0) (ap₂ bis_index r c ∙ index-of-bis k e))
      ∙ put.put.done m (omega arith)
      ∙ ap₂ (bis_byte block) r c

  in-ldc : (k : ℕ) → k < 76880 → (k % 155 % 39 ≡ 38 → ⊥) → get_or after k 0 ≡ ldc_byte frames (k / 155) (k % 155 - k % 155 / 39)
  in-ldc k h e =
      let L = (origin_at k).word in
      let N = (origin_at k).byte in
      let hL = origin-word-lt k in
      let hN = origin-byte-lt k h in
      let place = origin-place k e in
      sym (ap (λ (i : ℕ). get_or after i 0) place)
      ∙ put.put.kept (word_index L N) (λ m hm q. word-no-bis L N (m / 3) (m % 3) hL hN (omega arith) (omega arith) q)
      ∙ words L N hL hN

  multiplexed-is : after ≡ multiplexed (ldc_byte frames) block
  unfolding multiplexed
  multiplexed-is =
      is-tabulate 0 76880 (λ k. row_byte (ldc_byte frames) block (k / 155) (k % 155)) after (put.put.size ∙ size)
      (λ k h.
      elim (ℕ_discrete (k % 155 % 39) 38) [
        | yes e ↦ rw (eq-eqb (k % 155 % 39) 38 e) (in-bis k h e)
        | no e ↦ rw (ne_eqb (k % 155 % 39) 38 e) (in-ldc k h e)
      ])

pub encoded : (user side stream before completed after : List ℕ) (block : List (List ℕ)) (psn : ℕ) → length before ≡ 76880 → stream ≡ scrambling_of psn
    → LdcPut (scrambled_frames stream user) 304 before completed → block ≡ bis_block psn side → BisPut completed block after → after ≡ ecc_cluster user psn side
unfolding ecc_cluster
encoded user side stream before completed after block psn size s d b put =
    multiplexed-is (scrambled_frames stream user) block completed after (d.size ∙ size) d.words put
    ∙ ap₂ (λ (st : List ℕ) (bl : List (List ℕ)). multiplexed (ldc_byte (scrambled_frames st user)) bl) s b
