-- A frame's words, from its row and dc word, and sixteen bits of them at a place. Assumes nothing.
use mathlib.Core.List.{List, ◌++◌}
use mathlib.Core.Path.{◌≡◌, refl, sym, ap, ap₂, subst, ◌∙◌}
use Prim.Native.Nat.{ℕ, ◌+◌, ◌*◌, ◌-◌, ◌/◌, ◌%◌, ◌^◌, ◌<◌, ◌≤◌}
use native.Mathlib.Nat.{mod-lt, zero-lt-suc}
use native.Mathlib.Decide.{dec_lt, ℕ_discrete}
use native.Mathlib.Omega.{arith}
use lib.ListN.{length, get_or, set, take, drop, length-set}
use lib.Pow.{pow_pos, shr-shr}
use lib.Seq.{get_or-set_same, get_or-set_other}
use Rattle.laws.specs.Bytes.{Bytes}
use Rattle.laws.proofs.Tabulate.{is-tabulate}
use Rattle.bits.specs.Bits.{bits_of}
use Rattle.bits.proofs.Bits.{bit_in}
use Rattle.modulation.specs.steps.Words as words
use Rattle.frame_bits.specs.FrameBits.{frame_bit, frame_bits}
use Rattle.frame_bits.specs.steps.Words.{Word, GroupData, SixteenFrom, SixteenOn, bit_of, LastTwo}
use Rattle.modulation.specs.Bits.{pairs}
use Rattle.modulation.specs.steps.Pairs.{byte_pairs}
use Rattle.frame_bits.proofs.FrameBits.{data-bit, dc-bit}
use Rattle.frame_bits.proofs.Pairs.{eight-pairs, last-pairs}
use Rattle.frame_bits.proofs.Unweaving.{word-bit, length-words-bits}
use Rattle.frame_bits.proofs.Window.{low_bit, joined, window-lt, in-first, in-second}

-- ---- bytes of a row

-- bit p of a row
abbrev row_bits : List ℕ → ℕ → ℕ
row_bits row p = get_or (bits_of row) p 0

module _ (row : List ℕ) (bytes : Bytes row) where
  byte : (p k : ℕ) {x : ℕ} → p ≡ 8 * k → k < length row → x ≡ get_or row k 0 → Word 8 (row_bits row) p x
  byte p k {x} e h is =
      record {
        small = subst (λ (y : ℕ). y < 256) (sym is) (bytes k);
        bit = λ j hj. ap (λ (y : ℕ). y / 2 ^ (7 - j) % 2) is ∙ sym (bit_in row (p + j) k j (omega arith) h hj);
      }

  pub four-bytes : (i : ℕ) {x y z t : ℕ} → i + 3 < length row → x ≡ get_or row i 0 → y ≡ get_or row (i + 1) 0 → z ≡ get_or row (i + 2) 0 → t ≡ get_or row (i + 3) 0
      → Word 32 (row_bits row) (8 * i) (x * 16777216 + y * 65536 + z * 256 + t)
  four-bytes i {x} {y} {z} {t} h ex ey ez et =
      subst (Word 32 (row_bits row) (8 * i)) (sym (horner x y z t))
      (joined 24 8 (8 * i)
      (joined 16 8 (8 * i)
      (joined 8 8 (8 * i) (byte (8 * i) i refl (omega arith) ex) (byte (8 * i + 8) (i + 1) (omega arith) (omega arith) ey))
      (byte (8 * i + 16) (i + 2) (omega arith) (omega arith) ez))
      (byte (8 * i + 24) (i + 3) (omega arith) h et))
    where
      horner : (x y z t : ℕ) → x * 16777216 + y * 65536 + z * 256 + t ≡ ((x * 2 ^ 8 + y) * 2 ^ 8 + z) * 2 ^ 8 + t
      horner x y z t = omega arith

pub eight-bytes : {f : ℕ → ℕ} {a b : ℕ} (i : ℕ) → Word 32 f (8 * i) a → Word 32 f (8 * (i + 4)) b → Word 64 f (8 * i) (a * 4294967296 + b)
eight-bytes {f} {a} {b} i u v = let place : 8 * (i + 4) ≡ 8 * i + 32 = omega arith in joined 32 32 (8 * i) u (subst (λ (p : ℕ). Word 32 f p b) place v)

-- ---- the data bits of a group

pub first-group : {row : List ℕ} {v : ℕ} (i : ℕ) → i ≡ 0 → Word 32 (row_bits row) 0 v → GroupData row i (v / 128)
first-group {row} {v} i e u =
    record {
      small = omega (arith, u.small);
      bit = λ t ht some.
          let all : 7 + (44 - t) ≡ 31 - (t - 20) = omega arith in
          let place : 0 + (t - 20) ≡ 45 * i + t - 20 = omega arith in
          ap (λ (x : ℕ). x % 2) (shr-shr v 7 (44 - t) ∙ ap (λ (k : ℕ). v / 2 ^ k) all) ∙ u.bit (t - 20) (omega arith) ∙ ap (row_bits row) place;
    }

pub later-group : {row : List ℕ} {v : ℕ} (i e s : ℕ) → 0 < i → 8 * e ≡ 45 * i + 25 + s → s < 8 → Word 64 (row_bits row) (8 * (e - 8)) v
    → GroupData row i (v / 2 ^ s % 2 ^ 45)
later-group {row} {v} i e s hi there hs u =
    record {
      small = mod-lt (v / 2 ^ s) (pow_pos 45);
      bit = λ t ht some.
          let all : s + (44 - t) ≡ 63 - (19 - s + t) = omega arith in
          let place : 8 * (e - 8) + (19 - s + t) ≡ 45 * i + t - 20 = omega arith in
          low_bit 45 (v / 2 ^ s) (44 - t) (omega arith)
          ∙ ap (λ (x : ℕ). x % 2) (shr-shr v s (44 - t) ∙ ap (λ (k : ℕ). v / 2 ^ k) all)
          ∙ u.bit (19 - s + t) (omega arith)
          ∙ ap (row_bits row) place;
    }

-- ---- the words

-- v is word i
pub record WordIs (row : List ℕ) (dc i v : ℕ) : Type 0 where
  pub small : v < 70368744177664
  pub bit : (t : ℕ) → t < 46 → 20 ≤ 46 * i + t → v / 2 ^ (45 - t) % 2 ≡ frame_bit row dc (46 * i + t - 20)

word-is : {row : List ℕ} {dc i w d : ℕ} → GroupData row i w → d ≡ dc / 2 ^ (27 - i) % 2 → WordIs row dc i (w * 2 + d)
word-is {row} {dc} {i} {w} {d} g e =
    let bit-lt : d < 2 = subst (λ (x : ℕ). x < 2) (sym e) (mod-lt (dc / 2 ^ (27 - i)) (zero-lt-suc 1)) in
    record {
      small = omega (arith, g.small);
      bit = λ t ht some.
          let j : ℕ = 46 * i + t - 20 in
          let group : (j + 20) / 46 ≡ i = omega arith in
          elim (ℕ_discrete t 45) [
            | yes last ↦
                let none : 45 - t ≡ 0 = omega arith in
                let position : (j + 20) % 46 ≡ 45 = omega arith in
                ap (λ (k : ℕ). (w * 2 + d) / 2 ^ k % 2) none
                ∙ odd w d bit-lt
                ∙ e
                ∙ sym (dc-bit row dc j position ∙ ap (λ (k : ℕ). dc / 2 ^ (27 - k) % 2) group)
            | no early ↦
                let up : 45 - t ≡ 1 + (44 - t) = omega arith in
                let place : j - i ≡ 45 * i + t - 20 = omega arith in
                ap (λ (k : ℕ). (w * 2 + d) / 2 ^ k % 2) up
                ∙ ap (λ (x : ℕ). x % 2) (sym (shr-shr (w * 2 + d) 1 (44 - t)) ∙ ap (λ (x : ℕ). x / 2 ^ (44 - t)) (half w d bit-lt))
                ∙ g.bit t (omega arith) (omega arith)
                ∙ sym (data-bit row dc j (λ position. omega arith) ∙ ap (λ (k : ℕ). get_or (bits_of row) (j - k) 0) group ∙ ap (row_bits row) place)
          ];
    }
  where
    odd : (w d : ℕ) → d < 2 → (w * 2 + d) / 1 % 2 ≡ d
    odd w d h = omega arith

    half : (w d : ℕ) → d < 2 → (w * 2 + d) / 2 ≡ w
    half w d h = omega arith

-- the first n words are there
pub record WordsTo (row : List ℕ) (dc n : ℕ) (ws : List ℕ) : Type 0 where
  pub fit : words.Words ws
  pub within : n ≤ 28
  pub each : (k : ℕ) → k < n → WordIs row dc k (get_or ws k 0)

module _ {row : List ℕ} {dc : ℕ} where
  pub words-none : {ws : List ℕ} → words.Words ws → WordsTo row dc 0 ws
  words-none fit = record { fit = fit; within = omega arith; each = λ k h. absurd (omega arith) }

  pub words_more : {i w d : ℕ} {ws : List ℕ} → i < 28 → WordsTo row dc i ws → GroupData row i w → d ≡ dc / 2 ^ (27 - i) % 2
      → WordsTo row dc (i + 1) (set ws i (w * 2 + d))
  words_more {i} {w} {d} {ws} h u g e =
      let here : WordIs row dc i (w * 2 + d) = word-is g e in
      let same : get_or (set ws i (w * 2 + d)) i 0 ≡ w * 2 + d = get_or-set_same ws i (w * 2 + d) 0 (omega (arith, u.fit.size)) in
      record {
        fit =
            record {
              size = length-set ws i (w * 2 + d) ∙ u.fit.size;
              below = λ k.
                  elim (ℕ_discrete k i) [
                    | yes is ↦ subst (λ (x : ℕ). x < 70368744177664) (sym (ap (λ (n : ℕ). get_or (set ws i (w * 2 + d)) n 0) is ∙ same)) here.small
                    | no other ↦ subst (λ (x : ℕ). x < 70368744177664) (sym (get_or-set_other ws i k (w * 2 + d) 0 other)) (u.fit.below k)
                  ];
            };
        within = omega arith;
        each = λ k hk.
            elim (ℕ_discrete k i) [
              | yes is ↦ subst (λ (n : ℕ). WordIs row dc n (get_or (set ws i (w * 2 + d)) n 0)) (sym is) (subst (WordIs row dc i) (sym same) here)
              | no other ↦ subst (WordIs row dc k) (sym (get_or-set_other ws i k (w * 2 + d) 0 other)) (u.each k (omega arith))
            ];
      }

  pub words-all : {i : ℕ} {ws : List ℕ} → 28 ≤ i → WordsTo row dc i ws → words.Words ws × (words.bits_in ws ≡ frame_bits row dc)
  unfolding frame_bits
  words-all {i} {ws} h u = (u.fit, is-tabulate 0 1268 (frame_bit row dc) (words.bits_in ws) (length-words-bits ws) at)
    where
      at : (j : ℕ) → j < 1268 → get_or (words.bits_in ws) j 0 ≡ frame_bit row dc j
      at j hj =
          let place : 46 * ((j + 20) / 46) + (j + 20) % 46 - 20 ≡ j = omega arith in
          word-bit ws j hj
          ∙ (u.each ((j + 20) / 46) (omega arith)).bit ((j + 20) % 46) (omega arith) (omega arith)
          ∙ ap (frame_bit row dc) place

-- ---- bits of the words

-- sixteen from bit m on, which is bit c of word i
pub sixteen : (ws : List ℕ) (i c m : ℕ) {v : ℕ} → words.Words ws → m + 20 ≡ 46 * i + c → c < 46 → m ≤ 1252
    → v ≡ (get_or ws i 0 * 2 ^ c % 2 ^ 64 % 2 ^ 46 + get_or ws (i + 1) 0 / 2 ^ (46 - c)) / 2 ^ 30 → Word 16 (λ j. get_or (words.bits_in ws) j 0) m v
sixteen ws i c m {v} fit e hc hm is =
    let a : ℕ = get_or ws i 0 in
    let b : ℕ = get_or ws (i + 1) 0 in
    let hb : b < 2 ^ 46 = fit.below (i + 1) in
    record {
      small = window-lt 46 a b c hb hc (omega arith) 16 (omega arith) is;
      bit = λ u hu.
          let here = word-bit ws (m + u) (omega arith) in
          elim (dec_lt (c + u) 46) [
            | yes h ↦
                let word : (m + u + 20) / 46 ≡ i = omega arith in
                let place : (m + u + 20) % 46 ≡ c + u = omega arith in
                in-first 46 a b c hb hc (omega arith) 16 (omega arith) is u hu h
                ∙ sym (here ∙ ap₂ (λ (n t : ℕ). get_or ws n 0 / 2 ^ (45 - t) % 2) word place)
            | no h ↦
                let word : (m + u + 20) / 46 ≡ i + 1 = omega arith in
                let place : (m + u + 20) % 46 ≡ c + u - 46 = omega arith in
                in-second 46 a b c hb hc (omega arith) 16 (omega arith) is u hu (omega arith)
                ∙ sym (here ∙ ap₂ (λ (n t : ℕ). get_or ws n 0 / 2 ^ (45 - t) % 2) word place)
          ];
    }

-- the last four
pub last-four : (ws : List ℕ) → LastTwo (pairs (words.bits_in ws)) (get_or ws 27 0 % 16)
last-four ws =
    last-pairs (words.bits_in ws) (length-words-bits ws) (get_or ws 27 0 % 16)
    (record {
      small = mod-lt (get_or ws 27 0) (zero-lt-suc 15);
      bit = λ j hj.
          let word : (1264 + j + 20) / 46 ≡ 27 = omega arith in
          let place : 45 - (1264 + j + 20) % 46 ≡ 3 - j = omega arith in
          low_bit 4 (get_or ws 27 0) (3 - j) (omega arith)
          ∙ sym (word-bit ws (1264 + j) (omega arith) ∙ ap₂ (λ (n t : ℕ). get_or ws n 0 / 2 ^ t % 2) word place);
    })

-- ---- the place in the words

-- turn k stands at a place
pub record At (k place : ℕ) : Type 0 where
  pub position : place % 64 < 46
  pub bit : bit_of place ≡ 16 * k + 20

pub at_none : At 0 20
at_none = record { position = omega arith; bit = refl }

module _ {k place : ℕ} (a : At k place) where
  pub at-inside : k < 79 → SixteenFrom place
  at-inside h = record { position = a.position; some = omega (arith, a.bit); most = omega (arith, a.bit) }

  pub at_more : {next : ℕ} → SixteenOn place next → At (k + 1) next
  at_more n = record { position = n.position; bit = omega (arith, a.bit, n.on) }

  -- sixteen bits there are eight pairs
  pub at-pairs : (ws : List ℕ) {v : ℕ} → k < 79 → Word 16 (λ j. get_or (words.bits_in ws) j 0) (bit_of place - 20) v
      → take 8 (drop (8 * k) (pairs (words.bits_in ws))) ≡ byte_pairs (v / 256) ++ byte_pairs (v % 256)
  at-pairs ws {v} h u = eight-pairs (words.bits_in ws) (length-words-bits ws) k (bit_of place - 20) v h (omega (arith, a.bit)) u
