-- A frame put into the 242 bytes that hold it, between bits that stay. Assumes nothing.
use mathlib.Core.Bool.{Bool}
use mathlib.Core.List.{List, [], ◌∷◌, ◌++◌, append_assoc, append-nil}
use mathlib.Core.Path.{◌≡◌, refl, sym, ap, ap₂, ◌∙◌}
use Prim.Native.Nat.{ℕ, suc, ◌+◌, ◌*◌, ◌-◌, ◌/◌, ◌%◌, ◌<◌, ◌≤◌}
use native.Mathlib.Omega.{arith}
use lib.Dec.{eqb}
use lib.ListN.{length, get_or, take, drop, take-append-drop, length-drop}
use lib.Seq.{sets, sets-eq, take_at, drop_at, take-add, drop-drop, drop-cons, take-append-le, drop-append-le, length-take-le}
use Rattle.laws.specs.Tabulate.{tabulate}
use Rattle.bits.specs.Bits.{bits_of, number, bits_of_number}
use Rattle.bits.proofs.Bits.{length-bits}
use Rattle.bits.proofs.Concat.{bits-append, join-bits}
use Rattle.modulation.specs.Modulation.{Modulated, modulate}
use Rattle.modulation.specs.Bits.{bits}
use Rattle.modulation.specs.Sync.{sync}
use Rattle.modulation.specs.Stream.{modulated}
use Rattle.frame_sync.specs.Sync.{fs}
use Rattle.frame.specs.Frame.{frame_pairs, frame}
use Rattle.frame_writer.specs.steps.Written.{FrameWritten}
use Rattle.frame.proofs.Frame.{length-frame, frame-parts}
use Rattle.modulator.specs.steps.Put.{FramePut}
use Rattle.frame_sync.proofs.SyncTables.{sync-bits, sync-odd, sync-small}

-- ---- bits of parts

module _ (l : List ℕ) (q : ℕ) (h : q ≤ length l) where
  parts : bits_of l ≡ bits_of (take q l) ++ bits_of (drop q l)
  parts = ap bits_of (sym (take-append-drop q l)) ∙ bits-append (take q l) (drop q l)

  front-size : length (bits_of (take q l)) ≡ 8 * q
  front-size = length-bits (take q l) ∙ ap (λ (n : ℕ). 8 * n) (length-take-le q l h)

  front-bits : take (8 * q) (bits_of l) ≡ bits_of (take q l)
  front-bits = ap (take (8 * q)) parts ∙ take_at (bits_of (take q l)) (bits_of (drop q l)) (8 * q) front-size

  rest-bits : drop (8 * q) (bits_of l) ≡ bits_of (drop q l)
  rest-bits = ap (drop (8 * q)) parts ∙ drop_at (bits_of (take q l)) (bits_of (drop q l)) (8 * q) front-size

high-four : (x : ℕ) → take 4 (bits_of (x ∷ [])) ≡ bits_of_number 4 (x / 16)
unfolding bits_of bits_of_number tabulate
high-four x =
    let a : x / 128 % 2 ≡ x / 16 / 8 % 2 = omega arith in
    let b : x / 64 % 2 ≡ x / 16 / 4 % 2 = omega arith in
    let c : x / 32 % 2 ≡ x / 16 / 2 % 2 = omega arith in
    let d : x / 16 % 2 ≡ x / 16 / 1 % 2 = omega arith in
    ap₂ ◌∷◌ a (ap₂ ◌∷◌ b (ap₂ ◌∷◌ c (ap (λ (y : ℕ). y ∷ []) d)))

low-four : (x : ℕ) → drop 4 (bits_of (x ∷ [])) ≡ bits_of_number 4 (x % 16)
unfolding bits_of bits_of_number tabulate
low-four x =
    let a : x / 8 % 2 ≡ x % 16 / 8 % 2 = omega arith in
    let b : x / 4 % 2 ≡ x % 16 / 4 % 2 = omega arith in
    let c : x / 2 % 2 ≡ x % 16 / 2 % 2 = omega arith in
    let d : x / 1 % 2 ≡ x % 16 / 1 % 2 = omega arith in
    ap₂ ◌∷◌ a (ap₂ ◌∷◌ b (ap₂ ◌∷◌ c (ap (λ (y : ℕ). y ∷ []) d)))

-- byte q and what stands behind it
module _ (l : List ℕ) (q : ℕ) (h : q < length l) where
  byte-bits : bits_of (drop q l) ≡ bits_of (get_or l q 0 ∷ []) ++ bits_of (drop (suc q) l)
  byte-bits = ap bits_of (drop-cons l q 0 h) ∙ bits-append (get_or l q 0 ∷ []) (drop (suc q) l)

  -- the bits before the middle of byte q, and those behind it
  front-half : take (8 * q + 4) (bits_of l) ≡ bits_of (take q l) ++ bits_of_number 4 (get_or l q 0 / 16)
  front-half =
      take-add (8 * q) 4 (bits_of l)
      ∙ ap₂ ◌++◌ (front-bits l q (omega arith))
      (ap (take 4) (rest-bits l q (omega arith) ∙ byte-bits)
      ∙ take-append-le 4 (bits_of (get_or l q 0 ∷ [])) (bits_of (drop (suc q) l)) (omega (arith, length-bits (get_or l q 0 ∷ [])))
      ∙ high-four (get_or l q 0))

  rest-half : drop (8 * q + 4) (bits_of l) ≡ bits_of_number 4 (get_or l q 0 % 16) ++ bits_of (drop (suc q) l)
  rest-half =
      sym (drop-drop 4 (8 * q) (bits_of l))
      ∙ ap (drop 4) (rest-bits l q (omega arith) ∙ byte-bits)
      ∙ drop-append-le 4 (bits_of (get_or l q 0 ∷ [])) (bits_of (drop (suc q) l)) (omega (arith, length-bits (get_or l q 0 ∷ [])))
      ∙ ap (λ (b : List ℕ). b ++ bits_of (drop (suc q) l)) (low-four (get_or l q 0))

-- ---- a frame between bits

module _ (l p f : List ℕ) (q at n : ℕ) (en : n ≡ 242) (h : q + 242 ≤ length l) (size : length f ≡ 1932) where
  whole : bits_of (take q l ++ (p ++ drop n (drop q l))) ≡ bits_of (take q l) ++ (bits_of p ++ bits_of (drop (q + 242) l))
  whole =
      ap (λ (k : ℕ). bits_of (take q l ++ (p ++ drop k (drop q l)))) en
      ∙ ap (λ (r : List ℕ). bits_of (take q l ++ (p ++ r))) (drop-drop 242 q l)
      ∙ bits-append (take q l) (p ++ drop (q + 242) l)
      ∙ ap (λ (r : List ℕ). bits_of (take q l) ++ r) (bits-append p (drop (q + 242) l))

  pub from_byte : at ≡ 8 * q → bits_of p ≡ f ++ bits_of_number 4 (get_or l (q + 241) 0 % 16) → bits_of (take q l ++ (p ++ drop n (drop q l))) ≡ sets (bits_of l) at f
  from_byte ea e =
      let kept = bits_of_number 4 (get_or l (q + 241) 0 % 16) in
      let rest = bits_of (drop (q + 242) l) in
      let behind : at + length f ≡ 8 * (q + 241) + 4 = omega arith in
      let next : suc (q + 241) ≡ q + 242 = omega arith in
      whole
      ∙ ap (λ (b : List ℕ). bits_of (take q l) ++ (b ++ rest)) e
      ∙ ap (λ (b : List ℕ). bits_of (take q l) ++ b) (append_assoc f kept rest)
      ∙ sym (append_assoc (bits_of (take q l)) f (kept ++ rest))
      ∙ sym (sets-eq f (bits_of l) at (omega (arith, length-bits l))
      ∙ ap₂ (λ (a b : List ℕ). (a ++ f) ++ b) (ap (λ (k : ℕ). take k (bits_of l)) ea ∙ front-bits l q (omega arith))
      (ap (λ (k : ℕ). drop k (bits_of l)) behind ∙ rest-half l (q + 241) (omega arith) ∙ ap (λ (k : ℕ). kept ++ bits_of (drop k l)) next))

  pub from-half : at ≡ 8 * q + 4 → bits_of p ≡ bits_of_number 4 (get_or l q 0 / 16) ++ f → bits_of (take q l ++ (p ++ drop n (drop q l))) ≡ sets (bits_of l) at f
  from-half ea e =
      let kept = bits_of_number 4 (get_or l q 0 / 16) in
      let rest = bits_of (drop (q + 242) l) in
      let behind : at + length f ≡ 8 * (q + 242) = omega arith in
      whole
      ∙ ap (λ (b : List ℕ). bits_of (take q l) ++ (b ++ rest)) e
      ∙ ap (λ (b : List ℕ). bits_of (take q l) ++ b) (append_assoc kept f rest)
      ∙ sym (append_assoc (bits_of (take q l)) kept (f ++ rest))
      ∙ sym (append_assoc (bits_of (take q l) ++ kept) f rest)
      ∙ sym (sets-eq f (bits_of l) at (omega (arith, length-bits l))
      ∙ ap₂ (λ (a b : List ℕ). (a ++ f) ++ b) (ap (λ (k : ℕ). take k (bits_of l)) ea ∙ front-half l q (omega arith))
      (ap (λ (k : ℕ). drop k (bits_of l)) behind ∙ rest-bits l (q + 242) (omega arith)))

-- ---- as the code has it

nothing : (b : List ℕ) → b ++ bits_of_number 0 0 ≡ b
unfolding bits_of_number tabulate
nothing b = append-nil b

module _ (k : ℕ) (below : k < 7) (hash : Bool) (row : List ℕ) (dc : ℕ) (l p : List ℕ) (at word : ℕ) (r : Bool) (es : word ≡ number (bits (sync hash (fs k)))) where
  same-frame : (first : ℕ) → first % 2 ≡ word % 2 → modulate (eqb (first % 2) 1) (frame_pairs row dc) ≡ modulated (fs k) (frame_pairs row dc)
  same-frame first e = ap (λ (b : Bool). modulate b (frame_pairs row dc)) (ap (λ (v : ℕ). eqb v 1) (e ∙ ap (λ (v : ℕ). v % 2) es) ∙ sync-odd hash k below)

  word-bits : bits_of_number 30 word ≡ bits (sync hash (fs k))
  word-bits = ap (bits_of_number 30) es ∙ sync-bits hash (fs k)

  module _ (h : at + 1932 ≤ 8 * length l) where
    pub written-even : at % 8 ≡ 0 → FramePut word 30 (get_or l (at / 8 + 241) 0 % 16) (frame_pairs row dc) p r
        → FrameWritten (fs k) hash row dc l at (take (at / 8) l ++ (p ++ drop (at / 8 + 242 - at / 8) (drop (at / 8) l))) r
    written-even even w =
        let kept = bits_of_number 4 (get_or l (at / 8 + 241) 0 % 16) in
        let is = same-frame word refl in
        let e : bits_of p ≡ frame hash (fs k) row dc ++ kept =
        w.bits_are
        ∙ ap₂ (λ (b : List ℕ) (m : Modulated). b ++ (bits m.groups ++ kept)) word-bits is
        ∙ sym (append_assoc (bits (sync hash (fs k))) (bits (modulated (fs k) (frame_pairs row dc)).groups) kept)
        ∙ ap (λ (b : List ℕ). b ++ kept) (sym (frame-parts hash (fs k) row dc)) in
        record {
          bits_are = from_byte l p (frame hash (fs k) row dc) (at / 8) at (at / 8 + 242 - at / 8) (omega arith) (omega arith) (length-frame hash (fs k) row dc) (omega arith) e;
          next-is = w.ends ∙ ap (λ (m : Modulated). m.terminated) is;
        }

    pub written-odd : {first x : ℕ} → at % 8 ≡ 4 → x ≡ get_or l (at / 8) 0 → x < 256 → first ≡ x / 16 * 1073741824 + word → FramePut first 34 0 (frame_pairs row dc) p r
        → FrameWritten (fs k) hash row dc l at (take (at / 8) l ++ (p ++ drop (at / 8 + 242 - at / 8) (drop (at / 8) l))) r
    written-odd {first} {x} odd ex hx ef w =
        let kept = bits_of_number 4 (x / 16) in
        let is = same-frame first (ap (λ (v : ℕ). v % 2) ef ∙ omega arith) in
        let split : bits_of_number 34 first ≡ kept ++ bits (sync hash (fs k)) =
        ap (bits_of_number 34) ef ∙ join-bits 4 30 (x / 16) word (omega arith) (rw es (sync-small hash (fs k))) ∙ ap (λ (b : List ℕ). kept ++ b) word-bits in
        let e : bits_of p ≡ bits_of_number 4 (get_or l (at / 8) 0 / 16) ++ frame hash (fs k) row dc =
        w.bits_are
        ∙ ap₂ (λ (b : List ℕ) (m : Modulated). b ++ (bits m.groups ++ bits_of_number 0 0)) split is
        ∙ ap (λ (b : List ℕ). (kept ++ bits (sync hash (fs k))) ++ b) (nothing (bits (modulated (fs k) (frame_pairs row dc)).groups))
        ∙ append_assoc kept (bits (sync hash (fs k))) (bits (modulated (fs k) (frame_pairs row dc)).groups)
        ∙ ap₂ (λ (v : ℕ) (b : List ℕ). bits_of_number 4 (v / 16) ++ b) ex (sym (frame-parts hash (fs k) row dc)) in
        record {
          bits_are = from-half l p (frame hash (fs k) row dc) (at / 8) at (at / 8 + 242 - at / 8) (omega arith) (omega arith) (length-frame hash (fs k) row dc) (omega arith) e;
          next-is = w.ends ∙ ap (λ (m : Modulated). m.terminated) is;
        }

-- the part that is lent
pub part-size : (l : List ℕ) (at : ℕ) → at + 1932 ≤ 8 * length l → at % 4 ≡ 0 → length (take (at / 8 + 242 - at / 8) (drop (at / 8) l)) ≡ 242
part-size l at h e =
    let n : at / 8 + 242 - at / 8 ≡ 242 = omega arith in
    ap (λ (k : ℕ). length (take k (drop (at / 8) l))) n ∙ length-take-le 242 (drop (at / 8) l) (omega (arith, length-drop (at / 8) l))
