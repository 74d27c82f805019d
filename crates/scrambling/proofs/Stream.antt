-- Laws of scrambling: the stream, lengths, bytes, parts one behind the other, that it drops out of sums, and that a second time undoes it. Assumes nothing.
use mathlib.Core.Path.{◌≡◌, refl, sym, ap, ap₂, ◌∙◌}
use mathlib.Core.List.{List, [], ◌∷◌, ◌++◌}
use Prim.Native.Nat.{ℕ, suc, ◌+◌, ◌%◌, ◌<◌, ◌≤◌}
use native.Mathlib.Nat.{mod-lt}
use native.Mathlib.Numerals.{add-one}
use native.Mathlib.Omega.{arith}
use lib.Bits.{bit_xor, xor_lt}
use lib.ListN.{length, get_or, set, take, drop}
use lib.Pow.{pow_pos}
use lib.Seq.{drop-drop, length-take-le, get_or-take}
use Rattle.laws.specs.Bytes.{Bytes}
use Rattle.laws.specs.Combined.{combined}
use Rattle.laws.specs.Tabulate.{tabulate}
use Rattle.laws.proofs.Bytes.{bytes-tabulate}
use Rattle.laws.proofs.Combined.{length-combined, get_d-combined, is-combined, combined-comm, combined-twice, combined-inj}
use Rattle.laws.proofs.Fill.{Upto, upto-none, upto-more, upto_all}
use Rattle.laws.proofs.Tabulate.{length-tabulate, get_d_tabulate}
use Rattle.laws.proofs.Xor.{xor-both}
use Rattle.scrambling.specs.Scrambling.{shifts, preset, register, scrambling_byte, scrambling_of, scrambled}

-- ---- the scrambling bytes

pub length-scrambling : (psn : ℕ) → length (scrambling_of psn) ≡ 2052
unfolding scrambling_of
length-scrambling psn = length-tabulate 2052 (scrambling_byte psn)

pub bytes-scrambling : (psn : ℕ) → Bytes (scrambling_of psn)
unfolding scrambling_of scrambling_byte
bytes-scrambling psn = bytes-tabulate 2052 (scrambling_byte psn) (λ k h. mod-lt (register (preset psn) k) (pow_pos 8))

-- a turn of the loop, from the register p: s is the register at byte k
pub record Streamed (p k s : ℕ) (l : List ℕ) : Type 0 where
  pub filled : Upto 0 (λ k. register p k % 256) 2052 k l
  pub held : s ≡ register p k

pub streamed-none : (p : ℕ) (l : List ℕ) → length l ≡ 2052 → Streamed p 0 p l
unfolding register
streamed-none p l size = record { filled = upto-none size; held = refl }

pub streamed-more : (p k s r : ℕ) (l : List ℕ) → k < 2052 → Streamed p k s l → r ≡ shifts 8 s → Streamed p (k + 1) r (set l k (s % 256))
unfolding register
streamed-more p k s r l h a e =
    record {
      filled = upto-more h (ap (λ (x : ℕ). x % 256) a.held) a.filled;
      held = rw (add-one k, ← a.held) e;
    }

pub streamed-all : (psn k s : ℕ) (l : List ℕ) → 2052 ≤ k → Streamed (preset psn) k s l → l ≡ scrambling_of psn
unfolding scrambling_of scrambling_byte
streamed-all psn k s l h a = upto_all h a.filled

-- ---- scrambled frames

pub length-scrambled : (stream frame : List ℕ) → length (scrambled stream frame) ≡ length frame
unfolding scrambled
length-scrambled stream frame = length-tabulate (length frame) (λ k. bit_xor (get_or frame k 0) (get_or stream k 0))

pub get_d-scrambled : (stream frame : List ℕ) (k : ℕ) → k < length frame → get_or (scrambled stream frame) k 0 ≡ bit_xor (get_or frame k 0) (get_or stream k 0)
unfolding scrambled
get_d-scrambled stream frame k h = get_d_tabulate (length frame) (λ k. bit_xor (get_or frame k 0) (get_or stream k 0)) k 0 h

pub bytes-scrambled : (stream frame : List ℕ) → Bytes stream → Bytes frame → Bytes (scrambled stream frame)
unfolding scrambled
bytes-scrambled stream frame bs bf =
    bytes-tabulate (length frame) (λ k. bit_xor (get_or frame k 0) (get_or stream k 0)) (λ k h. xor_lt 8 (get_or frame k 0) (get_or stream k 0) (bf k) (bs k))

-- ---- parts of a frame, one behind the other

scrambled-cons : (stream : List ℕ) (x : ℕ) (l : List ℕ) → scrambled stream (x ∷ l) ≡ bit_xor x (get_or stream 0 0) ∷ scrambled (drop 1 stream) l
unfolding scrambled tabulate
scrambled-cons [] x l = refl
scrambled-cons (y ∷ stream) x l = refl

pub scrambled-append : (stream l m : List ℕ) → scrambled stream (l ++ m) ≡ scrambled stream l ++ scrambled (drop (length l) stream) m
scrambled-append stream [] m = unfold scrambled tabulate in refl
scrambled-append stream (x ∷ l) m =
    let rest : 1 + length l ≡ suc (length l) = omega arith in
    scrambled-cons stream x (l ++ m)
    ∙ ap (λ (r : List ℕ). bit_xor x (get_or stream 0 0) ∷ r) (scrambled-append (drop 1 stream) l m)
    ∙ ap₂ (λ (r s : List ℕ). r ++ scrambled s m) (sym (scrambled-cons stream x l)) (drop-drop (length l) 1 stream ∙ ap (λ (n : ℕ). drop n stream) rest)

-- where the stream is long enough it is combined
pub scrambled-within : (stream l : List ℕ) → length l ≤ length stream → scrambled stream l ≡ combined l (take (length l) stream)
scrambled-within stream l h =
    let size : length l ≡ length (take (length l) stream) = sym (length-take-le (length l) stream h) in
    is-combined (scrambled stream l) l (take (length l) stream) (length-scrambled stream l) size
    (λ k lt. get_d-scrambled stream l k lt ∙ ap (bit_xor (get_or l k 0)) (sym (get_or-take (length l) stream k 0 lt)))

-- ---- scrambling drops out

-- two frames scrambled with one stream combine to what the frames combine to
pub scrambled-both : (stream f g : List ℕ) → length f ≡ length g → combined (scrambled stream f) (scrambled stream g) ≡ combined f g
scrambled-both stream f g same = is-combined (combined sf sg) f g (length-combined sf sg sizes ∙ length-scrambled stream f) same at
  where
    sf : List ℕ
    sf = scrambled stream f

    sg : List ℕ
    sg = scrambled stream g

    sizes : length sf ≡ length sg
    sizes = length-scrambled stream f ∙ same ∙ sym (length-scrambled stream g)

    at : (k : ℕ) → k < length f → get_or (combined sf sg) k 0 ≡ bit_xor (get_or f k 0) (get_or g k 0)
    at k h =
        get_d-combined sf sg k sizes
        ∙ ap₂ bit_xor (get_d-scrambled stream f k h) (get_d-scrambled stream g k (omega arith))
        ∙ xor-both (get_or f k 0) (get_or g k 0) (get_or stream k 0)

-- so scrambling undone gives the frame: with the frame once scrambled both combine to the same
pub scrambled-twice : (stream frame : List ℕ) → scrambled stream (scrambled stream frame) ≡ frame
scrambled-twice stream frame =
    combined-inj once (scrambled stream once) frame (sym (length-scrambled stream once)) (length-scrambled stream frame)
    (scrambled-both stream frame once (sym (length-scrambled stream frame)) ∙ combined-comm frame once)
  where
    once : List ℕ
    once = scrambled stream frame

-- and a sum scrambled is one part scrambled and the other plain, combined
pub scrambled-combined : (stream f g : List ℕ) → length f ≡ length g → scrambled stream (combined f g) ≡ combined (scrambled stream f) g
scrambled-combined stream f g same =
    combined-inj sf (scrambled stream fg) (combined sf g) (length-scrambled stream f ∙ sym sizes) (sym (length-combined sf g part))
    (scrambled-both stream f fg (sym (length-combined f g same)) ∙ combined-twice f g same ∙ sym (combined-twice sf g part))
  where
    sf : List ℕ
    sf = scrambled stream f

    fg : List ℕ
    fg = combined f g

    sizes : length (scrambled stream fg) ≡ length f
    sizes = length-scrambled stream fg ∙ length-combined f g same

    part : length sf ≡ length g
    part = length-scrambled stream f ∙ same

-- equal scrambled frames come from equal frames
pub scrambled-inj : (stream f g : List ℕ) → scrambled stream f ≡ scrambled stream g → f ≡ g
scrambled-inj stream f g e = sym (scrambled-twice stream f) ∙ ap (scrambled stream) e ∙ scrambled-twice stream g
