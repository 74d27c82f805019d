-- The pass over a sector: where it starts, and how a step moves it. Assumes nothing.
use mathlib.Core.Path.{◌≡◌, refl, sym, ap, ap₂, subst, ◌∙◌}
use mathlib.Core.List.{List, [], ◌∷◌, ◌++◌, append_assoc}
use Prim.Native.Nat.{ℕ, ◌+◌, ◌-◌, ◌<◌, ◌≤◌}
use native.Mathlib.Numerals.{add-one}
use native.Mathlib.Omega.{arith}
use lib.Bits.{bit_xor}
use lib.ListN.{length, get_or, set, take, drop, length-append, length-drop, take-append-drop}
use lib.Seq.{take_at, drop_at, take-add, drop-drop, drop-cons, get_or-drop, set_split, length-take-le}
use Rattle.laws.specs.Combined.{combined}
use Rattle.laws.specs.Tabulate.{tabulate}
use Rattle.big_endian.specs.Words.{eight_bytes}
use Rattle.big_endian.proofs.Words.{eight-combined}
use Rattle.edc.specs.Edc.{edc_of}
use Rattle.edc.proofs.Loops.{none_passed}
use Rattle.scrambling.specs.Scrambling.{scrambled}
use Rattle.scrambling.proofs.Stream.{length-scrambled, scrambled-append, scrambled-within}
use Rattle.sector_pass.specs.Pass.{PassWriting, PassReading}

-- ---- scrambled parts

-- n bytes of a list scrambled, and m more
scrambled-on : (stream l : List ℕ) (n m : ℕ) → n ≤ length l → scrambled stream (take (n + m) l) ≡ scrambled stream (take n l) ++ scrambled (drop n stream) (take m (drop n l))
scrambled-on stream l n m h =
    ap (scrambled stream) (take-add n m l)
    ∙ scrambled-append stream (take n l) (take m (drop n l))
    ∙ ap (λ (k : ℕ). scrambled stream (take n l) ++ scrambled (drop k stream) (take m (drop n l))) (length-take-le n l h)

eight-scrambled : (stream : List ℕ) (n eight s : ℕ) → n + 8 ≤ length stream → eight_bytes s ≡ take 8 (drop n stream)
    → eight_bytes (bit_xor eight s) ≡ scrambled (drop n stream) (eight_bytes eight)
eight-scrambled stream n eight s h e =
    eight-combined eight s ∙ ap (combined (eight_bytes eight)) e ∙ sym (scrambled-within (drop n stream) (eight_bytes eight) (omega (arith, length-drop n stream)))

byte-scrambled : (stream : List ℕ) (n x s : ℕ) → s ≡ get_or stream n 0 → bit_xor x s ∷ [] ≡ scrambled (drop n stream) (x ∷ [])
unfolding scrambled tabulate
byte-scrambled stream n x s e =
    let here : n ≡ n + 0 = omega arith in
    ap (λ (y : ℕ). bit_xor x y ∷ []) (e ∙ ap (λ (k : ℕ). get_or stream k 0) here ∙ sym (get_or-drop n stream 0 0))

one-there : (l : List ℕ) (n : ℕ) → n < length l → get_or l n 0 ∷ [] ≡ take 1 (drop n l)
one-there l n h = sym (ap (take 1) (drop-cons l n 0 h))

-- ---- writing

module _ (user stream before : List ℕ) where
  pub writing-none : PassWriting user stream before 0 before 0
  unfolding scrambled tabulate
  writing-none = record { taken = omega arith; written = refl; rest = refl; remainder = none_passed }

  module _ (n : ℕ) (frame : List ℕ) (register : ℕ) (p : PassWriting user stream before n frame register) where
    front : length (take n frame) ≡ n
    front = ap length p.written ∙ length-scrambled stream (take n user) ∙ length-take-le n user p.taken

    writing-length : n ≤ length before → length frame ≡ length before
    writing-length h =
        omega (
          arith,
          ap length (take-append-drop n frame),
          length-append (take n frame) (drop n frame),
          front,
          ap length p.rest,
          length-drop n before,
        )

    -- a part of m bytes more
    writing-part : (m next : ℕ) (part bytes : List ℕ) → n + m ≤ length user → part ≡ take m (drop n user) → bytes ≡ scrambled (drop n stream) part
        → next ≡ edc_of (take n user ++ part) → PassWriting user stream before (n + m) (take n frame ++ (bytes ++ drop m (drop n frame))) next
    writing-part m next part bytes h ep eb en =
        record {
          taken = h;
          written = ap (take (n + m)) seam ∙ take_at (take n frame ++ bytes) behind (n + m) size ∙ ap₂ ◌++◌ p.written (eb ∙ ap (scrambled (drop n stream)) ep) ∙ sym (scrambled-on stream user n m p.taken);
          rest = ap (drop (n + m)) seam ∙ drop_at (take n frame ++ bytes) behind (n + m) size ∙ ap (drop m) p.rest ∙ drop-drop m n before;
          remainder = en ∙ ap edc_of (ap (λ (l : List ℕ). take n user ++ l) ep ∙ sym (take-add n m user));
        }
      where
        behind : List ℕ
        behind = drop m (drop n frame)

        seam : take n frame ++ (bytes ++ behind) ≡ (take n frame ++ bytes) ++ behind
        seam = sym (append_assoc (take n frame) bytes behind)

        part-size : length part ≡ m
        part-size = ap length ep ∙ length-take-le m (drop n user) (omega (arith, length-drop n user))

        size : length (take n frame ++ bytes) ≡ n + m
        size = omega (arith, length-append (take n frame) bytes, front, ap length eb, length-scrambled (drop n stream) part, part-size)

    -- m and past as the code has them
    pub writing-eight : (eight s next m past : ℕ) (bytes : List ℕ) → m ≡ 8 → past ≡ n + 8 → past ≤ length user → past ≤ length stream → eight_bytes eight ≡ take 8 (drop n user)
        → eight_bytes s ≡ take 8 (drop n stream) → bytes ≡ eight_bytes (bit_xor eight s) → ((l : List ℕ) → register ≡ edc_of l → next ≡ edc_of (l ++ eight_bytes eight))
        → PassWriting user stream before past (take n frame ++ (bytes ++ drop m (drop n frame))) next
    writing-eight eight s next m past bytes em eq hu hs eu es eb en =
        rw (em, eq) (writing-part 8 next (eight_bytes eight) bytes (omega arith) eu (eb ∙ eight-scrambled stream n eight s (omega arith) es) (en (take n user) p.remainder))

    pub writing-byte : (s next : ℕ) → n < length user → n < length frame → s ≡ get_or stream n 0
        → ((l : List ℕ) → register ≡ edc_of l → next ≡ edc_of (l ++ (get_or user n 0 ∷ [])))
        → PassWriting user stream before (n + 1) (set frame n (bit_xor (get_or user n 0) s)) next
    writing-byte s next hu hf es en =
        let x : ℕ = get_or user n 0 in
        let v : ℕ = bit_xor x s in
        let put : set frame n v ≡ take n frame ++ ((v ∷ []) ++ drop 1 (drop n frame)) =
        set_split frame n v hf ∙ ap (λ (l : List ℕ). take n frame ++ (v ∷ l)) (ap (λ (k : ℕ). drop k frame) (sym (add-one n)) ∙ sym (drop-drop 1 n frame)) in
        subst (λ (l : List ℕ). PassWriting user stream before (n + 1) l next) (sym put)
        (writing-part 1 next (x ∷ []) (v ∷ []) (omega arith) (one-there user n hu) (byte-scrambled stream n x s es) (en (take n user) p.remainder))

pub frame-length : {user stream before frame : List ℕ} {n register : ℕ} → length user ≡ 2048 → length before ≡ 2052 → PassWriting user stream before n frame register
    → length frame ≡ 2052
frame-length {user} {stream} {before} {frame} {n} {register} h g p = writing-length user stream before n frame register p (omega (arith, p.taken)) ∙ g

-- the pass as it goes on from a frame in the middle
pub writing-here : (user stream before frame : List ℕ) (n register : ℕ) → PassWriting user stream before n frame register → PassWriting user stream frame n frame register
writing-here user stream before frame n register p = record { taken = p.taken; written = p.written; rest = refl; remainder = p.remainder }

pub writing-since : (user stream before middle frame : List ℕ) (n m r s : ℕ) → n ≤ m → PassWriting user stream before n middle r → PassWriting user stream middle m frame s
    → PassWriting user stream before m frame s
writing-since user stream before middle frame n m r s h p q =
    let more : n + (m - n) ≡ m = omega arith in
    let same : drop m middle ≡ drop m before =
    ap (λ (k : ℕ). drop k middle) (sym more) ∙ sym (drop-drop (m - n) n middle) ∙ ap (drop (m - n)) p.rest ∙ drop-drop (m - n) n before ∙ ap (λ (k : ℕ). drop k before) more in
    record { taken = q.taken; written = q.written; rest = q.rest ∙ same; remainder = q.remainder }

-- ---- reading

module _ (frame stream : List ℕ) where
  pub undoing-none : PassReading frame stream 0 0
  unfolding scrambled tabulate
  undoing-none = record { taken = omega arith; remainder = none_passed }

  module _ (n register : ℕ) (p : PassReading frame stream n register) where
    undoing-part : (m next : ℕ) (part bytes : List ℕ) → n + m ≤ length frame → part ≡ take m (drop n frame) → bytes ≡ scrambled (drop n stream) part
        → next ≡ edc_of (scrambled stream (take n frame) ++ bytes) → PassReading frame stream (n + m) next
    undoing-part m next part bytes h ep eb en =
        record {
          taken = h;
          remainder = en ∙ ap edc_of (ap (λ (l : List ℕ). scrambled stream (take n frame) ++ l) (eb ∙ ap (scrambled (drop n stream)) ep) ∙ sym (scrambled-on stream frame n m p.taken));
        }

    pub undoing-eight : (eight s next past : ℕ) → past ≡ n + 8 → past ≤ length frame → past ≤ length stream → eight_bytes eight ≡ take 8 (drop n frame) → eight_bytes s ≡ take 8 (drop n stream)
        → ((l : List ℕ) → register ≡ edc_of l → next ≡ edc_of (l ++ eight_bytes (bit_xor eight s))) → PassReading frame stream past next
    undoing-eight eight s next past eq hf hs ef es en =
        rw eq (undoing-part 8 next (eight_bytes eight) (eight_bytes (bit_xor eight s)) (omega arith) ef (eight-scrambled stream n eight s (omega arith) es) (en (scrambled stream (take n frame)) p.remainder))

    pub undoing-byte : (s next : ℕ) → n < length frame → s ≡ get_or stream n 0
        → ((l : List ℕ) → register ≡ edc_of l → next ≡ edc_of (l ++ (bit_xor (get_or frame n 0) s ∷ []))) → PassReading frame stream (n + 1) next
    undoing-byte s next h es en =
        let x : ℕ = get_or frame n 0 in
        undoing-part 1 next (x ∷ []) (bit_xor x s ∷ []) (omega arith) (one-there frame n h) (byte-scrambled stream n x s es) (en (scrambled stream (take n frame)) p.remainder)
