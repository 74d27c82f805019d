-- The gaps of a run of frames. It is cut at the ones of each sync's body: between its last one and the first ones of the next sync the
-- test of gaps holds, and the others bound the sync's long gaps. Assumes nothing.
use mathlib.Core.Bool.{Bool, true, false, cond}
use mathlib.Core.List.{List, [], ◌∷◌, ◌++◌, append_assoc}
use mathlib.Core.Logic.{inl, inr, ⊎_elim}
use mathlib.Core.Path.{◌≡◌, refl, sym, ap, subst, ◌∙◌}
use Prim.Native.Nat.{ℕ, zero, suc, ◌+◌, ◌*◌, ◌-◌, ◌<◌, ◌≤◌}
use native.Mathlib.Nat.{le_of_suc-le-suc, eq-or-lt_of_le}
use native.Mathlib.Decide.{dec_lt}
use native.Mathlib.Omega.{arith}
use lib.Dec.{T, eqb}
use lib.ListN.{length, get_or, take, drop, length-append}
use lib.Seq.{get_or-append-add}
use Rattle.laws.proofs.Finite.{all, equal-below}
use Rattle.modulation.specs.Modulation.{Two, Three, m000, m001, m010, m101, last_bit}
use Rattle.modulation.specs.Bits.{bits}
use Rattle.modulation.specs.Sync.{FS, FS0, FS1, FS2, FS3, FS4, FS5, FS6, sync, sync_id}
use Rattle.modulation.specs.Stream.{Recording, modulated, hash, run, stream, Full}
use Rattle.modulation.specs.Gaps.{Neighbours, LongGaps, EndsLong, Gap, Spaced, NoSeven}
use Rattle.modulation.proofs.Bits.{bits-append, length-bits}
use Rattle.modulation.proofs.Size.{size}
use Rattle.modulation.proofs.Joined.{seven, in-first, in-second, first-in, second-in, one_side, between, no-two-zeros, window-within, window-first, window-second}
use Rattle.modulation.proofs.Scan.{fine, fine-gaps, fine-no-seven}
use Rattle.modulation.proofs.Spacing.{next, framed, piece, piece-fine}
use Rattle.modulation.proofs.Streams.{length-sync_id, length-sync, length-run-bits, length-stream, full-less}

-- ---- one sync

-- a sync in front of its last one, and from there on
abbrev opening : Bool → List Three
opening h = cond h m101 m001 ∷ m010 ∷ m000 ∷ m000 ∷ m010 ∷ m000 ∷ m000 ∷ []

abbrev closing : FS → List Three
closing n = m010 ∷ sync_id n

next-fine : (h : Bool) → T (fine (bits (next h)) 1 6)
next-fine true = tt
next-fine false = tt

closing-fine : (n : FS) → T (fine (bits (closing n)) 1 6)
closing-fine FS0 = tt
closing-fine FS1 = tt
closing-fine FS2 = tt
closing-fine FS3 = tt
closing-fine FS4 = tt
closing-fine FS5 = tt
closing-fine FS6 = tt

module _ (h : Bool) (n : FS) where
  abbrev one : List ℕ
  one = bits (sync h n)

  zeros-from : (s k : ℕ) → T (all 8 (λ k. eqb (get_or one (s + k) 0) 0)) → s ≤ k → k < s + 8 → get_or one k 0 ≡ 0
  zeros-from s k test low high =
      ap (λ (p : ℕ). get_or one p 0) (same s k low) ∙ equal-below 8 (λ k. get_or one (s + k) 0) (λ k. 0) test (k - s) (omega arith)
    where
      same : (s k : ℕ) → s ≤ k → k ≡ s + (k - s)
      same s k h = omega arith

  sync-long : LongGaps one 0
  unfolding all
  sync-long =
      record {
        first = record { before = omega arith; one-i = refl; one-j = refl; zeros = λ k p q. zeros-from 5 k tt p (omega arith) };
        second = record { before = omega arith; one-i = refl; one-j = refl; zeros = λ k p q. zeros-from 14 k tt p (omega arith) };
      }

  -- cut at its ones at bits 4, 13 and 22
  sync-spaced : Spaced EndsLong one
  sync-spaced i j m = ⊎_elim (λ l. up-to-22 l) (λ g. behind g) (one_side one 22 i j refl m)
    where
      long : (p q : ℕ) → EndsLong q → q ≡ p + 9 → (i ≡ p) × (j ≡ q) → Gap EndsLong i j
      long p q e d s = inl (subst EndsLong (sym s.1) e, omega arith)

      up-to-4 : j ≤ 4 → Gap EndsLong i j
      up-to-4 l = inr (fine-gaps (bits (next h)) 1 6 (next-fine h) i j (in-first (bits (next h)) (drop 6 one) i j (omega arith) m))

      up-to-13 : j ≤ 13 → Gap EndsLong i j
      up-to-13 l = ⊎_elim (λ l. up-to-4 l) (λ g. long 4 13 (inl refl) refl (between one 4 13 i j sync-long.first m g l)) (one_side one 4 i j refl m)

      up-to-22 : j ≤ 22 → Gap EndsLong i j
      up-to-22 l = ⊎_elim (λ l. up-to-13 l) (λ g. long 13 22 (inr refl) refl (between one 13 22 i j sync-long.second m g l)) (one_side one 13 i j refl m)

      behind : 22 ≤ i → Gap EndsLong i j
      behind g =
          let f = fine-gaps (bits (closing n)) 1 6 (closing-fine n) (i - 21) (j - 21) (in-second (bits (opening h)) (bits (closing n)) i j (omega arith) m) in
          inr (omega (arith, m.before))

  sync-no-seven : NoSeven one
  sync-no-seven i e =
      elim (dec_lt i 12) [
        | yes l ↦ no-two-zeros one i e 11 (omega arith) (omega arith) refl refl
        | no l ↦
            let w = window-within one i e in
            no-two-zeros one i e 20 (omega (arith, length-bits (sync h n), length-sync h n)) (omega arith) refl refl
      ]

-- ---- a sync, its frame and the sync that follows

-- a gap further on by k frames
gap-on : (k i j : ℕ) → 1932 * k ≤ i → i < j → Gap EndsLong (i - 1932 * k) (j - 1932 * k) → Gap EndsLong i j
gap-on k i j hi hj (inl g) = inl (⊎_elim (λ e. inl (omega arith)) (λ e. inr (omega arith)) g.0, omega (arith, g.1))
gap-on k i j hi hj (inr g) = inr (omega arith)

-- a sync behind its first ones
abbrev core : FS → List Three
core n = m000 ∷ m000 ∷ m010 ∷ m000 ∷ m000 ∷ m010 ∷ sync_id n

-- frame ds behind sync n with # h, and the next sync, n'
block : Bool → FS → List Two → FS → List Three
block h n ds n' = sync h n ++ ((modulated n ds).groups ++ sync (modulated n ds).terminated n')

module _ (h : Bool) (n : FS) (ds : List Two) (n' : FS) (full : length ds ≡ 634) where
  abbrev frame : List Three
  frame = (modulated n ds).groups

  abbrev h' : Bool
  h' = (modulated n ds).terminated

  abbrev whole : List ℕ
  whole = bits (block h n ds n')

  length-frame : length frame ≡ 634
  length-frame = size (last_bit false (sync_id n)) ds ∙ full

  -- it is cut in front of the sync's last one and behind the next sync's first ones, and in front of the next sync
  at_piece : whole ≡ bits (opening h) ++ (bits (piece n ds) ++ bits (core n'))
  unfolding block
  at_piece =
      ap (λ (l : List Three). bits (opening h ++ (m010 ∷ l))) regroup
      ∙ bits-append (opening h) (piece n ds ++ core n')
      ∙ ap (λ (l : List ℕ). bits (opening h) ++ l) (bits-append (piece n ds) (core n'))
    where
      regroup : sync_id n ++ (frame ++ (next h' ++ core n')) ≡ (sync_id n ++ framed (modulated n ds)) ++ core n'
      regroup = simp append_assoc

  at_next : whole ≡ bits (sync h n ++ frame) ++ bits (sync h' n')
  unfolding block
  at_next = ap bits (sym (append_assoc (sync h n) frame (sync h' n'))) ∙ bits-append (sync h n ++ frame) (sync h' n')

  length-piece : length (bits (piece n ds)) ≡ 1917
  length-piece =
      omega (
        arith,
        length-bits (piece n ds),
        length-append (sync_id n) (framed (modulated n ds)),
        length-sync_id n,
        length-append frame (next h'),
        length-frame,
      )

  length_front : length (bits (sync h n ++ frame)) ≡ 1932
  length_front = omega (arith, length-bits (sync h n ++ frame), length-append (sync h n) frame, length-sync h n, length-frame)

  -- bit p of the next sync
  next-bit : (p : ℕ) → get_or whole (1932 + p) 0 ≡ get_or (bits (sync h' n')) p 0
  next-bit p =
      ap (λ (l : List ℕ). get_or l (1932 + p) 0) at_next
      ∙ ap (λ (k : ℕ). get_or (bits (sync h n ++ frame) ++ bits (sync h' n')) (k + p) 0) (sym length_front)
      ∙ get_or-append-add (bits (sync h n ++ frame)) (bits (sync h' n')) p 0

  block-spaced : (i j : ℕ) → Neighbours whole i j → 22 ≤ i → Gap EndsLong i j
  block-spaced i j m g =
      ⊎_elim
      (λ l. inr (in-piece l (in-second (bits (opening h)) (bits (piece n ds) ++ bits (core n')) i j (omega arith) (subst (λ (b : List ℕ). Neighbours b i j) at_piece m))))
      (λ l. gap-on 1 i j (omega arith) m.before
      (subst (λ (k : ℕ). Gap EndsLong (i - k) (j - k)) length_front
      (sync-spaced h' n' (i - length (bits (sync h n ++ frame))) (j - length (bits (sync h n ++ frame)))
      (in-second (bits (sync h n ++ frame)) (bits (sync h' n')) i j (omega (arith, length_front)) (subst (λ (b : List ℕ). Neighbours b i j) at_next m)))))
      (one_side whole 1936 i j (next-bit 4) m)
    where
      in-piece : j ≤ 1936 → Neighbours (bits (piece n ds) ++ bits (core n')) (i - 21) (j - 21) → (i + 2 ≤ j) × (j ≤ i + 8)
      in-piece l p =
          let f = fine-gaps (bits (piece n ds)) 1 6 (piece-fine n ds) (i - 21) (j - 21) (in-first (bits (piece n ds)) (bits (core n')) (i - 21) (j - 21) (omega (arith, length-piece)) p) in
          omega (arith, m.before)

  block-no-seven : (i : ℕ) → 16 ≤ i → take 15 (drop i whole) ≡ seven → ⊥
  unfolding block
  block-no-seven i g e =
      elim (dec_lt i 21) [
        | yes l ↦ no-two-zeros whole i e 20 (omega arith) (omega arith) refl refl
        | no l ↦
            elim (dec_lt i 1924) [
              | yes l' ↦
                  fine-no-seven (bits (piece n ds)) 1 6 (omega arith) (piece-fine n ds) (i - 21)
                  (window-first (bits (piece n ds)) (bits (core n')) (i - 21) (omega (arith, length-piece))
                  (window-second (bits (opening h)) (bits (piece n ds) ++ bits (core n')) i (omega arith) (ap (λ (b : List ℕ). take 15 (drop i b)) (sym at_piece) ∙ e)))
              | no l' ↦
                  elim (dec_lt i 1938) [
                    | yes l'' ↦ no-two-zeros whole i e 1937 (omega arith) (omega arith) (next-bit 5) (next-bit 6)
                    | no l'' ↦
                        sync-no-seven h' n' (i - length (bits (sync h n ++ frame)))
                        (window-second (bits (sync h n ++ frame)) (bits (sync h' n')) i (omega (arith, length_front)) (ap (λ (b : List ℕ). take 15 (drop i b)) (sym at_next) ∙ e))
                  ]
            ]
      ]

-- ---- a run of frames

long-first : (a t : List ℕ) {s : ℕ} → LongGaps a s → LongGaps (a ++ t) s
long-first a t g = record { first = first-in a t g.first; second = first-in a t g.second }

long-second : (a t : List ℕ) → LongGaps t 0 → LongGaps (a ++ t) (length a)
long-second a t g = record { first = second-in a t g.first; second = second-in a t g.second }

module _ (c : Recording) where
  abbrev sync_at : ℕ → List Three
  sync_at k = sync (hash c k) (c.number k)

  abbrev block_at : ℕ → List Three
  block_at k = block (hash c k) (c.number k) (c.frames k) (c.number (suc k))

  -- one frame more: behind the frames before it, and behind the run that ended with its sync
  more-block : (n : ℕ) → bits (stream c (suc n)) ≡ bits (run c n) ++ bits (block_at n)
  unfolding run block
  more-block n = ap bits regroup ∙ bits-append (run c n) (block_at n)
    where
      regroup : stream c (suc n) ≡ run c n ++ block_at n
      regroup = simp append_assoc

  more-stream : (n : ℕ) → bits (stream c (suc n)) ≡ bits (stream c n) ++ bits ((modulated (c.number n) (c.frames n)).groups ++ sync_at (suc n))
  unfolding run
  more-stream n = ap bits regroup ∙ bits-append (stream c n) ((modulated (c.number n) (c.frames n)).groups ++ sync_at (suc n))
    where
      regroup : stream c (suc n) ≡ stream c n ++ ((modulated (c.number n) (c.frames n)).groups ++ sync_at (suc n))
      regroup = simp append_assoc

  last-long : (n : ℕ) → Full c n → LongGaps (bits (stream c n)) (1932 * n)
  last-long n full =
      subst (λ (l : List ℕ). LongGaps l (1932 * n)) (sym (bits-append (run c n) (sync_at n)))
      (subst (LongGaps (bits (run c n) ++ bits (sync_at n))) (length-run-bits c n full) (long-second (bits (run c n)) (bits (sync_at n)) (sync-long (hash c n) (c.number n))))

  pub long-gaps : (n : ℕ) → Full c n → (k : ℕ) → k ≤ n → LongGaps (bits (stream c n)) (1932 * k)
  long-gaps zero full k h = subst (λ (p : ℕ). LongGaps (bits (stream c 0)) (1932 * p)) (none h) (last-long 0 full)
    where
      none : k ≤ 0 → 0 ≡ k
      none h = omega arith
  long-gaps (suc n) full k h =
      ⊎_elim (λ e. subst (λ (p : ℕ). LongGaps (bits (stream c (suc n))) (1932 * p)) (sym e) (last-long (suc n) full))
      (λ l. subst (λ (b : List ℕ). LongGaps b (1932 * k)) (sym (more-stream n))
      (long-first (bits (stream c n)) _ (long-gaps n (full-less c n full) k (le_of_suc-le-suc l))))
      (eq-or-lt_of_le h)

  pub spaced : (n : ℕ) → Full c n → Spaced EndsLong (bits (stream c n))
  unfolding run
  spaced zero full = sync-spaced c.first (c.number 0)
  spaced (suc n) full = λ i j m.
      let before = full-less c n full in
      let front = length-run-bits c n before in
      ⊎_elim
      (λ l. spaced n before i j
      (in-first (bits (stream c n)) _ i j (omega (arith, length-stream c n before)) (subst (λ (b : List ℕ). Neighbours b i j) (more-stream n) m)))
      (λ l. gap-on n i j (omega arith) m.before
      (block-spaced (hash c n) (c.number n) (c.frames n) (c.number (suc n)) (full n (omega arith)) (i - 1932 * n) (j - 1932 * n)
      (subst (λ (k : ℕ). Neighbours (bits (block_at n)) (i - k) (j - k)) front
      (in-second (bits (run c n)) (bits (block_at n)) i j (omega arith) (subst (λ (b : List ℕ). Neighbours b i j) (more-block n) m)))
      (omega arith)))
      (one_side (bits (stream c (suc n))) (1932 * n + 22) i j (long-gaps (suc n) full n (omega arith)).second.one-j m)

  pub no_seven : (n : ℕ) → Full c n → NoSeven (bits (stream c n))
  unfolding run
  no_seven zero full i e = sync-no-seven c.first (c.number 0) i e
  no_seven (suc n) full i e =
      let before = full-less c n full in
      elim (dec_lt (i + 15) (1932 * n + 31)) [
        | yes l ↦
            no_seven n before i
            (window-first (bits (stream c n)) _ i (omega (arith, length-stream c n before)) (ap (λ (b : List ℕ). take 15 (drop i b)) (sym (more-stream n)) ∙ e))
        | no l ↦
            block-no-seven (hash c n) (c.number n) (c.frames n) (c.number (suc n)) (full n (omega arith)) (i - length (bits (run c n)))
            (omega (arith, length-run-bits c n before))
            (window-second (bits (run c n)) (bits (block_at n)) i (omega (arith, length-run-bits c n before)) (ap (λ (b : List ℕ). take 15 (drop i b)) (sym (more-block n)) ∙ e))
      ]
