-- What reads as a frame: existence, uniqueness, and the test that decides it. Assumes nothing.
use mathlib.Core.Bool.{Bool, true, false, ◌&&◌, beq, cond, true≢false}
use mathlib.Core.List.{List, ◌++◌, append-nil}
use mathlib.Core.Logic.{◌↔◌}
use mathlib.Core.Path.{◌≡◌, refl, sym, ap, subst, ◌∙◌}
use Prim.Native.Nat.{ℕ, ◌*◌, ◌^◌, ◌<◌}
use native.Mathlib.Omega.{arith}
use borrow.Author.Tests.{eq-eqb, eqb-true}
use lib.Dec.{eqb}
use lib.ListN.{length, take, drop, length-drop, drop_of_length-le}
use lib.Seq.{take_all, take_at, drop_at, length-take-le}
use Rattle.std.specs.Prelude.{Option, Some, None}
use Rattle.laws.specs.Bytes.{Bytes}
use Rattle.modulation.specs.Modulation.{Two, last_bit, Modulated, modulate}
use Rattle.modulation.specs.Bits.{pairs, data_bits, groups, bits, Gives}
use Rattle.modulation.specs.Sync.{FS, sync_id}
use Rattle.modulation.specs.Stream.{modulated}
use Rattle.modulation.specs.Demodulator.{demodulate}
use Rattle.modulation.specs.steps.Words.{bits_in, WordsRead}
use Rattle.modulation.proofs.Bits.{length-bits, groups-bits, length_pairs, length-data_bits, pairs-data_bits}
use Rattle.modulation.proofs.Fronts.{bits-data_bits}
use Rattle.modulation.proofs.Size.{size}
use Rattle.laws.proofs.Booleans.{and_left, and_right, and-true, true-T, beq_same, beq-refl}
use Rattle.modulation.proofs.Statements.{comes_back, injective}
use Rattle.frame_bits.specs.FrameBits.{frame_bits, row_from, dc_from}
use Rattle.frame.specs.Frame.{frame_pairs, next_hash}
use Rattle.laws.specs.Same.{same}
use Rattle.frame.specs.Reading.{BitsGive, RowGives, StrictlyRead, bits_read, readable, frame_read, row_left}
use Rattle.frame.specs.steps.Taken.{Taken}
use Rattle.laws.proofs.Same.{same_true, same_refl}
use Rattle.frame_bits.proofs.FrameBits.{length-frame-bits, frame-bits-bits, frame-bits-back, frame-bits-inj, length-row, bytes-row, dc-word-lt}
use Rattle.frame_bits.proofs.Unweaving.{length-words-bits, words-bits-bits}

-- ---- bits, and row and dc word

module _ {n : FS} {m : List ℕ} {hash : Bool} where
  pub row-bits : {row : List ℕ} {dc : ℕ} → RowGives n row dc m hash → BitsGive n (frame_bits row dc) m hash
  row-bits {row} {dc} r =
      record {
        size = length-frame-bits row dc;
        are-bits = frame-bits-bits row dc;
        gives = record { same_bits = r.bits_are; same_end = r.next-is };
      }

  pub bits-row : {b : List ℕ} → BitsGive n b m hash → RowGives n (row_from b) (dc_from b) m hash
  bits-row {b} g =
      let back = frame-bits-back b g.are-bits g.size in
      record {
        size = length-row b g.are-bits;
        bytes = bytes-row b g.are-bits;
        small = dc-word-lt b g.are-bits;
        bits_are = ap (λ (l : List ℕ). bits (modulated n (pairs l)).groups) back ∙ g.gives.same_bits;
        next-is = ap (λ (l : List ℕ). (modulated n (pairs l)).terminated) back ∙ g.gives.same_end;
      }

  -- the data bits are the only ones
  pub bits-unique : {b c : List ℕ} → BitsGive n b m hash → BitsGive n c m hash → b ≡ c
  bits-unique {b} {c} g h =
      injective (last_bit false (sync_id n)) b c g.are-bits h.are-bits (rw g.size) (rw h.size) (g.gives.same_bits ∙ sym h.gives.same_bits)
      (g.gives.same_end ∙ sym h.gives.same_end)

  -- and so are row and dc word
  pub row-unique : {row row' : List ℕ} {dc dc' : ℕ} → RowGives n row dc m hash → RowGives n row' dc' m hash → (row ≡ row') × (dc ≡ dc')
  row-unique {row} {row'} {dc} {dc'} r s =
      frame-bits-inj row row' dc dc' r.size s.size r.bytes s.bytes r.small s.small (bits-unique (row-bits r) (row-bits s))

-- a row and a dc word give what is written of them
pub row_gives : (n : FS) (row : List ℕ) (dc : ℕ) → length row ≡ 155 → Bytes row → dc < 2 ^ 28
    → RowGives n row dc (bits (modulated n (frame_pairs row dc)).groups) (next_hash n row dc)
row_gives n row dc size bytes small = record { size = size; bytes = bytes; small = small; bits_are = refl; next-is = refl }

-- ---- the test

module _ (n : FS) (m : List ℕ) (hash : Bool) where
  -- whatever gives m and # is what the demodulator finds
  pub bits-read : {b : List ℕ} → BitsGive n b m hash → b ≡ bits_read n m hash
  unfolding bits_read
  bits-read {b} g = sym (comes_back before b g.are-bits (rw g.size)) ∙ ap (λ (f : Modulated). data_bits (demodulate before f)) is
    where
      before : Bool
      before = last_bit false (sync_id n)

      is : modulate before (pairs b) ≡ record { groups = groups m; terminated = hash }
      is = λ i. record { groups = (sym (groups-bits (modulate before (pairs b)).groups) ∙ ap groups g.gives.same_bits) i; terminated = g.gives.same_end i }

  length-given : {ds : List Two} → Gives (last_bit false (sync_id n)) ds m hash → length m ≡ 3 * length ds
  length-given {ds} g =
      sym (ap length g.same_bits)
      ∙ length-bits (modulated n ds).groups
      ∙ ap (λ (k : ℕ). 3 * k) (size (last_bit false (sync_id n)) ds)

  pub gives-readable : {b : List ℕ} → BitsGive n b m hash → readable n m hash ≡ true
  unfolding readable
  gives-readable {b} g =
      and-true (eqb (length m) 1902) _ (eq-eqb (length m) 1902 long)
      (and-true (same (bits f.groups) m) _
      (ap (same (bits f.groups)) (sym (ap (λ (l : List ℕ). bits (modulated n (pairs l)).groups) is ∙ g.gives.same_bits)) ∙ same_refl (bits f.groups))
      (ap (beq f.terminated) (sym (ap (λ (l : List ℕ). (modulated n (pairs l)).terminated) is ∙ g.gives.same_end)) ∙ beq-refl f.terminated))
    where
      is : bits_read n m hash ≡ b
      is = sym (bits-read g)

      f : Modulated
      f = modulated n (pairs (bits_read n m hash))

      long : length m ≡ 1902
      long = omega (arith, length-given g.gives, length_pairs b, g.size)

  pub readable-gives : readable n m hash ≡ true → BitsGive n (bits_read n m hash) m hash
  unfolding readable bits_read
  readable-gives e = record { size = long; are-bits = bits-data_bits ds; gives = subst (λ (l : List Two). Gives (last_bit false (sync_id n)) l m hash) (sym (pairs-data_bits ds)) given }
    where
      ds : List Two
      ds = demodulate (last_bit false (sync_id n)) (record { groups = groups m; terminated = hash })

      f : Modulated
      f = modulated n (pairs (data_bits ds))

      again : (same (bits f.groups) m && beq f.terminated hash) ≡ true
      again = and_right (eqb (length m) 1902) _ e

      given : Gives (last_bit false (sync_id n)) ds m hash
      given =
          record {
            same_bits = ap (λ (l : List Two). bits (modulated n l).groups) (sym (pairs-data_bits ds)) ∙ same_true (bits f.groups) m (and_left (same (bits f.groups) m) _ again);
            same_end = ap (λ (l : List Two). (modulated n l).terminated) (sym (pairs-data_bits ds)) ∙ beq_same f.terminated hash (true-T (beq f.terminated hash) (and_right (same (bits f.groups) m) _ again));
          }

      long : length (data_bits ds) ≡ 1268
      long = omega (arith, length-data_bits ds, length-given given, eqb-true (length m) 1902 (and_left (eqb (length m) 1902) _ e))

-- some bits give m and # if and only if the test says so
pub readable-iff : (n : FS) (m : List ℕ) (hash : Bool) → (readable n m hash ≡ true) ↔ ((b : List ℕ) × BitsGive n b m hash)
readable-iff n m hash = (λ e. (bits_read n m hash, readable-gives n m hash e), λ p. gives-readable n m hash p.1)

-- ---- the reader's answer

pub some-is : {x y : ℕ} → Some x ≡ Some y → x ≡ y
some-is e = cc

pub no_some : {x : ℕ} → Some x ≡ None → ⊥
no_some e = cc

module _ {n : FS} {m : List ℕ} {hash : Bool} {before after : List ℕ} {answer : Option ℕ} (r : StrictlyRead n m hash before answer after) where
  -- a row and a dc word that give m and # are what is answered
  pub read-row : {row : List ℕ} {dc : ℕ} → RowGives n row dc m hash → (answer ≡ Some dc) × (after ≡ row)
  read-row {row} {dc} g = go answer refl
    where
      go : (a : Option ℕ) → answer ≡ a → (answer ≡ Some dc) × (after ≡ row)
      go (Some x) e = let u = row-unique (r.found x e) g in (e ∙ ap Some u.1, u.0)
      go None e = absurd ((r.none e).1 (frame_bits row dc) (row-bits g))

  -- answer and row are those of the definition
  pub read_is : (answer ≡ frame_read n m hash) × (after ≡ row_left n m hash before)
  unfolding frame_read row_left
  read_is = go (readable n m hash) refl
    where
      b : List ℕ
      b = bits_read n m hash

      none : readable n m hash ≡ false → (a : Option ℕ) → answer ≡ a → answer ≡ None
      none f (Some x) e = absurd (true≢false (sym (gives-readable n m hash (row-bits (r.found x e))) ∙ f))
      none f None e = e

      go : (t : Bool) → readable n m hash ≡ t → (answer ≡ cond (readable n m hash) (Some (dc_from b)) None) × (after ≡ cond (readable n m hash) (row_from b) before)
      go true t = let u = read-row (bits-row (readable-gives n m hash t)) in rw t (u.0, u.1)
      go false t = let e = none t answer refl in rw t (e, (r.none e).0)

-- ---- what the automaton answers

-- the frame taken out of the words that were read, if any; b is the sync's last bit
pub reads : (n : FS) {b hash : Bool} {m before after : List ℕ} {words : Option (List ℕ)} {answer : Option ℕ} → b ≡ last_bit false (sync_id n) → WordsRead b m hash words
    → Taken words before answer after → StrictlyRead n m hash before answer after
reads n {b} {hash} {m} {before} {after} {words = Some ws} eb d t =
    record {
      found = λ v f. let same : v ≡ dc_from (bits_in ws) = some-is (sym f ∙ t.there.0) in rw (t.there.1, same) (bits-row words-give);
      none = λ f. absurd (no_some (sym t.there.0 ∙ f));
    }
  where
    words-give : BitsGive n (bits_in ws) m hash
    words-give =
        record {
          size = length-words-bits ws;
          are-bits = words-bits-bits ws;
          gives = subst (λ (y : Bool). Gives y (pairs (bits_in ws)) m hash) eb d.found;
        }
reads n {b} {hash} {m} {before} {after} {words = None} eb d t =
    record {
      found = λ dc f. absurd (no_some (sym f ∙ t.none.0));
      none = λ _. (t.none.1, λ c g. d.none (pairs c) (subst (λ (y : Bool). Gives y (pairs c) m hash) (sym eb) g.gives));
    }

-- ---- two rows in one slice

-- a row has 155 bytes, taken or not
taken-size : {words : Option (List ℕ)} {before after : List ℕ} {answer : Option ℕ} → Taken words before answer after → length before ≡ 155 → length after ≡ 155
taken-size {words = Some ws} t size = ap length t.there.1 ∙ length-row (bits_in ws) (words-bits-bits ws)
taken-size {words = None} t size = ap length t.none.1 ∙ size

-- p is left in the first half of rows, and then q in the second half
pub two-taken : (rows p q : List ℕ) {words more : Option (List ℕ)} {first second : Option ℕ} → length rows ≡ 310
    → Taken words (take 155 rows) first p → Taken more (take 155 (drop 155 (p ++ drop 155 rows))) second q
    → Taken words (take 155 rows) first (take 155 (take 155 (p ++ drop 155 rows) ++ (q ++ drop 155 (drop 155 (p ++ drop 155 rows)))))
    × Taken more (drop 155 rows) second (drop 155 (take 155 (p ++ drop 155 rows) ++ (q ++ drop 155 (drop 155 (p ++ drop 155 rows)))))
two-taken rows p q {words} {more} {first} {second} size t u = (
  subst (λ (l : List ℕ). Taken words (take 155 rows) first l) (sym (take_at kept (q ++ drop 155 (drop 155 both)) 155 kept-size ∙ is-p)) t,
  subst (λ (l : List ℕ). Taken more (drop 155 rows) second l) (sym is-q) (subst (λ (l : List ℕ). Taken more l second q) is-half u),
)
  where
    both : List ℕ
    both = p ++ drop 155 rows

    kept : List ℕ
    kept = take 155 both

    half : length (drop 155 rows) ≡ 155
    half = omega (arith, length-drop 155 rows)

    p-size : length p ≡ 155
    p-size = taken-size t (length-take-le 155 rows (omega arith))

    is-p : take 155 both ≡ p
    is-p = take_at p (drop 155 rows) 155 p-size

    kept-size : length kept ≡ 155
    kept-size = ap length is-p ∙ p-size

    behind : drop 155 both ≡ drop 155 rows
    behind = drop_at p (drop 155 rows) 155 p-size

    is-half : take 155 (drop 155 both) ≡ drop 155 rows
    is-half = ap (take 155) behind ∙ take_all 155 (drop 155 rows) (omega (arith, half))

    is-q : drop 155 (kept ++ (q ++ drop 155 (drop 155 both))) ≡ q
    is-q =
        drop_at kept (q ++ drop 155 (drop 155 both)) 155 kept-size
        ∙ ap (λ (l : List ℕ). q ++ l) (ap (drop 155) behind ∙ drop_of_length-le (drop 155 rows) {i = 155} (omega (arith, half)))
        ∙ append-nil q
