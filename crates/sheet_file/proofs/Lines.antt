-- A line, byte by byte. Assumes nothing.
use mathlib.Core.Path.{◌≡◌, refl, sym, ap, ◌∙◌}
use mathlib.Core.Bool.{Bool, true, false, cond}
use mathlib.Core.List.{List, [], ◌∷◌, ◌++◌}
use Prim.Native.Nat.{ℕ, zero, suc, ◌+◌, ◌<◌, ◌≤◌, min}
use native.Mathlib.Nat.{not-suc-le-zero, le_of_suc-le-suc}
use native.Mathlib.Omega.{arith}
use borrow.Author.Tests.{eq-eqb, ne_eqb, eqb-true, eqb-false}
use lib.Dec.{eqb}
use lib.ListN.{length, get_or, set, length-set, length-append, get_or-append}
use lib.Seq.{get_or-append-add}
use Rattle.laws.proofs.Fill.{upto-more}
use Rattle.laws.proofs.Tabulate.{is-tabulate}
use Rattle.std.specs.Prelude.{None}
use Rattle.notation.specs.Psn.{psn_of}
use Rattle.notation.proofs.Digits.{another-length}
use Rattle.sheet_file.specs.declared.Line.{Line}
use Rattle.sheet_file.specs.File.{is_white, trimmed_to, trimmed}
use Rattle.sheet_file.specs.steps.Reading.{shown_psn, HoldsLine}

-- ---- what stands on a line

-- a byte more
trimmed-more : (l : List ℕ) (b : ℕ) → trimmed (l ++ (b ∷ [])) ≡ cond (is_white b) (trimmed l) (l ++ (b ∷ []))
unfolding trimmed
trimmed-more [] b = refl
trimmed-more (c ∷ l) b = ap (trimmed_to c) (trimmed-more l b) ∙ by (is_white b)
  where
    front : (l : List ℕ) → trimmed_to c (l ++ (b ∷ [])) ≡ c ∷ (l ++ (b ∷ []))
    front [] = refl
    front (d ∷ l) = refl

    by : (t : Bool) → trimmed_to c (cond t (trimmed l) (l ++ (b ∷ []))) ≡ cond t (trimmed_to c (trimmed l)) (c ∷ (l ++ (b ∷ [])))
    by true = refl
    by false = front l

-- it is the front of the line
trimmed-at : (l : List ℕ) (k : ℕ) → k < length (trimmed l) → get_or (trimmed l) k 0 ≡ get_or l k 0
unfolding trimmed
trimmed-at [] k h = absurd (not-suc-le-zero h)
trimmed-at (b ∷ l) k h = by (trimmed l) (trimmed-at l) k h
  where
    white : (t : Bool) (k : ℕ) → k < length (cond t [] (b ∷ [])) → get_or (cond t [] (b ∷ [])) k 0 ≡ get_or (b ∷ l) k 0
    white true k h = absurd (not-suc-le-zero h)
    white false zero h = refl
    white false (suc k) h = absurd (not-suc-le-zero (le_of_suc-le-suc h))

    by : (t : List ℕ) → ((k : ℕ) → k < length t → get_or t k 0 ≡ get_or l k 0) → (k : ℕ) → k < length (trimmed_to b t) → get_or (trimmed_to b t) k 0 ≡ get_or (b ∷ l) k 0
    by [] rest k h = white (is_white b) k h
    by (c ∷ t) rest zero h = refl
    by (c ∷ t) rest (suc k) h = rest k (le_of_suc-le-suc h)

trimmed-short : (l : List ℕ) → length (trimmed l) ≤ length l
unfolding trimmed
trimmed-short [] = omega arith
trimmed-short (b ∷ l) = by (trimmed l) (trimmed-short l)
  where
    white : (t : Bool) → length (cond t [] (b ∷ [])) ≤ suc (length l)
    white true = omega arith
    white false = omega arith

    by : (t : List ℕ) → length t ≤ length l → length (trimmed_to b t) ≤ suc (length l)
    by [] h = white (is_white b)
    by (c ∷ t) h = omega arith

-- ---- a line that is being read

-- the size with a byte more, of which the old size and the whole length are known
size-more : (begun : List ℕ) (b size longer r : ℕ) → size ≡ min 9 (length (trimmed begun)) → longer ≡ min 9 (suc (length begun)) → r ≡ cond (is_white b) size longer
    → r ≡ min 9 (length (trimmed (begun ++ (b ∷ []))))
size-more begun b size longer r hs hl hr = hr ∙ by (is_white b) ∙ sym (ap (λ (l : List ℕ). min 9 (length l)) (trimmed-more begun b))
  where
    by : (t : Bool) → cond t size longer ≡ min 9 (length (cond t (trimmed begun) (begun ++ (b ∷ []))))
    by true = hs
    by false = omega (arith, hl, length-append begun (b ∷ []))

module _ (line : Line) (b r : ℕ) (begun : List ℕ) (holds : HoldsLine begun line) where
  longer : length (begun ++ (b ∷ [])) ≡ suc (length begun)
  longer = omega (arith, length-append begun (b ∷ []))

  -- the eight bytes are there already
  pub line-full : 8 ≤ line.held → r ≡ cond (is_white b) line.size 9 → HoldsLine (begun ++ (b ∷ [])) (record { text = line.text; held = line.held; size = r })
  line-full h hr =
      let whole : 8 ≤ length begun = omega (arith, h, holds.held) in
      record {
        room = holds.room;
        held = omega (arith, holds.held, whole, longer);
        bytes = λ k lt _. holds.bytes k lt (omega arith) ∙ sym (get_or-append begun (b ∷ []) 0 k (omega arith));
        size = size-more begun b line.size 9 r holds.size (omega (arith, whole)) hr;
      }

  -- they are not
  pub line-more : line.held < 8 → r ≡ cond (is_white b) line.size (line.held + 1)
      → HoldsLine (begun ++ (b ∷ [])) (record { text = set line.text line.held b; held = line.held + 1; size = r })
  line-more h hr =
      record {
        room = length-set line.text line.held b ∙ holds.room;
        held = omega (arith, all, longer);
        bytes = at;
        size = size-more begun b line.size (line.held + 1) r holds.size (omega (arith, all, h)) hr;
      }
    where
      all : line.held ≡ length begun
      all = omega (arith, holds.held, h)

      last : b ≡ get_or (begun ++ (b ∷ [])) line.held 0
      last = sym (ap (λ (j : ℕ). get_or (begun ++ (b ∷ [])) j 0) {y = length begun + 0} (omega (arith, all)) ∙ get_or-append-add begun (b ∷ []) 0 0)

      at : (k : ℕ) → k < 8 → k < length (begun ++ (b ∷ [])) → get_or (set line.text line.held b) k 0 ≡ get_or (begun ++ (b ∷ [])) k 0
      at k lt within =
          (upto-more {f = λ k. get_or (begun ++ (b ∷ [])) k 0} {n = 8} {i = line.held} {l = line.text} {v = b} h last
          (record {
            within = omega (arith, h);
            size = holds.room;
            below = λ k old. holds.bytes k (omega (arith, old, h)) (omega (arith, old, all)) ∙ sym (get_or-append begun (b ∷ []) 0 k (omega (arith, old, all)));
          })
          ).below k (omega (arith, within, longer, all))

-- the PSN that is shown is that of what stands on the line
pub line-psn : {begun : List ℕ} {line : Line} → HoldsLine begun line → shown_psn line.text line.size ≡ psn_of (trimmed begun)
line-psn {begun} {line} holds = by (eqb (length (trimmed begun)) 8) refl
  where
    at : length (trimmed begun) ≡ 8 → (k : ℕ) → k < 8 → get_or line.text k 0 ≡ get_or (trimmed begun) k 0
    at e k lt = holds.bytes k lt (omega (arith, e, lt, trimmed-short begun)) ∙ sym (trimmed-at begun k (omega (arith, e, lt)))

    by : (t : Bool) → eqb (length (trimmed begun)) 8 ≡ t → shown_psn line.text line.size ≡ psn_of (trimmed begun)
    by true t =
        let e = eqb-true (length (trimmed begun)) 8 t in
        ap (λ (u : Bool). cond u (psn_of line.text) None) (eq-eqb line.size 8 (omega (arith, holds.size, e)))
        ∙ ap psn_of (is-tabulate 0 8 (λ k. get_or (trimmed begun) k 0) line.text holds.room (at e) ∙ sym (is-tabulate 0 8 (λ k. get_or (trimmed begun) k 0) (trimmed begun) e (λ k _. refl)))
    by false t =
        let other = eqb-false (length (trimmed begun)) 8 t in
        ap (λ (u : Bool). cond u (psn_of line.text) None) (ne_eqb line.size 8 (λ e. other (omega (arith, holds.size, e))))
        ∙ another-length (trimmed begun) other
