-- The lines of a text, and one that is read byte by byte. Assumes nothing.
use mathlib.Core.Path.{◌≡◌, refl, sym, ap, ◌∙◌}
use mathlib.Core.Bool.{Bool, true, false, cond, false≢true}
use mathlib.Core.List.{List, [], ◌∷◌, ◌++◌}
use Prim.Native.Nat.{ℕ, suc, ◌+◌, ◌<◌, ◌≤◌}
use native.Mathlib.Omega.{arith}
use borrow.Author.Tests.{eq-eqb, ne_eqb}
use lib.Dec.{eqb}
use lib.ListN.{length, take, set, length-set, length-append}
use lib.Seq.{take-suc-set}
use Rattle.queue_lines.specs.declared.RecordLine.{RecordLine}
use Rattle.queue_lines.specs.Lines.{begun_by, lines_of}
use Rattle.queue_lines.specs.steps.Reading.{HoldsRecordLine, unbroken}

-- ---- where a line ends

pub unbroken-more : (l : List ℕ) (b : ℕ) → (b ≡ 10 → ⊥) → unbroken l ≡ true → unbroken (l ++ (b ∷ [])) ≡ true
unfolding unbroken
unbroken-more [] b h e = ap (λ (t : Bool). cond t false true) (ne_eqb b 10 h)
unbroken-more (c ∷ l) b h e = by (eqb c 10) e (unbroken-more l b h)
  where
    by : (t : Bool) → cond t false (unbroken l) ≡ true → (unbroken l ≡ true → unbroken (l ++ (b ∷ [])) ≡ true) → cond t false (unbroken (l ++ (b ∷ []))) ≡ true
    by true e rest = absurd (false≢true e)
    by false e rest = rest e

-- a byte of a line
module _ (b : ℕ) (l : List ℕ) where
  pub split-byte : unbroken (b ∷ l) ≡ true → (b ≡ 10 → ⊥) × (unbroken l ≡ true)
  unfolding unbroken
  split-byte e = by (eqb b 10) refl e
    where
      by : (t : Bool) → eqb b 10 ≡ t → cond t false (unbroken l) ≡ true → (b ≡ 10 → ⊥) × (unbroken l ≡ true)
      by true t e = absurd (false≢true e)
      by false t e = (λ z. false≢true (sym t ∙ eq-eqb b 10 z), e)

  pub lines-byte : (b ≡ 10 → ⊥) → lines_of (b ∷ l) ≡ begun_by b (lines_of l)
  unfolding lines_of
  lines-byte h = ap (λ (t : Bool). cond t ([] ∷ lines_of l) (begun_by b (lines_of l))) (ne_eqb b 10 h)

  pub lines-feed : b ≡ 10 → lines_of (b ∷ l) ≡ [] ∷ lines_of l
  unfolding lines_of
  lines-feed e = ap (λ (t : Bool). cond t ([] ∷ lines_of l) (begun_by b (lines_of l))) (eq-eqb b 10 e)

-- a line feed ends it
pub line-ended : (l rest : List ℕ) (b : ℕ) → b ≡ 10 → unbroken l ≡ true → lines_of (l ++ (b ∷ rest)) ≡ l ∷ lines_of rest
line-ended [] rest b feed e = lines-feed b rest feed
line-ended (c ∷ l) rest b feed e =
    let here = split-byte c l e in
    lines-byte c (l ++ (b ∷ rest)) here.0 ∙ ap (begun_by c) (line-ended l rest b feed here.1)

-- and so does the end of the text, unless the line is empty
pub line-last : (l : List ℕ) → unbroken l ≡ true → (length l ≡ 0 → ⊥) → lines_of l ≡ l ∷ []
unfolding lines_of
line-last [] e some = absurd (some refl)
line-last (b ∷ []) e some = lines-byte b [] (split-byte b [] e).0
line-last (b ∷ (c ∷ l)) e some =
    let here = split-byte b (c ∷ l) e in
    lines-byte b (c ∷ l) here.0 ∙ ap (begun_by b) (line-last (c ∷ l) here.1 (λ z. omega (arith, z)))

-- ---- a line that is being read

module _ {begun : List ℕ} {line : RecordLine} (holds : HoldsRecordLine begun line) (b : ℕ) where
  longer : length (begun ++ (b ∷ [])) ≡ suc (length begun)
  longer = omega (arith, length-append begun (b ∷ []))

  -- the twelve bytes are there already
  pub record-line-full : 12 ≤ line.size → HoldsRecordLine (begun ++ (b ∷ [])) (record { text = line.text; size = 13 })
  record-line-full h =
      let whole : 12 ≤ length begun = omega (arith, h, holds.size) in
      record { room = holds.room; size = omega (arith, whole, longer); bytes = λ few. absurd (omega (arith, few, whole, longer)) }

  -- they are not
  pub record-line-more : line.size < 12 → HoldsRecordLine (begun ++ (b ∷ [])) (record { text = set line.text line.size b; size = line.size + 1 })
  record-line-more h =
      record {
        room = length-set line.text line.size b ∙ holds.room;
        size = omega (arith, all, longer, h);
        bytes = λ _.
            ap (λ (n : ℕ). take n (set line.text line.size b)) one
            ∙ take-suc-set line.text line.size b (omega (arith, h, holds.room))
            ∙ ap (λ (l : List ℕ). l ++ (b ∷ [])) (ap (λ (n : ℕ). take n line.text) all ∙ holds.bytes (omega (arith, h, all)));
      }
    where
      all : line.size ≡ length begun
      all = omega (arith, holds.size, h)

      one : length (begun ++ (b ∷ [])) ≡ suc line.size
      one = omega (arith, all, longer)
