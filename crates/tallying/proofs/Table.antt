-- The tally's table: how long it is, and how it is put together. Assumes nothing.
use mathlib.Core.Path.{◌≡◌, refl, sym, ap, ap₂, ◌∙◌}
use mathlib.Core.Bool.{Bool, true, false, cond}
use mathlib.Core.List.{List, [], ◌∷◌, ◌++◌, append_assoc}
use Prim.Native.Nat.{ℕ, suc, ◌+◌, ◌*◌, ◌≤◌, ◌<◌}
use native.Mathlib.Numerals.{add-one}
use native.Mathlib.Omega.{arith}
use borrow.Author.Tests.{lt-ltb}
use lib.ListN.{length, length-append, get_or, drop}
use lib.Seq.{drop-cons, drop-length}
use Rattle.std.specs.Prelude.{Option}
use Rattle.texts.specs.declared.Text.{Text}
use Rattle.texts.specs.Text.{the, text_of, blank_text, added}
use Rattle.texts.specs.Numbers.{decimal_to, decimal}
use Rattle.texts.proofs.Texts.{added-two, from-blank}
use Rattle.texts.proofs.Numbers.{decimal-short}
use Rattle.gaps.specs.declared.Tally.{Tally}
use Rattle.tallying.specs.Table.{row, rows_from, tally_from, tally_text}

-- ---- it has room

one-digit : (n : ℕ) → n < 10 → length (decimal n) ≡ 1
unfolding decimal_to
one-digit n h = simp (lt-ltb _ _ h)

rows_short : (n : ℕ) (counts : List ℕ) → n + length counts ≤ 10 → length (rows_from n counts) ≤ 23 * length counts
unfolding rows_from row
rows_short n [] h = omega arith
rows_short n (x ∷ counts) h =
    let one : length (decimal n) ≡ 1 = one-digit n (omega arith) in
    simp length-append (omega (arith, decimal-short 20 x, rows_short (suc n) counts (omega arith)))

pub tally-short : (tally : Tally) → length tally.counts ≡ 8 → length (tally_text tally) ≤ 256
unfolding tally_text
tally-short tally h = by tally.accepted (rows_short 1 tally.counts (omega arith))
  where
    by : (t : Bool) → length (rows_from 1 tally.counts) ≤ 23 * length tally.counts → length (cond t (the "gap count\n" ++ rows_from 1 tally.counts) (the "refused\n")) ≤ 256
    by true s = omega arith
    by false s = omega arith

-- ---- its rows; b is the blank text that is begun with

pub row_is : (gap count : ℕ) (text t u : Text) → t ≡ added text (decimal gap) → u ≡ added t (the " " ++ decimal count ++ the "\n") → u ≡ added text (row gap count)
unfolding row
row_is gap count text t u ht hu =
    let same : decimal gap ++ (the " " ++ decimal count ++ the "\n") ≡ row gap count = simp append_assoc in
    added-two text (decimal gap) (the " " ++ decimal count ++ the "\n") t u ht hu ∙ ap (added text) same

-- in a loop: the rows from length k + 1 on are put behind what is done
pub record Rows (text : Text) (counts : List ℕ) (done : Text) (k : ℕ) : Type 0 where
  pub size : length counts ≡ 8
  pub within : k ≤ 8
  pub rest : added done (rows_from (k + 1) (drop k counts)) ≡ added text (rows_from 1 counts)

pub rows_none : (text : Text) (counts : List ℕ) → length counts ≡ 8 → Rows text counts text 0
rows_none text counts h = record { size = h; within = omega arith; rest = refl }

pub rows_more : {text : Text} {counts : List ℕ} {done next : Text} {k : ℕ} → Rows text counts done k → k < 8 → next ≡ added done (row (k + 1) (get_or counts k 0)) → Rows text counts next (k + 1)
unfolding rows_from
rows_more {text} {counts} {done} {next} {k} r h e =
    let within : k < length counts = omega (arith, r.size) in
    let front : rows_from (k + 1) (drop k counts) ≡ row (k + 1) (get_or counts k 0) ++ rows_from (suc (k + 1)) (drop (suc k) counts) =
    ap (rows_from (k + 1)) (drop-cons counts k 0 within) in
    let step = added-two done (row (k + 1) (get_or counts k 0)) (rows_from (suc (k + 1)) (drop (suc k) counts)) next _ e refl in
    record { size = r.size; within = omega arith; rest = ap₂ (λ (m j : ℕ). added next (rows_from m (drop j counts))) (add-one (k + 1)) (add-one k) ∙ step ∙ ap (added done) (sym front) ∙ r.rest }

pub rows_all : {text : Text} {counts : List ℕ} {done : Text} {k : ℕ} → Rows text counts done k → 8 ≤ k → done ≡ added text (rows_from 1 counts)
unfolding rows_from added
rows_all {text} {counts} {done} {k} r h =
    let e : k ≡ length counts = omega (arith, r.size, r.within) in
    sym (ap (λ (l : List ℕ). added done (rows_from (k + 1) l)) (ap (λ (j : ℕ). drop j counts) e ∙ drop-length counts)) ∙ r.rest

pub table_is : (tally : Tally) (b t u : Text) → length tally.counts ≡ 8 → tally.accepted ≡ true → b ≡ blank_text → t ≡ added b (the "gap count\n")
    → u ≡ added t (rows_from 1 tally.counts) → u ≡ text_of (tally_text tally)
unfolding tally_text
table_is tally b t u size given hb ht hu =
    let same : the "gap count\n" ++ rows_from 1 tally.counts ≡ tally_text tally = simp given in
    from-blank (tally_text tally) u (tally-short tally size) (added-two b (the "gap count\n") (rows_from 1 tally.counts) t u ht hu ∙ ap₂ added hb same)

pub refusal_is : (tally : Tally) (b t : Text) → tally.accepted ≡ false → b ≡ blank_text → t ≡ added b (the "refused\n") → t ≡ text_of (tally_text tally)
unfolding tally_text
refusal_is tally b t given hb ht =
    let same : the "refused\n" ≡ tally_text tally = simp given in
    from-blank (tally_text tally) t (rw (sym same) (omega arith)) (ht ∙ ap₂ added hb same)

pub tally-is : (a b : Tally) (t : Text) → a ≡ b → t ≡ text_of (tally_text a) → t ≡ text_of (tally_text b)
tally-is a b t e h = h ∙ ap (λ (x : Tally). text_of (tally_text x)) e

pub tally-from-is : (a : Tally) (f g : Option (List ℕ)) (t : Text) → a ≡ tally_from f → f ≡ g → t ≡ text_of (tally_text a) → t ≡ text_of (tally_text (tally_from g))
tally-from-is a f g t ha hf h = tally-is a (tally_from g) t (ha ∙ ap tally_from hf) h
