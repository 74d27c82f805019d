-- Whether a row fits at the front of pairs, by its condition. Assumes nothing.
use mathlib.Core.Bool.{Bool, true, false, ◌&&◌}
use mathlib.Core.List.{List, [], ◌∷◌, tail}
use mathlib.Core.Path.{◌≡◌, sym, ap, ◌∙◌}
use Prim.Native.Nat.{ℕ, zero, suc, ◌*◌, ◌-◌, ◌%◌, ◌^◌, ◌<◌, ◌≤◌}
use native.Mathlib.Nat.{not-suc-le-zero}
use native.Mathlib.Omega.{arith}
use borrow.Author.Tests.{leb-true}
use lib.Dec.{eqb, leb}
use lib.ListN.{length, drop}
use lib.Seq.{drop-nil}
use Rattle.modulation.specs.Modulation.{Two, two_number, When, before-010, at-end, row_at, starts, starts_with010, allowed, fits, Modulated, modulate_from, modulate}
use Rattle.laws.proofs.Booleans.{and_left}
use Rattle.modulation.proofs.Fronts.{pairs_start}
use Rattle.modulation.proofs.Words.{drop-behind, skip, next_bit}
use Rattle.conversion.specs.declared.Row.{Row as CodeRow}
use Rattle.conversion.specs.declared.When.{When as CodeWhen}
use Rattle.conversion.specs.steps.Rows.{IsRow}
use Rattle.conversion.specs.steps.Few.{few_pairs}
use Rattle.conversion.proofs.CodedRows.{code-sized, when_of, code-when}
use Rattle.conversion.proofs.FewPairs.{few-size, few-rest}
use Rattle.conversion.proofs.Next.{next-010}

-- behind a word of n pairs
behind-word : (ds : List Two) (n : ℕ) → 1 ≤ n → drop (n - 1) (tail ds) ≡ drop n ds
behind-word [] zero h = absurd (not-suc-le-zero h)
behind-word [] (suc n) h = drop-nil (suc n - 1)
behind-word (d ∷ ds) n h = drop-behind d ds n h

module _ (n p : ℕ) (before : Bool) where
  abbrev ds : List Two
  ds = few_pairs n p

  -- ---- the condition

  module _ {k : ℕ} {r : CodeRow} (row : IsRow k r) where
    abbrev allowed_for : When → Bool
    allowed_for w = allowed (row_at k) w before ds (modulate_from (tail ds))

    pub allowed-if : {w : CodeWhen} {y : Bool} → r.when ≡ w → y ≡ allowed_for (when_of w) → y ≡ allowed_for (row_at k).when
    allowed-if q a = a ∙ ap allowed_for (ap when_of (sym q) ∙ sym (code-when row))

    pub allowed-before-010 : {rest : ℕ} {y : Bool} → p < 2 ^ (2 * n) → rest ≡ p % 2 ^ (2 * (n - r.pairs))
        → y ≡ starts_with010 (modulate false (few_pairs (n - r.pairs) rest)).groups → y ≡ allowed_for before-010
    allowed-before-010 {rest} small er q =
        let len = length (row_at k).pairs in
        q
        ∙ ap (λ (l : List Two). starts_with010 (modulate false l).groups) (ap (few_pairs (n - r.pairs)) er ∙ few-rest n p small r.pairs)
        ∙ ap (λ (m : ℕ). starts_with010 (modulate false (drop m ds)).groups) (code-sized row).pairs-are
        ∙ next-010 false (drop len ds)
        ∙ sym (next-010 (next_bit (row_at k)) (drop len ds))
        ∙ ap (λ (f : Modulated). starts_with010 f.groups)
        (sym (skip (tail ds) (len - 1) (next_bit (row_at k)) ∙ ap (modulate (next_bit (row_at k))) (behind-word ds len (omega (arith, code-sized row)))))

    pub allowed-at-end : eqb r.pairs n ≡ allowed_for at-end
    allowed-at-end = ap (λ (m : ℕ). eqb m n) (code-sized row).pairs-are ∙ ap (eqb (length (row_at k).pairs)) (sym (few-size n p))

  -- ---- the row

  module _ (k : ℕ) {x : Bool} (s : x ≡ starts two_number (row_at k).pairs ds) where
    pub fits_not : x ≡ false → false ≡ fits (row_at k) before ds (modulate_from (tail ds))
    fits_not f = ap (λ (y : Bool). y && allowed (row_at k) (row_at k).when before ds (modulate_from (tail ds))) (sym f ∙ s)

    pub fits-if : x ≡ true → {y : Bool} → y ≡ allowed (row_at k) (row_at k).when before ds (modulate_from (tail ds)) → y ≡ fits (row_at k) before ds (modulate_from (tail ds))
    fits-if t a = a ∙ ap (λ (z : Bool). z && allowed (row_at k) (row_at k).when before ds (modulate_from (tail ds))) (sym t ∙ s)

    -- its pairs are there
    pub fits-within : x ≡ true → length (row_at k).pairs ≤ n
    fits-within t =
        let len = length (row_at k).pairs in
        let standing = sym (pairs_start (row_at k).pairs ds) ∙ sym s ∙ t in
        omega (arith, leb-true len (length ds) (and_left (leb len (length ds)) _ standing), few-size n p)
