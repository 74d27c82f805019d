-- Whether the next modulation bits are 010 is told by the first row whose pairs stand there: conditions do not change it. Assumes nothing.
use mathlib.Core.Bool.{Bool, false}
use mathlib.Core.List.{List, [], ◌∷◌}
use mathlib.Core.Path.{◌≡◌, refl, sym, ap, ◌∙◌}
use Prim.Native.Nat.{ℕ, ◌≤◌}
use lib.ListN.{get_or-eq_default}
use Rattle.laws.specs.First.{first}
use Rattle.modulation.specs.Modulation.{Two, d00, d01, d10, d11, Row, rows, no_row, row_at, starts_with010, modulate_from, modulate}
use Rattle.modulation.proofs.Machine.{next-11}
use Rattle.conversion.specs.steps.Few.{standing_row}

pub next-010 : (b : Bool) (ds : List Two) → starts_with010 (modulate b ds).groups ≡ starts_with010 (row_at (standing_row ds)).groups
unfolding modulate_from first
next-010 b [] = refl
next-010 b (d00 ∷ []) = refl
next-010 b (d00 ∷ d00 ∷ []) = refl
next-010 b (d00 ∷ d00 ∷ d00 ∷ []) = refl
next-010 b (d00 ∷ d00 ∷ d00 ∷ d00 ∷ ds) = refl
next-010 b (d00 ∷ d00 ∷ d00 ∷ d01 ∷ ds) = refl
next-010 b (d00 ∷ d00 ∷ d00 ∷ d10 ∷ ds) = refl
next-010 b (d00 ∷ d00 ∷ d00 ∷ d11 ∷ ds) = refl
next-010 b (d00 ∷ d00 ∷ d01 ∷ ds) = refl
next-010 b (d00 ∷ d00 ∷ d10 ∷ []) = refl
next-010 b (d00 ∷ d00 ∷ d10 ∷ d00 ∷ ds) = refl
next-010 b (d00 ∷ d00 ∷ d10 ∷ d01 ∷ ds) = refl
next-010 b (d00 ∷ d00 ∷ d10 ∷ d10 ∷ ds) = refl
next-010 b (d00 ∷ d00 ∷ d10 ∷ d11 ∷ ds) = refl
next-010 b (d00 ∷ d00 ∷ d11 ∷ ds) = refl
next-010 b (d00 ∷ d01 ∷ ds) = refl
next-010 b (d00 ∷ d10 ∷ ds) = refl
next-010 b (d00 ∷ d11 ∷ ds) = refl
next-010 b (d01 ∷ ds) = refl
next-010 b (d10 ∷ ds) = refl
next-010 b (d11 ∷ []) = next-11 b []
next-010 b (d11 ∷ d00 ∷ ds) = next-11 b (d00 ∷ ds)
next-010 b (d11 ∷ d01 ∷ []) = next-11 b (d01 ∷ [])
next-010 b (d11 ∷ d01 ∷ d00 ∷ ds) = next-11 b (d01 ∷ d00 ∷ ds)
next-010 b (d11 ∷ d01 ∷ d01 ∷ ds) = next-11 b (d01 ∷ d01 ∷ ds)
next-010 b (d11 ∷ d01 ∷ d10 ∷ ds) = next-11 b (d01 ∷ d10 ∷ ds)
next-010 b (d11 ∷ d01 ∷ d11 ∷ ds) = next-11 b (d01 ∷ d11 ∷ ds)
next-010 b (d11 ∷ d10 ∷ ds) = next-11 b (d10 ∷ ds)
next-010 b (d11 ∷ d11 ∷ ds) = next-11 b (d11 ∷ ds)

module _ (b : Bool) (ds : List Two) (k : ℕ) (e : k ≡ standing_row ds) where
  -- by the row that stands there
  pub by_row : {x : Bool} → x ≡ starts_with010 (row_at k).groups → x ≡ starts_with010 (modulate b ds).groups
  by_row f = f ∙ ap (λ (k : ℕ). starts_with010 (row_at k).groups) e ∙ sym (next-010 b ds)

  -- and where none does
  pub by-none : 16 ≤ k → false ≡ starts_with010 (modulate b ds).groups
  by-none h = by_row (ap (λ (r : Row). starts_with010 r.groups) (sym (get_or-eq_default rows no_row {n = k} h)))
