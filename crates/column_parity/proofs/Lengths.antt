-- The lengths of data and parity, case by case: passed exactly where both are right, else 22. Assumes nothing.
use mathlib.Core.Path.{◌≡◌, refl}
use mathlib.Core.Bool.{Bool, true, false, cond}
use Prim.Native.Nat.{ℕ, ◌<◌, ◌≤◌}
use native.Mathlib.Omega.{arith}
use borrow.Author.Tests.{eq-eqb, ne_eqb, eqb-false, lt-ltb, le-ltb, ltb-false}
use lib.Dec.{eqb, ltb}
use Rattle.answer.specs.declared.Answer.TheVariants.{Done, WrongColumn}
use Rattle.answer.specs.Answer.{is_done, and_then}
use Rattle.answer.proofs.Tests.{done-not, then-both, then-done}
use Rattle.lengths.specs.Lengths.{sized}
use Rattle.lengths.proofs.RightLengths.{sized-right, sized-done}
use Rattle.column_parity.specs.Outcome.{data_answer, answer}
use Rattle.column_parity.specs.Promise.{RightColumn}

-- ---- the data

module _ (n : ℕ) where
  pub no-data : n ≡ 0 → data_answer n ≡ WrongColumn
  no-data e = rw (eq-eqb n 0 e)

  pub much-data : (n ≡ 0 → ⊥) → 223 < n → data_answer n ≡ WrongColumn
  much-data some h = rw (ne_eqb n 0 some) (rw (lt-ltb 223 n h))

  pub right-data : (n ≡ 0 → ⊥) → n ≤ 223 → data_answer n ≡ Done
  right-data some h = rw (ne_eqb n 0 some) (rw (le-ltb 223 n h))

  data-done : data_answer n ≡ Done → (0 < n) × (n ≤ 223)
  data-done e = by (eqb n 0) refl (ltb 223 n) refl e
    where
      by : (t : Bool) → eqb n 0 ≡ t → (u : Bool) → ltb 223 n ≡ u → cond t WrongColumn (cond u WrongColumn Done) ≡ Done → (0 < n) × (n ≤ 223)
      by true t u hu e = absurd (done-not WrongColumn refl e)
      by false t true hu e = absurd (done-not WrongColumn refl e)
      by false t false hu e = let some = eqb-false n 0 t in (omega arith, ltb-false 223 n hu)

-- ---- both lengths

module _ (n size : ℕ) where
  pub column-right : RightColumn n size → answer n size ≡ Done
  column-right right =
      then-both (data_answer n) (sized size 32 WrongColumn) (right-data n (λ e. omega (arith, right.some)) right.most) (sized-right WrongColumn right.room)

  pub column-done : answer n size ≡ Done → RightColumn n size
  column-done e =
      let both = then-done (data_answer n) (sized size 32 WrongColumn) e in
      let within = data-done n both.0 in
      record { some = within.0; most = within.1; room = sized-done WrongColumn refl both.1 }

  -- there is no other answer
  pub column-refused : is_done (answer n size) ≡ false → answer n size ≡ WrongColumn
  column-refused h = by (eqb n 0) (ltb 223 n) (eqb size 32) h
    where
      by : (t u v : Bool) → let a = and_then (cond t WrongColumn (cond u WrongColumn Done)) (cond v Done WrongColumn) in is_done a ≡ false → a ≡ WrongColumn
      by true u v h = refl
      by false true v h = refl
      by false false true h = absurd (let n : ◌≡◌ {A = ℕ} 0 1 = cc in omega arith)
      by false false false h = refl
