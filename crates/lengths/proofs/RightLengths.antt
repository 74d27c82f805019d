-- The lengths: passed exactly where all are right, and refused by 1 to 5. Assumes nothing.
use mathlib.Core.Path.{◌≡◌, refl, ap₂, ◌∙◌}
use mathlib.Core.Bool.{Bool, true, false, cond}
use Prim.Native.Nat.{ℕ, ◌≤◌}
use native.Mathlib.Omega.{arith}
use borrow.Author.Tests.{eq-eqb, ne_eqb, eqb-true}
use lib.Dec.{eqb}
use Rattle.answer.specs.declared.Answer.{Answer}
use Rattle.answer.specs.declared.Answer.TheVariants.{Done, WrongUser, WrongSide, WrongDc, WrongImage, WrongWork}
use Rattle.answer.specs.Answer.{number_of, is_done, and_then}
use Rattle.lengths.specs.Lengths.{sized, lengths_answer, RightLengths}
use Rattle.answer.proofs.Tests.{done-not, done-told, then-both, then-done}

-- ---- one length

module _ {size right : ℕ} (refusal : Answer) where
  pub sized-right : size ≡ right → sized size right refusal ≡ Done
  sized-right e = rw (eq-eqb size right e)

  pub sized-wrong : (size ≡ right → ⊥) → sized size right refusal ≡ refusal
  sized-wrong h = rw (ne_eqb size right h)

  pub sized-done : is_done refusal ≡ false → sized size right refusal ≡ Done → size ≡ right
  sized-done r e = by (eqb size right) refl e
    where
      by : (t : Bool) → eqb size right ≡ t → cond t Done refusal ≡ Done → size ≡ right
      by true t e = eqb-true size right t
      by false t e = absurd (done-not refusal r e)

-- ---- all of them

module _ (u s d i w : ℕ) where
  pub lengths-right : RightLengths u s d w → i ≡ 119788 → lengths_answer u s d i w ≡ Done
  unfolding lengths_answer
  lengths-right right image =
      then-both _ _ (sized-right (WrongUser 0) right.user)
      (then-both _ _ (sized-right WrongSide right.side)
      (then-both _ _ (sized-right WrongDc right.dc)
      (then-both _ _ (sized-right WrongImage image) (sized-right WrongWork right.work))))

  pub lengths-done : lengths_answer u s d i w ≡ Done → RightLengths u s d w × (i ≡ 119788)
  unfolding lengths_answer
  lengths-done e =
      let one = then-done (sized u 65536 (WrongUser 0)) _ e in
      let two = then-done (sized s 592 WrongSide) _ one.1 in
      let three = then-done (sized d 496 WrongDc) _ two.1 in
      let four = then-done (sized i 119788 WrongImage) _ three.1 in (
        record {
          user = sized-done (WrongUser 0) refl one.0;
          side = sized-done WrongSide refl two.0;
          dc = sized-done WrongDc refl three.0;
          work = sized-done WrongWork refl four.1;
        },
        sized-done WrongImage refl four.0,
      )

  -- as the code has it: r is what was answered, t whether it is `Done`
  pub lengths-passed : {r : Answer} {t : Bool} → r ≡ lengths_answer u s d i w → t ≡ is_done r → t ≡ true → RightLengths u s d w × (i ≡ 119788)
  lengths-passed hr ht e = lengths-done (done-told hr ht e)

-- as the code has it: what the five tests answered, and what was made of them
pub lengths-are : (u s d i w : ℕ) {one two three four five last third second r : Answer} → one ≡ sized u 65536 (WrongUser 0) → two ≡ sized s 592 WrongSide → three ≡ sized d 496 WrongDc
    → four ≡ sized i 119788 WrongImage → five ≡ sized w 76880 WrongWork → last ≡ and_then four five → third ≡ and_then three last → second ≡ and_then two third → r ≡ and_then one second
    → r ≡ lengths_answer u s d i w
unfolding lengths_answer
lengths-are u s d i w h1 h2 h3 h4 h5 e4 e3 e2 e1 = e1 ∙ ap₂ and_then h1 (e2 ∙ ap₂ and_then h2 (e3 ∙ ap₂ and_then h3 (e4 ∙ ap₂ and_then h4 h5)))

-- ---- a refusal's number

record AtMost (n : ℕ) (a : Answer) : Type 0 where
  number : number_of a ≤ n

then-most : {n : ℕ} {a next : Answer} → AtMost n a → AtMost n next → AtMost n (and_then a next)
then-most {n} {a} {next} ha hn = by (is_done a)
  where
    by : (t : Bool) → AtMost n (cond t next a)
    by true = hn
    by false = ha

sized-most : {n : ℕ} (size right : ℕ) (refusal : Answer) → number_of refusal ≤ n → AtMost n (sized size right refusal)
sized-most {n} size right refusal h = by (eqb size right)
  where
    by : (t : Bool) → AtMost n (cond t Done refusal)
    by true = record { number = omega arith }
    by false = record { number = h }

pub lengths-number : (u s d i w : ℕ) → number_of (lengths_answer u s d i w) ≤ 5
lengths-number u s d i w = all.number
  where
    all : AtMost 5 (lengths_answer u s d i w)
    all =
        unfold lengths_answer in
        then-most (sized-most u 65536 (WrongUser 0) (omega arith))
        (then-most (sized-most s 592 WrongSide (omega arith))
        (then-most (sized-most d 496 WrongDc (omega arith))
        (then-most (sized-most i 119788 WrongImage (omega arith)) (sized-most w 76880 WrongWork (omega arith)))))
