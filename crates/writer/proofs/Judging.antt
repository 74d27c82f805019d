-- The writer's tests, case by case, from the laws of tests one after the other (answer, Tests). Assumes nothing.
use mathlib.Core.Path.{◌≡◌, refl, sym, ap, ◌∙◌}
use mathlib.Core.Bool.{Bool, true, false, cond}
use mathlib.Core.List.{List}
use Prim.Native.Nat.{ℕ, ◌≤◌}
use lib.ListN.{length}
use Rattle.answer.specs.declared.Answer.{Answer}
use Rattle.answer.specs.declared.Answer.TheVariants.{Done, DcWord}
use Rattle.answer.specs.Answer.{is_done, and_then, lowest}
use Rattle.lengths.specs.Lengths.{lengths_answer, RightLengths}
use Rattle.answer.proofs.Tests.{done-told, then-done, lowest-done}
use Rattle.lengths.proofs.RightLengths.{lengths-done}
use Rattle.address.specs.Judged.{judged}
use Rattle.image.specs.Image.{Input, cluster, image}
use Rattle.image_writer.specs.steps.Written.{Filled}
use Rattle.input_tests.specs.Parts.{first_too_large, parts_answer}
use Rattle.writer.specs.Outcome.{answer, written, outcome}

-- ---- an input that passes; its lengths, and those of image and work

module _ (u s d i w psn : ℕ) (dc : List ℕ) where
  pub passed-all : and_then (lengths_answer u s d i w) (parts_answer psn dc) ≡ Done → RightLengths u s d w × (i ≡ 119788) × (judged psn ≡ Done) × (496 ≤ first_too_large dc)
  passed-all e =
      let all = then-done (lengths_answer u s d i w) (parts_answer psn dc) e in
      let sizes = lengths-done u s d i w all.0 in
      let parts = then-done (judged psn) (lowest DcWord 496 (first_too_large dc)) all.1 in
      (sizes.0, sizes.1, parts.0, lowest-done DcWord (λ k. refl) parts.1)

  -- as the code has it: r is what was answered, t whether it is `Done`
  pub may_write : {r : Answer} {t : Bool} → r ≡ and_then (lengths_answer u s d i w) (parts_answer psn dc) → t ≡ is_done r → t ≡ true
      → RightLengths u s d w × ((i ≡ 119788) × (judged psn ≡ Done))
  may_write hr ht e = let all = passed-all (done-told hr ht e) in (all.0, (all.1, all.2))

-- ---- the outcome; r is what was answered, d whether it is `Done`

module _ (user side dc before work : List ℕ) (psn : ℕ) (first : Bool) (r : Answer) (d : Bool)
    (hr : r ≡ and_then (lengths_answer (length user) (length side) (length dc) (length before) (length work)) (parts_answer psn dc)) (hd : d ≡ is_done r) where
  abbrev input : Input
  input = record { user = user; psn = psn; side = side; dc = dc; first = first }

  is-answer : r ≡ answer input (length before) (length work)
  unfolding answer
  is-answer = hr

  done : d ≡ true → answer input (length before) (length work) ≡ Done
  done e = done-told is-answer hd e

  pub is-written : (after made : List ℕ) → d ≡ true → Filled input after made → record { answer = Done; image = after; work = made } ≡ outcome input before work
  unfolding outcome
  is-written after made e f =
      (λ i. record { answer = Done; image = f.image-is i; work = f.work-is i }) ∙ ap (λ (a : Answer). written input a before work) (sym (done e))

  pub is-refused : d ≡ false → record { answer = r; image = before; work = work } ≡ outcome input before work
  unfolding outcome
  is-refused e =
      let kept : is_done r ≡ false = sym hd ∙ e in
      sym (λ i. record { answer = r; image = cond (kept i) (image input) before; work = cond (kept i) (cluster input) work })
      ∙ ap (λ (a : Answer). written input a before work) is-answer
