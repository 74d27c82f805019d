-- What is promised of the writer, on its outcome: every well-formed cluster is encoded, and everything else is refused. Assumes nothing.
use mathlib.Core.Path.{◌≡◌, sym, ap, subst, ◌∙◌}
use mathlib.Core.Logic.{◌↔◌}
use mathlib.Core.Bool.{Bool, cond}
use mathlib.Core.List.{List}
use Prim.Native.Nat.{ℕ, ◌<◌, ◌≤◌}
use native.Mathlib.Omega.{arith}
use borrow.Author.Tests.{le-ltb, ltb-false}
use lib.ListN.{length, get_or}
use Rattle.laws.specs.Bytes.{Bytes}
use Rattle.laws.proofs.First.{first-none, first-all}
use Rattle.image.specs.Image.{Input, cluster, image}
use Rattle.image.proofs.Demand3.{starting_with}
use Rattle.image.proofs.Statements.{zeros, zeros-accepted, either_first}
use Rattle.answer.specs.declared.Answer.{Answer}
use Rattle.answer.specs.declared.Answer.TheVariants.{Done, DcWord}
use Rattle.answer.specs.Answer.{number_of, place_of, is_done, lowest}
use Rattle.answer.proofs.Tests.{number-zero, done-or-not, then_next, lowest-none}
use Rattle.lengths.proofs.RightLengths.{lengths-right}
use Rattle.input_tests.specs.Parts.{too_large, first_too_large, parts_answer}
use Rattle.writer.specs.Outcome.{answer, Outcome, outcome}
use Rattle.writer.specs.Promise.{WellFormed, WritesExactly}
use Rattle.writer.proofs.Judging.{passed-all}

module _ (input : Input) (before work : List ℕ) (bytes : Bytes input.user) (side-bytes : Bytes input.side) where
  is-done : answer input (length before) (length work) ≡ Done → WellFormed input before work
  unfolding answer
  is-done e =
      let all = passed-all (length input.user) (length input.side) (length input.dc) (length before) (length work) input.psn input.dc e in
      record {
        accepted =
            record {
              user = record { size = all.0.user; bytes = bytes };
              psn = all.2;
              side = record { size = all.0.side; bytes = side-bytes };
              dc = record { size = all.0.dc; small = λ n h. small all.3 n h };
            };
        lengths = all.0;
        image-size = all.1;
      }
    where
      small : 496 ≤ first_too_large input.dc → (n : ℕ) → n < 496 → get_or input.dc n 0 ≤ 0x0FFF_FFFF
      small none n h = unfold first_too_large too_large in ltb-false 0x0FFF_FFFF (get_or input.dc n 0) (first-all 496 (too_large input.dc) none n h)

  done-is : WellFormed input before work → answer input (length before) (length work) ≡ Done
  unfolding answer
  done-is w =
      let lengths = lengths-right (length input.user) (length input.side) (length input.dc) (length before) (length work) w.lengths w.image-size in
      let words : lowest DcWord 496 (first_too_large input.dc) ≡ Done = lowest-none DcWord no-large in
      then_next _ (parts_answer input.psn input.dc) lengths ∙ then_next _ (lowest DcWord 496 (first_too_large input.dc)) w.accepted.psn ∙ words
    where
      no-large : 496 ≤ first_too_large input.dc
      no-large =
          unfold first_too_large too_large in
          let none = first-none 496 (too_large input.dc) (record { fails = λ n h. le-ltb 0x0FFF_FFFF (get_or input.dc n 0) (w.accepted.dc.small n h) }) in omega arith

  -- the number is 0 exactly when the input is accepted and the slices have their lengths
  pub encoded : (number_of (outcome input before work).answer ≡ 0) ↔ WellFormed input before work
  unfolding outcome
  encoded = (
    λ e. is-done (number-zero (answer input (length before) (length work)) e),
    λ w. ap number_of (done-is w),
  )

  -- and then the place is 0, and the slices hold the image and the ECC cluster
  pub filled : WellFormed input before work → (place_of (outcome input before work).answer ≡ 0) × ((outcome input before work).image ≡ image input) × ((outcome input before work).work ≡ cluster input)
  unfolding outcome
  filled w =
      let done = done-is w in
      (ap place_of done, ap (λ (a : Answer). cond (is_done a) (image input) before) done, ap (λ (a : Answer). cond (is_done a) (cluster input) work) done)

  -- as the contract has it: o is the answer and the slices at exit
  pub with-exactly : {o : Outcome} → o ≡ outcome input before work → (o ≡ outcome input before work) × WritesExactly input before work (number_of o.answer) o.image o.work
  with-exactly e = (e, subst (λ (o : Outcome). WritesExactly input before work (number_of o.answer) o.image o.work) (sym e) exactly)
    where
      exactly : WritesExactly input before work (number_of (outcome input before work).answer) (outcome input before work).image (outcome input before work).work
      exactly = record { zero-iff = encoded; image-is = λ z. (filled (encoded.0 z)).1; work-is = λ z. (filled (encoded.0 z)).2 }

-- any other number leaves both slices as they were
pub untouched : (input : Input) (before work : List ℕ) → (number_of (outcome input before work).answer ≡ 0 → ⊥)
    → ((outcome input before work).image ≡ before) × ((outcome input before work).work ≡ work)
unfolding outcome
untouched input before work h =
    let kept = done-or-not (answer input (length before) (length work)) h in
    (ap (λ (d : Bool). cond d (image input) before) kept, ap (λ (d : Bool). cond d (cluster input) work) kept)

-- the cluster of zeros is written, with either first #
pub zeros-written : (h : Bool) (before work : List ℕ) → length before ≡ 119788 → length work ≡ 76880 → number_of (outcome (starting_with h zeros) before work).answer ≡ 0
zeros-written h before work i w =
    let is = either_first h zeros zeros-accepted in
    (encoded (starting_with h zeros) before work is.user.bytes is.side.bytes).1
    (record { accepted = is; lengths = record { user = is.user.size; side = is.side.size; dc = is.dc.size; work = w }; image-size = i })
