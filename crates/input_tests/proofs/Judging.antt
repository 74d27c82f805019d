-- Tests 6 to 8, case by case, from the laws of tests one after the other (answer, Tests). Assumes nothing.
use mathlib.Core.Path.{◌≡◌, sym, ap, ◌∙◌}
use mathlib.Core.Bool.{Bool, true, false}
use mathlib.Core.List.{List}
use Prim.Native.Nat.{ℕ, ◌<◌, ◌≤◌}
use borrow.Author.Tests.{lt-ltb, le-ltb}
use lib.ListN.{get_or}
use Rattle.answer.specs.declared.Answer.{Answer}
use Rattle.answer.specs.declared.Answer.TheVariants.{DcWord}
use Rattle.answer.specs.Answer.{is_done, lowest}
use Rattle.answer.proofs.Tests.{done-told, goes_on, stops, lowest-here, lowest-none}
use Rattle.address.specs.Judged.{judged}
use Rattle.input_tests.specs.Parts.{too_large, first_too_large, parts_answer}

-- ---- the dc words

pub dc-large : (dc : List ℕ) (n : ℕ) → 0x0FFF_FFFF < get_or dc n 0 → too_large dc n ≡ true
unfolding too_large
dc-large dc n h = lt-ltb 0x0FFF_FFFF (get_or dc n 0) h

pub dc-small : (dc : List ℕ) (n : ℕ) → get_or dc n 0 ≤ 0x0FFF_FFFF → too_large dc n ≡ false
unfolding too_large
dc-small dc n h = le-ltb 0x0FFF_FFFF (get_or dc n 0) h

-- ---- the PSN and the dc words; a is what is answered of the PSN, d whether it is `Done`, n the word that is found

module _ (psn : ℕ) (dc : List ℕ) (a : Answer) (d : Bool) (ha : a ≡ judged psn) (hd : d ≡ is_done a) where
  pub psn-refused : d ≡ false → a ≡ parts_answer psn dc
  psn-refused e = stops (judged psn) (lowest DcWord 496 (first_too_large dc)) a d ha hd e

  module _ (n : ℕ) (e : d ≡ true) (f : n ≡ first_too_large dc) where
    by_word : {r : Answer} → r ≡ lowest DcWord 496 n → r ≡ parts_answer psn dc
    by_word {r} is = goes_on (judged psn) (lowest DcWord 496 (first_too_large dc)) a d ha hd r e (is ∙ ap (lowest DcWord 496) f)

    pub dc-word : n < 496 → DcWord n ≡ parts_answer psn dc
    dc-word h = by_word (sym (lowest-here DcWord h))

    pub all_right : 496 ≤ n → a ≡ parts_answer psn dc
    all_right h = by_word (ha ∙ done-told ha hd e ∙ sym (lowest-none DcWord h))
