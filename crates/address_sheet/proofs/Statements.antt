-- What is promised of a sheet: which are accepted, and what is answered of every other. Assumes nothing.
use mathlib.Core.Path.{◌≡◌, refl, sym, ap, ap₂, subst, ◌∙◌}
use mathlib.Core.Bool.{Bool, true, false}
use mathlib.Core.Logic.{◌↔◌}
use Prim.Native.Nat.{ℕ, ◌<◌, ◌≤◌}
use native.Mathlib.Decide.{dec_lt}
use native.Mathlib.Omega.{arith}
use borrow.Author.Tests.{eq-eqb, ne_eqb, eqb-true, eqb-false}
use lib.Dec.{ltb, eqb}
use Rattle.answer.specs.declared.Answer.{Answer}
use Rattle.answer.specs.declared.Answer.TheVariants.{Done, NoMultiple, NoZone, WrongCount, Repeated}
use Rattle.answer.specs.Answer.{number_of, place_of, is_done, and_then, lowest}
use Rattle.answer.proofs.Tests.{done-is, done-told, done-not, then_next, then-here, then-done, then-within, goes_on, stops, lowest-within}
use Rattle.address.specs.Judged.{judged}
use Rattle.address.proofs.Judging.{accepted-else}
use Rattle.laws.specs.First.{first}
use Rattle.laws.proofs.First.{first-at, first-all, first-none, first_holds, first-ext}
use Rattle.address_sheet.specs.Sheet.{count_answer, alone_by, same_as, repeats, over_all, entries_answer, sheet_answer}
use Rattle.address_sheet.specs.Promise.{RightCount, RightSheet, AloneBy, RepeatsEarlier, Lowest, Says, at-0, at-6, at_7, at-23, at-24}
use Rattle.address_sheet.proofs.Tests.{count-right, count-done, count-refused, repeats-not, repeats-is, repeats-earlier, over_done, later_tests, fails-6, fails-7, fails-24, fails-none}

module _ (count : ℕ) (psn : ℕ → ℕ) where
  -- no entry, alone, is answered by this number
  none-by : (number : ℕ) → ((i : ℕ) → i < count → AloneBy number psn i → ⊥) → count ≡ first count (alone_by number psn)
  none-by number h = sym (first-none count (alone_by number psn) (record { fails = λ i lt. ne_eqb (number_of (judged (psn i))) number (h i lt) }))

  -- i is the lowest that is
  lowest_by : (number i : ℕ) → Lowest count (AloneBy number psn) i → i ≡ first count (alone_by number psn)
  lowest_by number i low =
      sym
      (first-at count (alone_by number psn) i low.within (record { fails = λ k lt. ne_eqb (number_of (judged (psn k))) number (low.below k lt) })
      (eq-eqb (number_of (judged (psn i))) number low.here))

  repeats-false : (i : ℕ) → (RepeatsEarlier psn i → ⊥) → repeats psn i ≡ false
  repeats-false i h = by (repeats psn i) refl
    where
      by : (t : Bool) → repeats psn i ≡ t → t ≡ false
      by true e = absurd (h (repeats-earlier psn i e))
      by false e = refl

  lowest-repeated : (i : ℕ) → Lowest count (RepeatsEarlier psn) i → i ≡ first count (repeats psn)
  lowest-repeated i low =
      sym (first-at count (repeats psn) i low.within (record { fails = λ k lt. repeats-false k (low.below k lt) }) (repeats-is psn i low.here))

  -- what is accepted alone is answered by no other number
  not-by : ((i : ℕ) → i < count → judged (psn i) ≡ Done) → (number : ℕ) → 0 < number → (i : ℕ) → i < count → AloneBy number psn i → ⊥
  not-by alone number some i h e = let zero : 0 ≡ number = sym (ap number_of (alone i h)) ∙ e in omega (arith, zero, some)

  none-refused : ((i : ℕ) → i < count → judged (psn i) ≡ Done) → (number : ℕ) → 0 < number → count ≡ first count (alone_by number psn)
  none-refused alone number some = none-by number (not-by alone number some)

  -- ---- accepted

  right-accepted : RightSheet count psn → sheet_answer count psn ≡ Done
  unfolding sheet_answer
  right-accepted right =
      then_next (count_answer count) (entries_answer count psn) (count-right count right.size)
      ∙ sym (fails-none count psn (none-refused right.alone 6 (omega arith)) (omega arith) (none-refused right.alone 7 (omega arith)) (omega arith) none-again (omega arith))
    where
      apart : (i : ℕ) → i < count → RepeatsEarlier psn i → ⊥
      apart i h is = right.apart is.earlier i (omega (arith, is.before)) h (λ e. omega (arith, is.before, e)) is.same

      none-again : count ≡ first count (repeats psn)
      none-again = sym (first-none count (repeats psn) (record { fails = λ i h. repeats-false i (apart i h) }))

  accepted-right : sheet_answer count psn ≡ Done → RightSheet count psn
  unfolding sheet_answer
  accepted-right e =
      let two = then-done (count_answer count) (entries_answer count psn) e in
      let more = then-done (over_all NoMultiple count (alone_by 6 psn)) (later_tests count psn) two.1 in
      let last = then-done (over_all NoZone count (alone_by 7 psn)) (over_all Repeated count (repeats psn)) more.1 in
      let six = over_done NoMultiple count (alone_by 6 psn) (λ k. refl) more.0 in
      let seven = over_done NoZone count (alone_by 7 psn) (λ k. refl) last.0 in
      let again = over_done Repeated count (repeats psn) (λ k. refl) last.1 in
      record {
        size = count-done count two.0;
        alone = λ i h. accepted-else (psn i) (eqb-false (number_of (judged (psn i))) 6 (six i h)) (eqb-false (number_of (judged (psn i))) 7 (seven i h));
        apart = λ i j hi hj differ same.
            elim (dec_lt i j) [
              | yes h ↦ repeats-not psn j (again j hj) (record { earlier = i; before = h; same = same })
              | no h ↦ repeats-not psn i (again i hi) (record { earlier = j; before = omega (arith, h, differ); same = sym same })
            ];
      }

  -- ACCEPTED EXACTLY WHERE THE COUNT IS RIGHT, EVERY ENTRY IS ACCEPTED ALONE AND NO TWO ARE EQUAL
  pub sheet-iff : (sheet_answer count psn ≡ Done) ↔ RightSheet count psn
  sheet-iff = (accepted-right, right-accepted)

  -- ---- refused: of every other sheet one of these tells the answer

  pub refused-count : (RightCount count → ⊥) → sheet_answer count psn ≡ WrongCount
  unfolding sheet_answer
  refused-count wrong = let is = count-refused count wrong in then-here (count_answer count) (entries_answer count psn) (ap is_done is) ∙ is

  module _ (size : RightCount count) where
    counted : sheet_answer count psn ≡ entries_answer count psn
    unfolding sheet_answer
    counted = then_next (count_answer count) (entries_answer count psn) (count-right count size)

    -- the lowest entry that 6 refuses alone
    pub refused-6 : (i : ℕ) → Lowest count (AloneBy 6 psn) i → sheet_answer count psn ≡ NoMultiple i
    refused-6 i low = counted ∙ sym (fails-6 count psn (lowest_by 6 i low) low.within)

    -- 6 refuses none, and the lowest that 7 refuses alone
    pub refused-7 : ((i : ℕ) → i < count → AloneBy 6 psn i → ⊥) → (i : ℕ) → Lowest count (AloneBy 7 psn) i → sheet_answer count psn ≡ NoZone i
    refused-7 six i low = counted ∙ sym (fails-7 count psn (none-by 6 six) (omega arith) (lowest_by 7 i low) low.within)

    -- all are accepted alone, and the lowest that repeats an earlier one
    pub refused-24 : ((i : ℕ) → i < count → judged (psn i) ≡ Done) → (i : ℕ) → Lowest count (RepeatsEarlier psn) i → sheet_answer count psn ≡ Repeated i
    refused-24 alone i low =
        counted
        ∙ sym (fails-24 count psn (none-refused alone 6 (omega arith)) (omega arith) (none-refused alone 7 (omega arith)) (omega arith) (lowest-repeated i low) low.within)

-- ---- what the answer says

module _ (count : ℕ) (psn : ℕ → ℕ) where
  -- the lowest entry that fails a test
  found : (fails : ℕ → Bool) (Holds : ℕ → Type 0) → ((k : ℕ) → fails k ≡ true → Holds k) → ((k : ℕ) → fails k ≡ false → Holds k → ⊥)
      → first count fails < count → Lowest count Holds (first count fails)
  found fails Holds holds not h = let low = first_holds count fails h in record { within = h; here = holds (first count fails) low.0; below = λ k lt. not k (low.1.fails k lt) }

  found-by : (number : ℕ) → first count (alone_by number psn) < count → Lowest count (AloneBy number psn) (first count (alone_by number psn))
  found-by number =
      found (alone_by number psn) (AloneBy number psn) (λ k. eqb-true (number_of (judged (psn k))) number) (λ k. eqb-false (number_of (judged (psn k))) number)

  none_found : (number : ℕ) → count ≤ first count (alone_by number psn) → (k : ℕ) → k < count → AloneBy number psn k → ⊥
  none_found number h k lt = eqb-false (number_of (judged (psn k))) number (first-all count (alone_by number psn) h k lt)

  -- where no entry fails 6 or 7
  module _ (size : RightCount count) (past6 : count ≤ first count (alone_by 6 psn)) (past7 : count ≤ first count (alone_by 7 psn)) where
    all-alone : (k : ℕ) → k < count → judged (psn k) ≡ Done
    all-alone k h = accepted-else (psn k) (none_found 6 past6 k h) (none_found 7 past7 k h)

    says_last : Says count psn (entries_answer count psn)
    says_last =
        elim (dec_lt (first count (repeats psn)) count) [
          | yes h ↦
              subst (Says count psn) (fails-24 count psn refl past6 refl past7 refl h)
              (at-24 (first count (repeats psn)) size all-alone (found (repeats psn) (RepeatsEarlier psn) (repeats-earlier psn) (repeats-not psn) h))
          | no past ↦
              let e = fails-none count psn refl past6 refl past7 refl (omega (arith, past)) in
              subst (Says count psn) e (at-0 ((sheet-iff count psn).0 (counted count psn size ∙ sym e)))
        ]

  says-entries : RightCount count → Says count psn (entries_answer count psn)
  says-entries size =
      elim (dec_lt (first count (alone_by 6 psn)) count) [
        | yes h6 ↦ subst (Says count psn) (fails-6 count psn refl h6) (at-6 (first count (alone_by 6 psn)) size (found-by 6 h6))
        | no p6 ↦
            let past6 : count ≤ first count (alone_by 6 psn) = omega (arith, p6) in
            elim (dec_lt (first count (alone_by 7 psn)) count) [
              | yes h7 ↦ subst (Says count psn) (fails-7 count psn refl past6 refl h7) (at_7 (first count (alone_by 7 psn)) size (none_found 6 past6) (found-by 7 h7))
              | no p7 ↦ says_last size past6 (omega (arith, p7))
            ]
      ]

  -- EVERY ANSWER IS TRUE OF ITS SHEET
  pub says : Says count psn (sheet_answer count psn)
  says = by (is_done (count_answer count)) refl
    where
      by : (t : Bool) → is_done (count_answer count) ≡ t → Says count psn (sheet_answer count psn)
      by true t =
          let size = count-done count (done-is (count_answer count) t) in
          subst (Says count psn) (sym (counted count psn size)) (says-entries size)
      by false t =
          let wrong : RightCount count → ⊥ = λ right. done-not (count_answer count) t (count-right count right) in
          subst (Says count psn) (sym (refused-count count psn wrong)) (at-23 wrong)

-- ---- as the code has it: a is what is answered of the count, d whether it is `Done`

module _ (count : ℕ) (psn : ℕ → ℕ) {a : Answer} {d : Bool} (ha : a ≡ count_answer count) (hd : d ≡ is_done a) where
  pub may-judge : d ≡ true → count ≤ 64
  may-judge e = (count-done count (done-told ha hd e)).most

  judges : {r : Answer} → r ≡ sheet_answer count psn → (r ≡ sheet_answer count psn) × ((r ≡ Done) ↔ RightSheet count psn)
  judges e = (e, subst (λ (a : Answer). (a ≡ Done) ↔ RightSheet count psn) (sym e) (sheet-iff count psn))

  pub judged-whole : {r : Answer} → d ≡ true → r ≡ entries_answer count psn → (r ≡ sheet_answer count psn) × ((r ≡ Done) ↔ RightSheet count psn)
  unfolding sheet_answer
  judged-whole {r} t e = judges (goes_on (count_answer count) (entries_answer count psn) a d ha hd r t e)

  pub judged-count : d ≡ false → (a ≡ sheet_answer count psn) × ((a ≡ Done) ↔ RightSheet count psn)
  unfolding sheet_answer
  judged-count t = judges (stops (count_answer count) (entries_answer count psn) a d ha hd t)

-- ---- sheets whose entries agree, as far as they are looked at

module _ (count : ℕ) (f g : ℕ → ℕ) (agree : (i : ℕ) → i < count → i < 64 → f i ≡ g i) where
  module _ (size : RightCount count) where
    same : (i : ℕ) → i < count → f i ≡ g i
    same i h = agree i h (omega (arith, h, size.most))

    same_by : (number : ℕ) → first count (alone_by number f) ≡ first count (alone_by number g)
    same_by number = first-ext count (alone_by number f) (alone_by number g) (λ i h. ap (λ (p : ℕ). eqb (number_of (judged p)) number) (same i h))

    same-repeats : first count (repeats f) ≡ first count (repeats g)
    same-repeats =
        first-ext count (repeats f) (repeats g) (λ i h.
        ap (λ (j : ℕ). ltb j i) (first-ext i (same_as f i) (same_as g i) (λ j lt. ap₂ eqb (same j (omega arith)) (same i h))))

    same_entries : entries_answer count f ≡ entries_answer count g
    same_entries i = and_then (lowest NoMultiple count (same_by 6 i)) (and_then (lowest NoZone count (same_by 7 i)) (lowest Repeated count (same-repeats i)))

  pub same-sheet : sheet_answer count f ≡ sheet_answer count g
  unfolding sheet_answer
  same-sheet = by (is_done (count_answer count)) refl
    where
      by : (t : Bool) → is_done (count_answer count) ≡ t → and_then (count_answer count) (entries_answer count f) ≡ and_then (count_answer count) (entries_answer count g)
      by true t = ap (and_then (count_answer count)) (same_entries (count-done count (done-is (count_answer count) t)))
      by false t = then-here (count_answer count) (entries_answer count f) t ∙ sym (then-here (count_answer count) (entries_answer count g) t)

-- ---- the place of a refusal is an entry

pub place-within : (count : ℕ) (psn : ℕ → ℕ) → RightCount count → is_done (sheet_answer count psn) ≡ false → place_of (sheet_answer count psn) < count
place-within count psn size e =
    let is = counted count psn size in
    subst (λ (a : Answer). place_of a < count) (sym is)
    (then-within (over_all NoMultiple count (alone_by 6 psn)) (later_tests count psn) count (lowest-within NoMultiple count (first count (alone_by 6 psn)) refl)
    (then-within (over_all NoZone count (alone_by 7 psn)) (over_all Repeated count (repeats psn)) count (lowest-within NoZone count (first count (alone_by 7 psn)) refl)
    (lowest-within Repeated count (first count (repeats psn)) refl)) (sym (ap is_done is) ∙ e))

-- where 23 is not the answer, the count is right
pub count-else : (count : ℕ) (psn : ℕ → ℕ) → (sheet_answer count psn ≡ WrongCount → ⊥) → RightCount count
count-else count psn other = by (is_done (count_answer count)) refl
  where
    by : (t : Bool) → is_done (count_answer count) ≡ t → RightCount count
    by true t = count-done count (done-is (count_answer count) t)
    by false t = absurd (other (refused-count count psn (λ right. done-not (count_answer count) t (count-right count right))))
