-- The tests of a sheet, case by case. Assumes nothing.
use mathlib.Core.Path.{◌≡◌, refl, sym, ap, ◌∙◌}
use mathlib.Core.Bool.{Bool, true, false, cond, ◌&&◌}
use Prim.Native.Nat.{ℕ, ◌+◌, ◌-◌, ◌<◌, ◌≤◌}
use native.Mathlib.Decide.{dec_lt}
use native.Mathlib.Omega.{arith}
use borrow.Author.Tests.{eq-eqb, ne_eqb, eqb-true, eqb-false, lt-ltb, le-ltb, ltb-true, ltb-false, le-leb, leb-true}
use lib.Dec.{leb, ltb}
use Rattle.answer.specs.declared.Answer.{Answer}
use Rattle.answer.specs.declared.Answer.TheVariants.{Done, NoMultiple, NoZone, WrongCount, Repeated}
use Rattle.answer.specs.Answer.{number_of, is_done, and_then}
use Rattle.answer.proofs.Tests.{done-not, then_next, then-here, lowest-here, lowest-none, lowest-done}
use Rattle.address.specs.Judged.{judged}
use Rattle.laws.specs.First.{first}
use Rattle.laws.proofs.First.{Passed, passed-more, first-here, first-all, first-none, first_holds}
use Rattle.address_sheet.specs.Sheet.{count_answer, alone_by, same_as, repeats, over_all, entries_answer}
use Rattle.address_sheet.specs.Promise.{RightCount, RepeatsEarlier}

-- ---- the count

module _ (count : ℕ) where
  pub count-right : RightCount count → count_answer count ≡ Done
  count-right right = rw (le-leb 1 count right.some, le-leb count 64 right.most)

  pub count-done : count_answer count ≡ Done → RightCount count
  count-done e = by (leb 1 count) refl (leb count 64) refl e
    where
      by : (s : Bool) → leb 1 count ≡ s → (t : Bool) → leb count 64 ≡ t → cond (s && t) Done WrongCount ≡ Done → RightCount count
      by true hs true ht e = record { some = leb-true 1 count hs; most = leb-true count 64 ht }
      by true hs false ht e = absurd (done-not WrongCount refl e)
      by false hs t ht e = absurd (done-not WrongCount refl e)

  pub count-refused : (RightCount count → ⊥) → count_answer count ≡ WrongCount
  count-refused wrong = by (leb 1 count && leb count 64) refl
    where
      by : (t : Bool) → (leb 1 count && leb count 64) ≡ t → cond t Done WrongCount ≡ WrongCount
      by true h = absurd (wrong (count-done (ap (λ (t : Bool). cond t Done WrongCount) h)))
      by false h = refl

-- ---- the lowest entry that, alone, is answered by a number; as the code has it, a is what is answered of entry i and n that answer's number

module _ (psn : ℕ → ℕ) (i number : ℕ) {n : ℕ} {a : Answer} (passed : Passed (alone_by number psn) i) (ha : a ≡ judged (psn i)) (hn : n ≡ number_of a) where
  alone : number_of (judged (psn i)) ≡ n
  alone = sym (hn ∙ ap number_of ha)

  pub alone-here : (count : ℕ) → i < count → n ≡ number → i ≡ first count (alone_by number psn)
  alone-here count h e = first-here h passed (eq-eqb (number_of (judged (psn i))) number (alone ∙ e))

  pub alone-on : (n ≡ number → ⊥) → Passed (alone_by number psn) (i + 1)
  alone-on h = passed-more passed (ne_eqb (number_of (judged (psn i))) number (λ e. h (sym alone ∙ e)))

-- ---- repetitions

module _ (psn : ℕ → ℕ) (i : ℕ) where
  pub repeats-not : repeats psn i ≡ false → RepeatsEarlier psn i → ⊥
  repeats-not e is =
      let none = first-all i (same_as psn i) (ltb-false (first i (same_as psn i)) i e) is.earlier is.before in
      eqb-false (psn is.earlier) (psn i) none is.same

  pub repeats-is : RepeatsEarlier psn i → repeats psn i ≡ true
  repeats-is is = by (repeats psn i) refl
    where
      by : (t : Bool) → repeats psn i ≡ t → t ≡ true
      by true e = refl
      by false e = absurd (repeats-not e is)

  pub repeats-earlier : repeats psn i ≡ true → RepeatsEarlier psn i
  repeats-earlier e =
      let h = ltb-true (first i (same_as psn i)) i e in
      record { earlier = first i (same_as psn i); before = h; same = eqb-true (psn (first i (same_as psn i))) (psn i) (first_holds i (same_as psn i) h).0 }

-- in a loop back over the earlier ones: none from j on has the PSN of entry i
pub record NoneSince (psn : ℕ → ℕ) (i j : ℕ) : Type 0 where
  pub within : j ≤ i
  pub differ : (k : ℕ) → j ≤ k → k < i → same_as psn i k ≡ false

module _ (psn : ℕ → ℕ) {i j : ℕ} (none : NoneSince psn i j) where
  pub same_here : 0 < j → psn (j - 1) ≡ psn i → (j - 1 ≤ i) × (ltb (j - 1) i ≡ repeats psn i)
  same_here some e =
      let h : j - 1 < i = omega (arith, some, none.within) in
      (omega (arith, h), lt-ltb (j - 1) i h ∙ sym (repeats-is psn i (record { earlier = j - 1; before = h; same = e })))

  pub same-on : 0 < j → (psn (j - 1) ≡ psn i → ⊥) → NoneSince psn i (j - 1)
  same-on some other =
      record {
        within = omega (arith, none.within);
        differ = λ k from h.
            elim (dec_lt k j) [
              | yes here ↦ ap (same_as psn i) {y = j - 1} (omega (arith, from, here)) ∙ ne_eqb (psn (j - 1)) (psn i) other
              | no past ↦ none.differ k (omega (arith, past)) h
            ];
      }

  pub same_none : j ≤ 0 → (i ≤ i) × (ltb i i ≡ repeats psn i)
  same_none all =
      let past = first-none i (same_as psn i) (record { fails = λ k h. none.differ k (omega (arith, all)) h }) in
      (omega arith, ap (λ (n : ℕ). ltb n i) (sym past))

-- in a loop over all entries: earlier is below i exactly where an earlier entry has the PSN of entry i
module _ (psn : ℕ → ℕ) {i earlier : ℕ} (passed : Passed (repeats psn) i) (h : (earlier ≤ i) × (ltb earlier i ≡ repeats psn i)) where
  pub repeated-here : {count : ℕ} → i < count → (i - earlier ≡ 0 → ⊥) → i ≡ first count (repeats psn)
  repeated-here within far = first-here within passed (sym h.1 ∙ lt-ltb earlier i (omega (arith, h.0, far)))

  pub repeated-on : i - earlier ≡ 0 → Passed (repeats psn) (i + 1)
  repeated-on none = passed-more passed (sym h.1 ∙ le-ltb earlier i (omega (arith, h.0, none)))

-- ---- a test of all entries; as the code has it, i is the lowest that fails

module _ (refusal : ℕ → Answer) (count : ℕ) (fails : ℕ → Bool) where
  over-at : {i : ℕ} → i ≡ first count fails → i < count → over_all refusal count fails ≡ refusal i
  over-at {i} e h = lowest-here refusal {n = count} {i = first count fails} (omega (arith, e, h)) ∙ ap refusal (sym e)

  over_none : {i : ℕ} → i ≡ first count fails → count ≤ i → over_all refusal count fails ≡ Done
  over_none {i} e h = lowest-none refusal {n = count} {i = first count fails} (omega (arith, e, h))

  pub over_done : ((k : ℕ) → is_done (refusal k) ≡ false) → over_all refusal count fails ≡ Done → (k : ℕ) → k < count → fails k ≡ false
  over_done r e = first-all count fails (lowest-done refusal {n = count} {i = first count fails} r e)

-- ---- the three tests

module _ (count : ℕ) (psn : ℕ → ℕ) where
  abbrev pub later_tests : Answer
  later_tests = and_then (over_all NoZone count (alone_by 7 psn)) (over_all Repeated count (repeats psn))

  module _ {six : ℕ} (h6 : six ≡ first count (alone_by 6 psn)) where
    pub fails-6 : six < count → NoMultiple six ≡ entries_answer count psn
    fails-6 h = let here = over-at NoMultiple count (alone_by 6 psn) h6 h in sym (then-here _ later_tests (ap is_done here) ∙ here)

    module _ (past6 : count ≤ six) {seven : ℕ} (h7 : seven ≡ first count (alone_by 7 psn)) where
      from7 : entries_answer count psn ≡ later_tests
      from7 = then_next _ later_tests (over_none NoMultiple count (alone_by 6 psn) h6 past6)

      pub fails-7 : seven < count → NoZone seven ≡ entries_answer count psn
      fails-7 h = let here = over-at NoZone count (alone_by 7 psn) h7 h in sym (from7 ∙ then-here _ _ (ap is_done here) ∙ here)

      module _ (past7 : count ≤ seven) {again : ℕ} (h24 : again ≡ first count (repeats psn)) where
        from24 : entries_answer count psn ≡ over_all Repeated count (repeats psn)
        from24 = from7 ∙ then_next _ _ (over_none NoZone count (alone_by 7 psn) h7 past7)

        pub fails-24 : again < count → Repeated again ≡ entries_answer count psn
        fails-24 h = sym (from24 ∙ over-at Repeated count (repeats psn) h24 h)

        pub fails-none : count ≤ again → Done ≡ entries_answer count psn
        fails-none h = sym (from24 ∙ over_none Repeated count (repeats psn) h24 h)
