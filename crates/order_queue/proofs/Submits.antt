-- A submit: its tests, and when it is stored. Assumes nothing.
use mathlib.Core.Path.{◌≡◌, refl, sym, ap, ◌∙◌}
use mathlib.Core.Bool.{Bool, true, false, cond, false≢true}
use Prim.Native.Nat.{ℕ, zero, suc, ◌<◌, ◌≤◌}
use native.Mathlib.Decide.{dec_lt}
use native.Mathlib.Omega.{arith}
use borrow.Author.Tests.{lt-ltb, le-ltb, ltb-true}
use lib.Dec.{ltb}
use lib.ListN.{length, get_or-eq_default}
use Rattle.answer.specs.declared.Answer.{Answer}
use Rattle.answer.specs.declared.Answer.TheVariants.{Done, NoBench, BenchWaiting}
use Rattle.answer.specs.Answer.{is_done, and_then}
use Rattle.answer.proofs.Tests.{done-is, done-not, then_next, then-both, then-done}
use Rattle.address.specs.declared.Psn.{Psn}
use Rattle.address.specs.Judged.{judged}
use Rattle.order_queue.specs.declared.Order.{Order}
use Rattle.order_queue.specs.declared.Queue.{Queue}
use Rattle.order_queue.specs.declared.Handled.{Handled}
use Rattle.order_queue.specs.Queue.{no_order, empty_queue, order_of, is_waiting, quiet, bench_answer, waiting_answer, submit_answer, with_order, submitted}
use Rattle.order_queue.specs.Promise.{RightSubmit}

-- ---- 27 and 28

module _ {bench : ℕ} where
  pub bench-right : bench < 4 → Done ≡ bench_answer bench
  bench-right h = rw (lt-ltb bench 4 h)

  pub bench-wrong : 4 ≤ bench → NoBench ≡ bench_answer bench
  bench-wrong h = rw (le-ltb bench 4 h)

  pub bench-done : bench_answer bench ≡ Done → bench < 4
  bench-done e = by (ltb bench 4) refl e
    where
      by : (t : Bool) → ltb bench 4 ≡ t → cond t Done NoBench ≡ Done → bench < 4
      by true t e = ltb-true bench 4 t
      by false t e = absurd (done-not NoBench refl e)

module _ (queue : Queue) (bench : ℕ) where
  -- as the code has it, o is the order
  pub waiting-told : {o : Order} → o ≡ order_of queue bench → {t : Bool} → o.waiting ≡ t → cond t BenchWaiting Done ≡ waiting_answer queue bench
  waiting-told ho e = ap (λ (t : Bool). cond t BenchWaiting Done) (sym e ∙ ap (λ (o : Order). o.waiting) ho)

  pub not-waiting : is_waiting queue bench ≡ false → Done ≡ waiting_answer queue bench
  not-waiting e = rw e

  pub waiting-done : waiting_answer queue bench ≡ Done → is_waiting queue bench ≡ false
  waiting-done e = by (is_waiting queue bench) refl e
    where
      by : (t : Bool) → is_waiting queue bench ≡ t → cond t BenchWaiting Done ≡ Done → t ≡ false
      by true t e = absurd (done-not BenchWaiting refl e)
      by false t e = refl

-- a bench that is waiting is one of the four
pub waiting-within : (queue : Queue) → length queue.orders ≡ 4 → (bench : ℕ) → is_waiting queue bench ≡ true → bench < 4
waiting-within queue four bench w =
    elim (dec_lt bench 4) [
      | yes h ↦ h
      | no past ↦ absurd (false≢true (sym (ap (λ (o : Order). o.waiting) (get_or-eq_default queue.orders no_order {n = bench} (omega (arith, four, past)))) ∙ w))
    ]

pub empty-waits : (bench : ℕ) → is_waiting empty_queue bench ≡ false
unfolding empty_queue
empty-waits zero = refl
empty-waits (suc zero) = refl
empty-waits (suc (suc zero)) = refl
empty-waits (suc (suc (suc zero))) = refl
empty-waits (suc (suc (suc (suc bench)))) = refl

-- ---- all tests

module _ (queue : Queue) (bench psn : ℕ) where
  pub submit-right : submit_answer queue bench psn ≡ Done → RightSubmit queue bench psn
  submit-right e =
      let one = then-done (bench_answer bench) (and_then (waiting_answer queue bench) (judged psn)) e in
      let two = then-done (waiting_answer queue bench) (judged psn) one.1 in
      record { bench-is = bench-done one.0; free = waiting-done queue bench two.0; psn-is = two.1 }

  -- of a bench that is not waiting the PSN alone is judged
  pub judged-alone : bench < 4 → is_waiting queue bench ≡ false → submit_answer queue bench psn ≡ judged psn
  judged-alone h free =
      then_next (bench_answer bench) (and_then (waiting_answer queue bench) (judged psn)) (sym (bench-right h))
      ∙ then_next (waiting_answer queue bench) (judged psn) (sym (not-waiting queue bench free))

  -- as the code has them
  pub judges : {number waiting accepted rest a : Answer} → number ≡ bench_answer bench → waiting ≡ waiting_answer queue bench → accepted ≡ judged psn
      → rest ≡ and_then waiting accepted → a ≡ and_then number rest → a ≡ submit_answer queue bench psn
  judges hn hw hp hr ha = ha ∙ (λ i. and_then (hn i) (hr i)) ∙ (λ i. and_then (bench_answer bench) (and_then (hw i) (hp i)))

  pub right-submit : RightSubmit queue bench psn → submit_answer queue bench psn ≡ Done
  right-submit right =
      then-both (bench_answer bench) (and_then (waiting_answer queue bench) (judged psn)) (sym (bench-right right.bench-is))
      (then-both (waiting_answer queue bench) (judged psn) (sym (not-waiting queue bench right.free)) right.psn-is)

-- ---- what is left; as the code has it, a is what is answered and d whether it is 0

module _ (queue : Queue) (bench : ℕ) (psn : Psn) {a : Answer} {d : Bool} (ha : a ≡ submit_answer queue bench psn.0) (hd : d ≡ is_done a) where
  is-done : {t : Bool} → d ≡ t → is_done (submit_answer queue bench psn.0) ≡ t
  is-done e = sym (ap is_done ha) ∙ sym hd ∙ e

  pub stored-told : {longer : Queue} {r : Handled} → d ≡ true → (bench < 4 → longer ≡ with_order queue bench psn) → r ≡ quiet longer a → r ≡ submitted queue bench psn
  unfolding submitted
  stored-told {longer} {r} e hl hr =
      let done = is-done e in
      let right = submit-right queue bench psn.0 (done-is (submit_answer queue bench psn.0) done) in
      hr ∙ (λ i. quiet (hl right.bench-is i) (ha i)) ∙ sym (ap (λ (t : Bool). quiet (cond t (with_order queue bench psn) queue) (submit_answer queue bench psn.0)) done)

  pub refused-told : {r : Handled} → d ≡ false → r ≡ quiet queue a → r ≡ submitted queue bench psn
  unfolding submitted
  refused-told {r} e hr =
      hr ∙ ap (quiet queue) ha ∙ sym (ap (λ (t : Bool). quiet (cond t (with_order queue bench psn) queue) (submit_answer queue bench psn.0)) (is-done e))
