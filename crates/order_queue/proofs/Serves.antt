-- A serve: where it begins, which benches it passes, and what it leaves. Assumes nothing.
use mathlib.Core.Path.{◌≡◌, refl, sym, ap, ◌∙◌}
use mathlib.Core.Bool.{Bool, true, false, cond}
use Prim.Native.Nat.{ℕ, ◌+◌, ◌%◌, ◌<◌, ◌≤◌}
use native.Mathlib.Nat.{add_assoc, mod-add-mod}
use native.Mathlib.Omega.{arith}
use borrow.Author.Tests.{lt-ltb, le-ltb, ltb-true}
use lib.Dec.{ltb}
use lib.ListN.{set}
use Rattle.laws.specs.First.{first}
use Rattle.laws.proofs.First.{Passed, passed_none, passed-more, first-here, first_past}
use Rattle.answer.specs.declared.Answer.TheVariants.{Done}
use Rattle.order_queue.specs.declared.Order.{Order}
use Rattle.order_queue.specs.declared.Queue.{Queue}
use Rattle.order_queue.specs.declared.Handled.{Handled}
use Rattle.order_queue.specs.Queue.{no_order, order_of, begins_at, bench_at, waits_at, next_bench, order_taken, none_waiting, served}

-- ---- the next bench

module _ (queue : Queue) where
  pub next-is : first 4 (waits_at queue) < 4 → next_bench queue ≡ bench_at queue.turn (first 4 (waits_at queue))
  next-is h = ap (λ (t : Bool). cond t (bench_at queue.turn (first 4 (waits_at queue))) 4) (lt-ltb (first 4 (waits_at queue)) 4 h)

  pub next-none : 4 ≤ first 4 (waits_at queue) → next_bench queue ≡ 4
  next-none h = ap (λ (t : Bool). cond t (bench_at queue.turn (first 4 (waits_at queue))) 4) (le-ltb (first 4 (waits_at queue)) 4 h)

-- ---- where it begins

module _ {turn : ℕ} where
  pub begins-named : turn < 4 → turn ≡ begins_at turn
  begins-named h = rw (lt-ltb turn 4 h)

  pub begins-else : 4 ≤ turn → 0 ≡ begins_at turn
  begins-else h = rw (le-ltb turn 4 h)

-- it is one of the four
pub begins-within : (turn : ℕ) → begins_at turn < 4
begins-within turn = by (ltb turn 4) refl
  where
    by : (t : Bool) → ltb turn 4 ≡ t → cond t turn 0 < 4
    by true t = ltb-true turn 4 t
    by false t = omega arith

-- ---- which benches it passes

-- in a loop: k benches without an order are passed, and `bench` is the next one
pub record Passing (queue : Queue) (k bench : ℕ) : Type 0 where
  pub small : bench < 4
  pub here : bench ≡ bench_at queue.turn k
  pub passed : Passed (waits_at queue) k

pub passing-none : (queue : Queue) {bench : ℕ} → bench < 4 → bench ≡ begins_at queue.turn → Passing queue 0 bench
passing-none queue h e = record { small = h; here = omega (arith, h, e); passed = passed_none }

-- as the code has it, o is the order of the next one
module _ (queue : Queue) {k bench : ℕ} {o : Order} (passing : Passing queue k bench) (ho : o ≡ order_of queue bench) where
  waits-here : {t : Bool} → o.waiting ≡ t → waits_at queue k ≡ t
  waits-here e = sym (ap (λ (x : Order). x.waiting) (ho ∙ ap (order_of queue) passing.here)) ∙ e

  pub passing-found : k < 4 → o.waiting ≡ true → bench ≡ next_bench queue
  passing-found h e =
      let is : k ≡ first 4 (waits_at queue) = first-here h passing.passed (waits-here e) in
      passing.here ∙ ap (bench_at queue.turn) is ∙ sym (next-is queue (omega (arith, h, is)))

  pub passing-on : o.waiting ≡ false → Passing queue (k + 1) ((bench + 1) % 4)
  passing-on e = record { small = omega arith; here = ap (λ (b : ℕ). (b + 1) % 4) passing.here ∙ mod-add-mod (begins_at queue.turn + k) 4 1 ∙ ap (λ (n : ℕ). n % 4) (add_assoc (begins_at queue.turn) k 1); passed = passed-more passing.passed (waits-here e) }

pub passing-all : (queue : Queue) {k bench : ℕ} → Passing queue k bench → 4 ≤ k → 4 ≡ next_bench queue
passing-all queue {k} passing h = sym (next-none queue (omega (arith, first_past {n = 4} {i = k} h passing.passed)))

-- ---- the order that is taken; as the code has it, o is that order

pub taken-told : (queue : Queue) (bench : ℕ) {o : Order} → o ≡ order_of queue bench
    → record { queue = record { orders = set queue.orders bench no_order; turn = (bench + 1) % 4 }; answer = Done; bench = bench; psn = o.psn } ≡ order_taken queue bench
taken-told queue bench ho = λ i. record { queue = record { orders = set queue.orders bench no_order; turn = (bench + 1) % 4 }; answer = Done; bench = bench; psn = (ho i).psn }

-- ---- what it leaves; as the code has it, bench is the next one

module _ (queue : Queue) {bench : ℕ} (hb : bench ≡ next_bench queue) where
  pub serves-one : {r : Handled} → bench < 4 → r ≡ order_taken queue bench → r ≡ served queue
  unfolding served
  serves-one h hr =
      hr ∙ ap (order_taken queue) hb ∙ sym (ap (λ (t : Bool). cond t (order_taken queue (next_bench queue)) (none_waiting queue)) (lt-ltb (next_bench queue) 4 (omega (arith, h, hb))))

  pub serves-none : 4 ≤ bench → none_waiting queue ≡ served queue
  unfolding served
  serves-none h = sym (ap (λ (t : Bool). cond t (order_taken queue (next_bench queue)) (none_waiting queue)) (le-ltb (next_bench queue) 4 (omega (arith, h, hb))))
