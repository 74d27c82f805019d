-- What is promised of a queue in numbers: 0 or 1 for each order comes back, and so given comes back as it was, under a refusal too. Assumes nothing.
use mathlib.Core.Path.{◌≡◌, refl, sym, ap, ◌∙◌}
use mathlib.Core.Bool.{Bool, true, false, not, cond}
use mathlib.Core.List.{List, [], ◌∷◌}
use Prim.Native.Nat.{ℕ, zero, suc, ◌<◌, ◌≤◌}
use native.Mathlib.Omega.{arith}
use lib.Dec.{eqb}
use lib.ListN.{length, get_or}
use Rattle.answer.specs.Answer.{is_done}
use Rattle.order_queue.specs.declared.Queue.{Queue}
use Rattle.order_queue.specs.declared.Handled.{Handled}
use Rattle.order_queue.specs.Queue.{order_of, handled}
use Rattle.order_queue.proofs.Statements.{refused-quiet}
use Rattle.export_queue.specs.declared.OrderNumbers.{OrderNumbers}
use Rattle.export_queue.specs.declared.QueueNumbers.{QueueNumbers}
use Rattle.export_queue.specs.Exported.{order_given, queue_given, order_seen, queue_seen, handled_seen, IsPlain}

order-back : (o : OrderNumbers) → o.waiting ≤ 1 → order_seen (order_given o) ≡ o
order-back o h = by o.waiting h
  where
    by : (n : ℕ) → n ≤ 1 → ◌≡◌ {A = OrderNumbers} (record { waiting = cond (not (eqb n 0)) 1 0; psn = o.psn }) (record { waiting = n; psn = o.psn })
    by zero h = refl
    by (suc zero) h = refl
    by (suc (suc n)) h = absurd (omega (arith, h))

abbrev numbers_at : List OrderNumbers → ℕ → OrderNumbers
numbers_at l k = get_or l k (record { waiting = 0; psn = 0 })

four-orders : (l : List OrderNumbers) → length l ≡ 4 → l ≡ numbers_at l 0 ∷ numbers_at l 1 ∷ numbers_at l 2 ∷ numbers_at l 3 ∷ []
four-orders [] e = absurd (omega (arith, e))
four-orders (a ∷ []) e = absurd (omega (arith, e))
four-orders (a ∷ b ∷ []) e = absurd (omega (arith, e))
four-orders (a ∷ b ∷ c ∷ []) e = absurd (omega (arith, e))
four-orders (a ∷ b ∷ c ∷ d ∷ []) e = refl
four-orders (a ∷ b ∷ c ∷ d ∷ x ∷ l) e = absurd (omega (arith, e))

-- WHAT IS GIVEN BACK HAS 0 OR 1 FOR EACH ORDER
pub seen_plain : (queue : Queue) → IsPlain (queue_seen queue)
unfolding queue_seen
seen_plain queue = record { four = refl; flags = flags }
  where
    small : (t : Bool) → cond t 1 0 ≤ 1
    small true = omega arith
    small false = omega arith

    flags : (bench : ℕ) → bench < 4 → (numbers_at (queue_seen queue).orders bench).waiting ≤ 1
    flags zero h = small (order_of queue 0).waiting
    flags (suc zero) h = small (order_of queue 1).waiting
    flags (suc (suc zero)) h = small (order_of queue 2).waiting
    flags (suc (suc (suc zero))) h = small (order_of queue 3).waiting
    flags (suc (suc (suc (suc n)))) h = absurd (omega (arith, h))

-- A QUEUE WITH 0 OR 1 FOR EACH ORDER COMES BACK AS IT WAS
pub queue-back : (queue : QueueNumbers) → IsPlain queue → queue_seen (queue_given queue) ≡ queue
unfolding queue_seen queue_given
queue-back queue plain =
    let same : (k : ℕ) → k < 4 → order_seen (order_given (numbers_at queue.orders k)) ≡ numbers_at queue.orders k =
    λ k h. order-back (numbers_at queue.orders k) (plain.flags k h) in
    (λ i. record { orders = same 0 (omega arith) i ∷ same 1 (omega arith) i ∷ same 2 (omega arith) i ∷ same 3 (omega arith) i ∷ []; turn = queue.turn })
    ∙ (λ i. record { orders = sym (four-orders queue.orders plain.four) i; turn = queue.turn })

-- SO A REFUSAL CHANGES NOTHING
pub refused-same : (queue : QueueNumbers) (bytes : List ℕ) → IsPlain queue → is_done (handled (queue_given queue) bytes).answer ≡ false
    → (handled_seen (handled (queue_given queue) bytes)).queue ≡ queue
refused-same queue bytes plain refused =
    ap (λ (h : Handled). queue_seen h.queue) (refused-quiet (queue_given queue) bytes refused) ∙ queue-back queue plain
