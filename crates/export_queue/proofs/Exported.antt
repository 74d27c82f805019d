-- A queue in numbers, order by order, and what is returned. Assumes nothing.
use mathlib.Core.Path.{◌≡◌, ap, ◌∙◌}
use mathlib.Core.Bool.{cond}
use mathlib.Core.List.{[], ◌∷◌}
use Prim.Native.Nat.{ℕ}
use Rattle.answer.specs.Answer.{number_of, place_of}
use Rattle.order_queue.specs.declared.Order.{Order}
use Rattle.order_queue.specs.declared.Queue.{Queue}
use Rattle.order_queue.specs.declared.Handled.{Handled}
use Rattle.order_queue.specs.Queue.{order_of}
use Rattle.export_queue.specs.declared.OrderNumbers.{OrderNumbers}
use Rattle.export_queue.specs.declared.QueueNumbers.{QueueNumbers}
use Rattle.export_queue.specs.Exported.{given_at, queue_given, order_seen, queue_seen, handled_seen}

-- as the code has them, a, b, c and d are the four orders
pub four-given : (queue : QueueNumbers) {a b c d : Order} → a ≡ given_at queue 0 → b ≡ given_at queue 1 → c ≡ given_at queue 2 → d ≡ given_at queue 3
    → record { orders = a ∷ b ∷ c ∷ d ∷ []; turn = queue.turn } ≡ queue_given queue
unfolding queue_given
four-given queue ha hb hc hd = λ i. record { orders = ha i ∷ hb i ∷ hc i ∷ hd i ∷ []; turn = queue.turn }

pub four-seen : (queue : Queue) {a b c d : OrderNumbers} → a ≡ order_seen (order_of queue 0) → b ≡ order_seen (order_of queue 1) → c ≡ order_seen (order_of queue 2) → d ≡ order_seen (order_of queue 3)
    → record { orders = a ∷ b ∷ c ∷ d ∷ []; turn = queue.turn } ≡ queue_seen queue
unfolding queue_seen
four-seen queue ha hb hc hd = λ i. record { orders = ha i ∷ hb i ∷ hc i ∷ hd i ∷ []; turn = queue.turn }

pub order-seen : (order : Order) {n : ℕ} → n ≡ cond order.waiting 1 0 → record { waiting = n; psn = order.psn.0 } ≡ order_seen order
order-seen order hn = λ i. record { waiting = hn i; psn = order.psn.0 }

-- h is what was handled, as the code has it, and q its queue in numbers
pub in-numbers : {h is : Handled} {q : QueueNumbers} {n p : ℕ} → h ≡ is → q ≡ queue_seen h.queue → n ≡ number_of h.answer → p ≡ place_of h.answer
    → record { queue = q; number = n; place = p; bench = h.bench; psn = h.psn.0 } ≡ handled_seen is
in-numbers {h} hh hq hn hp = (λ i. record { queue = hq i; number = hn i; place = hp i; bench = h.bench; psn = h.psn.0 }) ∙ ap handled_seen hh
