-- The queue as a caller in another language hands it over and gets it back: numbers instead of Booleans, PSNs and an enum.
use Rattle.std.specs.Prelude.{◌≡◌, not, cond, [], ◌∷◌, ℕ, ◌<◌, ◌≤◌, eqb, length, get_or}
use Rattle.answer.specs.Answer.{number_of, place_of}
use Rattle.order_queue.specs.declared.Order.{Order}
use Rattle.order_queue.specs.declared.Queue.{Queue}
use Rattle.order_queue.specs.declared.Handled.{Handled}
use Rattle.order_queue.specs.Queue.{order_of}
use Rattle.export_queue.specs.declared.OrderNumbers.{OrderNumbers}
use Rattle.export_queue.specs.declared.QueueNumbers.{QueueNumbers}
use Rattle.export_queue.specs.declared.HandledNumbers.{HandledNumbers}

-- ---- as it is handed in: any number but 0 is a waiting order

abbrev pub order_given : OrderNumbers → Order
order_given o = record { waiting = not (eqb o.waiting 0); psn = record { 0 = o.psn } }

abbrev pub given_at : QueueNumbers → ℕ → Order
given_at queue bench = order_given (get_or queue.orders bench (record { waiting = 0; psn = 0 }))

unfoldable pub queue_given : QueueNumbers → Queue
queue_given queue = record { orders = given_at queue 0 ∷ given_at queue 1 ∷ given_at queue 2 ∷ given_at queue 3 ∷ []; turn = queue.turn }

-- ---- as it is given back: 1 for a waiting order

abbrev pub order_seen : Order → OrderNumbers
order_seen o = record { waiting = cond o.waiting 1 0; psn = o.psn.0 }

unfoldable pub queue_seen : Queue → QueueNumbers
queue_seen queue =
    record { orders = order_seen (order_of queue 0) ∷ order_seen (order_of queue 1) ∷ order_seen (order_of queue 2) ∷ order_seen (order_of queue 3) ∷ []; turn = queue.turn }

abbrev pub handled_seen : Handled → HandledNumbers
handled_seen h = record { queue = queue_seen h.queue; number = number_of h.answer; place = place_of h.answer; bench = h.bench; psn = h.psn.0 }

-- ---- what is promised

-- four orders, each with 0 or 1, as it is given back
pub record IsPlain (queue : QueueNumbers) : Type 0 where
  pub four : length queue.orders ≡ 4
  pub flags : (bench : ℕ) → bench < 4 → (get_or queue.orders bench (record { waiting = 0; psn = 0 })).waiting ≤ 1
