-- The queue of four benches (document 02, W-214): what each record leaves of it, answers and reports.
use Rattle.std.specs.Prelude.{Bool, true, false, cond, List, [], ◌∷◌, ℕ, ◌+◌, ◌%◌, ltb, get_or, set}
use Rattle.laws.specs.First.{first}
use Rattle.answer.specs.declared.Answer.{Answer}
use Rattle.answer.specs.declared.Answer.TheVariants.{Done, WrongRecord, NoBench, BenchWaiting}
use Rattle.answer.specs.Answer.{is_done, and_then}
use Rattle.address.specs.declared.Psn.{Psn}
use Rattle.address.specs.Judged.{judged}
use Rattle.order_queue.specs.declared.Order.{Order}
use Rattle.order_queue.specs.declared.Queue.{Queue}
use Rattle.order_queue.specs.declared.Request.{Request}
use Rattle.order_queue.specs.declared.Request.TheVariants.{Submit, Serve, Unknown}
use Rattle.order_queue.specs.declared.Handled.{Handled}
use Rattle.order_queue.specs.Records.{request_of}

-- ---- orders and turn

abbrev pub no_order : Order
no_order = record { waiting = false; psn = record { 0 = 0 } }

unfoldable pub empty_queue : Queue
empty_queue = record { orders = no_order ∷ no_order ∷ no_order ∷ no_order ∷ []; turn = 0 }

abbrev pub order_of : Queue → ℕ → Order
order_of queue bench = get_or queue.orders bench no_order

abbrev pub is_waiting : Queue → ℕ → Bool
is_waiting queue bench = (order_of queue bench).waiting

-- a turn that names no bench begins at bench 0
abbrev pub begins_at : ℕ → ℕ
begins_at turn = cond (ltb turn 4) turn 0

-- the bench k places on from there, going round
abbrev pub bench_at : ℕ → ℕ → ℕ
bench_at turn k = (begins_at turn + k) % 4

abbrev pub waits_at : Queue → ℕ → Bool
waits_at queue k = is_waiting queue (bench_at queue.turn k)

-- the bench whose order is next: benches without an order are passed; 4 where none is waiting
abbrev pub next_bench : Queue → ℕ
next_bench queue =
    let passed = first 4 (waits_at queue) in
    cond (ltb passed 4) (bench_at queue.turn passed) 4

-- ---- what is reported

-- bench 0 and PSN 0, for a submit and for a refusal
abbrev pub quiet : Queue → Answer → Handled
quiet queue answer = record { queue = queue; answer = answer; bench = 0; psn = record { 0 = 0 } }

-- ---- a submit

-- 27 for a bench above 3
abbrev pub bench_answer : ℕ → Answer
bench_answer bench = cond (ltb bench 4) Done NoBench

-- 28 for a bench already waiting
abbrev pub waiting_answer : Queue → ℕ → Answer
waiting_answer queue bench = cond (is_waiting queue bench) BenchWaiting Done

-- these precede 6 and 7
abbrev pub submit_answer : Queue → ℕ → ℕ → Answer
submit_answer queue bench psn = and_then (bench_answer bench) (and_then (waiting_answer queue bench) (judged psn))

abbrev pub with_order : Queue → ℕ → Psn → Queue
with_order queue bench psn = record { orders = set queue.orders bench (record { waiting = true; psn = psn }); turn = queue.turn }

unfoldable pub submitted : Queue → ℕ → Psn → Handled
submitted queue bench psn =
    let answer = submit_answer queue bench psn.0 in
    quiet (cond (is_done answer) (with_order queue bench psn) queue) answer

-- ---- a serve

-- the order of a bench is reported and gone; the next serve begins at the bench after it
abbrev pub order_taken : Queue → ℕ → Handled
order_taken queue bench =
    record { queue = record { orders = set queue.orders bench no_order; turn = (bench + 1) % 4 }; answer = Done; bench = bench; psn = (order_of queue bench).psn }

-- bench 255 and PSN 0 where none is waiting
abbrev pub none_waiting : Queue → Handled
none_waiting queue = record { queue = queue; answer = Done; bench = 255; psn = record { 0 = 0 } }

unfoldable pub served : Queue → Handled
served queue = cond (ltb (next_bench queue) 4) (order_taken queue (next_bench queue)) (none_waiting queue)

-- ---- a record

abbrev pub answered_to : Queue → Request → Handled
answered_to queue (Submit bench psn) = submitted queue bench psn
answered_to queue Serve = served queue
answered_to queue Unknown = quiet queue WrongRecord

unfoldable pub handled : Queue → List ℕ → Handled
handled queue bytes = answered_to queue (request_of bytes)
