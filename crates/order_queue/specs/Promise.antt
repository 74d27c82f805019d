-- Document 02, W-214: which submits are accepted, what a request does, and what each answer says of a record.
use Rattle.std.specs.Prelude.{◌≡◌, true, false, List, ℕ, ◌<◌, ◌≤◌}
use Rattle.answer.specs.declared.Answer.{Answer}
use Rattle.answer.specs.declared.Answer.TheVariants.{Done, NoMultiple, NoZone, WrongRecord, NoBench, BenchWaiting}
use Rattle.answer.specs.Answer.{is_done}
use Rattle.address.specs.declared.Psn.{Psn}
use Rattle.address.specs.Judged.{judged}
use Rattle.order_queue.specs.declared.Queue.{Queue}
use Rattle.order_queue.specs.declared.Request.{Request}
use Rattle.order_queue.specs.declared.Request.TheVariants.{Submit, Serve, Unknown}
use Rattle.order_queue.specs.declared.Handled.{Handled}
use Rattle.order_queue.specs.Records.{request_of}
use Rattle.order_queue.specs.Queue.{is_waiting, bench_at, waits_at, quiet, with_order, order_taken, none_waiting, answered_to}

-- of a bench that is not waiting, with an accepted PSN
pub record RightSubmit (queue : Queue) (bench psn : ℕ) : Type 0 where
  pub bench-is : bench < 4
  pub free : is_waiting queue bench ≡ false
  pub psn-is : judged psn ≡ Done

-- what a request does: it is refused and changes nothing; an order is stored; the first waiting bench from the turn on, k places on, is served; none is waiting
pub data Does (queue : Queue) (request : Request) : Type 0 where
  refuses : (answer : Answer) → is_done answer ≡ false → (request ≡ Serve → ⊥) → answered_to queue request ≡ quiet queue answer → Does queue request
  stores-order : (bench : ℕ) (psn : Psn) → request ≡ Submit bench psn → RightSubmit queue bench psn.0 → answered_to queue request ≡ quiet (with_order queue bench psn) Done
      → Does queue request
  takes-order : (k : ℕ) → request ≡ Serve → k < 4 → waits_at queue k ≡ true → ((nearer : ℕ) → nearer < k → waits_at queue nearer ≡ false)
      → answered_to queue request ≡ order_taken queue (bench_at queue.turn k) → Does queue request
  finds-none : request ≡ Serve → ((k : ℕ) → k < 4 → waits_at queue k ≡ false) → answered_to queue request ≡ none_waiting queue → Does queue request

-- what each answer says of a record; no other is given
pub data Says (queue : Queue) (bytes : List ℕ) : Answer → Type 0 where
  at-26 : request_of bytes ≡ Unknown → Says queue bytes WrongRecord
  at-27 : (bench : ℕ) (psn : Psn) → request_of bytes ≡ Submit bench psn → 4 ≤ bench → Says queue bytes NoBench
  at-28 : (bench : ℕ) (psn : Psn) → request_of bytes ≡ Submit bench psn → bench < 4 → is_waiting queue bench ≡ true → Says queue bytes BenchWaiting
  at-6 : (bench : ℕ) (psn : Psn) → request_of bytes ≡ Submit bench psn → bench < 4 → is_waiting queue bench ≡ false → judged psn.0 ≡ NoMultiple 0 → Says queue bytes (NoMultiple 0)
  at_7 : (bench : ℕ) (psn : Psn) → request_of bytes ≡ Submit bench psn → bench < 4 → is_waiting queue bench ≡ false → judged psn.0 ≡ NoZone 0 → Says queue bytes (NoZone 0)
  at-0-submit : (bench : ℕ) (psn : Psn) → request_of bytes ≡ Submit bench psn → RightSubmit queue bench psn.0 → Says queue bytes Done
  at-0-serve : request_of bytes ≡ Serve → Says queue bytes Done

-- two serves report the same, and leave the same queue where an order was taken
pub record ServesAs (a b : Handled) : Type 0 where
  pub same-bench : a.bench ≡ b.bench
  pub same-psn : a.psn ≡ b.psn
  pub same_queue : (a.bench ≡ 255 → ⊥) → a.queue ≡ b.queue
