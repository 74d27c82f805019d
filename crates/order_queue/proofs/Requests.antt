-- What a request does, and that a record is handled by what it asks for. Assumes nothing.
use mathlib.Core.Path.{◌≡◌, refl, sym, ap, ◌∙◌}
use mathlib.Core.Bool.{Bool, true, false, cond, false≢true}
use mathlib.Core.List.{List}
use Prim.Native.Nat.{ℕ, ◌<◌}
use native.Mathlib.Omega.{arith}
use borrow.Author.Tests.{ltb-true, ltb-false}
use lib.Dec.{ltb}
use Rattle.laws.specs.First.{first}
use Rattle.laws.proofs.First.{first_holds, first-all}
use Rattle.answer.specs.declared.Answer.TheVariants.{WrongRecord}
use Rattle.answer.specs.Answer.{is_done}
use Rattle.answer.proofs.Tests.{done-is}
use Rattle.address.specs.declared.Psn.{Psn}
use Rattle.address.specs.Judged.{judged}
use Rattle.order_queue.specs.declared.Queue.{Queue}
use Rattle.order_queue.specs.declared.Request.{Request}
use Rattle.order_queue.specs.declared.Request.TheVariants.{Submit, Serve, Unknown}
use Rattle.order_queue.specs.declared.Handled.{Handled}
use Rattle.order_queue.specs.Records.{request_of}
use Rattle.order_queue.specs.Queue.{is_waiting, bench_at, waits_at, quiet, submit_answer, with_order, submitted, answered_to, handled}
use Rattle.order_queue.specs.Promise.{Does, refuses, stores-order, takes-order, finds-none}
use Rattle.order_queue.proofs.Records.{is_serve, submit-no-serve}
use Rattle.order_queue.proofs.Submits.{submit-right, judged-alone}
use Rattle.order_queue.proofs.Serves.{next-is, next-none, serves-one, serves-none}

-- ---- what it does

does-submit : (queue : Queue) (bench : ℕ) (psn : Psn) → Does queue (Submit bench psn)
unfolding submitted
does-submit queue bench psn = by (is_done (submit_answer queue bench psn.0)) refl
  where
    is : {t : Bool} → is_done (submit_answer queue bench psn.0) ≡ t → answered_to queue (Submit bench psn) ≡ quiet (cond t (with_order queue bench psn) queue) (submit_answer queue bench psn.0)
    is e = ap (λ (t : Bool). quiet (cond t (with_order queue bench psn) queue) (submit_answer queue bench psn.0)) e

    by : (t : Bool) → is_done (submit_answer queue bench psn.0) ≡ t → Does queue (Submit bench psn)
    by true t =
        let done = done-is (submit_answer queue bench psn.0) t in
        stores-order bench psn refl (submit-right queue bench psn.0 done) (is t ∙ ap (quiet (with_order queue bench psn)) done)
    by false t = refuses (submit_answer queue bench psn.0) t submit-no-serve (is t)

does-serve : (queue : Queue) → Does queue Serve
does-serve queue = by (ltb (first 4 (waits_at queue)) 4) refl
  where
    by : (t : Bool) → ltb (first 4 (waits_at queue)) 4 ≡ t → Does queue Serve
    by true t =
        let h = ltb-true (first 4 (waits_at queue)) 4 t in
        let holds = first_holds 4 (waits_at queue) h in
        let bench : bench_at queue.turn (first 4 (waits_at queue)) < 4 = omega arith in
        takes-order (first 4 (waits_at queue)) refl h holds.0 holds.1.fails (sym (serves-one queue (sym (next-is queue h)) bench refl))
    by false t =
        let none = ltb-false (first 4 (waits_at queue)) 4 t in
        finds-none refl (first-all 4 (waits_at queue) none) (sym (serves-none queue (sym (next-none queue none)) (omega arith)))

-- EACH REQUEST DOES ONE OF FOUR THINGS
pub does : (queue : Queue) (request : Request) → Does queue request
does queue (Submit bench psn) = does-submit queue bench psn
does queue Serve = does-serve queue
does queue Unknown = refuses WrongRecord refl (λ e. false≢true (ap is_serve e)) refl

-- ---- a record

-- of a request that is known to be k
pub handled-as : (queue : Queue) (bytes : List ℕ) {request k : Request} {h : Handled} → request ≡ request_of bytes → request ≡ k → h ≡ answered_to queue k → h ≡ handled queue bytes
unfolding handled
handled-as queue bytes hr hk hh = hh ∙ ap (answered_to queue) (sym hk ∙ hr)

-- of a bench that is not waiting the PSN alone is judged
pub submit-judged : (queue : Queue) (bytes : List ℕ) (bench : ℕ) (psn : Psn) → request_of bytes ≡ Submit bench psn → bench < 4 → is_waiting queue bench ≡ false
    → (handled queue bytes).answer ≡ judged psn.0
unfolding handled submitted
submit-judged queue bytes bench psn asks h free = ap (λ (r : Request). (answered_to queue r).answer) asks ∙ judged-alone queue bench psn.0 h free
