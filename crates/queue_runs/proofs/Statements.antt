-- What is promised of runs of records. Assumes nothing.
use mathlib.Core.Path.{◌≡◌, refl, sym, ap, ap₂, ◌∙◌}
use mathlib.Core.Bool.{Bool, true, false, cond, false≢true}
use mathlib.Core.List.{List, [], ◌∷◌, ◌++◌, append-nil, append_assoc}
use Prim.Native.Nat.{ℕ, ◌+◌, ◌-◌, ◌<◌, ◌≤◌}
use native.Mathlib.Decide.{dec_lt}
use native.Mathlib.Omega.{arith}
use lib.ListN.{length, length-append}
use Rattle.address.specs.declared.Psn.{Psn}
use Rattle.address.specs.Judged.{judged}
use Rattle.order_queue.specs.declared.Order.{Order}
use Rattle.order_queue.specs.declared.Queue.{Queue}
use Rattle.order_queue.specs.declared.Request.TheVariants.{Submit, Serve}
use Rattle.order_queue.specs.declared.Handled.{Handled}
use Rattle.order_queue.specs.Records.{request_of}
use Rattle.order_queue.specs.Queue.{no_order, empty_queue, order_of, is_waiting, begins_at, bench_at, answered_to, handled}
use Rattle.order_queue.specs.Promise.{Does, refuses, stores-order, takes-order, finds-none}
use Rattle.order_queue.proofs.Records.{submit-no-serve}
use Rattle.order_queue.proofs.Submits.{waiting-within, empty-waits}
use Rattle.order_queue.proofs.Serves.{begins-within}
use Rattle.order_queue.proofs.Requests.{does, submit-judged}
use Rattle.queue_runs.specs.Runs.{queue_behind, waiting_of, brings, takes, accepted_in, served_in}
use Rattle.queue_runs.specs.Promise.{IsQueue, WaitsAtMost, longest_wait, SubmittedIn, ComesFrom, the-start, a-submit, Conserves, Served}
use Rattle.queue_runs.proofs.Steps.{set_here, balanced, still-queue}
use Rattle.queue_runs.proofs.Turns.{sooner, in-turn}
use Rattle.queue_runs.proofs.Origins.{comes-from}

-- four orders stay four
pub behind-queue : (run : List (List ℕ)) (queue : Queue) → IsQueue queue → IsQueue (queue_behind queue run)
unfolding queue_behind handled
behind-queue [] queue whole = whole
behind-queue (bytes ∷ run) queue whole = behind-queue run (handled queue bytes).queue (still-queue queue whole (request_of bytes))

-- ---- within four serves

-- how many benches on from the turn a bench stands
places-on : (turn bench : ℕ) → bench < 4 → (d : ℕ) × (d < 4) × (bench_at turn d ≡ bench)
places-on turn bench h =
    let s = begins_at turn in
    let small = begins-within turn in
    elim (dec_lt bench s) [
      | yes less ↦ (bench + 4 - s, omega (arith, less, small), omega (arith, less, small, h))
      | no more ↦ (bench - s, omega (arith, more, h), omega (arith, more, small, h))
    ]

-- A WAITING ORDER IS TAKEN WITHIN FOUR SERVES, WHATEVER THE OTHER RECORDS
pub within-four : WaitsAtMost longest_wait
within-four queue whole bench psn w run many =
    let on = places-on queue.turn bench (waiting-within queue whole bench w.waiting) in
    let d = on.0 in
    let near : d < 4 = on.1 in
    sooner (omega (arith, near)) (in-turn run queue whole bench psn d near on.2 w (omega (arith, near, many)))

-- ---- no order is lost or served twice

-- (of a number above 3 it would be false: 255 is reported where none is waiting)
-- ORDERS OF A BENCH: THOSE THAT WAITED AND WERE ACCEPTED ARE THOSE THAT WERE SERVED AND WAIT
pub conserved : (run : List (List ℕ)) (queue : Queue) → IsQueue queue → (bench : ℕ) → bench < 4 → Conserves queue bench run
unfolding queue_behind accepted_in served_in handled
conserved [] queue whole bench h = append-nil (waiting_of queue bench)
conserved (bytes ∷ run) queue whole bench h =
    let request = request_of bytes in
    let next = (answered_to queue request).queue in
    let later = accepted_in next bench run in
    let gone = takes queue bench request in
    sym (append_assoc (waiting_of queue bench) (brings queue bench request) later)
    ∙ ap (λ (l : List ℕ). l ++ later) (balanced queue whole bench h request)
    ∙ append_assoc gone (waiting_of next bench) later
    ∙ ap (λ (l : List ℕ). gone ++ l) (conserved run next (still-queue queue whole request) bench h)
    ∙ sym (append_assoc gone (served_in next bench run) (waiting_of (queue_behind next run) bench))

at_most_one : (queue : Queue) (bench : ℕ) → length (waiting_of queue bench) ≤ 1
at_most_one queue bench = by (is_waiting queue bench)
  where
    by : (t : Bool) → length (cond t ((order_of queue bench).psn.0 ∷ []) []) ≤ 1
    by true = omega arith
    by false = omega arith

-- A BENCH HAS AT MOST ONE ORDER: WHAT IS ACCEPTED OF IT IS AT MOST ONE MORE THAN WHAT IS SERVED
pub one-at-a-time : (queue : Queue) → IsQueue queue → (bench : ℕ) → bench < 4 → (run : List (List ℕ)) → length (accepted_in queue bench run) ≤ length (served_in queue bench run) + 1
one-at-a-time queue whole bench h run =
    let same = ap (λ (l : List ℕ). length l) (conserved run queue whole bench h) in
    omega (
      arith,
      same,
      length-append (waiting_of queue bench) (accepted_in queue bench run),
      length-append (served_in queue bench run) (waiting_of (queue_behind queue run) bench),
      at_most_one (queue_behind queue run) bench,
    )

-- ---- what is served

pub served-one : (queue : Queue) (bytes : List ℕ) → IsQueue queue → request_of bytes ≡ Serve → ((handled queue bytes).bench ≡ 255 → ⊥) → Served queue bytes
unfolding handled
served-one queue bytes whole serve some = by (does queue (request_of bytes))
  where
    by : Does queue (request_of bytes) → Served queue bytes
    by (refuses answer e other is) = absurd (other serve)
    by (stores-order from own e right is) = absurd (submit-no-serve (sym e ∙ serve))
    by (finds-none e idle is) = absurd (some (ap (λ (x : Handled). x.bench) is))
    by (takes-order k e h waiting nearer is) =
        let at = bench_at queue.turn k in
        let bench = ap (λ (x : Handled). x.bench) is in
        record {
          bench-is = omega (arith, bench);
          waited =
              record {
                waiting = ap (is_waiting queue) bench ∙ waiting;
                own-psn = ap (λ (b : ℕ). (order_of queue b).psn.0) bench ∙ sym (ap (λ (x : Handled). x.psn.0) is);
              };
          free = ap₂ (λ (q : Queue) (b : ℕ). is_waiting q b) (ap (λ (x : Handled). x.queue) is) bench ∙ ap (λ (o : Order). o.waiting) (set_here queue whole at no_order (omega arith));
        }

-- WHAT IS SERVED WAS SUBMITTED AND ACCEPTED IN THE RUN, OR WAITED AT ITS START
pub served-comes : (queue : Queue) (run : List (List ℕ)) (bytes : List ℕ) → IsQueue queue → request_of bytes ≡ Serve → ((handled (queue_behind queue run) bytes).bench ≡ 255 → ⊥)
    → ComesFrom queue (handled (queue_behind queue run) bytes).bench (handled (queue_behind queue run) bytes).psn.0 run
served-comes queue run bytes whole serve some =
    let one = served-one (queue_behind queue run) bytes (behind-queue run queue whole) serve some in
    comes-from run queue whole (handled (queue_behind queue run) bytes).bench (handled (queue_behind queue run) bytes).psn.0 one.waited

-- FROM AN EMPTY QUEUE WHAT IS SERVED WAS SUBMITTED AND JUDGED
pub served-submitted : (run : List (List ℕ)) (bytes : List ℕ) → request_of bytes ≡ Serve → ((handled (queue_behind empty_queue run) bytes).bench ≡ 255 → ⊥)
    → SubmittedIn empty_queue (handled (queue_behind empty_queue run) bytes).bench (handled (queue_behind empty_queue run) bytes).psn.0 run
unfolding empty_queue
served-submitted run bytes serve some = by (served-comes empty_queue run bytes refl serve some)
  where
    by : ComesFrom empty_queue (handled (queue_behind empty_queue run) bytes).bench (handled (queue_behind empty_queue run) bytes).psn.0 run
        → SubmittedIn empty_queue (handled (queue_behind empty_queue run) bytes).bench (handled (queue_behind empty_queue run) bytes).psn.0 run
    by (the-start w) = absurd (false≢true (sym (empty-waits (handled (queue_behind empty_queue run) bytes).bench) ∙ w.waiting))
    by (a-submit s) = s

-- ---- a served place takes orders again

none-waits : (queue : Queue) (bench : ℕ) → length (waiting_of queue bench) ≡ 0 → is_waiting queue bench ≡ false
none-waits queue bench e = by (is_waiting queue bench) e
  where
    by : (t : Bool) → length (cond t ((order_of queue bench).psn.0 ∷ []) []) ≡ 0 → t ≡ false
    by true e = absurd (omega (arith, e))
    by false e = refl

again : (queue : Queue) (bytes : List ℕ) → IsQueue queue → IsQueue (handled queue bytes).queue
unfolding handled
again queue bytes whole = still-queue queue whole (request_of bytes)

-- AS SOON AS THE ORDER OF A BENCH IS SERVED AND AS LONG AS NO OTHER IS ACCEPTED, A SUBMIT OF THAT BENCH IS ANSWERED AS ITS PSN IS JUDGED
pub takes-again : (queue : Queue) (bytes : List ℕ) → IsQueue queue → request_of bytes ≡ Serve → ((handled queue bytes).bench ≡ 255 → ⊥)
    → (run : List (List ℕ)) → accepted_in (handled queue bytes).queue (handled queue bytes).bench run ≡ []
    → (submit : List ℕ) (psn : Psn) → request_of submit ≡ Submit (handled queue bytes).bench psn
    → (handled (queue_behind (handled queue bytes).queue run) submit).answer ≡ judged psn.0
takes-again queue bytes whole serve some run none submit psn asks =
    let next = (handled queue bytes).queue in
    let bench = (handled queue bytes).bench in
    let one = served-one queue bytes whole serve some in
    let four : IsQueue next = again queue bytes whole in
    let start : waiting_of next bench ≡ [] = ap (λ (t : Bool). cond t ((order_of next bench).psn.0 ∷ []) []) one.free in
    let kept = sym (ap₂ (λ (l m : List ℕ). l ++ m) start none) ∙ conserved run next four bench one.bench-is in
    let sizes = length-append (served_in next bench run) (waiting_of (queue_behind next run) bench) in
    let end = none-waits (queue_behind next run) bench (omega (arith, ap (λ (l : List ℕ). length l) kept, sizes)) in
    submit-judged (queue_behind next run) submit bench psn asks one.bench-is end
