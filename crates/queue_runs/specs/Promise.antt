-- Document 02, W-214: what is promised of runs of records.
use Rattle.std.specs.Prelude.{◌≡◌, true, false, List, ◌∷◌, ◌++◌, ℕ, ◌<◌, ◌≤◌, length}
use Rattle.answer.specs.declared.Answer.TheVariants.{Done}
use Rattle.address.specs.Judged.{judged}
use Rattle.order_queue.specs.declared.Queue.{Queue}
use Rattle.order_queue.specs.declared.Request.TheVariants.{Submit, Serve}
use Rattle.order_queue.specs.Records.{request_of}
use Rattle.order_queue.specs.Queue.{order_of, is_waiting, handled}
use Rattle.queue_runs.specs.Runs.{queue_behind, serve_count, waiting_of, accepted_in, served_in}

-- four orders and any turn
abbrev pub IsQueue : Queue → Type 0
IsQueue queue = length queue.orders ≡ 4

-- a bench has a waiting order, with this PSN
pub record HasOrder (queue : Queue) (bench psn : ℕ) : Type 0 where
  pub waiting : is_waiting queue bench ≡ true
  pub own-psn : (order_of queue bench).psn.0 ≡ psn

-- ---- a waiting order is taken within four serves

-- at some record of a run, before which fewer than m serves stand, a serve reports this bench and this PSN
pub record TakenWithin (m : ℕ) (queue : Queue) (bench psn : ℕ) (run : List (List ℕ)) : Type 0 where
  pub before : List (List ℕ)
  pub here : List ℕ
  pub rest : List (List ℕ)
  pub whole : run ≡ before ++ (here ∷ rest)
  pub few : serve_count before < m
  pub a-serve : request_of here ≡ Serve
  pub own-bench : (handled (queue_behind queue before) here).bench ≡ bench
  pub own-psn : (handled (queue_behind queue before) here).psn.0 ≡ psn

-- whatever the queue, and whatever the records of the run
abbrev pub WaitsAtMost : ℕ → Type 0
WaitsAtMost m = (queue : Queue) → IsQueue queue → (bench psn : ℕ) → HasOrder queue bench psn → (run : List (List ℕ)) → m ≤ serve_count run → TakenWithin m queue bench psn run

-- the bound
abbrev pub longest_wait : ℕ
longest_wait = 4

-- ---- what is served

-- in a run a submit of this bench and this PSN was accepted, the PSN judged
pub record SubmittedIn (queue : Queue) (bench psn : ℕ) (run : List (List ℕ)) : Type 0 where
  pub before : List (List ℕ)
  pub here : List ℕ
  pub rest : List (List ℕ)
  pub whole : run ≡ before ++ (here ∷ rest)
  pub own-request : request_of here ≡ Submit bench (record { 0 = psn })
  pub accepted : (handled (queue_behind queue before) here).answer ≡ Done
  pub is-judged : judged psn ≡ Done

-- where an order comes from: it waited at the start, or was submitted in the run
pub data ComesFrom (queue : Queue) (bench psn : ℕ) (run : List (List ℕ)) : Type 0 where
  the-start : HasOrder queue bench psn → ComesFrom queue bench psn run
  a-submit : SubmittedIn queue bench psn run → ComesFrom queue bench psn run

-- ---- no order is lost or served twice

-- the orders of a bench that waited and that were accepted are those that were served and that wait, in this order
abbrev pub Conserves : Queue → ℕ → List (List ℕ) → Type 0
Conserves queue bench run = waiting_of queue bench ++ accepted_in queue bench run ≡ served_in queue bench run ++ waiting_of (queue_behind queue run) bench

-- ---- a serve that takes an order

-- the bench that it reports waited with the PSN that it reports, and waits no longer
pub record Served (queue : Queue) (bytes : List ℕ) : Type 0 where
  pub bench-is : (handled queue bytes).bench < 4
  pub waited : HasOrder queue (handled queue bytes).bench (handled queue bytes).psn.0
  pub free : is_waiting (handled queue bytes).queue (handled queue bytes).bench ≡ false
