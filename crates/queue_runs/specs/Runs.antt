-- Runs of records (document 02, W-214), first to last, from any queue: what they leave, and the orders of each bench that they bring and take.
use Rattle.std.specs.Prelude.{cond, ◌&&◌, List, [], ◌∷◌, ◌++◌, ℕ, ◌+◌, eqb}
use Rattle.answer.specs.Answer.{is_done}
use Rattle.order_queue.specs.declared.Queue.{Queue}
use Rattle.order_queue.specs.declared.Request.{Request}
use Rattle.order_queue.specs.declared.Request.TheVariants.{Submit, Serve, Unknown}
use Rattle.order_queue.specs.Records.{request_of}
use Rattle.order_queue.specs.Queue.{order_of, is_waiting, answered_to, handled}

-- the queue behind a run
unfoldable pub queue_behind : Queue → List (List ℕ) → Queue
queue_behind queue [] = queue
queue_behind queue (bytes ∷ run) = queue_behind (handled queue bytes).queue run

-- ---- how many serves there are

abbrev pub serves_of : Request → ℕ
serves_of (Submit bench psn) = 0
serves_of Serve = 1
serves_of Unknown = 0

unfoldable pub serve_count : List (List ℕ) → ℕ
serve_count [] = 0
serve_count (bytes ∷ run) = serves_of (request_of bytes) + serve_count run

-- ---- the orders of a bench, by their PSNs

-- the one that waits, if any does
abbrev pub waiting_of : Queue → ℕ → List ℕ
waiting_of queue bench = cond (is_waiting queue bench) ((order_of queue bench).psn.0 ∷ []) []

-- what a request brings: the order of a submit that is accepted
abbrev pub brings : Queue → ℕ → Request → List ℕ
brings queue bench (Submit from psn) = cond (eqb from bench && is_done (answered_to queue (Submit from psn)).answer) (psn.0 ∷ []) []
brings queue bench Serve = []
brings queue bench Unknown = []

-- what it takes: the order that a serve reports
abbrev pub takes : Queue → ℕ → Request → List ℕ
takes queue bench (Submit from psn) = []
takes queue bench Serve = cond (eqb (answered_to queue Serve).bench bench) ((answered_to queue Serve).psn.0 ∷ []) []
takes queue bench Unknown = []

-- those that are accepted in a run, first to last
unfoldable pub accepted_in : Queue → ℕ → List (List ℕ) → List ℕ
accepted_in queue bench [] = []
accepted_in queue bench (bytes ∷ run) = brings queue bench (request_of bytes) ++ accepted_in (handled queue bytes).queue bench run

-- those that are served
unfoldable pub served_in : Queue → ℕ → List (List ℕ) → List ℕ
served_in queue bench [] = []
served_in queue bench (bytes ∷ run) = takes queue bench (request_of bytes) ++ served_in (handled queue bytes).queue bench run
