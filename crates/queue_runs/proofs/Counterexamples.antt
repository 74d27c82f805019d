-- The bound of four serves is met: three are not enough. Assumes nothing.
use mathlib.Core.Path.{◌≡◌, refl, sym, ap, ◌∙◌}
use mathlib.Core.Bool.{Bool, true, cond}
use mathlib.Core.List.{List, [], ◌∷◌, ◌++◌, append_assoc}
use Prim.Native.Nat.{ℕ, ◌+◌, ◌≤◌}
use native.Mathlib.Omega.{arith}
use borrow.Author.Tests.{eq-eqb}
use lib.ListN.{length, length-append}
use Rattle.laws.specs.First.{first}
use Rattle.address.specs.Judged.{judged}
use Rattle.order_queue.specs.declared.Order.{Order}
use Rattle.order_queue.specs.declared.Queue.{Queue}
use Rattle.order_queue.specs.declared.Request.{Request}
use Rattle.order_queue.specs.declared.Request.TheVariants.{Serve}
use Rattle.order_queue.specs.Records.{request_of}
use Rattle.order_queue.specs.Queue.{submitted, served, answered_to, handled}
use Rattle.queue_runs.specs.Runs.{queue_behind, serve_count, takes, served_in}
use Rattle.queue_runs.specs.Promise.{TakenWithin, WaitsAtMost}

-- what is served in two runs, one behind the other
served-both : (a b : List (List ℕ)) (queue : Queue) (bench : ℕ) → served_in queue bench (a ++ b) ≡ served_in queue bench a ++ served_in (queue_behind queue a) bench b
unfolding served_in queue_behind
served-both [] b queue bench = refl
served-both (bytes ∷ a) b queue bench =
    let gone = takes queue bench (request_of bytes) in
    let next = (handled queue bytes).queue in
    ap (λ (l : List ℕ). gone ++ l) (served-both a b next bench) ∙ sym (append_assoc gone (served_in next bench a) (served_in (queue_behind next a) bench b))

-- what a serve takes, by what it reports
reported : (queue : Queue) {bench psn : ℕ} → (answered_to queue Serve).bench ≡ bench → (answered_to queue Serve).psn.0 ≡ psn → takes queue bench Serve ≡ psn ∷ []
reported queue {bench} {psn} hb hp =
    ap (λ (t : Bool). cond t ((answered_to queue Serve).psn.0 ∷ []) []) (eq-eqb (answered_to queue Serve).bench bench hb) ∙ ap (λ (n : ℕ). n ∷ []) hp

-- an order that is taken is among those that are served
taken-shows : {m bench psn : ℕ} {queue : Queue} {run : List (List ℕ)} → TakenWithin m queue bench psn run → 1 ≤ length (served_in queue bench run)
unfolding served_in handled
taken-shows {m} {bench} {psn} {queue} {run} t =
    let there = queue_behind queue t.before in
    let is : takes there bench (request_of t.here) ≡ psn ∷ [] =
    ap (takes there bench) t.a-serve ∙ reported there (sym (ap (λ (r : Request). (answered_to there r).bench) t.a-serve) ∙ t.own-bench) (sym (ap (λ (r : Request). (answered_to there r).psn.0) t.a-serve) ∙ t.own-psn) in
    let all = ap (served_in queue bench) t.whole ∙ served-both t.before (t.here ∷ t.rest) queue bench in
    let rest = served_in (handled there t.here).queue bench t.rest in
    let sizes : length (served_in queue bench run) ≡ length (served_in queue bench t.before) + length (takes there bench (request_of t.here) ++ rest) =
    ap (λ (l : List ℕ). length l) all ∙ length-append (served_in queue bench t.before) (takes there bench (request_of t.here) ++ rest) in
    omega (arith, sizes, ap (λ (l : List ℕ). length (l ++ rest)) is)

-- every bench is waiting, and it is bench 0's turn
abbrev full : Queue
full =
    let order : Order = record { waiting = true; psn = record { 0 = 0x0010_0000 } } in
    record { orders = order ∷ order ∷ order ∷ order ∷ []; turn = 0 }

-- three serves, and each bench that is served submits again; bench 3 is not served
abbrev busy : List (List ℕ)
busy = (2 ∷ []) ∷ (1 ∷ 0 ∷ 0 ∷ 16 ∷ 0 ∷ 0 ∷ []) ∷ (2 ∷ []) ∷ (1 ∷ 1 ∷ 0 ∷ 16 ∷ 0 ∷ 0 ∷ []) ∷ (2 ∷ []) ∷ (1 ∷ 2 ∷ 0 ∷ 16 ∷ 0 ∷ 0 ∷ []) ∷ []

busy-passes : served_in full 3 busy ≡ []
unfolding served_in handled request_of submitted served first judged
busy-passes = refl

-- the other three wait again, and the next serve takes the order
pub fourth-takes : served_in full 3 (busy ++ ((2 ∷ []) ∷ [])) ≡ 0x0010_0000 ∷ []
unfolding served_in handled request_of submitted served first judged
fourth-takes = refl

pub three-fails : WaitsAtMost 3 → ⊥
unfolding serve_count request_of
three-fails all =
    let shown = taken-shows (all full refl 3 0x0010_0000 (record { waiting = refl; own-psn = refl }) busy (omega arith)) in
    omega (arith, shown, ap (λ (l : List ℕ). length l) busy-passes)
