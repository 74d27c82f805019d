-- Where a waiting order comes from: the start of a run, or a submit in it. Assumes nothing.
use mathlib.Core.Path.{◌≡◌, refl, sym, ap, ◌∙◌}
use mathlib.Core.Bool.{true, false≢true}
use mathlib.Core.List.{List, [], ◌∷◌}
use Prim.Native.Nat.{ℕ}
use native.Mathlib.Decide.{ℕ_discrete}
use native.Mathlib.Omega.{arith}
use Rattle.answer.specs.declared.Answer.TheVariants.{Done}
use Rattle.address.specs.declared.Psn.{Psn}
use Rattle.address.specs.Judged.{judged}
use Rattle.order_queue.specs.declared.Order.{Order}
use Rattle.order_queue.specs.declared.Queue.{Queue}
use Rattle.order_queue.specs.declared.Request.TheVariants.{Submit}
use Rattle.order_queue.specs.declared.Handled.{Handled}
use Rattle.order_queue.specs.Records.{request_of}
use Rattle.order_queue.specs.Queue.{no_order, order_of, bench_at, with_order, order_taken, answered_to, handled}
use Rattle.order_queue.specs.Promise.{Does, refuses, stores-order, takes-order, finds-none}
use Rattle.order_queue.proofs.Requests.{does}
use Rattle.queue_runs.specs.Runs.{queue_behind}
use Rattle.queue_runs.specs.Promise.{IsQueue, HasOrder, SubmittedIn, ComesFrom, the-start, a-submit}
use Rattle.queue_runs.proofs.Steps.{set_here, set_other, still-queue}

module _ (queue : Queue) (whole : IsQueue queue) (bench psn : ℕ) (bytes : List ℕ) (run : List (List ℕ)) where
  -- a submit later in the run
  from-later : SubmittedIn (handled queue bytes).queue bench psn run → SubmittedIn queue bench psn (bytes ∷ run)
  unfolding queue_behind
  from-later s =
      record {
        before = bytes ∷ s.before;
        here = s.here;
        rest = s.rest;
        whole = ap (λ (l : List (List ℕ)). bytes ∷ l) s.whole;
        own-request = s.own-request;
        accepted = s.accepted;
        is-judged = s.is-judged;
      }

  -- this record, whose request stores the order
  from-here : (own : Psn) → own.0 ≡ psn → request_of bytes ≡ Submit bench own → judged own.0 ≡ Done → (answered_to queue (request_of bytes)).answer ≡ Done
      → SubmittedIn queue bench psn (bytes ∷ run)
  unfolding queue_behind handled
  from-here own e a j done =
      record {
        before = [];
        here = bytes;
        rest = run;
        whole = refl;
        own-request = a ∙ (λ i. Submit bench (record { 0 = e i }));
        accepted = done;
        is-judged = sym (ap judged e) ∙ j;
      }

  -- the order of a bench in the queue behind this record, o in another form of it
  module _ {o : Order} (e : order_of (answered_to queue (request_of bytes)).queue bench ≡ o) (w : HasOrder (answered_to queue (request_of bytes)).queue bench psn) where
    is-waiting : o.waiting ≡ true
    is-waiting = sym (ap (λ (x : Order). x.waiting) e) ∙ w.waiting

    has-psn : o.psn.0 ≡ psn
    has-psn = sym (ap (λ (x : Order). x.psn.0) e) ∙ w.own-psn

    waited : order_of queue bench ≡ o → HasOrder queue bench psn
    waited same = record { waiting = ap (λ (x : Order). x.waiting) same ∙ is-waiting; own-psn = ap (λ (x : Order). x.psn.0) same ∙ has-psn }

  from-record : HasOrder (answered_to queue (request_of bytes)).queue bench psn → ComesFrom queue bench psn (bytes ∷ run)
  from-record w = by (does queue (request_of bytes))
    where
      by : Does queue (request_of bytes) → ComesFrom queue bench psn (bytes ∷ run)
      by (refuses answer e other is) = the-start (waited (ap (λ (x : Handled). order_of x.queue bench) is) w refl)
      by (finds-none e idle is) = the-start (waited (ap (λ (x : Handled). order_of x.queue bench) is) w refl)
      by (stores-order from own e right is) =
          let order = ap (λ (x : Handled). order_of x.queue bench) is in
          elim (ℕ_discrete bench from) [
            | yes same ↦
                let stored = order ∙ ap (order_of (with_order queue from own)) same ∙ set_here queue whole from (record { waiting = true; psn = own }) right.bench-is in
                a-submit (from-here own (has-psn stored w) (e ∙ ap (λ (b : ℕ). Submit b own) (sym same)) right.psn-is (ap (λ (x : Handled). x.answer) is))
            | no other ↦ the-start (waited (order ∙ set_other queue whole from (record { waiting = true; psn = own }) bench other) w refl)
          ]
      by (takes-order k e h waiting nearer is) =
          let at = bench_at queue.turn k in
          let order = ap (λ (x : Handled). order_of x.queue bench) is in
          elim (ℕ_discrete bench at) [
            | yes same ↦
                absurd (false≢true (is-waiting (order ∙ ap (order_of (order_taken queue at).queue) same ∙ set_here queue whole at no_order (omega arith)) w))
            | no other ↦ the-start (waited (order ∙ set_other queue whole at no_order bench other) w refl)
          ]

  from-rest : ComesFrom (handled queue bytes).queue bench psn run → ComesFrom queue bench psn (bytes ∷ run)
  unfolding handled
  from-rest (the-start w) = from-record w
  from-rest (a-submit s) = a-submit (from-later s)

-- WHAT WAITS BEHIND A RUN WAITED AT ITS START OR WAS SUBMITTED IN IT
pub comes-from : (run : List (List ℕ)) (queue : Queue) → IsQueue queue → (bench psn : ℕ) → HasOrder (queue_behind queue run) bench psn → ComesFrom queue bench psn run
unfolding queue_behind handled
comes-from [] queue whole bench psn w = the-start w
comes-from (bytes ∷ run) queue whole bench psn w =
    from-rest queue whole bench psn bytes run (comes-from run (handled queue bytes).queue (still-queue queue whole (request_of bytes)) bench psn w)
