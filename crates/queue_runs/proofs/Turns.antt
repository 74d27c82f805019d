-- A waiting order is taken in its turn: d benches on from the turn, after at most d other serves. Assumes nothing.
use mathlib.Core.Path.{◌≡◌, refl, sym, ap, subst, ◌∙◌}
use mathlib.Core.Bool.{Bool, true, false, cond, false≢true}
use mathlib.Core.List.{List, [], ◌∷◌}
use Prim.Native.Nat.{ℕ, suc, ◌+◌, ◌-◌, ◌%◌, ◌<◌, ◌≤◌}
use native.Mathlib.Decide.{ℕ_discrete, dec_lt}
use native.Mathlib.Nat.{mod-add-mod}
use native.Mathlib.Omega.{arith}
use borrow.Author.Tests.{lt-ltb}
use lib.ListN.{length}
use Rattle.address.specs.declared.Psn.{Psn}
use Rattle.order_queue.specs.declared.Order.{Order}
use Rattle.order_queue.specs.declared.Queue.{Queue}
use Rattle.order_queue.specs.declared.Request.{Request}
use Rattle.order_queue.specs.declared.Request.TheVariants.{Submit, Serve, Unknown}
use Rattle.order_queue.specs.declared.Handled.{Handled}
use Rattle.order_queue.specs.Records.{request_of}
use Rattle.order_queue.specs.Queue.{no_order, order_of, is_waiting, begins_at, bench_at, waits_at, with_order, order_taken, answered_to, handled}
use Rattle.order_queue.specs.Promise.{Does, refuses, stores-order, takes-order, finds-none}
use Rattle.order_queue.proofs.Requests.{does}
use Rattle.queue_runs.specs.Runs.{queue_behind, serves_of, serve_count}
use Rattle.queue_runs.specs.Promise.{IsQueue, HasOrder, TakenWithin}
use Rattle.queue_runs.proofs.Steps.{set_other, still-queue}

-- ---- going round

-- from s on: benches k and d places on are two, and behind the first of them the other is d - k - 1 places on
other-bench : (s k d : ℕ) → k < d → d < 4 → (s + d) % 4 ≡ (s + k) % 4 → ⊥
other-bench s k d h i e = omega (arith, h, i, e)

places-left : (s k d : ℕ) → k < d → (((s + k) % 4 + 1) % 4 + (d - suc k)) % 4 ≡ (s + d) % 4
places-left s k d h =
    mod-add-mod ((s + k) % 4 + 1) 4 (d - suc k) ∙ ap (λ (n : ℕ). n % 4) (omega arith) ∙ mod-add-mod (s + k) 4 (1 + (d - suc k)) ∙ ap (λ (n : ℕ). n % 4) (omega (arith, h))

-- ---- an order that stays

stays : (queue : Queue) (next : Queue) (bench psn : ℕ) → order_of next bench ≡ order_of queue bench → HasOrder queue bench psn → HasOrder next bench psn
stays queue next bench psn e w = record { waiting = ap (λ (o : Order). o.waiting) e ∙ w.waiting; own-psn = ap (λ (o : Order). o.psn.0) e ∙ w.own-psn }

-- ---- records later in a run

module _ (queue : Queue) (bytes : List ℕ) {m bench psn : ℕ} {run : List (List ℕ)} where
  pub later : TakenWithin m (handled queue bytes).queue bench psn run → TakenWithin (serves_of (request_of bytes) + m) queue bench psn (bytes ∷ run)
  unfolding queue_behind serve_count
  later t =
      record {
        before = bytes ∷ t.before;
        here = t.here;
        rest = t.rest;
        whole = ap (λ (l : List (List ℕ)). bytes ∷ l) t.whole;
        few = omega (arith, t.few);
        a-serve = t.a-serve;
        own-bench = t.own-bench;
        own-psn = t.own-psn;
      }

pub sooner : {m n bench psn : ℕ} {queue : Queue} {run : List (List ℕ)} → m ≤ n → TakenWithin m queue bench psn run → TakenWithin n queue bench psn run
sooner h t =
    record {
      before = t.before;
      here = t.here;
      rest = t.rest;
      whole = t.whole;
      few = omega (arith, h, t.few);
      a-serve = t.a-serve;
      own-bench = t.own-bench;
      own-psn = t.own-psn;
    }

no-serve-counted : (request : Request) → (request ≡ Serve → ⊥) → serves_of request ≡ 0
no-serve-counted (Submit bench psn) other = refl
no-serve-counted Serve other = absurd (other refl)
no-serve-counted Unknown other = refl

-- ---- in its turn

-- the queue behind a request, the bench still waiting, and as many places on as a serve leaves
module _ (queue : Queue) (whole : IsQueue queue) (bench psn d : ℕ) (near : d < 4) (on : bench_at queue.turn d ≡ bench) (w : HasOrder queue bench psn) where
  waits_there : waits_at queue d ≡ true
  waits_there = ap (is_waiting queue) on ∙ w.waiting

  -- an order of another bench is stored
  beside : (from : ℕ) (own : Psn) → is_waiting queue from ≡ false → HasOrder (with_order queue from own) bench psn
  beside from own free =
      stays queue (with_order queue from own) bench psn
      (set_other queue whole from (record { waiting = true; psn = own }) bench (λ e. false≢true (sym free ∙ sym (ap (is_waiting queue) e) ∙ w.waiting))) w

  -- the order of a nearer bench is taken
  passed-by : (k : ℕ) → k < d → HasOrder (order_taken queue (bench_at queue.turn k)).queue bench psn
  passed-by k h =
      stays queue (order_taken queue (bench_at queue.turn k)).queue bench psn
      (set_other queue whole (bench_at queue.turn k) no_order bench (λ e. other-bench (begins_at queue.turn) k d h near (on ∙ e))) w

  then-on : (k : ℕ) → k < d → bench_at (order_taken queue (bench_at queue.turn k)).queue.turn (d - suc k) ≡ bench
  then-on k h =
      let at = bench_at queue.turn k in
      ap (λ (b : ℕ). (b + (d - suc k)) % 4) (ap (λ (t : Bool). cond t ((at + 1) % 4) 0) (lt-ltb ((at + 1) % 4) 4 (omega arith))) ∙ places-left (begins_at queue.turn) k d h ∙ on

  -- what is known of the rest of a run
  abbrev Later : List (List ℕ) → Type 0
  Later run = (next : Queue) → IsQueue next → (e : ℕ) → e < 4 → bench_at next.turn e ≡ bench → HasOrder next bench psn → suc e ≤ serve_count run → TakenWithin (suc e) next bench psn run

  module _ (bytes : List ℕ) (run : List (List ℕ)) (rest : Later run) (many : suc d ≤ serve_count (bytes ∷ run)) where
    -- at this record, whose request leaves `next`
    on-with : (next : Queue) (e : ℕ) → (answered_to queue (request_of bytes)).queue ≡ next → serves_of (request_of bytes) + e ≤ d → suc e ≤ serve_count run → bench_at next.turn e ≡ bench
        → HasOrder next bench psn → TakenWithin (suc d) queue bench psn (bytes ∷ run)
    unfolding handled
    on-with next e is h more there waiting =
        let found = rest next (ap (λ (q : Queue). length q.orders) (sym is) ∙ still-queue queue whole (request_of bytes)) e (omega (arith, h, near)) there waiting more in
        sooner (omega (arith, h)) (later queue bytes (subst (λ (q : Queue). TakenWithin (suc e) q bench psn run) (sym is) found))

    -- it is no serve, and the turn stays
    on-past : (next : Queue) → (request_of bytes ≡ Serve → ⊥) → (answered_to queue (request_of bytes)).queue ≡ next → next.turn ≡ queue.turn → HasOrder next bench psn
        → TakenWithin (suc d) queue bench psn (bytes ∷ run)
    unfolding serve_count
    on-past next other is same waiting =
        let none = no-serve-counted (request_of bytes) other in
        on-with next d is (omega (arith, none)) (omega (arith, none, many)) (ap (λ (t : ℕ). bench_at t d) same ∙ on) waiting

    -- it is a serve of the bench k places on
    serves-here : (k : ℕ) → k ≡ d → request_of bytes ≡ Serve → answered_to queue (request_of bytes) ≡ order_taken queue (bench_at queue.turn k) → TakenWithin (suc d) queue bench psn (bytes ∷ run)
    unfolding handled queue_behind serve_count
    serves-here k e a is =
        let at : bench_at queue.turn k ≡ bench = ap (bench_at queue.turn) e ∙ on in
        record {
          before = [];
          here = bytes;
          rest = run;
          whole = refl;
          few = omega arith;
          a-serve = a;
          own-bench = ap (λ (x : Handled). x.bench) is ∙ at;
          own-psn = ap (λ (x : Handled). x.psn.0) is ∙ ap (λ (b : ℕ). (order_of queue b).psn.0) at ∙ w.own-psn;
        }

    serves-nearer : (k : ℕ) → k < d → request_of bytes ≡ Serve → answered_to queue (request_of bytes) ≡ order_taken queue (bench_at queue.turn k) → TakenWithin (suc d) queue bench psn (bytes ∷ run)
    unfolding serve_count
    serves-nearer k h a is =
        let one = ap serves_of a in
        on-with (order_taken queue (bench_at queue.turn k)).queue (d - suc k) (ap (λ (x : Handled). x.queue) is) (omega (arith, one, h)) (omega (arith, one, h, many)) (then-on k h) (passed-by k h)

    one-record : TakenWithin (suc d) queue bench psn (bytes ∷ run)
    one-record = by (does queue (request_of bytes))
      where
        by : Does queue (request_of bytes) → TakenWithin (suc d) queue bench psn (bytes ∷ run)
        by (refuses answer e other is) = on-past queue other (ap (λ (x : Handled). x.queue) is) refl w
        by (stores-order from own e right is) =
            on-past (with_order queue from own) (λ serve. omega (arith, ap serves_of (sym serve ∙ e))) (ap (λ (x : Handled). x.queue) is) refl (beside from own right.free)
        by (takes-order k e h waiting before is) =
            elim (ℕ_discrete k d) [
              | yes same ↦ serves-here k same e is
              | no other ↦
                  elim (dec_lt k d) [
                    | yes less ↦ serves-nearer k less e is
                    | no past ↦ absurd (false≢true (sym (before d (omega (arith, other, past))) ∙ waits_there))
                  ]
            ]
        by (finds-none e idle is) = absurd (false≢true (sym (idle d near) ∙ waits_there))

-- WHO STANDS d BENCHES ON FROM THE TURN WAITS FOR AT MOST d OTHER SERVES
pub in-turn : (run : List (List ℕ)) (queue : Queue) → IsQueue queue → (bench psn d : ℕ) → d < 4 → bench_at queue.turn d ≡ bench → HasOrder queue bench psn → suc d ≤ serve_count run
    → TakenWithin (suc d) queue bench psn run
unfolding serve_count
in-turn [] queue whole bench psn d near on w many = absurd (omega (arith, many))
in-turn (bytes ∷ run) queue whole bench psn d near on w many =
    one-record queue whole bench psn d near on w bytes run (λ next four e small there waiting more. in-turn run next four bench psn e small there waiting more) many
