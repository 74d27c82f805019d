-- One request: what it brings to a bench and takes from it. Assumes nothing.
use mathlib.Core.Path.{◌≡◌, refl, sym, ap, ap₂, subst, ◌∙◌}
use mathlib.Core.Bool.{Bool, true, false, cond, ◌&&◌}
use mathlib.Core.List.{List, [], ◌∷◌, ◌++◌, append-nil}
use Prim.Native.Nat.{ℕ, ◌<◌}
use native.Mathlib.Decide.{ℕ_discrete}
use native.Mathlib.Omega.{arith}
use borrow.Author.Tests.{eq-eqb, ne_eqb}
use lib.Dec.{eqb}
use lib.ListN.{length, get_or, set, length-set}
use lib.Seq.{get_or-set_same, get_or-set_other}
use Rattle.laws.proofs.Booleans.{and-false}
use Rattle.answer.specs.declared.Answer.TheVariants.{Done}
use Rattle.answer.specs.Answer.{is_done}
use Rattle.address.specs.declared.Psn.{Psn}
use Rattle.order_queue.specs.declared.Order.{Order}
use Rattle.order_queue.specs.declared.Queue.{Queue}
use Rattle.order_queue.specs.declared.Request.{Request}
use Rattle.order_queue.specs.declared.Request.TheVariants.{Submit, Serve, Unknown}
use Rattle.order_queue.specs.declared.Handled.{Handled}
use Rattle.order_queue.specs.Queue.{no_order, order_of, is_waiting, bench_at, quiet, with_order, order_taken, none_waiting, answered_to}
use Rattle.order_queue.specs.Promise.{RightSubmit, Does, refuses, stores-order, takes-order, finds-none}
use Rattle.order_queue.proofs.Requests.{does}
use Rattle.queue_runs.specs.Runs.{waiting_of, brings, takes}
use Rattle.queue_runs.specs.Promise.{IsQueue}

-- ---- a request that changes nothing

pub brings-none : (queue : Queue) (bench : ℕ) (request : Request) → is_done (answered_to queue request).answer ≡ false → brings queue bench request ≡ []
brings-none queue bench (Submit from psn) e =
    ap (λ (t : Bool). cond t (psn.0 ∷ []) []) (and-false (eqb from bench) (is_done (answered_to queue (Submit from psn)).answer) e)
brings-none queue bench Serve e = refl
brings-none queue bench Unknown e = refl

pub takes_none : (queue : Queue) (bench : ℕ) (request : Request) → (request ≡ Serve → ⊥) → takes queue bench request ≡ []
takes_none queue bench (Submit from psn) other = refl
takes_none queue bench Serve other = absurd (other refl)
takes_none queue bench Unknown other = refl

-- ---- orders

-- the orders of the queue are four, and one of them is set
module _ (queue : Queue) (whole : IsQueue queue) (at : ℕ) (o : Order) where
  pub set_here : at < 4 → get_or (set queue.orders at o) at no_order ≡ o
  set_here h = get_or-set_same queue.orders at o no_order (omega (arith, whole, h))

  pub set_other : (bench : ℕ) → (bench ≡ at → ⊥) → get_or (set queue.orders at o) bench no_order ≡ order_of queue bench
  set_other bench other = get_or-set_other queue.orders at bench o no_order other

abbrev listed : Order → List ℕ
listed o = cond o.waiting (o.psn.0 ∷ []) []

-- what a request brings and takes, and what waits before it and behind it
abbrev pub Balanced : Queue → ℕ → Request → Type 0
Balanced queue bench request = waiting_of queue bench ++ brings queue bench request ≡ takes queue bench request ++ waiting_of (answered_to queue request).queue bench

module _ (queue : Queue) (whole : IsQueue queue) (bench : ℕ) (within : bench < 4) where
  balanced-stored : (from : ℕ) (psn : Psn) → RightSubmit queue from psn.0 → answered_to queue (Submit from psn) ≡ quiet (with_order queue from psn) Done → Balanced queue bench (Submit from psn)
  balanced-stored from psn right e =
      elim (ℕ_discrete bench from) [
        | yes same ↦
            ap₂ (λ (l m : List ℕ). l ++ m) (free same) (brought (eq-eqb from bench (sym same)))
            ∙ sym (after ∙ ap listed (ap (λ (b : ℕ). get_or (set queue.orders from stored) b no_order) same ∙ set_here queue whole from stored right.bench-is))
        | no other ↦
            ap (λ (l : List ℕ). waiting_of queue bench ++ l) (brought (ne_eqb from bench (λ f. other (sym f))))
            ∙ append-nil (waiting_of queue bench)
            ∙ sym (after ∙ ap listed (set_other queue whole from stored bench other))
      ]
    where
      stored : Order
      stored = record { waiting = true; psn = psn }

      free : bench ≡ from → waiting_of queue bench ≡ []
      free same = ap (λ (b : ℕ). waiting_of queue b) same ∙ ap (λ (t : Bool). cond t ((order_of queue from).psn.0 ∷ []) []) right.free

      brought : {t : Bool} → eqb from bench ≡ t → brings queue bench (Submit from psn) ≡ cond (t && true) (psn.0 ∷ []) []
      brought f = ap (λ (x : Handled). cond (eqb from bench && is_done x.answer) (psn.0 ∷ []) []) e ∙ ap (λ (t : Bool). cond (t && true) (psn.0 ∷ []) []) f

      after : waiting_of (answered_to queue (Submit from psn)).queue bench ≡ listed (get_or (set queue.orders from stored) bench no_order)
      after = ap (λ (x : Handled). waiting_of x.queue bench) e

  balanced-served : (at : ℕ) → at < 4 → is_waiting queue at ≡ true → answered_to queue Serve ≡ order_taken queue at → Balanced queue bench Serve
  balanced-served at h waiting e =
      elim (ℕ_discrete bench at) [
        | yes same ↦
            ap (λ (l : List ℕ). l ++ []) (ap (λ (b : ℕ). waiting_of queue b) same ∙ ap (λ (t : Bool). cond t ((order_of queue at).psn.0 ∷ []) []) waiting)
            ∙ sym (ap₂ (λ (l m : List ℕ). l ++ m) (took (eq-eqb at bench (sym same)))
            (after ∙ ap listed (ap (λ (b : ℕ). get_or (set queue.orders at no_order) b no_order) same ∙ set_here queue whole at no_order h)))
        | no other ↦
            append-nil (waiting_of queue bench)
            ∙ sym (ap₂ (λ (l m : List ℕ). l ++ m) (took (ne_eqb at bench (λ f. other (sym f)))) (after ∙ ap listed (set_other queue whole at no_order bench other)))
      ]
    where
      took : {t : Bool} → eqb at bench ≡ t → takes queue bench Serve ≡ cond t ((order_of queue at).psn.0 ∷ []) []
      took f = ap (λ (x : Handled). cond (eqb x.bench bench) (x.psn.0 ∷ []) []) e ∙ ap (λ (t : Bool). cond t ((order_of queue at).psn.0 ∷ []) []) f

      after : waiting_of (answered_to queue Serve).queue bench ≡ listed (get_or (set queue.orders at no_order) bench no_order)
      after = ap (λ (x : Handled). waiting_of x.queue bench) e

  balanced-same : (request : Request) → brings queue bench request ≡ [] → takes queue bench request ≡ [] → (answered_to queue request).queue ≡ queue → Balanced queue bench request
  balanced-same request brought took same =
      ap (λ (l : List ℕ). waiting_of queue bench ++ l) brought
      ∙ append-nil (waiting_of queue bench)
      ∙ sym (ap₂ (λ (l : List ℕ) (q : Queue). l ++ waiting_of q bench) took same)

  pub balanced : (request : Request) → Balanced queue bench request
  balanced request = by (does queue request)
    where
      none-taken : answered_to queue Serve ≡ none_waiting queue → takes queue bench Serve ≡ []
      none-taken is = ap (λ (x : Handled). cond (eqb x.bench bench) (x.psn.0 ∷ []) []) is ∙ ap (λ (t : Bool). cond t (0 ∷ []) []) (ne_eqb 255 bench (λ e. omega (arith, e, within)))

      by : Does queue request → Balanced queue bench request
      by (refuses answer e other is) =
          balanced-same request (brings-none queue bench request (ap (λ (x : Handled). is_done x.answer) is ∙ e)) (takes_none queue bench request other) (ap (λ (x : Handled). x.queue) is)
      by (stores-order from psn e right is) = subst (Balanced queue bench) (sym e) (balanced-stored from psn right (sym (ap (answered_to queue) e) ∙ is))
      by (takes-order k e h waiting nearer is) =
          subst (Balanced queue bench) (sym e) (balanced-served (bench_at queue.turn k) (omega arith) waiting (sym (ap (answered_to queue) e) ∙ is))
      by (finds-none e idle is) =
          let serve = sym (ap (answered_to queue) e) ∙ is in
          subst (Balanced queue bench) (sym e) (balanced-same Serve refl (none-taken serve) (ap (λ (x : Handled). x.queue) serve))

-- four orders stay four
pub still-queue : (queue : Queue) → IsQueue queue → (request : Request) → IsQueue (answered_to queue request).queue
still-queue queue whole request = by (does queue request)
  where
    by : Does queue request → IsQueue (answered_to queue request).queue
    by (refuses answer e other is) = ap (λ (x : Handled). length x.queue.orders) is ∙ whole
    by (stores-order from psn e right is) = ap (λ (x : Handled). length x.queue.orders) is ∙ length-set queue.orders from (record { waiting = true; psn = psn }) ∙ whole
    by (takes-order k e h waiting nearer is) = ap (λ (x : Handled). length x.queue.orders) is ∙ length-set queue.orders (bench_at queue.turn k) no_order ∙ whole
    by (finds-none e idle is) = ap (λ (x : Handled). length x.queue.orders) is ∙ whole
