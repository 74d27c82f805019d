-- What is promised of one record. Assumes nothing.
use mathlib.Core.Path.{◌≡◌, refl, sym, ap, ap₂, subst, ◌∙◌}
use mathlib.Core.Bool.{Bool, true, false, cond, ◌&&◌, false≢true}
use mathlib.Core.List.{List, [], ◌∷◌}
use mathlib.Core.Logic.{◌↔◌}
use Prim.Native.Nat.{ℕ, ◌+◌, ◌%◌, ◌^◌, ◌<◌, ◌≤◌}
use native.Mathlib.Omega.{arith}
use borrow.Author.Tests.{eqb-true, ltb-true, ltb-false}
use lib.Dec.{eqb, ltb}
use lib.ListN.{length, get_or, take, drop}
use lib.Seq.{take_all}
use Rattle.laws.specs.Bytes.{Bytes}
use Rattle.laws.specs.First.{first}
use Rattle.laws.proofs.Booleans.{and_left, and_right}
use Rattle.answer.specs.declared.Answer.{Answer}
use Rattle.answer.specs.declared.Answer.TheVariants.{Done, NoMultiple, NoZone, NoBench, BenchWaiting}
use Rattle.answer.specs.Answer.{place_of, is_done, and_then}
use Rattle.address.specs.declared.Psn.{Psn}
use Rattle.address.specs.Zones.{in_data_zone, first_of_cluster}
use Rattle.address.specs.Judged.{judged}
use Rattle.big_endian.specs.Words.{four_bytes, word_at}
use Rattle.big_endian.proofs.Words.{word_back, four-there}
use Rattle.order_queue.specs.declared.Queue.{Queue}
use Rattle.order_queue.specs.declared.Request.{Request}
use Rattle.order_queue.specs.declared.Request.TheVariants.{Submit, Serve, Unknown}
use Rattle.order_queue.specs.declared.Handled.{Handled}
use Rattle.order_queue.specs.Records.{request_of}
use Rattle.order_queue.specs.Queue.{is_waiting, next_bench, quiet, submit_answer, submitted, order_taken, none_waiting, served, answered_to, handled}
use Rattle.order_queue.specs.Promise.{RightSubmit, Does, refuses, stores-order, takes-order, finds-none, Says, at-26, at-27, at-28, at-6, at_7, at-0-submit, at-0-serve, ServesAs}
use Rattle.order_queue.proofs.Records.{is_submit, is_serve, bench_asked, psn_asked}
use Rattle.order_queue.proofs.Submits.{submit-right, right-submit}
use Rattle.order_queue.proofs.Serves.{begins-else}
use Rattle.order_queue.proofs.Requests.{does}

-- ---- records

byte-alone : (l : List ℕ) → length l ≡ 1 → l ≡ get_or l 0 0 ∷ []
byte-alone [] e = absurd (omega (arith, e))
byte-alone (a ∷ []) e = refl
byte-alone (a ∷ b ∷ l) e = absurd (omega (arith, e))

six-bytes : (l : List ℕ) → length l ≡ 6 → l ≡ get_or l 0 0 ∷ get_or l 1 0 ∷ take 4 (drop 2 l)
six-bytes [] e = absurd (omega (arith, e))
six-bytes (a ∷ []) e = absurd (omega (arith, e))
six-bytes (a ∷ b ∷ l) e = ap (λ (m : List ℕ). a ∷ b ∷ m) (sym (take_all 4 l (omega (arith, e))))

pub serve-bytes : request_of (2 ∷ []) ≡ Serve
unfolding request_of
serve-bytes = refl

pub submit-bytes : (bench psn : ℕ) → psn < 2 ^ 32 → request_of (1 ∷ bench ∷ four_bytes psn) ≡ Submit bench (record { 0 = psn })
unfolding request_of
submit-bytes bench psn h = λ i. Submit bench (record { 0 = word_back psn h i })

module _ (bytes : List ℕ) where
  abbrev submits : Bool
  submits = eqb (get_or bytes 0 0) 1 && eqb (length bytes) 6

  abbrev serves : Bool
  serves = eqb (get_or bytes 0 0) 2 && eqb (length bytes) 1

  abbrev asked : Bool → Bool → Request
  asked s t = cond s (Submit (get_or bytes 1 0) (record { 0 = word_at bytes 2 })) (cond t Serve Unknown)

  -- NO OTHER RECORD IS A SERVE
  pub only-serve : request_of bytes ≡ Serve → bytes ≡ 2 ∷ []
  unfolding request_of
  only-serve e = by submits serves refl (ap is_serve e)
    where
      by : (s t : Bool) → serves ≡ t → is_serve (asked s t) ≡ true → bytes ≡ 2 ∷ []
      by true t ht e = absurd (false≢true e)
      by false true ht e =
          byte-alone bytes (eqb-true (length bytes) 1 (and_right (eqb (get_or bytes 0 0) 2) (eqb (length bytes) 1) ht))
          ∙ ap (λ (b : ℕ). b ∷ []) (eqb-true (get_or bytes 0 0) 2 (and_left (eqb (get_or bytes 0 0) 2) (eqb (length bytes) 1) ht))
      by false false ht e = absurd (false≢true e)

  -- NOR A SUBMIT
  pub only-submit : (bench : ℕ) (psn : Psn) → Bytes bytes → request_of bytes ≡ Submit bench psn → bytes ≡ 1 ∷ bench ∷ four_bytes psn.0
  unfolding request_of
  only-submit bench psn are e = by submits serves refl (ap is_submit e) (ap bench_asked e) (ap psn_asked e)
    where
      by : (s t : Bool) → submits ≡ s → is_submit (asked s t) ≡ true → bench_asked (asked s t) ≡ bench → psn_asked (asked s t) ≡ psn.0 → bytes ≡ 1 ∷ bench ∷ four_bytes psn.0
      by true t hs e hb hp =
          let six = eqb-true (length bytes) 6 (and_right (eqb (get_or bytes 0 0) 1) (eqb (length bytes) 6) hs) in
          let kind = eqb-true (get_or bytes 0 0) 1 (and_left (eqb (get_or bytes 0 0) 1) (eqb (length bytes) 6) hs) in
          six-bytes bytes six ∙ (λ i. kind i ∷ (hb i ∷ (sym (four-there bytes 2 are (omega (arith, six))) ∙ ap four_bytes hp) i))
      by false true hs e hb hp = absurd (false≢true e)
      by false false hs e hb hp = absurd (false≢true e)

-- ---- submits

-- A SUBMIT IS ACCEPTED EXACTLY WHERE THE BENCH IS ONE OF THE FOUR AND NOT WAITING AND THE PSN IS ACCEPTED
pub submit-iff : (queue : Queue) (bench psn : ℕ) → (submit_answer queue bench psn ≡ Done) ↔ RightSubmit queue bench psn
submit-iff queue bench psn = (submit-right queue bench psn, right-submit queue bench psn)

-- ---- answers

module _ (queue : Queue) (bytes : List ℕ) where
  says-submit : (bench : ℕ) (psn : Psn) → request_of bytes ≡ Submit bench psn → Says queue bytes (submit_answer queue bench psn.0)
  unfolding judged
  says-submit bench psn e = by (ltb bench 4) refl (is_waiting queue bench) refl (first_of_cluster psn.0) refl (in_data_zone psn.0) refl
    where
      is : {m z : Bool} → first_of_cluster psn.0 ≡ m → in_data_zone psn.0 ≡ z → judged psn.0 ≡ cond m (cond z Done (NoZone 0)) (NoMultiple 0)
      is hm hz = ap₂ (λ (m z : Bool). cond m (cond z Done (NoZone 0)) (NoMultiple 0)) hm hz

      by : (b : Bool) → ltb bench 4 ≡ b → (w : Bool) → is_waiting queue bench ≡ w → (m : Bool) → first_of_cluster psn.0 ≡ m → (z : Bool) → in_data_zone psn.0 ≡ z
          → Says queue bytes (and_then (cond b Done NoBench) (and_then (cond w BenchWaiting Done) (cond m (cond z Done (NoZone 0)) (NoMultiple 0))))
      by false hb w hw m hm z hz = at-27 bench psn e (ltb-false bench 4 hb)
      by true hb true hw m hm z hz = at-28 bench psn e (ltb-true bench 4 hb) hw
      by true hb false hw false hm z hz = at-6 bench psn e (ltb-true bench 4 hb) hw (is hm hz)
      by true hb false hw true hm false hz = at_7 bench psn e (ltb-true bench 4 hb) hw (is hm hz)
      by true hb false hw true hm true hz = at-0-submit bench psn e (record { bench-is = ltb-true bench 4 hb; free = hw; psn-is = is hm hz })

  served-done : (served queue).answer ≡ Done
  unfolding served
  served-done = by (ltb (next_bench queue) 4)
    where
      by : (t : Bool) → (cond t (order_taken queue (next_bench queue)) (none_waiting queue)).answer ≡ Done
      by true = refl
      by false = refl

  -- WHAT EACH ANSWER SAYS
  pub says : Says queue bytes (handled queue bytes).answer
  unfolding handled submitted
  says = by (request_of bytes) refl
    where
      by : (r : Request) → request_of bytes ≡ r → Says queue bytes (answered_to queue r).answer
      by (Submit bench psn) e = says-submit bench psn e
      by Serve e = subst (Says queue bytes) (sym served-done) (at-0-serve e)
      by Unknown e = at-26 e

  -- ITS PLACE IS 0
  pub place-zero : place_of (handled queue bytes).answer ≡ 0
  place-zero = by says
    where
      by : {a : Answer} → Says queue bytes a → place_of a ≡ 0
      by (at-26 e) = refl
      by (at-27 bench psn e h) = refl
      by (at-28 bench psn e h w) = refl
      by (at-6 bench psn e h w j) = refl
      by (at_7 bench psn e h w j) = refl
      by (at-0-submit bench psn e right) = refl
      by (at-0-serve e) = refl

  -- A REFUSAL CHANGES NOTHING, AND REPORTS BENCH 0 AND PSN 0
  pub refused-quiet : is_done (handled queue bytes).answer ≡ false → handled queue bytes ≡ quiet queue (handled queue bytes).answer
  unfolding handled
  refused-quiet refused = by (does queue (request_of bytes))
    where
      no-refusal : {h : Handled} → answered_to queue (request_of bytes) ≡ h → h.answer ≡ Done → ⊥
      no-refusal e d = false≢true (sym refused ∙ ap (λ (x : Handled). is_done x.answer) e ∙ ap is_done d)

      by : Does queue (request_of bytes) → answered_to queue (request_of bytes) ≡ quiet queue (answered_to queue (request_of bytes)).answer
      by (refuses answer e other is) = is ∙ ap (quiet queue) (sym (ap (λ (x : Handled). x.answer) is))
      by (stores-order bench psn e right is) = absurd (no-refusal is refl)
      by (takes-order k e h waiting nearer is) = absurd (no-refusal is refl)
      by (finds-none e idle is) = absurd (no-refusal is refl)

-- ---- a turn that names no bench

-- from bench s on
abbrev next_from : Queue → ℕ → ℕ
next_from queue s =
    let passed = first 4 (λ k. is_waiting queue ((s + k) % 4)) in
    cond (ltb passed 4) ((s + passed) % 4) 4

abbrev served_from : Queue → ℕ → Handled
served_from queue s = cond (ltb (next_from queue s) 4) (order_taken queue (next_from queue s)) (none_waiting queue)

-- A SERVE REPORTS AS FROM BENCH 0, AND WHERE AN ORDER IS TAKEN LEAVES THE SAME QUEUE
pub begins-at-0 : (queue : Queue) → 4 ≤ queue.turn → ServesAs (served queue) (served (record { orders = queue.orders; turn = 0 }))
unfolding served
begins-at-0 queue h =
    subst (λ (x : Handled). ServesAs x (served_from from-0 0)) (sym (ap (served_from queue) (sym (begins-else h))))
    (by (ltb (next_from queue 0) 4) (next_from queue 0))
  where
    from-0 : Queue
    from-0 = record { orders = queue.orders; turn = 0 }

    by : (t : Bool) (bench : ℕ) → ServesAs (cond t (order_taken queue bench) (none_waiting queue)) (cond t (order_taken from-0 bench) (none_waiting from-0))
    by true bench = record { same-bench = refl; same-psn = refl; same_queue = λ some. refl }
    by false bench = record { same-bench = refl; same-psn = refl; same_queue = λ some. absurd (some refl) }
