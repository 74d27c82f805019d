-- The reader's steps put together: what the tests found decides what is answered and left. Assumes nothing.
use mathlib.Core.Path.{◌≡◌, refl, sym, ap, ap₂, ◌∙◌}
use mathlib.Core.Bool.{Bool, true, false, ◌&&◌, cond}
use mathlib.Core.List.{List}
use Prim.Native.Nat.{ℕ}
use lib.ListN.{length}
use Rattle.laws.specs.Tabulate.{tabulate}
use Rattle.bits.specs.Bits.{bits_of}
use Rattle.answer.specs.declared.Answer.{Answer}
use Rattle.answer.specs.Answer.{is_done, and_then}
use Rattle.lengths.specs.Lengths.{lengths_answer}
use Rattle.answer.proofs.Tests.{done-is, done-not, then-here, then-assoc, goes_on, stops}
use Rattle.lengths.proofs.RightLengths.{lengths-passed}
use Rattle.cluster.specs.Multiplex.{bis_in}
use Rattle.recording.specs.Reading.{first_hash, cluster_in, dc_in}
use Rattle.judging.specs.Tests.{last_bits_answer, syncs_answer, frames_answer}
use Rattle.judging.specs.steps.Tested.{FramesTested}
use Rattle.strict_cluster.specs.Outcome.{accepted, cleared, outcome_by}
use Rattle.cluster_tests.specs.steps.Tested.{cluster_answer}
use Rattle.strict_cluster.specs.steps.Given.{cluster_outcome}
use Rattle.reader.specs.Outcome.{Lent, image_answer, with_first, image_outcome, sizes_answer, wrong_sizes, outcome}
use Rattle.reader.specs.steps.Read.{RecordingTested}

-- ---- tests 9 to 11; a is what 9 and 10 answer, d whether it is `Done`

module _ (b : List ℕ) (last syncs a : Answer) (d : Bool) (el : last ≡ last_bits_answer b) (es : syncs ≡ syncs_answer b) (ea : a ≡ and_then last syncs) (ed : d ≡ is_done a) (dc work : List ℕ) where
  is-start : a ≡ and_then (last_bits_answer b) (syncs_answer b)
  is-start = ea ∙ ap₂ and_then el es

  pub start-wrong : d ≡ false → length work ≡ 76880 → RecordingTested b a dc work
  start-wrong f size =
      let fail : is_done a ≡ false = sym ed ∙ f in
      record {
        answer-is = stops (and_then (last_bits_answer b) (syncs_answer b)) (frames_answer b) a d is-start ed f ∙ then-assoc (last_bits_answer b) (syncs_answer b) (frames_answer b);
        dc-is = λ t. absurd (done-not a fail t);
        work-is = λ t. absurd (done-not a fail t);
        size = size;
      }

  pub frames-tested : (r : Answer) → d ≡ true → FramesTested b r dc work → RecordingTested b r dc work
  frames-tested r t frames =
      record {
        answer-is =
            goes_on (and_then (last_bits_answer b) (syncs_answer b)) (frames_answer b) a d is-start ed r t frames.answer-is
            ∙ then-assoc (last_bits_answer b) (syncs_answer b) (frames_answer b);
        dc-is = frames.dc-is;
        work-is = frames.work-is;
        size = frames.size;
      }

-- ---- the outcome with slices of the right lengths; a is what 9 to 11 answer

-- a refusal does not speak of what was read
not-read : (a : Answer) (work dc : List ℕ) (lent : Lent) → is_done a ≡ false → outcome_by a work dc lent ≡ record { answer = a; psn = 0; lent = cleared lent }
not-read a work dc lent f = ap (λ (t : Bool). cond t (accepted work dc) (record { answer = a; psn = 0; lent = cleared lent })) f

module _ (b user side dc before words work : List ℕ) (a : Answer) (tested : RecordingTested b a words work) (size : length before ≡ 76880) where
  -- the slices at entry, and when the recording is read
  abbrev lent : List ℕ → Lent
  lent w = record { user = user; side = side; dc = dc; work = w }

  abbrev start : Answer
  start = and_then (last_bits_answer b) (and_then (syncs_answer b) (frames_answer b))

  abbrev rest : List ℕ → Answer
  rest w = cluster_answer (bis_in w) w

  in_two : and_then start (rest (cluster_in b)) ≡ image_answer b
  unfolding image_answer cluster_answer
  in_two =
      then-assoc (last_bits_answer b) (and_then (syncs_answer b) (frames_answer b)) (rest (cluster_in b))
      ∙ ap (and_then (last_bits_answer b)) (then-assoc (syncs_answer b) (frames_answer b) (rest (cluster_in b)))

  behind-start : and_then a (rest (cluster_in b)) ≡ image_answer b
  behind-start = ap (λ (x : Answer). and_then x (rest (cluster_in b))) tested.answer-is ∙ in_two

  is-size : length work ≡ length before
  is-size = tested.size ∙ sym size

  cluster-read : cluster_outcome a work words (lent work) ≡ outcome_by (image_answer b) (cluster_in b) (dc_in b) (lent before)
  unfolding cluster_outcome
  cluster-read = by (is_done a) refl
    where
      by : (t : Bool) → is_done a ≡ t → outcome_by (and_then a (rest work)) work words (lent work) ≡ outcome_by (image_answer b) (cluster_in b) (dc_in b) (lent before)
      by true e =
          let done = done-is a e in
          let is-work = tested.work-is done in
          let is-dc = tested.dc-is done in
          let is-answer = ap (λ (w : List ℕ). and_then a (rest w)) is-work ∙ behind-start in
          λ i. cond (is_done (is-answer i)) (accepted (is-work i) (is-dc i))
          (record { answer = is-answer i; psn = 0; lent = record { user = user; side = side; dc = dc; work = tabulate (is-size i) (λ _. 0) } })
      by false e =
          let stays = then-here a (rest work) e in
          let is-answer = sym (then-here a (rest (cluster_in b)) e) ∙ behind-start in
          not-read (and_then a (rest work)) work words (lent work) (ap is_done stays ∙ e)
          ∙ (λ i. record { answer = (stays ∙ is-answer) i; psn = 0; lent = record { user = user; side = side; dc = dc; work = tabulate (is-size i) (λ _. 0) } })
          ∙ sym (not-read (image_answer b) (cluster_in b) (dc_in b) (lent before) (sym (ap is_done is-answer) ∙ e))

  pub image-read : with_first (first_hash b) (cluster_outcome a work words (lent work)) ≡ image_outcome b (lent before)
  unfolding image_outcome
  image-read = ap (with_first (first_hash b)) cluster-read

-- ---- the outcome; a is what the lengths answer, d whether it is `Done`

module _ (image user side dc work : List ℕ) (a : Answer) (d : Bool) (ea : a ≡ lengths_answer (length user) (length side) (length dc) (length image) (length work)) (ed : d ≡ is_done a) where
  abbrev before : Lent
  before = record { user = user; side = side; dc = dc; work = work }

  by_lengths : (t : Bool) → d ≡ t → cond t (image_outcome (bits_of image) before) (wrong_sizes (sizes_answer image before) before) ≡ outcome image before
  unfolding outcome
  by_lengths t e = sym (ap (λ (t : Bool). cond t (image_outcome (bits_of image) before) (wrong_sizes (sizes_answer image before) before)) (ap is_done (sym ea) ∙ sym ed ∙ e))

  -- tested is what 9 to 11 answer, words and read what they leave; r, p and l are what is read of the cluster, h what is returned of #
  pub is_read : (r : Answer) (p : ℕ) (h : Bool) (l : Lent) (tested : Answer) (words read : List ℕ) → d ≡ true → RecordingTested (bits_of image) tested words read
      → record { answer = r; psn = p; lent = l } ≡ cluster_outcome tested read words (record { user = user; side = side; dc = dc; work = read })
      → h ≡ (is_done r && first_hash (bits_of image)) → record { answer = r; psn = p; first = h; lent = l } ≡ outcome image before
  is_read r p h l tested words read t recording e eh =
      let sizes = lengths-passed (length user) (length side) (length dc) (length image) (length work) ea ed t in
      (λ i. record { answer = r; psn = p; first = eh i; lent = l })
      ∙ ap (with_first (first_hash (bits_of image))) e
      ∙ image-read (bits_of image) user side dc work words read tested recording sizes.0.work
      ∙ by_lengths true t

  pub is-refused : d ≡ false → wrong_sizes a before ≡ outcome image before
  is-refused f = ap (λ (x : Answer). wrong_sizes x before) ea ∙ by_lengths false f
