-- What is promised of the reader, on its outcome: a written image is read, nothing else is accepted, and what a refusal leaves. Assumes nothing.
use mathlib.Core.Path.{◌≡◌, refl, sym, ap, subst, ◌∙◌}
use mathlib.Core.Logic.{◌↔◌, ◌⊎◌, inl, inr, ⊎_elim}
use mathlib.Core.Bool.{Bool, true, false, ◌&&◌, cond}
use mathlib.Core.List.{List, [], ◌∷◌}
use Prim.Native.Nat.{ℕ, ◌<◌, ◌≤◌}
use native.Mathlib.Omega.{arith}
use lib.Dec.{eqb, ltb}
use lib.ListN.{get_or, length, length-append}
use Rattle.laws.specs.Bytes.{Bytes}
use Rattle.laws.specs.Tabulate.{tabulate}
use Rattle.bits.specs.Bits.{bits_of}
use Rattle.bits.proofs.Bits as B
use Rattle.answer.specs.declared.Answer.{Answer}
use Rattle.answer.specs.declared.Answer.TheVariants.{Done, LastBits, Sync, Frame, BisColumn, AddressUnit, NoPsn, LdcColumn, Sector}
use Rattle.answer.specs.Answer.{number_of, is_done, and_then, lowest}
use Rattle.answer.proofs.Tests.{number-zero, done-is, done-not}
use Rattle.lengths.proofs.RightLengths.{lengths-right, lengths-done, lengths-number}
use Rattle.scrambling.specs.Scrambling.{scrambling_of}
use Rattle.bis.specs.declared.PsnFound.{PsnFound}
use Rattle.bis.specs.declared.PsnFound.TheVariants.{Found, NotFound}
use Rattle.bis.specs.Reading as Bis
use Rattle.cluster.specs.Multiplex.{bis_in}
use Rattle.cluster.specs.Reading.{first_wrong_word, first_wrong_sector, user_in}
use Rattle.cluster.proofs.Statements as Cluster
use Rattle.recording.specs.Reading.{first_wrong_sync, first_no_frame, first_hash, cluster_in, dc_in}
use Rattle.recording.proofs.Accepting.{Passes, length-work, bytes-work, length-dc, dc-small}
use Rattle.image.specs.Image.{Input, IsAccepted, cluster, image_bits, image}
use Rattle.image.proofs.Demand3.{image-bits, image-size, starting_with}
use Rattle.image.proofs.Statements.{zeros, zeros-accepted, either_first}
use Rattle.judging.specs.Tests.{last_bits_answer, syncs_answer, frames_answer, bis_columns_answer, address_fields_answer, found_answer, psn_answer, cluster_psn, ldc_columns_answer, sectors_answer}
use Rattle.judging.proofs.Passing.{read-psn, passes-reads}
use Rattle.strict_cluster.specs.Outcome.{accepted, cleared, outcome_by}
use Rattle.reader.specs.Outcome.{Lent, Outcome, image_answer, with_first, image_outcome, sizes_answer, wrong_sizes, outcome}
use Rattle.reader.specs.Promise.{RightSlices, as_input, ReadsExactly}
use Rattle.reader.proofs.Images.{ImagePasses, done-passes, cluster-back, dc-back, first_back, reads, image-done, recording-there, image-there}

length-image : (input : Input) → length (image input) ≡ 119788
length-image input = omega (arith, B.length-bits (image input), ap (length {A = ℕ}) (image-bits input), length-append (image_bits input) (0 ∷ 0 ∷ []), image-size input)

-- what is returned, as an input
abbrev pub returned : Outcome → Input
returned o = as_input o.psn o.first o.lent

-- what reading gives of an input: number and place are 0, exactly the input comes back, work is its ECC cluster
abbrev pub given : Input → Outcome
given input = record { answer = Done; psn = input.psn; first = input.first; lent = record { user = input.user; side = input.side; dc = input.dc; work = cluster input } }

-- ---- READING A WRITTEN IMAGE: the answer is 0, 0, and exactly the input comes back, work its ECC cluster

module _ (input : Input) (is : IsAccepted input) where
  abbrev b : List ℕ
  b = bits_of (image input)

  is-input : with_first (first_hash b) (accepted (cluster_in b) (dc_in b)) ≡ given input
  is-input =
      let read = reads input is in
      let psn = read-psn (cluster_in b) input.user input.side input.psn read in
      let user = ap (λ (p : ℕ). user_in (scrambling_of p) (cluster_in b)) psn ∙ read.has-user in
      λ i. record { answer = Done; psn = psn i; first = first_back input is i; lent = record { user = user i; side = read.bis.has-side i; dc = dc-back input is i; work = cluster-back input is i } }

  pub read-back : (before : Lent) → RightSlices before → outcome (image input) before ≡ given input
  unfolding outcome image_outcome
  read-back before right =
      let sizes : sizes_answer (image input) before ≡ Done =
      lengths-right (length before.user) (length before.side) (length before.dc) (length (image input)) (length before.work) right (length-image input) in
      ap (λ (a : Answer). cond (is_done a) (image_outcome b before) (wrong_sizes a before)) sizes
      ∙ ap (λ (a : Answer). with_first (first_hash b) (outcome_by a (cluster_in b) (dc_in b) before)) (image-done input is)
      ∙ is-input

-- ---- NOTHING ELSE: where the number is 0, what is returned is an accepted input, and the image is its image

module _ (l : List ℕ) (before : Lent) (bytes : Bytes l) where
  -- what is read in the image
  abbrev read-there : Outcome
  read-there = with_first (first_hash (bits_of l)) (accepted (cluster_in (bits_of l)) (dc_in (bits_of l)))

  is-done : number_of (outcome l before).answer ≡ 0 → (sizes_answer l before ≡ Done) × (image_answer (bits_of l) ≡ Done)
  unfolding outcome image_outcome
  is-done e = by (sizes_answer l before) (is_done (sizes_answer l before)) refl e
    where
      by-image : (a : Answer) (t : Bool) → is_done a ≡ t → number_of (cond t (accepted (cluster_in (bits_of l)) (dc_in (bits_of l))) (record { answer = a; psn = 0; lent = cleared before })).answer ≡ 0 → a ≡ Done
      by-image a true t e = done-is a t
      by-image a false t e = number-zero a e

      by : (a : Answer) (t : Bool) → is_done a ≡ t → number_of (cond t (image_outcome (bits_of l) before) (wrong_sizes a before)).answer ≡ 0
          → (a ≡ Done) × (image_answer (bits_of l) ≡ Done)
      by a true t e = (done-is a t, by-image (image_answer (bits_of l)) (is_done (image_answer (bits_of l))) refl e)
      by a false t e = absurd (done-not a t (number-zero a e))

  -- the outcome is then what is read in the image
  outcome-is : (e : number_of (outcome l before).answer ≡ 0) → outcome l before ≡ read-there
  unfolding outcome image_outcome
  outcome-is e =
      let done = is-done e in
      ap (λ (a : Answer). cond (is_done a) (image_outcome (bits_of l) before) (wrong_sizes a before)) done.0
      ∙ ap (λ (a : Answer). with_first (first_hash (bits_of l)) (outcome_by a (cluster_in (bits_of l)) (dc_in (bits_of l)) before)) done.1

  module _ (size : length l ≡ 119788) (done : image_answer (bits_of l) ≡ Done) where
    abbrev read : Input
    read = returned read-there

    bit-size : length (bits_of l) ≡ 958304
    bit-size = omega (arith, B.length-bits l, size)

    passes : ImagePasses (bits_of l)
    passes = done-passes (bits_of l) done

    recorded : Passes (bits_of l)
    recorded = recording-there (bits_of l) bit-size passes

    -- its cluster is the ECC cluster of what is read
    written : Cluster.Written (cluster_in (bits_of l)) read.user read.psn read.side
    written =
        Cluster.nothing-else (cluster_in (bits_of l)) read.user read.psn read.side (length-work (bits_of l) recorded) (bytes-work (bits_of l) recorded)
        (passes-reads (cluster_in (bits_of l)) passes.cluster)

    read-accepted : IsAccepted read
    read-accepted =
        record {
          user = written.is-user;
          psn = written.accepted;
          side = written.is-side;
          dc = record { size = length-dc (bits_of l) recorded; small = dc-small (bits_of l) recorded };
        }

    is-image : l ≡ image read
    is-image = image-there l read.user read.side read.psn bytes size passes written.whole

  right-size : sizes_answer l before ≡ Done → length l ≡ 119788
  right-size e = (lengths-done (length before.user) (length before.side) (length before.dc) (length l) (length before.work) e).1

  pub nothing-else : number_of (outcome l before).answer ≡ 0 → IsAccepted (returned (outcome l before)) × (l ≡ image (returned (outcome l before)))
  nothing-else e =
      let done = is-done e in
      let size = right-size done.0 in
      rw (outcome-is e) (read-accepted size done.1, is-image size done.1)

  -- HENCE: an image slice of the right length is accepted if and only if it is some accepted input's image
  pub accepted-iff : length l ≡ 119788 → RightSlices before → (number_of (outcome l before).answer ≡ 0) ↔ ((input : Input) × (IsAccepted input × (l ≡ image input)))
  accepted-iff size right = (
    λ e. (returned (outcome l before), nothing-else e),
    λ some. ap (λ (x : List ℕ). number_of (outcome x before).answer) some.1.1 ∙ ap (λ (o : Outcome). number_of o.answer) (read-back some.0 some.1.0 before right),
  )

  -- work is then the ECC cluster of what is read
  work-there : (e : number_of (outcome l before).answer ≡ 0) → (outcome l before).lent.work ≡ cluster (returned (outcome l before))
  work-there e =
      let made = nothing-else e in
      let sizes = lengths-done (length before.user) (length before.side) (length before.dc) (length l) (length before.work) (is-done e).0 in
      ap (λ (x : List ℕ). (outcome x before).lent.work) made.1 ∙ ap (λ (o : Outcome). o.lent.work) (read-back (returned (outcome l before)) made.0 before sizes.0)

  -- as the contract has it: o is the answer, the PSN, the first # and the slices at exit
  pub with-exactly : {o : Outcome} → o ≡ outcome l before → (o ≡ outcome l before) × ReadsExactly l before (number_of o.answer) o.psn o.first o.lent
  with-exactly e = (e, subst (λ (o : Outcome). ReadsExactly l before (number_of o.answer) o.psn o.first o.lent) (sym e) exactly)
    where
      back : RightSlices before → (input : Input) → IsAccepted input → l ≡ image input → outcome l before ≡ given input
      back f input is h =
          ap (λ (x : List ℕ). outcome x before) h
          ∙ read-back input is before f

      exactly : ReadsExactly l before (number_of (outcome l before).answer) (outcome l before).psn (outcome l before).first (outcome l before).lent
      exactly =
          record {
            only = λ z. record { accepted = (nothing-else z).0; image-is = (nothing-else z).1; work-is = work-there z };
            always = λ f input is h. (ap (λ (o : Outcome). number_of o.answer) (back f input is h), ap returned (back f input is h));
          }

-- the image of the cluster of zeros is read, with either first #
pub zeros-read : (h : Bool) (before : Lent) → RightSlices before → outcome (image (starting_with h zeros)) before ≡ given (starting_with h zeros)
zeros-read h before right = read-back (starting_with h zeros) (either_first h zeros zeros-accepted) before right

-- ---- A REFUSAL: the PSN is 0 and the first # false; user, side and dc are as they were; work is as it was under 1 to 5 and zeros under 9 to 16

pub record Refused (before : Lent) (o : Outcome) : Type 0 where
  pub psn-zero : o.psn ≡ 0
  pub first-false : o.first ≡ false
  pub user-kept : o.lent.user ≡ before.user
  pub side-kept : o.lent.side ≡ before.side
  pub dc-kept : o.lent.dc ≡ before.dc
  pub work-kept : number_of o.answer ≤ 5 → o.lent.work ≡ before.work
  pub work-cleared : 5 < number_of o.answer → o.lent.work ≡ tabulate (length before.work) (λ _. 0)
  pub number : (number_of o.answer ≤ 5) ⊎ (9 ≤ number_of o.answer)

-- an answer of the tests 9 to 16
record Late (a : Answer) : Type 0 where
  late : (number_of a ≡ 0) ⊎ (9 ≤ number_of a)

late-done : Late Done
late-done = record { late = inl refl }

late-number : (a : Answer) → 9 ≤ number_of a → Late a
late-number a h = record { late = inr h }

late-either : (t : Bool) {x y : Answer} → Late x → Late y → Late (cond t x y)
late-either true hx hy = hx
late-either false hx hy = hy

late-test : (refusal : ℕ → Answer) (n i : ℕ) → ((k : ℕ) → 9 ≤ number_of (refusal k)) → Late (lowest refusal n i)
late-test refusal n i h = late-either (ltb i n) (late-number (refusal i) (h i)) late-done

late-then : {a next : Answer} → Late a → Late next → Late (and_then a next)
late-then {a} {next} ha hn = late-either (is_done a) hn ha

late-psn : (p : PsnFound) → Late (found_answer p).answer
late-psn (Found q) = late-done
late-psn NotFound = late-number NoPsn (omega arith)

late-image : (b : List ℕ) → Late (image_answer b)
unfolding image_answer last_bits_answer syncs_answer frames_answer bis_columns_answer address_fields_answer psn_answer ldc_columns_answer sectors_answer
late-image b =
    let work = cluster_in b in
    let block = bis_in work in
    late-then (late-either (eqb (get_or b 958302 0) 0 && eqb (get_or b 958303 0) 0) late-done (late-number LastBits (omega arith)))
    (late-then (late-test Sync 497 (first_wrong_sync b) (λ k. omega arith))
    (late-then (late-test Frame 496 (first_no_frame b) (λ k. omega arith))
    (late-then (late-test BisColumn 24 (Bis.first_wrong_column block) (λ k. omega arith))
    (late-then (late-test AddressUnit 16 (Bis.first_wrong_field block) (λ k. omega arith))
    (late-then (late-psn (Bis.psn_in block))
    (late-then (late-test LdcColumn 304 (first_wrong_word work) (λ k. omega arith)) (late-test Sector 32 (first_wrong_sector (scrambling_of (cluster_psn work)) work) (λ k. omega arith))))))))

pub refused : (l : List ℕ) (before : Lent) → (number_of (outcome l before).answer ≡ 0 → ⊥) → Refused before (outcome l before)
unfolding outcome image_outcome
refused l before h =
    by (sizes_answer l before) (is_done (sizes_answer l before)) refl
    (lengths-number (length before.user) (length before.side) (length before.dc) (length l) (length before.work)) h
  where
    nine-up : (a : Answer) → Late a → (number_of a ≡ 0 → ⊥) → 9 ≤ number_of a
    nine-up a g h = ⊎_elim (λ e. absurd (h e)) (λ k. k) g.late

    by-image : (a : Answer) (t : Bool) → is_done a ≡ t → Late a → (number_of (cond t (accepted (cluster_in (bits_of l)) (dc_in (bits_of l))) (record { answer = a; psn = 0; lent = cleared before })).answer ≡ 0 → ⊥)
        → Refused before (with_first (first_hash (bits_of l)) (cond t (accepted (cluster_in (bits_of l)) (dc_in (bits_of l))) (record { answer = a; psn = 0; lent = cleared before })))
    by-image a true t g h = absurd (h refl)
    by-image a false t g h =
        let nine = nine-up a g h in
        record {
          psn-zero = refl;
          first-false = ap (λ (d : Bool). d && first_hash (bits_of l)) t;
          user-kept = refl;
          side-kept = refl;
          dc-kept = refl;
          work-kept = λ k. absurd (omega arith);
          work-cleared = λ _. refl;
          number = inr nine;
        }

    by : (a : Answer) (t : Bool) → is_done a ≡ t → number_of a ≤ 5 → (number_of (cond t (image_outcome (bits_of l) before) (wrong_sizes a before)).answer ≡ 0 → ⊥)
        → Refused before (cond t (image_outcome (bits_of l) before) (wrong_sizes a before))
    by a true t small h = by-image (image_answer (bits_of l)) (is_done (image_answer (bits_of l))) refl (late-image (bits_of l)) h
    by a false t small h =
        record {
          psn-zero = refl;
          first-false = refl;
          user-kept = refl;
          side-kept = refl;
          dc-kept = refl;
          work-kept = λ _. refl;
          work-cleared = λ k. absurd (omega arith);
          number = inl small;
        }
