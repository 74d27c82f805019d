-- Images under the tests 9 to 16: that of an accepted input passes them, and one that passes is the image of what is read in it. Assumes nothing.
use mathlib.Core.Path.{◌≡◌, refl, sym, ap, ap₂, subst, ◌∙◌}
use mathlib.Core.Bool.{Bool, true, false, ◌&&◌, cond}
use mathlib.Core.List.{List, [], ◌∷◌, ◌++◌}
use Prim.Native.Nat.{ℕ, ◌+◌, ◌*◌}
use native.Mathlib.Omega.{arith}
use borrow.Author.Tests.{eqb-true}
use lib.Dec.{eqb}
use lib.ListN.{length, get_or, drop, take-append-drop, drop_of_length-le}
use lib.Seq.{get_or-append-add, drop-cons}
use Rattle.laws.specs.Bytes.{Bytes}
use Rattle.laws.proofs.Booleans.{and_left, and_right}
use Rattle.bits.specs.Bits.{bits_of, packed}
use Rattle.bits.proofs.Bits as B
use Rattle.bits.proofs.Pack.{packed-bits}
use Rattle.answer.specs.declared.Answer.TheVariants.{Done, LastBits}
use Rattle.answer.proofs.Tests.{done-not, then-both, then-done}
use Rattle.modulation.specs.Bits.{bits}
use Rattle.modulation.specs.Stream.{stream}
use Rattle.cluster.specs.Multiplex.{bis_in}
use Rattle.cluster.specs.EccCluster.{ecc_cluster}
use Rattle.cluster.specs.Reading.{Reads}
use Rattle.cluster.proofs.Statements as Cluster
use Rattle.recording.specs.Recording.{recording_of}
use Rattle.recording.specs.Reading.{first_hash, cluster_in, dc_in}
use Rattle.recording.proofs.Accepting.{Passes, stream-there}
use Rattle.recording.proofs.Back as Back
use Rattle.image.specs.Image.{Input, IsAccepted, cluster, image_bits, image}
use Rattle.image.proofs.Demand3.{image-bits, image-size}
use Rattle.judging.specs.Tests.{last_bits_answer, syncs_answer, frames_answer, bis_columns_answer, address_fields_answer, psn_answer, ldc_columns_answer}
use Rattle.judging.proofs.Passing.{syncs-passed, frames-passed, recording-passes, ClusterPasses, reads-passes}
use Rattle.reader.specs.Outcome.{image_answer}

-- ---- every test is passed

pub record ImagePasses (b : List ℕ) : Type 0 where
  pub last : last_bits_answer b ≡ Done
  pub syncs : syncs_answer b ≡ Done
  pub frames : frames_answer b ≡ Done
  pub cluster : ClusterPasses (cluster_in b)

module _ (b : List ℕ) where
  pub passes-done : ImagePasses b → image_answer b ≡ Done
  unfolding image_answer
  passes-done passes =
      let cluster = passes.cluster in
      then-both _ _ passes.last
      (then-both _ _ passes.syncs
      (then-both _ _ passes.frames
      (then-both _ _ cluster.columns
      (then-both _ _ cluster.fields
      (then-both _ _ cluster.psn
      (then-both _ _ cluster.words cluster.sectors))))))

  pub done-passes : image_answer b ≡ Done → ImagePasses b
  unfolding image_answer
  done-passes e =
      let work = cluster_in b in
      let nine = then-done (last_bits_answer b) _ e in
      let ten = then-done (syncs_answer b) _ nine.1 in
      let eleven = then-done (frames_answer b) _ ten.1 in
      let twelve = then-done (bis_columns_answer (bis_in work)) _ eleven.1 in
      let thirteen = then-done (address_fields_answer (bis_in work)) _ twelve.1 in
      let fourteen = then-done (psn_answer (bis_in work)).answer _ thirteen.1 in
      let fifteen = then-done (ldc_columns_answer work) _ fourteen.1 in
      record {
        last = nine.0;
        syncs = ten.0;
        frames = eleven.0;
        cluster = record { columns = twelve.0; fields = thirteen.0; psn = fourteen.0; words = fifteen.0; sectors = fifteen.1 };
      }

-- ---- the image of an accepted input

module _ (input : Input) (is : IsAccepted input) where
  abbrev b : List ℕ
  b = bits_of (image input)

  abbrev end : List ℕ
  end = 0 ∷ 0 ∷ []

  recordable : Back.Recordable (cluster input) input.dc
  recordable =
      record {
        size = Cluster.length-cluster input.user input.psn input.side is.user is.psn is.side;
        bytes = Cluster.bytes-cluster input.user input.psn input.side is.user is.psn is.side;
        words = is.dc.size;
        small = λ n h. omega (arith, is.dc.small n h);
      }

  bits_are : b ≡ bits (stream (recording_of input.first (cluster input) input.dc) 496) ++ end
  unfolding image_bits
  bits_are = image-bits input

  last-bit : (k : ℕ) → get_or b (958302 + k) 0 ≡ get_or end k 0
  last-bit k =
      ap (λ (l : List ℕ). get_or l (958302 + k) 0) (image-bits input)
      ∙ ap (λ (n : ℕ). get_or (image_bits input ++ end) (n + k) 0) (sym (image-size input))
      ∙ get_or-append-add (image_bits input) end k 0

  last-passed : last_bits_answer b ≡ Done
  unfolding last_bits_answer
  last-passed = ap₂ (λ (x y : ℕ). cond (eqb x 0 && eqb y 0) Done LastBits) (last-bit 0) (last-bit 1)

  pub cluster-back : cluster_in b ≡ cluster input
  cluster-back = Back.cluster-there input.first (cluster input) input.dc b end recordable bits_are

  pub dc-back : dc_in b ≡ input.dc
  dc-back = Back.dc-there input.first (cluster input) input.dc b end recordable bits_are

  pub first_back : first_hash b ≡ input.first
  first_back = Back.first-there input.first (cluster input) input.dc b end recordable bits_are

  pub reads : Reads (cluster_in b) input.user input.psn input.side
  reads =
      subst (λ (w : List ℕ). Reads w input.user input.psn input.side) (sym cluster-back)
      (Cluster.read-back input.user input.psn input.side is.user is.psn is.side)

  pub image-done : image_answer b ≡ Done
  image-done =
      passes-done b
      (record {
        last = last-passed;
        syncs = syncs-passed b (Back.right-syncs input.first (cluster input) input.dc b end recordable bits_are);
        frames = frames-passed b (Back.all-frames input.first (cluster input) input.dc b end recordable bits_are);
        cluster = reads-passes (cluster_in b) input.user input.side input.psn reads;
      })

-- ---- an image that passes

module _ (b : List ℕ) (size : length b ≡ 958304) (passes : ImagePasses b) where
  pub recording-there : Passes b
  recording-there = recording-passes b passes.syncs passes.frames

  end-there : drop 958302 b ≡ 0 ∷ 0 ∷ []
  unfolding last_bits_answer
  end-there =
      let both = zeros (eqb (get_or b 958302 0) 0 && eqb (get_or b 958303 0) 0) passes.last in
      let first = eqb-true (get_or b 958302 0) 0 (and_left (eqb (get_or b 958302 0) 0) _ both) in
      let second = eqb-true (get_or b 958303 0) 0 (and_right (eqb (get_or b 958302 0) 0) _ both) in
      drop-cons b 958302 0 (omega (arith, size))
      ∙ ap₂ ◌∷◌ first (drop-cons b 958303 0 (omega (arith, size)) ∙ ap₂ ◌∷◌ second (drop_of_length-le b {i = 958304} (omega (arith, size))))
    where
      zeros : (t : Bool) → cond t Done LastBits ≡ Done → t ≡ true
      zeros true e = refl
      zeros false e = absurd (done-not LastBits refl e)

  bits-there : b ≡ bits (stream (recording_of (first_hash b) (cluster_in b) (dc_in b)) 496) ++ (0 ∷ 0 ∷ [])
  bits-there = sym (take-append-drop 958302 b) ∙ ap₂ ◌++◌ (stream-there b recording-there) end-there

-- in bytes
pub image-there : (l user side : List ℕ) (psn : ℕ) → Bytes l → length l ≡ 119788 → ImagePasses (bits_of l) → cluster_in (bits_of l) ≡ ecc_cluster user psn side
    → l ≡ image (record { user = user; psn = psn; side = side; dc = dc_in (bits_of l); first = first_hash (bits_of l) })
unfolding image image_bits
image-there l user side psn bytes size passes e =
    sym (packed-bits l bytes)
    ∙ ap packed
    (bits-there (bits_of l) (B.length-bits l ∙ ap (λ (n : ℕ). 8 * n) size) passes
    ∙ ap (λ (w : List ℕ). bits (stream (recording_of (first_hash (bits_of l)) w (dc_in (bits_of l))) 496) ++ (0 ∷ 0 ∷ [])) e)
