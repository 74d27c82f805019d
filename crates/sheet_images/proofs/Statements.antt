-- With an accepted sheet no two of its clusters have equal images. Assumes nothing.
use mathlib.Core.Path.{◌≡◌, refl, sym, ◌∙◌}
use mathlib.Core.Bool.{false}
use Prim.Native.Nat.{ℕ, ◌<◌}
use Rattle.answer.specs.declared.Answer.TheVariants.{Done}
use Rattle.address_sheet.specs.Sheet.{sheet_answer}
use Rattle.address_sheet.specs.Promise.{RightSheet}
use Rattle.address_sheet.proofs.Statements.{sheet-iff}
use Rattle.image.specs.Image.{Input}
use Rattle.image.proofs.Demand3.{Same, images-equal}
use Rattle.image.proofs.Packed.{equal-images}
use Rattle.image.proofs.Statements.{zeros, zeros-accepted}
use Rattle.sheet_images.specs.Images.{ClusterOf, ImagesApart}

module _ (count : ℕ) (psn : ℕ → ℕ) (accepted : sheet_answer count psn ≡ Done) where
  right : RightSheet count psn
  right = (sheet-iff count psn).0 accepted

  -- two inputs of which all parts are equal have one PSN
  no_same : (i j : ℕ) → i < count → j < count → (i ≡ j → ⊥) → (a b : Input) → ClusterOf psn i a → ClusterOf psn j b → Same a b → ⊥
  no_same i j hi hj differ a b ca cb same = right.apart i j hi hj differ (sym ca.own ∙ same.psn ∙ cb.own)

  -- NO TWO CLUSTERS HAVE EQUAL IMAGES
  pub images-apart : ImagesApart count psn
  images-apart =
      record {
        bits = λ i j hi hj differ a b ca cb e. no_same i j hi hj differ a b ca cb ((images-equal a b ca.accepted cb.accepted).0 e);
        bytes = λ i j hi hj differ a b ca cb e. no_same i j hi hj differ a b ca cb ((equal-images a b ca.accepted cb.accepted).0 e);
      }

  -- and every entry has clusters: that of zeros at its PSN
  pub entry-cluster : (i : ℕ) → i < count → (input : Input) × ClusterOf psn i input
  entry-cluster i h = (at, record { accepted = record { user = zeros-accepted.user; psn = right.alone i h; side = zeros-accepted.side; dc = zeros-accepted.dc }; own = refl })
    where
      at : Input
      at = record { user = zeros.user; psn = psn i; side = zeros.side; dc = zeros.dc; first = false }
