-- The image reader (document 01, 'Shape that the source gives'): what a step gives, and where the reader then stands.
use Rattle.std.specs.Prelude.{List, ℕ, zero, suc}
use Rattle.bits.specs.Bits.{bits_of}
use Rattle.bits.specs.Step.{step_at}
use Rattle.bits.specs.declared.Step.{Step}
use Rattle.bit_reader.specs.declared.ImageReader.{ImageReader}

-- the bits of the reader's image
abbrev pub reader_bits : ImageReader → List ℕ
reader_bits r = bits_of r.image.now

-- the step from the reader's position
abbrev pub step_of : ImageReader → Step
step_of r = step_at (reader_bits r) r.position

-- the same image, at the position p
abbrev pub placed : ImageReader → ℕ → ImageReader
placed r p = record { image = r.image; position = p }

-- the reader behind a step
abbrev pub stepped : ImageReader → ImageReader
stepped r = placed r (step_of r).next

-- the reader behind k steps
unfoldable pub after : ℕ → ImageReader → ImageReader
after zero r = r
after (suc k) r = stepped (after k r)
