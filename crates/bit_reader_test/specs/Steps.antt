-- Three steps of one image reader: the numbers that they give, and where it then stands.
use Rattle.std.specs.Prelude.{List, ℕ}
use Rattle.std.specs.Borrow.{Bor}
use Rattle.bit_reader.specs.declared.ImageReader.{ImageReader}
use Rattle.bit_reader.specs.Reader.{step_of, after}
use Rattle.bit_reader_test.specs.declared.Three.{Three}

-- the reader at the first bit of an image
abbrev pub at_start : Bor (List ℕ) → ImageReader
at_start image = record { image = image; position = 0 }

abbrev pub three_steps : ImageReader → Three
three_steps r =
    record {
      first = (step_of r).value;
      second = (step_of (after 1 r)).value;
      third = (step_of (after 2 r)).value;
      position = (after 3 r).position;
    }
