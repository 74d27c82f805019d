-- `parity_32_by` meets its contract: the register's 32 bytes are the parity. Assumes nothing.
use mathlib.Core.Path.{sym, ◌∙◌}
use native.Mathlib.Omega.{arith}
use lib.Seq.{length-take-le}
use Rattle.code_word.proofs.steps.parity_32_by.Goals as goal

pub slice_bounds-copy_from_slice-end-2 : goal.slice_bounds-copy_from_slice-end-2
slice_bounds-copy_from_slice-end-2 c = sym (length-take-le 32 c.divided-register.result (omega (arith, c.divided-register.ensures.0.size)))

pub copy_from_slice-requires : goal.copy_from_slice-requires
copy_from_slice-requires c = omega (arith, length-take-le 32 c.divided-register.result (omega (arith, c.divided-register.ensures.0.size)))

pub returns : goal.returns
returns c = c.copy_from_slice.ensures.after ∙ c.divided-register.ensures.1
