-- `add_part` meets its contract: where there is room, and where there is none (Names).
use native.Mathlib.Omega.{arith}
use Rattle.names.proofs.Names.{no_room, with-part}
use Rattle.names.proofs.add_part.Goals as goal

pub returns-in_err-size-clause-name_after : goal.returns-in_err-size-clause-name_after
returns-in_err-size-clause-name_after c = no_room _ _ (omega (arith, c.in_err-size.ensures))

pub returns-then-name-size-clause-name_after : goal.returns-then-name-size-clause-name_after
returns-then-name-size-clause-name_after c = no_room _ _ (omega (arith, c.in_ok-size.ensures))

pub returns-clause-name_after : goal.returns-clause-name_after
returns-clause-name_after c = with-part _ _ _ _ c.in_ok-size.ensures.1 c.if-name-size.false c.copy_from_slice.ensures.after
