-- `put_shown` meets its contract: by whether the byte is a star (Pieces).
use Rattle.texts.proofs.Pieces.{shown-number, shown-byte}
use Rattle.texts.proofs.put_shown.Goals as goal

pub returns-then-byte-eq42 : goal.returns-then-byte-eq42
returns-then-byte-eq42 c = search (shown-number)

pub returns-else-byte-eq42 : goal.returns-else-byte-eq42
returns-else-byte-eq42 c = search (shown-byte)
