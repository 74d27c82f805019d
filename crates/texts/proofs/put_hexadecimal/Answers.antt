-- `put_hexadecimal` meets its contract: the digits that were given (Numbers).
use Rattle.texts.proofs.Numbers.{put-hexadecimal}
use borrow.Author.Rules.{rules}
use Rattle.texts.proofs.put_hexadecimal.Goals as goal

pub returns : goal.returns
returns c = search (put-hexadecimal, rules)
