-- `put_decimal` meets its contract: the digits that were given (Numbers).
use Rattle.texts.proofs.Numbers.{put-decimal}
use borrow.Author.Rules.{rules}
use Rattle.texts.proofs.put_decimal.Goals as goal

pub returns : goal.returns
returns c = search (put-decimal, rules)
