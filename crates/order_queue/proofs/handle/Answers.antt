-- `handle` meets its contract: by what the record asks for (Requests).
use native.Mathlib.Omega.{arith}
use borrow.Author.Rules.{rules}
use Rattle.std.proofs.lemmas.Grind.{common_steps}
use Rattle.order_queue.proofs.Requests.{handled-as}
use Rattle.order_queue.proofs.handle.Goals as goal

pub returns-in-Submit : goal.returns-in-Submit
returns-in-Submit c = search (rules, handled-as)

pub returns-in-Serve : goal.returns-in-Serve
returns-in-Serve c = search (rules, handled-as)

pub returns-in-Unknown : goal.returns-in-Unknown
returns-in-Unknown c = search (rules, handled-as)
