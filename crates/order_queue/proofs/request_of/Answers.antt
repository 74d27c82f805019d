-- `request_of` meets its contract, case by case (Records).
use Rattle.order_queue.proofs.Records.{is-submit, no-submit, is-serve, no-serve, no_kind}
use Rattle.order_queue.proofs.request_of.Goals as goal

pub returns-then-bytes-eq6 : goal.returns-then-bytes-eq6
returns-then-bytes-eq6 c = is-submit _ c.kind_of-kind.ensures c.if-kind-eq1.true c.if-bytes-eq6.true c.word_at.ensures

pub returns-then-kind-eq1 : goal.returns-then-kind-eq1
returns-then-kind-eq1 c = no-submit _ c.kind_of-kind.ensures c.if-kind-eq1.true c.if-bytes-eq6.false

pub returns-then-bytes-eq1 : goal.returns-then-bytes-eq1
returns-then-bytes-eq1 c = is-serve _ c.kind_of-kind.ensures c.if-kind-eq2.true c.if-bytes-eq1.true

pub returns-else-bytes-eq1 : goal.returns-else-bytes-eq1
returns-else-bytes-eq1 c = no-serve _ c.kind_of-kind.ensures c.if-kind-eq2.true c.if-bytes-eq1.false

pub returns-else-kind-eq2 : goal.returns-else-kind-eq2
returns-else-kind-eq2 c = no_kind _ c.kind_of-kind.ensures c.if-kind-eq1.false c.if-kind-eq2.false
