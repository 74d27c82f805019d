-- `times` is safe: a product of halves has 64 bits (Product). Assumes nothing.
use Rattle.std.proofs.Common.{◌/◌, ◌%◌, ◌^◌, arith}
use Rattle.test_bytes.proofs.Product.{product_lt}
use Rattle.test_bytes.proofs.hash.times.Goals as goal

pub overflow_mul-a : goal.overflow_mul-a
overflow_mul-a c = record { fits = product_lt (c.args.a / 2 ^ 32) (c.args.b % 2 ^ 32) (omega arith) (omega arith) }

pub overflow_mul-a-2 : goal.overflow_mul-a-2
overflow_mul-a-2 c = record { fits = product_lt (c.args.a % 2 ^ 32) (c.args.b / 2 ^ 32) (omega arith) (omega arith) }

pub overflow_mul-a-3 : goal.overflow_mul-a-3
overflow_mul-a-3 c = record { fits = product_lt (c.args.a % 2 ^ 32) (c.args.b % 2 ^ 32) (omega arith) (omega arith) }
