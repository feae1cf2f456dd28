use Rattle.std.proofs.Common.{ℕ, arith, length-set}
use Rattle.wire.proofs.Parts.{parts_length}
use Rattle.wire.proofs.framing.Layout.put.Goals as goal

pub put_all-at-requires : goal.put_all-at-requires
put_all-at-requires c = omega (arith, length-set {A = ℕ}, parts_length c.args.self.now.head c.args.self.now.«data».now c.args.self.now.tail)

pub put_all-at-requires-2 : goal.put_all-at-requires-2
put_all-at-requires-2 c = omega (arith, length-set {A = ℕ}, parts_length c.args.self.now.head c.args.self.now.«data».now c.args.self.now.tail, c.put_all-at.auto.memory)

pub put_all-requires : goal.put_all-requires
put_all-requires c =
    omega (arith, length-set {A = ℕ}, parts_length c.args.self.now.head c.args.self.now.«data».now c.args.self.now.tail, c.put_all-at.auto.memory, c.put_all-at-2.auto.memory)
