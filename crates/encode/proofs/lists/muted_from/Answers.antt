use native.Mathlib.Omega.{arith}
use borrow.Author.Rules.{rules}
use Rattle.base.specs.HowMany.{how_many}
use Rattle.base.proofs.HowMany.{bit_byte}
use Rattle.encode.specs.Supply.{muted_from}
use Rattle.encode.proofs.lists.muted_from.Goals as goal

pub loop-slot-init : goal.loop-slot-init
unfolding muted_from how_many
loop-slot-init c = search rules

pub loop-slot-preserved : goal.loop-slot-preserved
unfolding muted_from how_many
loop-slot-preserved c = grind (arith, bit_byte)
