use native.Mathlib.Omega.{arith}
use Rattle.join.proofs.call.join3.Goals as goal

pub join_columns-requires : goal.join_columns-requires
join_columns-requires c = ((omega arith, omega arith), λ e. absurd (omega arith))
