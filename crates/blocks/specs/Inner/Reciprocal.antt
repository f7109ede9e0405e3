-- A division by the entries of a block as a product.
use Rattle.std.specs.Prelude.{ℕ, cond, eqb}
use Rattle.blocks.specs.Layout.{height}

-- 4,194,304 divided by 17 and by 24, rounded up
abbrev pub entry_reciprocal : ℕ → ℕ
entry_reciprocal a = cond (eqb a height) 246724 174763
