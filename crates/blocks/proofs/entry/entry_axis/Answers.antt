use native.Mathlib.Omega.{arith}
use Rattle.codec.proofs.Number.{local_i32}
use Rattle.blocks.proofs.DirectoryLaws.{entry_room}
use Rattle.blocks.proofs.entry.entry_axis.Goals as goal

pub overflow_mul-axis : goal.overflow_mul-axis
overflow_mul-axis c =
    omega (
      arith,
      entry_room c.args.axes c.args.i c.requires.0 c.requires.1,
      c.entry_offset-at.ensures.1,
      c.requires.2,
    )

pub overflow_add-at : goal.overflow_add-at
overflow_add-at c =
    omega (
      arith,
      entry_room c.args.axes c.args.i c.requires.0 c.requires.1,
      c.entry_offset-at.ensures.1,
      c.requires.2,
    )

pub i32_at-low-requires : goal.i32_at-low-requires
i32_at-low-requires c =
    omega (
      arith,
      entry_room c.args.axes c.args.i c.requires.0 c.requires.1,
      c.entry_offset-at.ensures.1,
      c.requires.2,
    )

pub overflow_add-axes : goal.overflow_add-axes
overflow_add-axes c =
    omega (
      arith,
      entry_room c.args.axes c.args.i c.requires.0 c.requires.1,
      c.entry_offset-at.ensures.1,
      c.requires.2,
    )

pub overflow_mul-axes : goal.overflow_mul-axes
overflow_mul-axes c =
    omega (
      arith,
      entry_room c.args.axes c.args.i c.requires.0 c.requires.1,
      c.entry_offset-at.ensures.1,
      c.requires.2,
    )

pub overflow_add-at-2 : goal.overflow_add-at-2
overflow_add-at-2 c =
    omega (
      arith,
      entry_room c.args.axes c.args.i c.requires.0 c.requires.1,
      c.entry_offset-at.ensures.1,
      c.requires.2,
    )

pub i32_at-high-requires : goal.i32_at-high-requires
i32_at-high-requires c =
    omega (
      arith,
      entry_room c.args.axes c.args.i c.requires.0 c.requires.1,
      c.entry_offset-at.ensures.1,
      c.requires.2,
    )

pub returns : goal.returns
returns c =
    let low = c.i32_at-low in
    let high = c.i32_at-high in
    simp (local_i32 low.result low.type_inv, local_i32 high.result high.type_inv)
    (simp (low.ensures, high.ensures, c.entry_offset-at.ensures.0))
