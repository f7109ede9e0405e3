use Prim.Native.Nat.{◌+◌}
use mathlib.Core.Path.{ap}
use lib.ListN.{take, drop}
use Rattle.blocks.specs.Layout.{block_size, check_at}
use Rattle.blocks.specs.declared.checksum.Sums.{Sums}
use Rattle.encode.proofs.EncodeLaws.{sums_part, check_row}
use Rattle.encode.proofs.head.put_checksum.Goals as goal

pub returns : goal.returns
returns c =
    let a = c.args in
    let e = sums_part a.d.now a.at c.sums_of-s.result c.sums_of-s.ensures in
    check_row a.d.now (a.at + check_at) (take block_size (drop a.at a.d.now))
    (ap (λ (q : Sums). q.a) e) (ap (λ (q : Sums). q.c) e)
    c.put_u8.ensures c.put_u8-2.ensures
