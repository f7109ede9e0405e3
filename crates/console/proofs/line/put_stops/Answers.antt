use native.Mathlib.Omega.{arith}
use Rattle.console.proofs.LineLaws.{turn_inside}
use Rattle.console.proofs.TextLaws.{part_none, part_more}
use Rattle.console.proofs.line.put_stops.Goals as goal

pub loop-i-init : goal.loop-i-init
loop-i-init c = (omega arith, part_none _ _ _)

pub put_stop-next-requires : goal.put_stop-next-requires
put_stop-next-requires c =
    let a = c.args in
    let inside = turn_inside a.n a.k a.used c.loop-i.i (omega arith) c.requires.n_in_bounds.2 in
    let lists = c.requires.k_in_bounds in
    record {
      used_in_bounds = omega arith;
      used_in_bounds_2 = (
        omega (arith, inside, lists.0),
        omega (arith, inside, lists.1),
        omega (arith, inside, lists.2),
      );
    }

pub loop-i-preserved : goal.loop-i-preserved
loop-i-preserved c =
    (omega arith, part_more _ c.loop-i.i c.loop-i.invariant.1 c.put_stop-next.ensures.text)
