use mathlib.Core.Path.{sym, ◌∙◌}
use native.Mathlib.Omega.{arith}
use Rattle.list.proofs.Full.{put-room, first_ready, put-none, put_full}
use Rattle.list.proofs.insert_place.Goals as goal

pub put_place-requires : goal.put_place-requires
put_place-requires c =
    let l = c.requires.long in
    record {
      some = omega arith;
      few = omega arith;
      long = (omega arith, (omega arith, omega arith));
      sorted = c.requires.sorted;
    }

pub returns-then-used-k : goal.returns-then-used-k
returns-then-used-k c =
    put-room c.requires c.args.x c.if-used-k.true c.put_place.ensures

pub returns-then-ranks_before : goal.returns-then-ranks_before
returns-then-ranks_before c =
    let ahead = sym c.ranks_before.ensures ∙ c.if-ranks_before.true in
    put-none c.requires c.args.x c.if-used-k.false c.place_at-last.result c.place_at-last.ensures ahead

pub put_place-requires-2 : goal.put_place-requires-2
put_place-requires-2 c =
    first_ready c.requires c.if-used-k.false

pub returns : goal.returns
returns c =
    let behind = sym c.ranks_before.ensures ∙ c.if-ranks_before.false in
    put_full c.requires c.args.x c.if-used-k.false c.place_at-last.result c.place_at-last.ensures behind
    c.put_place-2.ensures
