use Prim.Native.Nat.{◌≤◌}
use mathlib.Core.Path.{sym, ◌∙◌}
use native.Mathlib.Omega.{arith}
use lib.ListN.{length}
use borrow.Author.Rules.{rules}
use Rattle.console.specs.Inner.Room.{output_room}
use Rattle.console.specs.Output.{output}
use Rattle.console.proofs.answer.respond.Goals as goal

pub put_request-requires : goal.put_request-requires
put_request-requires c =
    (sym c.well_formed-2.ensures ∙ c.if-well_formed.true, search rules)

pub returns-then-well_formed : goal.returns-then-well_formed
unfolding output
returns-then-well_formed c =
    let room : output_room ≤ length c.args.out.now = search rules in
    let end = c.put_request.ensures in
    record {
      text = rw (sym c.well_formed-2.ensures ∙ c.if-well_formed.true) end.text;
      end = omega (arith, room, end.end);
    }

pub returns : goal.returns
unfolding output
returns c =
    let room : output_room ≤ length c.args.out.now = search rules in
    let end = c.put_text.ensures in
    record {
      text = rw (sym c.well_formed-2.ensures ∙ c.if-well_formed.false) end;
      end = omega (arith, room, end.end);
    }
