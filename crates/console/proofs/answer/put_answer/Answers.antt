use native.Mathlib.Omega.{arith}
use Rattle.console.specs.Output.{answer_text}
use Rattle.console.proofs.TextLaws.{then}
use Rattle.console.proofs.answer.put_answer.Goals as goal

pub put_stops-requires : goal.put_stops-requires
put_stops-requires c =
    let fit = rw c.in-Ok.is at c.requires.printable in
    let long = fit.long in
    record {
      n_in_bounds = (omega (arith, fit.stops), fit.few, fit.some);
      k_in_bounds = (long.0, long.1.0, long.1.1);
    }

pub returns-in-Ok : goal.returns-in-Ok
unfolding answer_text
returns-in-Ok c =
    let fit = rw c.in-Ok.is at c.requires.printable in
    let counts = c.put_counts-next.ensures in
    let stops = c.put_stops.ensures in
    rw c.in-Ok.is
    record { text = then counts.text stops.text; end = omega (arith, counts.end, stops.end, fit.stops) }

pub returns-in-Err : goal.returns-in-Err
unfolding answer_text
returns-in-Err c =
    let end = c.put_refused.ensures in
    rw (c.in-Err.is, ← c.number.ensures) record { text = end.text; end = omega (arith, end.end) }
