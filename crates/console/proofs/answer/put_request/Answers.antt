use Rattle.console.specs.Output.{end_of}
use Rattle.console.specs.Request.{xs_of, ys_of, file_of, k_of}
use Rattle.console.proofs.RequestLaws.{length-coordinates, stored_all, rest_all}
use Rattle.console.proofs.answer.put_request.Goals as goal

pub returns : goal.returns
unfolding end_of xs_of ys_of file_of k_of
returns c =
    let input = c.args.input.now in
    let n = c.stop_count-n.result in
    let end = c.put_join.ensures in
    let text = rw (
      stored_all input 8 n _ _ c.read_coordinates.ensures,
      stored_all input 12 n _ _ c.read_coordinates-2.ensures,
      length-coordinates input 8 n,
      rest_all input c.head_length-start.result,
      c.head_length-start.ensures,
      c.u32_at-k.ensures,
      c.stop_count-n.ensures,
    ) at end.text in
    record { text = text; end = end.end }
