use mathlib.Core.Path.{refl}
use native.Mathlib.Omega.{arith}
use Rattle.codec.proofs.Written.{part_over}
use Rattle.console.proofs.text.put_text.Goals as goal

pub returns : goal.returns
returns c =
    let a = c.args in
    record {
      content = part_over a.out.now a.at _ c.copy_from_slice.ensures.after (omega arith) (omega arith);
      end = refl;
    }
