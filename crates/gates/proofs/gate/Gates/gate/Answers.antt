-- `Gates::gate` meets its contract: a store and two numbers are a run of five.
use Prim.Native.Nat.{◌*◌, ◌/◌, ◌%◌}
use mathlib.Core.Path.{refl}
use mathlib.Core.List.{flat_map}
use Rattle.gates.proofs.Writing.{sets-five}
use Rattle.gates.proofs.gate.Gates.gate.Goals as goal

pub returns : goal.returns
unfolding flat_map
returns c =
    let args = c.args in
    let g = args.self.now in
    record {
      same_buffer = refl;
      same_first = refl;
      bytes =
          rw (c.put_number-2.ensures, c.put_number.ensures)
          (sets-five g.out.now (5 * g.made) args.kind (args.left / 256) (args.left % 256) (args.right / 256) (args.right % 256));
      count = refl;
      result = refl;
    }
