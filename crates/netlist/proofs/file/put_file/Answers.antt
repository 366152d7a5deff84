-- `file::put_file` meets its contract: three fields and the lamp's, one after another.
use Rattle.netlist.proofs.Written.{file-written}
use Rattle.netlist.proofs.file.put_file.Goals as goal

pub returns : goal.returns
returns c =
    let args = c.args in
    file-written args.n args.gates.now args.pairs.now args.lamp.now args.file.now c.requires.lamp_in_bounds
    c.put_field.ensures c.put_field-2.ensures c.put_field-3.ensures c.put_lamp.ensures
