-- `service::show_at` meets its contract: the lines are worked out from the rails of the input and the one hold.
use native.Mathlib.Omega.{arith}
use Prim.Native.Nat.{◌*◌}
use mathlib.Core.Path.{◌≡◌, ap, ◌∙◌}
use lib.ListN.{length}
use Rattle.diagram.specs.Diagram.{input_of}
use Rattle.netlist.specs.Netlist.{hold_at}
use Rattle.rules.specs.Code.{code_rails}
use Rattle.rules.proofs.Codes.{code-length}
use Rattle.probe.proofs.Findings.{ready_at, shown-at, lines_same}
use Rattle.probe.proofs.service.show_at.Goals.{After-as_flattened-rails}
use Rattle.probe.proofs.service.show_at.Goals as goal

-- The contacts' rails in line order, two a contact.
rails-are : (c : After-as_flattened-rails) → c.as_flattened-rails.result.now ≡ code_rails c.args.board.contacts (input_of c.args.input)
rails-are c = c.as_flattened-rails.ensures.value ∙ c.code_rails-rails.ensures c.args.board.contacts c.requires.few

pub work_out-requires : goal.work_out-requires
work_out-requires c =
    let are = rails-are (goal.at.work_out-requires c).After-as_flattened-rails in
    let count : length c.as_flattened-rails.result.now ≡ 2 * c.args.board.contacts =
    ap length are ∙ code-length (input_of c.args.input) c.args.board.contacts in record {
      ready = ready_at c.args.board.contacts _ _ c.args.input c.requires are;
      le_from = (omega arith, omega arith, omega (arith, count));
    }

pub returns : goal.returns
returns c =
    let b = c.args.board in
    let are = rails-are (goal.at.returns c).After-as_flattened-rails in
    rw (← lines_same b.contacts b.gates.now b.pairs.now (hold_at c.args.hold.now 0) c.args.input)
    (c.work_out.ensures
    ∙ shown-at b.contacts b.gates.now c.args.hold.now c.args.input c.requires are c.line_count.ensures c.args.lines.now)
