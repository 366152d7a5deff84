-- The bytes of an accepted table's netlist: what probe needs of them.
use Prim.Native.Nat.{ℕ, ◌+◌, ◌/◌, ◌≤◌}
use native.Mathlib.Omega.{arith}
use mathlib.Core.Path.{◌≡◌, refl, sym, ap, ◌∙◌}
use mathlib.Core.Bool.{true}
use mathlib.Core.List.{List, [], flat_map}
use lib.ListN.{length}
use Rattle.fields.specs.Fields.{Fields, fields_of, value_in}
use Rattle.files.specs.Header.{contacts_of}
use Rattle.diagram.specs.declared.Diagram.{Diagram}
use Rattle.diagram.specs.Questions.{Sized}
use Rattle.diagram.proofs.Unique.{Reduced}
use Rattle.table.proofs.Accepted.{accepted}
use Rattle.netlist.specs.Netlist.{Netlist, gate_line, line_count, gate_bytes, pair_bytes, net_with, file_with, file_of, net_of}
use Rattle.netlist.specs.declared.Pair.{Pair}
use Rattle.netlist.proofs.Written.{file-of}
use Rattle.netlist.proofs.Files.{file-fields, file-length, length-gate-bytes, length-pair-bytes, gates-back, pairs-back}
use Rattle.wiring.proofs.Opened.{Opened, gates-wired, outputs-wired}
use Rattle.drive.specs.declared.Holds.TheVariants.{Ordered}
use Rattle.drive.specs.Questions.{are_holds}
use Rattle.rules.specs.Board.{board_of, table_board}
use Rattle.table.specs.Promises.{Accepted}
use Rattle.table.specs.Table.{diagram_in}
use Rattle.rules.proofs.Pairs.{pairs-length}
use Rattle.rules.proofs.Promises.{within-formulas, built-files-pass}
use Rattle.stuck.specs.Inner.Findings.{ProbeReady, AcceptedDiagram}
use Rattle.stuck.specs.Service.{one_hold}
use Rattle.stuck.proofs.OneHold.{one-held}

-- The bytes of a netlist.
module _ (net : Netlist) where
  abbrev pub gates_on : List ℕ
  gates_on = flat_map gate_bytes net.gates

  abbrev pub pairs_on : List ℕ
  pairs_on = flat_map pair_bytes net.pairs

  pub net-is : net.lamp ≡ [] → net_of net.contacts gates_on pairs_on ≡ net
  net-is none =
      let gates = gates-back net.gates in
      let pairs = pairs-back net.pairs in
      λ i. net_with net.contacts (gates i) (pairs i) (sym none i)

  pub file-is : net.lamp ≡ [] → file_with net.contacts gates_on pairs_on [] ≡ file_of net
  unfolding flat_map
  file-is none = ap (λ (ps : List Pair). file_with net.contacts gates_on pairs_on (flat_map pair_bytes ps)) (sym none) ∙ file-of net

-- A board has no lamp.
pub lampless : (d : Diagram) → (board_of d).lamp ≡ []
unfolding board_of
lampless d = refl

-- The bytes of an accepted table's netlist.
module _ (table : List ℕ) (yes! : Accepted table) where
  abbrev gates : List ℕ
  gates = gates_on (table_board table)

  abbrev pairs : List ℕ
  pairs = pairs_on (table_board table)

  opened : Opened (file_of (table_board table)) (table_board table).contacts gates pairs (value_in (fields_of (file_of (table_board table))).items 3)
  opened =
      let fields = sym (file-fields (table_board table)) in
      record {
        accepted = (built-files-pass table yes!).1;
        contacts = ap (λ (fs : Fields). contacts_of fs.items) fields;
        gates-are = ap (λ (fs : Fields). value_in fs.items 1) fields;
        outputs-are = ap (λ (fs : Fields). value_in fs.items 2) fields;
        lamp-is = refl;
      }

  findable-in : (hold : List ℕ) (room : ℕ) → one_hold (gate_line (table_board table).contacts) (line_count (table_board table)) hold ≡ Ordered →
      length (file_of (table_board table)) + line_count (table_board table) ≤ room →
      ProbeReady (table_board table).contacts gates pairs hold room
  unfolding board_of
  findable-in hold room o fits =
      let net = table_board table in
      let s = (accepted table yes!.1).sized in
      let one = one-held (gate_line net.contacts) (line_count net) hold o in
      let gate-count = length-gate-bytes net.gates in
      let pair-count = length-pair-bytes net.pairs in
      let outputs = pairs-length (diagram_in table) in
      let size = file-length net in
      let few = (within-formulas table yes!).1 in
      let count : length gates / 5 ≡ length net.gates = omega arith in
      let held : are_holds (gate_line net.contacts) (gate_line net.contacts + length gates / 5) hold ≡ true = rw count one.1 in
      record {
        writable = record {
          lines = record {
            few = s.contacts.1;
            many = omega arith;
            wired = gates-wired opened;
            one = one.0;
            held = held;
            fits = omega arith;
          };
          bytes = (omega arith, omega (arith, s.outputs));
          fits = omega arith;
        };
        searchable = record { few = s.contacts.1; fits = omega arith; wired = gates-wired opened; paired = outputs-wired opened };
      }

-- The diagram of an accepted table: its limits, what it passes, and that its board is searched and written once no question refuses.
module _ {d : Diagram} (a : AcceptedDiagram d) where
  pub sized : Sized d
  sized = rw a.is (accepted a.table a.accepted.1).sized

  pub reduced : Reduced d
  reduced = rw a.is (accepted a.table a.accepted.1).reduced

  pub findable : (hold : List ℕ) (room : ℕ) → one_hold (gate_line (board_of d).contacts) (line_count (board_of d)) hold ≡ Ordered →
      length (file_of (board_of d)) + line_count (board_of d) ≤ room →
      ProbeReady (board_of d).contacts (gates_on (board_of d)) (pairs_on (board_of d)) hold room
  findable hold room o fits = rw a.is (findable-in a.table a.accepted hold room (rw a.is at o) (rw a.is at fits))
