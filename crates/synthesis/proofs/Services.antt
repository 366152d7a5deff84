-- What check and build return and leave, by the table's refusal and the room in the lent buffer.
use Prim.Native.Nat.{ℕ, ◌*◌, ◌/◌, ◌≤◌}
use native.Mathlib.Omega.{arith}
use mathlib.Core.Path.{◌≡◌, sym, ap, ◌∙◌}
use mathlib.Core.Bool.{true}
use mathlib.Core.List.{List, [], flat_map}
use lib.ListN.{length, get_or}
use Rattle.std.specs.Prelude.{Ok, Err}
use Rattle.files.specs.declared.refusal.Refusal.{Refusal}
use Rattle.files.specs.Refusals.{number_of}
use Rattle.files.specs.Room.{Writing, written, writing_of}
use Rattle.files.proofs.Refusals.{above_zero}
use Rattle.files.proofs.Writing.{refused-before}
use Rattle.diagram.specs.declared.Diagram.{Diagram}
use Rattle.diagram.specs.Questions.{Sized, in_range}
use Rattle.table.specs.Table.{table_refusal, diagram_in}
use Rattle.table.proofs.Accepted.{accepted}
use Rattle.netlist.specs.declared.Gate.{Gate}
use Rattle.netlist.specs.Netlist.{gate_line, gates_of, gate_bytes, net_with, file_of}
use Rattle.netlist.proofs.Files.{length-gate-bytes, gates-back}
use Rattle.netlist.proofs.Lists.{get_or-gates}
use Rattle.rules.specs.Board.{board_of, depths_of, depth_of, table_board}
use Rattle.rules.proofs.Bounds.{sized-narrow, gates-most}
use Rattle.rules.proofs.Depths.{depth-most}
use Rattle.rules.proofs.Makes.{any_gate}
use Rattle.rules.proofs.Pairs.{pairs-length}
use Rattle.rules.proofs.Wired.{gates-wired}
use Rattle.depths.specs.Inner.Depths.{SourcesBelow}
use Rattle.synthesis.specs.declared.service.Counts.{Counts}
use Rattle.synthesis.specs.declared.service.Lamp.{Lamp}
use Rattle.synthesis.specs.Service.{counts_of, checked, checked_of}
use Rattle.synthesis.specs.Inner.Boards.{board_with}

-- The diagram read from a table that is not refused.
pub record Unrefused (table : List ℕ) (d : Diagram) : Type 0 where
  pub yes : 0 ≡ table_refusal table
  pub is : d ≡ diagram_in table
  pub sized : Sized d
  pub ranged : in_range d ≡ true
  pub few : length (board_of d).gates ≤ 10560

pub unrefused : (table : List ℕ) {d : Diagram} → 0 ≡ table_refusal table → d ≡ diagram_in table → Unrefused table d
unrefused table {d} z e =
    let a = accepted table (sym z) in
    let s : Sized d = rw e a.sized in
    record {
      yes = z;
      is = e;
      sized = s;
      ranged = rw e a.reduced.ranged;
      few = gates-most d s.contacts.0 s.contacts.1 (sized-narrow d s);
    }

module _ (table : List ℕ) where
  pub check-refused : (r : Refusal) → number_of r ≡ table_refusal table → checked (Err r) ≡ checked_of table
  unfolding checked_of
  check-refused r e = let (k, n) = above_zero r in rw (← e, n)

  pub build-refused : (lamp : Lamp) (buffer : List ℕ) (r : Refusal) → number_of r ≡ table_refusal table →
      written (Err r) buffer ≡ writing_of (table_refusal table) (file_of (board_with lamp (diagram_in table))) buffer
  build-refused lamp buffer r e = refused-before (file_of (board_with lamp (diagram_in table))) buffer r e

-- Once the table has its yes, the answers are those of its diagram's board.
module _ {table : List ℕ} {d : Diagram} (u : Unrefused table d) where
  pub check-done : {c : Counts} → c ≡ counts_of (board_of d) → checked (Ok c) ≡ checked_of table
  unfolding checked_of
  check-done e =
      let board : board_of d ≡ table_board table = ap board_of u.is in
      rw (← u.yes, ← board, e)

  pub build-done : (lamp : Lamp) (buffer : List ℕ) {w : Writing} → w ≡ writing_of 0 (file_of (board_with lamp d)) buffer →
      w ≡ writing_of (table_refusal table) (file_of (board_with lamp (diagram_in table))) buffer
  build-done lamp buffer w = rw (← u.yes, ← u.is) w

-- The gates of the board of a diagram, from their bytes.
module _ (d : Diagram) (sized : Sized d) {gates : List ℕ} (e : gates ≡ flat_map gate_bytes (board_of d).gates) where
  gates-are : gates_of gates ≡ (board_of d).gates
  gates-are = ap gates_of e ∙ gates-back (board_of d).gates

  pub gates-many : length gates ≡ 5 * length (board_of d).gates
  gates-many = rw e (length-gate-bytes (board_of d).gates)

  pub sourced : SourcesBelow gates (gate_line d.contacts) (length gates / 5)
  sourced =
      record {
        at = λ g h.
            let many = gates-many in
            let at = sym (get_or-gates gates g any_gate h) ∙ ap (λ (gs : List Gate). get_or gs g any_gate) gates-are in
            let wired = gates-wired d sized.contacts.0 g (omega arith) in
            let left = ap (λ (x : Gate). x.left) at in
            let right = ap (λ (x : Gate). x.right) at in
            (omega arith, omega arith);
      }

  module _ {depth : ℕ} (deep : depth ≡ depth_of (net_with d.contacts (gates_of gates) [] [])) where
    depth-is : depth ≡ depth_of (board_of d)
    unfolding board_of depth_of depths_of
    depth-is = deep ∙ ap (λ (gs : List Gate). depth_of (net_with d.contacts gs [] [])) gates-are

    pub depth-low : depth ≤ 16
    depth-low = rw depth-is (depth-most d sized.contacts.0 sized.contacts.1 (sized-narrow d sized))

    pub measured : {made : ℕ} → made ≡ length (board_of d).gates →
        record { contacts = d.contacts; outputs = d.outputs; gates = made; depth = depth } ≡ counts_of (board_of d)
    unfolding board_of
    measured made i = record { contacts = d.contacts; outputs = sym (pairs-length d) i; gates = made i; depth = depth-is i }
