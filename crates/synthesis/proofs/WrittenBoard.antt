-- The board of a diagram as it is written: the gates of the whole block, and the pairs that its matrix gives.
use Prim.Native.Nat.{◌+◌, ◌*◌, ◌≤◌}
use native.Mathlib.Nat.{add-zero, zero-add}
use native.Mathlib.Omega.{arith}
use mathlib.Core.Path.{◌≡◌, ap}
use mathlib.Core.Bool.{true}
use lib.ListN.{length}
use Rattle.diagram.specs.declared.Diagram.{Diagram}
use Rattle.diagram.specs.Diagram.{width, root}
use Rattle.diagram.specs.Questions.{Sized, in_range}
use Rattle.diagram.proofs.Paths.{width-last, root_in}
use Rattle.netlist.specs.Netlist.{gate_line}
use Rattle.fields.specs.Bounded.{listed}
use Rattle.rules.specs.Blocks.{Matrix, entry_at, cut, block}
use Rattle.rules.specs.Board.{line_of, whole_block, pair_of, board_of}
use Rattle.gates.specs.declared.gate.Gates.{Gates}
use Rattle.gates.specs.Inner.Written.{free_line, Written, RoomFor}
use Rattle.products.specs.Inner.Cells.{Stored}
use Rattle.files.proofs.Buffers.{taken_back}
use Rattle.netlist.proofs.Files.{length-gate-bytes}
use Rattle.rules.proofs.Bounds.{sized-narrow, gates-most}
use Rattle.gates.proofs.Writing.{written-length}
use Rattle.synthesis.specs.Inner.Writers.{Makes}
use Rattle.fields.proofs.Listed.{listed_same}

-- From a writer that has made no gate.
module _ (d : Diagram) (g : Gates) (first : g.first ≡ gate_line d.contacts) (none : g.made ≡ 0) where
  at-first : free_line g ≡ gate_line d.contacts
  at-first = rw (first, none) (add-zero (gate_line d.contacts))

  pub board-room : Sized d → 5 * length (board_of d).gates ≤ length g.out.now → RoomFor (block d (cut d.contacts) 0) g
  unfolding board_of whole_block
  board-room sized room =
      let some = sized.contacts in
      let few = gates-most d some.0 some.1 (sized-narrow d sized) in
      rw at-first (record { lines = omega arith; bytes = omega arith })

  pub board-gates : Sized d → 5 * length (board_of d).gates ≤ length g.out.now → {h : Gates} {m : Matrix} →
      Written (block d (cut d.contacts) 0) g h m → Makes (board_of d).gates g h
  unfolding board_of whole_block
  board-gates sized room {h} w =
      let gates = (board_of d).gates in
      let count = rw (at-first, none, zero-add) at w.count in
      let out = rw (at-first, none) at w.bytes in
      let kept = written-length w in
      let long = length-gate-bytes (block d (cut d.contacts) 0 (gate_line d.contacts)).0 in
      record {
        same_buffer = w.same_buffer;
        same_first = w.same_first;
        same_length = kept;
        out = out;
        made =
            record {
              count = count;
              fits = omega arith;
              bytes = rw out (taken_back _ g.out.now (omega arith) (5 * h.made) (omega arith));
            };
      }

  pub board-pairs : in_range d ≡ true → (cells : Matrix) →
      Stored cells (entry_at (block d (cut d.contacts) 0 (free_line g)).1) (width d 0) (width d (0 + d.contacts)) →
      listed (pair_of d cells) d.outputs 0 ≡ (board_of d).pairs
  unfolding board_of whole_block
  board-pairs sound cells s =
      let stored = rw (at-first, zero-add d.contacts, width-last d) at s in
      listed_same _ _ d.outputs 0 (λ j h.
      let node = root_in d sound j (omega arith) in
      let on = ap line_of (stored.at (root d j) 1 node (omega arith)) in
      let off = ap line_of (stored.at (root d j) 0 node (omega arith)) in
      λ i. record { on = on i; off = off i })
