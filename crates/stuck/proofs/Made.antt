-- The board of a diagram, made in buffers with room for it.
use Prim.Native.Nat.{ℕ, ◌+◌, ◌*◌, ◌≤◌}
use native.Mathlib.Omega.{arith}
use mathlib.Core.Path.{◌≡◌}
use mathlib.Core.List.{List, flat_map}
use lib.ListN.{length, take}
use lib.Seq.{sets}
use Rattle.diagram.specs.declared.Diagram.{Diagram}
use Rattle.diagram.specs.Questions.{Sized}
use Rattle.files.proofs.Buffers.{taken_back}
use Rattle.netlist.specs.Netlist.{gate_bytes, pair_bytes, file_of}
use Rattle.netlist.proofs.Files.{file-length, length-gate-bytes, length-pair-bytes}
use Rattle.rules.specs.Board.{board_of}
use Rattle.rules.proofs.Bounds.{sized-narrow, gates-most}
use Rattle.rules.proofs.Pairs.{pairs-length}

module _ (d : Diagram) (sized : Sized d) {made : ℕ} (count : made ≡ length (board_of d).gates) where
  pub gates-few : made ≤ 10560
  gates-few = rw count (gates-most d sized.contacts.0 sized.contacts.1 (sized-narrow d sized))

  pub taken-gates : (room : List ℕ) {gates : List ℕ} → 5 * length (board_of d).gates ≤ length room →
      gates ≡ sets room 0 (flat_map gate_bytes (board_of d).gates) → take (5 * made) gates ≡ flat_map gate_bytes (board_of d).gates
  taken-gates room wide e =
      let l = length-gate-bytes (board_of d).gates in
      rw e (taken_back _ room (omega arith) (5 * made) (omega arith))

  pub taken-pairs : (room : List ℕ) {pairs : List ℕ} → 32 ≤ length room →
      pairs ≡ sets room 0 (flat_map pair_bytes (board_of d).pairs) → take (4 * d.outputs) pairs ≡ flat_map pair_bytes (board_of d).pairs
  taken-pairs room wide e =
      let l = length-pair-bytes (board_of d).pairs in
      let outputs = pairs-length d in
      let few = sized.outputs in
      rw e (taken_back _ room (omega arith) (4 * d.outputs) (omega arith))

  -- The file's length.
  pub length-is : 10 + 5 * made + 4 * d.outputs ≡ length (file_of (board_of d))
  unfolding board_of
  length-is =
      let l = file-length (board_of d) in
      let p = pairs-length d in
      omega arith
