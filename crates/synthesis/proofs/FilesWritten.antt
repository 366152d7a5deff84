-- The file of a board, with its lamp or without, from the bytes of its parts.
use Prim.Native.Nat.{ℕ, ◌+◌, ◌*◌, ◌≤◌}
use native.Mathlib.Omega.{arith}
use mathlib.Core.Path.{◌≡◌, refl, ◌∙◌}
use mathlib.Core.List.{List, [], ◌∷◌, flat_map}
use lib.ListN.{length, take}
use lib.Seq.{sets}
use Rattle.diagram.specs.declared.Diagram.{Diagram}
use Rattle.diagram.specs.Questions.{Sized}
use Rattle.files.proofs.Buffers.{taken_back}
use Rattle.netlist.specs.Netlist.{Netlist, gate_bytes, pair_bytes, file_with, file_of}
use Rattle.netlist.proofs.Files.{length-pair-bytes}
use Rattle.netlist.proofs.Written.{file-of}
use Rattle.rules.specs.Board.{board_of}
use Rattle.rules.specs.Lamp.{lamp_of, with_lamp}
use Rattle.rules.proofs.LampCounts.{lamp-gates}
use Rattle.rules.proofs.Pairs.{pairs-length}
use Rattle.synthesis.specs.declared.service.Lamp.{Lamp}
use Rattle.synthesis.specs.declared.service.Lamp.TheVariants.{With, Without}
use Rattle.synthesis.specs.Inner.Boards.{board_with}

-- With its lamp a board has more gates, so a buffer that holds all of them holds its own.
pub plain-fits : (lamp : Lamp) (d : Diagram) {room : ℕ} → Sized d → 5 * length (board_with lamp d).gates ≤ room →
    5 * length (board_of d).gates ≤ room
plain-fits With d sized h =
    let m = pairs-length d in
    omega (arith, lamp-gates (board_of d) (omega (arith, sized.outputs)))
plain-fits Without d sized h = h

-- A lamp has at most 42 gates.
pub with-few : (lamp : Lamp) (d : Diagram) → Sized d → length (board_with lamp d).gates ≤ length (board_of d).gates + 42
with-few With d sized =
    let m = pairs-length d in
    omega (arith, lamp-gates (board_of d) (omega (arith, sized.outputs)), sized.outputs)
with-few Without d sized = omega arith

-- The pairs' bytes, taken from the buffer that they are written to.
pub pairs-taken : (d : Diagram) → Sized d → (room : List ℕ) {pairs : List ℕ} → 32 ≤ length room →
    pairs ≡ sets room 0 (flat_map pair_bytes (board_of d).pairs) → take (4 * d.outputs) pairs ≡ flat_map pair_bytes (board_of d).pairs
pairs-taken d sized room wide e =
    let l = length-pair-bytes (board_of d).pairs in
    let outputs = pairs-length d in
    let few = sized.outputs in
    rw e (taken_back _ room (omega arith) (4 * d.outputs) (omega arith))

-- The file of a netlist's bytes.
file-parts : (net : Netlist) {n : ℕ} {gates pairs lamp : List ℕ} → n ≡ net.contacts → gates ≡ flat_map gate_bytes net.gates →
    pairs ≡ flat_map pair_bytes net.pairs → lamp ≡ flat_map pair_bytes net.lamp → file_with n gates pairs lamp ≡ file_of net
file-parts net c g p l = (λ i. file_with (c i) (g i) (p i) (l i)) ∙ file-of net

module _ (d : Diagram) {gates pairs : List ℕ} (p : pairs ≡ flat_map pair_bytes (board_of d).pairs) where
  pub plain-file : gates ≡ flat_map gate_bytes (board_of d).gates → file_with d.contacts gates pairs [] ≡ file_of (board_of d)
  unfolding board_of flat_map
  plain-file g = file-parts (board_of d) refl g p refl

  pub lamp-file : {pair : List ℕ} → gates ≡ flat_map gate_bytes (with_lamp (board_of d)).gates →
      pair ≡ sets (0 ∷ 0 ∷ 0 ∷ 0 ∷ []) 0 (pair_bytes (lamp_of (board_of d)).1) →
      file_with d.contacts gates pairs pair ≡ file_of (with_lamp (board_of d))
  unfolding board_of with_lamp flat_map
  lamp-file g e = file-parts (with_lamp (board_of d)) refl g p e
