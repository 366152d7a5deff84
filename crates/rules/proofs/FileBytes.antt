-- The file of a sound netlist is made of bytes.
use native.Mathlib.Omega.{arith}
use Prim.Native.Nat.{ℕ, ◌<◌}
use mathlib.Core.List.{List, [], ◌∷◌, flat_map}
use lib.ListN.{length, get_or}
use Rattle.fields.specs.Fields.{Bytes, encoded}
use Rattle.fields.proofs.Small.{Small, none, first, bytes, two, each, field-small}
use Rattle.netlist.specs.declared.Gate.{Gate}
use Rattle.netlist.specs.declared.Pair.{Pair}
use Rattle.netlist.specs.Netlist.{Netlist, line_count, gate_bytes, pair_bytes, lamp_field, file_with, file_of}
use Rattle.netlist.proofs.Files.{length-gate-bytes, length-pair-bytes}
use Rattle.netlist.proofs.Sound.{Bounds, Wired, PairsIn, PairsWired, LampWired}

lamp-small : (v : List ℕ) → length v < 65536 → Small v → Small (encoded (lamp_field v))
unfolding encoded
lamp-small [] h s = none
lamp-small (b ∷ v) h s = field-small (record { tag = 6; value = b ∷ v }) (omega arith) h s none

module _ (net : Netlist) (bounds : Bounds net) (wired : Wired net) (shown : PairsWired net) (lit : LampWired net) where
  gates-small : Small (flat_map gate_bytes net.gates)
  gates-small =
      let other : Gate = record { kind = 0; left = 0; right = 0 } in
      each gate_bytes net.gates other (λ g h.
      let at = get_or net.gates g other in
      let w = wired g other h in
      first at.kind (omega arith) (two at.left (omega arith) (two at.right (omega arith) none)))

  pairs_small : (ps : List Pair) → PairsIn (line_count net) ps → Small (flat_map pair_bytes ps)
  pairs_small ps within =
      let other : Pair = record { on = 0; off = 0 } in
      each pair_bytes ps other (λ j h.
      let at = get_or ps j other in
      let s = within j other h in
      two at.on (omega arith) (two at.off (omega arith) none))

  pub file-bytes : Bytes (file_of net)
  unfolding file_of file_with encoded
  file-bytes =
      let g = length-gate-bytes net.gates in
      let p = length-pair-bytes net.pairs in
      let l = length-pair-bytes net.lamp in
      bytes
      (field-small (record { tag = 1; value = net.contacts ∷ [] }) (omega arith) (omega arith) (first net.contacts (omega arith) none)
      (field-small (record { tag = 4; value = flat_map gate_bytes net.gates }) (omega arith) (omega arith) gates-small
      (field-small (record { tag = 5; value = flat_map pair_bytes net.pairs }) (omega arith) (omega arith) (pairs_small net.pairs shown)
      (lamp-small (flat_map pair_bytes net.lamp) (omega arith) (pairs_small net.lamp lit)))))
