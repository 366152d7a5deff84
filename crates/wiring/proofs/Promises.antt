-- What is written reads back as it was, and what was read is written as it was.
use native.Mathlib.Omega.{arith}
use Prim.Native.Nat.{ℕ, zero, suc, ◌+◌, ◌*◌, ◌/◌, ◌%◌, ◌<◌}
use mathlib.Core.Path.{◌≡◌, sym, ap, ◌∙◌}
use mathlib.Core.List.{List, [], ◌∷◌, flat_map}
use lib.ListN.{length, get_or}
use lib.Seq.{ext_get_or}
use Rattle.fields.specs.Fields.{Bytes, Fields, fields_of, value_in, encoded}
use Rattle.fields.proofs.Small.{value-bytes}
use Rattle.files.proofs.Heads.{field}
use Rattle.netlist.specs.declared.Gate.{Gate}
use Rattle.netlist.specs.declared.Pair.{Pair}
use Rattle.files.specs.Header.{contacts_of}
use Rattle.netlist.specs.Netlist.{number_at, gate_at, pair_at, gates_of, pairs_of, gate_bytes, pair_bytes, lamp_field, file_with, file_of}
use Rattle.netlist.proofs.Files.{length-gate-bytes, length-pair-bytes, gate-byte, pair-byte, no-gate, no-pair, file-fields}
use Rattle.netlist.proofs.Lists.{length-gates, get_or-gates, length_pairs, get_or-pairs}
use Rattle.wiring.specs.Questions.{netlist_of}
use Rattle.wiring.specs.Promises.{NetlistReadsBack, NetlistWithoutNotes, NetlistWritesBack}
use Rattle.wiring.proofs.Accepted.{accepted}
use Rattle.wiring.proofs.Files.{reads-back}

pub netlist-reads-back : NetlistReadsBack
netlist-reads-back = reads-back

module _ (v : List ℕ) (b : Bytes v) where
  -- A two-byte number's bytes are those that it was read from.
  high : (j i : ℕ) → j ≡ i → number_at v j / 256 ≡ get_or v i 0
  high j i e = rw (← e) (omega (arith, b (j + 1)))

  low : (j i : ℕ) → j + 1 ≡ i → number_at v j % 256 ≡ get_or v i 0
  low j i e = rw (← e) (omega (arith, b (j + 1)))

  -- So are those of a gate, and of an output.
  gate-read : (g k i : ℕ) → k < 5 → i ≡ 5 * g + k → get_or (gate_bytes (gate_at v g)) k 0 ≡ get_or v i 0
  gate-read g zero i h e = ap (λ (k : ℕ). get_or v k 0) (omega arith)
  gate-read g (suc zero) i h e = high (5 * g + 1) i (omega arith)
  gate-read g (suc (suc zero)) i h e = low (5 * g + 1) i (omega arith)
  gate-read g (suc (suc (suc zero))) i h e = high (5 * g + 3) i (omega arith)
  gate-read g (suc (suc (suc (suc zero)))) i h e = low (5 * g + 3) i (omega arith)
  gate-read g (suc (suc (suc (suc (suc k))))) i h e = absurd (omega arith)

  pair_read : (j k i : ℕ) → k < 4 → i ≡ 4 * j + k → get_or (pair_bytes (pair_at v j)) k 0 ≡ get_or v i 0
  pair_read j zero i h e = high (4 * j) i (omega arith)
  pair_read j (suc zero) i h e = low (4 * j) i (omega arith)
  pair_read j (suc (suc zero)) i h e = high (4 * j + 2) i (omega arith)
  pair_read j (suc (suc (suc zero))) i h e = low (4 * j + 2) i (omega arith)
  pair_read j (suc (suc (suc (suc k)))) i h e = absurd (omega arith)

  gates-written : length v % 5 ≡ 0 → flat_map gate_bytes (gates_of v) ≡ v
  gates-written w =
      let n = length-gates v in
      let l = length-gate-bytes (gates_of v) in
      ext_get_or 0 (flat_map gate_bytes (gates_of v)) v (omega arith) (λ i h.
      gate-byte (gates_of v) (i / 5) (i % 5) i (omega arith) (omega arith)
      ∙ ap (λ (g : Gate). get_or (gate_bytes g) (i % 5) 0) (get_or-gates v (i / 5) no-gate (omega arith))
      ∙ gate-read (i / 5) (i % 5) i (omega arith) (omega arith))

  pairs-written : length v % 4 ≡ 0 → flat_map pair_bytes (pairs_of v) ≡ v
  pairs-written w =
      let n = length_pairs v in
      let l = length-pair-bytes (pairs_of v) in
      ext_get_or 0 (flat_map pair_bytes (pairs_of v)) v (omega arith) (λ i h.
      pair-byte (pairs_of v) (i / 4) (i % 4) i (omega arith) (omega arith)
      ∙ ap (λ (p : Pair). get_or (pair_bytes p) (i % 4) 0) (get_or-pairs v (i / 4) no-pair (omega arith))
      ∙ pair_read (i / 4) (i % 4) i (omega arith) (omega arith))

pub netlist-without-notes : NetlistWithoutNotes
unfolding file_of file_with
netlist-without-notes net = ap (λ (fs : Fields). encoded fs.items) (file-fields net)

pub netlist-writes-back : NetlistWritesBack
unfolding file_of file_with netlist_of
netlist-writes-back file b z =
    let is = (fields_of file).items in
    let f = (accepted file z).form in
    let byte = value-bytes file b f.whole in
    let gates = gates-written (value_in is 1) (byte 1) f.gates.whole in
    let pairs = pairs-written (value_in is 2) (byte 2) f.pairs.whole in
    let lamp = pairs-written (value_in is 3) (byte 3) f.lamp.whole in
    ap encoded ((λ i. field 1 (contacts_of is ∷ []) ∷ field 4 (gates i) ∷ field 5 (pairs i) ∷ lamp_field (lamp i)) ∙ sym f.items)
