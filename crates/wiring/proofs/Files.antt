-- The file of a netlist reads back as that netlist, and a sound netlist's file passes questions 11 and 12.
use borrow.Author.Tests.{le-leb}
use native.Mathlib.Omega.{arith}
use Prim.Native.Nat.{ℕ, ◌+◌, ◌/◌, ◌≤◌}
use mathlib.Core.Path.{◌≡◌, refl, sym, ap, ap₂, ◌∙◌}
use mathlib.Core.Bool.{true, ◌&&◌}
use mathlib.Core.List.{List, [], ◌∷◌, flat_map}
use lib.ListN.{length}
use Rattle.fields.specs.declared.Framing.TheVariants.{Whole}
use Rattle.fields.specs.Fields.{Item, Fields, fields_of}
use Rattle.fields.specs.Refusals.{first_no}
use Rattle.fields.proofs.Bounded.{all_of}
use Rattle.files.specs.Header.{contacts_in}
use Rattle.files.specs.Inner.Row.{ends_within}
use Rattle.files.proofs.Heads.{field}
use Rattle.files.proofs.WholeParts.{whole_parts}
use Rattle.netlist.specs.declared.Pair.{Pair}
use Rattle.netlist.specs.Netlist.{Netlist, gate_line, line_count, gate_at, pair_at, pairs_of, gate_bytes, pair_bytes, net_with, lamp_field, file_of}
use Rattle.netlist.proofs.Files.{length-gate-bytes, no-gate, gate-back, gates-back, length-pair-bytes, no-pair, pair-back, pairs-back, lamp-value, items_of, file-fields}
use Rattle.netlist.proofs.Sound.{Bounds, Wired, PairsIn, PairsWired, LampWired}
use Rattle.std.specs.Prelude.{Some}
use Rattle.wiring.specs.Questions.{is_gate, is_pair, are_pairs, form_of, is_sound, netlist_of, netlist_refusal}
use Rattle.wiring.proofs.Forms.{may_be_lamp, formed}
use Rattle.wiring.proofs.Tests.{on-gate, in_pair}

module _ (net : Netlist) where
  items_back : netlist_of (items_of net) ≡ net
  unfolding netlist_of
  items_back =
      let gates = gates-back net.gates in
      let pairs = pairs-back net.pairs in
      let lamp = ap pairs_of (lamp-value (flat_map pair_bytes net.lamp)) ∙ pairs-back net.lamp in
      λ i. net_with net.contacts (gates i) (pairs i) (lamp i)

  pub reads-back : netlist_of (fields_of (file_of net)).items ≡ net
  reads-back = ap (λ (fs : Fields). netlist_of fs.items) (file-fields net) ∙ items_back

-- Different netlists have different files.
pub file-determines : (a b : Netlist) → file_of a ≡ file_of b → a ≡ b
file-determines a b e = sym (reads-back a) ∙ ap (λ (f : List ℕ). netlist_of (fields_of f).items) e ∙ reads-back b

-- At most one lamp ends a file as it should.
ends-formed : (i j k : Item) (ps : List Pair) → length ps ≤ 1 → let is = i ∷ j ∷ k ∷ lamp_field (flat_map pair_bytes ps) in
    (may_be_lamp is ≡ true) × (ends_within 4 (record { items = is; framing = Whole }) ≡ true)
unfolding flat_map
ends-formed i j k [] h = (refl, refl)
ends-formed i j k (p ∷ []) h = (refl, refl)
ends-formed i j k (p ∷ q ∷ ps) h = absurd (omega arith)

module _ (net : Netlist) (b : Bounds net) where
  items-formed : Some net.contacts ≡ form_of (record { items = items_of net; framing = Whole })
  unfolding contacts_in
  items-formed =
      let g = length-gate-bytes net.gates in
      let p = length-pair-bytes net.pairs in
      let ends =
      ends-formed (field 1 (net.contacts ∷ [])) (field 4 (flat_map gate_bytes net.gates)) (field 5 (flat_map pair_bytes net.pairs)) net.lamp b.lamp in
      formed (record { items = items_of net; framing = Whole })
      (simp (le-leb _ _ b.least, le-leb _ _ b.most))
      (whole_parts 4 5 0 10602 (flat_map gate_bytes net.gates) (omega arith) (omega arith) (omega arith))
      (whole_parts 5 4 1 8 (flat_map pair_bytes net.pairs) (omega arith) (omega arith) (omega arith))
      ends.0 ends.1

  pub file-formed : form_of (fields_of (file_of net)) ≡ Some net.contacts
  file-formed = ap form_of (file-fields net) ∙ sym items-formed

  pairs-sound : (lines : ℕ) (ps : List Pair) → lines ≡ line_count net → PairsIn (line_count net) ps →
      are_pairs lines (flat_map pair_bytes ps) ≡ true
  pairs-sound lines ps e shown =
      let u = flat_map pair_bytes ps in
      let p = length-pair-bytes ps in
      all_of (λ j. is_pair lines (pair_at u j)) (length u / 4)
      (λ j h. ap₂ is_pair e (pair-back ps j) ∙ in_pair _ _ (shown j no-pair (omega arith)))

  module _ (wired : Wired net) (shown : PairsWired net) (lit : LampWired net) where
    bytes-sound : is_sound net.contacts (flat_map gate_bytes net.gates) (flat_map pair_bytes net.pairs) (flat_map pair_bytes net.lamp) ≡ true
    unfolding is_sound
    bytes-sound =
        let v = flat_map gate_bytes net.gates in
        let g = length-gate-bytes net.gates in
        let k : gate_line net.contacts + length v / 5 ≡ line_count net = omega arith in
        ap₂ ◌&&◌
        (ap₂ ◌&&◌
        (all_of (λ i. is_gate (gate_line net.contacts + i) (gate_at v i)) (length v / 5)
        (λ i h. ap (is_gate (gate_line net.contacts + i)) (gate-back net.gates i)
        ∙ on-gate _ _ (wired i no-gate (omega arith))))
        (pairs-sound _ net.pairs k shown))
        (pairs-sound _ net.lamp k lit)

    pub file-accepted : netlist_refusal (file_of net) ≡ 0
    unfolding netlist_refusal first_no
    file-accepted = rw (file-formed, file-fields net, lamp-value (flat_map pair_bytes net.lamp), bytes-sound)
