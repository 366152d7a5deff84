-- The file of a netlist as it is written, field after field.
use Prim.Native.Nat.{ℕ, zero, suc, ◌+◌, ◌≤◌}
use native.Mathlib.Omega.{arith}
use mathlib.Core.Path.{◌≡◌, refl, sym, ap, ◌∙◌}
use mathlib.Core.List.{List, [], ◌∷◌, ◌++◌, append_assoc, append-nil, flat_map}
use lib.ListN.{length, length-append}
use lib.Seq.{sets}
use Rattle.fields.specs.Fields.{field_bytes, encoded}
use Rattle.files.specs.Room.{over}
use Rattle.files.proofs.Buffers.{sets_over}
use Rattle.files.proofs.WrittenLemmas.{sets_more}
use Rattle.netlist.specs.Netlist.{Netlist, gate_bytes, pair_bytes, lamp_field, file_with, file_of}
use Rattle.netlist.specs.Inner.Lengths.{lamp_length}

pub file-of : (net : Netlist) →
    file_with net.contacts (flat_map gate_bytes net.gates) (flat_map pair_bytes net.pairs) (flat_map pair_bytes net.lamp) ≡ file_of net
unfolding file_with file_of
file-of net = refl

-- The lamp's field.
pub lamp-longer : (k : ℕ) → (k ≡ 0 → ⊥) → lamp_length k ≡ 3 + k
lamp-longer zero h = absurd (h refl)
lamp-longer (suc k) h = refl

pub lamp-most : (k : ℕ) → lamp_length k ≤ 3 + k
lamp-most zero = omega arith
lamp-most (suc k) = omega arith

length-lamp : (v : List ℕ) → length (encoded (lamp_field v)) ≡ lamp_length (length v)
unfolding encoded
length-lamp [] = refl
length-lamp (b ∷ v) = simp length-append (omega arith)

pub none_written : (buffer : List ℕ) (at : ℕ) (v : List ℕ) → length v ≡ 0 → buffer ≡ sets buffer at (encoded (lamp_field v))
unfolding encoded
none_written buffer at [] h = refl
none_written buffer at (b ∷ v) h = absurd (omega arith)

pub lamp-written : (buffer : List ℕ) (at : ℕ) (v : List ℕ) {exit : List ℕ} → 1 ≤ length v →
    exit ≡ sets buffer at (field_bytes (record { tag = 6; value = v })) → exit ≡ sets buffer at (encoded (lamp_field v))
unfolding encoded
lamp-written buffer at [] h e = absurd (omega arith)
lamp-written buffer at (b ∷ v) h e = e ∙ ap (sets buffer at) (sym (append-nil (field_bytes (record { tag = 6; value = b ∷ v }))))

module _ (n : ℕ) (gates pairs lamp : List ℕ) where
  pub length-file : length (file_with n gates pairs lamp) ≡ 10 + length gates + length pairs + lamp_length (length lamp)
  unfolding file_with encoded
  length-file = simp length-append (omega (arith, length-lamp lamp))

  pub file-written : (buffer : List ℕ) {first second third fourth : List ℕ} →
      10 + length gates + length pairs + lamp_length (length lamp) ≤ length buffer →
      first ≡ sets buffer 0 (field_bytes (record { tag = 1; value = n ∷ [] })) →
      second ≡ sets first 4 (field_bytes (record { tag = 4; value = gates })) →
      third ≡ sets second (7 + length gates) (field_bytes (record { tag = 5; value = pairs })) →
      fourth ≡ sets third (10 + length gates + length pairs) (encoded (lamp_field lamp)) →
      fourth ≡ over (file_with n gates pairs lamp) buffer
  unfolding file_with encoded
  file-written buffer h a b c d =
      let contacts = field_bytes (record { tag = 1; value = n ∷ [] }) in
      let more = field_bytes (record { tag = 4; value = gates }) in
      let outputs = field_bytes (record { tag = 5; value = pairs }) in
      let last = encoded (lamp_field lamp) in
      let two = b ∙ ap (λ (l : List ℕ). sets l 4 more) a ∙ sets_more buffer 0 4 contacts more refl in
      let three = c ∙ ap (λ (l : List ℕ). sets l (7 + length gates) outputs) two
      ∙ sets_more buffer 0 (7 + length gates) (contacts ++ more) outputs (omega arith) in
      let four = d ∙ ap (λ (l : List ℕ). sets l (10 + length gates + length pairs) last) three
      ∙ sets_more buffer 0 (10 + length gates + length pairs) ((contacts ++ more) ++ outputs) last
      (simp length-append (omega arith)) in
      four
      ∙ ap (sets buffer 0) (append_assoc (contacts ++ more) outputs last ∙ append_assoc contacts more (outputs ++ last))
      ∙ sets_over (file_with n gates pairs lamp) buffer (omega (arith, length-file))
