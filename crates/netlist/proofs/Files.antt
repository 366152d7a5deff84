-- The bytes of gates, outputs and holds name them; the fields of a netlist's file are its parts.
use native.Mathlib.Nat.{div-add-mod'}
use native.Mathlib.Omega.{arith}
use Prim.Native.Nat.{ℕ, ◌+◌, ◌*◌, ◌<◌}
use mathlib.Core.Path.{◌≡◌, refl, ap₂, ◌∙◌}
use mathlib.Core.List.{List, [], ◌∷◌, flat_map}
use lib.ListN.{length, get_or, get_or-replicate}
use lib.Seq.{ext_get_or}
use Rattle.fields.specs.declared.Framing.TheVariants.{Whole}
use Rattle.fields.specs.Fields.{number_of, Item, fields_of, value_in}
use Rattle.fields.proofs.Every.{Every}
use Rattle.fields.proofs.Notes.{Plain, of-encoded}
use Rattle.fields.proofs.Parts.{length-parts, part_at}
use Rattle.netlist.specs.declared.Gate.{Gate}
use Rattle.netlist.specs.declared.Pair.{Pair}
use Rattle.netlist.specs.declared.Hold.{Hold}
use Rattle.netlist.specs.Netlist.{Netlist, gate_at, pair_at, hold_at, gates_of, pairs_of, holds_of, gate_bytes, pair_bytes, hold_bytes, lamp_field, file_with, file_of}
use Rattle.netlist.specs.Inner.Lengths.{lamp_length}
use Rattle.netlist.proofs.Lists.{length-gates, get_or-gates, length_pairs, get_or-pairs, length-holds, get_or-holds}
use Rattle.netlist.proofs.Written.{length-file}

-- The gates' bytes.
pub length-gate-bytes : (gs : List Gate) → length (flat_map gate_bytes gs) ≡ 5 * length gs
length-gate-bytes gs = length-parts gate_bytes 5 (λ g. refl) gs ∙ omega arith

abbrev pub no-gate : Gate
no-gate = record { kind = 0; left = 0; right = 0 }

pub gate-byte : (gs : List Gate) (g k j : ℕ) → k < 5 → j ≡ g * 5 + k →
    get_or (flat_map gate_bytes gs) j 0 ≡ get_or (gate_bytes (get_or gs g no-gate)) k 0
gate-byte gs g k j h e = rw e (part_at gate_bytes 5 (λ g. refl) no-gate (λ i l. get_or-replicate 5 i 0 0 l) gs g k h)

pub gate-back : (gs : List Gate) (g : ℕ) → gate_at (flat_map gate_bytes gs) g ≡ get_or gs g no-gate
gate-back gs g =
    let m = get_or gs g no-gate in
    let at = gate-byte gs g in
    let kind : (gate_at (flat_map gate_bytes gs) g).kind ≡ m.kind = at 0 (5 * g) (omega arith) (omega arith) in
    let left : (gate_at (flat_map gate_bytes gs) g).left ≡ m.left =
    ap₂ number_of (at 1 (5 * g + 1) (omega arith) (omega arith)) (at 2 (5 * g + 1 + 1) (omega arith) (omega arith)) ∙ div-add-mod' m.left 256 in
    let right : (gate_at (flat_map gate_bytes gs) g).right ≡ m.right =
    ap₂ number_of (at 3 (5 * g + 3) (omega arith) (omega arith)) (at 4 (5 * g + 3 + 1) (omega arith) (omega arith)) ∙ div-add-mod' m.right 256 in
    λ i. record { kind = kind i; left = left i; right = right i }

pub gates-back : (gs : List Gate) → gates_of (flat_map gate_bytes gs) ≡ gs
gates-back gs =
    let v = flat_map gate_bytes gs in
    let b = length-gate-bytes gs in
    let l : length (gates_of v) ≡ length gs = omega (arith, length-gates v) in
    ext_get_or no-gate (gates_of v) gs l (λ g h. get_or-gates v g no-gate (omega arith) ∙ gate-back gs g)

-- The outputs' bytes.
pub length-pair-bytes : (ps : List Pair) → length (flat_map pair_bytes ps) ≡ 4 * length ps
length-pair-bytes ps = length-parts pair_bytes 4 (λ p. refl) ps ∙ omega arith

abbrev pub no-pair : Pair
no-pair = record { on = 0; off = 0 }

pub pair-byte : (ps : List Pair) (p k j : ℕ) → k < 4 → j ≡ p * 4 + k →
    get_or (flat_map pair_bytes ps) j 0 ≡ get_or (pair_bytes (get_or ps p no-pair)) k 0
pair-byte ps p k j h e = rw e (part_at pair_bytes 4 (λ p. refl) no-pair (λ i l. get_or-replicate 4 i 0 0 l) ps p k h)

pub pair-back : (ps : List Pair) (j : ℕ) → pair_at (flat_map pair_bytes ps) j ≡ get_or ps j no-pair
pair-back ps j =
    let p = get_or ps j no-pair in
    let at = pair-byte ps j in
    let on : (pair_at (flat_map pair_bytes ps) j).on ≡ p.on =
    ap₂ number_of (at 0 (4 * j) (omega arith) (omega arith)) (at 1 (4 * j + 1) (omega arith) (omega arith)) ∙ div-add-mod' p.on 256 in
    let off : (pair_at (flat_map pair_bytes ps) j).off ≡ p.off =
    ap₂ number_of (at 2 (4 * j + 2) (omega arith) (omega arith)) (at 3 (4 * j + 2 + 1) (omega arith) (omega arith)) ∙ div-add-mod' p.off 256 in
    λ i. record { on = on i; off = off i }

pub pairs-back : (ps : List Pair) → pairs_of (flat_map pair_bytes ps) ≡ ps
pairs-back ps =
    let v = flat_map pair_bytes ps in
    let b = length-pair-bytes ps in
    let l : length (pairs_of v) ≡ length ps = omega (arith, length_pairs v) in
    ext_get_or no-pair (pairs_of v) ps l (λ j h. get_or-pairs v j no-pair (omega arith) ∙ pair-back ps j)

-- The holds' bytes.
pub length-hold-bytes : (hs : List Hold) → length (flat_map hold_bytes hs) ≡ 3 * length hs
length-hold-bytes hs = length-parts hold_bytes 3 (λ h. refl) hs ∙ omega arith

abbrev no-hold : Hold
no-hold = record { line = 0; value = 0 }

hold-byte : (hs : List Hold) (i k j : ℕ) → k < 3 → j ≡ i * 3 + k →
    get_or (flat_map hold_bytes hs) j 0 ≡ get_or (hold_bytes (get_or hs i no-hold)) k 0
hold-byte hs i k j h e = rw e (part_at hold_bytes 3 (λ h. refl) no-hold (λ i l. get_or-replicate 3 i 0 0 l) hs i k h)

hold-back : (hs : List Hold) (i : ℕ) → hold_at (flat_map hold_bytes hs) i ≡ get_or hs i no-hold
hold-back hs i =
    let h = get_or hs i no-hold in
    let at = hold-byte hs i in
    let line : (hold_at (flat_map hold_bytes hs) i).line ≡ h.line =
    ap₂ number_of (at 0 (3 * i) (omega arith) (omega arith)) (at 1 (3 * i + 1) (omega arith) (omega arith)) ∙ div-add-mod' h.line 256 in
    let value : (hold_at (flat_map hold_bytes hs) i).value ≡ h.value = at 2 (3 * i + 2) (omega arith) (omega arith) in
    λ j. record { line = line j; value = value j }

pub holds-back : (hs : List Hold) → holds_of (flat_map hold_bytes hs) ≡ hs
holds-back hs =
    let v = flat_map hold_bytes hs in
    let b = length-hold-bytes hs in
    let l : length (holds_of v) ≡ length hs = omega (arith, length-holds v) in
    ext_get_or no-hold (holds_of v) hs l (λ i h. get_or-holds v i no-hold (omega arith) ∙ hold-back hs i)

-- The lamp's field.
lamp-plain : (v : List ℕ) → Every Plain (lamp_field v)
lamp-plain [] = tt
lamp-plain (b ∷ v) = (omega arith, tt)

pub lamp-value : (v : List ℕ) → value_in (lamp_field v) 0 ≡ v
lamp-value [] = refl
lamp-value (b ∷ v) = refl

module _ (net : Netlist) where
  abbrev pub items_of : List Item
  items_of =
      record { tag = 1; value = net.contacts ∷ [] }
      ∷ record { tag = 4; value = flat_map gate_bytes net.gates }
      ∷ record { tag = 5; value = flat_map pair_bytes net.pairs }
      ∷ lamp_field (flat_map pair_bytes net.lamp)

  pub file-fields : fields_of (file_of net) ≡ record { items = items_of; framing = Whole }
  unfolding file_of file_with
  file-fields = of-encoded items_of (omega arith, (omega arith, (omega arith, lamp-plain (flat_map pair_bytes net.lamp))))

  pub file-length : length (file_of net) ≡ 10 + 5 * length net.gates + 4 * length net.pairs + lamp_length (4 * length net.lamp)
  unfolding file_of
  file-length =
      length-file net.contacts (flat_map gate_bytes net.gates) (flat_map pair_bytes net.pairs) (flat_map pair_bytes net.lamp)
      ∙ rw (length-gate-bytes net.gates, length-pair-bytes net.pairs, length-pair-bytes net.lamp)
