-- The outputs' pairs as they are written.
use Prim.Native.Nat.{ℕ, ◌+◌, ◌*◌, ◌/◌, ◌%◌, ◌<◌}
use native.Mathlib.Omega.{arith}
use mathlib.Core.Path.{◌≡◌, refl, sym, ap, ◌∙◌}
use mathlib.Core.Bool.{true}
use mathlib.Core.List.{List, [], ◌∷◌, ◌++◌, flat_map}
use lib.ListN.{length, get_or, take}
use lib.Seq.{sets, length-take-le, get_or-take}
use Rattle.diagram.specs.declared.Diagram.{Diagram}
use Rattle.diagram.specs.Diagram.{root}
use Rattle.diagram.specs.Questions.{Sized, in_range}
use Rattle.diagram.proofs.Paths.{root_in}
use Rattle.files.proofs.WrittenLemmas.{sets_more}
use Rattle.netlist.specs.declared.Pair.{Pair}
use Rattle.netlist.specs.Netlist.{pair_bytes}
use Rattle.fields.specs.Bounded.{listed}
use Rattle.netlist.proofs.Files.{length-pair-bytes}
use Rattle.fields.proofs.Listed.{length-listed, listed_more}
use Rattle.fields.proofs.Parts.{flat_append}

-- The bytes of the first of some pairs.
abbrev pub bytes_of : (ℕ → Pair) → ℕ → List ℕ
bytes_of f count = flat_map pair_bytes (listed f count 0)

module _ (f : ℕ → Pair) where
  pub pairs-none : {start : List ℕ} → start ≡ sets start 0 (bytes_of f 0)
  unfolding listed flat_map
  pairs-none = refl

  bytes-more : (j : ℕ) → bytes_of f (j + 1) ≡ bytes_of f j ++ pair_bytes (f j)
  unfolding flat_map
  bytes-more j = ap (flat_map pair_bytes) (listed_more f j) ∙ flat_append pair_bytes (listed f j 0) (f j ∷ [])

  bytes-length : (j : ℕ) → length (bytes_of f j) ≡ 4 * j
  bytes-length j = length-pair-bytes (listed f j 0) ∙ ap (◌*◌ 4) (length-listed f j 0)

  pub pairs-more : (j : ℕ) (start before between after : List ℕ) → before ≡ sets start 0 (bytes_of f j) →
      between ≡ sets before (4 * j) ((f j).on / 256 ∷ (f j).on % 256 ∷ []) →
      after ≡ sets between (4 * j + 2) ((f j).off / 256 ∷ (f j).off % 256 ∷ []) →
      after ≡ sets start 0 (bytes_of f (j + 1))
  pairs-more j start before between after e e' e'' =
      let on = (f j).on / 256 ∷ (f j).on % 256 ∷ [] in
      let off = (f j).off / 256 ∷ (f j).off % 256 ∷ [] in
      e''
      ∙ ap (λ (l : List ℕ). sets l (4 * j + 2) off) e'
      ∙ sets_more before (4 * j) (4 * j + 2) on off refl
      ∙ ap (λ (l : List ℕ). sets l (4 * j) (pair_bytes (f j))) e
      ∙ sets_more start 0 (4 * j) (bytes_of f j) (pair_bytes (f j)) (omega (arith, bytes-length j))
      ∙ ap (sets start 0) (sym (bytes-more j))

-- The output list has so many entries.
pub roots-long : (d : Diagram) → Sized d → length d.roots ≡ 8 → length (take d.outputs d.roots) ≡ d.outputs
roots-long d sized long = length-take-le d.outputs d.roots (omega (arith, sized.outputs, long))

-- Output j of the output list is root j, one of eight nodes.
module _ (d : Diagram) (j : ℕ) (h : j < d.outputs) where
  pub root-taken : get_or (take d.outputs d.roots) j 0 ≡ root d j
  unfolding root
  root-taken = get_or-take d.outputs d.roots j 0 h

  pub root-low : Sized d → in_range d ≡ true → get_or (take d.outputs d.roots) j 0 < 8
  root-low sized sound = omega (arith, root-taken, root_in d sound j h, sized.widths 0 sized.contacts.0)
