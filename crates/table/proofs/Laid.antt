-- What stands in the diagram that fields hold: widths, edges and roots by their place.
use Prim.Native.Nat.{ℕ, ◌*◌, ◌+◌, ◌/◌, ◌<◌}
use native.Mathlib.Omega.{arith}
use mathlib.Core.Path.{◌≡◌, ◌∙◌}
use mathlib.Core.List.{List, [], map, flat_map}
use lib.ListN.{length, get_or, get_or-map}
use Rattle.fields.specs.Fields.{Item, value_in}
use Rattle.diagram.specs.Diagram.{edge_at, root}
use Rattle.table.specs.Table.{padded, levels_of, diagram_of}
use Rattle.files.proofs.Heads.{field}
use Rattle.table.proofs.Padded.{padded-at, flat-at}

pub value-at : (l : List Item) (k : ℕ) → get_or (map (λ (i : Item). i.value) l) k [] ≡ (get_or l k (field 0 [])).value
value-at l k = get_or-map (λ (i : Item). i.value) l k (field 0 [])

module _ (is : List Item) where
  pub width_of : (l : ℕ) → l < 12 → get_or (diagram_of is).widths l 0 ≡ length (get_or (levels_of is) l []) / 2
  unfolding diagram_of
  width_of l h =
      let half : List ℕ → ℕ = λ v. length v / 2 in
      padded-at 12 (map half (levels_of is)) l h ∙ get_or-map half (levels_of is) l []

  pub edge_of : (l k : ℕ) → l < 12 → k < 16 → edge_at (diagram_of is) l k ≡ get_or (get_or (levels_of is) l []) k 0
  unfolding diagram_of edge_at
  edge_of l k h g = padded-at 192 (flat_map (padded 16) (levels_of is)) (l * 16 + k) (omega arith) ∙ flat-at (levels_of is) l k g

  pub root-of : (j : ℕ) → j < 8 → root (diagram_of is) j ≡ get_or (value_in is 1) j 0
  unfolding diagram_of root
  root-of j h = padded-at 8 (value_in is 1) j h
