-- An accepted file without its notes is the table file of its diagram.
use Prim.Native.Nat.{ℕ, ◌*◌, ◌<◌}
use native.Mathlib.Omega.{arith}
use mathlib.Core.Path.{◌≡◌, sym, ap, ap₂, ◌∙◌}
use mathlib.Core.List.{List, [], ◌∷◌}
use lib.ListN.{get_or, drop}
use lib.Seq.{drop-drop}
use Rattle.fields.specs.Bounded.{listed}
use Rattle.fields.proofs.Listed.{listed-is}
use Rattle.fields.specs.Fields.{Item, fields_of, encoded, without_notes, value_in}
use Rattle.diagram.specs.Diagram.{width, edge_at, root}
use Rattle.table.specs.Encode.{level_item, items_of, bytes_of, contents_of, table_bytes}
use Rattle.table.specs.Table.{diagram_in}
use Rattle.table.proofs.Accepted.{AcceptedTable}
use Rattle.diagram.proofs.Asked.{width_is}
use Rattle.table.proofs.Decoded.{half}
use Rattle.files.proofs.Heads.{field, counted}
use Rattle.table.proofs.Heads.{lists, value-one, level-at, level-count}
use Rattle.table.proofs.Laid.{value-at, width_of, edge_of, root-of}

module _ (file : List ℕ) (t : AcceptedTable file) where
  abbrev is : List Item
  is = (fields_of file).items

  outputs-are : listed (root (diagram_in file)) (diagram_in file).outputs 0 ≡ value_in (drop 1 is) 0
  outputs-are =
      let d = diagram_in file in
      let m = lists (drop 1 is) d.outputs t.outputs in
      listed-is (root d) d.outputs (value_in (drop 1 is) 0) 0 m.count
      (λ j h. root-of is j (omega arith) ∙ ap (λ (v : List ℕ). get_or v j 0) (sym (value-one is)))

  level-is : (l : ℕ) → l < (diagram_in file).contacts →
      field 3 (listed (edge_at (diagram_in file) l) (2 * width (diagram_in file) l) 0) ≡ get_or (drop 2 is) l (field 0 [])
  level-is l h =
      let d = diagram_in file in
      let i = get_or (drop 2 is) l (field 0 []) in
      let v = level-at d.contacts (drop 2 is) t.levels l h in
      let n = t.sized.contacts in
      let w = sym (width_is d l h) ∙ width_of is l (omega arith) ∙ ap half (value-at (drop 2 is) l) in
      let e = listed-is (edge_at d l) (2 * width d l) i.value 0 (omega arith)
      (λ k g. edge_of is l k (omega arith) (omega arith) ∙ ap (λ (u : List ℕ). get_or u k 0) (value-at (drop 2 is) l)) in
      ap (field 3) e ∙ sym v.0

  pub items-are : items_of (contents_of (diagram_in file)) ≡ is
  items-are =
      let d = diagram_in file in
      let n = counted is d.contacts t.contacts in
      let m = lists (drop 1 is) d.outputs t.outputs in
      let levels = listed-is (level_item (contents_of d)) d.contacts (drop 2 is) (field 0 []) (level-count d.contacts (drop 2 is) t.levels) level-is in
      let third = levels ∙ sym (drop-drop 1 1 is) ∙ ap (drop 1) m.split in
      let second = ap₂ (λ (v : List ℕ) (l : List Item). field 2 v ∷ l) outputs-are third ∙ sym m.split ∙ ap (drop 1) n.split in
      ap (λ (l : List Item). field 1 (d.contacts ∷ []) ∷ l) second ∙ sym n.split

  pub bytes-are : table_bytes (diagram_in file) ≡ without_notes file
  unfolding bytes_of
  bytes-are = ap encoded items-are
