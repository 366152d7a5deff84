-- Diagrams with the same outputs, widths and edges have the same table file.
use Prim.Native.Nat.{ℕ, ◌*◌, ◌<◌}
use native.Mathlib.Omega.{arith}
use mathlib.Core.Path.{◌≡◌, ap, ◌∙◌}
use mathlib.Core.List.{[], ◌∷◌}
use Rattle.fields.specs.Bounded.{listed}
use Rattle.fields.specs.Fields.{encoded}
use Rattle.fields.proofs.Listed.{listed_same}
use Rattle.diagram.specs.declared.Diagram.{Diagram}
use Rattle.diagram.specs.Diagram.{width, edge_at, root}
use Rattle.table.specs.Encode.{level_item, items_of, bytes_of, contents_of, table_bytes}
use Rattle.files.proofs.Heads.{field}
use Rattle.diagram.proofs.Unique.{Same}

module _ (d e : Diagram) (n : d.contacts ≡ e.contacts) (m : d.outputs ≡ e.outputs) (s : Same d e) where
  level-same : (l : ℕ) → l < d.contacts → listed (edge_at d l) (2 * width d l) 0 ≡ listed (edge_at e l) (2 * width e l) 0
  level-same l h =
      listed_same (edge_at d l) (edge_at e l) (2 * width d l) 0 (λ k g. s.edges l k h (omega arith))
      ∙ ap (λ (w : ℕ). listed (edge_at e l) (2 * w) 0) (s.widths l (omega arith))

  items-same : items_of (contents_of d) ≡ items_of (contents_of e)
  items-same =
      let outputs = listed_same (root d) (root e) d.outputs 0 (λ j h. s.roots j (omega arith)) ∙ ap (λ (k : ℕ). listed (root e) k 0) m in
      let levels = listed_same (level_item (contents_of d)) (level_item (contents_of e)) d.contacts 0 (λ l h. ap (field 3) (level-same l (omega arith)))
      ∙ ap (λ (k : ℕ). listed (level_item (contents_of e)) k 0) n in
      λ i. field 1 (n i ∷ []) ∷ field 2 (outputs i) ∷ levels i

  pub same-file : table_bytes d ≡ table_bytes e
  unfolding bytes_of
  same-file = ap encoded items-same
