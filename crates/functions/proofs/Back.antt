-- An accepted table without its notes is the table of its own functions.
use Prim.Native.Nat.{ℕ, ◌+◌, ◌-◌, ◌<◌}
use native.Mathlib.Nat.{zero-add}
use native.Mathlib.Omega.{arith}
use mathlib.Core.Path.{◌≡◌, refl, sym, ap, ◌∙◌}
use mathlib.Core.Bool.{Bool, true, false}
use mathlib.Core.List.{List}
use Rattle.fields.specs.Fields.{without_notes}
use Rattle.diagram.specs.declared.Diagram.{Diagram}
use Rattle.diagram.specs.Diagram.{width, root, Input, input_of, join, path, value_at, word_at}
use Rattle.diagram.proofs.Paths.{path_join, value_same, root_in, path-in, value-bit}
use Rattle.diagram.proofs.Words.{word_same}
use Rattle.table.specs.Encode.{bytes_of}
use Rattle.table.specs.Promises.{Accepted}
use Rattle.table.specs.Table.{diagram_in}
use Rattle.table.proofs.Accepted.{accepted}
use Rattle.table.proofs.Promises.{same_bytes}
use Rattle.table.proofs.Written.{table-without-notes}
use Rattle.functions.specs.Functions.{functions_of, canonical, is_narrow, MoreThanEight}
use Rattle.functions.proofs.Canonical.{canonical-accepted, canonical-contacts, canonical-outputs, canonical-value}
use Rattle.functions.proofs.Pigeonhole.{pigeonhole}
use Rattle.functions.proofs.Trees.{Values}
use Rattle.functions.proofs.Wide.{wide}

-- The values of a diagram's outputs.
abbrev pub values_of : Diagram → ℕ → Input → ℕ
values_of d j x = value_at d x j

-- With its first contacts fixed an output shows what the node that they lead to shows.
value-join : (d : Diagram) (l : ℕ) (x y : Input) (j : ℕ) → l < d.contacts →
    value_at d (join l x y) j ≡ path d y (d.contacts - l) l (path d x l 0 (root d j))
unfolding value_at
value-join d l x y j h =
    let e : l + (d.contacts - l) ≡ d.contacts = omega arith in
    rw (zero-add l, e) at (path_join d x y l (d.contacts - l) 0 (root d j))

module _ (file : List ℕ) (t : Accepted file) where
  pub own-values : (j : ℕ) → j < (diagram_in file).outputs → Values (diagram_in file).contacts (values_of (diagram_in file) j)
  own-values j h =
      let d = diagram_in file in
      record {
        first = λ x y. value_same d x y j;
        bit = λ x. value-bit d (accepted file t.1).reduced.ranged x j h;
      }

  -- A level has at most eight nodes, so of nine fixings two lead to one node.
  no_more : (l : ℕ) → l < (diagram_in file).contacts → MoreThanEight (diagram_in file).outputs (values_of (diagram_in file)) l → ⊥
  no_more l h (output, fixed, bounded, told) =
      let (i, k, lt, most, e) = pigeonhole 8 node (λ i g. omega (arith, node_in i (omega arith), (accepted file t.1).sized.widths l h)) in
      let (x, ne) = told i k lt (omega arith) in
      ne (shows i k x e)
    where
      -- The node that a fixing leads to.
      node : ℕ → ℕ
      node i = path (diagram_in file) (fixed i) l 0 (root (diagram_in file) (output i))

      node_in : (i : ℕ) → i < 9 → node i < width (diagram_in file) l
      node_in i g =
          let ranged = (accepted file t.1).reduced.ranged in
          rw (zero-add l) at
          (path-in (diagram_in file) ranged (fixed i) l 0 (root (diagram_in file) (output i)) (omega arith)
          (root_in (diagram_in file) ranged (output i) (bounded i g)))

      shows : (i k : ℕ) (x : Input) → node i ≡ node k →
          value_at (diagram_in file) (join l (fixed i) x) (output i) ≡ value_at (diagram_in file) (join l (fixed k) x) (output k)
      shows i k x e =
          value-join (diagram_in file) l (fixed i) x (output i) h
          ∙ ap (path (diagram_in file) x ((diagram_in file).contacts - l) l) e
          ∙ sym (value-join (diagram_in file) l (fixed k) x (output k) h)

  pub own-narrow : is_narrow (diagram_in file).contacts (diagram_in file).outputs
      (functions_of (diagram_in file).contacts (values_of (diagram_in file))) ≡ true
  own-narrow = go (is_narrow n m (functions_of n v)) refl
    where
      n : ℕ
      n = (diagram_in file).contacts

      m : ℕ
      m = (diagram_in file).outputs

      v : ℕ → Input → ℕ
      v = values_of (diagram_in file)

      go : (b : Bool) → is_narrow n m (functions_of n v) ≡ b → b ≡ true
      go true e = refl
      go false e = let (l, h, more) = wide n m v own-values e in absurd (no_more l h more)

  pub own-table : bytes_of (canonical (diagram_in file).contacts (diagram_in file).outputs
      (functions_of (diagram_in file).contacts (values_of (diagram_in file)))) ≡ without_notes file
  own-table =
      let d = diagram_in file in
      let s = (accepted file t.1).sized in
      let n = d.contacts in
      let m = d.outputs in
      let v = values_of d in
      let table = bytes_of (canonical n m (functions_of n v)) in
      let outputs = canonical-outputs n m v s.contacts s.outputs own-values own-narrow in
      sym (table-without-notes (canonical n m (functions_of n v)))
      ∙ same_bytes table file (canonical-accepted n m v s.contacts s.outputs own-values own-narrow) t
      (canonical-contacts n m v s.contacts s.outputs own-values own-narrow) outputs (λ a h.
      ap (word_at (diagram_in table) (input_of a)) outputs
      ∙ word_same _ _ m (canonical-value n m v s.contacts s.outputs own-values own-narrow (input_of a)))
