-- What is written reads back as it was: the file of a diagram holds that diagram.
use Prim.Native.Nat.{ℕ, suc, ◌*◌, ◌/◌, ◌%◌, ◌≤◌, ◌<◌}
use native.Mathlib.Decide.{dec_lt}
use native.Mathlib.Nat.{div-add-mod', eq-or-lt_of_le}
use native.Mathlib.Omega.{arith}
use mathlib.Core.Path.{◌≡◌, sym, ap, ap₂, ◌∙◌}
use mathlib.Core.Logic.{⊎_elim}
use mathlib.Core.Bool.{true}
use mathlib.Core.List.{List, [], ◌∷◌}
use lib.ListN.{get_or, drop, length-map, get_or-eq_default}
use lib.Seq.{ext_get_or}
use Rattle.fields.specs.Fields.{Bytes, Item}
use Rattle.fields.specs.Bounded.{listed}
use Rattle.fields.specs.Refusals.{first_no}
use Rattle.fields.proofs.Refusals.{first-last}
use Rattle.fields.proofs.Listed.{length-listed, listed_at}
use Rattle.diagram.specs.declared.Diagram.{Diagram}
use Rattle.diagram.specs.Diagram.{width, edge_at, root}
use Rattle.diagram.specs.Questions.{Sized, Tidy, in_range}
use Rattle.diagram.proofs.Asked.{width_is}
use Rattle.diagram.proofs.Paths.{width-last, root_in, edge_at-in}
use Rattle.table.specs.Encode.{level_item, items_of, contents_of, table_bytes}
use Rattle.table.specs.Promises.{Accepted, TableReadsBack}
use Rattle.table.specs.Table.{levels_of, diagram_of, diagram_refusal, table_refusal}
use Rattle.table.proofs.Accepted.{reduced}
use Rattle.table.proofs.Decoded.{half}
use Rattle.table.proofs.Laid.{width_of, edge_of, root-of}
use Rattle.table.proofs.Padded.{length-padded}
use Rattle.table.proofs.Written.{Limits, diagram-back, level-back, fields-pass, bytes_back}

-- A list by place of numbers that are 0 from n on.
listed-zeros : (n : ℕ) (f : ℕ → ℕ) (i : ℕ) → (n ≤ i → f i ≡ 0) → get_or (listed f n 0) i 0 ≡ f i
listed-zeros n f i past = go (dec_lt i n)
  where
    go : Dec (i < n) → get_or (listed f n 0) i 0 ≡ f i
    go (yes h) = listed_at f n i 0 h
    go (no h) = get_or-eq_default (listed f n 0) 0 (omega (arith, length-listed f n 0)) ∙ sym (past (omega arith))

-- The diagram, array by array.
module _ (d : Diagram) (t : Tidy d) where
  edges_at : (l : ℕ) → get_or (levels_of (items_of (contents_of d))) l [] ≡ listed (edge_at d l) (2 * get_or d.widths l 0) 0
  unfolding listed
  edges_at l = go (dec_lt l d.contacts)
    where
      go : Dec (l < d.contacts) → get_or (levels_of (items_of (contents_of d))) l [] ≡ listed (edge_at d l) (2 * get_or d.widths l 0) 0
      go (yes h) =
          level-back (contents_of d) l h
          ∙ ap (λ (w : ℕ). listed (edge_at d l) (2 * w) 0) (sym (width_is d l h))
      go (no h) =
          let n = length-listed (level_item (contents_of d)) d.contacts 0 in
          let m = length-map (drop 2 (items_of (contents_of d))) (λ (i : Item). i.value) in
          get_or-eq_default (levels_of (items_of (contents_of d))) [] (omega arith)
          ∙ sym (ap (λ (w : ℕ). listed (edge_at d l) (2 * w) 0) (t.widths l (omega arith)))

  roots-back : (diagram_of (items_of (contents_of d))).roots ≡ d.roots
  unfolding diagram_of root
  roots-back =
      let n = length-padded 8 (listed (root d) d.outputs 0) in
      ext_get_or 0 _ _ (n ∙ sym t.lengths.0) (λ j h.
      root-of (items_of (contents_of d)) j (omega arith) ∙ listed-zeros d.outputs (root d) j (t.roots j))

  widths-back : (diagram_of (items_of (contents_of d))).widths ≡ d.widths
  unfolding diagram_of
  widths-back =
      let n = length-padded 12 _ in
      ext_get_or 0 _ _ (n ∙ sym t.lengths.1) (λ l h.
      let w = get_or d.widths l 0 in
      width_of (items_of (contents_of d)) l (omega arith) ∙ ap half (edges_at l) ∙ omega (arith, length-listed (edge_at d l) (2 * w) 0))

  edges-back : (diagram_of (items_of (contents_of d))).edges ≡ d.edges
  unfolding diagram_of edge_at
  edges-back =
      let n = length-padded 192 _ in
      ext_get_or 0 _ _ (n ∙ sym t.lengths.2) (λ i h.
      let l = i / 16 in
      let k = i % 16 in
      rw (← div-add-mod' i 16)
      (edge_of (items_of (contents_of d)) l k (omega arith) (omega arith) ∙ ap (λ (v : List ℕ). get_or v k 0) (edges_at l)
      ∙ listed-zeros _ (edge_at d l) k (λ g. t.edges l k g (omega arith))))

  diagram-is : diagram_of (items_of (contents_of d)) ≡ d
  unfolding diagram_of
  diagram-is = λ i.
      record {
        contacts = d.contacts;
        outputs = length-listed (root d) d.outputs 0 i;
        roots = roots-back i;
        widths = widths-back i;
        edges = edges-back i;
      }

limits : (d : Diagram) → Sized d → Limits (contents_of d)
limits d s = record { contacts = s.contacts; outputs = s.outputs; widths = s.widths }

pub table-reads-back : TableReadsBack
table-reads-back d s t =
    (fields-pass (contents_of d) (limits d s), diagram-back (contents_of d) ∙ diagram-is d t)

-- Questions 5 to 7 decide, and where they let the diagram through the file is one of bytes.
pub written-refusal : (d : Diagram) → Sized d → Tidy d → table_refusal (table_bytes d) ≡ diagram_refusal d
unfolding table_refusal
written-refusal d s t =
    let b = table-reads-back d s t in
    ap₂ (λ (k : ℕ) (e : Diagram). first_no (k ∷ diagram_refusal e ∷ [])) b.0 b.1 ∙ first-last (diagram_refusal d)

width-most : (d : Diagram) → Sized d → (l : ℕ) → l ≤ d.contacts → width d l ≤ 8
width-most d s l h =
    ⊎_elim (λ e. omega (arith, ap (width d) e, width-last d)) (λ g. (s.widths l g).1) (eq-or-lt_of_le h)

pub written-bytes : (d : Diagram) → Sized d → in_range d ≡ true → Bytes (table_bytes d)
written-bytes d s ranged =
    bytes_back (contents_of d) (limits d s)
    (λ j h. omega (arith, root_in d ranged j h, width-most d s 0 (omega arith)))
    (λ l k h g. omega (arith, edge_at-in d ranged l k h g, width-most d s (suc l) h))

pub written-accepted : (d : Diagram) → Sized d → Tidy d → diagram_refusal d ≡ 0 → Accepted (table_bytes d)
written-accepted d s t z = (written-bytes d s (reduced d z).ranged, written-refusal d s t ∙ z)
