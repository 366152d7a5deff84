-- A diagram decoded level by level: what the arrays hold once some levels are passed.
use Prim.Native.Nat.{ℕ, ◌+◌, ◌*◌, ◌/◌, ◌≤◌, ◌<◌, min}
use native.Mathlib.Omega.{arith}
use mathlib.Core.Path.{◌≡◌, refl, sym, ap, ap₂, ◌∙◌}
use mathlib.Core.List.{List, [], ◌∷◌, ◌++◌, map, flat_map, append-nil, append_assoc, map-append}
use lib.ListN.{length, set, drop, replicate, length-append, length-map, length-replicate}
use lib.Seq.{paste}
use Rattle.files.specs.Header.{contacts_of}
use Rattle.fields.specs.Fields.{Item, value_in}
use Rattle.fields.proofs.Parts.{flat_append}
use Rattle.table.specs.Table.{padded, levels_of, diagram_of}
use Rattle.table.proofs.Padded.{length-padded, padded-none, padded-cut, padded-set, padded-paste, length-flat}

abbrev pub half : List ℕ → ℕ
half v = length v / 2

abbrev values : List Item → List (List ℕ)
values = map (λ (i : Item). i.value)

-- Of the levels ls so many are passed, the fields left are m, and the arrays hold the passed ones.
pub record Decoded (ls : List (List ℕ)) (level : ℕ) (m : List Item) (widths edges : List ℕ) : Type 0 where
  pub passed : List (List ℕ)
  pub split : ls ≡ passed ++ values m
  pub count : length passed ≡ level
  pub widths-are : widths ≡ padded 12 (map half passed)
  pub edges_are : edges ≡ padded 192 (flat_map (padded 16) passed)

pub decoded-none : (is : List Item) {m : List Item} → m ≡ drop 2 is → Decoded (levels_of is) 0 m (replicate 12 0) (replicate 192 0)
unfolding flat_map
decoded-none is e =
    record {
      passed = [];
      split = ap values (sym e);
      count = refl;
      widths-are = padded-none 12;
      edges_are = padded-none 192;
    }

module _ {ls : List (List ℕ)} {level : ℕ} {m : List Item} {widths edges : List ℕ} (s : Decoded ls level m widths edges) where
  pub length-widths : length widths ≡ 12
  length-widths = ap length s.widths-are ∙ length-padded 12 (map half s.passed)

  pub length-edges : length edges ≡ 192
  length-edges = ap length s.edges_are ∙ length-padded 192 (flat_map (padded 16) s.passed)

  -- The arrays are as long as they came.
  pub kept-widths : {ws : List ℕ} → ws ≡ replicate 12 0 → length widths ≡ length ws
  kept-widths e = length-widths ∙ sym (ap length e ∙ length-replicate {A = ℕ} 12 0)

  pub kept-edges : {es : List ℕ} → es ≡ replicate 192 0 → length edges ≡ length es
  kept-edges e = length-edges ∙ sym (ap length e ∙ length-replicate {A = ℕ} 192 0)

  pub decoded-one : level < 12 → {i : Item} {r : List Item} → m ≡ i ∷ r → {v : List ℕ} → v ≡ i.value →
      Decoded ls (level + 1) r (set widths level (half v)) (paste edges (level * 16) v (min 16 (length v)))
  unfolding flat_map
  decoded-one h {i} {r} d {v} w =
      let p = s.passed in
      let n = s.count in
      let k : length (map half p) ≡ level = length-map p half ∙ n in
      let f : length (flat_map (padded 16) p) ≡ level * 16 = length-flat p ∙ ap (λ (k : ℕ). k * 16) n in
      record {
        passed = p ++ (v ∷ []);
        split =
            s.split ∙ ap (λ (x : List (List ℕ)). p ++ x) (ap values d ∙ ap (λ (u : List ℕ). u ∷ values r) (sym w))
            ∙ sym (append_assoc p (v ∷ []) (values r));
        count = length-append p (v ∷ []) ∙ omega arith;
        widths-are =
            ap₂ (λ (ws : List ℕ) (l : ℕ). set ws l (half v)) s.widths-are (sym k) ∙ padded-set 12 (map half p) (half v) (omega arith)
            ∙ ap (padded 12) (sym (map-append half p (v ∷ [])));
        edges_are =
            ap₂ (λ (es : List ℕ) (l : ℕ). paste es l v (min 16 (length v))) s.edges_are (sym f)
            ∙ padded-paste 192 16 (flat_map (padded 16) p) v (omega arith)
            ∙ ap (padded 192) (ap (λ (x : List ℕ). flat_map (padded 16) p ++ x) (sym (append-nil (padded 16 v))) ∙ sym (flat_append (padded 16) p (v ∷ [])));
      }

  -- The arrays hold all levels once none is left, or once they are full.
  pub none_left : m ≡ [] → (widths ≡ padded 12 (map half ls)) × (edges ≡ padded 192 (flat_map (padded 16) ls))
  none_left d =
      let e : s.passed ≡ ls = sym (s.split ∙ ap (λ (m : List Item). s.passed ++ values m) d ∙ append-nil s.passed) in (
        s.widths-are ∙ ap (λ (l : List (List ℕ)). padded 12 (map half l)) e,
        s.edges_are ∙ ap (λ (l : List (List ℕ)). padded 192 (flat_map (padded 16) l)) e,
      )

  pub none-fits : 12 ≤ level → (widths ≡ padded 12 (map half ls)) × (edges ≡ padded 192 (flat_map (padded 16) ls))
  none-fits h =
      let p = s.passed in
      let n = s.count in
      let k : length (map half p) ≡ level = length-map p half ∙ n in
      let f : length (flat_map (padded 16) p) ≡ level * 16 = length-flat p ∙ ap (λ (k : ℕ). k * 16) n in (
        s.widths-are ∙ padded-cut (map half p) (map half (values m)) 12 (omega arith)
            ∙ ap (padded 12) (sym (map-append half p (values m)) ∙ ap (map half) (sym s.split)),
        s.edges_are ∙ padded-cut (flat_map (padded 16) p) (flat_map (padded 16) (values m)) 192 (omega arith)
            ∙ ap (padded 192) (sym (flat_append (padded 16) p (values m)) ∙ ap (flat_map (padded 16)) (sym s.split)),
      )

pub diagram-is : (is : List Item) {contacts outputs : ℕ} {roots widths edges : List ℕ} → contacts ≡ contacts_of is →
    outputs ≡ length (value_in is 1) → roots ≡ padded 8 (value_in is 1) →
    (widths ≡ padded 12 (map half (levels_of is))) × (edges ≡ padded 192 (flat_map (padded 16) (levels_of is))) →
    record { contacts = contacts; outputs = outputs; roots = roots; widths = widths; edges = edges } ≡ diagram_of is
unfolding diagram_of
diagram-is is c o r l = λ i. record { contacts = c i; outputs = o i; roots = r i; widths = l.0 i; edges = l.1 i }
