-- The diagram of a file that passes questions 1 to 4 keeps the limits, and its arrays are 0 past its counts.
use Prim.Native.Nat.{ℕ, ◌+◌, ◌*◌, ◌%◌, ◌≤◌, ◌<◌}
use native.Mathlib.Decide.{dec_lt}
use native.Mathlib.Omega.{arith}
use mathlib.Core.Path.{◌≡◌, ap, ◌∙◌}
use mathlib.Core.List.{List, [], map, flat_map}
use lib.ListN.{length, get_or, drop, length-map, get_or-eq_default}
use Rattle.fields.specs.Fields.{Item, fields_of, value_in}
use Rattle.diagram.specs.Diagram.{edge_at, root}
use Rattle.table.specs.Promises.{ReadTidy}
use Rattle.table.specs.Table.{padded, levels_of, edges_of, diagram_of, diagram_in, fields_refusal}
use Rattle.table.proofs.Decoded.{half}
use Rattle.table.proofs.Heads.{level-at, level-count}
use Rattle.table.proofs.Laid.{value-at, width_of, edge_of}
use Rattle.table.proofs.Padded.{length-padded, padded-past}
use Rattle.table.proofs.Shaped.{shaped, sized}

module _ (file : List ℕ) (z : fields_refusal file ≡ 0) where
  abbrev is : List Item
  is = (fields_of file).items

  level-count-is : length (levels_of is) ≡ (diagram_in file).contacts
  level-count-is =
      length-map (drop 2 is) (λ (i : Item). i.value) ∙ level-count (diagram_in file).contacts (drop 2 is) (shaped file z).levels

  -- A level has an even number of bytes, and none past the last.
  even : (l : ℕ) → length (get_or (levels_of is) l []) % 2 ≡ 0
  even l = go (dec_lt l (diagram_in file).contacts)
    where
      go : Dec (l < (diagram_in file).contacts) → length (get_or (levels_of is) l []) % 2 ≡ 0
      go (yes h) = ap (λ (v : List ℕ). length v % 2) (value-at (drop 2 is) l) ∙ (level-at _ (drop 2 is) (shaped file z).levels l h).1.whole
      go (no h) =
          ap (λ (v : List ℕ). length v % 2) (get_or-eq_default (levels_of is) [] (omega (arith, level-count-is)))

  no_edge : (l k : ℕ) → 2 * get_or (diagram_in file).widths l 0 ≤ k → k < 16 → edge_at (diagram_in file) l k ≡ 0
  unfolding diagram_of edge_at
  no_edge l k h g = go (dec_lt l 12)
    where
      go : Dec (l < 12) → edge_at (diagram_in file) l k ≡ 0
      go (yes f) =
          edge_of is l k f g
          ∙ get_or-eq_default (get_or (levels_of is) l []) 0 (let w = width_of is l f in let e = even l in omega arith)
      go (no f) =
          get_or-eq_default (edges_of is) 0 {n = l * 16 + k} (omega (arith, length-padded 192 (flat_map (padded 16) (levels_of is))))

pub read-tidy : ReadTidy
unfolding diagram_of root
read-tidy file z =
    let is = (fields_of file).items in (
      sized file (shaped file z),
      record {
        lengths = (length-padded 8 _, length-padded 12 _, length-padded 192 _);
        roots = padded-past 8 (value_in is 1);
        widths = λ l h. padded-past 12 (map half (levels_of is)) l (omega (arith, length-map (levels_of is) half, level-count-is file z));
        edges = no_edge file z;
      },
    )
