-- Table files by what their fields say: they pass questions 1 to 4, and their diagrams have just these outputs, widths and edges.
use Prim.Native.Nat.{ℕ, ◌*◌, ◌≤◌, ◌<◌}
use native.Mathlib.Omega.{arith}
use mathlib.Core.Path.{◌≡◌, refl, sym, ap, ◌∙◌}
use mathlib.Core.Bool.{Bool, cond}
use mathlib.Core.List.{List, [], ◌∷◌}
use borrow.Author.Tests.{le-leb}
use lib.ListN.{length, get_or, drop}
use Rattle.std.specs.Prelude.{Some, None}
use Rattle.fields.specs.declared.Framing.TheVariants.{Whole}
use Rattle.fields.specs.Fields.{Bytes, Item, Fields, fields_of, encoded}
use Rattle.fields.specs.Bounded.{listed}
use Rattle.fields.specs.Refusals.{first_no}
use Rattle.fields.proofs.Listed.{length-listed, listed_at}
use Rattle.fields.proofs.Every.{every-listed}
use Rattle.fields.proofs.Notes.{Plain, of-encoded}
use Rattle.fields.proofs.Small.{Small, none, first, bytes, small, field-small, fields-small}
use Rattle.files.specs.Header.{contacts_in, contacts_of}
use Rattle.files.proofs.Heads.{field}
use Rattle.files.proofs.WholeParts.{whole_parts}
use Rattle.diagram.specs.Diagram.{width, edge_at, root}
use Rattle.diagram.proofs.Asked.{width_is}
use Rattle.table.specs.declared.fit.Levels.TheVariants.{Given, Lacking}
use Rattle.table.specs.Promises.{TableWithoutNotes}
use Rattle.table.specs.Encode.{Contents, level_item, items_of, bytes_of}
use Rattle.table.specs.Table.{outputs_in, levels_in, levels_of, diagram_of, diagram_in, fields_refusal}
use Rattle.table.proofs.Decoded.{half}
use Rattle.table.proofs.Heads.{are-levels}
use Rattle.table.proofs.Laid.{value-at, width_of, edge_of, root-of}
use Rattle.table.proofs.Refusals.{fields-by}

-- The limits that questions 2 to 4 ask for.
pub record Limits (c : Contents) : Type 0 where
  pub contacts : (1 ≤ c.contacts) × (c.contacts ≤ 12)
  pub outputs : (1 ≤ c.outputs) × (c.outputs ≤ 8)
  pub widths : (l : ℕ) → l < c.contacts → (1 ≤ c.width l) × (c.width l ≤ 8)

pub fields_back : (c : Contents) → fields_of (bytes_of c) ≡ record { items = items_of c; framing = Whole }
unfolding bytes_of
fields_back c =
    of-encoded (items_of c)
    (omega arith, (omega arith, every-listed Plain (level_item c) c.contacts 0 (λ l h. omega arith)))

pub table-without-notes : TableWithoutNotes
unfolding bytes_of
table-without-notes c = ap (λ (fs : Fields). encoded fs.items) (fields_back c)

-- The diagram that the file holds.
pub diagram-back : (c : Contents) → diagram_in (bytes_of c) ≡ diagram_of (items_of c)
diagram-back c = ap (λ (fs : Fields). diagram_of fs.items) (fields_back c)

pub level-back : (c : Contents) (l : ℕ) → l < c.contacts →
    get_or (levels_of (items_of c)) l [] ≡ listed (c.edge l) (2 * c.width l) 0
level-back c l h =
    value-at (drop 2 (items_of c)) l
    ∙ ap (λ (i : Item). i.value) (listed_at (level_item c) c.contacts l (field 0 []) h)

module _ (c : Contents) (s : Limits c) where
  pub root-back : (j : ℕ) → j < c.outputs → root (diagram_of (items_of c)) j ≡ c.root j
  root-back j h = root-of (items_of c) j (omega (arith, s.outputs)) ∙ listed_at c.root c.outputs j 0 h

  pub width_back : (l : ℕ) → l < c.contacts → width (diagram_of (items_of c)) l ≡ c.width l
  unfolding diagram_of
  width_back l h =
      sym (width_is (diagram_of (items_of c)) l h) ∙ width_of (items_of c) l (omega (arith, s.contacts)) ∙ ap half (level-back c l h)
      ∙ omega (arith, length-listed (c.edge l) (2 * c.width l) 0)

  pub edge-back : (l k : ℕ) → l < c.contacts → k < 2 * c.width l → edge_at (diagram_of (items_of c)) l k ≡ c.edge l k
  edge-back l k h g =
      edge_of (items_of c) l k (omega (arith, s.contacts)) (omega (arith, s.widths l h))
      ∙ ap (λ (v : List ℕ). get_or v k 0) (level-back c l h) ∙ listed_at (c.edge l) (2 * c.width l) k 0 g

  -- Questions 1 to 4.
  contacts-given : contacts_in (items_of c) ≡ Some c.contacts
  unfolding contacts_in
  contacts-given = simp (le-leb _ _ s.contacts.0, le-leb _ _ s.contacts.1)

  outputs-given : outputs_in (drop 1 (items_of c)) ≡ Some c.outputs
  unfolding outputs_in
  outputs-given =
      let v = listed c.root c.outputs 0 in
      let n = length-listed c.root c.outputs 0 in
      let m = s.outputs in
      ap (λ (b : Bool). cond b (Some (length v)) None) (whole_parts 2 1 1 8 v (omega arith) (omega arith) (omega arith))
      ∙ ap Some n

  levels-given : levels_in c.contacts (drop 2 (items_of c)) ≡ Given
  levels-given =
      let ls = listed (level_item c) c.contacts 0 in
      let n = length-listed (level_item c) c.contacts 0 in
      let e = are-levels ls (λ l h.
      rw (listed_at (level_item c) c.contacts l (field 0 []) (omega arith))
      (let w = s.widths l (omega arith) in
      let m = length-listed (c.edge l) (2 * c.width l) 0 in
      (refl, record { whole = omega arith; least = omega arith; most = omega arith }))) in
      ap (λ (b : Bool). cond b Given Lacking) (rw n at e)

  pub fields-pass : fields_refusal (bytes_of c) ≡ 0
  unfolding first_no
  fields-pass =
      sym (fields-by (bytes_of c) Whole (Some c.contacts) (Some c.outputs) Given
      (ap (λ (fs : Fields). fs.framing) (fields_back c))
      (ap (λ (fs : Fields). contacts_in fs.items) (fields_back c) ∙ contacts-given)
      (ap (λ (fs : Fields). outputs_in (drop 1 fs.items)) (fields_back c) ∙ outputs-given)
      (ap (λ (fs : Fields). levels_in (contacts_of fs.items) (drop 2 fs.items)) (fields_back c) ∙ levels-given))

listed_small : (n : ℕ) (f : ℕ → ℕ) → ((i : ℕ) → i < n → f i < 256) → Small (listed f n 0)
listed_small n f h =
    let l = length-listed f n 0 in
    small (listed f n 0) (λ i g. rw (listed_at f n i 0 (omega arith)) (h i (omega arith)))

-- What names only small numbers is a file of bytes.
pub bytes_back : (c : Contents) → Limits c → ((j : ℕ) → j < c.outputs → c.root j < 256) →
    ((l k : ℕ) → l < c.contacts → k < 2 * c.width l → c.edge l k < 256) → Bytes (bytes_of c)
unfolding bytes_of encoded
bytes_back c s roots edges =
    let n = length-listed (level_item c) c.contacts 0 in
    bytes
    (field-small (field 1 (c.contacts ∷ [])) (omega arith) (omega arith) (first c.contacts (omega (arith, s.contacts)) none)
    (field-small (field 2 (listed c.root c.outputs 0)) (omega arith) (omega (arith, s.outputs, length-listed c.root c.outputs 0))
    (listed_small c.outputs c.root roots)
    (fields-small (listed (level_item c) c.contacts 0) (field 0 []) (λ l h.
    let g : l < c.contacts = omega arith in
    rw (listed_at (level_item c) c.contacts l (field 0 []) g) (
      omega arith,
      omega (arith, s.widths l g, length-listed (c.edge l) (2 * c.width l) 0),
      listed_small (2 * c.width l) (c.edge l) (λ k i. edges l k g i),
    )))))
