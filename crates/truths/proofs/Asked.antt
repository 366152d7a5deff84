-- What a yes to question 16 says of a file.
use Prim.Native.Nat.{ℕ, ◌<◌}
use native.Mathlib.Omega.{arith}
use mathlib.Core.Path.{◌≡◌, refl, ap}
use mathlib.Core.Bool.{Bool, true, false, ◌&&◌, cond}
use mathlib.Core.List.{List}
use lib.Dec.{leb, eqb}
use lib.ListN.{length}
use Rattle.std.specs.Prelude.{Some, None}
use Rattle.fields.specs.Fields.{Item, Fields, fields_of, item_in}
use Rattle.fields.specs.Refusals.{framing_number}
use Rattle.fields.proofs.Bounded.{and_left, and_right}
use Rattle.files.specs.Header.{contacts_in, contacts_number, contacts_of, has_parts}
use Rattle.files.proofs.Heads.{counts}
use Rattle.files.proofs.WholeParts.{has_parts_lem}
use Rattle.functions.proofs.Trees.{Values}
use Rattle.drawing.specs.Drawing.{Drawing, drawing_of, drawing_in, is_drawing, form_of, form_number, drawn_at}
use Rattle.drawing.proofs.Leads.{lead-bit, lead-same, nodes-sound, output-number}
use Rattle.truths.specs.Inner.Words.{Limited}
use Rattle.truths.specs.Promises.{WellFormed}

-- Question 16.
abbrev is_formed : Fields → Bool
is_formed fs =
    eqb (framing_number fs.framing) 0
    && eqb (contacts_number (contacts_in fs.items)) 0
    && has_parts 2 1 1 8 (item_in fs.items 1)
    && has_parts 7 3 0 200 (item_in fs.items 2)
    && leb (length fs.items) 3
    && is_drawing (drawing_of fs.items)

limited-fields : (fs : Fields) → form_number (form_of fs) ≡ 0 → Limited (drawing_of fs.items)
unfolding form_of
limited-fields fs e = go (is_formed fs) refl e
  where
    a : Bool
    a = eqb (framing_number fs.framing) 0

    b : Bool
    b = eqb (contacts_number (contacts_in fs.items)) 0

    c : Bool
    c = has_parts 2 1 1 8 (item_in fs.items 1)

    o : Bool
    o = has_parts 7 3 0 200 (item_in fs.items 2)

    k : Bool
    k = leb (length fs.items) 3

    s : Bool
    s = is_drawing (drawing_of fs.items)

    go : (t : Bool) → is_formed fs ≡ t → form_number (cond t (Some (drawing_of fs.items)) None) ≡ 0 →
        Limited (drawing_of fs.items)
    go true t e =
        let parted = and_left (a && b && c && o) k (and_left (a && b && c && o && k) s t) in
        let first = and_left (a && b && c) o parted in
        let (n, h) = counts fs.items (and_right a b (and_left (a && b) c first)) in
        let is : contacts_of fs.items ≡ n = ap (λ (is : List Item). contacts_of is) h.split in
        let (_, outputs) = has_parts_lem 2 1 1 8 (item_in fs.items 1) (and_right (a && b) c first) in
        let (_, nodes) = has_parts_lem 7 3 0 200 (item_in fs.items 2) (and_right (a && b && c) o parted) in
        record {
          contacts = (omega (arith, h.low), omega (arith, h.high));
          outputs = (omega (arith, outputs.least), omega (arith, outputs.most));
          nodes = nodes.most;
          sound = and_right (a && b && c && o && k) s t;
        }
    go false t e = absurd (omega arith)

pub limited : (file : List ℕ) → WellFormed file → Limited (drawing_in file)
limited file w = limited-fields (fields_of file) w

-- Each output is a function of the contacts.
pub limited-values : (d : Drawing) → Limited d → (j : ℕ) → j < length d.outputs → Values d.contacts (drawn_at d j)
limited-values d l j h =
    let sound = nodes-sound d l.sound in
    let number = output-number d l.sound j h in
    record {
      first = λ x y same. lead-same d.contacts d.nodes sound x y same d.contacts _ number;
      bit = λ x. lead-bit d.contacts d.nodes sound x _ l.contacts.0 number;
    }

-- The parts of a file that question 16 lets through.
pub record Opened (file : List ℕ) (d : Drawing) : Type 0 where
  pub is : d ≡ drawing_in file
  pub well : WellFormed file
  pub limited-parts : Limited d

formed-drawing : (fs : Fields) {d : Drawing} → form_of fs ≡ Some d → d ≡ drawing_of fs.items
unfolding form_of
formed-drawing fs {d} e = go (is_formed fs) e
  where
    go : (b : Bool) → cond b (Some (drawing_of fs.items)) None ≡ Some d → d ≡ drawing_of fs.items
    go true e = cc
    go false e = absurd (let z : ◌≡◌ {A = ℕ} 0 1 = cc in omega arith)

pub opened : (file : List ℕ) {d : Drawing} → form_of (fields_of file) ≡ Some d → Opened file d
opened file f =
    let e = formed-drawing (fields_of file) f in
    let w : WellFormed file = ap form_number f in
    record { is = e; well = w; limited-parts = rw e (limited file w) }
