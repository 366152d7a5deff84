-- What a walk takes: the field at a place, by the step there, and the first four fields of a file.
use Prim.Native.Nat.{ℕ, ◌+◌, ◌-◌}
use native.Mathlib.Omega.{arith}
use mathlib.Core.Path.{◌≡◌, refl, sym, ap, ◌∙◌}
use mathlib.Core.Bool.{Bool, true, false, not, ◌&&◌, and-false}
use mathlib.Core.List.{List}
use borrow.Author.Tests.{leb-true, leb-false, le-leb, lt-leb}
use lib.Dec.{leb, eqb}
use lib.ListN.{length, drop, length-drop}
use lib.Seq.{drop-drop}
use Rattle.fields.specs.declared.Field.{Field}
use Rattle.fields.specs.declared.Step.{Step}
use Rattle.fields.specs.declared.Step.TheVariants.{Next, End, Cut}
use Rattle.fields.specs.Refusals.{framing_number}
use Rattle.fields.specs.Fields.{Item, Fields, item_in, fields_from, fields_of}
use Rattle.fields.specs.Inner.Walk.{step_at}
use Rattle.fields.proofs.Places.{item-at}
use Rattle.fields.proofs.Steps.{walk, items-next, from_start}
use Rattle.std.specs.Prelude.{Option, Some, None}
use Rattle.files.specs.Inner.Row.{ends_within, behind, Takes, is_some, item_by, Follows, Opens}

module _ (file : List ℕ) (at : ℕ) where
  -- A walk that finds no field stays, and one that finds a field goes past it.
  pub stayed : Takes file at None → Follows file at None at
  stayed e =
      record {
        found = sym (ap (λ (is : List Item). leb 1 (length is)) e);
        field = ap (λ (is : List Item). item_in is 0) (sym e);
        past = ap (λ (is : List Item). record { items = is; framing = (fields_from file at).framing }) (e ∙ ap (drop 1) (sym e));
      }

  pub went_on : (f : Field) (past : ℕ) → Takes file at (Some (f, past)) → Follows file at (Some f) past
  went_on f past e =
      let items = ap (λ (fs : Fields). fs.items) e in
      record {
        found = sym (le-leb 1 (length (fields_from file at).items) (omega (arith, ap (λ (is : List Item). length is) items)));
        field = ap (λ (is : List Item). item_in is 0) (sym items);
        past = ap (behind 1) (sym e);
      }

  -- What stands at the file's end, and what at a field or a part of one.
  pub ends-here : step_at file at ≡ End → true ≡ ends_within 0 (fields_from file at)
  ends-here e = sym (ap (ends_within 0) (walk file at e))

  pub goes_on : (s : Step) → step_at file at ≡ s → (s ≡ End → ⊥) → false ≡ ends_within 0 (fields_from file at)
  goes_on (Next f c) e o =
      let is = (fields_from file at).items in
      let whole = eqb (framing_number (fields_from file at).framing) 0 in
      let more = lt-leb (length is) 0 (omega (arith, ap (λ (is : List Item). length is) (items-next file at e))) in
      sym (ap (◌&&◌ whole) more ∙ and-false whole)
  goes_on End e o = absurd (o refl)
  goes_on Cut e o = sym (ap (ends_within 0) (walk file at e))

-- A field past the first k of some fields.
module _ (file : List ℕ) (fs : Fields) (k : ℕ) {at : ℕ} (start : fields_from file at ≡ behind k fs) {f : Option Field} {next : ℕ} (h : Follows file at f next) where
  pub field-taken : item_by file f ≡ item_in fs.items k
  field-taken = h.field ∙ ap (λ (fs : Fields). item_in fs.items 0) start ∙ item-at fs.items k

  pub walked_on : fields_from file next ≡ behind (k + 1) fs
  walked_on =
      h.past ∙ ap (behind 1) start
      ∙ ap (λ (is : List Item). record { items = is; framing = fs.framing }) (drop-drop 1 k fs.items)

  pub found-more : is_some f ≡ leb (k + 1) (length fs.items)
  found-more =
      h.found ∙ ap (λ (fs : Fields). leb 1 (length fs.items)) start ∙ ap (leb 1) (length-drop k fs.items)
      ∙ counted (leb (k + 1) (length fs.items)) refl
    where
      n : ℕ
      n = length fs.items - k

      counted : (b : Bool) → leb (k + 1) (length fs.items) ≡ b →
          leb 1 (length fs.items - k) ≡ leb (k + 1) (length fs.items)
      counted true e = le-leb 1 n (omega (arith, leb-true (k + 1) (length fs.items) e)) ∙ sym e
      counted false e = lt-leb 1 n (omega (arith, leb-false (k + 1) (length fs.items) e)) ∙ sym e

-- What is left past k fields ends there if the file ends within k.
pub ends-past : (k : ℕ) (fs : Fields) → ends_within 0 (behind k fs) ≡ ends_within k fs
ends-past k fs =
    let n = length fs.items in
    ap (◌&&◌ (eqb (framing_number fs.framing) 0)) (ap (λ (m : ℕ). leb m 0) (length-drop k fs.items) ∙ counted n (leb n k) refl)
  where
    counted : (n : ℕ) (b : Bool) → leb n k ≡ b → leb (n - k) 0 ≡ leb n k
    counted n true e = le-leb (n - k) 0 (omega (arith, leb-true n k e)) ∙ sym e
    counted n false e = lt-leb (n - k) 0 (omega (arith, leb-false n k e)) ∙ sym e

pub opened-by : (file : List ℕ) {f g h i : Option Field} {a b c d : ℕ} {ends : Bool} → Follows file 0 f a → Follows file a g b →
    Follows file b h c → Follows file c i d → ends ≡ ends_within 0 (fields_from file d) →
    Opens file (record { first = f; second = g; third = h; fourth = i; ends = ends })
opened-by file a b c d e =
    let none = from_start file refl in
    let one = walked_on file (fields_of file) 0 none a in
    let two = walked_on file (fields_of file) 1 one b in
    let three = walked_on file (fields_of file) 2 two c in
    record {
      first = field-taken file (fields_of file) 0 none a;
      second = field-taken file (fields_of file) 1 one b;
      third = field-taken file (fields_of file) 2 two c;
      fourth = field-taken file (fields_of file) 3 three d;
      four = found-more file (fields_of file) 3 three d;
      ends = e ∙ ap (ends_within 0) (walked_on file (fields_of file) 3 three d) ∙ ends-past 4 (fields_of file);
    }

-- There are at most three fields exactly if there is no fourth.
pub three-or-four : (n : ℕ) (b : Bool) → leb 4 n ≡ b → leb n 3 ≡ not b
three-or-four n true e = lt-leb n 3 (omega (arith, leb-true 4 n e))
three-or-four n false e = le-leb n 3 (omega (arith, leb-false 4 n e))
