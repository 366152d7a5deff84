-- What stands at a place once notes are passed over, and the laws by which a walk of a file yields its fields.
use Prim.Native.Nat.{ℕ, zero, suc, ◌-◌, ◌≤◌, ◌<◌}
use native.Mathlib.Omega.{arith}
use mathlib.Core.Path.{◌≡◌, refl, sym, ap, ◌∙◌}
use mathlib.Core.Bool.{Bool, true, false, cond}
use mathlib.Core.List.{List, [], ◌∷◌}
use borrow.Author.Tests.{le-leb, lt-leb}
use lib.ListN.{length}
use Rattle.fields.specs.declared.Field.{Field}
use Rattle.fields.specs.declared.Cursor.{Cursor}
use Rattle.fields.specs.declared.Step.{Step}
use Rattle.fields.specs.declared.Step.TheVariants.{Next, End, Cut}
use Rattle.fields.specs.Fields.{raw_step_at, item_of, before, Fields, fields_after, raw_fields_from, is_note, but_notes, fields_from, fields_of}
use Rattle.fields.specs.Inner.Walk.{past_notes, step_within, step_at}
use Rattle.fields.proofs.Raw.{Stands, raw-stands, unrolled, raw-walk}

-- What stands at a place once notes are passed over.
step_past : (file : List ℕ) (at : ℕ) {s : Step} → raw_step_at file at ≡ s → step_at file at ≡ past_notes (step_at file) s
unfolding step_at step_within
step_past file at e = unrolled file (λ n. step_within n file) past_notes (λ n k. refl) local at e
  where
    local : (p q : ℕ → Step) (s : Step) → ((f : Field) (c : Cursor) → s ≡ Next f c → p c.at ≡ q c.at) →
        past_notes p s ≡ past_notes q s
    local p q (Next f c) h = ap (λ (s : Step). cond (is_note f.tag) s (Next f c)) (h f c refl)
    local p q End h = refl
    local p q Cut h = refl

-- The fields that are read from a place on, and what stands there, by the raw step.
module _ (file : List ℕ) (at : ℕ) where
  read_by : {s : Step} → raw_step_at file at ≡ s → let fs = fields_after file (raw_fields_from file) s in
      fields_from file at ≡ record { items = but_notes fs.items; framing = fs.framing }
  unfolding fields_from
  read_by e = ap (λ (fs : Fields). record { items = but_notes fs.items; framing = fs.framing }) (raw-walk file at e)

  module _ {f : Field} {c : Cursor} (e : raw_step_at file at ≡ Next f c) where
    read_next : (b : Bool) → is_note f.tag ≡ b →
        fields_from file at ≡ cond b (fields_from file c.at) (before (item_of file f) (fields_from file c.at))
    unfolding fields_from but_notes
    read_next true n = read_by e ∙ cc n
    read_next false n = read_by e ∙ cc n

    -- A note is passed over, and any other field is the one that stands there.
    step-next : {b : Bool} → is_note f.tag ≡ b → step_at file at ≡ cond b (step_at file c.at) (Next f c)
    step-next n = step_past file at e ∙ ap (λ (b : Bool). cond b (step_at file c.at) (Next f c)) n

    pub past-note : 128 ≤ f.tag → step_at file at ≡ step_at file c.at
    past-note h = step-next (le-leb _ _ h)

    pub no_note : f.tag < 128 → step_at file at ≡ Next f c
    no_note h = step-next (lt-leb _ _ h)

-- A step that finds no field, be it a note, is the one that stands there: one that is none of `Next`, the first variant.
pub step-none : (file : List ℕ) (at : ℕ) (s : Step) → raw_step_at file at ≡ s → ((f : Field) (c : Cursor) → s ≡ Next f c → ⊥) →
    step_at file at ≡ s
step-none file at (Next f c) e o = absurd (o f c refl)
step-none file at End e o = step_past file at e
step-none file at Cut e o = step_past file at e

-- The fields from a place on are what the step there leads to.
walk-to : (fuel : ℕ) (file : List ℕ) (at : ℕ) → length file - at < fuel →
    fields_from file at ≡ fields_after file (fields_from file) (step_at file at)
unfolding but_notes
walk-to zero file at h = absurd (omega arith)
walk-to (suc fuel) file at h = go (walk-to fuel file) (raw_step_at file at) refl
  where
    after : Step → Fields
    after = fields_after file (fields_from file)

    go : ((k : ℕ) → length file - k < fuel → fields_from file k ≡ after (step_at file k)) →
        (s : Step) → raw_step_at file at ≡ s → fields_from file at ≡ after (step_at file at)
    go rest (Next f c) e = found (is_note f.tag) refl
      where
        found : (b : Bool) → is_note f.tag ≡ b → fields_from file at ≡ after (step_at file at)
        found true n =
            let s = (raw-stands file at f c e).1 in
            read_next file at e _ n ∙ rest c.at (omega arith) ∙ ap after (sym (step-next file at e n))
        found false n = read_next file at e _ n ∙ ap after (sym (step-next file at e n))
    go rest End e = read_by file at e ∙ ap after (sym (step_past file at e))
    go rest Cut e = read_by file at e ∙ ap after (sym (step_past file at e))

pub walk : (file : List ℕ) (at : ℕ) {s : Step} → step_at file at ≡ s → fields_from file at ≡ fields_after file (fields_from file) s
walk file at e = walk-to (suc (length file)) file at (omega arith) ∙ ap (fields_after file (fields_from file)) e

-- A step goes forward and stays within the file, past notes too.
stands_by : (fuel : ℕ) (file : List ℕ) (at : ℕ) (f : Field) (c : Cursor) → length file - at < fuel → step_at file at ≡ Next f c →
    Stands file at f c
stands_by zero file at f c h e = absurd (omega arith)
stands_by (suc fuel) file at f c h e = go (λ (k : ℕ). stands_by fuel file k f c) (raw_step_at file at) refl
  where
    go : ((k : ℕ) → length file - k < fuel → step_at file k ≡ Next f c → Stands file k f c) →
        (s : Step) → raw_step_at file at ≡ s → Stands file at f c
    go rest (Next g d) r = found (is_note g.tag) refl
      where
        s : Stands file at g d
        s = (raw-stands file at g d r).1

        found : (b : Bool) → is_note g.tag ≡ b → Stands file at f c
        found true n =
            let t = rest d.at (omega (arith, s)) (sym (step-next file at r n) ∙ e) in
            record { moved = t.moved; forward = omega (arith, s, t); within = t.within }
        found false n =
            let q : Next g d ≡ Next f c = sym (step-next file at r n) ∙ e in
            rw (let l : f ≡ g = cc in l, let l : c ≡ d = cc in l) s
    go rest End r = absurd (let z : ◌≡◌ {A = ℕ} 0 1 = cc (step_past file at r) in omega arith)
    go rest Cut r = absurd (let z : ◌≡◌ {A = ℕ} 0 1 = cc (step_past file at r) in omega arith)

pub stands : (file : List ℕ) (at : ℕ) (f : Field) (c : Cursor) → step_at file at ≡ Next f c → Stands file at f c
stands file at f c e = stands_by (suc (length file)) file at f c (omega arith) e

-- The fields from the start are those of the file.
pub from_start : (file : List ℕ) {at : ℕ} → at ≡ 0 → fields_from file at ≡ fields_of file
unfolding fields_of
from_start file e = ap (fields_from file) e

pub items-next : (file : List ℕ) (at : ℕ) {f : Field} {c : Cursor} → step_at file at ≡ Next f c →
    (fields_from file at).items ≡ item_of file f ∷ (fields_from file c.at).items
items-next file at e = ap (λ (fs : Fields). fs.items) (walk file at e)

-- The fields end where the step is none of `Next`, the first variant.
pub ended : (file : List ℕ) (at : ℕ) (s : Step) → step_at file at ≡ s → ((f : Field) (c : Cursor) → s ≡ Next f c → ⊥) →
    (fields_from file at).items ≡ []
ended file at (Next f c) e o = absurd (o f c refl)
ended file at End e o = ap (λ (fs : Fields). fs.items) (walk file at e)
ended file at Cut e o = ap (λ (fs : Fields). fs.items) (walk file at e)
