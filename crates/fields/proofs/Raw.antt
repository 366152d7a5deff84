-- What stands at a place, be it a note, by cases; what is made of a file step by step; all fields from a place on.
use Prim.Native.Nat.{ℕ, zero, suc, ◌-◌, ◌≤◌, ◌<◌}
use native.Mathlib.Omega.{arith}
use mathlib.Core.Path.{◌≡◌, refl, sym, ap, ◌∙◌}
use mathlib.Core.Bool.{Bool, true, false, cond}
use mathlib.Core.List.{List}
use borrow.Author.Tests.{leb-true, leb-false, le-leb, lt-leb}
use lib.Dec.{leb}
use lib.ListN.{length}
use Rattle.fields.specs.declared.Field.{Field}
use Rattle.fields.specs.declared.Cursor.{Cursor}
use Rattle.fields.specs.declared.Step.{Step}
use Rattle.fields.specs.declared.Step.TheVariants.{Next, End, Cut}
use Rattle.fields.specs.Fields.{field_at, past, raw_step_at, item_of, before, Fields, fields_after, raw_fields_within, raw_fields_from}

module _ (file : List ℕ) (at : ℕ) where
  pub raw-end : length file ≤ at → End ≡ raw_step_at file at
  unfolding raw_step_at
  raw-end h = simp (le-leb _ _ h)

  pub raw-cut : at < length file → length file < past (field_at file at) → Cut ≡ raw_step_at file at
  unfolding raw_step_at
  raw-cut h g = simp (lt-leb _ _ h, lt-leb _ _ g)

  pub raw-next : at < length file → past (field_at file at) ≤ length file →
      Next (field_at file at) (record { at = past (field_at file at) }) ≡ raw_step_at file at
  unfolding raw_step_at
  raw-next h g = simp (lt-leb _ _ h, le-leb _ _ g)

  -- A field that a step from a place finds ends past it and within the file.
  pub record Stands (f : Field) (c : Cursor) : Type 0 where
    pub moved : c.at ≡ past f
    pub forward : at < past f
    pub within : past f ≤ length file

  pub raw-stands : (f : Field) (c : Cursor) → raw_step_at file at ≡ Next f c → (f ≡ field_at file at) × Stands f c
  unfolding raw_step_at
  raw-stands f c e = go (leb (length file) at) (leb (past g) (length file)) refl refl e
    where
      g : Field
      g = field_at file at

      go : (a b : Bool) → leb (length file) at ≡ a → leb (past g) (length file) ≡ b →
          cond a End (cond b (Next g (record { at = past g })) Cut) ≡ Next f c → (f ≡ g) × Stands f c
      go true b ea eb e = absurd (let z : ◌≡◌ {A = ℕ} 0 1 = cc in omega arith)
      go false true ea eb e =
          let is : f ≡ g = cc in (
            is,
            record {
              moved = ap (λ (k : Cursor). k.at) (let m : c ≡ record { at = past g } = cc in m) ∙ ap past (sym is);
              forward = rw is (let l : at < length file = leb-false _ _ ea in omega arith);
              within = rw is (leb-true _ _ eb);
            },
          )
      go false false ea eb e = absurd (let z : ◌≡◌ {A = ℕ} 0 1 = cc in omega arith)

  -- The end stands only past the bytes.
  pub ends : raw_step_at file at ≡ End → length file ≤ at
  unfolding raw_step_at
  ends = go (leb (length file) at) (leb (past g) (length file)) refl
    where
      g : Field
      g = field_at file at

      go : (a b : Bool) → leb (length file) at ≡ a → cond a End (cond b (Next g (record { at = past g })) Cut) ≡ End →
          length file ≤ at
      go true b ea e = leb-true _ _ ea
      go false true ea e = absurd (let z : ◌≡◌ {A = ℕ} 0 1 = cc in omega arith)
      go false false ea e = absurd (let z : ◌≡◌ {A = ℕ} 0 1 = cc in omega arith)

-- What is made of a file step by step, in at most so many steps, where a step looks only at what is made from the place past it.
module _ {A : Type 0} (file : List ℕ) (made : ℕ → ℕ → A) (make : (ℕ → A) → Step → A)
    (step : (n at : ℕ) → made (suc n) at ≡ make (made n) (raw_step_at file at))
    (local : (p q : ℕ → A) (s : Step) → ((f : Field) (c : Cursor) → s ≡ Next f c → p c.at ≡ q c.at) → make p s ≡ make q s) where
  -- Any number of steps above what is left makes the same.
  enough : (m n at : ℕ) → length file - at < m → length file - at < n → made m at ≡ made n at
  enough zero n at h g = absurd (omega arith)
  enough (suc m) zero at h g = absurd (omega arith)
  enough (suc m) (suc n) at h g =
      step m at
      ∙ local (made m) (made n) (raw_step_at file at)
      (λ f c e. let s = (raw-stands file at f c e).1 in enough m n c.at (omega arith) (omega arith))
      ∙ sym (step n at)

  pub unrolled : (at : ℕ) {s : Step} → raw_step_at file at ≡ s → made (suc (length file)) at ≡ make (made (suc (length file))) s
  unrolled at {s} e =
      step (length file) at
      ∙ ap (make (made (length file))) e
      ∙ local (made (length file)) (made (suc (length file))) s
      (λ f c q. let g = (raw-stands file at f c (e ∙ q)).1 in enough (length file) (suc (length file)) c.at (omega arith) (omega arith))

-- All fields from a place on are what the step there leads to.
pub raw-walk : (file : List ℕ) (at : ℕ) {s : Step} → raw_step_at file at ≡ s →
    raw_fields_from file at ≡ fields_after file (raw_fields_from file) s
unfolding raw_fields_from raw_fields_within
raw-walk file at e = unrolled file (λ n. raw_fields_within n file) (fields_after file) (λ n k. refl) local at e
  where
    local : (p q : ℕ → Fields) (s : Step) → ((f : Field) (c : Cursor) → s ≡ Next f c → p c.at ≡ q c.at) →
        fields_after file p s ≡ fields_after file q s
    local p q (Next f c) h = ap (before (item_of file f)) (h f c refl)
    local p q End h = refl
    local p q Cut h = refl
