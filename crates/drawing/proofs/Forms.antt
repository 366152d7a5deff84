-- Question 16 by its tests.
use Prim.Native.Nat.{ℕ, zero, suc, ◌*◌, ◌-◌, ◌≤◌, ◌<◌}
use native.Mathlib.Numerals.{one-add}
use native.Mathlib.Omega.{arith}
use mathlib.Core.Path.{◌≡◌, refl, sym, ap, ◌∙◌}
use mathlib.Core.Bool.{Bool, true, false, ◌&&◌, and-false}
use mathlib.Core.List.{List, [], ◌∷◌}
use borrow.Author.Tests.{lt-ltb, le-ltb, leb-false, lt-leb}
use lib.Dec.{ltb, leb, eqb}
use lib.ListN.{length, get_or}
use Rattle.std.specs.Prelude.{Option, Some, None}
use Rattle.std.specs.Option as std
use Rattle.std.specs.List.{list_all, range_with_len}
use Rattle.std.proofs.lemmas.List.FromFn.{length-range_with_len, get_or-range_with_len}
use Rattle.fields.specs.declared.Field.{Field}
use Rattle.fields.specs.Bounded.{all}
use Rattle.fields.specs.Fields.{Item, Fields, item_in, value_in}
use Rattle.fields.specs.Refusals.{framing_number}
use Rattle.fields.proofs.Bounded.{and_left, all-add, all-agree}
use Rattle.files.specs.Header.{contacts_in, has_parts}
use Rattle.files.specs.Inner.Row.{is_some, item_by, ends_within}
use Rattle.files.proofs.Heads.{contacts-are}
use Rattle.files.proofs.Taking.{three-or-four}
use Rattle.drawing.specs.declared.form.Parts.{Parts}
use Rattle.drawing.specs.Drawing.{Drawing, drawing_of, node_count, is_number, is_above, is_node, is_drawing, parted, form_of}

-- Whether each element passes, and each number below a bound.
pub all-listed : (p : ℕ → Bool) (xs : List ℕ) → list_all p xs ≡ all (length xs) (λ k. p (get_or xs k 0))
unfolding all
all-listed p [] = refl
all-listed p (x ∷ xs) =
    ap (◌&&◌ (p x)) (all-listed p xs ∙ all-agree (length xs) _ _ (λ k h. ap (λ (i : ℕ). p (get_or (x ∷ xs) i 0)) (sym (one-add k))))
    ∙ sym (all-add (λ k. p (get_or (x ∷ xs) k 0)) 1 (length xs))
    ∙ ap (λ (n : ℕ). all n (λ k. p (get_or (x ∷ xs) k 0))) (one-add (length xs))

pub all-range : (p : ℕ → Bool) (n : ℕ) → list_all p (range_with_len 0 n) ≡ all n p
all-range p n =
    all-listed p (range_with_len 0 n)
    ∙ ap (λ (m : ℕ). all m (λ k. p (get_or (range_with_len 0 n) k 0))) (length-range_with_len 0 n)
    ∙ all-agree n _ p (λ k h. ap p (get_or-range_with_len 0 n k 0 h ∙ omega arith))

-- A field of the row, once it is known whether it is there.
pub of_row : (file : List ℕ) {f : Option Field} {i : Item} (g : Option Field) → item_by file f ≡ i → f ≡ g → item_by file g ≡ i
of_row file g at e = sym (ap (item_by file) e) ∙ at

pub there : (f : Option Field) → std.is_some f ≡ is_some f
there None = refl
there (Some f) = refl

-- A number against a level.
module _ (nodes : List ℕ) (l : ℕ) where
  pub above-constant : (v : ℕ) → v < 2 → true ≡ is_above nodes l v
  unfolding is_above
  above-constant zero h = refl
  above-constant (suc zero) h = refl
  above-constant (suc (suc i)) h = absurd (omega arith)

  pub above-unlisted : (v : ℕ) → 2 ≤ v → node_count nodes ≤ v - 2 → false ≡ is_above nodes l v
  unfolding is_above
  above-unlisted zero h g = absurd (omega arith)
  above-unlisted (suc zero) h g = absurd (omega arith)
  above-unlisted (suc (suc i)) h g = simp (le-ltb i (node_count nodes) (omega arith))

  pub above_listed : (v : ℕ) → 2 ≤ v → v - 2 < node_count nodes → ltb l (get_or nodes (3 * (v - 2)) 0) ≡ is_above nodes l v
  unfolding is_above
  above_listed zero h g = absurd (omega arith)
  above_listed (suc zero) h g = absurd (omega arith)
  above_listed (suc (suc i)) h g =
      let e : suc (suc i) - 2 ≡ i = omega arith in
      ap (λ (k : ℕ). ltb l (get_or nodes (3 * k) 0)) e ∙ simp (lt-ltb i (node_count nodes) (omega arith))

module _ (fs : Fields) where
  -- What was found is the drawing of the file's items.
  pub parted-is : (p : Parts) → contacts_in fs.items ≡ Some p.contacts → p.outputs.now ≡ value_in fs.items 1 →
      p.nodes.now ≡ value_in fs.items 2 → parted p ≡ drawing_of fs.items
  parted-is p c e f =
      let n = sym (contacts-are fs.items c) in λ i. record { contacts = n i; outputs = e i; nodes = f i }

  pub uncounted : contacts_in fs.items ≡ None → None ≡ form_of fs
  unfolding form_of
  uncounted e = simp (e, and-false)

  pub first-misparted : has_parts 2 1 1 8 (item_in fs.items 1) ≡ false → None ≡ form_of fs
  unfolding form_of
  first-misparted e = simp (e, and-false)

  pub second-misparted : has_parts 7 3 0 200 (item_in fs.items 2) ≡ false → None ≡ form_of fs
  unfolding form_of
  second-misparted e = simp (e, and-false)

  pub too_many : leb 4 (length fs.items) ≡ true → None ≡ form_of fs
  unfolding form_of
  too_many e = simp (three-or-four (length fs.items) true e, and-false)

  pub unended : ends_within 4 fs ≡ false → None ≡ form_of fs
  unfolding form_of
  unended = go (eqb (framing_number fs.framing) 0) refl
    where
      go : (b : Bool) → eqb (framing_number fs.framing) 0 ≡ b → (b && leb (length fs.items) 4) ≡ false → None ≡ form_of fs
      go true w e = simp (lt-leb (length fs.items) 3 (omega (arith, leb-false (length fs.items) 4 e)), and-false)
      go false w e = simp w

  pub unsound : is_drawing (drawing_of fs.items) ≡ false → None ≡ form_of fs
  unfolding form_of
  unsound e = simp (e, and-false)

  pub formed : {n : ℕ} → contacts_in fs.items ≡ Some n →
      has_parts 2 1 1 8 (item_in fs.items 1) ≡ true → has_parts 7 3 0 200 (item_in fs.items 2) ≡ true →
      leb 4 (length fs.items) ≡ false → ends_within 4 fs ≡ true → is_drawing (drawing_of fs.items) ≡ true → Some (drawing_of fs.items) ≡ form_of fs
  unfolding form_of
  formed e p q f m s =
      let w = and_left (eqb (framing_number fs.framing) 0) (leb (length fs.items) 4) m in
      simp (w, e, p, q, three-or-four (length fs.items) false f, s)

-- The nodes, then the outputs.
module _ (d : Drawing) where
  pub nodes-wrong : all (node_count d.nodes) (is_node d.contacts d.nodes) ≡ false → false ≡ is_drawing d
  unfolding is_drawing
  nodes-wrong e = simp e

  pub nodes-right : all (node_count d.nodes) (is_node d.contacts d.nodes) ≡ true →
      {b : Bool} → b ≡ all (length d.outputs) (λ j. is_number d.nodes (get_or d.outputs j 0)) → b ≡ is_drawing d
  unfolding is_drawing
  nodes-right e f = f ∙ simp e
