-- A file whose fields are whole is the encoding of all its fields, and an encoding has just the fields that went into it.
use Prim.Native.Nat.{ℕ, zero, suc, ◌+◌, ◌-◌, ◌/◌, ◌%◌, ◌≤◌, ◌<◌}
use native.Mathlib.Nat.{div-add-mod'}
use native.Mathlib.Numerals.{add-one, add-two, add-three}
use native.Mathlib.Omega.{arith}
use mathlib.Core.Path.{◌≡◌, refl, sym, ap, ◌∙◌}
use mathlib.Core.List.{List, [], ◌∷◌, ◌++◌, append_assoc}
use lib.ListN.{length, get_or, take, drop, length-append, length-drop, take-append-drop, drop_of_length-le}
use lib.Seq.{drop-cons, drop-drop, length-take-le, get_or-append_seam, get_or-append-add, drop-append-add, take-append_seam}
use Rattle.fields.specs.declared.Framing.TheVariants.{Whole}
use Rattle.fields.specs.declared.Step.{Step}
use Rattle.fields.specs.declared.Step.TheVariants.{Next, End, Cut}
use Rattle.fields.specs.Fields.{Bytes, Item, Fields, field_at, past, raw_step_at, value_of, item_of, before, raw_fields_from, but_notes, fields_from, fields_of, field_bytes, encoded}
use Rattle.fields.proofs.Raw.{raw-stands, ends, raw-walk, raw-next, raw-end}
use Rattle.fields.specs.Promises.{FileIsRow, RowIsRead}

-- A field's bytes after a prefix are read as that field, and what follows is read next.
module _ (p : List ℕ) (i : Item) (rest : List ℕ) where
  abbrev file : List ℕ
  file = p ++ (field_bytes i ++ rest)

  field : field_at file (length p) ≡ record { tag = i.tag; start = length p + 3; len = length i.value }
  field = simp (get_or-append_seam, get_or-append-add, div-add-mod')

  item : item_of file (field_at file (length p)) ≡ i
  unfolding value_of
  item =
      ap (item_of file) field ∙
      simp drop-append-add (ap (λ (v : List ℕ). record { tag = i.tag; value = v }) (take-append_seam i.value rest))

  next : raw_fields_from file (length p) ≡ before i (raw_fields_from file (length p + 3 + length i.value))
  next =
      let l : length file ≡ length p + (3 + (length i.value + length rest)) = simp length-append (omega arith) in
      let e : past (field_at file (length p)) ≡ length p + 3 + length i.value = ap past field in
      raw-walk file (length p) (sym (raw-next file (length p) (omega arith) (omega arith))) ∙ cc item

-- An encoding after a prefix is read as its items.
after : (p : List ℕ) (is : List Item) → raw_fields_from (p ++ encoded is) (length p) ≡ record { items = is; framing = Whole }
unfolding encoded
after p [] = raw-walk (p ++ []) (length p) (sym (raw-end (p ++ []) (length p) (simp length-append (omega arith))))
after p (i ∷ is) =
    let l : length (p ++ field_bytes i) ≡ length p + 3 + length i.value = simp length-append (omega arith) in
    next p i (encoded is) ∙ ap (before i) (cc (after (p ++ field_bytes i) is, append_assoc p (field_bytes i) (encoded is)))

pub row-is-read : RowIsRead
unfolding fields_of fields_from
row-is-read is = ap (λ (fs : Fields). record { items = but_notes fs.items; framing = fs.framing }) (after [] is)

module _ (file : List ℕ) (b : Bytes file) where
  -- From a field that fits on, a file is that field's bytes and then what is past it.
  split : (at : ℕ) → past (field_at file at) ≤ length file →
      drop at file ≡ field_bytes (item_of file (field_at file at)) ++ drop (past (field_at file at)) file
  unfolding value_of
  split at h =
      let f = field_at file at in
      let d = drop f.start file in
      let v = take f.len d in
      let l : length v ≡ f.len = length-take-le f.len d (simp length-drop (omega arith)) in
      let high : get_or file (at + 1) 0 ≡ length v / 256 = omega (arith, b (at + 2)) in
      let low : get_or file (at + 2) 0 ≡ length v % 256 = omega (arith, b (at + 2)) in
      let first = drop-cons file at 0 (omega arith) in
      let second = drop-cons file (suc at) 0 (omega arith) in
      let third = drop-cons file (suc (suc at)) 0 (omega arith) in
      cc (add-one at, add-two at, add-three at, take-append-drop f.len d, drop-drop f.len f.start file)

  -- From a place on, whole fields are what is left of the file.
  from : (fuel at : ℕ) → length file - at < fuel → (raw_fields_from file at).framing ≡ Whole →
      encoded (raw_fields_from file at).items ≡ drop at file
  unfolding encoded
  from zero at h w = absurd (omega arith)
  from (suc fuel) at h w = go (from fuel) (raw_step_at file at) refl
    where
      go : ((k : ℕ) → length file - k < fuel → (raw_fields_from file k).framing ≡ Whole →
          encoded (raw_fields_from file k).items ≡ drop k file) →
          (s : Step) → raw_step_at file at ≡ s → encoded (raw_fields_from file at).items ≡ drop at file
      go rest (Next f c) e =
          let s = raw-stands file at f c e in
          let here = raw-walk file at e in
          let r = rest c.at (omega arith) (cc) in
          ap (λ (fs : Fields). encoded fs.items) here ∙ cc (split at (rw s.0 at s.1.within))
      go rest End e = ap (λ (fs : Fields). encoded fs.items) (raw-walk file at e) ∙ sym (drop_of_length-le file (ends file at e))
      go rest Cut e = absurd (let z : ◌≡◌ {A = ℕ} 0 1 = cc (raw-walk file at e) in omega arith)

pub file-is-row : FileIsRow
unfolding fields_of fields_from
file-is-row file b w = from file b (suc (length file)) 0 (omega arith) w
