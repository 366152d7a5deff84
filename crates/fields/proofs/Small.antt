-- Lists of bytes: what is put together from bytes, and the values in a file of bytes.
use Prim.Native.Nat.{ℕ, zero, suc, ◌/◌, ◌%◌, ◌<◌}
use native.Mathlib.Omega.{arith}
use mathlib.Core.Path.{◌≡◌}
use mathlib.Core.List.{List, [], ◌∷◌, ◌++◌, flat_map}
use lib.ListN.{length, get_or}
use Rattle.fields.specs.declared.Framing.TheVariants.{Whole}
use Rattle.fields.specs.Fields.{Bytes, Item, raw_fields_from, fields_of, value_in, field_bytes, encoded}
use Rattle.fields.proofs.Encoding.{file-is-row}
use Rattle.fields.proofs.Every.{Every, every-at}
use Rattle.fields.proofs.Notes.{Plain, fields-have}

-- Every element is below 256.
pub data Small : List ℕ → Type 0 where
  none : Small []
  first : (x : ℕ) {l : List ℕ} → x < 256 → Small l → Small (x ∷ l)

pub bytes : {l : List ℕ} → Small l → Bytes l
bytes none i = omega arith
bytes (first x h s) zero = h
bytes (first x h s) (suc i) = bytes s i

pub small : (l : List ℕ) → ((i : ℕ) → i < length l → get_or l i 0 < 256) → Small l
small [] h = none
small (x ∷ l) h = first x (h 0 (omega arith)) (small l (λ i g. h (suc i) (omega arith)))

both : {l m : List ℕ} → Small l → Small m → Small (l ++ m)
both none t = t
both (first x h s) t = first x h (both s t)

-- A number of two bytes.
pub two : {l : List ℕ} (x : ℕ) → x < 65536 → Small l → Small (x / 256 ∷ x % 256 ∷ l)
two x h s = first (x / 256) (omega arith) (first (x % 256) (omega arith) s)

pub each : {A : Type 0} (f : A → List ℕ) (xs : List A) (d : A) →
    ((i : ℕ) → i < length xs → Small (f (get_or xs i d))) → Small (flat_map f xs)
unfolding flat_map
each f [] d h = none
each f (x ∷ xs) d h = both (h 0 (omega arith)) (each f xs d (λ i l. h (suc i) (omega arith)))

-- A field, and a row of fields.
pub field-small : (i : Item) {l : List ℕ} → i.tag < 256 → length i.value < 65536 → Small i.value → Small l → Small (field_bytes i ++ l)
field-small i t n v s = first i.tag t (two (length i.value) n (both v s))

pub fields-small : (is : List Item) (d : Item) →
    ((k : ℕ) → k < length is → let i = get_or is k d in (i.tag < 256) × (length i.value < 65536) × Small i.value) → Small (encoded is)
unfolding encoded
fields-small [] d h = none
fields-small (i ∷ is) d h =
    let f = h 0 (omega arith) in
    field-small i f.0 f.1 f.2 (fields-small is d (λ k l. h (suc k) (omega arith)))

-- The parts of a list of bytes.
left : (l m : List ℕ) → Bytes (l ++ m) → Bytes l
left [] m b i = omega arith
left (x ∷ l) m b zero = b 0
left (x ∷ l) m b (suc i) = left l m (λ k. b (suc k)) i

right : (l m : List ℕ) → Bytes (l ++ m) → Bytes m
right [] m b = b
right (x ∷ l) m b = right l m (λ k. b (suc k))

-- Each value in a row of fields.
abbrev HasBytes : Item → Type 0
HasBytes i = Bytes i.value

values : (is : List Item) → Bytes (encoded is) → Every HasBytes is
unfolding encoded
values [] b = tt
values (i ∷ is) b =
    (left i.value (encoded is) (λ k. b (suc (suc (suc k)))), values is (right (field_bytes i) (encoded is) b))

pub value-bytes : (file : List ℕ) → Bytes file → (fields_of file).framing ≡ Whole → (k : ℕ) → Bytes (value_in (fields_of file).items k)
value-bytes file b w k =
    (every-at (λ (i : Item). Plain i × HasBytes i) (fields_of file).items (record { tag = 0; value = [] }) (omega arith, λ j. omega arith)
    (fields-have HasBytes file (values (raw_fields_from file 0).items (rw (file-is-row file b w) b))) k).1
