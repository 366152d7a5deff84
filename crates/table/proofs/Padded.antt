-- Lists cut or filled up to a length, and levels laid one after the other.
use Prim.Native.Nat.{ℕ, zero, suc, ◌+◌, ◌*◌, ◌≤◌, ◌<◌, min}
use native.Mathlib.Nat.{zero-add, suc-add, zero-min, min-zero, suc-min-suc}
use native.Mathlib.Omega.{arith}
use mathlib.Core.Path.{◌≡◌, refl, sym, ap, ◌∙◌}
use mathlib.Core.List.{List, [], ◌∷◌, ◌++◌, flat_map, append_assoc}
use lib.ListN.{length, get_or, take, drop, set, replicate}
use lib.Seq.{paste}
use borrow.Rule.Slice.PartMut.{put_mid, mid_of}
use Rattle.std.proofs.Common.{length-take, length-drop, take-append-drop}
use Rattle.std.proofs.lemmas.List.{drop-append-le}
use lib.Seq.{drop-drop}
use Rattle.fields.proofs.Parts.{length-parts, part_at}
use Rattle.table.specs.Table.{padded}

pub length-padded : (n : ℕ) (l : List ℕ) → length (padded n l) ≡ n
unfolding padded
length-padded zero l = refl
length-padded (suc n) [] = ap suc (length-padded n [])
length-padded (suc n) (x ∷ xs) = ap suc (length-padded n xs)

pub padded-at : (n : ℕ) (l : List ℕ) (i : ℕ) → i < n → get_or (padded n l) i 0 ≡ get_or l i 0
unfolding padded
padded-at zero l i h = absurd (omega arith)
padded-at (suc n) [] zero h = refl
padded-at (suc n) [] (suc i) h = padded-at n [] i (omega arith)
padded-at (suc n) (x ∷ xs) zero h = refl
padded-at (suc n) (x ∷ xs) (suc i) h = padded-at n xs i (omega arith)

pub padded-none : (n : ℕ) → replicate n 0 ≡ padded n []
unfolding padded
padded-none zero = refl
padded-none (suc n) = ap {B = List ℕ} (λ r. 0 ∷ r) (padded-none n)

-- Past the list there is 0.
pub padded-past : (n : ℕ) (l : List ℕ) (i : ℕ) → length l ≤ i → get_or (padded n l) i 0 ≡ 0
unfolding padded
padded-past zero l i h = refl
padded-past (suc n) [] zero h = refl
padded-past (suc n) [] (suc i) h = padded-past n [] i (omega arith)
padded-past (suc n) (x ∷ xs) zero h = absurd (omega arith)
padded-past (suc n) (x ∷ xs) (suc i) h = padded-past n xs i (omega arith)

-- Past the length nothing is seen.
pub padded-cut : (xs ys : List ℕ) (n : ℕ) → n ≤ length xs → padded n xs ≡ padded n (xs ++ ys)
unfolding padded
padded-cut xs ys zero h = refl
padded-cut [] ys (suc n) h = absurd (omega arith)
padded-cut (x ∷ xs) ys (suc n) h = ap {B = List ℕ} (λ r. x ∷ r) (padded-cut xs ys n (omega arith))

-- A write at the end of what is there.
pub padded-set : (n : ℕ) (xs : List ℕ) (a : ℕ) → length xs < n → set (padded n xs) (length xs) a ≡ padded n (xs ++ (a ∷ []))
unfolding padded
padded-set zero xs a h = absurd (omega arith)
padded-set (suc n) [] a h = refl
padded-set (suc n) (x ∷ xs) a h = ap {B = List ℕ} (λ r. x ∷ r) (padded-set n xs a (omega arith))

blank : (m n : ℕ) → padded n [] ≡ padded n (padded m [])
unfolding padded
blank m zero = refl
blank zero (suc n) = refl
blank (suc m) (suc n) = ap {B = List ℕ} (λ r. 0 ∷ r) (blank m n)

-- The first elements of v, at most m, on an empty list.
over-blank : (m n : ℕ) (v : List ℕ) → m ≤ n →
    take (min m (length v)) v ++ drop (min m (length v)) (padded n []) ≡ padded n (padded m v)
unfolding padded
over-blank zero n v h = rw (zero-min (length v))
over-blank (suc m) n [] h = rw (min-zero (suc m)) (blank (suc m) n)
over-blank (suc m) zero (y ∷ ys) h = absurd (omega arith)
over-blank (suc m) (suc n) (y ∷ ys) h =
    rw (suc-min-suc m (length ys)) (ap {B = List ℕ} (λ r. y ∷ r) (over-blank m n ys (omega arith)))

pub padded-paste : (n m : ℕ) (xs v : List ℕ) → length xs + m ≤ n →
    paste (padded n xs) (length xs) v (min m (length v)) ≡ padded n (xs ++ padded m v)
unfolding padded
padded-paste n m [] v h = rw (zero-add (min m (length v))) (over-blank m n v (omega arith))
padded-paste zero m (x ∷ xs) v h = absurd (omega arith)
padded-paste (suc n) m (x ∷ xs) v h =
    rw (suc-add (length xs) (min m (length v))) (ap {B = List ℕ} (λ r. x ∷ r) (padded-paste n m xs v (omega arith)))

-- A value copied to the front of a part of m places, as far as there is room.
module _ (a m : ℕ) (xs v : List ℕ) (room : a + m ≤ length xs) (k : ℕ) (size : k ≡ m) where
  part-long : length (mid_of a k xs) ≡ m
  part-long = simp (length-take, length-drop) (omega arith)

  rest-is : (n : ℕ) → n ≤ m → drop (0 + n) (mid_of a k xs) ++ drop k (drop a xs) ≡ drop (a + n) xs
  rest-is n h =
      let within : n ≤ length (mid_of a k xs) = omega (arith, part-long) in
      rw (zero-add n) (sym (drop-append-le n (mid_of a k xs) (drop k (drop a xs)) within)
      ∙ ap (drop n) (take-append-drop k (drop a xs)) ∙ drop-drop n a xs)

  pub put_mid-front : {ys : List ℕ} → ys ≡ paste (mid_of a k xs) 0 v (min (length (mid_of a k xs)) (length v)) →
      put_mid a k xs ys ≡ paste xs a v (min m (length v))
  put_mid-front e =
      let n = min m (length v) in
      rw (e, part-long)
      (ap (λ (l : List ℕ). take a xs ++ l)
      (append_assoc (take n v) (drop (0 + n) (mid_of a k xs)) (drop k (drop a xs)) ∙ ap (λ (l : List ℕ). take n v ++ l) (rest-is n (omega arith)))
      ∙ sym (append_assoc (take a xs) (take n v) (drop (a + n) xs)))

padded-padded : (n : ℕ) (l : List ℕ) → padded n (padded n l) ≡ padded n l
unfolding padded
padded-padded zero l = refl
padded-padded (suc n) [] = ap {B = List ℕ} (λ r. 0 ∷ r) (padded-padded n [])
padded-padded (suc n) (x ∷ xs) = ap {B = List ℕ} (λ r. x ∷ r) (padded-padded n xs)

blank-paste : (n : ℕ) (v : List ℕ) → paste (replicate n 0) 0 v (min n (length v)) ≡ padded n v
blank-paste n v =
    ap (λ (l : List ℕ). paste l 0 v (min n (length v))) (padded-none n) ∙ padded-paste n n [] v (omega arith) ∙ padded-padded n v

-- A list, as far as it goes, on an empty one.
pub pasted : (n : ℕ) {l u v : List ℕ} → l ≡ paste (replicate n 0) 0 u (min n (length u)) → u ≡ v → l ≡ padded n v
pasted n {l} {u} {v} e f = e ∙ blank-paste n u ∙ ap (padded n) f

-- Levels one after the other, 16 bytes each.
pub length-flat : (ls : List (List ℕ)) → length (flat_map (padded 16) ls) ≡ length ls * 16
length-flat = length-parts (padded 16) 16 (length-padded 16)

pub flat-at : (ls : List (List ℕ)) (l k : ℕ) → k < 16 → get_or (flat_map (padded 16) ls) (l * 16 + k) 0 ≡ get_or (get_or ls l []) k 0
flat-at ls l k h = part_at (padded 16) 16 (length-padded 16) [] (padded-at 16 []) ls l k h ∙ padded-at 16 (get_or ls l []) k h
