-- What holds of the result of making gates if something holds of each gate that is made.
use Prim.Native.Nat.{ℕ, zero, suc, ◌+◌, ◌≤◌, ◌<◌}
use native.Mathlib.Nat.{add-zero, add_assoc}
use native.Mathlib.Omega.{arith}
use mathlib.Core.Path.{◌≡◌, refl, ap}
use mathlib.Core.List.{List, [], ◌++◌}
use lib.ListN.{length, get_or, take, drop, length-append, get_or-append}
use lib.Seq.{get_or-append-add}
use Rattle.netlist.specs.declared.Gate.{Gate}
use Rattle.rules.specs.Make.{Make, return, ◌>>=◌, gate, sequence}
use Rattle.rules.specs.Blocks.{Cut, one, two, size, tree}

-- What stands for a gate where a list has none.
abbrev pub any_gate : Gate
any_gate = record { kind = 0; left = 0; right = 0 }

-- Every gate of a list has P at its line, the first at line next.
pub record Each (P : ℕ → Gate → Type 0) (next : ℕ) (gates : List Gate) : Type 0 where
  pub has : (i : ℕ) → i < length gates → P (next + i) (get_or gates i any_gate)

pub each_weaken : {P R : ℕ → Gate → Type 0} {next : ℕ} {gates : List Gate} →
    ((x : ℕ) (g : Gate) → P x g → R x g) → Each P next gates → Each R next gates
each_weaken k e = record { has = λ i h. k _ _ (e.has i h) }

module _ {P : ℕ → Gate → Type 0} {next : ℕ} (a b : List Gate) (e : Each P next (a ++ b)) where
  pub each_left : Each P next a
  each_left =
      record {
        has = λ i h. rw (get_or-append a b any_gate i h) at (e.has i (omega (arith, length-append a b)));
      }

  pub each_right : Each P (next + length a) b
  each_right =
      record {
        has = λ i h.
            rw (get_or-append-add a b i any_gate, ← add_assoc next (length a) i) at
            (e.has (length a + i) (omega (arith, length-append a b)));
      }

-- If every gate that m makes has P, its result has Q.
pub record Ok {A : Type 0} (P : ℕ → Gate → Type 0) (m : Make A) (Q : A → Type 0) : Type 0 where
  pub result : (next : ℕ) → Each P next (m next).0 → Q (m next).1

module _ {P : ℕ → Gate → Type 0} {A : Type 0} {Q : A → Type 0} where
  pub ok-return : {a : A} → Q a → Ok P (return a) Q
  ok-return q = record { result = λ next e. q }

  pub ok-bind : {B : Type 0} {m : Make B} {f : B → Make A} {R : B → Type 0} →
      Ok P m R → ((b : B) → R b → Ok P (f b) Q) → Ok P (m >>= f) Q
  unfolding ◌>>=◌
  ok-bind {m = m} o k =
      record {
        result = λ next e. (k _ (o.result next (each_left (m next).0 _ e))).result _ (each_right (m next).0 _ e);
      }

  pub ok-weaken : {m : Make A} {R : A → Type 0} → Ok P m R → ((a : A) → R a → Q a) → Ok P m Q
  ok-weaken o k = record { result = λ next e. k _ (o.result next e) }

  pub ok-both : {m : Make A} {R : A → Type 0} → Ok P m Q → Ok P m R → Ok P m (λ a. Q a × R a)
  ok-both o o' = record { result = λ next e. (o.result next e, o'.result next e) }

pub ok-gate : {P : ℕ → Gate → Type 0} {Q : ℕ → Type 0} {kind a b : ℕ} →
    ((x : ℕ) → P x (record { kind = kind; left = a; right = b }) → Q x) → Ok P (gate kind a b) Q
ok-gate k = record { result = λ next e. k next (rw (add-zero next) at (e.has 0 (omega arith))) }

-- What is made at so many places from p on: at each place k its Q.
pub record Made {A : Type 0} (Q : ℕ → A → Type 0) (none : A) (count p : ℕ) (made : List A) : Type 0 where
  pub size : length made ≡ count
  pub at : (i k : ℕ) → i < count → k ≡ p + i → Q k (get_or made i none)

module _ {P : ℕ → Gate → Type 0} {A : Type 0} (none : A) where
  pub ok-sequence : (f : ℕ → Make A) {Q : ℕ → A → Type 0} (count p : ℕ) →
      ((k : ℕ) → p ≤ k → k < p + count → Ok P (f k) (Q k)) → Ok P (sequence f count p) (Made Q none count p)
  unfolding sequence
  ok-sequence f zero p o = ok-return (record { size = refl; at = λ i k h. absurd (omega arith) })
  ok-sequence f (suc count) p o =
      ok-bind (o p (omega arith) (omega arith)) (λ a q.
      ok-bind (ok-sequence f count (suc p) (λ k h h'. o k (omega arith) (omega arith))) (λ rest r.
      ok-return (record {
        size = ap suc r.size;
        at = elim [ zero ↦ λ k h e. rw (e, add-zero p) q | suc i ↦ λ k h e. r.at i k (omega arith) (omega arith) ];
      })))

-- What is made row by row, and by column within a row.
pub ok-table : {P : ℕ → Gate → Type 0} {A : Type 0} (none : A) (f : ℕ → ℕ → Make A) {Q : ℕ → ℕ → A → Type 0}
    (rows columns : ℕ) → ((u v : ℕ) → u < rows → v < columns → Ok P (f u v) (Q u v)) →
    Ok P (sequence (λ u. sequence (f u) columns 0) rows 0)
    (λ m. (u v : ℕ) → u < rows → v < columns → Q u v (get_or (get_or m u []) v none))
ok-table none f {Q} rows columns o =
    ok-weaken
    (ok-sequence [] (λ u. sequence (f u) columns 0) {Q = λ u r. Made (Q u) none columns 0 r} rows 0 (λ u _ h.
    ok-sequence none (f u) columns 0 (λ v _ h'. o u v (omega arith) (omega arith))))
    (λ m r u v h h'. (r.at u u h (omega arith)).at v v h' (omega arith))

-- What is made in a tree: Q says what so many elements of a list are joined to.
module _ {P : ℕ → Gate → Type 0} {A : Type 0} (none : A) (join : A → A → Make A) (Q : ℕ → List A → A → Type 0)
    (single : (xs : List A) → Q 1 xs (get_or xs 0 none))
    (both : (k m : ℕ) (xs : List A) (x y : A) → Q k (take k xs) x → Q m (drop k xs) y → Ok P (join x y) (Q (k + m) xs)) where
  pub ok-tree : (c : Cut) (xs : List A) → Ok P (tree none join c xs) (Q (size c) xs)
  unfolding tree
  ok-tree one xs = ok-return (single xs)
  ok-tree (two a b) xs =
      ok-bind (ok-tree a (take (size a) xs)) (λ x qx.
      ok-bind (ok-tree b (drop (size a) xs)) (λ y qy. both (size a) (size b) xs x y qx qy))
