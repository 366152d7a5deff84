-- What holds of the gates that are made: their kinds, where their sources lie, and how deep they are.
use Prim.Native.Nat.{ℕ, zero, suc, ◌+◌, ◌*◌, ◌-◌, ◌≤◌, ◌<◌, max}
use native.Mathlib.Nat.{add-zero, add_assoc, mul-le-mul_right}
use native.Mathlib.Decide.{dec_lt}
use native.Mathlib.Omega.{arith}
use mathlib.Core.Path.{◌≡◌, refl, ap}
use mathlib.Core.List.{List, ◌++◌}
use lib.ListN.{length, get_or, length-append, length-take, length-drop, get_or-append}
use lib.Seq.{get_or-append-add}
use Rattle.netlist.specs.declared.Gate.{Gate}
use Rattle.rules.specs.Make.{Make, return, ◌>>=◌, gate, sequence}
use Rattle.rules.specs.Blocks.{Cut, one, two, size, tree}
use Rattle.rules.proofs.Makes.{any_gate, Each, each_left, each_right}
use Rattle.rules.proofs.Every.{Every, none, more, every_map, every_take, every_drop}
use Rattle.rules.proofs.Heights.{height}

-- Line x has S, lies below line next, and has at most depth e.
pub record Lies (S : ℕ → Type 0) (δ : ℕ → ℕ) (e next x : ℕ) : Type 0 where
  pub has : S x
  pub below : x < next
  pub depth : δ x ≤ e

-- A gate's line has S, and is at most one deeper than its deeper source.
abbrev pub Rises : (ℕ → Type 0) → (ℕ → ℕ) → ℕ → Gate → Type 0
Rises S δ x g = S x × (δ x ≤ suc (max (δ g.left) (δ g.right)))

-- A gate's kind, that its sources have S and lie below its own line, and its depth.
pub record LaidGate (S : ℕ → Type 0) (δ : ℕ → ℕ) (most x : ℕ) (g : Gate) : Type 0 where
  pub kind : g.kind ≤ 1
  pub left : S g.left × (g.left < x)
  pub right : S g.right × (g.right < x)
  pub depth : δ x ≤ most

pub each-join : {P : ℕ → Gate → Type 0} {next : ℕ} (a b : List Gate) → Each P next a → Each P (next + length a) b →
    Each P next (a ++ b)
each-join {P} {next} a b ea eb = record { has = λ i h. go i (omega (arith, length-append a b)) (dec_lt i (length a)) }
  where
    go : (i : ℕ) → i < length a + length b → Dec (i < length a) → P (next + i) (get_or (a ++ b) i any_gate)
    go i h (yes l) = rw (get_or-append a b any_gate i l) (ea.has i l)
    go i h (no n) =
        let k = i - length a in
        let p : i ≡ length a + k = omega arith in
        rw (p, get_or-append-add a b k any_gate, ← add_assoc next (length a) k) (eb.has k (omega arith))

-- If the gates that m makes from line next on rise, they are laid, and Q holds of the line after them and of the result.
pub record Lays (S : ℕ → Type 0) (δ : ℕ → ℕ) (most : ℕ) {A : Type 0} (m : Make A) (next : ℕ) (Q : ℕ → A → Type 0) : Type 0 where
  pub laid : Each (Rises S δ) next (m next).0 →
      Each (LaidGate S δ most) next (m next).0 × Q (next + length (m next).0) (m next).1

module _ {S : ℕ → Type 0} {δ : ℕ → ℕ} {most : ℕ} {A : Type 0} {next : ℕ} {Q : ℕ → A → Type 0} where
  pub lays-return : {a : A} → Q next a → Lays S δ most (return a) next Q
  lays-return q = record { laid = λ e. (record { has = λ i h. absurd (omega arith) }, rw (add-zero next) q) }

  pub lays-bind : {B : Type 0} {m : Make B} {f : B → Make A} {R : ℕ → B → Type 0} → Lays S δ most m next R →
      ((mid : ℕ) (b : B) → next ≤ mid → R mid b → Lays S δ most (f b) mid Q) → Lays S δ most (m >>= f) next Q
  unfolding ◌>>=◌
  lays-bind {m = m} {f} o k =
      record {
        laid = λ e.
            let (wa, s) = o.laid (each_left (m next).0 _ e) in
            let (wb, q) = (k _ _ (omega arith) s).laid (each_right (m next).0 _ e) in
            (each-join (m next).0 _ wa wb, rw (length-append (m next).0, ← add_assoc next) q);
      }

  pub lays-weaken : {m : Make A} {R : ℕ → A → Type 0} → Lays S δ most m next R →
      ((end : ℕ) (a : A) → next ≤ end → R end a → Q end a) → Lays S δ most m next Q
  lays-weaken o k = record { laid = λ e. let (w, s) = o.laid e in (w, k _ _ (omega arith) s) }

module _ {S : ℕ → Type 0} {δ : ℕ → ℕ} {most : ℕ} where
  pub lays-gate : {e kind a b next : ℕ} → kind ≤ 1 → Lies S δ e next a → Lies S δ e next b → suc e ≤ most →
      Lays S δ most (gate kind a b) next (λ end x. Lies S δ (suc e) end x)
  lays-gate {next = next} known la lb fits =
      record {
        laid = λ e.
            let (own, rise) = rw (add-zero next) at (e.has 0 (omega arith)) in
            let laid : LaidGate S δ most next _ =
            record { kind = known; left = (la.has, la.below); right = (lb.has, lb.below); depth = omega arith } in (
              record { has = elim [ zero ↦ λ h. rw (add-zero next) laid | suc i ↦ λ h. absurd (omega arith) ] },
              record { has = own; below = omega arith; depth = omega arith },
            );
      }

  pub lays-sequence : {A : Type 0} {R : ℕ → A → Type 0} → ((n k : ℕ) (a : A) → n ≤ k → R n a → R k a) → (f : ℕ → Make A)
      (count p next : ℕ) → ((q n : ℕ) → q < p + count → next ≤ n → Lays S δ most (f q) n R) →
      Lays S δ most (sequence f count p) next (λ end made. Every (R end) made × (length made ≡ count))
  unfolding sequence
  lays-sequence stays f zero p next o = lays-return (none, refl)
  lays-sequence stays f (suc count) p next o =
      lays-bind (o p next (omega arith) (omega arith)) (λ mid a h s.
      lays-bind (lays-sequence stays f count (suc p) mid (λ q n h' h''. o q n (omega arith) (omega arith))) (λ end made h' (all, e).
      lays-return (more (stays mid end a h' s) all, ap suc e)))

-- A tree of elements of which L says how deep they are and below which line they lie, if each join is k deeper.
module _ {S : ℕ → Type 0} {δ : ℕ → ℕ} {most : ℕ} {A : Type 0} (L : ℕ → ℕ → A → Type 0)
    (stays : (e f n m : ℕ) (a : A) → e ≤ f → n ≤ m → L e n a → L f m a) (other : A) (join : A → A → Make A) (k : ℕ)
    (joins : (e next : ℕ) (x y : A) → L e next x → L e next y → e + k ≤ most →
    Lays S δ most (join x y) next (λ end z. L (e + k) end z)) where
  pub lays-tree : {e next : ℕ} (c : Cut) {xs : List A} → Every (L e next) xs → length xs ≡ size c → e + height c * k ≤ most →
      Lays S δ most (tree other join c xs) next (λ end x. L (e + height c * k) end x)
  unfolding tree
  lays-tree one none p fits = absurd (omega arith)
  lays-tree one (more s all) p fits = lays-return (stays _ _ _ _ _ (omega arith) (omega arith) s)
  lays-tree {e = e} {next = next} (two a b) {xs = xs} all p fits =
      let h = max (height a) (height b) in
      let ha : height a * k ≤ h * k = mul-le-mul_right k (omega arith) in
      let hb : height b * k ≤ h * k = mul-le-mul_right k (omega arith) in
      lays-bind (lays-tree a (every_take (size a) all) (omega (arith, length-take (size a) xs)) (omega arith)) (λ mid x l lx.
      lays-bind
      (lays-tree {next = mid} b (every_map (λ z. stays e e _ mid z (omega arith) l) (every_drop (size a) all))
      (omega (arith, length-drop (size a) xs)) (omega arith)) (λ end y l' ly.
      lays-weaken
      (joins (e + h * k) end x y (stays _ _ _ _ x (omega arith) l' lx) (stays _ _ _ _ y (omega arith) (omega arith) ly)
      (omega arith))
      (λ n z l'' lz. stays _ _ _ _ z (omega arith) (omega arith) lz)))
