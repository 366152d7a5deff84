-- The gates and entries of a block: their sources lie below them, and each round of the cut makes them 1 + b deeper, where no
-- level has more than 2 ^ b nodes.
use Prim.Native.Nat.{ℕ, suc, ◌+◌, ◌*◌, ◌^◌, ◌≤◌, ◌<◌, max}
use native.Mathlib.Nat.{mul-le-mul_right}
use native.Mathlib.Omega.{arith}
use mathlib.Core.Path.{◌≡◌}
use mathlib.Core.List.{List}
use lib.ListN.{length}
use Rattle.diagram.specs.declared.Diagram.{Diagram}
use Rattle.diagram.specs.Diagram.{width}
use Rattle.diagram.proofs.Paths.{Branches}
use Rattle.netlist.specs.Netlist.{gate_line}
use Rattle.rules.specs.declared.Entry.{Entry}
use Rattle.rules.specs.Make.{Make, return, gate, sequence}
use Rattle.rules.specs.Blocks.{Cut, one, two, size, cut, Matrix, entry_at, level_entry, term, or_tree, joined, product_entry, product, level_matrix, block}
use Rattle.rules.proofs.Cuts.{size-cut}
use Rattle.rules.proofs.Heights.{height, height-cut}
use Rattle.rules.proofs.Every.{Every, none, more, every_map, every-at}
use Rattle.rules.proofs.Entries.{OfLine, never, always, line, of_map, of-lines, lines-few, entry-either, node-entry}
use Rattle.rules.proofs.Lays.{Lies, Lays, lays-return, lays-bind, lays-weaken, lays-gate, lays-sequence, lays-tree}

-- A matrix whose lines have S, lie below line next and have at most depth e.
abbrev pub MatrixLies : (ℕ → Type 0) → (ℕ → ℕ) → ℕ → ℕ → Matrix → Type 0
MatrixLies S δ e next m = Every (Every (OfLine (Lies S δ e next))) m

-- What holds for a line and a depth, holds for later lines and greater depths.
module _ {S : ℕ → Type 0} {δ : ℕ → ℕ} {e f n k : ℕ} (deeper : e ≤ f) (later : n ≤ k) where
  pub lies-on : {x : ℕ} → Lies S δ e n x → Lies S δ f k x
  lies-on l = record { has = l.has; below = omega arith; depth = omega arith }

  entry-on : {t : Entry} → OfLine (Lies S δ e n) t → OfLine (Lies S δ f k) t
  entry-on o = of_map (λ x l. lies-on l) o

  row_on : {ts : List Entry} → Every (OfLine (Lies S δ e n)) ts → Every (OfLine (Lies S δ f k)) ts
  row_on all = every_map (λ t o. entry-on o) all

  pub table_on : {m : Matrix} → MatrixLies S δ e n m → MatrixLies S δ f k m
  table_on all = every_map (λ ts r. row_on r) all

pub table_at : {S : ℕ → Type 0} {δ : ℕ → ℕ} {e next : ℕ} {m : Matrix} → MatrixLies S δ e next m → (u v : ℕ) →
    OfLine (Lies S δ e next) (entry_at m u v)
table_at all u v = every-at (every-at all none u) never v

module _ {S : ℕ → Type 0} {δ : ℕ → ℕ} {most : ℕ} where
  term-lays : {e next : ℕ} {x y : Entry} → OfLine (Lies S δ e next) x → OfLine (Lies S δ e next) y → suc e ≤ most →
      Lays S δ most (term x y) next (λ end t. OfLine (Lies S δ (suc e) end) t)
  unfolding term
  term-lays never y fits = lays-return never
  term-lays always y fits = lays-return (entry-on (omega arith) (omega arith) y)
  term-lays (line a) never fits = lays-return never
  term-lays (line a) always fits = lays-return (line (lies-on (omega arith) (omega arith) a))
  term-lays (line a) (line b) fits = lays-bind (lays-gate (omega arith) a b fits) (λ mid x h l. lays-return (line l))

  or-lays : {e next : ℕ} (c : Cut) {ls : List ℕ} → Every (Lies S δ e next) ls → length ls ≡ size c → e + height c ≤ most →
      Lays S δ most (or_tree c ls) next (λ end x. Lies S δ (e + height c) end x)
  or-lays c all p fits =
      lays-weaken
      (lays-tree (Lies S δ) (λ e f n k x deeper later l. lies-on deeper later l) 0 (gate 1) 1 (λ e next x y lx ly h.
      lays-weaken (lays-gate (omega arith) lx ly (omega arith)) (λ end z h' l. lies-on (omega arith) (omega arith) l))
      c all p (omega arith))
      (λ end x h l. lies-on (omega arith) (omega arith) l)

  joined-lays : {e next : ℕ} (b : ℕ) {ls : List ℕ} → Every (Lies S δ e next) ls → length ls ≤ 2 ^ b → e + b ≤ most →
      Lays S δ most (joined ls) next (λ end t. OfLine (Lies S δ (e + b) end) t)
  unfolding joined
  joined-lays b none few fits = lays-return never
  joined-lays b (more {xs = ls} s all) few fits =
      let count = suc (length ls) in
      let whole = size-cut count (omega arith) in
      let low = height-cut count b few in
      lays-bind (or-lays (cut count) (more s all) (omega arith) (omega arith)) (λ mid y h l.
      lays-return (line (lies-on (omega arith) (omega arith) l)))

  entry-lays : {e next : ℕ} (b middle : ℕ) (left right : Matrix) → MatrixLies S δ e next left → MatrixLies S δ e next right →
      middle ≤ 2 ^ b → suc e + b ≤ most → (u v : ℕ) →
      Lays S δ most (product_entry middle left right u v) next (λ end t. OfLine (Lies S δ (suc e + b) end) t)
  entry-lays {e} {next} b middle left right tl tr few fits u v =
      entry-either (λ m. Lays S δ most m next (λ end t. OfLine (Lies S δ (suc e + b) end) t)) middle left right u v
      (lays-return always)
      (lays-bind
      (lays-sequence (λ n k t h o. entry-on (omega arith) h o) _ middle 0 next (λ w n _ h.
      term-lays (entry-on (omega arith) h (table_at tl u w)) (entry-on (omega arith) h (table_at tr w v)) (omega arith)))
      (λ mid ts h (all, p). joined-lays b (of-lines all) (omega (arith, lines-few ts)) fits))

  -- A matrix by rows.
  table-lays : (e next : ℕ) (f : ℕ → ℕ → Make Entry) (rows columns : ℕ) →
      ((u v n : ℕ) → u < rows → next ≤ n → Lays S δ most (f u v) n (λ end t. OfLine (Lies S δ e end) t)) →
      Lays S δ most (sequence (λ u. sequence (f u) columns 0) rows 0) next (λ end m. MatrixLies S δ e end m)
  table-lays e next f rows columns o =
      lays-weaken
      (lays-sequence (λ n k r h all. row_on (omega arith) h all) _ rows 0 next (λ u n hu h.
      lays-weaken
      (lays-sequence (λ n k t h' l. entry-on (omega arith) h' l) (f u) columns 0 n (λ v n' _ h'. o u v n' (omega arith) (omega arith)))
      (λ end r h' (all, p). all)))
      (λ end m h (all, p). all)

  product-lays : {e next : ℕ} (b rows middle columns : ℕ) (left right : Matrix) → MatrixLies S δ e next left →
      MatrixLies S δ e next right → middle ≤ 2 ^ b → suc e + b ≤ most →
      Lays S δ most (product rows middle columns left right) next (λ end m. MatrixLies S δ (suc e + b) end m)
  unfolding product
  product-lays {e} {next} b rows middle columns left right tl tr few fits =
      table-lays (suc e + b) next (product_entry middle left right) rows columns (λ u v n _ h.
      entry-lays b middle left right (table_on (omega arith) h tl) (table_on (omega arith) h tr) few fits u v)

-- Where rails have no depth, those of a level that has a node with different edges have S, and no level has more than 2 ^ b nodes.
module _ {S : ℕ → Type 0} {δ : ℕ → ℕ} (d : Diagram) (flat : (x : ℕ) → x < gate_line d.contacts → δ x ≡ 0)
    (rails : (l : ℕ) → l < d.contacts → Branches d l → S (2 + 2 * l) × S (3 + 2 * l)) where
  level-lies : (next l u v : ℕ) → l < d.contacts → u < width d l → gate_line d.contacts ≤ next →
      OfLine (Lies S δ 0 next) (level_entry d l u v)
  level-lies next l u v h hu high =
      node-entry _ _ l v (λ ne.
      let (on, off) = rails l h (u, hu, ne) in
      let lies : (x : ℕ) → S x → x < gate_line d.contacts → Lies S δ 0 next x = λ x s below.
      record { has = s; below = omega arith; depth = omega (arith, flat x below) } in
      (lies _ on (omega arith), lies _ off (omega arith)))

  module _ (most b : ℕ) (narrow : (l : ℕ) → l ≤ d.contacts → width d l ≤ 2 ^ b) where
    pub block-lays : (c : Cut) (l next : ℕ) → l + size c ≤ d.contacts → gate_line d.contacts ≤ next →
        height c * suc b ≤ most → Lays S δ most (block d c l) next (λ end m. MatrixLies S δ (height c * suc b) end m)
    unfolding block level_matrix
    block-lays one l next h high fits =
        lays-weaken
        (table-lays 0 next (λ u v. return (level_entry d l u v)) (width d l) (width d (suc l)) (λ u v n hu h'.
        lays-return (level-lies n l u v (omega arith) hu (omega arith))))
        (λ end m h' t. table_on (omega arith) (omega arith) t)
    block-lays (two a c) l next h high fits =
        let e = max (height a) (height c) * suc b in
        let ea : height a * suc b ≤ e = mul-le-mul_right (suc b) (omega arith) in
        let ec : height c * suc b ≤ e = mul-le-mul_right (suc b) (omega arith) in
        lays-bind (block-lays a l next (omega arith) high (omega arith)) (λ mid left h' tl.
        lays-bind (block-lays c (l + size a) mid (omega arith) (omega arith) (omega arith)) (λ end right h'' tr.
        lays-weaken
        (product-lays {e = e} b (width d l) (width d (l + size a)) (width d (l + size a + size c)) left right
        (table_on ea h'' tl) (table_on ec (omega arith) tr) (narrow (l + size a) (omega arith)) (omega arith))
        (λ n m h3 t. table_on (omega arith) (omega arith) t)))
