-- What lines show, and when a line that shows 1 is justified by its gate's sources.
use Prim.Native.Nat.{ℕ, ◌+◌, ◌*◌, ◌≤◌, ◌<◌, min, max}
use native.Mathlib.Decide.{ℕ_discrete}
use native.Mathlib.Omega.{arith}
use mathlib.Core.Path.{◌≡◌}
use mathlib.Core.Bool.{Bool, true, false, cond}
use mathlib.Core.Logic.{◌⊎◌, inl, inr}
use lib.Dec.{eqb}
use Rattle.diagram.specs.Diagram.{Input}
use Rattle.netlist.specs.declared.Gate.{Gate}
use Rattle.simulation.specs.Run.{gate_of}
use Rattle.rules.specs.declared.Entry.{Entry}
use Rattle.rules.specs.declared.Entry.TheVariants.{Never, Always, Line}

-- Whether a gate's sources make it show 1: both for an AND, one of them for an OR.
abbrev pub Driven : (ℕ → ℕ) → Gate → Type 0
Driven ν g =
    cond (eqb g.kind 0) ((ν g.left ≡ 1) × (ν g.right ≡ 1)) ((ν g.left ≡ 1) ⊎ (ν g.right ≡ 1))

-- If line x shows 1, its gate's sources justify it.
abbrev pub Down : (ℕ → ℕ) → ℕ → Gate → Type 0
Down ν x g = ν x ≡ 1 → Driven ν g

-- If the sources would make line x show 1, it does.
abbrev pub Up : (ℕ → ℕ) → ℕ → Gate → Type 0
Up ν x g = Driven ν g → ν x ≡ 1

-- What an entry shows.
abbrev pub shows : (ℕ → ℕ) → Entry → ℕ
shows ν Never = 0
shows ν Always = 1
shows ν (Line x) = ν x

-- A rail of n contacts shows 1 only where the input's code does.
pub record RailsDown (n : ℕ) (x : Input) (ν : ℕ → ℕ) : Type 0 where
  pub on : (i : ℕ) → i < n → ν (2 + 2 * i) ≡ 1 → x i ≡ true
  pub off : (i : ℕ) → i < n → ν (3 + 2 * i) ≡ 1 → x i ≡ false

-- A rail of n contacts shows 1 wherever the input's code does.
pub record RailsUp (n : ℕ) (x : Input) (ν : ℕ → ℕ) : Type 0 where
  pub on : (i : ℕ) → i < n → x i ≡ true → ν (2 + 2 * i) ≡ 1
  pub off : (i : ℕ) → i < n → x i ≡ false → ν (3 + 2 * i) ≡ 1

-- What is at most an AND or OR of two bits is 1 only if they make it so, and what is at least that is 1 if they do.
one-made : (b : Bool) (v l r : ℕ) → l ≤ 1 → r ≤ 1 → v ≤ cond b (min l r) (max l r) → v ≡ 1 →
    cond b ((l ≡ 1) × (r ≡ 1)) ((l ≡ 1) ⊎ (r ≡ 1))
one-made true v l r hl hr m e = (omega arith, omega arith)
one-made false v l r hl hr m e = go (ℕ_discrete l 1)
  where
    go : Dec (l ≡ 1) → (l ≡ 1) ⊎ (r ≡ 1)
    go (yes p) = inl p
    go (no p) = inr (omega arith)

made_one : (b : Bool) (v l r : ℕ) → v ≤ 1 → cond b (min l r) (max l r) ≤ v →
    cond b ((l ≡ 1) × (r ≡ 1)) ((l ≡ 1) ⊎ (r ≡ 1)) → v ≡ 1
made_one true v l r h m e = omega arith
made_one false v l r h m (inl e) = omega arith
made_one false v l r h m (inr e) = omega arith

module _ (ν : ℕ → ℕ) (x : ℕ) (g : Gate) where
  -- A line that shows at most what its gate makes of two bits is justified.
  pub made-down : ν g.left ≤ 1 → ν g.right ≤ 1 → ν x ≤ gate_of g.kind (ν g.left) (ν g.right) → Down ν x g
  made-down = one-made (eqb g.kind 0) (ν x) (ν g.left) (ν g.right)

  -- A line that shows at least that shows 1 where its sources would make it.
  pub made_up : ν x ≤ 1 → gate_of g.kind (ν g.left) (ν g.right) ≤ ν x → Up ν x g
  made_up = made_one (eqb g.kind 0) (ν x) (ν g.left) (ν g.right)
