-- Valuations of a netlist's lines: what each line shows of what drives it.
use Prim.Native.Nat.{ℕ, zero, suc, ◌+◌, ◌*◌, ◌-◌, ◌≤◌, ◌<◌}
use native.Mathlib.Decide.{dec_lt}
use native.Mathlib.Omega.{arith}
use mathlib.Core.Path.{◌≡◌, refl, ap}
use mathlib.Core.Bool.{Bool, true, false, not}
use mathlib.Core.List.{List}
use mathlib.Core.Logic.{by_cases}
use borrow.Author.Tests.{not-true}
use lib.ListN.{get_or}
use Rattle.diagram.specs.Diagram.{bit, Input}
use Rattle.netlist.specs.declared.Gate.{Gate}
use Rattle.netlist.specs.Netlist.{Netlist, gate_line, line_count}
use Rattle.simulation.specs.Run.{gate_of}
use Rattle.rules.specs.Code.{code_rails}
use Rattle.rules.proofs.Makes.{Each, each_weaken}
use Rattle.rules.proofs.Codes.{code-on, code_off}
use Rattle.rules.proofs.Valuations.{Down, Up, RailsDown, RailsUp, made-down, made_up}

-- Every gate of a netlist has P at its line.
abbrev pub Gates : (ℕ → Gate → Type 0) → Netlist → Type 0
Gates P net = Each P (gate_line net.contacts) net.gates

-- The constants, bits, and at each line past the constants S of what its driver makes.
pub record Follows (net : Netlist) (rails : List ℕ) (ν : ℕ → ℕ) (S : ℕ → ℕ → Type 0) : Type 0 where
  pub low : ν 0 ≡ 0
  pub high : ν 1 ≡ 1
  pub bits : (y : ℕ) → ν y ≤ 1
  pub rail : (i : ℕ) → i < 2 * net.contacts → S (2 + i) (get_or rails i 0)
  pub gates : Gates (λ y g. S y (gate_of g.kind (ν g.left) (ν g.right))) net

-- The rails of a code input.
abbrev pub code_of : Netlist → Input → List ℕ
code_of net x = code_rails net.contacts x

-- At a code input with nothing held.
abbrev pub Model : Netlist → Input → (ℕ → ℕ) → Type 0
Model net x ν = Follows net (code_of net x) ν (λ y made. ν y ≡ made)

-- What a line shows where it and its gate's pins may be held at b: with 0 at most what its driver makes of its sources' values, with 1
-- at least that.
abbrev pub Leans : ℕ → ℕ → ℕ → Type 0
Leans zero made v = v ≤ made
Leans (suc b) made v = made ≤ v

-- At a code input with some lines and pins held at b.
abbrev pub OneSided : Netlist → Input → ℕ → (ℕ → ℕ) → Type 0
OneSided net x b ν = Follows net (code_of net x) ν (λ y made. Leans b made (ν y))

leans-same : (b made v : ℕ) → v ≡ made → Leans b made v
leans-same zero made v e = omega arith
leans-same (suc b) made v e = omega arith

bit_high : (t : Bool) → 1 ≤ bit t → t ≡ true
bit_high true h = refl
bit_high false h = absurd (omega arith)

module _ {net : Netlist} {rails : List ℕ} {ν : ℕ → ℕ} {S : ℕ → ℕ → Type 0} where
  pub follows-weaken : {R : ℕ → ℕ → Type 0} → ((y made : ℕ) → S y made → R y made) → Follows net rails ν S → Follows net rails ν R
  follows-weaken k f =
      record {
        low = f.low;
        high = f.high;
        bits = f.bits;
        rail = λ i h. k _ _ (f.rail i h);
        gates = each_weaken (λ y g. k _ _) f.gates;
      }

  -- Each line past the constants has S of something.
  pub follows-line : Follows net rails ν S → (y : ℕ) → 2 ≤ y → y < line_count net → (made : ℕ) × S y made
  follows-line f y low high = by_cases (dec_lt y (gate_line net.contacts)) rail gate
    where
      rail : y < gate_line net.contacts → (made : ℕ) × S y made
      rail l = let place : 2 + (y - 2) ≡ y = omega arith in (_, rw place at (f.rail (y - 2) (omega arith)))

      gate : (y < gate_line net.contacts → ⊥) → (made : ℕ) × S y made
      gate n =
          let place : gate_line net.contacts + (y - gate_line net.contacts) ≡ y = omega arith in
          (_, rw place at (f.gates.has (y - gate_line net.contacts) (omega arith)))

module _ {net : Netlist} (x : Input) {ν : ℕ → ℕ} where
  pub one_way : (b : ℕ) → Model net x ν → OneSided net x b ν
  one_way b = follows-weaken (λ y made. leans-same b made (ν y))

  module _ {S : ℕ → ℕ → Type 0} (f : Follows net (code_of net x) ν S) (i : ℕ) (h : i < net.contacts) where
    on : S (2 + 2 * i) (bit (x i))
    on = rw (code-on x net.contacts i h) at (f.rail (2 * i) (omega arith))

    off : S (3 + 2 * i) (bit (not (x i)))
    off =
        let line : 2 + (2 * i + 1) ≡ 3 + 2 * i = omega arith in
        rw (line, code_off x net.contacts i h) at (f.rail (2 * i + 1) (omega arith))

  -- With lines held at 0 every line that shows 1 is justified.
  module _ (s : OneSided net x 0 ν) where
    pub gates-down : Gates (Down ν) net
    gates-down =
        each_weaken (λ y g. made-down ν y g (s.bits g.left) (s.bits g.right)) s.gates

    pub rails-down : RailsDown net.contacts x ν
    rails-down =
        record {
          on = λ i h e. bit_high (x i) (omega (arith, on s i h));
          off = λ i h e. not-true (x i) (bit_high (not (x i)) (omega (arith, off s i h)));
        }

  -- With lines held at 1 every line shows 1 that its sources would make show 1.
  module _ (s : OneSided net x 1 ν) where
    pub gates-up : Gates (Up ν) net
    gates-up =
        each_weaken (λ y g. made_up ν y g (s.bits y)) s.gates

    pub rails-up : RailsUp net.contacts x ν
    rails-up =
        record {
          on = λ i h e. omega (arith, on s i h, ap bit e, s.bits (2 + 2 * i));
          off = λ i h e. omega (arith, off s i h, ap (λ (t : Bool). bit (not t)) e, s.bits (3 + 2 * i));
        }
