-- Where numbers lead by a fixed contact: it has one value in a word, so there a number has the values of the one that it leads to.
use Prim.Native.Nat.{ℕ, suc, ◌+◌, ◌*◌, ◌-◌, ◌≤◌, ◌<◌}
use native.Mathlib.Omega.{arith}
use mathlib.Core.Path.{◌≡◌, sym, ap, ◌∙◌}
use mathlib.Core.Bool.{Bool, true, false}
use mathlib.Core.List.{List}
use Rattle.diagram.specs.Diagram.{input_of}
use Rattle.bits.proofs.Rails.{high_same}
use Rattle.canonical.specs.Inner.Blocks.{input_at}
use Rattle.drawing.specs.Drawing.{node_count, level_in, edge_in, lead}
use Rattle.truths.specs.Inner.Words.{Ready, From, Half, Forks}
use Rattle.truths.proofs.Words.{edge-from, edge-value}

pub from_start : {nodes : List ℕ} {v l : ℕ} → v < 2 + node_count nodes → l ≡ 0 → From nodes l v
from_start h e = record { number = h; level = λ i q. omega arith }

-- A node leads to its edges.
module _ (n : ℕ) (nodes : List ℕ) (ready : Ready n nodes) (v half : ℕ) (two : 2 ≤ v) (h : v < 2 + node_count nodes)
    (fixed : level_in nodes (v - 2) + 7 + half ≡ n) where
  abbrev i : ℕ
  i = v - 2

  listed : i < node_count nodes
  listed = omega arith

  own : level_in nodes i ≡ n - 7 - half
  own = omega (arith, fixed)

  half-edge : (b : Bool) → Half n nodes v (n - 7 - half) b (edge_in nodes i b)
  half-edge b =
      let place : n - 1 - (n - 7 - half) ≡ n - suc (level_in nodes i) = omega (arith, fixed) in
      let number : 2 + i ≡ v = omega arith in
      record {
        beyond = rw own at (edge-from n nodes ready i b listed);
        same = λ w e. record {
          values = λ k g. edge-value n nodes ready (input_at n (64 * w + k)) i b listed
              (sym e ∙ sym (high_same (64 * w) k (omega arith) g (n - 1 - (n - 7 - half)) (omega (arith, fixed))) ∙ ap (input_of (64 * w + k)) place)
              ∙ ap (lead nodes (input_at n (64 * w + k)) n) number;
        };
      }

  pub node-forks : Forks n nodes v half (edge_in nodes i false) (edge_in nodes i true)
  node-forks =
      record { node = two; fixed = omega (arith, fixed); level = own; to-zero = half-edge false; to-one = half-edge true }
